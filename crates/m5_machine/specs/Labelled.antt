-- The blocks of a code by label: what a code means, however its steps are laid out.
use Rattle.std.specs.Prelude.{ℕ, ◌+◌, List, [], ◌∷◌, ◌==◌, if◌then◌else◌}
use Rattle.m5_machine.specs.Body.{Body}
use Rattle.m5_machine.specs.Blocks.{Flat, body_at}

pub record Labelled : Type 0 where
  pub label : ℕ
  pub body : Body

-- the blocks of the labels from one on, in rising order; 2 ^ 32 - 1 stands for none
abbrev pub blocks_from : Flat → ℕ → List ℕ → List Labelled
blocks_from code label [] = []
blocks_from code label (start ∷ starts) =
    if start == 4294967295 then blocks_from code (label + 1) starts
    else record { label = label; body = body_at code start } ∷ blocks_from code (label + 1) starts

abbrev pub blocks_of : Flat → List Labelled
blocks_of code = blocks_from code 0 code.starts
