-- Lines at the front of a text, and what is known once they were read.
use Rattle.std.specs.Prelude.{◌≡◌, ℕ, ◌+◌, ◌<◌, ◌≤◌, List, [], ◌∷◌, ◌++◌, length, false}
use Rattle.std.specs.List.{flat_map}
use Rattle.std.specs.Fmt.{decimal}
use Rattle.m5_terms.specs.Decimal.{is_digit}
use Rattle.m5_machine.specs.declared.step.Step.{Step}
use Rattle.m5_machine.specs.Body.{fills, depth}
use Rattle.m5_machine.specs.Labelled.{Labelled}
use Rattle.m5_machine.specs.code.Flattened.{IsLaid, AllFit, Rising, EachStep, EachBlock}
use Rattle.m5_js.specs.declared.input.LineEnd.{LineEnd}
use Rattle.m5_js.specs.declared.input.LineEnd.TheVariants.{Bad, Memory}
use Rattle.m5_js.specs.Spelling.{line_text}
use Rattle.m5_js.specs.Page.{IsPageStep}

abbrev pub NoLabel : LineEnd → List ℕ → Type 0
NoLabel Bad bytes = (n x : ℕ) (r : List ℕ) → n < 65536 → is_digit x ≡ false → bytes ≡ decimal n ++ x ∷ r → ⊥
NoLabel Memory bytes = Unit {0}

-- a line whose label is one from here on
pub record LineHere (from : ℕ) (bytes : List ℕ) : Type 0 where
  pub block : Labelled
  pub rest : List ℕ
  pub is : bytes ≡ line_text block ++ rest
  pub low : from ≤ block.label
  pub high : block.label < 65536
  pub room : fills block.body ≤ 65534
  pub deep : depth block.body ≤ 1000
  pub good : EachStep IsPageStep block.body

abbrev pub NoLine : LineEnd → ℕ → List ℕ → Type 0
NoLine Bad from bytes = LineHere from bytes → ⊥
NoLine Memory from bytes = Unit {0}

-- a line was read, and its block laid out behind the others
pub record LineRead (old starts : List ℕ) (ss : List Step) (new after : List ℕ) (more : List Step) : Type 0 where
  pub block : Labelled
  pub is : old ≡ line_text block ++ new
  pub high : block.label < 65536
  pub room : fills block.body ≤ 65534
  pub deep : depth block.body ≤ 1000
  pub good : EachStep IsPageStep block.body
  pub next : length after ≡ block.label + 1
  pub laid : (bs : List Labelled) → IsLaid starts ss bs → length ss < 4294967295 → IsLaid after more (bs ++ block ∷ [])

-- so many lines were read, and laid out
pub record LinesRead (old new starts : List ℕ) (ss : List Step) (count : ℕ) : Type 0 where
  pub blocks : List Labelled
  pub is : old ≡ flat_map line_text blocks ++ new
  pub good : EachBlock IsPageStep blocks
  pub fit : AllFit blocks
  pub laid : IsLaid starts ss blocks
  pub labels : length starts ≤ 65536
  pub count_is : length blocks ≡ count
  pub above : (b : Labelled) → Rising 0 (blocks ++ b ∷ []) → length starts ≤ b.label
