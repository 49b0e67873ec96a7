-- What is known where a node's code is written: the variables with their bounds and slots, the mode, and the arms around it.
use Rattle.std.specs.Prelude.{ℕ, suc, Option, Some, None}
use Rattle.m5_terms.specs.TypeExpression.{TypeExpression, function}
use Rattle.m5_typing.specs.Context.{Bound, local, Context, nothing, with, valid_part}
use Rattle.m5_cps.specs.Entries.{Mode, only, everywhere, world_of}
use Rattle.m5_cps.specs.Values.{put}

-- the variables' slots; one without a slot stands for unit, and a closed program has none
abbrev pub VariableSlots : Type 0
VariableSlots = ℕ → Option ℕ

pub record Scope : Type 0 where
  pub bounds : Context
  pub slots : VariableSlots
  -- where the node's value is made: at one world, or for each
  pub mode : Mode
  -- how many arms of choices are open around the node, of those whose tests stand in its block
  pub arms : ℕ

-- before anything is bound, at this mode
abbrev pub empty_scope : Mode → Scope
empty_scope m = record { bounds = nothing; slots = λ x. None; mode = m; arms = 0 }

-- with one variable more, in that slot
abbrev pub bind : ℕ → Bound → ℕ → Scope → Scope
bind x b l Γ = record { bounds = with x (Some b) Γ.bounds; slots = put x (Some l) Γ.slots; mode = Γ.mode; arms = Γ.arms }

-- in a block of its own, which stands at that mode
abbrev pub in_block : Mode → Scope → Scope
in_block m Γ = record { bounds = Γ.bounds; slots = Γ.slots; mode = m; arms = 0 }

-- in an arm of a choice of the same block
abbrev pub in_arm : Scope → Scope
in_arm Γ = record { bounds = Γ.bounds; slots = Γ.slots; mode = Γ.mode; arms = suc Γ.arms }

-- under `sham`, where local variables are of no use and the value is made for each world
abbrev pub in_sham : Scope → Scope
in_sham Γ = record { bounds = valid_part Γ.bounds; slots = Γ.slots; mode = everywhere; arms = Γ.arms }

-- in the body of a function, which is called at the world where it is made: n is the slot of the function, then comes its parameter
abbrev pub fn_scope : ℕ → TypeExpression → ℕ → Scope → Scope
fn_scope x A n Γ = bind x (local (world_of Γ.mode) A) (suc n) (in_block (only (world_of Γ.mode)) Γ)

-- the parameter hides the function of its name
abbrev pub rec_scope : ℕ → ℕ → TypeExpression → TypeExpression → ℕ → Scope → Scope
rec_scope f x A B n Γ =
    bind x (local (world_of Γ.mode) A) (suc n) (bind f (local (world_of Γ.mode) (function A B)) n (in_block (only (world_of Γ.mode)) Γ))
