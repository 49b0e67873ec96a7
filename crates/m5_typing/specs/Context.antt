-- What is known of variables, of declared functions and of cells.
use Rattle.std.specs.Prelude.{◌⊎◌, ◌≡◌, ◌≢◌, ℕ, zero, suc, ◌==◌, Option, Some, None, if◌then◌else◌, List, [], ◌∷◌}
use Rattle.m5_terms.specs.declared.types.World.{World}
use Rattle.m5_terms.specs.declared.types.World.TheVariants.{Any}
use Rattle.m5_terms.specs.TypeExpression.{TypeExpression}

-- a local name has a world, a valid one is used at each
pub data Bound : Type 0 where
  local : World → TypeExpression → Bound
  valid : TypeExpression → Bound

-- what variables are bound to; a number without a bound is not known
abbrev pub Context : Type 0
Context = ℕ → Option Bound

abbrev pub nothing : Context
nothing = λ x. None

abbrev pub with : ℕ → Option Bound → Context → Context
with x b G = λ y. if y == x then b else G y

-- the binders of a form with their bounds, an earlier one hiding a later one of its number
abbrev pub with_all : List ℕ → List Bound → Context → Context
with_all [] bounds G = G
with_all (x ∷ xs) [] G = with x None (with_all xs [] G)
with_all (x ∷ xs) (b ∷ bounds) G = with x (Some b) (with_all xs bounds G)

abbrev pub if_valid : Option Bound → Option Bound
if_valid (Some (valid A)) = Some (valid A)
if_valid _ = None

-- the context without its local variables
abbrev pub valid_part : Context → Context
valid_part G = λ y. if_valid (G y)

-- the types of the cells of a session's sites, by their places
abbrev pub CellTypes : Type 0
CellTypes = World → List TypeExpression

abbrev pub type_at : List TypeExpression → ℕ → Option TypeExpression
type_at [] n = None
type_at (A ∷ rest) zero = Some A
type_at (A ∷ rest) (suc n) = type_at rest n

-- where a term stands: the declared functions by their numbers, and the cells
pub record Setting : Type 0 where
  pub functions : ℕ → Option Bound
  pub cells : CellTypes

-- a declared function is used at its own world, or anywhere where it is valid
abbrev pub IsKnownAt : Option Bound → World → TypeExpression → Type 0
IsKnownAt bound w A = ((w ≢ Any) × (bound ≡ Some (local w A))) ⊎ (bound ≡ Some (valid A))
