-- What the walk knows of a scope: its variables by their numbers, and the types of the declared functions.
use Rattle.std.specs.Prelude.{◌≡◌, ◌<◌, ◌≤◌, ℕ, List, Option, Some, None, slice_get}
use Rattle.m5_terms.specs.TypeExpression.{TypeExpression, unit}
use Rattle.m5_terms.specs.declared.types.World.{World}
use Rattle.m5_typing.specs.Context.{Bound, local, valid, Setting}
use Rattle.m5_cps.specs.TypeParts.{bound_type}
use Rattle.m5_cps.specs.Steps.{mode_of}
use Rattle.m5_cps_convert.specs.Scopes.{Scope}
use Rattle.m5_cps_convert.specs.declared.walk.Kind.{Kind}
use Rattle.m5_cps_convert.specs.declared.walk.Kind.TheVariants.{Local, Valid}
use Rattle.m5_cps_convert.specs.declared.walk.Known.{Known}
use Rattle.m5_cps_convert.specs.declared.walk.Around.{Around}
use Rattle.m5_cps_convert.specs.declared.names.Seen.{Seen}
use Rattle.m5_cps_convert.specs.code.Types.{IsAt}

-- a local variable has its bound under as many `sham`s as its binder, and none under more
pub record IsLocal (types : List TypeExpression) (depth own ty : ℕ) (b : Option Bound) : Type 0 where
  pub type_is : TypeExpression
  pub at : IsAt types ty type_is
  pub shallow : own ≤ depth
  pub seen : own ≡ depth → (w : World) × (b ≡ Some (local w type_is))
  pub hidden : own < depth → b ≡ None

pub record IsValid (types : List TypeExpression) (ty : ℕ) (b : Option Bound) : Type 0 where
  pub type_is : TypeExpression
  pub at : IsAt types ty type_is
  pub is : b ≡ Some (valid type_is)

abbrev pub HasBound : List TypeExpression → ℕ → Kind → ℕ → ℕ → Option Bound → Type 0
HasBound types depth Local own ty b = IsLocal types depth own ty b
HasBound types depth Valid own ty b = IsValid types ty b

-- the entry of a variable, its bound, and its slot
abbrev pub IsKnown : List TypeExpression → ℕ → Option Known → Option Bound → Option ℕ → Type 0
IsKnown types depth None b o = (b ≡ None) × (o ≡ None)
IsKnown types depth (Some k) b o = HasBound types depth k.kind k.depth k.ty b × (o ≡ Some k.slot)

-- a declared function's type, and unit where there is none
abbrev pub IsDeclared : List TypeExpression → Option ℕ → Option Bound → Type 0
IsDeclared types None b = bound_type b ≡ unit
IsDeclared types (Some n) b = IsAt types n (bound_type b)

pub record Knows (types : List TypeExpression) (entry : ℕ → Option Known) (functions : List ℕ) (at : Around) (E : Setting) (Γ : Scope) : Type 0 where
  pub names : (x : ℕ) → IsKnown types at.depth (entry x) (Γ.bounds x) (Γ.slots x)
  pub mode : Γ.mode ≡ mode_of at.mode
  pub arms : Γ.arms ≡ at.arms
  pub declared : (f : ℕ) → IsDeclared types (slice_get functions f) (E.functions f)

-- what is seen of a variable: its slot, and the type of its bound
pub record IsSeen (types : List TypeExpression) (depth : ℕ) (entry : Option Known) (s : Seen) : Type 0 where
  pub slot : (b : Option Bound) (o : Option ℕ) → IsKnown types depth entry b o → o ≡ s.slot
  pub ty : (b : Option Bound) (o : Option ℕ) → IsKnown types depth entry b o → IsAt types s.ty (bound_type b)

abbrev pub IsDeclaredNumber : List TypeExpression → Option ℕ → ℕ → Type 0
IsDeclaredNumber types None m = IsAt types m unit
IsDeclaredNumber types (Some n) m = m ≡ n
