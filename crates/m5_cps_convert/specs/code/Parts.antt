-- What emitting the body of a get, and an arm of a choice, makes sure of.
use Rattle.std.specs.Prelude.{◌≡◌, ℕ, List, Option, Some, None}
use Rattle.m5_terms.specs.Expression.{Expression, binary}
use Rattle.m5_terms.specs.declared.form.BinaryForm.TheVariants.{Get}
use Rattle.m5_terms.specs.TypeExpression.{TypeExpression}
use Rattle.m5_terms.specs.Table.{entries, entered}
use Rattle.m5_terms.specs.declared.types.World.{World}
use Rattle.m5_terms.specs.declared.table.Binding.{Binding}
use Rattle.m5_typing.specs.Context.{Setting}
use Rattle.m5_cps.specs.Entries.{world_of}
use Rattle.m5_cps.specs.TypeOf.{type_of}
use Rattle.m5_cps_convert.specs.Scopes.{Scope}
use Rattle.m5_cps_convert.specs.Continuations.{arm_code}
use Rattle.m5_cps_convert.specs.Forms.{variable_of, get_code}
use Rattle.m5_cps_convert.specs.Convert.{away_to, get_apart, get_parts, cps, type_in}
use Rattle.m5_cps_convert.specs.declared.walk.Walk.{Walk}
use Rattle.m5_cps_convert.specs.declared.walk.Known.{Known}
use Rattle.m5_cps_convert.specs.declared.walk.Around.{Around}
use Rattle.m5_cps_convert.specs.declared.walk.Value.{Value}
use Rattle.m5_cps_convert.specs.code.Types.{IsAt}
use Rattle.m5_cps_convert.specs.code.Writing.{Grows, Finishes}
use Rattle.m5_cps_convert.specs.code.Knowing.{Knows}

-- the body of a get at a world whose address is in a slot, for the continuation in slot k
pub record EmitsBody (old new : Walk) (at : Around) (world : World) (address : Value) (k : ℕ) (e : Expression) (ty : ℕ) : Type 0 where
  pub grows : Grows old new
  pub typed : (E : Setting) (Γ : Scope) → Knows old.types (entries old.names) old.functions.items at E Γ → IsAt new.types ty (type_of E e Γ.bounds world)
  pub code : (E : Setting) (Γ : Scope) → Knows old.types (entries old.names) old.functions.items at E Γ
      → Finishes old new (get_code (type_of E e Γ.bounds world) world address.slot (variable_of e) (cps E e) Γ k address.filled)

-- the parts of a get, for the continuation in slot k, of which the address is evaluated
pub record EmitsApart (old new : Walk) (at : Around) (n k : ℕ) (a b : Expression) (ty : ℕ) : Type 0 where
  pub grows : Grows old new
  pub typed : (E : Setting) (Γ : Scope) → Knows old.types (entries old.names) old.functions.items at E Γ → IsAt new.types ty (type_in E (binary Get a b) Γ)
  pub code : (E : Setting) (Γ : Scope) → Knows old.types (entries old.names) old.functions.items at E Γ
      → Finishes old new (get_apart (type_in E (binary Get a b) Γ) (type_in E a Γ) (variable_of b) (cps E a) (cps E b) Γ k n)

-- or whose block may go away
pub record EmitsParts (old new : Walk) (at : Around) (n k : ℕ) (a b : Expression) (ty : ℕ) : Type 0 where
  pub grows : Grows old new
  pub typed : (E : Setting) (Γ : Scope) → Knows old.types (entries old.names) old.functions.items at E Γ → IsAt new.types ty (type_in E (binary Get a b) Γ)
  pub code : (E : Setting) (Γ : Scope) → Knows old.types (entries old.names) old.functions.items at E Γ
      → Finishes old new (get_parts (away_to (world_of Γ.mode) a b) (type_in E (binary Get a b) Γ) (type_in E a Γ) (variable_of b) (cps E a) (cps E b) Γ k n)

-- T is the choice's type, which is known, or that of its second part B
abbrev pub IsWhole : List TypeExpression → Option ℕ → TypeExpression → TypeExpression → Type 0
IsWhole types None T B = T ≡ B
IsWhole types (Some n) T B = IsAt types n T

-- the number of the choice's type: that of the arm's own where the choice's is not known
abbrev pub or_own : Option ℕ → ℕ → ℕ
or_own None n = n
or_own (Some t) n = t

pub record EmitsArm (b : Binding Known) (old new : Walk) (at : Around) (n k : ℕ) (whole : Option ℕ) (e : Expression) (ty : ℕ) : Type 0 where
  pub grows : Grows old new
  pub typed : (E : Setting) (Γ : Scope) → Knows old.types (entered b (entries old.names)) old.functions.items at E Γ → IsAt new.types ty (type_in E e Γ)
  pub code : (E : Setting) (Γ : Scope) (T : TypeExpression) → Knows old.types (entered b (entries old.names)) old.functions.items at E Γ
      → IsWhole old.types whole T (type_in E e Γ) → Finishes old new (arm_code T (cps E e) Γ n k)
