-- What the helpers of forms of two parts make sure of.
use Rattle.std.specs.Prelude.{◌≡◌, ℕ, List}
use Rattle.m5_terms.specs.TypeExpression.{TypeExpression}
use Rattle.m5_terms.specs.Primitives.{primitive_type}
use Rattle.m5_terms.specs.declared.types.Primitive.{Primitive}
use Rattle.m5_terms.specs.declared.form.BinaryForm.{BinaryForm}
use Rattle.m5_terms.specs.declared.form.BinaryForm.TheVariants as binary_form
use Rattle.m5_cps.specs.TypeParts.{result_of, binary_whole}
use Rattle.m5_cps.specs.Steps.{mode_of}
use Rattle.m5_cps_convert.specs.Scopes.{Scope}
use Rattle.m5_cps_convert.specs.Forms.{binary_end}
use Rattle.m5_cps_convert.specs.Convert.{ask_code}
use Rattle.m5_cps_convert.specs.declared.walk.Walk.{Walk}
use Rattle.m5_cps_convert.specs.declared.walk.Around.{Around}
use Rattle.m5_cps_convert.specs.declared.walk.Goal.{Goal}
use Rattle.m5_cps_convert.specs.declared.walk.Value.{Value}
use Rattle.m5_cps_convert.specs.code.Types.{IsAt}
use Rattle.m5_cps_convert.specs.code.Writing.{Keeps, Grows, Goes}

pub record WritesAsk (old new : Walk) (at : Around) (p : Primitive) (y : Value) (goal : Goal) (v : Value) : Type 0 where
  pub grows : Grows old new
  pub typed : IsAt new.types v.ty (result_of (primitive_type p))
  pub goes : (Γ : Scope) → Γ.mode ≡ mode_of at.mode → Goes old new goal v (λ κ. ask_code p (result_of (primitive_type p)) Γ y.slot y.filled κ)

pub record WritesTwo (old new : Walk) (f : BinaryForm) (at : Around) (x y : Value) (goal : Goal) (v : Value) : Type 0 where
  pub grows : Grows old new
  pub typed : (A B : TypeExpression) → IsAt old.types x.ty A → IsAt old.types y.ty B → IsAt new.types v.ty (binary_whole f A B)
  pub goes : (A B : TypeExpression) → IsAt old.types x.ty A → IsAt old.types y.ty B → (Γ : Scope) → Γ.mode ≡ mode_of at.mode
      → Goes old new goal v (λ κ. binary_end f (binary_whole f A B) Γ x.slot y.slot y.filled κ)

abbrev pub IsNoCall : BinaryForm → Type 0
IsNoCall binary_form.Call = ⊥
IsNoCall f = Unit {0}

pub record MakesWhole (old new : List TypeExpression) (f : BinaryForm) (x y n : ℕ) : Type 0 where
  pub keeps : Keeps old new
  pub typed : (A B : TypeExpression) → IsAt old x A → IsAt old y B → IsAt new n (binary_whole f A B)
