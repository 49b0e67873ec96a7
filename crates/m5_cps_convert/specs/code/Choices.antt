-- Tests whose second ways are written later, and what the arms of choices know.
use Rattle.std.specs.Prelude.{◌≡◌, ◌++◌, ℕ, suc, List, [], ◌∷◌, Option, length, slice_set}
use Rattle.m5_terms.specs.TypeExpression.{TypeExpression}
use Rattle.m5_terms.specs.Table.{entered}
use Rattle.m5_terms.specs.declared.form.TernaryForm.{TernaryForm}
use Rattle.m5_terms.specs.declared.form.TernaryForm.TheVariants as ternary_form
use Rattle.m5_typing.specs.Context.{local, Setting}
use Rattle.m5_cps.specs.Entries.{world_of}
use Rattle.m5_cps.specs.TypeParts.{first_of, second_of, content_of}
use Rattle.m5_cps.specs.declared.step.Test.{Test}
use Rattle.m5_cps.specs.declared.step.Test.TheVariants as tests
use Rattle.m5_cps.specs.declared.step.Step.{Step}
use Rattle.m5_cps.specs.declared.step.Step.TheVariants as steps
use Rattle.m5_cps_convert.specs.Scopes.{Scope, bind}
use Rattle.m5_cps_convert.specs.declared.walk.Walk.{Walk}
use Rattle.m5_cps_convert.specs.declared.walk.Known.{Known}
use Rattle.m5_cps_convert.specs.declared.walk.Around.{Around}
use Rattle.m5_cps_convert.specs.declared.lets.Inside.{Inside}
use Rattle.m5_cps_convert.specs.code.Types.{IsAt}
use Rattle.m5_cps_convert.specs.code.Knowing.{Knows}

-- a step that says nothing yet stands at the end
pub record BeginsTest (old new : Walk) (p : ℕ) : Type 0 where
  pub step : Step
  pub steps : new ≡ record old { steps = old.steps ++ step ∷ [] }
  pub place : p ≡ length old.steps

-- the test's second way begins at the end
pub record EndsTest (old new : Walk) (p : ℕ) (t : Test) (x : ℕ) : Type 0 where
  pub steps : new ≡ record old { steps = slice_set old.steps p (steps.Test t x (length old.steps)) }

abbrev pub choice_test : TernaryForm → Test
choice_test ternary_form.If = tests.True
choice_test (ternary_form.CaseSum y z) = tests.Left
choice_test (ternary_form.CaseList y z) = tests.Nil

-- the scope of an arm, of a value of the type A, where m slots were filled before its parts
abbrev pub second_arm_scope : TernaryForm → TypeExpression → ℕ → Scope → Scope
second_arm_scope (ternary_form.CaseSum y z) A m Γ = bind y (local (world_of Γ.mode) (first_of A)) m Γ
second_arm_scope f A m Γ = Γ

abbrev pub third_arm_scope : TernaryForm → TypeExpression → ℕ → Scope → Scope
third_arm_scope ternary_form.If A m Γ = Γ
third_arm_scope (ternary_form.CaseSum y z) A m Γ = bind z (local (world_of Γ.mode) (second_of A)) m Γ
third_arm_scope (ternary_form.CaseList y z) A m Γ =
    bind z (local (world_of Γ.mode) A) (suc m) (bind y (local (world_of Γ.mode) (content_of A)) m Γ)

abbrev pub second_arm_filled : TernaryForm → ℕ → ℕ
second_arm_filled (ternary_form.CaseSum y z) m = suc m
second_arm_filled f m = m

abbrev pub third_arm_filled : TernaryForm → ℕ → ℕ
third_arm_filled ternary_form.If m = m
third_arm_filled (ternary_form.CaseSum y z) m = suc m
third_arm_filled (ternary_form.CaseList y z) m = suc (suc m)

-- what is bound in an arm
pub record IsArm (scope : TernaryForm → TypeExpression → ℕ → Scope → Scope) (count : TernaryForm → ℕ → ℕ)
    (types : List TypeExpression) (at : Around) (f : TernaryForm) (ty m : ℕ) (i : Inside) : Type 0 where
  pub filled : i.filled ≡ count f m
  pub known : (entry : ℕ → Option Known) (functions : List ℕ) (E : Setting) (Γ : Scope) (A : TypeExpression) → IsAt types ty A
      → Knows types entry functions at E Γ → Knows types (entered i.binding entry) functions at E (scope f A m Γ)
