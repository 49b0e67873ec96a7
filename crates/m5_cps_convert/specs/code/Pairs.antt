-- Nested pairs whose second parts are to come, the outermost first.
use Rattle.std.specs.Prelude.{◌≡◌, ◌++◌, ℕ, suc, List, [], ◌∷◌, Some, length}
use Rattle.m5_terms.specs.Expression.{Expression}
use Rattle.m5_terms.specs.TypeExpression.{TypeExpression, product}
use Rattle.m5_terms.specs.Table.{entries}
use Rattle.m5_typing.specs.Context.{Setting}
use Rattle.m5_terms.specs.declared.form.BinaryForm.TheVariants.{Pair}
use Rattle.m5_cps.specs.Blocks.{Code, straight, two}
use Rattle.m5_cps.specs.Steps.{code_at}
use Rattle.m5_cps.specs.declared.step.Step.{Step}
use Rattle.m5_cps_convert.specs.Continuations.{Continuation, Then, apply}
use Rattle.m5_cps_convert.specs.Scopes.{Scope}
use Rattle.m5_cps_convert.specs.Convert.{cps, type_in}
use Rattle.m5_cps_convert.specs.declared.walk.Walk.{Walk}
use Rattle.m5_cps_convert.specs.declared.walk.Around.{Around}
use Rattle.m5_cps_convert.specs.code.Knowing.{Knows}
use Rattle.m5_cps_convert.specs.declared.walk.Goal.{Goal}
use Rattle.m5_cps_convert.specs.declared.walk.Value.{Value}
use Rattle.m5_cps_convert.specs.declared.pairs.Waiting.{Waiting}
use Rattle.m5_cps_convert.specs.code.Types.{IsAt}
use Rattle.m5_cps_convert.specs.code.Writing.{Grows, Completes, Goes}

-- what becomes of the last value
abbrev pub nested : List Waiting → Continuation → Continuation
nested [] κ = κ
nested (w ∷ ws) κ = nested ws (Then (λ y m. straight (two Pair w.slot y) (apply κ m (suc m))))

-- B is the last value's type, C that of the nested pairs
abbrev pub IsNested : List TypeExpression → List Waiting → TypeExpression → TypeExpression → Type 0
IsNested types [] B C = B ≡ C
IsNested types (w ∷ ws) B C = (A D : TypeExpression) × IsAt types w.ty A × IsNested types ws B D × (C ≡ product A D)

pub record MakesPair (old new : Walk) (w : Waiting) (y v : Value) : Type 0 where
  pub grows : Grows old new
  pub typed : (A B : TypeExpression) → IsAt old.types w.ty A → IsAt old.types y.ty B → IsAt new.types v.ty (product A B)
  pub slot : v.slot ≡ y.filled
  pub filled : v.filled ≡ suc y.filled
  pub goes : (T : List TypeExpression) (S : List Step) (c : Code) → Completes T S old new → code_at T S (length new.steps) ≡ Some c
      → code_at T S (length old.steps) ≡ Some (straight (two Pair w.slot y.slot) c)

pub record PairsUp (old new : Walk) (ws : List Waiting) (y : Value) (goal : Goal) (v : Value) : Type 0 where
  pub grows : Grows old new
  pub typed : (B C : TypeExpression) → IsAt old.types y.ty B → IsNested old.types ws B C → IsAt new.types v.ty C
  pub goes : Goes old new goal v (λ κ. apply (nested ws κ) y.slot y.filled)

-- pairs were made of the last values that waited, and the others are to be made
pub record PairsSoFar (start now : Walk) (ws rest : List Waiting) (last whole : Value) : Type 0 where
  pub grows : Grows start now
  pub typed : (B C : TypeExpression) → IsAt start.types last.ty B → IsNested start.types ws B C
      → (D : TypeExpression) × IsAt now.types whole.ty D × IsNested now.types rest D C
  pub goes : (T : List TypeExpression) (S : List Step) (κ : Continuation) → Completes T S start now
      → code_at T S (length now.steps) ≡ Some (apply (nested rest κ) whole.slot whole.filled)
      → code_at T S (length start.steps) ≡ Some (apply (nested ws κ) last.slot last.filled)

-- the first parts of nested pairs wait, and the rest is to be emitted
pub record PairsWait (start now : Walk) (at : Around) (n : ℕ) (whole : Expression) (ws : List Waiting) (m : ℕ) (rest : Expression) : Type 0 where
  pub grows : Grows start now
  pub before : List Waiting
  pub innermost : Waiting
  pub some : ws ≡ before ++ innermost ∷ []
  pub typed : (E : Setting) (Γ : Scope) → Knows start.types (entries start.names) start.functions.items at E Γ
      → IsNested now.types ws (type_in E rest Γ) (type_in E whole Γ)
  pub goes : (E : Setting) (Γ : Scope) → Knows start.types (entries start.names) start.functions.items at E Γ
      → (T : List TypeExpression) (S : List Step) (κ : Continuation) → Completes T S start now
      → code_at T S (length now.steps) ≡ Some (cps E rest Γ m (nested ws κ)) → code_at T S (length start.steps) ≡ Some (cps E whole Γ n κ)
