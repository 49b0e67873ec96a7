-- What a declaration binds over the rest of its `let`.
use Rattle.std.specs.Prelude.{◌≡◌, ℕ, suc, List, Some, length}
use Rattle.m5_terms.specs.TypeExpression.{TypeExpression}
use Rattle.m5_terms.specs.Table.{entries, entered}
use Rattle.m5_terms.specs.declared.form.BinaryForm.{BinaryForm}
use Rattle.m5_terms.specs.declared.form.BinaryForm.TheVariants as binary_form
use Rattle.m5_typing.specs.Context.{local, valid, Setting}
use Rattle.m5_cps.specs.Blocks.{Code, straight, unheld, unsham}
use Rattle.m5_cps.specs.Entries.{world_of}
use Rattle.m5_cps.specs.TypeParts.{content_of, place_of}
use Rattle.m5_cps.specs.Steps.{code_at}
use Rattle.m5_cps.specs.declared.step.Step.{Step}
use Rattle.m5_cps_convert.specs.Scopes.{Scope, bind}
use Rattle.m5_cps_convert.specs.declared.walk.Walk.{Walk}
use Rattle.m5_cps_convert.specs.declared.walk.Around.{Around}
use Rattle.m5_cps_convert.specs.declared.walk.Value.{Value}
use Rattle.m5_cps_convert.specs.declared.lets.Inside.{Inside}
use Rattle.m5_cps_convert.specs.code.Types.{IsAt}
use Rattle.m5_cps_convert.specs.code.Writing.{Grows, Completes}
use Rattle.m5_cps_convert.specs.code.Knowing.{Knows}

-- the scope of the second part, where the first's value, of the type A, is in slot x, and n slots are filled
abbrev pub let_scope : BinaryForm → TypeExpression → ℕ → ℕ → Scope → Scope
let_scope (binary_form.Val y) A x n Γ = bind y (local (world_of Γ.mode) A) x Γ
let_scope (binary_form.Put y) A x n Γ = bind y (valid A) x Γ
let_scope (binary_form.Leta y) A x n Γ = bind y (local (place_of A) (content_of A)) n Γ
let_scope (binary_form.Lets y) A x n Γ = bind y (valid (content_of A)) n Γ
let_scope f A x n Γ = Γ

-- what comes before its code
abbrev pub let_code : BinaryForm → ℕ → Code → Code
let_code (binary_form.Leta y) x c = straight (unheld x) c
let_code (binary_form.Lets y) x c = straight (unsham x) c
let_code f x c = c

abbrev pub let_filled : BinaryForm → ℕ → ℕ
let_filled (binary_form.Leta y) n = suc n
let_filled (binary_form.Lets y) n = suc n
let_filled f n = n

pub record BeginsLet (old new : Walk) (at : Around) (f : BinaryForm) (x : Value) (i : Inside) : Type 0 where
  pub grows : Grows old new
  pub filled : i.filled ≡ let_filled f x.filled
  pub known : (E : Setting) (Γ : Scope) (A : TypeExpression) → IsAt old.types x.ty A → Knows old.types (entries old.names) old.functions.items at E Γ
      → Knows new.types (entered i.binding (entries new.names)) new.functions.items at E (let_scope f A x.slot x.filled Γ)
  pub goes : (T : List TypeExpression) (S : List Step) (c : Code) → Completes T S old new → code_at T S (length new.steps) ≡ Some c
      → code_at T S (length old.steps) ≡ Some (let_code f x.slot c)
