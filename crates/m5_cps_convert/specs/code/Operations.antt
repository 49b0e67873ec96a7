-- What the helpers of forms of one part make sure of.
use Rattle.std.specs.Prelude.{◌≡◌, ℕ, List}
use Rattle.m5_terms.specs.TypeExpression.{TypeExpression}
use Rattle.m5_terms.specs.declared.types.World.{World}
use Rattle.m5_terms.specs.declared.form.UnaryForm.{UnaryForm}
use Rattle.m5_terms.specs.declared.form.UnaryForm.TheVariants as unary_form
use Rattle.m5_cps.specs.Entries.{world_of}
use Rattle.m5_cps.specs.TypeParts.{unary_whole}
use Rattle.m5_cps.specs.TypesByNumber.{row_type}
use Rattle.m5_cps.specs.Steps.{mode_of, operation_of}
use Rattle.m5_cps.specs.declared.step.Operation.{Operation}
use Rattle.m5_cps.specs.declared.types.TypeRow.{TypeRow}
use Rattle.m5_cps_convert.specs.Forms.{unary_rest}
use Rattle.m5_cps_convert.specs.declared.walk.Walk.{Walk}
use Rattle.m5_cps_convert.specs.declared.walk.Around.{Around}
use Rattle.m5_cps_convert.specs.declared.walk.Goal.{Goal}
use Rattle.m5_cps_convert.specs.declared.walk.Value.{Value}
use Rattle.m5_cps_convert.specs.declared.operations.Made.{Made}
use Rattle.m5_cps_convert.specs.code.Types.{IsAt}
use Rattle.m5_cps_convert.specs.code.Writing.{Keeps, Writes}

-- a form that is straight over its part's value
abbrev pub IsOperation : UnaryForm → Type 0
IsOperation (unary_form.Fn x A) = ⊥
IsOperation (unary_form.Rec f x A B) = ⊥
IsOperation unary_form.Div = ⊥
IsOperation unary_form.Spawn = ⊥
IsOperation (unary_form.Held w) = ⊥
IsOperation f = Unit {0}

-- a type was added, and its number
pub record AddsType (old new : Walk) (A : TypeExpression) (n : ℕ) : Type 0 where
  pub types : List TypeExpression
  pub same : new ≡ record old { types = types }
  pub keeps : Keeps old.types types
  pub at : IsAt types n A

pub record MakesRow (old new : List TypeExpression) (o : Operation) (row : TypeRow) (m : Made) : Type 0 where
  pub keeps : Keeps old new
  pub operation_is : m.operation ≡ o
  pub at : IsAt new m.ty (row_type old row)

-- the form's operation, and the type of what it gives at the world, over a value of that type
pub record IsMade (old new : List TypeExpression) (f : UnaryForm) (w : World) (part : ℕ) (m : Made) : Type 0 where
  pub keeps : Keeps old new
  pub means : (M : List TypeExpression) → Keeps new M → operation_of M m.operation ≡ f
  pub typed : (B : TypeExpression) → IsAt old part B → IsAt new m.ty (unary_whole f w B)

pub record WritesOperation (old new : Walk) (f : UnaryForm) (at : Around) (part : Value) (goal : Goal) (v : Value) : Type 0 where
  pub writes : Writes old new goal v (λ κ. unary_rest f part.slot part.filled κ)
  pub typed : (B : TypeExpression) → IsAt old.types part.ty B → IsAt new.types v.ty (unary_whole f (world_of (mode_of at.mode)) B)
