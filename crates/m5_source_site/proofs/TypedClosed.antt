-- A typed program has no free variables.
use Rattle.std.proofs.Common.{refl}
use Rattle.m5_terms.specs.Expression.{unary}
use Rattle.m5_terms.specs.TypeExpression.{unit}
use Rattle.m5_terms.specs.declared.types.World.TheVariants.{Home}
use Rattle.m5_terms.specs.declared.form.UnaryForm.TheVariants as unary_form
use Rattle.m5_typing.specs.declared.functions.Function.{Function}
use Rattle.m5_typing.specs.Program.{FunctionTyped, setting_of, declared_type}
use Rattle.m5_typing.specs.Context.{nothing}
use Rattle.m5_typing.specs.Typing.{Typed}
use Rattle.m5_typing.proofs.ClosedTerms.{closed_terms}
use Rattle.m5_typing.proofs.Declared.{declared_is_typed}
use Rattle.m5_meaning.specs.Site.{Program}
use Rattle.m5_source_site.specs.ClosedSite.{TypedProgramIsClosed}

-- a declared function is typed as a function of its parameter
as-function : (P : Program) (g : Function) → FunctionTyped P.functions g → Typed (setting_of P.functions) nothing g.world (unary (unary_form.Fn g.parameter g.ty) g.body) (declared_type g)
as-function P g d = record { pick = record { a = g.result; b = g.result; c = g.result; v = g.world }; part = d.body; side = tt; is = refl; small = d.small }

pub typed_closed : TypedProgramIsClosed
typed_closed P p = record {
  bodies = λ f g e. closed_terms (setting_of P.functions) g.world (unary (unary_form.Fn g.parameter g.ty) g.body) (declared_type g) (as-function P g (declared_is_typed P f g p e));
  main = closed_terms (setting_of P.functions) Home P.main unit p.main;
}
