-- What is written after types were added.
use Rattle.std.proofs.Common.{◌≡◌, List, length, refl, sym, ap, ◌∙◌, subst, arith}
use Rattle.m5_terms.specs.TypeExpression.{TypeExpression}
use Rattle.m5_cps.specs.Blocks as blocks
use Rattle.m5_cps.specs.Steps.{code_at}
use Rattle.m5_cps.specs.declared.step.Step.{Step}
use Rattle.m5_cps_convert.specs.Continuations.{Continuation}
use Rattle.m5_cps_convert.specs.declared.walk.Walk.{Walk}
use Rattle.m5_cps_convert.specs.declared.walk.Goal.{Goal}
use Rattle.m5_cps_convert.specs.declared.walk.Value.{Value}
use Rattle.m5_cps_convert.specs.code.Writing.{Keeps, Goes, Writes}
use Rattle.m5_cps_convert.specs.code.Emitting.{AddsTypes}
use Rattle.m5_cps_convert.proofs.Growing.{keeps_self, grows_trans}
use Rattle.m5_cps_convert.proofs.Written.{completes_rest}

-- a type that was added stands in the whole walk
pub adds : (u w : Walk) (types : List TypeExpression) → w ≡ record u { types = types } → Keeps u.types types → AddsTypes u w
adds u w types e k =
    subst (λ (z : Walk). AddsTypes u z) (sym e)
    (record { grows = record { types = k; steps = keeps_self u.steps; longer = omega arith; names = refl; functions = refl }; steps = refl })

-- code that begins where only types were added
pub goes_added : (u v w : Walk) (goal : Goal) (val : Value) (c : Continuation → blocks.Code) → AddsTypes u v → Goes v w goal val c → Goes u w goal val c
goes_added u v w goal val c a g T S κ q f =
    ap (λ (l : List Step). code_at T S (length l)) (sym a.steps) ∙ g T S κ (completes_rest T S u v w a.grows q) f

pub writes_added : (u v w : Walk) (goal : Goal) (val : Value) (c : Continuation → blocks.Code) → AddsTypes u v → Writes v w goal val c → Writes u w goal val c
writes_added u v w goal val c a h = record { grows = grows_trans a.grows h.grows; goes = goes_added u v w goal val c a h.goes }
