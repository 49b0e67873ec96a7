use Rattle.std.proofs.Common.{sym, subst}
use Rattle.m5_front.specs.Reading.{IsNoRefusal}
use Rattle.m5_front.specs.Refusal.{HaveCause}
use Rattle.m5_cli.specs.Due.{Due}
use Rattle.m5_cli.specs.declared.status.Status.{Status}
use Rattle.m5_cli.specs.declared.words.Job.TheVariants as job
use Rattle.m5_cli.proofs.Refusing.{expanded_due}
use Rattle.m5_cli.proofs.Written.{expansion_due}
use Rattle.m5_cli.proofs.expand.checked.Goals as goal

-- what is accepted is written
pub returns-in_ok-written-in-Ok : goal.returns-in_ok-written-in-Ok
returns-in_ok-written-in-Ok c =
    expansion_due c.args.input.now c.in_ok-written-in-Ok.field-0 c.args.rest.now c.args.out.now c.in-Ok._accepted.tree c.in-Ok._accepted.raw c.in-Ok._accepted.program
    c.requires.short c.requires.expands c.in-Ok.ensures.found c.in_ok-written-in-Ok.ensures.again c.requires.rest c.in_ok-written-in-Ok.ensures.text

-- what is refused is not accepted
pub returns-in_ok-refusal_text-in-Err-Refused : goal.returns-in_ok-refusal_text-in-Err-Refused
returns-in_ok-refusal_text-in-Err-Refused c =
    let P : Status → Type 0 = λ s. Due s job.Expand c.args.input.now c.in_ok-refusal_text-in-Err-Refused.field-0 in
    subst P (sym c.fault_status.ensures)
    (expanded_due c.args.input.now c.in_ok-refusal_text-in-Err-Refused.field-0 c.args.out.now c.in-Err-Refused.refusal.fault c.in-Err-Refused.refusal.place c.requires.expands
    (subst (HaveCause c.args.out.now) c.in-Err-Refused.field-0-is c.in-Err-Refused.ensures.refused)
    (λ tree raw program h. subst IsNoRefusal c.in-Err-Refused.field-0-is (c.in-Err-Refused.ensures.accepted tree raw program h))
    c.in_ok-refusal_text-in-Err-Refused.ensures)
