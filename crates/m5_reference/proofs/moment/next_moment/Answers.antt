use Rattle.m5_reference.proofs.NextMoment.{goes_on, ends}
use Rattle.m5_reference.proofs.moment.next_moment.Goals as goal

pub steps-preserved : goal.steps-preserved
steps-preserved c = (rw c.in-Step.is at c.in_ok-next.ensures.closed, goes_on c.args.program.now c.args.limits c.args.here c.args.site c.steps.site c.in-Step.next c.steps.invariant.1 (λ S h. rw c.in-Step.is at (c.in_ok-next.ensures.moment S h)))

pub returns-in-Moment-clause-moment : goal.returns-in-Moment-clause-moment
returns-in-Moment-clause-moment c = ends c.args.program.now c.args.limits c.args.here c.args.site c.steps.site c.in-Moment.moment c.steps.invariant.1 (λ S h. rw c.in-Moment.is at (c.in_ok-next.ensures.moment S h))
