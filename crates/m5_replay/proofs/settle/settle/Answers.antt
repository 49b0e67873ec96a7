use Rattle.m5_replay.proofs.Settlings.{begins, goes-on, ends, exceeds}
use Rattle.m5_replay.proofs.settle.settle.Goals as goal

pub returns-then-not-is_within-clause-settled : goal.returns-then-not-is_within-clause-settled
returns-then-not-is_within-clause-settled c = λ S h.
    let start = begins c.args.program.now S c.args.here c.args.cause c.args.before c.args.site in
    exceeds c.args.program.now S c.args.here c.args.cause c.args.before c.args.site c.args.site start (c.is_within.ensures.beyond c.args.site c.weight-start.ensures c.if-not-is_within.true)

pub steps-init : goal.steps-init
steps-init c = (c.requires, λ S h. (begins c.args.program.now S c.args.here c.args.cause c.args.before c.args.site, c.is_within.ensures.within c.args.site c.weight-start.ensures c.if-not-is_within.false))

pub returns-in-Ends-clause-settled : goal.returns-in-Ends-clause-settled
returns-in-Ends-clause-settled c = λ S h.
    let came = c.steps.invariant.1 S h in
    ends c.args.program.now S c.args.here c.args.cause c.args.before c.args.site c.steps.site c.weight-weight.result c.in-Ends.settled came.0 came.1 c.weight-weight.ensures (rw c.in-Ends.is at (c.in_ok-next.ensures.looked S h))

pub returns-then-not-stays_within-clause-settled : goal.returns-then-not-stays_within-clause-settled
returns-then-not-stays_within-clause-settled c = λ S h.
    let came = c.steps.invariant.1 S h in
    let looked = rw c.in-Goes.is at (c.in_ok-next.ensures.looked S h) in
    let now = goes-on c.args.program.now S c.args.here c.args.cause c.args.before c.args.site c.steps.site c.in-Goes.next came.0 came.1 looked in
    exceeds c.args.program.now S c.args.here c.args.cause c.args.before c.args.site c.in-Goes.next now (c.stays_within.ensures.beyond c.args.program.now c.args.here c.args.site c.steps.site c.weight-start.ensures looked.1 came.1 c.if-not-stays_within.true)

pub steps-preserved : goal.steps-preserved
steps-preserved c = (
  rw c.in-Goes.is at c.in_ok-next.ensures.closed,
  λ S h.
      let came = c.steps.invariant.1 S h in
      let looked = rw c.in-Goes.is at (c.in_ok-next.ensures.looked S h) in (
        goes-on c.args.program.now S c.args.here c.args.cause c.args.before c.args.site c.steps.site c.in-Goes.next came.0 came.1 looked,
        c.stays_within.ensures.within c.args.program.now c.args.here c.args.site c.steps.site c.weight-start.ensures looked.1 came.1 c.if-not-stays_within.false,
      ),
)
