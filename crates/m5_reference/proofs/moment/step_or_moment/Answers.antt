use Rattle.std.proofs.Common.{◌≡◌, [], subst, arith}
use Rattle.m5_terms.specs.Machine.{goes}
use Rattle.m5_meaning.specs.Step.{site_next}
use Rattle.m5_source_site.specs.ClosedSite.{IsClosedNext}
use Rattle.m5_source_site.proofs.Closing.{stays_closed}
use Rattle.m5_sites.proofs.Counted.{idle_asks, counted}
use Rattle.m5_reference.proofs.moment.step_or_moment.Goals as goal

pub returns-then-is_idle-clause-closed : goal.returns-then-is_idle-clause-closed
returns-then-is_idle-clause-closed c =
    let e : c.args.site.threads ≡ [] = c.is_idle.ensures.0 c.if-is_idle.true in
    subst IsClosedNext (idle_asks c.args.program.now c.args.here c.args.site e) (stays_closed c.args.program.now c.args.here c.args.site c.closed_holds.ensures c.requires)

pub returns-else-limits-weight-2-clause-counted : goal.returns-else-limits-weight-2-clause-counted
returns-else-limits-weight-2-clause-counted c =
    let e : site_next c.args.program.now c.args.here c.args.site ≡ goes c.in-Goes.next = rw c.in-Goes.is at c.in_ok-next.ensures.next in
    (counted c.args.program.now c.args.here c.args.site c.in-Goes.next e, omega (arith, c.if-limits-steps.false, c.steps.ensures))

pub returns-else-limits-weight-3-clause-closed : goal.returns-else-limits-weight-3-clause-closed
returns-else-limits-weight-3-clause-closed c = rw c.in-Asks.is at c.in_ok-next.ensures.closed
