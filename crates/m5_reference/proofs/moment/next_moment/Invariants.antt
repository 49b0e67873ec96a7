use Rattle.std.specs.Prelude.{◌-◌}
use Rattle.m5_source_site.specs.ClosedSite.{IsClosedSite}
use Rattle.m5_reference.proofs.NextMoment.{Arrives}
use Rattle.m5_reference.proofs.moment.next_moment.Given as goal

abbrev pub invariant-steps : goal.invariant-steps
invariant-steps l = IsClosedSite l.site × Arrives l.program l.limits l.here l.fn.site l.site

abbrev pub decreases-steps : goal.decreases-steps
decreases-steps l = l.limits.steps - l.site.steps
