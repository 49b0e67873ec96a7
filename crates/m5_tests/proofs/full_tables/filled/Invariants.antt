use Rattle.m5_source_site.specs.ClosedSite.{IsClosedSite}
use Rattle.m5_tests.proofs.full_tables.filled.Given as goal

abbrev pub invariant-steps : goal.invariant-steps
invariant-steps l = IsClosedSite l.site
