use Rattle.std.specs.Prelude.{◌-◌, ◌^◌}
use Rattle.m5_script.specs.Scenario.{Scenario}
use Rattle.m5_source_site.specs.ClosedSite.{IsClosedSite}
use Rattle.m5_replay.specs.Settling.{IsWithin}
use Rattle.m5_replay.specs.code.Looking.{HasLimits}
use Rattle.m5_replay.proofs.Settlings.{Coming}
use Rattle.m5_replay.proofs.settle.settle.Given as goal

-- the site has come so far by local steps, and each moment is within the budget, this one too
abbrev pub invariant-steps : goal.invariant-steps
invariant-steps l = IsClosedSite l.site × ((S : Scenario) → HasLimits S l.limits → Coming l.program S l.here l.cause l.before l.fn.site l.site × IsWithin l.before l.fn.site l.site)

abbrev pub decreases-steps : goal.decreases-steps
decreases-steps l = 2 ^ 62 - l.site.steps
