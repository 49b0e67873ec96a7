use Rattle.std.proofs.Common.{All}
use Rattle.m5_script.specs.Scenario.{Scenario}
use Rattle.m5_script.specs.declared.items.SiteName.{SiteName}
use Rattle.m5_network.specs.Run.{Network, IsSite}
use Rattle.m5_reference.specs.Moments.{HasLimits}
use Rattle.m5_reference.specs.Running.{StandsFor, StaysReady, TakesRounds}
use Rattle.m5_reference.proofs.rounds.take_rounds.Given as goal

-- each round so far made a deed
abbrev pub invariant-rounds : goal.invariant-rounds
invariant-rounds l =
    StaysReady l.initial.running l.running
    × ((S : Scenario) (N : Network) → HasLimits S l.limits → StandsFor l.program S l.initial.running N → All (λ (x : SiteName). IsSite S x.session x.world) l.names → TakesRounds l.program S N l.names l.initial.running l.running)
