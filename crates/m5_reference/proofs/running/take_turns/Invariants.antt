use Rattle.std.proofs.Common.{All, take}
use Rattle.m5_script.specs.Scenario.{Scenario}
use Rattle.m5_script.specs.declared.items.SiteName.{SiteName}
use Rattle.m5_network.specs.Run.{Network, IsSite}
use Rattle.m5_reference.specs.Moments.{HasLimits}
use Rattle.m5_reference.specs.Running.{StandsFor, StaysReady, TakesTurns}
use Rattle.m5_reference.proofs.running.take_turns.Given as goal

-- the sites before this one have had their turns
abbrev pub invariant-turns : goal.invariant-turns
invariant-turns l =
    StaysReady l.initial.running l.running
    × ((S : Scenario) (N : Network) → HasLimits S l.limits → StandsFor l.program S l.initial.running N → All (λ (x : SiteName). IsSite S x.session x.world) l.names → TakesTurns l.program S N (take l.name-index l.names) l.initial.running l.running)
