use Rattle.std.proofs.Common.{ℕ, All}
use Rattle.m5_script.specs.declared.items.SiteName.{SiteName}
use Rattle.m5_network.specs.Kinds.{IsAmong}
use Rattle.m5_site.specs.declared.state.Limits.{Limits}
use Rattle.m5_net.specs.Turning.{Net}
use Rattle.m5_net.specs.Running.{StandsFor, StaysReady, TakesRounds}
use Rattle.m5_net.proofs.rounds.take_rounds.Given as goal

-- each round so far made a deed
abbrev pub invariant-rounds : goal.invariant-rounds
invariant-rounds l =
    StaysReady l.object l.initial.running l.running
    × ((n : Limits) (count : ℕ) (N : Net l.object n) → StandsFor l.object n count l.initial.running N → All (λ (x : SiteName). IsAmong count x.session x.world) l.names → TakesRounds l.object n count N l.names l.initial.running l.running)
