use Rattle.std.proofs.Common.{ℕ, All, take}
use Rattle.m5_script.specs.declared.items.SiteName.{SiteName}
use Rattle.m5_network.specs.Kinds.{IsAmong}
use Rattle.m5_site.specs.declared.state.Limits.{Limits}
use Rattle.m5_net.specs.Turning.{Net}
use Rattle.m5_net.specs.Running.{StandsFor, StaysReady, TakesTurns}
use Rattle.m5_net.proofs.running.take_turns.Given as goal

-- the sites before this one have had their turns
abbrev pub invariant-turns : goal.invariant-turns
invariant-turns l =
    StaysReady l.object l.initial.running l.running
    × ((n : Limits) (count : ℕ) (N : Net l.object n) → StandsFor l.object n count l.initial.running N → All (λ (x : SiteName). IsAmong count x.session x.world) l.names → TakesTurns l.object n count N (take l.name-index l.names) l.initial.running l.running)
