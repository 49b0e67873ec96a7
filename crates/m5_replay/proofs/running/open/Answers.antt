use Rattle.std.proofs.Common.{ap, refl, ◌∙◌}
use Rattle.std.specs.Prelude.{replicate}
use Rattle.m5_script.specs.Scenario.{Scenario}
use Rattle.m5_sites.specs.Opening.{sites_opened}
use Rattle.m5_replay.proofs.Openings.{opens-stands, opens-ready}
use Rattle.m5_replay.proofs.running.open.Goals as goal

pub returns-clause-stands : goal.returns-clause-stands
returns-clause-stands c = opens-stands c.args.program.now c.args.script.now _ (c.in_ok-open_sites.ensures ∙ ap (λ (S : Scenario). replicate S.sessions (sites_opened c.args.program.now)) c.script.view_is) c.in_ok-opening.ensures.board refl refl

pub returns-clause-ready : goal.returns-clause-ready
returns-clause-ready c = opens-ready c.args.program.now c.args.script.now _ c.closed_holds.ensures (c.in_ok-open_sites.ensures ∙ ap (λ (S : Scenario). replicate S.sessions (sites_opened c.args.program.now)) c.script.view_is) c.in_ok-opening.ensures.board c.in_ok-opening.ensures.count
