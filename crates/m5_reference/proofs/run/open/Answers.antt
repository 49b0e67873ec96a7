use Rattle.std.proofs.Common.{ap, ◌∙◌}
use Rattle.std.specs.Prelude.{replicate}
use Rattle.m5_script.specs.Scenario.{Scenario}
use Rattle.m5_reference.specs.Budget.{with_lesser_budget}
use Rattle.m5_sites.specs.Opening.{sites_opened}
use Rattle.m5_reference.proofs.OpenedRuns.{opens}
use Rattle.m5_reference.proofs.run.open.Goals as goal

pub returns : goal.returns
returns c = opens c.args.program.now (with_lesser_budget c.args.script.now) _ c.closed_holds.ensures (c.in_ok-open_sites.ensures ∙ ap (λ (S : Scenario). replicate S.sessions (sites_opened c.args.program.now)) c.script.view_is) c.in_ok-opening.ensures.board c.in_ok-opening.ensures.count c.make.ensures
