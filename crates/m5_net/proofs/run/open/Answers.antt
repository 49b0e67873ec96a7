use Rattle.std.proofs.Common.{ap, ◌∙◌}
use Rattle.m5_script.specs.Scenario.{Scenario}
use Rattle.m5_net.proofs.OpenedRuns.{opens}
use Rattle.m5_net.proofs.run.open.Goals as goal

pub returns : goal.returns
returns c = opens c.args.object.now c.args.script.now c.args.limits _ c.requires.limits c.in_ok-open_sites.ensures.opened (c.in_ok-open_sites.ensures.count ∙ ap (λ (S : Scenario). S.sessions) c.script.view_is) c.in_ok-make.ensures.board c.in_ok-make.ensures.count c.in_ok-make.ensures.entries
