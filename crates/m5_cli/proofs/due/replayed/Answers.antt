use Rattle.std.proofs.Common.{◌∙◌, ap, rules}
use Rattle.m5_cli.specs.Input.{parts_of}
use Rattle.m5_cli.specs.Replaying.{replayed_script}
use Rattle.m5_cli.specs.Taken.{HasScript}
use Rattle.m5_cli.proofs.ReplayDue.{answered}
use Rattle.m5_cli.proofs.due.replayed.Goals as goal

-- the verdict on the trace for the given program and script is due with its status
pub returns-in-Ok : goal.returns-in-Ok
returns-in-Ok c =
    let given : HasScript c.args.input.now (replayed_script c.args.input.now) = record {
      short = c.requires.short;
      tree = c.args.accepted.now.tree;
      raw = c.args.accepted.now.raw;
      program = c.args.accepted.now.program;
      accepted = c.requires.accepted;
      scenario = c.in-Ok.script;
      script = search rules;
    } in
    answered _ _ given (c.split.ensures.script ∙ ap (λ r. (parts_of r).script) c.requires.rest) _ c.verdict_answer.ensures
