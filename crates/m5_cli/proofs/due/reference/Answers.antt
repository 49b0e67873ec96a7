use Rattle.std.proofs.Common.{rules}
use Rattle.m5_cli.specs.Input.{parts_of}
use Rattle.m5_cli.specs.Taken.{HasScript}
use Rattle.m5_cli.proofs.ReferenceDue.{answered}
use Rattle.m5_cli.proofs.due.reference.Goals as goal

-- the trace of the given program and script is due with its status
pub returns-in-Ok : goal.returns-in-Ok
returns-in-Ok c =
    let given : HasScript c.args.input.now (parts_of c.args.input.now).script = record {
      short = c.requires.short;
      tree = c.args.accepted.now.tree;
      raw = c.args.accepted.now.raw;
      program = c.args.accepted.now.program;
      accepted = c.requires.accepted;
      scenario = c.in-Ok.script;
      script = search rules;
    } in
    answered _ given _ c.reference_trace.ensures
