use Rattle.std.proofs.Common.{refl, rules}
use Rattle.m5_cli.proofs.due.script_in.Goals as goal

-- the first bad line is that of the input's script
pub returns-in_ok-script_text-in-Err-Line-clause-bad : goal.returns-in_ok-script_text-in-Err-Line-clause-bad
returns-in_ok-script_text-in-Err-Line-clause-bad c = (
  refl,
  record {
    source = search rules;
    bad = record { line = c.in-Err-Line.number; kind = c.in-Err-Line.kind };
    script = search rules;
    line = search rules;
  },
)
