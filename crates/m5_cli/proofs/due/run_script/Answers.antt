use Rattle.std.proofs.Common.{rules}
use Rattle.m5_cli.proofs.due.run_script.Goals as goal

-- program and script are given, and of the first form
pub returns-in-Some : goal.returns-in-Some
returns-in-Some c = record { given = search rules; first = search rules; runs = search rules }

-- they are given, and one is not of the first form
pub returns-in_ok-of-in-None : goal.returns-in_ok-of-in-None
returns-in_ok-of-in-None c = record { given = search rules; other = search rules; line = search rules }
