use Rattle.m5_close.proofs.Programs.{closed_is_program}
use Rattle.m5_close.proofs.laws.closed_is_program_holds.Goals as goal

pub returns : goal.returns
returns c = closed_is_program
