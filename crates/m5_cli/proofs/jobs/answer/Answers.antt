use Rattle.std.proofs.Common.{refl}
use Rattle.m5_cli.proofs.jobs.answer.Goals as goal

-- want of memory may come at any input
pub returns-in-Err-clause-leaves : goal.returns-in-Err-clause-leaves
returns-in-Err-clause-leaves g c = c.finish-in-Err.ensures.leaves c.args.job c.args.input.now refl

pub returns-in-Err-clause-complete : goal.returns-in-Err-clause-complete
returns-in-Err-clause-complete g c = c.finish-in-Err.ensures.complete c.args.job c.args.input.now refl
