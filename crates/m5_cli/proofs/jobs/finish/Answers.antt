use Rattle.m5_cli.proofs.Completing.{due_completes}
use Rattle.m5_cli.proofs.jobs.finish.Goals as goal

-- what is due is a completed job's, or the job does not take the input
pub returns-in-Ok-clause-complete : goal.returns-in-Ok-clause-complete
returns-in-Ok-clause-complete g c = λ job input. due_completes job input c.args.status c.args.due.now
