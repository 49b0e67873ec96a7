use Rattle.m5_source_site.proofs.Closing.{stays_closed, keeps-closed}
use Rattle.m5_source_site.proofs.next.next_step.Goals as goal

pub returns-clause-closed : goal.returns-clause-closed
returns-clause-closed c = keeps-closed c.args.program.now c.args.here c.next_of.result _ c.next_of.ensures (stays_closed c.args.program.now c.args.here c.args.site c.closed_holds.ensures c.requires.closed)
