use Rattle.m5_board.proofs.Telling.{tells}
use Rattle.m5_board.proofs.tell.post_one.Goals as goal

pub returns-clause-desks : goal.returns-clause-desks
returns-clause-desks g c = tells c.fire.result c.args.key.now c.args.text.now c.args.watcher.now c.in_ok-trigger.trigger c.args.desks.now.items c.fire.new.desks.items c.in_ok-trigger.ensures c.fire.ensures.ok
