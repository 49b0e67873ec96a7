use Rattle.std.proofs.Common.{sym}
use Rattle.m5_board.proofs.Telling.{still-there}
use Rattle.m5_board.proofs.tell.write_told.Goals as goal

pub unpost-requires : goal.unpost-requires
unpost-requires g c = still-there c.args.watchers.now c.args.desks.now.items c.post.new.desks.items c.post.ensures.count c.requires

pub returns-in-Err-clause-err_desks : goal.returns-in-Err-clause-err_desks
returns-in-Err-clause-err_desks g c = c.unpost.ensures.restored _ _ c.args.desks.now.items (sym c.post.ensures.count) c.in_ok-post.ensures.desks
