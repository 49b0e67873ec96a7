use Rattle.std.proofs.Common.{sym, ◌∙◌, ap}
use Rattle.m5_board.specs.Boards.{desk_at}
use Rattle.m5_board.proofs.Telling.{told-next, told-all}
use Rattle.m5_board.proofs.tell.post.Goals as goal

pub loop-index-preserved : goal.loop-index-preserved
loop-index-preserved g c = (
  told-next c.args.key.now c.args.text.now c.args.watchers.now c.loop-index.index _ (desk_at c.loop-index.desks.items) (desk_at c.post_one.new.desks.items) _ c.loop-index-test.true c.loop-index.invariant.0 c.in-Ok.ensures.desks,
  c.post_one.ensures.count ∙ c.loop-index.invariant.1,
)

pub returns-in-Err-clause-err : goal.returns-in-Err-clause-err
returns-in-Err-clause-err g c = c.unpost.ensures.restored c.args.key.now c.args.text.now c.args.desks.now.items (sym (c.post_one.ensures.count ∙ c.loop-index.invariant.1)) (ap desk_at c.in-Err.ensures.err ∙ c.loop-index.invariant.0)

pub returns-clause-desks : goal.returns-clause-desks
returns-clause-desks g c = told-all c.args.key.now c.args.text.now c.args.watchers.now c.loop-index.index (desk_at c.loop-index.desks.items) _ c.loop-index-test.false c.loop-index.invariant.0
