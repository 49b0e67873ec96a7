use Rattle.std.proofs.Common.{sym, ◌∙◌, arith}
use Rattle.m5_board.specs.Boards.{desk_at}
use Rattle.m5_board.proofs.DeskChanges.{same-desks}
use Rattle.m5_board.proofs.Telling.{untold-next, told-none}
use Rattle.m5_board.proofs.tell.unpost.Goals as goal

pub loop-left-preserved : goal.loop-left-preserved
loop-left-preserved g c = (
  omega (arith, c.loop-left.invariant.0),
  (
    c.unfire.ensures.count ∙ c.loop-left.invariant.1.0,
    λ key text f told.
        untold-next c.args.watchers.now c.loop-left.left _ (desk_at c.loop-left.desks.items) (desk_at c.unfire.new.desks.items) c.loop-left-test.true c.loop-left.invariant.0 c.unfire.ensures.trigger key text f (c.loop-left.invariant.1.1 key text f told),
  ),
)

pub returns-clause-restored : goal.returns-clause-restored
returns-clause-restored g c = λ key text before count told.
    same-desks c.loop-left.desks.items before (c.loop-left.invariant.1.0 ∙ sym count)
    (told-none key text c.args.watchers.now c.loop-left.left _ (desk_at before) c.loop-left-test.false (c.loop-left.invariant.1.1 key text (desk_at before) told))
