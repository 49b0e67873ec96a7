use Rattle.std.proofs.Common.{◌≡◌, List, refl, sym, ap, ◌∙◌}
use Rattle.std.specs.Prelude.{Some, slice_get}
use Rattle.m5_network.specs.Board.{Desk}
use Rattle.m5_board.specs.Boards.{desk_at}
use Rattle.m5_board.proofs.Answering.{a-trigger}
use Rattle.m5_board.proofs.board.Board.take_trigger.Goals as goal

pub returns-in_ok-answered-in-Some-clause-answered : goal.returns-in_ok-answered-in-Some-clause-answered
returns-in_ok-answered-in-Some-clause-answered g c =
    let first : Some c.in-Some.trigger ≡ slice_get (desk_at c.self.inside.desks.items c.args.session).triggers 0 = sym c.in-Some.is ∙ (c.in_ok-trigger.ensures ∙ ap (λ (ds : List (Desk _)). slice_get (desk_at ds c.args.session).triggers 0) c.as_slice.ensures.value) in
    a-trigger (g.I.Item.has_seal c.args.session) c.take_trigger.result _ _ _ c.args.session c.in-Some.trigger c.in_ok-answered-in-Some.answered c.self.view_is first c.take_trigger.ensures refl refl
    c.in_ok-answered-in-Some.ensures.reply c.in_ok-answered-in-Some.ensures.act
