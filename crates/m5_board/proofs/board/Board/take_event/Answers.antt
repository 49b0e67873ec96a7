use Rattle.std.proofs.Common.{◌≡◌, List, refl, sym, ap, ◌∙◌}
use Rattle.std.specs.Prelude.{Some, slice_get}
use Rattle.m5_network.specs.Board.{Desk}
use Rattle.m5_board.specs.Boards.{desk_at}
use Rattle.m5_board.proofs.Answering.{an-event}
use Rattle.m5_board.proofs.board.Board.take_event.Goals as goal

pub returns-in_ok-answered-in-Some-clause-answered : goal.returns-in_ok-answered-in-Some-clause-answered
returns-in_ok-answered-in-Some-clause-answered g c =
    let first : Some c.in-Some.event ≡ slice_get (desk_at c.self.inside.desks.items c.args.session).events 0 = sym c.in-Some.is ∙ (c.in_ok-event.ensures ∙ ap (λ (ds : List (Desk _)). slice_get (desk_at ds c.args.session).events 0) c.as_slice.ensures.value) in
    an-event (g.I.Item.has_seal c.args.session) c.take_event.result _ _ _ c.args.session c.in-Some.event c.in_ok-answered-in-Some.answered c.self.view_is first c.take_event.ensures refl refl
    (rw c.as_slice-in-Some.ensures.value at c.in_ok-answered-in-Some.ensures.reply) c.in_ok-answered-in-Some.ensures.act
