use Rattle.std.proofs.Common.{[], ◌∷◌, ◌++◌, Some, append-nil, ap, sym, ◌∙◌}
use Rattle.m5_hall.specs.Steps.{first_of}
use Rattle.m5_hall.proofs.Leaves.{may_leave}
use Rattle.m5_hall.proofs.hall.Hall.leave.Goals as goal

pub done_with_one-requires-clause-leaves : goal.done_with_one-requires-clause-leaves
done_with_one-requires-clause-leaves g c =
    let i = c.turn.invariant in
    let is = c.turn.view_is in
    let e = c.requires.one c.if-added.true in (
      c.turn.inside.value,
      e.0,
      may_leave g.T.Kept.history g.T.Kept.origin c.turn.inside.seat.me.0 (first_of c.turn.inside.seat.me.0.seen) (e.0 ∷ []) c.turn.inside.value c.give.new.seat.me i.1.0 c.give.ensures.full i.1.1 i.2 i.6
          (ap (λ t. g.T.Kept.history t.value) is ∙ e.1 ∙ ap (λ t. t.history ++ e.0 ∷ []) (sym is))
          (ap (λ t. t.pass.origin) is ∙ c.requires.origin ∙ ap (λ t. Some (g.T.Kept.origin t.value)) (sym is)),
    )

pub done_with_none-requires-clause-leaves : goal.done_with_none-requires-clause-leaves
done_with_none-requires-clause-leaves g c =
    let i = c.turn.invariant in
    let is = c.turn.view_is in (
      c.turn.inside.value,
      may_leave g.T.Kept.history g.T.Kept.origin c.turn.inside.seat.me.0 (first_of c.turn.inside.seat.me.0.seen) [] c.turn.inside.value c.give.new.seat.me i.1.0 c.give.ensures.full i.1.1 i.2 i.6
          (ap (λ t. g.T.Kept.history t.value) is ∙ c.requires.none c.if-added.false ∙ ap (λ t. t.history) (sym is) ∙ sym (append-nil _))
          (ap (λ t. t.pass.origin) is ∙ c.requires.origin ∙ ap (λ t. Some (g.T.Kept.origin t.value)) (sym is)),
    )
