use Rattle.std.proofs.Common.{List, Option, ap, ◌∙◌, subst}
use Rattle.std.specs.List.{All}
use mathlib.Core.List.{IsPrefix}
use Rattle.atomic_table.specs.Table.{Me}
use Rattle.m5_hall.specs.declared.views.View.{View}
use Rattle.m5_hall.specs.Passes.{Known}
use Rattle.m5_hall.proofs.Leaves.{served_value}
use Rattle.m5_hall.proofs.hall.Hall.enter.Goals as goal

pub returns-clause-seen : goal.returns-clause-seen
returns-clause-seen g c =
    let all = served_value g.T.Kept.history g.T.Kept.origin c.draw-ticket.result c.draw-ticket.new.seat.me c.wait.new.seat.me c.take-value.result c.take-value.ensures.value c.wait.ensures.served in
    subst (λ (seen : List (List g.row.T-Entry.Denot)). All (λ s. IsPrefix s (g.T.Kept.history c.take-value.result)) seen) (ap (λ (m : Me (Option g.row.T.Denot) (View g.row.T-Entry.Denot g.row.T-Origin.Denot)). m.0.seen) c.draw-ticket.ensures.drawn ∙ ap (λ (p : Known g.row.T-Entry.Denot g.row.T-Origin.Denot). p.seen) c.pass.view_is) all
