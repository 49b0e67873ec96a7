use Rattle.std.proofs.Common.{sym, ap, subst, ◌∙◌}
use Rattle.std.specs.Prelude.{length}
use Rattle.m5_meaning.specs.Site.{Item}
use Rattle.m5_script.specs.Trace.{line_of}
use Rattle.m5_board.specs.Boards.{BoardLists, board_of}
use Rattle.m5_sites.specs.ClosedSites.{IsClosedBoard}
use Rattle.m5_replay.specs.Lines.{place_at}
use Rattle.m5_replay.proofs.Advances.{advances, other-text, not-true}
use Rattle.m5_replay.proofs.Readies.{ready-after}
use Rattle.m5_replay.proofs.check.compare.Goals as goal

pub returns-in_default-clause-checked : goal.returns-in_default-clause-checked
returns-in_default-clause-checked c = λ P S N before ds settled stands made settles from to named. record {
  differs = λ d M t e. (rw c.in_default.is at made) d M t;
  within = λ i. (settled, settles);
}

pub returns-then-not-branch-clause-checked : goal.returns-then-not-branch-clause-checked
returns-then-not-branch-clause-checked c = λ P S N before ds settled stands made settles from to named.
    let m = rw c.in-Deed.is at made in
    other-text P S N before c.args.line.now c.args.name settled (place_at c.args.line.now c.args.name) _ m.deed m.step
    (λ q. not-true _ c.if-not-branch.true (c.in_ok-is_line_of.ensures.1 (q ∙ ap line_of m.entry))) settles

pub returns-clause-checked : goal.returns-clause-checked
returns-clause-checked c = λ P S N before ds settled stands made settles from to named.
    let m = rw c.in-Deed.is at made in
    advances P S N before c.args.gained.0 c.args.gained.1 c.in-Deed.after ds c.args.line.now c.args.name settled c.in-Deed.left c.in-Deed.act c.args.running.now c.advance.new.running stands m settles from to named
    (c.in_ok-is_line_of.ensures.0 c.if-not-branch.false) c.in_ok-advance.ensures.put c.in_ok-advance.ensures.board (c.in_ok-advance.ensures.weight ∙ c.in_ok-weight.ensures) c.in_ok-advance.ensures.stops

pub returns-clause-ready : goal.returns-clause-ready
returns-clause-ready c = λ n h made.
    ready-after n c.args.name c.in-Deed.left c.args.running.now c.advance.new.running h (rw c.in-Deed.is at made) c.in_ok-advance.ensures.put c.in_ok-advance.ensures.count
    (ap (λ (b : BoardLists Item). length b.desks) c.in_ok-advance.ensures.board) (subst (λ (b : BoardLists Item). IsClosedBoard (board_of b)) (sym c.in_ok-advance.ensures.board) h.links)
