use Rattle.std.proofs.Common.{rules, ◌≡◌, ◌<◌, ◌^◌, length, Some, arith, sym, ap, ◌∙◌, subst}
use Rattle.std.specs.List.{All}
use mathlib.Core.List.{IsPrefix}
use Rattle.m5_hall.specs.History.{entry_count, HasOwn}
use Rattle.m5_hall.specs.Passes.{Known, IsWhole}
use Rattle.m5_hall.proofs.Ends.{ended, home_at, origin_at}
use Rattle.m5_hall.proofs.hall.Hall.close.Goals as goal

pub returns-then-drawn-served-clause-drawn : goal.returns-then-drawn-served-clause-drawn
returns-then-drawn-served-clause-drawn g c =
    let e = ended _ _ _ _ _ _ c.pass.inside.seat.me.0 _ _ _ c.pass.invariant.1 c.close_with-closed.ensures.values.2 c.word-drawn.ensures c.word-served.ensures c.take-slot.ensures.value in
    let more = e.ordered in
    let differ = c.if-drawn-served.true in
    (omega arith, λ whole. differ (e.whole (subst IsWhole (sym c.pass.view_is) whole)))

pub unreachable-requires : goal.unreachable-requires
unreachable-requires g c =
    let e = ended _ _ _ _ _ _ c.pass.inside.seat.me.0 _ _ _ c.pass.invariant.1 c.close_with-closed.ensures.values.2 c.word-drawn.ensures c.word-served.ensures c.take-slot.ensures.value in
    let h = e.home c.if-drawn-served.false in
    c.in_default.not-Some h.0 h.1

pub invariant_of-result : goal.invariant_of-result
invariant_of-result g c =
    let e = ended _ _ _ _ _ _ c.pass.inside.seat.me.0 _ _ _ c.pass.invariant.1 c.close_with-closed.ensures.values.2 c.word-drawn.ensures c.word-served.ensures c.take-slot.ensures.value in
    let few = e.few in
    let below : c.word-served.result < 2 ^ 64 = search rules in
    let counts = c.pass.invariant.4 in
    let same : entry_count c.of-known.result.value.own ≡ entry_count c.pass.inside.seat.me.0.own = ap (λ p. entry_count p.own) (c.of-known.ensures ∙ sym c.pass.view_is) in
    omega arith

pub returns-clause-seen : goal.returns-clause-seen
returns-clause-seen g c =
    let e = ended _ _ _ _ _ _ c.pass.inside.seat.me.0 _ _ (Some c.in-Some.value) c.pass.invariant.1 c.close_with-closed.ensures.values.2 c.word-drawn.ensures c.word-served.ensures c.in-Some.ensures.value in
    let w = home_at _ _ _ _ _ _ e c.if-drawn-served.false in
    subst (λ (p : Known g.row.T-Entry.Denot g.row.T-Origin.Denot). All (λ s. IsPrefix s (g.T.Kept.history c.in-Some.value)) p.seen) c.pass.view_is w.seen_is

pub returns-clause-origin : goal.returns-clause-origin
returns-clause-origin g c =
    let e = ended _ _ _ _ _ _ c.pass.inside.seat.me.0 _ _ (Some c.in-Some.value) c.pass.invariant.1 c.close_with-closed.ensures.values.2 c.word-drawn.ensures c.word-served.ensures c.in-Some.ensures.value in
    let w = home_at _ _ _ _ _ _ e c.if-drawn-served.false in
    ap (λ p. p.origin) (sym c.pass.view_is) ∙ origin_at c.pass.inside.seat.me.0.origin _ c.pass.invariant.6 w.origin_is

pub returns-clause-own : goal.returns-clause-own
returns-clause-own g c =
    let e = ended _ _ _ _ _ _ c.pass.inside.seat.me.0 _ _ (Some c.in-Some.value) c.pass.invariant.1 c.close_with-closed.ensures.values.2 c.word-drawn.ensures c.word-served.ensures c.in-Some.ensures.value in
    let w = home_at _ _ _ _ _ _ e c.if-drawn-served.false in
    subst (λ (p : Known g.row.T-Entry.Denot g.row.T-Origin.Denot). HasOwn (g.T.Kept.history c.in-Some.value) p.own) c.pass.view_is w.own_is

pub returns-clause-whole : goal.returns-clause-whole
returns-clause-whole g c =
    let e = ended _ _ _ _ _ _ c.pass.inside.seat.me.0 _ _ (Some c.in-Some.value) c.pass.invariant.1 c.close_with-closed.ensures.values.2 c.word-drawn.ensures c.word-served.ensures c.in-Some.ensures.value in
    let w = home_at _ _ _ _ _ _ e c.if-drawn-served.false in
    subst (λ (p : Known g.row.T-Entry.Denot g.row.T-Origin.Denot). IsWhole p → entry_count p.own ≡ length (g.T.Kept.history c.in-Some.value)) c.pass.view_is w.whole
