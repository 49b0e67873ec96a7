use Rattle.std.proofs.Common.{◌≡◌, ℕ, ◌+◌, List, [], ◌∷◌, length, sym, ap, subst, ◌∙◌, arith}
use Rattle.std.proofs.lemmas.List.{length-append}
use Rattle.m5_net.specs.Opening.{IsOpenedRow, AreRows}
use Rattle.m5_net.specs.Sites.{SessionSites}
use Rattle.m5_net.proofs.OpenedRuns.{one_row}
use Rattle.m5_net.proofs.opening.open_sites.Goals as goal

pub loop-before-preserved : goal.loop-before-preserved
loop-before-preserved c =
    let O = c.args.object.now in
    let n = c.args.limits in
    let rows = c.loop-before.sites.items in
    let row = c.in_ok-open_session.field-0 in
    let count : length rows ≡ c.loop-before.before = c.loop-before.invariant.1 in
    let next : IsOpenedRow O n (1 + length rows) row = subst (λ (s : ℕ). IsOpenedRow O n s row) (omega (arith, count)) c.in_ok-open_session.ensures in
    let items = c.in_ok-push.ensures.items in
    let more : length c.push.new.self.items ≡ length rows + 1 = ap length items ∙ length-append rows (row ∷ []) in
    (subst (λ (rs : List SessionSites). AreRows O n 1 rs) (sym items) (one_row O n 1 rows row c.loop-before.invariant.0 next), omega (arith, more, count))
