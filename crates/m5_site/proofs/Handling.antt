-- Handlers, one after the other.
use Rattle.std.proofs.Common.{◌≡◌, ℕ, zero, suc, ◌+◌, ◌<◌, List, [], ◌∷◌, length, drop, get_or, refl, sym, ap, arith, ◌∙◌, false, true, Option, Some, None, is_some, slice_get}
use Rattle.m5_terms.specs.declared.ask.Cause.{Cause}
use Rattle.m5_site.specs.declared.state.State.{State}
use Rattle.m5_site.specs.Making.{unless_due}
use Rattle.m5_site.specs.Answers.{handled_by, all_handled}

pub none_is : (m : Option Cause) → is_some m ≡ false → m ≡ None
none_is None h = refl
none_is (Some c) h = absurd (let wrong : true ≡ false = h in cc)

-- the next handler in order, which fits
next_handled : (finish : ℕ) (t ns : List ℕ) (i : ℕ) (x y : State) → i < length ns → y ≡ handled_by finish t (slice_get x.handlers (get_or ns i 0)) x → y.due ≡ None → all_handled finish t (drop i ns) x ≡ all_handled finish t (drop (suc i) ns) y
next_handled finish t [] i x y l e d = absurd (omega arith)
next_handled finish t (n ∷ ns) zero x y l e d =
    ap (λ (z : State). unless_due z.due z (all_handled finish t ns)) (sym e)
    ∙ ap (λ (c : Option Cause). unless_due c y (all_handled finish t ns)) d
next_handled finish t (n ∷ ns) (suc i) x y l e d = next_handled finish t ns i x y (omega arith) e d

pub handled_next : (finish : ℕ) (t ns : List ℕ) (i : ℕ) (x y : State) → i < length ns → y ≡ handled_by finish t (slice_get x.handlers (get_or ns i 0)) x → y.due ≡ None → all_handled finish t (drop i ns) x ≡ all_handled finish t (drop (i + 1) ns) y
handled_next finish t ns i x y l e d =
    let n : suc i ≡ i + 1 = omega arith in
    next_handled finish t ns i x y l e d ∙ ap (λ (k : ℕ). all_handled finish t (drop k ns) y) n
