-- Pairs whose keys all differ, stored one after another.
use Rattle.std.proofs.Common.{◌≡◌, ℕ, zero, suc, ◌+◌, ◌<◌, ◌≤◌, false, List, [], ◌∷◌, ◌++◌, length, get_or, take, refl, sym, ap, subst, ◌∙◌, arith}
use Rattle.std.specs.List.{AllPairs}
use Rattle.std.specs.Str.{bytes_eq}
use Rattle.std.proofs.lemmas.List.{take_more}
use Rattle.m5_script.specs.declared.items.TextPair.{TextPair}
use Rattle.m5_script.specs.Pairs.{set_at}
use Rattle.m5_script.specs.Scenario.{same_key}
use Rattle.m5_keys.specs.Keys.{KeyStore}

-- a pair with a key of its own comes last
set-last : (ps : List TextPair) (i : ℕ) (q : TextPair) → i ≤ length ps → ((k : ℕ) → k < i → bytes_eq (get_or ps k q).key q.key ≡ false) → set_at (take i ps) q.key q.text ≡ take i ps ++ q ∷ []
set-last [] zero q l h = refl
set-last (p ∷ ps) zero q l h = refl
set-last [] (suc i) q l h = absurd (omega (arith, l))
set-last (p ∷ ps) (suc i) q l h = rw (h 0 (omega arith)) (ap (λ (xs : List TextPair). p ∷ xs) (set-last ps i q (omega (arith, l)) (λ k m. h (suc k) (omega (arith, m)))))

pub pairs-next : (ps : List TextPair) (i : ℕ) (q : TextPair) (old new : KeyStore) (key text : List ℕ) → i < length ps → q ≡ get_or ps i q → AllPairs (λ (x y : TextPair). same_key y.key x ≡ false) ps
    → old ≡ record { pairs = take i ps; watches = [] } → key ≡ q.key → text ≡ q.text → new ≡ record old { pairs = set_at old.pairs key text } → new ≡ record { pairs = take (i + 1) ps; watches = [] }
pairs-next ps i q old new key text l is d o a b n =
    let apart : (k : ℕ) → k < i → bytes_eq (get_or ps k q).key q.key ≡ false = λ k m. subst (λ (x : TextPair). bytes_eq (get_or ps k q).key x.key ≡ false) (sym is) (d k i q m l) in
    let last : set_at (take i ps) q.key q.text ≡ take (i + 1) ps = set-last ps i q (omega (arith, l)) apart ∙ sym (take_more ps i q l ∙ ap (λ (x : TextPair). take i ps ++ x ∷ []) (sym is)) in
    n ∙ (rw (o, a, b) (ap (λ (xs : List TextPair). record { pairs = xs; watches = [] }) last))
