-- Histories that grow, and whose entries they have.
use Rattle.std.proofs.Common.{◌≡◌, ◌≢◌, ℕ, suc, ◌+◌, ◌≤◌, ◌<◌, ◌==◌, eqb, List, [], ◌∷◌, ◌++◌, length, get_or, map, cond, Bool, refl, sym, ap, ◌∙◌, arith, append_assoc, append-nil, eq-eqb, ne_eqb}
use Rattle.std.specs.List.{All, filter}
use Rattle.std.proofs.lemmas.List.{map-append}
use Rattle.std.proofs.lemmas.List.Elements.{filter-append, All-head, All-tail, All-nil, All-cons}
use Rattle.std.proofs.lemmas.List.Sums.{get_or-le-sum_by, sum_by-cons}
use mathlib.Core.List.{IsPrefix}
use Rattle.m5_hall.specs.History.{entries, made_by, times}

abbrev pub one_if : Bool → ℕ
one_if b = cond b 1 0

module _ {E : Type 0} where
  -- these entries under one number
  abbrev pub named : ℕ → List E → List (ℕ × E)
  named n news = map (λ e. (n, e)) news

  pub length-named : (n : ℕ) (news : List E) → length (named n news) ≡ length news
  length-named n [] = refl
  length-named n (e ∷ es) = ap suc (length-named n es)

  pub prefix_more : (s xs ys : List E) → IsPrefix s xs → IsPrefix s (xs ++ ys)
  prefix_more s xs ys p = (p.0 ++ ys, sym (append_assoc s p.0 ys) ∙ ap (λ l. l ++ ys) p.1)

  entries_named : (n : ℕ) (news : List E) → entries (named n news) ≡ news
  entries_named n [] = refl
  entries_named n (e ∷ es) = ap (λ l. e ∷ l) (entries_named n es)

  pub entries_more : (log : List (ℕ × E)) (n : ℕ) (news : List E) → entries (log ++ named n news) ≡ entries log ++ news
  entries_more log n news = map-append (λ x. x.1) log (named n news) ∙ ap (λ l. entries log ++ l) (entries_named n news)

  made-append : (n : ℕ) (xs ys : List (ℕ × E)) → made_by n (xs ++ ys) ≡ made_by n xs ++ made_by n ys
  made-append n xs ys = ap (map (λ x. x.1)) (filter-append (λ x. x.0 == n) xs ys) ∙ map-append (λ x. x.1) (filter (λ x. x.0 == n) xs) (filter (λ x. x.0 == n) ys)

  made_own : (n : ℕ) (news : List E) → made_by n (named n news) ≡ news
  made_own n [] = refl
  made_own n (e ∷ es) =
      ap (λ (b : Bool). map (λ (x : ℕ × E). x.1) (cond b ((n, e) ∷ filter (λ x. x.0 == n) (named n es)) (filter (λ x. x.0 == n) (named n es)))) (eq-eqb n n refl)
      ∙ ap (λ l. e ∷ l) (made_own n es)

  made_other : (m n : ℕ) (news : List E) → n ≢ m → made_by m (named n news) ≡ []
  made_other m n [] apart = refl
  made_other m n (e ∷ es) apart =
      ap (λ (b : Bool). map (λ (x : ℕ × E). x.1) (cond b ((n, e) ∷ filter (λ x. x.0 == m) (named n es)) (filter (λ x. x.0 == m) (named n es)))) (ne_eqb n m apart)
      ∙ made_other m n es apart

  pub made_more : (n : ℕ) (log : List (ℕ × E)) (news : List E) → made_by n (log ++ named n news) ≡ made_by n log ++ news
  made_more n log news = made-append n log (named n news) ∙ ap (λ l. made_by n log ++ l) (made_own n news)

  pub made_same : (m n : ℕ) (log : List (ℕ × E)) (news : List E) → n ≢ m → made_by m (log ++ named n news) ≡ made_by m log
  made_same m n log news apart = made-append m log (named n news) ∙ (ap (λ l. made_by m log ++ l) (made_other m n news apart) ∙ append-nil (made_by m log))

  pub none_made : (n : ℕ) (log : List (ℕ × E)) → All (λ x. x.0 < n) log → made_by n log ≡ []
  none_made n [] below = refl
  none_made n (x ∷ xs) below = let first = All-head (λ (y : ℕ × E). y.0 < n) x xs below in
      ap (λ (b : Bool). map (λ (y : ℕ × E). y.1) (cond b (x ∷ filter (λ y. y.0 == n) xs) (filter (λ y. y.0 == n) xs))) (ne_eqb x.0 n (λ e. omega arith))
      ∙ none_made n xs (All-tail (λ (y : ℕ × E). y.0 < n) x xs below)

  pub none_here : (n : ℕ) (own : List (ℕ × List E)) → All (λ x. x.0 < n) own → times n own ≡ 0
  none_here n [] below = refl
  none_here n (x ∷ xs) below = let first = All-head (λ (y : ℕ × List E). y.0 < n) x xs below in
      let here : one_if (eqb x.0 n) ≡ 0 = ap one_if (ne_eqb x.0 n (λ e. omega arith)) in
      omega (arith, sum_by-cons (λ (y : ℕ × List E). one_if (y.0 == n)) x xs, here, none_here n xs (All-tail (λ (y : ℕ × List E). y.0 < n) x xs below))

  -- a number has a list where one of the lists has it
  pub once_there : (n : ℕ) (own : List (ℕ × List E)) (k : ℕ) (d : ℕ × List E) → k < length own → (get_or own k d).0 ≡ n → 1 ≤ times n own
  once_there n own k d inside is =
      let one : one_if (eqb (get_or own k d).0 n) ≡ 1 = ap one_if (eq-eqb (get_or own k d).0 n is) in
      omega (arith, get_or-le-sum_by (λ (y : ℕ × List E). one_if (y.0 == n)) own k d inside, one)

  pub first_there : (n : ℕ) (es : List E) (rest : List (ℕ × List E)) → times n ((n, es) ∷ rest) ≡ 1 + times n rest
  first_there n es rest =
      let one : one_if (eqb n n) ≡ 1 = ap one_if (eq-eqb n n refl) in
      omega (arith, sum_by-cons (λ (y : ℕ × List E). one_if (y.0 == n)) (n, es) rest, one)

  pub All-named : (m n : ℕ) (news : List E) → n < m → All (λ x. x.0 < m) (named n news)
  All-named m n [] below = All-nil (λ (x : ℕ × E). x.0 < m)
  All-named m n (e ∷ es) below = All-cons (λ (x : ℕ × E). x.0 < m) (n, e) (named n es) below (All-named m n es below)
