-- How many entries lists of own entries have, beside a whole history.
use Rattle.std.proofs.Common.{◌≡◌, ◌≢◌, ℕ, zero, suc, ◌+◌, ◌≤◌, ◌<◌, ◌==◌, eqb, Bool, cond, List, [], ◌∷◌, length, map, refl, sym, ap, ◌∙◌, subst, arith, eq-eqb, ne_eqb}
use Rattle.std.specs.List.{All, Contains, filter, sum_by}
use Rattle.std.proofs.lemmas.List.Elements.{All-head, All-tail, All-nil, All-cons}
use Rattle.std.proofs.lemmas.List.Sums.{sum_by-cons}
use mathlib.Core.Logic.{dite}
use native.Mathlib.Decide.{ℕ_discrete}
use Rattle.m5_hall.specs.History.{made_by, times, entry_count}
use Rattle.m5_hall.proofs.Logs.{one_if}

module _ {E : Type 0} where
  -- no number has two lists
  abbrev pub IsOnce : List (ℕ × List E) → Type 0
  IsOnce own = (n : ℕ) → times n own ≤ 1

  -- how many of the log's entries these lists have
  abbrev made : List (ℕ × List E) → List (ℕ × E) → ℕ
  made own log = sum_by (λ x. length (made_by x.0 log)) own

  abbrev counted : List (ℕ × List E) → List (ℕ × E) → ℕ
  counted own log = sum_by (λ e. times e.0 own) log

  times-cons : (n : ℕ) (x : ℕ × List E) (own : List (ℕ × List E)) → times n (x ∷ own) ≡ one_if (eqb x.0 n) + times n own
  times-cons n x own = sum_by-cons (λ (y : ℕ × List E). one_if (y.0 == n)) x own

  one_more : (n : ℕ) (e : ℕ × E) (log : List (ℕ × E)) → length (made_by n (e ∷ log)) ≡ one_if (eqb n e.0) + length (made_by n log)
  one_more n e log = dite (ℕ_discrete e.0 n)
      (λ (same : e.0 ≡ n).
      let a : length (made_by n (e ∷ log)) ≡ suc (length (made_by n log)) = ap (λ (b : Bool). length (map (λ (x : ℕ × E). x.1) (cond b (e ∷ filter (λ x. x.0 == n) log) (filter (λ x. x.0 == n) log)))) (eq-eqb e.0 n same) in
      let b : one_if (eqb n e.0) ≡ 1 = ap one_if (eq-eqb n e.0 (sym same)) in
      omega arith)
      (λ (apart : e.0 ≡ n → ⊥).
      let a : length (made_by n (e ∷ log)) ≡ length (made_by n log) = ap (λ (b : Bool). length (map (λ (x : ℕ × E). x.1) (cond b (e ∷ filter (λ x. x.0 == n) log) (filter (λ x. x.0 == n) log)))) (ne_eqb e.0 n apart) in
      let b : one_if (eqb n e.0) ≡ 0 = ap one_if (ne_eqb n e.0 (λ same. apart (sym same))) in
      omega arith)

  made-cons : (own : List (ℕ × List E)) (e : ℕ × E) (log : List (ℕ × E)) → made own (e ∷ log) ≡ times e.0 own + made own log
  made-cons [] e log = refl
  made-cons (x ∷ xs) e log = omega (
    arith,
    sum_by-cons (λ (y : ℕ × List E). length (made_by y.0 (e ∷ log))) x xs,
    sum_by-cons (λ (y : ℕ × List E). length (made_by y.0 log)) x xs,
    times-cons e.0 x xs,
    one_more x.0 e log,
    made-cons xs e log,
  )

  made-nil : (own : List (ℕ × List E)) → made own [] ≡ 0
  made-nil [] = refl
  made-nil (x ∷ xs) = omega (arith, sum_by-cons (λ (y : ℕ × List E). length {A = E} (made_by {E = E} y.0 [])) x xs, made-nil xs)

  made_counted : (own : List (ℕ × List E)) (log : List (ℕ × E)) → made own log ≡ counted own log
  made_counted own [] = made-nil own
  made_counted own (e ∷ log) = omega (arith, made-cons own e log, sum_by-cons (λ (x : ℕ × E). times x.0 own) e log, made_counted own log)

  -- the lists have the entries of their numbers
  entries_made : (log : List (ℕ × E)) (own : List (ℕ × List E)) → All (λ x. made_by x.0 log ≡ x.1) own → entry_count own ≡ made own log
  entries_made log [] all = refl
  entries_made log (x ∷ xs) all =
      let here : length (made_by x.0 log) ≡ length x.1 = ap length (All-head (λ (y : ℕ × List E). made_by y.0 log ≡ y.1) x xs all) in
      omega (
        arith,
        sum_by-cons (λ (y : ℕ × List E). length y.1) x xs,
        sum_by-cons (λ (y : ℕ × List E). length (made_by y.0 log)) x xs,
        entries_made log xs (All-tail (λ (y : ℕ × List E). made_by y.0 log ≡ y.1) x xs all),
      )

  counted_at_most : (own : List (ℕ × List E)) → IsOnce own → (log : List (ℕ × E)) → counted own log ≤ length log
  counted_at_most own once [] = omega arith
  counted_at_most own once (e ∷ log) = omega (arith, sum_by-cons (λ (x : ℕ × E). times x.0 own) e log, once e.0, counted_at_most own once log)

  counted_at_least : (own : List (ℕ × List E)) (log : List (ℕ × E)) → All (λ e. 1 ≤ times e.0 own) log → length log ≤ counted own log
  counted_at_least own [] all = omega arith
  counted_at_least own (e ∷ log) all =
      let here = All-head (λ (x : ℕ × E). 1 ≤ times x.0 own) e log all in
      omega (arith, sum_by-cons (λ (x : ℕ × E). times x.0 own) e log, counted_at_least own log (All-tail (λ (x : ℕ × E). 1 ≤ times x.0 own) e log all))

  -- a number that has a list is among the numbers
  number_there : (n : ℕ) (own : List (ℕ × List E)) → 1 ≤ times n own → Contains (map (λ x. x.0) own) n
  number_there n [] some_there = absurd (omega arith)
  number_there n (x ∷ xs) some_there = dite (ℕ_discrete x.0 n)
      (λ (same : x.0 ≡ n). (0, omega arith, same))
      (λ (apart : x.0 ≡ n → ⊥).
      let none_here : one_if (eqb x.0 n) ≡ 0 = ap one_if (ne_eqb x.0 n apart) in
      let c = times-cons n x xs in
      let further = number_there n xs (omega arith) in
      let inside = further.1 in
      (suc further.0, omega arith, further.2))

  all_there : (own : List (ℕ × List E)) → IsOnce own → (log : List (ℕ × E)) → counted own log ≡ length log → All (λ e. Contains (map (λ x. x.0) own) e.0) log
  all_there own once [] full = All-nil (λ (e : ℕ × E). Contains (map (λ x. x.0) own) e.0)
  all_there own once (e ∷ log) full =
      let a = sum_by-cons (λ (x : ℕ × E). times x.0 own) e log in
      let b = once e.0 in
      let c = counted_at_most own once log in
      All-cons (λ (x : ℕ × E). Contains (map (λ y. y.0) own) x.0) e log (number_there e.0 own (omega arith)) (all_there own once log (omega arith))

  -- the lists have at most the entries that there are, and no others where they have as many
  pub at_most_all : (own : List (ℕ × List E)) (log : List (ℕ × E)) → IsOnce own → All (λ x. made_by x.0 log ≡ x.1) own → entry_count own ≤ length log
  at_most_all own log once all = omega (arith, entries_made log own all, made_counted own log, counted_at_most own once log)

  pub no_others : (own : List (ℕ × List E)) (log : List (ℕ × E)) → IsOnce own → All (λ x. made_by x.0 log ≡ x.1) own → entry_count own ≡ length log → All (λ x. Contains (map (λ o. o.0) own) x.0) log
  no_others own log once all full = all_there own once log (sym (made_counted own log) ∙ (sym (entries_made log own all) ∙ full))

  pub at_least_all : (own : List (ℕ × List E)) (log : List (ℕ × E)) → All (λ x. made_by x.0 log ≡ x.1) own → All (λ e. 1 ≤ times e.0 own) log → length log ≤ entry_count own
  at_least_all own log all every = omega (arith, entries_made log own all, made_counted own log, counted_at_least own log every)

  -- how many lists have a number below n
  abbrev upto : ℕ → List (ℕ × List E) → ℕ
  upto zero own = 0
  upto (suc n) own = upto n own + times n own

  upto_above : (n : ℕ) (x : ℕ × List E) (own : List (ℕ × List E)) → n ≤ x.0 → upto n (x ∷ own) ≡ upto n own
  upto_above zero x own above = refl
  upto_above (suc n) x own above =
      let not_here : one_if (eqb x.0 n) ≡ 0 = ap one_if (ne_eqb x.0 n (λ same. omega arith)) in
      omega (arith, times-cons n x own, upto_above n x own (omega arith))

  upto_below : (n : ℕ) (x : ℕ × List E) (own : List (ℕ × List E)) → x.0 < n → upto n (x ∷ own) ≡ suc (upto n own)
  upto_below zero x own below = absurd (omega arith)
  upto_below (suc n) x own below = dite (ℕ_discrete x.0 n)
      (λ (same : x.0 ≡ n).
      let here : one_if (eqb x.0 n) ≡ 1 = ap one_if (eq-eqb x.0 n same) in
      omega (arith, times-cons n x own, upto_above n x own (omega arith)))
      (λ (apart : x.0 ≡ n → ⊥).
      let not_here : one_if (eqb x.0 n) ≡ 0 = ap one_if (ne_eqb x.0 n apart) in
      let apart' : x.0 ≢ n = apart in
      omega (arith, times-cons n x own, upto_below n x own (omega arith)))

  upto_all : (n : ℕ) (own : List (ℕ × List E)) → All (λ x. x.0 < n) own → upto n own ≡ length own
  upto_all n [] all = upto-nil n
    where
      upto-nil : (k : ℕ) → upto k [] ≡ 0
      upto-nil zero = refl
      upto-nil (suc k) = omega (arith, upto-nil k)
  upto_all n (x ∷ xs) all = upto_below n x xs (All-head (λ (y : ℕ × List E). y.0 < n) x xs all) ∙ ap suc (upto_all n xs (All-tail (λ (y : ℕ × List E). y.0 < n) x xs all))

  upto_most : (n : ℕ) (own : List (ℕ × List E)) → IsOnce own → upto n own ≤ n
  upto_most zero own once = omega arith
  upto_most (suc n) own once = omega (arith, once n, upto_most n own once)

  upto_full : (n : ℕ) (own : List (ℕ × List E)) → IsOnce own → n ≤ upto n own → (k : ℕ) → k < n → 1 ≤ times k own
  upto_full zero own once full k below = absurd (omega arith)
  upto_full (suc n) own once full k below = dite (ℕ_discrete k n)
      (λ (same : k ≡ n). subst (λ j. 1 ≤ times j own) (sym same) (let a = upto_most n own once in omega arith))
      (λ (apart : k ≡ n → ⊥). let apart' : k ≢ n = apart in let b = once n in upto_full n own once (omega arith) k (omega arith))

  -- as many lists as there are numbers below n: each has one
  pub each_has_one : (n : ℕ) (own : List (ℕ × List E)) → IsOnce own → All (λ x. x.0 < n) own → n ≤ length own → (k : ℕ) → k < n → 1 ≤ times k own
  each_has_one n own once all many = upto_full n own once (let a = upto_all n own all in omega arith)
