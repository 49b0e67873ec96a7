-- Sums over the slots that a block takes with it: no more than over a list that has them all.
use Rattle.std.proofs.Common.{◌≡◌, ℕ, zero, suc, ◌+◌, ◌≤◌, ◌<◌, List, [], ◌∷◌, ◌++◌, length, Bool, true, false, IsTrue, refl, sym, ap, arith, if◌then◌else◌, ◌==◌, ◌||◌, true≢false}
use Rattle.m5_terms.specs.Substitution.{among}
use Rattle.m5_cps.specs.Blocks.{Code}
use Rattle.m5_cps.specs.Captured.{uses, sum_used, captured}

-- over the numbers before n that the test holds of
abbrev sum_where : (ℕ → Bool) → (ℕ → ℕ) → ℕ → ℕ
sum_where p f zero = 0
sum_where p f (suc n) = sum_where p f n + (if p n then f n else 0)

used_where : (c : Code) (f : ℕ → ℕ) (n : ℕ) → sum_used c f n ≡ sum_where (uses c) f n
used_where c f zero = refl
used_where c f (suc n) = ap (λ k. k + (if uses c n then f n else 0)) (used_where c f n)

one_more : (a b : Bool) (k : ℕ) → (IsTrue a → IsTrue b) → (if a then k else 0) ≤ (if b then k else 0)
one_more true true k h = omega arith
one_more true false k h = absurd (true≢false (sym (h refl)))
one_more false true k h = omega arith
one_more false false k h = omega arith

more_where : (p q : ℕ → Bool) (f : ℕ → ℕ) (n : ℕ) → ((l : ℕ) → l < n → IsTrue (p l) → IsTrue (q l)) → sum_where p f n ≤ sum_where q f n
more_where p q f zero h = omega arith
more_where p q f (suc n) h = omega (arith, more_where p q f n (λ l i. h l (omega (arith, i))), one_more (p n) (q n) (f n) (h n (omega arith)))

either_one : (a b : Bool) (k : ℕ) → (if a || b then k else 0) ≤ (if a then k else 0) + (if b then k else 0)
either_one true true k = omega arith
either_one true false k = omega arith
either_one false true k = omega arith
either_one false false k = omega arith

either_where : (p q : ℕ → Bool) (f : ℕ → ℕ) (n : ℕ) → sum_where (λ l. p l || q l) f n ≤ sum_where p f n + sum_where q f n
either_where p q f zero = omega arith
either_where p q f (suc n) = omega (arith, either_where p q f n, either_one (p n) (q n) (f n))

differ : (n x : ℕ) → suc n ≤ x → (n == x) ≡ false
differ n x h = grind (arith, h)

agree : (n x : ℕ) → (n == x) ≡ true → n ≡ x
agree n x e = grind (arith, e)

none_where : (x : ℕ) (f : ℕ → ℕ) (n : ℕ) → n ≤ x → sum_where (λ l. l == x) f n ≡ 0
none_where x f zero h = refl
none_where x f (suc n) h =
    let a : sum_where (λ l. l == x) f n ≡ 0 = none_where x f n (omega (arith, h)) in
    let b : (if n == x then f n else 0) ≡ 0 = ap (λ t. if t then f n else 0) (differ n x h) in
    omega (arith, a, b)

one_step : (x : ℕ) (f : ℕ → ℕ) (n : ℕ) → sum_where (λ l. l == x) f n ≤ f x → (b : Bool) → (n == x) ≡ b → sum_where (λ l. l == x) f n + (if n == x then f n else 0) ≤ f x
one_step x f n h true e =
    let a : sum_where (λ l. l == x) f n ≡ 0 = none_where x f n (omega (arith, agree n x e)) in
    let b : (if n == x then f n else 0) ≡ f n = ap (λ t. if t then f n else 0) e in
    let c : f n ≡ f x = ap f (agree n x e) in
    omega (arith, a, b, c)
one_step x f n h false e = let b : (if n == x then f n else 0) ≡ 0 = ap (λ t. if t then f n else 0) e in omega (arith, h, b)

one_where : (x : ℕ) (f : ℕ → ℕ) (n : ℕ) → sum_where (λ l. l == x) f n ≤ f x
one_where x f zero = omega arith
one_where x f (suc n) = one_step x f n (one_where x f n) (n == x) refl

nothing_where : (f : ℕ → ℕ) (n : ℕ) → sum_where (λ l. false) f n ≤ 0
nothing_where f zero = omega arith
nothing_where f (suc n) = omega (arith, nothing_where f n)

-- the sum over a list
abbrev pub total : (ℕ → ℕ) → List ℕ → ℕ
total f [] = 0
total f (l ∷ ls) = f l + total f ls

pub total_append : (f : ℕ → ℕ) (ls ms : List ℕ) → total f (ls ++ ms) ≡ total f ls + total f ms
total_append f [] ms = omega arith
total_append f (l ∷ ls) ms = let e : total f (ls ++ ms) ≡ total f ls + total f ms = total_append f ls ms in omega (arith, e)

pub total_one : (ls : List ℕ) → total (λ l. 1) ls ≡ length ls
total_one [] = refl
total_one (l ∷ ls) = let e : total (λ l. 1) ls ≡ length ls = total_one ls in omega (arith, e)

among_where : (f : ℕ → ℕ) (ls : List ℕ) (n : ℕ) → sum_where (λ l. among l ls) f n ≤ total f ls
among_where f [] n = nothing_where f n
among_where f (x ∷ ls) n = omega (arith, either_where (λ l. l == x) (λ l. among l ls) f n, one_where x f n, among_where f ls n)

pub used_by : (c : Code) (f : ℕ → ℕ) (n : ℕ) (ls : List ℕ) → ((l : ℕ) → l < n → IsTrue (uses c l) → IsTrue (among l ls)) → sum_used c f n ≤ total f ls
used_by c f n ls h = omega (arith, used_where c f n, more_where (uses c) (λ l. among l ls) f n h, among_where f ls n)

pub captured_by : (c : Code) (n : ℕ) (ls : List ℕ) → ((l : ℕ) → l < n → IsTrue (uses c l) → IsTrue (among l ls)) → captured n c ≤ length ls
captured_by c n ls h = omega (arith, used_by c (λ l. 1) n ls h, total_one ls)
