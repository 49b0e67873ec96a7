-- What a closure takes, the slots of a block and their new numbers, and units.
use Rattle.std.proofs.Common.{◌≡◌, ℕ, zero, suc, ◌+◌, ◌-◌, ◌≤◌, ◌<◌, List, [], ◌∷◌, map, length, Some, None, slice_get, Bool, true, false, IsTrue, nat_lt, if◌then◌else◌, ◌==◌, ◌||◌, refl, sym, ap, ◌∙◌, subst, arith, true≢false, option_map}
use Rattle.std.proofs.lemmas.Bool.{ltb-true, ltb-false}
use Rattle.std.proofs.lemmas.Option.{slice_get-map}
use Rattle.m5_terms.specs.Substitution.{among}
use Rattle.m5_terms.specs.declared.form.LeafForm.{LeafForm}
use Rattle.m5_terms.specs.declared.form.LeafForm.TheVariants as leaf_form
use Rattle.m5_typing.specs.Context.{Setting}
use Rattle.m5_cps.specs.Blocks.{Code}
use Rattle.m5_cps.specs.Values.{atom, wrap, join, closed, put, unit_value}
use Rattle.m5_cps.specs.Units.{leaf_units, wrap_units, join_units, closure_units}
use Rattle.m5_cps.specs.Captured.{over, uses, sum_used, captured}
use Rattle.m5_cps.specs.Captured as cps
use Rattle.m5_flat.specs.Blocks.{Blocks}
use Rattle.m5_flat.specs.Values.{under, value_of, taken, sum_before}
use Rattle.m5_flat.specs.Values as flat
use Rattle.m5_close.specs.Close.{free, place, anew, IsFunction}
use Rattle.m5_close.specs.Reading.{Reads, EmptyFrom}

pub or_left : (a b : Bool) → IsTrue a → IsTrue (a || b)
or_left true b h = refl
or_left false b h = absurd (true≢false (sym h))

pub or_right : (a b : Bool) → IsTrue b → IsTrue (a || b)
or_right true b h = refl
or_right false b h = h

pub itself : (x : ℕ) → IsTrue (x == x)
itself x = grind arith

pub put_same : {A : Type 0} (x : ℕ) (v : A) (f : ℕ → A) → put x v f x ≡ v
put_same x v f = ap (λ b. if b then v else f x) (itself x)

pub put_other : {A : Type 0} (x z : ℕ) (v : A) (f : ℕ → A) → (z ≡ x → ⊥) → put x v f z ≡ f z
put_other x z v f h = by_test (z == x) refl
  where
    by_test : (b : Bool) → (z == x) ≡ b → (if z == x then v else f z) ≡ f z
    by_test false e = ap (λ b. if b then v else f z) e
    by_test true e = absurd (h (grind (arith, e)))

-- a slot that the block uses is taken
pub free_has : (n l : ℕ) (c : Code) → l < n → IsTrue (uses c l) → IsTrue (among l (free n c))
free_has zero l c lt u = absurd (omega (arith, lt))
free_has (suc n) l c lt u = by_test (λ lt1. free_has n l c lt1 u) (uses c n) refl
  where
    by_test : (l < n → IsTrue (among l (free n c))) → (b : Bool) → uses c n ≡ b → IsTrue (among l (if uses c n then n ∷ free n c else free n c))
    by_test ih true e = subst (λ b. IsTrue (among l (if b then n ∷ free n c else free n c))) (sym e) (first (l == n) refl)
      where
        first : (b : Bool) → (l == n) ≡ b → IsTrue (among l (n ∷ free n c))
        first true q = or_left (l == n) (among l (free n c)) q
        first false q = or_right (l == n) (among l (free n c)) (ih (grind (arith, lt, q)))
    by_test ih false e = subst (λ b. IsTrue (among l (if b then n ∷ free n c else free n c))) (sym e) (ih (last_other (l == n) refl))
      where
        last_other : (b : Bool) → (l == n) ≡ b → l < n
        last_other true q = let e1 : l ≡ n = grind (arith, q) in absurd (true≢false (sym (subst (λ z. IsTrue (uses c z)) e1 u) ∙ e))
        last_other false q = grind (arith, lt, q)

-- what is taken is used
pub free_used : (n l : ℕ) (c : Code) → IsTrue (among l (free n c)) → (l < n) × IsTrue (uses c l)
free_used zero l c h = absurd (true≢false (sym h))
free_used (suc n) l c h = by_test (λ m. let r = free_used n l c m in (omega (arith, r.0), r.1)) (uses c n) refl h
  where
    by_test : (IsTrue (among l (free n c)) → (l < suc n) × IsTrue (uses c l)) → (b : Bool) → uses c n ≡ b → IsTrue (among l (if uses c n then n ∷ free n c else free n c)) → (l < suc n) × IsTrue (uses c l)
    by_test ih true e q = first (l == n) refl (subst (λ b. IsTrue (among l (if b then n ∷ free n c else free n c))) e q)
      where
        first : (b : Bool) → (l == n) ≡ b → IsTrue (among l (n ∷ free n c)) → (l < suc n) × IsTrue (uses c l)
        first true r m = let e1 : l ≡ n = grind (arith, r) in (omega (arith, e1), subst (λ z. IsTrue (uses c z)) (sym e1) e)
        first false r m = ih (subst (λ b. IsTrue (b || among l (free n c))) r m)
    by_test ih false e q = ih (subst (λ b. IsTrue (among l (if b then n ∷ free n c else free n c))) e q)

-- what is at a slot's place
pub place_get : (l : ℕ) (ls : List ℕ) → IsTrue (among l ls) → slice_get ls (place l ls) ≡ Some l
place_get l [] h = absurd (true≢false (sym h))
place_get l (x ∷ ls) h = by_test (λ m. place_get l ls m) (l == x) refl
  where
    by_test : (IsTrue (among l ls) → slice_get ls (place l ls) ≡ Some l) → (b : Bool) → (l == x) ≡ b → slice_get (x ∷ ls) (if l == x then zero else suc (place l ls)) ≡ Some l
    by_test ih true e = ap (λ b. slice_get (x ∷ ls) (if b then zero else suc (place l ls))) e ∙ ap Some (let e1 : x ≡ l = grind (arith, e) in e1)
    by_test ih false e = ap (λ b. slice_get (x ∷ ls) (if b then zero else suc (place l ls))) e ∙ ih (subst (λ b. IsTrue (b || among l ls)) e h)

-- where something is, the list is longer
pub get_short : {A : Type 0} (xs : List A) (j : ℕ) (x : A) → slice_get xs j ≡ Some x → j < length xs
get_short [] j x e = absurd (cc (e))
get_short (y ∷ xs) zero x e = omega arith
get_short (y ∷ xs) (suc j) x e = omega (arith, get_short xs j x e)

get_none : {A : Type 0} (xs : List A) (j : ℕ) → length xs ≤ j → slice_get xs j ≡ None
get_none [] j h = refl
get_none (x ∷ xs) zero h = absurd (omega (arith, h))
get_none (x ∷ xs) (suc j) h = get_none xs j (omega (arith, h))

-- what is at a place is among the list
pub got_among : (ls : List ℕ) (j l : ℕ) → slice_get ls j ≡ Some l → IsTrue (among l ls)
got_among [] j l e = absurd (cc (e))
got_among (x ∷ ls) zero l e = let q : x ≡ l = cc (e) in or_left (l == x) (among l ls) (subst (λ z. IsTrue (l == z)) (sym q) (itself l))
got_among (x ∷ ls) (suc j) l e = or_right (l == x) (among l ls) (got_among ls j l e)

-- the value of a slot that is taken, and past all of them
pub taken_at : (r : ℕ → ℕ) (ls : List ℕ) (σ : ℕ → flat.Value) (j l : ℕ) → slice_get ls j ≡ Some l → taken (map r ls) σ j ≡ σ (r l)
taken_at r ls σ j l e = ap (λ o. value_of o σ) (slice_get-map r ls j ∙ ap (option_map r) e)

pub map_long : {A : Type 0} (f : ℕ → A) (ls : List ℕ) → length (map f ls) ≡ length ls
map_long f [] = refl
map_long f (x ∷ ls) = ap suc (map_long f ls)

pub taken_past : (ls : List ℕ) (σ : ℕ → flat.Value) → EmptyFrom (length ls) (taken ls σ)
taken_past ls σ j h = ap (λ o. value_of o σ) (get_none ls j h)

pub captured_length : (n : ℕ) (c : Code) → captured n c ≡ length (free n c)
captured_length zero c = refl
captured_length (suc n) c = by_test (uses c n) (captured_length n c)
  where
    by_test : (b : Bool) → captured n c ≡ length (free n c) → captured n c + (if b then 1 else 0) ≡ length (if b then n ∷ free n c else free n c)
    by_test true e = omega (arith, e)
    by_test false e = omega (arith, e)

module _ (E : Setting) (B : Blocks) (L : List ℕ) where
  -- a block over n0 slots that takes ls of them, with n slots filled
  pub record Environment (n0 : ℕ) (ls : List ℕ) (n : ℕ) (σ : ℕ → flat.Value) (ρ : ℕ → cps.Value) : Type 0 where
    pub long : n0 ≤ n
    pub outer : (l : ℕ) → IsTrue (among l ls) → Reads E B L (σ (place l ls)) (ρ l)
    pub low : (l : ℕ) → IsTrue (among l ls) → l < n0
    pub inner : (l : ℕ) → n0 ≤ l → Reads E B L (σ (length ls + (l - n0))) (ρ l)
    pub empty : EmptyFrom n ρ

  -- a slot that is used
  pub slot : (n0 : ℕ) (ls : List ℕ) (n : ℕ) (σ : ℕ → flat.Value) (ρ : ℕ → cps.Value) (l : ℕ) → Environment n0 ls n σ ρ → (l < n0 → IsTrue (among l ls)) → Reads E B L (σ (anew n0 ls l)) (ρ l)
  slot n0 ls n σ ρ l e m = by_test (nat_lt l n0) refl
    where
      by_test : (b : Bool) → nat_lt l n0 ≡ b → Reads E B L (σ (if b then place l ls else length ls + (l - n0))) (ρ l)
      by_test true q = e.outer l (m (ltb-true l n0 q))
      by_test false q = e.inner l (ltb-false l n0 q)

  -- the next slot of both
  pub fill : (n0 : ℕ) (ls : List ℕ) (n m : ℕ) (σ : ℕ → flat.Value) (ρ : ℕ → cps.Value) (a : flat.Value) (c : cps.Value) → m ≡ length ls + (n - n0) → Environment n0 ls n σ ρ → Reads E B L a c → Environment n0 ls (suc n) (put m a σ) (put n c ρ)
  fill n0 ls n m σ ρ a c q e r = record {
    long = omega (arith, e.long);
    outer = λ l h. subst (λ z. Reads E B L z (put n c ρ l)) (sym (put_other m (place l ls) a σ (λ w. omega (arith, q, w, get_short ls (place l ls) l (place_get l ls h))))) (subst (λ z. Reads E B L (σ (place l ls)) z) (sym (put_other n l c ρ (λ w. omega (arith, w, e.low l h, e.long)))) (e.outer l h));
    low = e.low;
    inner = λ l lo. by_test l lo (l == n) refl;
    empty = λ l h. put_other n l c ρ (λ w. omega (arith, w, h)) ∙ e.empty l (omega (arith, h));
  }
    where
      by_test : (l : ℕ) → n0 ≤ l → (b : Bool) → (l == n) ≡ b → Reads E B L (put m a σ (length ls + (l - n0))) (put n c ρ l)
      by_test l lo true w = let e1 : l ≡ n = grind (arith, w) in let e2 : length ls + (l - n0) ≡ m = omega (arith, q, e1) in subst (λ z. Reads E B L z (put n c ρ l)) (sym (ap (put m a σ) e2 ∙ put_same m a σ)) (subst (λ z. Reads E B L a z) (sym (ap (put n c ρ) e1 ∙ put_same n c ρ)) r)
      by_test l lo false w = let ne : l ≡ n → ⊥ = λ i. grind (arith, w, i) in subst (λ z. Reads E B L z (put n c ρ l)) (sym (put_other m (length ls + (l - n0)) a σ (λ i. ne (omega (arith, i, q, lo, e.long))))) (subst (λ z. Reads E B L (σ (length ls + (l - n0))) z) (sym (put_other n l c ρ ne)) (e.inner l lo))

  -- what a block begins with, before the closure and its argument
  pub begins : (n k : ℕ) (ls : List ℕ) (σ : ℕ → flat.Value) (ρ : ℕ → cps.Value) → k ≡ length ls → ((l : ℕ) → IsTrue (among l ls) → l < n) → EmptyFrom k σ → EmptyFrom n ρ →
      ((j l : ℕ) → slice_get ls j ≡ Some l → Reads E B L (σ j) (ρ l)) → Environment n ls n σ ρ
  begins n k ls σ ρ q low ef em r = record {
    long = omega arith;
    outer = λ l h. r (place l ls) l (place_get l ls h);
    low = low;
    inner = λ l lo. subst (λ z. Reads E B L z (ρ l)) (sym (ef (length ls + (l - n)) (omega (arith, q)))) (subst (λ z. Reads E B L unit_value z) (sym (em l lo)) (refl, tt));
    empty = em;
  }

-- sums over what is taken
abbrev sum_over : (ℕ → ℕ) → List ℕ → ℕ
sum_over f [] = 0
sum_over f (l ∷ ls) = sum_over f ls + f l

sum_free : (n : ℕ) (c : Code) (f : ℕ → ℕ) → sum_over f (free n c) ≡ sum_used c f n
sum_free zero c f = refl
sum_free (suc n) c f = by_test (uses c n) (sum_free n c f)
  where
    by_test : (b : Bool) → sum_over f (free n c) ≡ sum_used c f n → sum_over f (if b then n ∷ free n c else free n c) ≡ sum_used c f n + (if b then f n else 0)
    by_test true e = omega (arith, e)
    by_test false e = omega (arith, e)

sum_shift : (f : ℕ → ℕ) (k : ℕ) → sum_before f (suc k) ≡ f 0 + sum_before (λ j. f (suc j)) k
sum_shift f zero = omega arith
sum_shift f (suc k) = omega (arith, sum_shift f k)

sum_list : (ls : List ℕ) (f g : ℕ → ℕ) → ((j l : ℕ) → slice_get ls j ≡ Some l → f j ≡ g l) → sum_before f (length ls) ≡ sum_over g ls
sum_list [] f g h = refl
sum_list (x ∷ ls) f g h = omega (arith, sum_shift f (length ls), h zero x refl, sum_list ls (λ j. f (suc j)) g (λ j l e. h (suc j) l e))

module _ (E : Setting) (B : Blocks) (L : List ℕ) where
  function_units : (i : ℕ) (g : LeafForm) → IsFunction E B L i g → closure_units 0 ≡ leaf_units g
  function_units i (leaf_form.Glob f) r = refl
  function_units i (leaf_form.Extern p) r = refl
  function_units i _ r = absurd r

  -- what is read back takes as many units
  pub same_units : (a : flat.Value) (c : cps.Value) → Reads E B L a c → flat.value_units a ≡ cps.value_units c
  same_units (atom f) (atom g) r = ap leaf_units r.0
  same_units (wrap f a) (wrap g c) r = omega (arith, ap wrap_units r.0, same_units a c r.1)
  same_units (join f a b) (join g c d) r = omega (arith, ap join_units r.0, same_units a c r.1, same_units b d r.2)
  same_units (closed (under i k) σ) (closed (over y n c) ρ) r =
      let f : ℕ → ℕ = λ j. 1 + flat.value_units (σ j) in
      let g : ℕ → ℕ = λ l. 1 + cps.value_units (ρ l) in
      ap (λ z. closure_units 0 + sum_before f z) r.1
      ∙ ap (λ z. closure_units 0 + z) (sum_list (free n c) f g (λ j l e. ap (λ z. 1 + z) (same_units (σ j) (ρ l) (r.4 j l e))) ∙ sum_free n c g)
  same_units (closed (under i k) σ) (atom g) r = ap (λ z. closure_units 0 + sum_before (λ j. 1 + flat.value_units (σ j)) z) r.1 ∙ function_units i g r.0
  same_units _ _ r = absurd r
