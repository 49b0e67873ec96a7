-- What is known of a block's slots is known of the slots of the block that is made of it.
use Rattle.std.proofs.Common.{◌≡◌, ◌⊎◌, inl, inr, ℕ, suc, ◌+◌, ◌-◌, ◌<◌, ◌≤◌, ◌==◌, ◌||◌, nat_lt, Bool, true, false, IsTrue, if◌then◌else◌, List, length, Some, None, refl, sym, ap, subst, ◌∙◌, arith}
use Rattle.std.proofs.lemmas.Bool.{ltb-true, ltb-false}
use Rattle.m5_terms.specs.Substitution.{among}
use Rattle.m5_terms.specs.TypeExpression.{function}
use Rattle.m5_terms.specs.declared.types.World.{World}
use Rattle.m5_cps.specs.Entries.{SlotType, of, takes, Mode, only, everywhere, Entry, by_value, by_call, world_of, entry_filled}
use Rattle.m5_cps.specs.Blocks.{Ending, go, call, ask, send, done}
use Rattle.m5_cps.specs.Captured.{ending_uses}
use Rattle.m5_cps.specs.Slots.{slot, Slots, fill, Reaches, Needs, entry_slots}
use Rattle.m5_cps.specs.Fits.{EndingFits}
use Rattle.m5_close.specs.Close.{place, anew, ending_anew}
use Rattle.m5_close.proofs.Slots.{or_left, or_right, itself, put_same, put_other, place_get, get_short}

-- a closure of a function that is declared at any has its type at each world
abbrev pub AtLeast : Mode → Mode → Type 0
AtLeast k m = (k ≡ m) ⊎ (k ≡ everywhere)

reaches_more : (k m o : Mode) (T : SlotType) → AtLeast k m → Reaches m o T → Reaches k o T
reaches_more k m o T (inl e) h = subst (λ z. Reaches z o T) (sym e) h
reaches_more k m o T (inr e) h = subst (λ z. Reaches z o T) (sym e) tt

pub same_slot : (m k : Mode) (T U : SlotType) → Some (slot m T) ≡ Some (slot k U) → (m ≡ k) × (T ≡ U)
same_slot m k T U e = (cc, cc)

no_slot_is : (m : Mode) (T : SlotType) → None ≡ Some (slot m T) → ⊥
no_slot_is m T e = cc

pub anew_past : (n0 l : ℕ) (ls : List ℕ) → n0 ≤ l → anew n0 ls l ≡ length ls + (l - n0)
anew_past n0 l ls h = by_test (nat_lt l n0) refl
  where
    by_test : (b : Bool) → nat_lt l n0 ≡ b → (if nat_lt l n0 then place l ls else length ls + (l - n0)) ≡ length ls + (l - n0)
    by_test false e = ap (λ b. if b then place l ls else length ls + (l - n0)) e
    by_test true e = absurd (let q : l < n0 = ltb-true l n0 e in omega (arith, q, h))

pub anew_before : (n0 l : ℕ) (ls : List ℕ) → l < n0 → anew n0 ls l ≡ place l ls
anew_before n0 l ls h = by_test (nat_lt l n0) refl
  where
    by_test : (b : Bool) → nat_lt l n0 ≡ b → (if nat_lt l n0 then place l ls else length ls + (l - n0)) ≡ place l ls
    by_test true e = ap (λ b. if b then place l ls else length ls + (l - n0)) e
    by_test false e = absurd (let q : n0 ≤ l = ltb-false l n0 e in omega (arith, q, h))

-- the next slot is the next one
anew_other : (n0 n l : ℕ) (ls : List ℕ) → n0 ≤ n → (l ≡ n → ⊥) → (l < n0 → IsTrue (among l ls)) → anew n0 ls l ≡ length ls + (n - n0) → ⊥
anew_other n0 n l ls h ne cv e = by_test (nat_lt l n0) refl
  where
    by_test : (b : Bool) → nat_lt l n0 ≡ b → ⊥
    by_test true q = let lt : l < n0 = ltb-true l n0 q in let a : place l ls ≡ length ls + (n - n0) = sym (anew_before n0 l ls lt) ∙ e in omega (arith, a, get_short ls (place l ls) l (place_get l ls (cv lt)))
    by_test false q = let le : n0 ≤ l = ltb-false l n0 q in let a : length ls + (l - n0) ≡ length ls + (n - n0) = sym (anew_past n0 l ls le) ∙ e in ne (omega (arith, a, le, h))

-- a block over n0 slots that takes ls of them, with n slots filled
pub record Follows (n0 : ℕ) (ls : List ℕ) (n : ℕ) (S Z : Slots) : Type 0 where
  pub long : n0 ≤ n
  pub below : (l : ℕ) (m : Mode) (T : SlotType) → S l ≡ Some (slot m T) → l < n
  pub slots : (l : ℕ) (m : Mode) (T : SlotType) → S l ≡ Some (slot m T) → (l < n0 → IsTrue (among l ls)) → (k : Mode) × (Z (anew n0 ls l) ≡ Some (slot k T)) × AtLeast k m

pub fill_follows : (n0 : ℕ) (ls : List ℕ) (n m : ℕ) (S Z : Slots) (k o : Mode) (T : SlotType) → m ≡ length ls + (n - n0) → AtLeast o k → Follows n0 ls n S Z → Follows n0 ls (suc n) (fill n k T S) (fill m o T Z)
fill_follows n0 ls n m S Z k o T q a f = record {
  long = omega (arith, f.long);
  below = λ l j U e. low l j U e (l == n) refl;
  slots = λ l j U e cv. at l j U e cv (l == n) refl;
}
  where
    low : (l : ℕ) (j : Mode) (U : SlotType) → fill n k T S l ≡ Some (slot j U) → (b : Bool) → (l == n) ≡ b → l < suc n
    low l j U e true w = grind (arith, w)
    low l j U e false w = let s : S l ≡ Some (slot j U) = sym (ap (λ b. if b then Some (slot k T) else S l) w) ∙ e in omega (arith, f.below l j U s)

    at : (l : ℕ) (j : Mode) (U : SlotType) → fill n k T S l ≡ Some (slot j U) → (l < n0 → IsTrue (among l ls)) → (b : Bool) → (l == n) ≡ b → (i : Mode) × (fill m o T Z (anew n0 ls l) ≡ Some (slot i U)) × AtLeast i j
    at l j U e cv true w =
        let g : l ≡ n = grind (arith, w) in
        let s = same_slot k j T U (sym (ap (λ b. if b then Some (slot k T) else S l) w) ∙ e) in
        let p : anew n0 ls l ≡ m = ap (anew n0 ls) g ∙ anew_past n0 n ls f.long ∙ sym q in
        (o, ap (fill m o T Z) p ∙ put_same m (Some (slot o T)) Z ∙ ap (λ X. Some (slot o X)) s.1, subst (AtLeast o) s.0 a)
    at l j U e cv false w =
        let s : S l ≡ Some (slot j U) = sym (ap (λ b. if b then Some (slot k T) else S l) w) ∙ e in
        let ne : l ≡ n → ⊥ = λ i. grind (arith, w, i) in
        let r = f.slots l j U s cv in
        (r.0, put_other m (anew n0 ls l) (Some (slot o T)) Z (λ i. anew_other n0 n l ls f.long ne cv (i ∙ q)) ∙ r.1, r.2)

-- where a block begins
pub entry_follows : (y : Entry) (n k : ℕ) (ls : List ℕ) (R Z : Slots) → k ≡ length ls → Follows n ls n R Z → Follows n ls (entry_filled y n) (entry_slots y n R) (entry_slots y k Z)
entry_follows (by_value m T) n k ls R Z q f =
    fill_follows n ls (suc n) (suc k) _ _ (only (world_of m)) (only (world_of m)) T (omega (arith, q)) (inl refl)
    (fill_follows n ls n k R Z (only (world_of m)) (only (world_of m)) (takes T) (omega (arith, q)) (inl refl) f)
entry_follows (by_call m A D) n k ls R Z q f =
    fill_follows n ls (suc (suc n)) (suc (suc k)) _ _ (only (world_of m)) (only (world_of m)) (takes (of D)) (omega (arith, q)) (inl refl)
    (fill_follows n ls (suc n) (suc k) _ _ (only (world_of m)) (only (world_of m)) (of A) (omega (arith, q)) (inl refl)
    (fill_follows n ls n k R Z (only (world_of m)) (only (world_of m)) (of (function A D)) (omega (arith, q)) (inl refl) f))

pub filled_alike : (y : Entry) (n k : ℕ) (ls : List ℕ) → k ≡ length ls → entry_filled y k ≡ length ls + (entry_filled y n - n)
filled_alike (by_value m T) n k ls q = omega (arith, q)
filled_alike (by_call m A D) n k ls q = omega (arith, q)

module _ (n0 : ℕ) (ls : List ℕ) (n : ℕ) (S Z : Slots) (f : Follows n0 ls n S Z) where
  abbrev pub Covered : (ℕ → Bool) → Type 0
  Covered p = (l : ℕ) → IsTrue (p l) → l < n0 → IsTrue (among l ls)

  pub needs_at : (l : ℕ) (m : Mode) (T : SlotType) → (l < n0 → IsTrue (among l ls)) → Needs S l m T → Needs Z (anew n0 ls l) m T
  needs_at l m T cv d = let q = f.slots l d.0 T d.1 cv in (q.0, q.1, reaches_more q.0 d.0 m T q.2 d.2)

  -- of a slot that is used
  pub needs_on : (p : ℕ → Bool) (x : ℕ) (m : Mode) (T : SlotType) → Covered p → IsTrue (p x) → Needs S x m T → Needs Z (anew n0 ls x) m T
  needs_on p x m T cv i d = needs_at x m T (cv x i) d

  pub ending_on : (b : World) (e : Ending) → Covered (ending_uses e) → EndingFits b S e → EndingFits b Z (ending_anew (anew n0 ls) e)
  ending_on b (go k x) cv d = (d.0, needs_on _ k _ _ cv (or_left (k == k) (k == x) (itself k)) d.1, needs_on _ x _ _ cv (or_right (x == k) (x == x) (itself x)) d.2)
  ending_on b (call g x k) cv d = (
    d.0,
    d.1,
    needs_on _ g _ _ cv (or_left (g == g) (g == x || g == k) (itself g)) d.2,
    needs_on _ x _ _ cv (or_right (x == g) (x == x || x == k) (or_left (x == x) (x == k) (itself x))) d.3,
    needs_on _ k _ _ cv (or_right (k == g) (k == x || k == k) (or_right (k == x) (k == k) (itself k))) d.4,
  )
  ending_on b (ask p x k) cv d = (d.0, (d.1.0, d.1.1, d.1.2, needs_on _ x _ _ cv (or_left (x == x) (x == k) (itself x)) d.1.3, needs_on _ k _ _ cv (or_right (k == x) (k == k) (itself k)) d.1.4))
  ending_on b (send a k x) cv d = (
    d.0,
    d.1,
    d.2,
    d.3,
    d.4,
    needs_on _ a _ _ cv (or_left (a == a) (a == k || a == x) (itself a)) d.5,
    needs_on _ k _ _ cv (or_right (k == a) (k == k || k == x) (or_left (k == k) (k == x) (itself k))) d.6,
    needs_on _ x _ _ cv (or_right (x == a) (x == k || x == x) (or_right (x == k) (x == x) (itself x))) d.7,
  )
  ending_on b done cv d = tt
