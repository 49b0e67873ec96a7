-- A slot that a typed block uses has a type, so each label's environment has.
use Rattle.std.proofs.Common.{◌≡◌, ◌⊎◌, inl, inr, ℕ, suc, ◌<◌, Bool, true, false, ◌||◌, ◌==◌, if◌then◌else◌, IsTrue, Some, refl, sym, ap, ◌∙◌, arith}
use Rattle.m5_terms.specs.TypeExpression.{unit, function}
use Rattle.m5_terms.specs.declared.types.World.{World}
use Rattle.m5_typing.specs.Context.{Setting}
use Rattle.m5_cps.specs.Entries.{SlotType, of, takes, Mode, only, everywhere, Entry, by_value, by_call, world_of, entry_mode, entry_filled}
use Rattle.m5_cps.specs.Blocks.{Straight, constant, one, two, unheld, unsham, spawn, if_true, if_left, if_nil, if_here, Ending, go, ask, Code, straight, closure, test, Block, Blocks}
use Rattle.m5_cps.specs.Blocks as block
use Rattle.m5_cps.specs.Slots.{slot, Slots, fill, Needs, HasType, entry_slots, entered_at}
use Rattle.m5_cps.specs.Fits.{StraightFits, EndingFits, Fits}
use Rattle.m5_cps.specs.Captured.{straight_uses, ending_uses, uses}

either : (a b : Bool) → IsTrue (a || b) → IsTrue a ⊎ IsTrue b
either true b h = inl refl
either false b h = inr h

needs_has : (S : Slots) (x l : ℕ) (m : Mode) (T : SlotType) → Needs S x m T → IsTrue (l == x) → HasType S l
needs_has S x l m T d h = let e : l ≡ x = grind (arith, h) in (d.0, T, ap S e ∙ d.1)

below : (S : Slots) (n l : ℕ) (m : Mode) (T : SlotType) → l < n → HasType (fill n m T S) l → HasType S l
below S n l m T h d = let e : (l == n) ≡ false = grind (arith, h) in (d.0, d.1, sym (ap (λ b. if b then Some (slot m T) else S l) e) ∙ d.2)

entry_below : (y : Entry) (n l : ℕ) (R : Slots) → l < n → HasType (entry_slots y n R) l → HasType R l
entry_below (by_value m T) n l R h d = below R n l (only (world_of m)) (takes T) h (below (fill n (only (world_of m)) (takes T) R) (suc n) l (only (world_of m)) T (omega (arith, h)) d)
entry_below (by_call m A B) n l R h d = below R n l (only (world_of m)) (of (function A B)) h (below (fill n (only (world_of m)) (of (function A B)) R) (suc n) l (only (world_of m)) (of A) (omega (arith, h)) (below (entered_at (world_of m) n (of (function A B)) (of A) R) (suc (suc n)) l (only (world_of m)) (takes (of B)) (omega (arith, h)) d))

more_filled : (y : Entry) (n l : ℕ) → l < n → l < entry_filled y n
more_filled (by_value m T) n l h = omega (arith, h)
more_filled (by_call m A B) n l h = omega (arith, h)

arms : (X : Type 0) (p q : Bool) → (IsTrue p → X) → (IsTrue q → X) → IsTrue (p || q) → X
arms X true q f g h = f refl
arms X false q f g h = g h

straight_has : (E : Setting) (b : World) (S : Slots) (l : ℕ) (f : Straight) (P : Mode → SlotType → Type 0) → StraightFits E b S f P → IsTrue (straight_uses f l) → HasType S l
straight_has E b S l (constant f) P d u = absurd (let q : false ≡ true = u in cc)
straight_has E b S l (one f x) P d u = needs_has S x l _ _ d.4 u
straight_has E b S l (two f x y) P d u = arms (HasType S l) (l == x) (l == y) (needs_has S x l _ _ d.4) (needs_has S y l _ _ d.5) u
straight_has E b S l (unheld x) P d u = needs_has S x l _ _ d.3 u
straight_has E b S l (unsham x) P d u = needs_has S x l _ _ d.1 u
straight_has E b S l (spawn x) P d u = needs_has S x l _ _ d.0 u

straight_next : (E : Setting) (b : World) (S : Slots) (f : Straight) (P : Mode → SlotType → Type 0) → StraightFits E b S f P → (m : Mode) × (T : SlotType) × P m T
straight_next E b S (constant f) P d = (d.0, of d.1, d.4)
straight_next E b S (one f x) P d = (d.0, _, d.6)
straight_next E b S (two f x y) P d = (d.0, _, d.6)
straight_next E b S (unheld x) P d = (only d.1, of d.0, d.4)
straight_next E b S (unsham x) P d = (everywhere, of d.0, d.2)
straight_next E b S (spawn x) P d = (everywhere, of unit, d.1)

ending_has : (b : World) (S : Slots) (l : ℕ) (e : Ending) → EndingFits b S e → IsTrue (ending_uses e l) → HasType S l
ending_has b S l (go k x) d u = arms (HasType S l) (l == k) (l == x) (needs_has S k l _ _ d.1) (needs_has S x l _ _ d.2) u
ending_has b S l (block.call f x k) d u = arms (HasType S l) (l == f) _ (needs_has S f l _ _ d.2) (arms (HasType S l) (l == x) (l == k) (needs_has S x l _ _ d.3) (needs_has S k l _ _ d.4)) u
ending_has b S l (ask p x k) d u = arms (HasType S l) (l == x) (l == k) (needs_has S x l _ _ d.1.3) (needs_has S k l _ _ d.1.4) u
ending_has b S l (block.send a k x) d u = arms (HasType S l) (l == a) _ (needs_has S a l _ _ d.5) (arms (HasType S l) (l == k) (l == x) (needs_has S k l _ _ d.6) (needs_has S x l _ _ d.7)) u
ending_has b S l block.done d u = absurd (let q : false ≡ true = u in cc)

module _ (E : Setting) where
  abbrev Used : Code → Type 0
  Used c = (b : World) (n l : ℕ) (S : Slots) → l < n → IsTrue (uses c l) → Fits E b n S c → HasType S l

  next : (c : Code) → Used c → (b : World) (n l : ℕ) (S : Slots) (m : Mode) (T : SlotType) → l < n → IsTrue (uses c l) → Fits E b (suc n) (fill n m T S) c → HasType S l
  next c k b n l S m T h u d = below S n l m T h (k b (suc n) l (fill n m T S) (omega (arith, h)) u d)

  pub used_has : (c : Code) → Used c
  used_has (straight f c) = λ b n l S h u d.
      let P : Mode → SlotType → Type 0 = λ m T. Fits E b (suc n) (fill n m T S) c in
      let q = straight_next E b S f P d in
      arms (HasType S l) (straight_uses f l) (uses c l) (straight_has E b S l f P d) (λ v. next c (used_has c) b n l S q.0 q.1 h v q.2) u
  used_has (closure y c e) = λ b n l S h u d. arms (HasType S l) (uses c l) (uses e l)
      (λ v. let q = entry_below y n l d.0 h (used_has c (world_of (entry_mode y)) (entry_filled y n) l (entry_slots y n d.0) (more_filled y n l h) v d.2) in let r = (d.1 l q.0 q.1 q.2).0 in (r.0, q.1, r.1))
      (λ v. next e (used_has e) b n l S _ _ h v d.3) u
  used_has (test if_true x c e) = λ b n l S h u d. arms (HasType S l) (l == x) _ (needs_has S x l _ _ d.0) (arms (HasType S l) (uses c l) (uses e l) (λ v. used_has c b n l S h v d.1) (λ v. used_has e b n l S h v d.2)) u
  used_has (test if_left x c e) = λ b n l S h u d. arms (HasType S l) (l == x) _ (needs_has S x l _ _ d.2) (arms (HasType S l) (uses c l) (uses e l) (λ v. next c (used_has c) b n l S _ _ h v d.3) (λ v. next e (used_has e) b n l S _ _ h v d.4)) u
  used_has (test if_nil x c e) = λ b n l S h u d. arms (HasType S l) (l == x) _ (needs_has S x l _ _ d.1) (arms (HasType S l) (uses c l) (uses e l) (λ v. used_has c b n l S h v d.2)
      (λ v. below S n l (only b) (of d.0) h (next e (used_has e) b (suc n) l (fill n (only b) (of d.0) S) _ _ (omega (arith, h)) v d.3))) u
  used_has (test if_here x c e) = λ b n l S h u d. arms (HasType S l) (l == x) _ (needs_has S x l _ _ d.3) (λ v. d.5 l h v) u
  used_has (block.ends e) = λ b n l S h u d. ending_has b S l e d u
