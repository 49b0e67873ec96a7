-- Slots that are filled keep what is known of them.
use Rattle.std.proofs.Common.{◌≡◌, ◌≢◌, ◌⊎◌, inl, inr, ℕ, ◌≤◌, ◌<◌, Bool, true, false, Option, Some, None, refl, sym, ap, subst, ◌∙◌, arith, if◌then◌else◌, ◌==◌}
use Rattle.m5_terms.specs.TypeExpression.{TypeExpression}
use Rattle.m5_terms.specs.declared.types.World.{World}
use Rattle.m5_terms.specs.declared.types.World.TheVariants.{Home, Server, Panel, Any}
use Rattle.m5_typing.specs.Context.{Bound, local, valid, Context, with, valid_part, if_valid}
use Rattle.m5_cps.specs.Entries.{SlotType, of, Mode, only, everywhere}
use Rattle.m5_cps.specs.Values.{put}
use Rattle.m5_cps.specs.Slots.{Slot, slot, Slots, fill, is_mobile, Reaches, Needs, Captures}
use Rattle.m5_cps_convert.specs.Scopes.{VariableSlots}

-- the slots before n are as they were
abbrev pub Same : ℕ → Slots → Slots → Type 0
Same n S R = (l : ℕ) → l < n → R l ≡ S l

pub same_on : (n p : ℕ) (S R Q : Slots) → n ≤ p → Same n S R → Same p R Q → Same n S Q
same_on n p S R Q i h k l j = k l (omega (arith, i, j)) ∙ h l j

other : (l n : ℕ) → l < n → (l == n) ≡ false
other l n h = grind (arith, h)

own : (n : ℕ) → (n == n) ≡ true
own n = grind arith

pub filled : (n : ℕ) (m : Mode) (T : SlotType) (S : Slots) → Same n S (fill n m T S)
filled n m T S l h = ap (λ b. if b then Some (slot m T) else S l) (other l n h)

pub has : (n : ℕ) (m : Mode) (T : SlotType) (S : Slots) → fill n m T S n ≡ Some (slot m T)
has n m T S = ap (λ b. if b then Some (slot m T) else S n) (own n)

pub reaches_same : (m : Mode) (T : SlotType) → Reaches m m T
reaches_same (only v) T = inl refl
reaches_same everywhere T = tt

pub needs_own : (n : ℕ) (m : Mode) (T : SlotType) (S : Slots) → Needs (fill n m T S) n m T
needs_own n m T S = (m, has n m T S, reaches_same m T)

pub needs_on : (n : ℕ) (S R : Slots) (l : ℕ) (m : Mode) (T : SlotType) → l < n → Same n S R → Needs S l m T → Needs R l m T
needs_on n S R l m T h e d = (d.0, e l h ∙ d.1, d.2)

reaches_on : (k m r : Mode) (T : SlotType) → Reaches k m T → Reaches m r T → Reaches k r T
reaches_on everywhere m r T h g = tt
reaches_on (only v) everywhere (only w) T h g = inr h
reaches_on (only v) everywhere everywhere T h g = h
reaches_on (only v) (only w) (only x) T (inl h) (inl g) = inl (h ∙ g)
reaches_on (only v) (only w) (only x) T (inr h) g = inr h
reaches_on (only v) (only w) (only x) T (inl h) (inr g) = inr g
reaches_on (only v) (only w) everywhere T h g = g

pub needs_as : (S : Slots) (l : ℕ) (m r : Mode) (T : SlotType) → Reaches m r T → Needs S l m T → Needs S l r T
needs_as S l m r T g d = (d.0, d.1, reaches_on d.0 m r T d.2 g)

-- what a variable's slot has
abbrev pub bound_mode : Bound → Mode
bound_mode (local w A) = only w
bound_mode (valid A) = everywhere

abbrev pub bound_slot : Bound → SlotType
bound_slot (local w A) = of A
bound_slot (valid A) = of A

-- at a world that is not any, what is known at any is of no use
abbrev pub IsUsable : World → Bound → Type 0
IsUsable w (local v A) = v ≡ Any → w ≡ Any
IsUsable w (valid A) = Unit {0}

-- the variables that are of use at w have slots
abbrev pub Vars : World → Context → VariableSlots → Slots → ℕ → Type 0
Vars w G Γ S n = (x : ℕ) (b : Bound) → G x ≡ Some b → IsUsable w b → (l : ℕ) × (Γ x ≡ Some l) × (l < n) × Needs S l (bound_mode b) (bound_slot b)

pub vars_on : (w : World) (G : Context) (Γ : VariableSlots) (S R : Slots) (n p : ℕ) → n ≤ p → Same n S R → Vars w G Γ S n → Vars w G Γ R p
vars_on w G Γ S R n p i e h x b g u = let d = h x b g u in (d.0, d.1, omega (arith, i, d.2), needs_on n S R d.0 _ _ d.2 e d.3)

pub vars_with : (w : World) (G : Context) (Γ : VariableSlots) (S : Slots) (n : ℕ) (z l : ℕ) (c : Bound) → l < n → Needs S l (bound_mode c) (bound_slot c) → Vars w G Γ S n → Vars w (with z (Some c) G) (put z (Some l) Γ) S n
vars_with w G Γ S n z l c i d h x b = at (x == z)
  where
    at : (t : Bool) → (if t then Some c else G x) ≡ Some b → IsUsable w b → (k : ℕ) × ((if t then Some l else Γ x) ≡ Some k) × (k < n) × Needs S k (bound_mode b) (bound_slot b)
    at true e u = let q : c ≡ b = cc in (l, refl, i, subst (λ y. Needs S l (bound_mode y) (bound_slot y)) q d)
    at false e u = h x b e u

-- to a world that is not any
pub vars_to : (w v : World) (G : Context) (Γ : VariableSlots) (S : Slots) (n : ℕ) → v ≢ Any → Vars w G Γ S n → Vars v G Γ S n
vars_to w v G Γ S n r h x (local y A) g u = h x (local y A) g (λ e. absurd (r (u e)))
vars_to w v G Γ S n r h x (valid A) g u = h x (valid A) g tt

if_valid_is : (o : Option Bound) (b : Bound) → if_valid o ≡ Some b → (A : TypeExpression) × (b ≡ valid A) × (o ≡ Some (valid A))
if_valid_is None b e = absurd (cc)
if_valid_is (Some (local w A)) b e = absurd (cc)
if_valid_is (Some (valid A)) b e = let q : valid A ≡ b = cc in (A, sym q, refl)

pub valid_vars : (w v : World) (G : Context) (Γ : VariableSlots) (S : Slots) (n : ℕ) → Vars w G Γ S n → Vars v (valid_part G) Γ S n
valid_vars w v G Γ S n h x b g u = let q = if_valid_is (G x) b g in subst (λ c. (l : ℕ) × (Γ x ≡ Some l) × (l < n) × Needs S l (bound_mode c) (bound_slot c)) (sym q.1) (h x (valid q.0) q.2 tt)

-- what a closure takes with it that stands elsewhere than its block
abbrev kept : Mode → SlotType → Option Slot
kept (only Any) T = None
kept m T = Some (slot m T)

abbrev sorted : Bool → Mode → SlotType → Option Slot
sorted true m T = Some (slot everywhere T)
sorted false m T = kept m T

abbrev sorted_slot : Option Slot → Option Slot
sorted_slot None = None
sorted_slot (Some (slot m T)) = sorted (is_mobile T) m T

abbrev pub taken : Slots → Slots
taken S l = sorted_slot (S l)

never : everywhere ≢ only Any
never e = cc

kept_is : (b : World) (n : Mode) (S : Slots) (l : ℕ) (m : Mode) (T U : SlotType) (k : Mode) → S l ≡ Some (slot m T) → kept m T ≡ Some (slot k U) → Needs S l k U × ((n ≡ only b) ⊎ (k ≢ only Any))
kept_is b n S l (only Home) T U k e q = let p : only Home ≡ k = cc in let r : T ≡ U = cc in ((only Home, subst (λ X. S l ≡ Some (slot (only Home) X)) r e, subst (λ y. Reaches (only Home) y U) p (inl refl)), inr (λ z. let y : only Home ≡ only Any = p ∙ z in absurd (cc)))
kept_is b n S l (only Server) T U k e q = let p : only Server ≡ k = cc in let r : T ≡ U = cc in ((only Server, subst (λ X. S l ≡ Some (slot (only Server) X)) r e, subst (λ y. Reaches (only Server) y U) p (inl refl)), inr (λ z. let y : only Server ≡ only Any = p ∙ z in absurd (cc)))
kept_is b n S l (only Panel) T U k e q = let p : only Panel ≡ k = cc in let r : T ≡ U = cc in ((only Panel, subst (λ X. S l ≡ Some (slot (only Panel) X)) r e, subst (λ y. Reaches (only Panel) y U) p (inl refl)), inr (λ z. let y : only Panel ≡ only Any = p ∙ z in absurd (cc)))
kept_is b n S l (only Any) T U k e q = absurd (cc)
kept_is b n S l everywhere T U k e q = let p : everywhere ≡ k = cc in let r : T ≡ U = cc in ((everywhere, subst (λ X. S l ≡ Some (slot everywhere X)) r e, tt), inr (λ z. let y : everywhere ≡ only Any = p ∙ z in absurd (cc)))

pub taken_captures : (b : World) (n : Mode) (S : Slots) → Captures b n S (taken S)
taken_captures b n S l k U = at (S l) refl
  where
    sort : (m : Mode) (T : SlotType) (t : Bool) → is_mobile T ≡ t → S l ≡ Some (slot m T) → sorted t m T ≡ Some (slot k U) → Needs S l k U × ((n ≡ only b) ⊎ (k ≢ only Any))
    sort m T false i e q = kept_is b n S l m T U k e q
    sort m T true i e q = let p : everywhere ≡ k = cc in let r : T ≡ U = cc in ((m, subst (λ X. S l ≡ Some (slot m X)) r e, subst (λ y. Reaches m y U) p (all m (subst (λ X. is_mobile X ≡ true) r i))), inr (λ z. let y : everywhere ≡ only Any = p ∙ z in absurd (cc)))
      where
        all : (m : Mode) → is_mobile U ≡ true → Reaches m everywhere U
        all (only v) i = i
        all everywhere i = tt

    at : (o : Option Slot) → S l ≡ o → sorted_slot o ≡ Some (slot k U) → Needs S l k U × ((n ≡ only b) ⊎ (k ≢ only Any))
    at None e q = absurd (cc)
    at (Some (slot m T)) e q = sort m T (is_mobile T) refl e q

pub own_captures : (b : World) (S : Slots) → Captures b (only b) S S
own_captures b S l k T e = ((k, e, reaches_same k T), inl refl)

-- the mode in which something is needed is not that of a block at any
abbrev pub IsReal : Mode → Type 0
IsReal (only v) = v ≢ Any
IsReal everywhere = Unit {0}

sorted_has : (k m : Mode) (T : SlotType) (t : Bool) → is_mobile T ≡ t → IsReal m → Reaches k m T → (r : Mode) × (sorted t k T ≡ Some (slot r T)) × Reaches r m T
sorted_has k m T true i r h = (everywhere, refl, tt)
sorted_has everywhere m T false i r h = (everywhere, refl, tt)
sorted_has (only Home) m T false i r h = (only Home, refl, h)
sorted_has (only Server) m T false i r h = (only Server, refl, h)
sorted_has (only Panel) m T false i r h = (only Panel, refl, h)
sorted_has (only Any) everywhere T false i r h = absurd (cc)
sorted_has (only Any) (only w) T false i r (inl e) = absurd (r (sym e))
sorted_has (only Any) (only w) T false i r (inr e) = absurd (cc)

pub taken_needs : (S : Slots) (l : ℕ) (m : Mode) (T : SlotType) → IsReal m → Needs S l m T → Needs (taken S) l m T
taken_needs S l m T r d = let q = sorted_has d.0 m T (is_mobile T) refl r d.2 in (q.0, ap sorted_slot d.1 ∙ q.1, q.2)

pub taken_vars : (w v : World) (G : Context) (Γ : VariableSlots) (S : Slots) (n : ℕ) → v ≢ Any → Vars w G Γ S n → Vars v G Γ (taken S) n
taken_vars w v G Γ S n r h x (local y A) g u = let d = h x (local y A) g (λ e. absurd (r (u e))) in (d.0, d.1, d.2, taken_needs S d.0 (only y) (of A) (λ e. r (u e)) d.3)
taken_vars w v G Γ S n r h x (valid A) g u = let d = h x (valid A) g tt in (d.0, d.1, d.2, taken_needs S d.0 everywhere (of A) tt d.3)
