-- A straight form that fits does so under labels, where a function is a closure that takes nothing.
use Rattle.std.proofs.Common.{◌≡◌, ◌≢◌, inl, inr, ℕ, suc, ◌==◌, Bool, true, false, if◌then◌else◌, List, [], ◌∷◌, slice_get, Some, None, refl, sym, ap, subst, ◌∙◌, arith}
use Rattle.std.specs.List.{AllByRecursion as Each}
use Rattle.m5_terms.specs.TypeExpression.{TypeExpression, function}
use Rattle.m5_terms.specs.Primitives.{primitive_world, primitive_type}
use Rattle.m5_terms.specs.declared.types.World.{World}
use Rattle.m5_terms.specs.declared.types.World.TheVariants.{Home, Server, Panel, Any}
use Rattle.m5_terms.specs.declared.types.Primitive.{Primitive}
use Rattle.m5_terms.specs.declared.types.Primitive.TheVariants as primitive
use Rattle.m5_terms.specs.declared.form.LeafForm.TheVariants as leaf_form
use Rattle.m5_typing.specs.Context.{Setting, IsKnownAt}
use Rattle.m5_cps.specs.Entries.{SlotType, of, Mode, only, everywhere, Entry, by_value, by_call, world_of, entry_mode, entry_type}
use Rattle.m5_cps.specs.Blocks.{Straight, constant, one, two, unheld, unsham, spawn}
use Rattle.m5_cps.specs.Blocks as source
use Rattle.m5_cps.specs.Captured.{straight_uses}
use Rattle.m5_cps.specs.Program.{setting_of, entry_bound, block_bound, IsProgram}
use Rattle.m5_cps.specs.Slots.{Slots, fill}
use Rattle.m5_cps.specs.Fits.{StraightFits}
use Rattle.m5_flat.specs.Blocks.{Block, Named, Blocks, primitive_at}
use Rattle.m5_flat.specs.Blocks as target
use Rattle.m5_flat.specs.Fits.{Environments, Fits}
use Rattle.m5_close.specs.Close.{anew, asking_block, declared_entry, AsksBy, IsFunctionMade, IsStraightMade, IsClosed}
use Rattle.m5_close.proofs.Slots.{or_left, or_right, itself}
use Rattle.m5_close.proofs.Entering.{function_block, functions_missing}
use Rattle.m5_close.proofs.Follow.{AtLeast, Follows, Covered, needs_on}

-- the labels of functions and of primitives have empty environments
pub record Base (B : Blocks) (L : List ℕ) (M : Environments) : Type 0 where
  pub functions : (g i : ℕ) → slice_get L g ≡ Some i → M i ≡ Some []
  pub primitives : (i : ℕ) (p : Primitive) → primitive_at B.primitives i ≡ Some p → M i ≡ Some []

-- where a declared function has a type in a mode, its closure has it at least so
abbrev HasIn : Entry → Mode → TypeExpression → Type 0
HasIn y m A = AtLeast (entry_mode (declared_entry y)) m × (entry_type (declared_entry y) ≡ of A)

at_its_world : (m : Mode) (w : World) → w ≢ Any → world_of m ≡ w → m ≡ only w
at_its_world (only v) w n e = ap only e
at_its_world everywhere w n e = absurd (n (sym e))

one_world : (m : Mode) (w : World) (A D G : TypeExpression) → w ≢ Any → world_of m ≡ w → function A D ≡ G → AtLeast (only w) m × (of (function A D) ≡ of G)
one_world m w A D G n e t = (inl (sym (at_its_world m w n e)), ap of t)

declared_has : (y : Entry) (m : Mode) (G : TypeExpression) → IsKnownAt (entry_bound y) (world_of m) G → HasIn y m G
declared_has (by_value k T) m G (inl e) = absurd (let q = e.1 in cc)
declared_has (by_value k T) m G (inr e) = absurd (cc)
declared_has (by_call (only Home) A D) m G (inl e) = let q = e.1 in one_world m Home A D G (λ z. cc) (cc) (cc)
declared_has (by_call (only Home) A D) m G (inr e) = absurd (cc)
declared_has (by_call (only Server) A D) m G (inl e) = let q = e.1 in one_world m Server A D G (λ z. cc) (cc) (cc)
declared_has (by_call (only Server) A D) m G (inr e) = absurd (cc)
declared_has (by_call (only Panel) A D) m G (inl e) = let q = e.1 in one_world m Panel A D G (λ z. cc) (cc) (cc)
declared_has (by_call (only Panel) A D) m G (inr e) = absurd (cc)
declared_has (by_call (only Any) A D) m G (inl e) = absurd (let q = e.1 in cc)
declared_has (by_call (only Any) A D) m G (inr e) = (inr refl, ap of (cc))
declared_has (by_call everywhere A D) m G (inl e) = absurd (let q = e.1 in cc)
declared_has (by_call everywhere A D) m G (inr e) = (inr refl, ap of (cc))

undeclared : (w : World) (G : TypeExpression) → IsKnownAt (block_bound None) w G → ⊥
undeclared w G (inl e) = cc (e.1)
undeclared w G (inr e) = cc (e)

not_any : (p : Primitive) → primitive_world p ≢ Any
not_any primitive.Say e = cc
not_any primitive.SetText e = cc
not_any primitive.GetText e = cc
not_any primitive.On e = cc
not_any primitive.Read e = cc
not_any primitive.Write e = cc
not_any primitive.Watch e = cc
not_any primitive.Show e = cc

asks_there : (B : Blocks) (ps : List Named) (i : ℕ) (p : Primitive) → Each (AsksBy B) ps → primitive_at ps i ≡ Some p → (A : TypeExpression) × (D : TypeExpression) × (primitive_type p ≡ function A D) × (slice_get B.table i ≡ Some (asking_block p A D))
asks_there B [] i p h e = absurd (cc (e))
asks_there B (a ∷ ps) i p h e = by_test (λ k. asks_there B ps i p h.1 k) (a.label == i) refl
  where
    by_test : (primitive_at ps i ≡ Some p → (A : TypeExpression) × (D : TypeExpression) × (primitive_type p ≡ function A D) × (slice_get B.table i ≡ Some (asking_block p A D))) → (b : Bool) → (a.label == i) ≡ b → (A : TypeExpression) × (D : TypeExpression) × (primitive_type p ≡ function A D) × (slice_get B.table i ≡ Some (asking_block p A D))
    by_test ih true q =
        let same : a.label ≡ i = grind (arith, q) in
        let s : Some a.primitive ≡ Some p = sym (ap (λ b. if b then Some a.primitive else primitive_at ps i) q) ∙ e in
        let t : a.primitive ≡ p = cc (s) in
        (h.0.0, h.0.1, sym (ap primitive_type t) ∙ h.0.2, ap (slice_get B.table) (sym same) ∙ h.0.3 ∙ ap (λ z. Some (asking_block z h.0.0 h.0.1)) t)
    by_test ih false q = ih (sym (ap (λ b. if b then Some a.primitive else primitive_at ps i) q) ∙ e)

module _ (C : source.Blocks) (B : Blocks) (d : IsProgram C) (made : IsClosed C B) where
  abbrev E : Setting
  E = setting_of C

  abbrev L : List ℕ
  L = made.labels

  module _ (b : World) (n0 : ℕ) (ls : List ℕ) (n m : ℕ) (S Z : Slots) (f : Follows n0 ls n S Z) (c e : target.Code) where
    -- once what comes after it fits, so does the code
    abbrev pub Finishes : Mode → SlotType → Type 0
    Finishes k T = (o : Mode) × AtLeast o k × ((M : Environments) → Base B L M → Fits B M b (suc m) (fill m o T Z) e → Fits B M b m Z c)

    abbrev pub And : (Mode → SlotType → Type 0) → Mode → SlotType → Type 0
    And P k T = P k T × Finishes k T

    -- a closure of a label's block that takes nothing
    closure_finishes : (i : ℕ) (x : Block) (k : Mode) (T : SlotType) → c ≡ target.closure [] i e → slice_get B.table i ≡ Some x → ((M : Environments) → Base B L M → M i ≡ Some []) → AtLeast (entry_mode x.entry) k → entry_type x.entry ≡ T → Finishes k T
    closure_finishes i x k T q at bare a t = (
      entry_mode x.entry,
      a,
      λ M base h. subst (λ z. Fits B M b m Z z) (sym q) (x, [], at, bare M base, tt, subst (λ U. Fits B M b (suc m) (fill m (entry_mode x.entry) U Z) e) (sym t) h),
    )

    global_fits : (g : ℕ) (P : Mode → SlotType → Type 0) → IsFunctionMade E B L (leaf_form.Glob g) c e → StraightFits E b S (constant (leaf_form.Glob g)) P → StraightFits E b S (constant (leaf_form.Glob g)) (And P)
    global_fits g P (i, q, (inr n, p)) h =
        absurd (undeclared (world_of h.0) h.1 (subst (λ o. IsKnownAt (block_bound o) (world_of h.0) h.1) (functions_missing E B L L C.functions g made.functions n.0) h.3.0.3))
    global_fits g P (i, q, (inl s, p)) h =
        let x = function_block E B L L C.functions g i made.functions s in
        let k = declared_has x.0.entry h.0 h.1 (subst (λ o. IsKnownAt (block_bound o) (world_of h.0) h.1) x.1 h.3.0.3) in
        (h.0, h.1, h.2, h.3, (h.4, closure_finishes i (record { entry = declared_entry x.0.entry; environment = []; code = x.2.0 }) h.0 (of h.1) q x.2.1 (λ M base. base.functions g i s) k.0 k.1))

    primitive_fits : (p : Primitive) (P : Mode → SlotType → Type 0) → IsFunctionMade E B L (leaf_form.Extern p) c e → StraightFits E b S (constant (leaf_form.Extern p)) P → StraightFits E b S (constant (leaf_form.Extern p)) (And P)
    primitive_fits p P md h =
        let x = asks_there B B.primitives md.0 p made.primitives md.2.1 in
        (h.0, h.1, h.2, h.3, (h.4, closure_finishes md.0 (asking_block p x.0 x.1) h.0 (of h.1) md.1 x.3 (λ M base. base.primitives md.0 p md.2.1) (inl (sym (at_its_world h.0 (primitive_world p) (not_any p) h.3.0.0))) (ap of (sym x.2 ∙ sym h.3.0.1))))

    -- other forms have the same types and modes
    pub straight_fits : (s : Straight) (P : Mode → SlotType → Type 0) → IsStraightMade E B L (anew n0 ls) s c e → Covered n0 ls n S Z f (straight_uses s) → StraightFits E b S s P → StraightFits E b S s (And P)
    straight_fits (constant (leaf_form.Glob g)) P md cv h = global_fits g P md h
    straight_fits (constant (leaf_form.Extern p)) P md cv h = primitive_fits p P md h
    straight_fits (one s x) P md cv h = (
      h.0,
      h.1,
      h.2,
      h.3,
      h.4,
      h.5,
      (
        h.6,
        (
          h.0,
          inl refl,
          λ M base g. subst (λ z. Fits B M b m Z z) (sym md) (tt, (h.0, h.1, h.2, h.3, needs_on n0 ls n S Z f (straight_uses (one s x)) x _ _ cv (itself x) h.4, h.5, g)),
        ),
      ),
    )
    straight_fits (two s x y) P md cv h = (
      h.0,
      h.1,
      h.2,
      h.3,
      h.4,
      h.5,
      (
        h.6,
        (
          h.0,
          inl refl,
          λ M base g. subst (λ z. Fits B M b m Z z) (sym md) (tt, (h.0, h.1, h.2, h.3, needs_on n0 ls n S Z f (straight_uses (two s x y)) x _ _ cv (or_left (x == x) (x == y) (itself x)) h.4, needs_on n0 ls n S Z f (straight_uses (two s x y)) y _ _ cv (or_right (y == x) (y == y) (itself y)) h.5, g)),
        ),
      ),
    )
    straight_fits (unheld x) P md cv h = (
      h.0,
      h.1,
      h.2,
      h.3,
      (
        h.4,
        (
          only h.1,
          inl refl,
          λ M base g. subst (λ z. Fits B M b m Z z) (sym md) (tt, (h.0, h.1, h.2, needs_on n0 ls n S Z f (straight_uses (unheld x)) x _ _ cv (itself x) h.3, g)),
        ),
      ),
    )
    straight_fits (unsham x) P md cv h = (
      h.0,
      h.1,
      (
        h.2,
        (
          everywhere,
          inl refl,
          λ M base g. subst (λ z. Fits B M b m Z z) (sym md) (tt, (h.0, needs_on n0 ls n S Z f (straight_uses (unsham x)) x _ _ cv (itself x) h.1, g)),
        ),
      ),
    )
    straight_fits (spawn x) P md cv h = (
      h.0,
      (
        h.1,
        (
          everywhere,
          inl refl,
          λ M base g. subst (λ z. Fits B M b m Z z) (sym md) (tt, (needs_on n0 ls n S Z f (straight_uses (spawn x)) x _ _ cv (itself x) h.0, g)),
        ),
      ),
    )
    straight_fits (constant v) P md cv h = (h.0, h.1, h.2, h.3, (h.4, (h.0, inl refl, λ M base g. subst (λ z. Fits B M b m Z z) (sym md) (tt, (h.0, h.1, h.2, h.3, g)))))
