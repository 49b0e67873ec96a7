-- Closures under labels are typed as closures are to be, and what is taken into an environment has its types.
use Rattle.std.proofs.Common.{◌≡◌, ◌≢◌, ◌⊎◌, inl, inr, ℕ, zero, suc, IsTrue, List, [], ◌∷◌, map, length, slice_get, Option, Some, refl, sym, ap, subst, ◌∙◌}
use Rattle.std.specs.List.{AllZip}
use Rattle.m5_terms.specs.TypeExpression.{TypeExpression, function}
use Rattle.m5_terms.specs.declared.types.World.{World}
use Rattle.m5_terms.specs.declared.types.World.TheVariants.{Home, Server, Panel, Any}
use Rattle.m5_typing.specs.Context.{CellTypes}
use Rattle.m5_cps.specs.Entries.{SlotType, of, Mode, only, everywhere, Entry, by_value, by_call, world_of, entry_mode, entry_type}
use Rattle.m5_cps.specs.Values.{closed}
use Rattle.m5_cps.specs.Slots.{Slot, slot, Slots, is_mobile}
use Rattle.m5_cps_typing.specs.States.{at_site, Holds, SlotsFit, Stands, ValueFits}
use Rattle.m5_cps_typing.proofs.Worlds.{ClosureLaws, stands_at, at_site_stands, holds_map, Env, needed}
use Rattle.m5_flat.specs.Blocks.{Block, Blocks}
use Rattle.m5_flat.specs.Values.{Closure, under, Value, value_of, taken}
use Rattle.m5_flat.specs.Fits.{no_setting, Environments, slot_type, TakesSlot}
use Rattle.m5_flat.specs.Program.{IsBlock}
use Rattle.m5_flat_typing.specs.Closures.{ClosureFits}

pub closure_laws : (B : Blocks) (M : Environments) → ClosureLaws (ClosureFits B M)
closure_laws B M = record { grown = grown; stays = stays; function = named }
  where
    grown : (k : Closure) (V W : ℕ → World → SlotType → Type 0) (u : World) (T : SlotType) → ((l : ℕ) (v : World) (U : SlotType) → V l v U → W l v U) → ClosureFits B M k V u T → ClosureFits B M k W u T
    grown (under i k) V W u T f d = record { block = d.block; at = d.at; environment = d.environment; known = d.known; count = d.count; stands = d.stands; is = d.is; filled = λ l m U e. holds_map (V l) (W l) u m U (λ v h. f l v U h) (d.filled l m U e) }

    of_no_mobile : (y : Entry) → IsTrue (is_mobile (entry_type y)) → ⊥
    of_no_mobile (by_value m T) h = cc
    of_no_mobile (by_call m A D) h = cc

    stays : (k : Closure) (V : ℕ → World → SlotType → Type 0) (u : World) (T : SlotType) → ClosureFits B M k V u T → IsTrue (is_mobile T) → ⊥
    stays (under i k) V u T d h = of_no_mobile d.block.entry (subst (λ X. IsTrue (is_mobile X)) d.is h)

    by_entry : (y : Entry) (A : TypeExpression) → of A ≡ entry_type y → (C D : TypeExpression) × (A ≡ function C D)
    by_entry (by_value m T) A e = absurd (cc)
    by_entry (by_call m C D) A e = (C, D, cc)

    named : (k : Closure) (V : ℕ → World → SlotType → Type 0) (u : World) (A : TypeExpression) → ClosureFits B M k V u (of A) → (C D : TypeExpression) × (A ≡ function C D)
    named (under i k) V u A d = by_entry d.block.entry A d.is

-- the slot for a position
slot_for : (b : World) (m : Mode) (S : Slots) (ls : List ℕ) (es : List Slot) (j : ℕ) (e : Slot) → AllZip (TakesSlot b m S) ls es → slice_get es j ≡ Some e → (l : ℕ) × (slice_get ls j ≡ Some l) × TakesSlot b m S l e
slot_for b m S [] [] j e z g = absurd (cc)
slot_for b m S [] (a ∷ es) j e z g = absurd z
slot_for b m S (l ∷ ls) [] j e z g = absurd z
slot_for b m S (l ∷ ls) (a ∷ es) zero e z g = (l, refl, subst (TakesSlot b m S l) (let q : a ≡ e = cc in q) z.0)
slot_for b m S (l ∷ ls) (a ∷ es) (suc j) e z g = slot_for b m S ls es j e z.1 g

pub as_many : (b : World) (m : Mode) (S : Slots) (ls : List ℕ) (es : List Slot) → AllZip (TakesSlot b m S) ls es → length ls ≡ length es
as_many b m S [] [] z = refl
as_many b m S [] (a ∷ es) z = absurd z
as_many b m S (l ∷ ls) [] z = absurd z
as_many b m S (l ∷ ls) (a ∷ es) z = ap suc (as_many b m S ls es z.1)

mapped : (es : List Slot) → length es ≡ length (map slot_type es)
mapped [] = refl
mapped (e ∷ es) = ap suc (mapped es)

pub typed_count : (B : Blocks) (M : Environments) (es : List Slot) (d : Block) → IsBlock B M es d → length es ≡ length d.environment
typed_count B M es d h = mapped es ∙ ap length h.types

module _ (B : Blocks) (M : Environments) (L : CellTypes) where
  abbrev pub EnvOf : (ℕ → Value) → ℕ → World → SlotType → Type 0
  EnvOf ρ = Env (ClosureFits B M) (closure_laws B M) no_setting L ρ

  -- what a closure takes with it is so where the closure is used
  moved : (a : Value) (u b x : World) (m k : Mode) (T : SlotType) → (m ≡ only b → x ≡ u) → (m ≡ only b) ⊎ (k ≢ only Any) → Holds (ValueFits (ClosureFits B M) no_setting L a) u k T → Holds (ValueFits (ClosureFits B M) no_setting L a) x k T
  moved a u b x m k T same (inl i) d = subst (λ y. Holds (ValueFits (ClosureFits B M) no_setting L a) y k T) (sym (same i)) d
  moved a u b x m everywhere T same (inr i) d = d
  moved a u b x m (only Home) T same (inr i) d = d
  moved a u b x m (only Server) T same (inr i) d = d
  moved a u b x m (only Panel) T same (inr i) d = d
  moved a u b x m (only Any) T same (inr i) d = absurd (i refl)

  pub taken_fit : (ρ : ℕ → Value) (u b x : World) (m : Mode) (S : Slots) (ls : List ℕ) (es : List Slot) → u ≢ Any → AllZip (TakesSlot b m S) ls es → (m ≡ only b → x ≡ u) → SlotsFit (EnvOf ρ) u S → SlotsFit (EnvOf (taken ls ρ)) x (slice_get es)
  taken_fit ρ u b x m S ls es r z same h j k T e =
      let q = slot_for b m S ls es j (slot k T) z e in
      subst (λ (o : Option ℕ). Holds (ValueFits (ClosureFits B M) no_setting L (value_of o ρ)) x k T) (sym q.1)
      (moved (ρ q.0) u b x m k T same q.2.1 (needed (ClosureFits B M) (closure_laws B M) no_setting L ρ u S q.0 k T r h q.2.0))

  -- a closure that is made has its type in its block's mode
  pub closure_holds : (ρ : ℕ → Value) (u b : World) (S : Slots) (ls : List ℕ) (i : ℕ) (d : Block) (es : List Slot) → u ≢ Any → Stands u b → slice_get B.table i ≡ Some d → M i ≡ Some es → IsBlock B M es d → AllZip (TakesSlot b (entry_mode d.entry) S) ls es → SlotsFit (EnvOf ρ) u S →
      Holds (ValueFits (ClosureFits B M) no_setting L (closed (under i (length ls)) (taken ls ρ))) u (entry_mode d.entry) (entry_type d.entry)
  closure_holds ρ u b S ls i d es r st g o w z h = by (entry_mode d.entry) refl
    where
      made : (x : World) → Stands x (world_of (entry_mode d.entry)) → (entry_mode d.entry ≡ only b → x ≡ u) → ValueFits (ClosureFits B M) no_setting L (closed (under i (length ls)) (taken ls ρ)) x (entry_type d.entry)
      made x s q = record { block = d; at = g; environment = es; known = o; count = as_many b (entry_mode d.entry) S ls es z ∙ typed_count B M es d w; stands = s; is = refl; filled = taken_fit ρ u b x (entry_mode d.entry) S ls es r z q h }

      only_inj : (v w : World) → only v ≡ only w → v ≡ w
      only_inj v w e = cc

      by : (m : Mode) → entry_mode d.entry ≡ m → Holds (ValueFits (ClosureFits B M) no_setting L (closed (under i (length ls)) (taken ls ρ))) u m (entry_type d.entry)
      by (only v) e = made (at_site u v) (subst (λ m. Stands (at_site u v) (world_of m)) (sym e) (at_site_stands u v)) (λ q. ap (at_site u) (only_inj v b (sym e ∙ q)) ∙ stands_at u b st)
      by everywhere e = λ v q. made v (subst (λ m. Stands v (world_of m)) (sym e) (inr refl)) (λ o. let z : everywhere ≡ only b = sym e ∙ o in absurd (cc))
