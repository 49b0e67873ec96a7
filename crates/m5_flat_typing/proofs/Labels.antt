-- What a typed thread brings to its label has the label's types.
use Rattle.std.proofs.Common.{◌≡◌, ℕ, zero, suc, List, [], ◌∷◌, map, slice_get, Some, refl, ap, subst, ◌∙◌}
use Rattle.m5_terms.specs.TypeExpression.{TypeExpression, function}
use Rattle.m5_terms.specs.declared.types.World.{World}
use Rattle.m5_typing.specs.Context.{CellTypes}
use Rattle.m5_cps.specs.Entries.{SlotType, of, takes, Mode, Entry, by_value, by_call, world_of, entry_mode, entry_type}
use Rattle.m5_cps.specs.Slots.{Slot, slot}
use Rattle.m5_cps_typing.specs.States.{SlotsFit, Stands}
use Rattle.m5_flat.specs.Blocks.{Block, Blocks}
use Rattle.m5_flat.specs.Values.{Value}
use Rattle.m5_flat.specs.Fits.{slot_type}
use Rattle.m5_flat.specs.Program.{IsProgram}
use Rattle.m5_flat_typing.specs.Laws.{Has, HasEnvironment, EntersBlock, CallsBlock, EnteredHasItsTypes, CalledHasItsTypes}

-- the slot of an environment at a type's place
placed : (es : List Slot) (j : ℕ) (T : SlotType) → slice_get (map slot_type es) j ≡ Some T → (m : Mode) × (slice_get es j ≡ Some (slot m T))
placed [] j T e = absurd (cc)
placed (slot m U ∷ es) zero T e = (m, (let q : U ≡ T = cc in ap (λ X. Some (slot m X)) q))
placed (slot m U ∷ es) (suc j) T e = placed es j T e

module _ (B : Blocks) (d : IsProgram B) (L : CellTypes) (u : World) (i : ℕ) (ρ : ℕ → Value) where
  pub has_environment : (b : Block) (es : List Slot) → d.environments i ≡ Some es → slice_get B.table i ≡ Some b → SlotsFit (λ l. Has B d L u (ρ l)) u (slice_get es) → HasEnvironment B d L u ρ b.environment
  has_environment b es o g h j T e =
      let q = placed es j T (ap (λ ts. slice_get ts j) (d.blocks i es b o g).types ∙ e) in
      (q.0, h j q.0 T q.1)

  entered_with : (b : Block) (y : Entry) (x : Value) (T : SlotType) → slice_get B.table i ≡ Some b → b.entry ≡ y → Stands u (world_of (entry_mode y)) → takes T ≡ entry_type y → Has B d L u x u T → HasEnvironment B d L u ρ b.environment → EntersBlock B d L u i ρ x
  entered_with b (by_call m A D) x T g e st t h v = absurd (cc)
  entered_with b (by_value m U) x T g e st t h v = record { block = b; at = g; mode = m; argument = U; entry = e; stands = st; has = subst (Has B d L u x u) (let q : T ≡ U = cc in q) h; environment = v }

  called_with : (b : Block) (y : Entry) (x j : Value) (A D : TypeExpression) → slice_get B.table i ≡ Some b → b.entry ≡ y → Stands u (world_of (entry_mode y)) → of (function A D) ≡ entry_type y → Has B d L u x u (of A) → Has B d L u j u (takes (of D)) → HasEnvironment B d L u ρ b.environment → CallsBlock B d L u i ρ x j
  called_with b (by_value m U) x j A D g e st t h k v = absurd (cc)
  called_with b (by_call m G H) x j A D g e st t h k v = record {
    block = b;
    at = g;
    mode = m;
    argument = G;
    result = H;
    entry = e;
    stands = st;
    has = subst (λ X. Has B d L u x u (of X)) (let q : A ≡ G = cc in q) h;
    continuation = subst (λ X. Has B d L u j u (takes (of X))) (let q : D ≡ H = cc in q) k;
    environment = v;
  }

pub entered_has_its_types : EnteredHasItsTypes
entered_has_its_types B d L u i k ρ x h =
    let c = h.1 in
    entered_with B d L u i ρ c.block c.block.entry x h.0 c.at refl c.stands c.is h.2 (has_environment B d L u i ρ c.block c.environment c.known c.at c.filled)

pub called_has_its_types : CalledHasItsTypes
called_has_its_types B d L u i k ρ x j h =
    let c = h.2 in
    called_with B d L u i ρ c.block c.block.entry x j h.0 h.1 c.at refl c.stands c.is h.3 h.4 (has_environment B d L u i ρ c.block c.environment c.known c.at c.filled)
