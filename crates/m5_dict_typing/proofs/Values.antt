-- A typed value is of each id that stands for its type.
use Rattle.std.proofs.Common.{◌≡◌, ◌≢◌, ◌∙◌, inl, inr, ℕ, IsTrue, Some, slice_get, refl, sym, ap, subst}
use Rattle.std.proofs.lemmas.List.{length-map}
use Rattle.m5_terms.specs.TypeExpression as type
use Rattle.m5_terms.specs.TypeExpression.{TypeExpression, function}
use Rattle.m5_terms.specs.Primitives.{primitive_type}
use Rattle.m5_terms.specs.declared.types.Primitive.{Primitive}
use Rattle.m5_terms.specs.declared.types.Primitive.TheVariants as primitive
use Rattle.m5_terms.specs.declared.types.World.{World}
use Rattle.m5_terms.specs.declared.types.World.TheVariants.{Home, Server, Panel, Any}
use Rattle.m5_terms.specs.declared.form.LeafForm.{LeafForm}
use Rattle.m5_terms.specs.declared.form.LeafForm.TheVariants as leaf_form
use Rattle.m5_typing.specs.Value.{leaf_is_value}
use Rattle.m5_typing.specs.Context.{CellTypes, IsKnownAt, nothing}
use Rattle.m5_typing.specs.Rules.{LeafRule}
use Rattle.m5_site_sound.specs.Settings.{with_cells}
use Rattle.m5_dictionary.specs.declared.line.TypeLine.TheVariants as lines
use Rattle.m5_dictionary.specs.Dictionaries.{Entrance, Dictionaries, IsDictionaries}
use Rattle.m5_dict.specs.Lines.{address_line}
use Rattle.m5_dict.specs.Standing.{fun, Stands, slot_target, type_target, entry_target}
use Rattle.m5_dict.specs.Dictionaries.{IsEntranceOf, AreDictionariesOf}
use Rattle.m5_cps.specs.Entries.{SlotType, of, Mode, only, everywhere, Entry, by_value, by_call, entry_type}
use Rattle.m5_cps.specs.Values.{left, right, held, pair, cons, atom, wrap, join, closed}
use Rattle.m5_cps.specs.Values as value
use Rattle.m5_cps_typing.specs.States.{at_site, Holds, ValueFits}
use Rattle.m5_flat.specs.Blocks.{Block, Blocks}
use Rattle.m5_flat.specs.Values.{under, Value}
use Rattle.m5_flat.specs.Fits.{no_setting}
use Rattle.m5_flat.specs.Program.{IsProgram}
use Rattle.m5_flat_typing.specs.Closures.{LabelHolds, ClosureFits}
use Rattle.m5_flat_typing.proofs.Labels.{has_environment}
use Rattle.m5_dict_typing.specs.Values.{LeafIsOf, ClosureIsOf, IsOf}
use Rattle.m5_dict_typing.proofs.Ids.{one_id, zip_first, zip_second, as_many, map_back}

primitive_is : (p : Primitive) → (A D : TypeExpression) × (primitive_type p ≡ function A D)
primitive_is primitive.Say = (_, _, refl)
primitive_is primitive.SetText = (_, _, refl)
primitive_is primitive.GetText = (_, _, refl)
primitive_is primitive.On = (_, _, refl)
primitive_is primitive.Read = (_, _, refl)
primitive_is primitive.Write = (_, _, refl)
primitive_is primitive.Watch = (_, _, refl)
primitive_is primitive.Show = (_, _, refl)

site_line : (w : World) → w ≢ Any → address_line w ≡ lines.Addr w
site_line Home r = refl
site_line Server r = refl
site_line Panel r = refl
site_line Any r = absurd (r refl)

somewhere : (V : World → SlotType → Type 0) (u : World) (m : Mode) (T : SlotType) → Holds V u m T → (w : World) × V w T
somewhere V u (only v) T h = (at_site u v, h)
somewhere V u everywhere T h = (Home, h Home (λ e. cc))

-- a closure has the type of functions of what its block takes
pub closure_target : (y : Entry) → slot_target (entry_type y) ≡ fun (entry_target y)
closure_target (by_value m T) = refl
closure_target (by_call m A D) = refl

module _ (B : Blocks) (p : IsProgram B) (d : Dictionaries) (ok : IsDictionaries d) (are : AreDictionariesOf B d) (L : CellTypes) where
  abbrev pub Has : Value → World → SlotType → Type 0
  Has = ValueFits (ClosureFits B p.environments) no_setting L

  abbrev pub HasId : Value → Type 0
  HasId v = (u : World) (T : SlotType) (i : ℕ) → Has v u T → Stands d.types i (slot_target T) → IsOf d i v

  leaf_is : (f : LeafForm) (u : World) (A : TypeExpression) (i : ℕ) → IsTrue (leaf_is_value f) → LeafRule (with_cells L no_setting) nothing u f A → Stands d.types i (type_target A) → LeafIsOf (slice_get d.types i) f
  leaf_is leaf_form.Unit u A i q h s = subst (λ X. Stands d.types i (type_target X)) h s
  leaf_is (leaf_form.Bool b) u A i q h s = subst (λ X. Stands d.types i (type_target X)) h s
  leaf_is (leaf_form.Int n) u A i q h s = subst (λ X. Stands d.types i (type_target X)) h s
  leaf_is (leaf_form.Str t) u A i q h s = (subst (λ X. Stands d.types i (type_target X)) h.0 s, h.1)
  leaf_is (leaf_form.Addr w) u A i q h s = subst (λ X. Stands d.types i (type_target X)) h.1 s ∙ ap Some (site_line w h.0)
  leaf_is (leaf_form.Nil X) u A i q h s = let z = subst (λ Y. Stands d.types i (type_target Y)) h s in (z.part, z.is)
  leaf_is (leaf_form.CellAt w n) u A i q h s = subst (λ X. Stands d.types i (type_target X)) h.4 s
  leaf_is (leaf_form.Extern x) u A i q h s =
      let y = primitive_is x in
      let z = subst (λ Y. Stands d.types i (type_target Y)) (h.1 ∙ y.2) s in
      (z.part, z.is)
  leaf_is (leaf_form.Glob g) u A i q h s = absurd (none h.3)
    where
      none : IsKnownAt (no_setting.functions g) u A → ⊥
      none k = elim k [ inl e ↦ (let z = e.1 in cc) | inr e ↦ cc ]
  leaf_is (leaf_form.Var x) u A i q h s = absurd (cc)
  leaf_is (leaf_form.Valid x) u A i q h s = absurd (cc)
  leaf_is leaf_form.Here u A i q h s = absurd (cc)

  -- the line of a label
  pub entrance_at : (l : ℕ) (b : Block) → slice_get B.table l ≡ Some b → (e : Entrance) × (slice_get d.labels l ≡ Some e) × IsEntranceOf d.types e b
  entrance_at l b g = zip_first (IsEntranceOf d.types) d.labels B.table l b are.labels g

  module _ (l k : ℕ) (ρ : ℕ → Value) (each : (j : ℕ) → HasId (ρ j)) (u : World) (T : SlotType) (h : LabelHolds B p.environments l k (λ j. Has (ρ j)) u T) (e : Entrance) (at : slice_get d.labels l ≡ Some e) (is : IsEntranceOf d.types e h.block) where
    pub taken : (j id : ℕ) → slice_get e.environment j ≡ Some id → IsOf d id (ρ j)
    taken j id g =
        let z = zip_second (Stands d.types) e.environment _ j id is.environment g in
        let t = map_back slot_target h.block.environment j z.0 z.1 in
        let v = has_environment B p L u l ρ h.block h.environment h.known h.at h.filled j t.0 t.1 in
        let w = somewhere (Has (ρ j)) u v.0 t.0 v.1 in
        each j w.0 t.0 id w.1 (subst (Stands d.types id) (sym t.2) z.2)

    -- of an id that stands for functions of what the label takes
    abbrev pub closure_from : (i : ℕ) → slice_get d.types i ≡ Some (lines.Fun e.argument) → ClosureIsOf d i l k (λ j id. IsOf d id (ρ j))
    closure_from i line = record {
      entrance = e;
      at = at;
      line = line;
      count = h.count ∙ sym (as_many (Stands d.types) e.environment _ is.environment ∙ length-map h.block.environment slot_target);
      environment = taken;
    }

    line_from : (i : ℕ) → Stands d.types i (slot_target T) → slice_get d.types i ≡ Some (lines.Fun e.argument)
    line_from i s =
        let f : Stands d.types i (fun (entry_target h.block.entry)) = subst (Stands d.types i) (ap slot_target h.is ∙ closure_target h.block.entry) s in
        f.is ∙ ap (λ n. Some (lines.Fun n)) (one_id d.types ok.types (entry_target h.block.entry) f.part e.argument f.stands is.argument)

  pub has_id : (v : Value) → HasId v
  has_id (atom f) u T i h s = leaf_is f u h.0 i h.2 h.3 (subst (λ U. Stands d.types i (slot_target U)) h.1 s)
  has_id (wrap (left X) a) u T i h s = let q = subst (λ U. Stands d.types i (slot_target U)) h.2 s in (q.first, q.second, q.is, has_id a u (of h.0) q.first h.3 q.first_stands)
  has_id (wrap (right X) a) u T i h s = let q = subst (λ U. Stands d.types i (slot_target U)) h.2 s in (q.first, q.second, q.is, has_id a u (of h.1) q.second h.3 q.second_stands)
  has_id (wrap (held w) a) u T i h s = has_id a w (of h.0) i h.3 (subst (λ U. Stands d.types i (slot_target U)) h.1 s)
  has_id (wrap value.sham a) u T i h s = has_id a Home (of h.0) i (h.2 Home (λ e. cc)) (subst (λ U. Stands d.types i (slot_target U)) h.1 s)
  has_id (join pair a b) u T i h s =
      let q = subst (λ U. Stands d.types i (slot_target U)) h.2 s in
      (q.first, q.second, q.is, has_id a u (of h.0) q.first h.3 q.first_stands, has_id b u (of h.1) q.second h.4 q.second_stands)
  has_id (join cons a b) u T i h s =
      let t : Stands d.types i (slot_target (of (type.list h.0))) = subst (λ U. Stands d.types i (slot_target U)) h.1 s in
      (t.part, t.is, has_id a u (of h.0) t.part h.2 t.stands, has_id b u (of (type.list h.0)) i h.3 t)
  has_id (closed (under l k) ρ) u T i h s =
      let e = entrance_at l h.block h.at in
      closure_from l k ρ (λ j. has_id (ρ j)) u T h e.0 e.1 e.2 i (line_from l k ρ (λ j. has_id (ρ j)) u T h e.0 e.1 e.2 i s)
