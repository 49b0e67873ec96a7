-- The forms of values by their types.
use Rattle.std.proofs.Common.{ℤ, ◌≡◌, ◌≢◌, ◌⊎◌, inl, inr, ℕ, Bool, IsTrue, List, Some, refl, sym, ap, subst}
use Rattle.m5_terms.specs.TypeExpression.{TypeExpression, unit, bool, int, string, address, product, sum, function, list, cell, sham, at}
use Rattle.m5_terms.specs.Text.{IsText}
use Rattle.m5_terms.specs.Primitives.{primitive_type}
use Rattle.m5_terms.specs.declared.types.World.{World}
use Rattle.m5_terms.specs.declared.types.World.TheVariants.{Any}
use Rattle.m5_terms.specs.declared.types.Primitive.{Primitive}
use Rattle.m5_terms.specs.declared.types.Primitive.TheVariants as primitive
use Rattle.m5_terms.specs.declared.form.LeafForm.{LeafForm}
use Rattle.m5_terms.specs.declared.form.LeafForm.TheVariants as leaf_form
use Rattle.m5_typing.specs.Value.{leaf_is_value}
use Rattle.m5_typing.specs.Context.{Setting, CellTypes, nothing, type_at}
use Rattle.m5_typing.specs.Rules.{LeafRule}
use Rattle.m5_site_sound.specs.Settings.{with_cells}
use Rattle.m5_cps.specs.Entries.{of}
use Rattle.m5_cps.specs.Values.{left, right, held, pair, cons, Value, atom, wrap, join, closed, Thread, enter, call, Item, thread, raw, Site, SiteNext, unit_value, text_value, put, put_all, filled_by}
use Rattle.m5_cps.specs.Values as value
use Rattle.m5_cps_typing.specs.States.{ClosureTyping, ValueFits}
use Rattle.m5_cps_typing.proofs.Worlds.{ClosureLaws}

-- the forms that a value of the type has
abbrev pub Shape : {C : Type 0} → ClosureTyping C → Setting → CellTypes → World → Value C → TypeExpression → Type 0
Shape K F L u a unit = a ≡ atom leaf_form.Unit
Shape K F L u a bool = (b : Bool) × (a ≡ atom (leaf_form.Bool b))
Shape K F L u a int = (n : ℤ) × (a ≡ atom (leaf_form.Int n))
Shape K F L u a string = (t : List ℕ) × (a ≡ atom (leaf_form.Str t)) × IsText t
Shape K F L u a (address v) = (v ≢ Any) × (a ≡ atom (leaf_form.Addr v))
Shape {C} K F L u a (product A B) = (x y : Value C) × (a ≡ join pair x y) × ValueFits K F L x u (of A) × ValueFits K F L y u (of B)
Shape {C} K F L u a (sum A B) = ((X : TypeExpression) × (x : Value C) × (a ≡ wrap (left X) x) × ValueFits K F L x u (of A)) ⊎ ((X : TypeExpression) × (x : Value C) × (a ≡ wrap (right X) x) × ValueFits K F L x u (of B))
Shape K F L u a (function A B) = Unit {0}
Shape {C} K F L u a (list A) = ((X : TypeExpression) × (a ≡ atom (leaf_form.Nil X))) ⊎ ((x y : Value C) × (a ≡ join cons x y) × ValueFits K F L x u (of A) × ValueFits K F L y u (of (list A)))
Shape K F L u a (cell A) = (n : ℕ) × (a ≡ atom (leaf_form.CellAt u n)) × (type_at (L u) n ≡ Some A)
Shape {C} K F L u a (sham A) = (x : Value C) × (a ≡ wrap value.sham x) × ((v : World) → v ≢ Any → ValueFits K F L x v (of A))
Shape {C} K F L u a (at A v) = (x : Value C) × (a ≡ wrap (held v) x) × (v ≢ Any) × ValueFits K F L x v (of A)

module _ {C : Type 0} (K : ClosureTyping C) (laws : ClosureLaws K) (F : Setting) (L : CellTypes) (u : World) where
  shape_by : (a : Value C) (A B : TypeExpression) → of A ≡ of B → Shape K F L u a B → Shape K F L u a A
  shape_by a A B e h = subst (Shape K F L u a) (let q : B ≡ A = cc in q) h

  primitive_shape : (a : Value C) (p : Primitive) → Shape K F L u a (primitive_type p)
  primitive_shape a primitive.Say = tt
  primitive_shape a primitive.SetText = tt
  primitive_shape a primitive.GetText = tt
  primitive_shape a primitive.On = tt
  primitive_shape a primitive.Read = tt
  primitive_shape a primitive.Write = tt
  primitive_shape a primitive.Watch = tt
  primitive_shape a primitive.Show = tt

  leaf_shape : (f : LeafForm) (A : TypeExpression) → IsTrue (leaf_is_value f) → LeafRule (with_cells L F) nothing u f A → Shape K F L u (atom f) A
  leaf_shape leaf_form.Unit A i d = subst (Shape K F L u (atom leaf_form.Unit)) (sym d) refl
  leaf_shape (leaf_form.Bool b) A i d = subst (Shape K F L u (atom (leaf_form.Bool b))) (sym d) (b, refl)
  leaf_shape (leaf_form.Int n) A i d = subst (Shape K F L u (atom (leaf_form.Int n))) (sym d) (n, refl)
  leaf_shape (leaf_form.Str t) A i d = subst (Shape K F L u (atom (leaf_form.Str t))) (sym d.0) (t, refl, d.1)
  leaf_shape (leaf_form.Addr v) A i d = subst (Shape K F L u (atom (leaf_form.Addr v))) (sym d.1) (d.0, refl)
  leaf_shape (leaf_form.Nil B) A i d = subst (Shape K F L u (atom (leaf_form.Nil B))) (sym d) (inl (B, refl))
  leaf_shape (leaf_form.CellAt v n) A i d = subst (Shape K F L u (atom (leaf_form.CellAt v n))) (sym d.4) (n, ap (λ w. atom (leaf_form.CellAt w n)) (sym d.2), subst (λ w. type_at (L w) n ≡ Some d.0) (sym d.2) d.3)
  leaf_shape (leaf_form.Glob f) A i d = subst (Shape K F L u (atom (leaf_form.Glob f))) (sym d.2) tt
  leaf_shape (leaf_form.Extern p) A i d = subst (Shape K F L u (atom (leaf_form.Extern p))) (sym d.1) (primitive_shape (atom (leaf_form.Extern p)) p)
  leaf_shape (leaf_form.Var x) A i d = absurd (cc)
  leaf_shape (leaf_form.Valid x) A i d = absurd (cc)
  leaf_shape leaf_form.Here A i d = absurd (cc)

  pub shape : (a : Value C) (A : TypeExpression) → ValueFits K F L a u (of A) → Shape K F L u a A
  shape (atom f) A d = shape_by (atom f) A d.0 d.1 (leaf_shape f d.0 d.2 d.3)
  shape (wrap (left X) a) A d = shape_by (wrap (left X) a) A _ d.2 (inl (X, a, refl, d.3))
  shape (wrap (right X) a) A d = shape_by (wrap (right X) a) A _ d.2 (inr (X, a, refl, d.3))
  shape (wrap (held v) a) A d = shape_by (wrap (held v) a) A _ d.1 (a, refl, d.2, d.3)
  shape (wrap value.sham a) A d = shape_by (wrap value.sham a) A _ d.1 (a, refl, d.2)
  shape (join pair a b) A d = shape_by (join pair a b) A _ d.2 (a, b, refl, d.3, d.4)
  shape (join cons a b) A d = shape_by (join cons a b) A _ d.1 (inr (a, b, refl, d.2, d.3))
  shape (closed k ρ) A d =
      let q = laws.function k (λ l. ValueFits K F L (ρ l)) u A d in
      shape_by (closed k ρ) A (function q.0 q.1) (ap of q.2) tt
