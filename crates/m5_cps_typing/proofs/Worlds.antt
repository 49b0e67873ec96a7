-- Values keep their types where there are more cells, those of mobile types at each world, and slots theirs.
use Rattle.std.proofs.Common.{◌≡◌, ◌≢◌, ◌⊎◌, inl, inr, ℕ, Bool, true, false, ◌==◌, if◌then◌else◌, IsTrue, Some, refl, sym, subst}
use Rattle.m5_terms.specs.TypeExpression as type
use Rattle.m5_terms.specs.TypeExpression.{TypeExpression, unit, bool, int, string, address, product, sum, function, list, cell, sham, at, mobile, same_world}
use Rattle.m5_terms.specs.Primitives.{primitive_type}
use Rattle.m5_terms.specs.declared.types.World.{World}
use Rattle.m5_terms.specs.declared.types.World.TheVariants.{Home, Server, Panel, Any}
use Rattle.m5_terms.specs.declared.types.Primitive.{Primitive}
use Rattle.m5_terms.specs.declared.types.Primitive.TheVariants as primitive
use Rattle.m5_terms.specs.declared.form.LeafForm.{LeafForm}
use Rattle.m5_terms.specs.declared.form.LeafForm.TheVariants as leaf_form
use Rattle.m5_typing.specs.Value.{leaf_is_value}
use Rattle.m5_typing.specs.Context.{Setting, CellTypes, nothing}
use Rattle.m5_typing.specs.Rules.{LeafRule}
use Rattle.m5_typing.proofs.Mobile.{both-left, both-right}
use Rattle.m5_site_sound.specs.Settings.{with_cells, Grows}
use Rattle.m5_site_sound.proofs.Growth.{more}
use Rattle.m5_cps.specs.Entries.{SlotType, of, Mode, only, everywhere}
use Rattle.m5_cps.specs.Values.{left, right, held, pair, cons, Value, atom, wrap, join, closed, Thread, enter, call, Item, thread, raw, Site, SiteNext, unit_value, text_value, put, put_all, filled_by}
use Rattle.m5_cps.specs.Values as value
use Rattle.m5_cps.specs.Slots.{slot, Slots, fill, is_mobile, Reaches, Needs, Captures}
use Rattle.m5_cps_typing.specs.States.{at_site, Holds, SlotsFit, Stands, ClosureTyping, ValueFits}

pub stands_at : (u b : World) → Stands u b → at_site u b ≡ u
stands_at u Any h = refl
stands_at u Home (inl e) = e
stands_at u Server (inl e) = e
stands_at u Panel (inl e) = e
stands_at u Home (inr e) = absurd (cc)
stands_at u Server (inr e) = absurd (cc)
stands_at u Panel (inr e) = absurd (cc)

pub real_stays : (u v : World) → v ≢ Any → at_site u v ≡ v
real_stays u Home r = refl
real_stays u Server r = refl
real_stays u Panel r = refl
real_stays u Any r = absurd (r refl)

pub at_site_stands : (u v : World) → Stands (at_site u v) v
at_site_stands u Home = inl refl
at_site_stands u Server = inl refl
at_site_stands u Panel = inl refl
at_site_stands u Any = inr refl

pub at_site_real : (u v : World) → u ≢ Any → at_site u v ≢ Any
at_site_real u Home r = λ e. absurd (cc)
at_site_real u Server r = λ e. absurd (cc)
at_site_real u Panel r = λ e. absurd (cc)
at_site_real u Any r = r

slot_inj : (m k : Mode) (T U : SlotType) → Some (slot m T) ≡ Some (slot k U) → (m ≡ k) × (T ≡ U)
slot_inj m k T U e = (cc, cc)

-- at any other setting with the same values
pub holds_map : (V W : World → SlotType → Type 0) (u : World) (m : Mode) (T : SlotType) → ((v : World) → V v T → W v T) → Holds V u m T → Holds W u m T
holds_map V W u (only v) T f h = f (at_site u v) h
holds_map V W u everywhere T f h = λ v r. f v (h v r)

leaf_grown : (F : Setting) (L M : CellTypes) → Grows L M → (f : LeafForm) (u : World) (A : TypeExpression) → LeafRule (with_cells L F) nothing u f A → LeafRule (with_cells M F) nothing u f A
leaf_grown F L M g (leaf_form.CellAt v n) u A d = (d.0, d.1, d.2, (more (with_cells L F) M g).cells v n d.0 d.3, d.4)
leaf_grown F L M g (leaf_form.Glob f) u A d = d
leaf_grown F L M g _ u A d = d

is_mobile_as : (A B : TypeExpression) → A ≡ B → IsTrue (mobile A) → IsTrue (mobile B)
is_mobile_as A B e m = subst (λ C. IsTrue (mobile C)) e m

primitive_stays : (p : Primitive) → IsTrue (mobile (primitive_type p)) → ⊥
primitive_stays primitive.Say m = cc
primitive_stays primitive.SetText m = cc
primitive_stays primitive.GetText m = cc
primitive_stays primitive.On m = cc
primitive_stays primitive.Read m = cc
primitive_stays primitive.Write m = cc
primitive_stays primitive.Watch m = cc
primitive_stays primitive.Show m = cc

leaf_moves : (E : Setting) (f : LeafForm) (w u : World) (A : TypeExpression) → IsTrue (leaf_is_value f) → IsTrue (mobile A) → LeafRule E nothing w f A → LeafRule E nothing u f A
leaf_moves E (leaf_form.CellAt v n) w u A p m d = let q = is_mobile_as A _ d.4 m in cc
leaf_moves E (leaf_form.Glob f) w u A p m d = let q = is_mobile_as A _ d.2 m in cc
leaf_moves E (leaf_form.Extern x) w u A p m d = absurd (primitive_stays x (is_mobile_as A _ d.1 m))
leaf_moves E leaf_form.Unit w u A p m d = d
leaf_moves E (leaf_form.Str s) w u A p m d = d
leaf_moves E (leaf_form.Addr v) w u A p m d = d
leaf_moves E (leaf_form.Int n) w u A p m d = d
leaf_moves E (leaf_form.Bool b) w u A p m d = d
leaf_moves E (leaf_form.Nil B) w u A p m d = d
leaf_moves E _ w u A p m d = cc

-- what is asked of the typing of closures: it goes by what the slots have, and a closure is of no mobile type, and among the
-- source's types a function
pub record ClosureLaws {C : Type 0} (K : ClosureTyping C) : Type 1 where
  pub grown : (k : C) (V W : ℕ → World → SlotType → Type 0) (u : World) (T : SlotType) → ((l : ℕ) (v : World) (U : SlotType) → V l v U → W l v U) → K k V u T → K k W u T
  pub stays : (k : C) (V : ℕ → World → SlotType → Type 0) (u : World) (T : SlotType) → K k V u T → IsTrue (is_mobile T) → ⊥
  pub function : (k : C) (V : ℕ → World → SlotType → Type 0) (u : World) (A : TypeExpression) → K k V u (of A) → (B D : TypeExpression) × (A ≡ type.function B D)

module _ {C : Type 0} (K : ClosureTyping C) (laws : ClosureLaws K) where
  pub value_grown : (F : Setting) (L M : CellTypes) → Grows L M → (a : Value C) (u : World) (T : SlotType) → ValueFits K F L a u T → ValueFits K F M a u T
  value_grown F L M g (atom f) u T d = (d.0, d.1, d.2, leaf_grown F L M g f u d.0 d.3)
  value_grown F L M g (wrap (left X) a) u T d = (d.0, d.1, d.2, value_grown F L M g a u (of d.0) d.3)
  value_grown F L M g (wrap (right X) a) u T d = (d.0, d.1, d.2, value_grown F L M g a u (of d.1) d.3)
  value_grown F L M g (wrap (held v) a) u T d = (d.0, d.1, d.2, value_grown F L M g a v (of d.0) d.3)
  value_grown F L M g (wrap value.sham a) u T d = (d.0, d.1, λ v r. value_grown F L M g a v (of d.0) (d.2 v r))
  value_grown F L M g (join pair a b) u T d = (d.0, d.1, d.2, value_grown F L M g a u (of d.0) d.3, value_grown F L M g b u (of d.1) d.4)
  value_grown F L M g (join cons a b) u T d = (d.0, d.1, value_grown F L M g a u (of d.0) d.2, value_grown F L M g b u (of (list d.0)) d.3)
  value_grown F L M g (closed k ρ) u T d = laws.grown k (λ l. ValueFits K F L (ρ l)) (λ l. ValueFits K F M (ρ l)) u T (λ l v U h. value_grown F L M g (ρ l) v U h) d

  -- a value of a mobile type has it at each world
  pub value_moves : (F : Setting) (L : CellTypes) (a : Value C) (w u : World) (T : SlotType) → IsTrue (is_mobile T) → ValueFits K F L a w T → ValueFits K F L a u T
  value_moves F L (atom f) w u T i d = (d.0, d.1, d.2, leaf_moves (with_cells L F) f w u d.0 d.2 (subst (λ X. IsTrue (is_mobile X)) d.1 i) d.3)
  value_moves F L (wrap (left X) a) w u T i d = (d.0, d.1, d.2, value_moves F L a w u (of d.0) (both-left (mobile d.0) (mobile d.1) (subst (λ X. IsTrue (is_mobile X)) d.2 i)) d.3)
  value_moves F L (wrap (right X) a) w u T i d = (d.0, d.1, d.2, value_moves F L a w u (of d.1) (both-right (mobile d.0) (mobile d.1) (subst (λ X. IsTrue (is_mobile X)) d.2 i)) d.3)
  value_moves F L (wrap (held v) a) w u T i d = d
  value_moves F L (wrap value.sham a) w u T i d = d
  value_moves F L (join pair a b) w u T i d =
      let q = subst (λ X. IsTrue (is_mobile X)) d.2 i in
      (d.0, d.1, d.2, value_moves F L a w u (of d.0) (both-left (mobile d.0) (mobile d.1) q) d.3, value_moves F L b w u (of d.1) (both-right (mobile d.0) (mobile d.1) q) d.4)
  value_moves F L (join cons a b) w u T i d =
      let q = subst (λ X. IsTrue (is_mobile X)) d.1 i in
      (d.0, d.1, value_moves F L a w u (of d.0) q d.2, value_moves F L b w u (of (list d.0)) q d.3)
  value_moves F L (closed k ρ) w u T i d = absurd (laws.stays k (λ l. ValueFits K F L (ρ l)) w T d i)

  -- a value in one mode is one in each that it reaches
  pub holds_as : (F : Setting) (L : CellTypes) (a : Value C) (u : World) (m r : Mode) (T : SlotType) → u ≢ Any → Reaches m r T → Holds (ValueFits K F L a) u m T → Holds (ValueFits K F L a) u r T
  holds_as F L a u everywhere (only w) T q h d = d (at_site u w) (at_site_real u w q)
  holds_as F L a u everywhere everywhere T q h d = d
  holds_as F L a u (only v) (only w) T q (inl e) d = subst (λ x. ValueFits K F L a (at_site u x) T) e d
  holds_as F L a u (only v) (only w) T q (inr i) d = value_moves F L a (at_site u v) (at_site u w) T i d
  holds_as F L a u (only v) everywhere T q i d = λ x r. value_moves F L a (at_site u v) x T i d

  abbrev pub Env : Setting → CellTypes → (ℕ → Value C) → ℕ → World → SlotType → Type 0
  Env F L ρ l = ValueFits K F L (ρ l)

  -- what a slot has
  pub needed : (F : Setting) (L : CellTypes) (ρ : ℕ → Value C) (u : World) (S : Slots) (x : ℕ) (m : Mode) (T : SlotType) → u ≢ Any → SlotsFit (Env F L ρ) u S → Needs S x m T → Holds (ValueFits K F L (ρ x)) u m T
  needed F L ρ u S x m T r h d = holds_as F L (ρ x) u d.0 m T r d.2 (h x d.0 T d.1)

  -- and has where the block runs
  pub needed_here : (F : Setting) (L : CellTypes) (ρ : ℕ → Value C) (u b : World) (S : Slots) (x : ℕ) (T : SlotType) → u ≢ Any → Stands u b → SlotsFit (Env F L ρ) u S → Needs S x (only b) T → ValueFits K F L (ρ x) u T
  needed_here F L ρ u b S x T r st h d = subst (λ v. ValueFits K F L (ρ x) v T) (stands_at u b st) (needed F L ρ u S x (only b) T r h d)

  pub holds_here : (F : Setting) (L : CellTypes) (a : Value C) (u b : World) (T : SlotType) → Stands u b → ValueFits K F L a u T → Holds (ValueFits K F L a) u (only b) T
  holds_here F L a u b T st d = subst (λ v. ValueFits K F L a v T) (sym (stands_at u b st)) d

  pub slots_put : (F : Setting) (L : CellTypes) (ρ : ℕ → Value C) (u : World) (S : Slots) (n : ℕ) (m : Mode) (T : SlotType) (a : Value C) → SlotsFit (Env F L ρ) u S → Holds (ValueFits K F L a) u m T → SlotsFit (Env F L (put n a ρ)) u (fill n m T S)
  slots_put F L ρ u S n m T a h d l k U = by (l == n)
    where
      by : (t : Bool) → (if t then Some (slot m T) else S l) ≡ Some (slot k U) → Holds (ValueFits K F L (if t then a else ρ l)) u k U
      by true e = let q = slot_inj m k T U e in subst (λ y. Holds (ValueFits K F L a) u y U) q.0 (subst (λ Y. Holds (ValueFits K F L a) u m Y) q.1 d)
      by false e = h l k U e

  pub slots_grown : (F : Setting) (L M : CellTypes) (ρ : ℕ → Value C) (u : World) (S : Slots) → Grows L M → SlotsFit (Env F L ρ) u S → SlotsFit (Env F M ρ) u S
  slots_grown F L M ρ u S g h l m T e = holds_map (ValueFits K F L (ρ l)) (ValueFits K F M (ρ l)) u m T (λ v d. value_grown F L M g (ρ l) v T d) (h l m T e)

  -- what a closure takes with it is so where the closure is used
  pub captured_fit : (F : Setting) (L : CellTypes) (ρ : ℕ → Value C) (u b x : World) (m : Mode) (S R : Slots) → u ≢ Any → Captures b m S R → (m ≡ only b → x ≡ u) → SlotsFit (Env F L ρ) u S → SlotsFit (Env F L ρ) x R
  captured_fit F L ρ u b x m S R r cs same h l k T e = let q = cs l k T e in moved k q.1 (needed F L ρ u S l k T r h q.0)
    where
      moved : (k : Mode) → (m ≡ only b) ⊎ (k ≢ only Any) → Holds (ValueFits K F L (ρ l)) u k T → Holds (ValueFits K F L (ρ l)) x k T
      moved k (inl i) d = subst (λ y. Holds (ValueFits K F L (ρ l)) y k T) (sym (same i)) d
      moved everywhere (inr i) d = d
      moved (only Home) (inr i) d = d
      moved (only Server) (inr i) d = d
      moved (only Panel) (inr i) d = d
      moved (only Any) (inr i) d = absurd (i refl)
