-- What each form makes of typed values.
use Rattle.std.proofs.Common.{ℤ, pos, ◌≡◌, ◌≢◌, Bool, true, false, if◌then◌else◌, refl, sym, ap, subst, ◌∙◌}
use Rattle.std.specs.Ordering.{int_eq}
use Rattle.m5_terms.specs.TypeExpression.{TypeExpression, unit, bool, int, string, product, sum, list, cell, sham, at}
use Rattle.m5_terms.specs.declared.types.World.{World}
use Rattle.m5_terms.specs.declared.types.World.TheVariants.{Any}
use Rattle.m5_terms.specs.declared.types.Op.{Op}
use Rattle.m5_terms.specs.declared.types.Op.TheVariants as op
use Rattle.m5_terms.specs.declared.form.LeafForm.TheVariants as leaf_form
use Rattle.m5_terms.specs.declared.form.UnaryForm.{UnaryForm}
use Rattle.m5_terms.specs.declared.form.UnaryForm.TheVariants as unary_form
use Rattle.m5_terms.specs.declared.form.BinaryForm.{BinaryForm}
use Rattle.m5_terms.specs.declared.form.BinaryForm.TheVariants as binary_form
use Rattle.m5_terms.proofs.SiteWorlds.{same-self}
use Rattle.m5_typing.specs.Context.{Setting, CellTypes}
use Rattle.m5_typing.specs.Rules.{Pick, unary_rule, binary_rule}
use Rattle.m5_meaning.specs.Reduction.{unit_or}
use Rattle.m5_meaning.specs.Numbers.{quotient}
use Rattle.m5_site_sound.proofs.TextBytes.{text-append, signed-text}
use Rattle.m5_cps.specs.Entries.{SlotType, of, Mode, only, everywhere, world_of}
use Rattle.m5_cps.specs.Values.{left, right, held, pair, cons, Value, atom, wrap, join, closed, Thread, enter, call, Item, thread, raw, Site, SiteNext, unit_value, text_value, put, put_all, filled_by}
use Rattle.m5_cps.specs.Values as value
use Rattle.m5_cps.specs.Made.{gives, loads, stores, fails, divided, at_cell, operated, made_by_one, made_by_two}
use Rattle.m5_cps.specs.Fits.{IsStraightOne, IsStraightTwo, part_mode, no_part}
use Rattle.m5_cps_typing.specs.States.{at_site, Holds, ClosureTyping, ValueFits}
use Rattle.m5_cps_typing.proofs.Worlds.{ClosureLaws, real_stays}
use Rattle.m5_cps_typing.proofs.Shapes.{shape}
use Rattle.m5_cps_typing.proofs.Deeds.{MadeFits, holds_all}

pub holds_to : (V W : World → SlotType → Type 0) (u : World) (m : Mode) (T U : SlotType) → ((v : World) → V v T → W v U) → Holds V u m T → Holds W u m U
holds_to V W u (only v) T U f h = f (at_site u v) h
holds_to V W u everywhere T U f h = λ v r. f v (h v r)

holds_both : (V W Z : World → SlotType → Type 0) (u : World) (m : Mode) (T U X : SlotType) → ((v : World) → V v T → W v U → Z v X) → Holds V u m T → Holds W u m U → Holds Z u m X
holds_both V W Z u (only v) T U X f h k = f (at_site u v) h k
holds_both V W Z u everywhere T U X f h k = λ v r. f v (h v r) (k v r)

-- a form that makes its value for the site's world alone
abbrev IsPlain : UnaryForm → Type 0
IsPlain unary_form.Fst = Unit {0}
IsPlain unary_form.Snd = Unit {0}
IsPlain unary_form.StrOf = Unit {0}
IsPlain unary_form.Div = Unit {0}
IsPlain unary_form.NewCell = Unit {0}
IsPlain unary_form.Load = Unit {0}
IsPlain unary_form.Hold = Unit {0}
IsPlain f = ⊥

module _ {C : Type 0} (K : ClosureTyping C) (laws : ClosureLaws K) (F : Setting) (L : CellTypes) (u : World) (site : u ≢ Any) where
  -- at one world
  one_here : (v : World) (f : UnaryForm) (p : Pick) (a : Value C) → at_site u v ≡ u → IsPlain f → (unary_rule f v p).side no_part → ValueFits K F L a u (of (unary_rule f v p).part) → MadeFits K laws F u L (only v) (of (unary_rule f v p).whole) (made_by_one u f a)
  one_here v unary_form.Fst p a e st side d =
      let s = shape K laws F L u a (product p.a p.b) d in
      subst (λ a. MadeFits K laws F u L (only v) (of p.a) (made_by_one u unary_form.Fst a)) (sym s.2) (subst (λ w. ValueFits K F L s.0 w (of p.a)) (sym e) s.3)
  one_here v unary_form.Snd p a e st side d =
      let s = shape K laws F L u a (product p.a p.b) d in
      subst (λ a. MadeFits K laws F u L (only v) (of p.b) (made_by_one u unary_form.Snd a)) (sym s.2) (subst (λ w. ValueFits K F L s.1 w (of p.b)) (sym e) s.4)
  one_here v unary_form.StrOf p a e st side d =
      let s = shape K laws F L u a int d in
      subst (λ a. MadeFits K laws F u L (only v) (of string) (made_by_one u unary_form.StrOf a)) (sym s.1) (refl, signed-text s.0)
  one_here v unary_form.Div p a e st side d =
      let s = shape K laws F L u a (product int int) d in
      let x = shape K laws F L u s.0 int s.3 in
      let y = shape K laws F L u s.1 int s.4 in
      subst (λ a. MadeFits K laws F u L (only v) (of (sum unit int)) (divided a)) (sym (s.2 ∙ (λ i. join pair (x.1 i) (y.1 i)))) (ways x.0 y.0 (int_eq y.0 (pos 0)))
    where
      ways : (m n : ℤ) (t : Bool) → MadeFits K laws F u L (only v) (of (sum unit int)) (if t then gives (wrap (left (unit_or int)) (atom leaf_form.Unit)) else gives (wrap (right (unit_or int)) (atom (leaf_form.Int (quotient m n)))))
      ways m n true = (unit, int, refl, (unit, refl, refl, refl))
      ways m n false = (unit, int, refl, (int, refl, refl, refl))
  one_here v unary_form.NewCell p a e st side d = (p.a, refl, e, (λ q. absurd (cc)), site, d)
  one_here v unary_form.Load p a e st side d =
      let s = shape K laws F L u a (cell p.a) d in
      subst (λ a. MadeFits K laws F u L (only v) (of p.a) (at_cell u loads a)) (sym s.1) (subst (λ t. MadeFits K laws F u L (only v) (of p.a) (if t then loads s.0 else fails)) (sym (same-self u)) (p.a, refl, e, (λ q. absurd (cc)), s.2))
  one_here v unary_form.Hold p a e st side d =
      let q : v ≡ u = sym (real_stays u v side) ∙ e in
      (p.a, ap (λ w. of (at p.a w)) q, site, d)
  one_here v _ p a e st side d = absurd st

  -- a value is put into a sham
  sham_made : (m : Mode) (A : TypeExpression) (a : Value C) → ((v : World) → v ≢ Any → ValueFits K F L a v (of A)) → Holds (ValueFits K F L (wrap value.sham a)) u m (of (sham A))
  sham_made m A a h = holds_all K laws F u L (wrap value.sham a) m (of (sham A)) (λ v. (A, refl, h))

  pub one_made : (m : Mode) (f : UnaryForm) (p : Pick) (a : Value C) → at_site u (world_of m) ≡ u → IsStraightOne f m → (unary_rule f (world_of m) p).side no_part → Holds (ValueFits K F L a) u (part_mode f m) (of (unary_rule f (world_of m) p).part) → MadeFits K laws F u L m (of (unary_rule f (world_of m) p).whole) (made_by_one u f a)
  one_made m unary_form.Sham p a e st side d = sham_made m p.a a d
  one_made m (unary_form.Inl T) p a e st side d = holds_to (ValueFits K F L a) (ValueFits K F L (wrap (left T) a)) u m (of p.a) (of (sum p.a p.b)) (λ v h. (p.a, p.b, refl, h)) d
  one_made m (unary_form.Inr T) p a e st side d = holds_to (ValueFits K F L a) (ValueFits K F L (wrap (right T) a)) u m (of p.b) (of (sum p.a p.b)) (λ v h. (p.a, p.b, refl, h)) d
  one_made (only v) unary_form.Fst p a e st side d = one_here v unary_form.Fst p a e tt side (subst (λ w. ValueFits K F L a w (of (unary_rule unary_form.Fst v p).part)) e d)
  one_made (only v) unary_form.Snd p a e st side d = one_here v unary_form.Snd p a e tt side (subst (λ w. ValueFits K F L a w (of (unary_rule unary_form.Snd v p).part)) e d)
  one_made (only v) unary_form.StrOf p a e st side d = one_here v unary_form.StrOf p a e tt side (subst (λ w. ValueFits K F L a w (of (unary_rule unary_form.StrOf v p).part)) e d)
  one_made (only v) unary_form.Div p a e st side d = one_here v unary_form.Div p a e tt side (subst (λ w. ValueFits K F L a w (of (unary_rule unary_form.Div v p).part)) e d)
  one_made (only v) unary_form.NewCell p a e st side d = one_here v unary_form.NewCell p a e tt side (subst (λ w. ValueFits K F L a w (of (unary_rule unary_form.NewCell v p).part)) e d)
  one_made (only v) unary_form.Load p a e st side d = one_here v unary_form.Load p a e tt side (subst (λ w. ValueFits K F L a w (of (unary_rule unary_form.Load v p).part)) e d)
  one_made (only v) unary_form.Hold p a e st side d = one_here v unary_form.Hold p a e tt side (subst (λ w. ValueFits K F L a w (of (unary_rule unary_form.Hold v p).part)) e d)
  one_made everywhere unary_form.Fst p a e st side d = absurd st
  one_made everywhere unary_form.Snd p a e st side d = absurd st
  one_made everywhere unary_form.StrOf p a e st side d = absurd st
  one_made everywhere unary_form.Div p a e st side d = absurd st
  one_made everywhere unary_form.NewCell p a e st side d = absurd st
  one_made everywhere unary_form.Load p a e st side d = absurd st
  one_made everywhere unary_form.Hold p a e st side d = absurd st
  one_made m (unary_form.Fn x A) p a e st side d = absurd st
  one_made m (unary_form.Rec f x A B) p a e st side d = absurd st
  one_made m unary_form.Spawn p a e st side d = absurd st
  one_made m (unary_form.Held w) p a e st side d = absurd st

  operated_made : (v : World) (o : Op) (p : Pick) (a b : Value C) → ValueFits K F L a u (of (binary_rule (binary_form.Binary o) v p).first) → ValueFits K F L b u (of (binary_rule (binary_form.Binary o) v p).second) → MadeFits K laws F u L (only v) (of (binary_rule (binary_form.Binary o) v p).whole) (operated o a b)
  operated_made v op.Add p a b d e =
      let x = shape K laws F L u a int d in
      let y = shape K laws F L u b int e in
      subst (λ a. MadeFits K laws F u L (only v) (of int) (operated op.Add a b)) (sym x.1) (subst (λ b. MadeFits K laws F u L (only v) (of int) (operated op.Add (atom (leaf_form.Int x.0)) b)) (sym y.1) (int, refl, refl, refl))
  operated_made v op.Sub p a b d e =
      let x = shape K laws F L u a int d in
      let y = shape K laws F L u b int e in
      subst (λ a. MadeFits K laws F u L (only v) (of int) (operated op.Sub a b)) (sym x.1) (subst (λ b. MadeFits K laws F u L (only v) (of int) (operated op.Sub (atom (leaf_form.Int x.0)) b)) (sym y.1) (int, refl, refl, refl))
  operated_made v op.Mul p a b d e =
      let x = shape K laws F L u a int d in
      let y = shape K laws F L u b int e in
      subst (λ a. MadeFits K laws F u L (only v) (of int) (operated op.Mul a b)) (sym x.1) (subst (λ b. MadeFits K laws F u L (only v) (of int) (operated op.Mul (atom (leaf_form.Int x.0)) b)) (sym y.1) (int, refl, refl, refl))
  operated_made v op.EqInt p a b d e =
      let x = shape K laws F L u a int d in
      let y = shape K laws F L u b int e in
      subst (λ a. MadeFits K laws F u L (only v) (of bool) (operated op.EqInt a b)) (sym x.1) (subst (λ b. MadeFits K laws F u L (only v) (of bool) (operated op.EqInt (atom (leaf_form.Int x.0)) b)) (sym y.1) (bool, refl, refl, refl))
  operated_made v op.Less p a b d e =
      let x = shape K laws F L u a int d in
      let y = shape K laws F L u b int e in
      subst (λ a. MadeFits K laws F u L (only v) (of bool) (operated op.Less a b)) (sym x.1) (subst (λ b. MadeFits K laws F u L (only v) (of bool) (operated op.Less (atom (leaf_form.Int x.0)) b)) (sym y.1) (bool, refl, refl, refl))
  operated_made v op.Cat p a b d e =
      let x = shape K laws F L u a string d in
      let y = shape K laws F L u b string e in
      subst (λ a. MadeFits K laws F u L (only v) (of string) (operated op.Cat a b)) (sym x.1) (subst (λ b. MadeFits K laws F u L (only v) (of string) (operated op.Cat (atom (leaf_form.Str x.0)) b)) (sym y.1) (refl, text-append x.0 y.0 x.2 y.2))
  operated_made v op.EqStr p a b d e =
      let x = shape K laws F L u a string d in
      let y = shape K laws F L u b string e in
      subst (λ a. MadeFits K laws F u L (only v) (of bool) (operated op.EqStr a b)) (sym x.1) (subst (λ b. MadeFits K laws F u L (only v) (of bool) (operated op.EqStr (atom (leaf_form.Str x.0)) b)) (sym y.1) (bool, refl, refl, refl))

  store_made : (v : World) (p : Pick) (a b : Value C) → ValueFits K F L a u (of (cell p.a)) → ValueFits K F L b u (of p.a) → MadeFits K laws F u L (only v) (of unit) (at_cell u (λ n. stores n b) a)
  store_made v p a b d e =
      let s = shape K laws F L u a (cell p.a) d in
      subst (λ a. MadeFits K laws F u L (only v) (of unit) (at_cell u (λ n. stores n b) a)) (sym s.1) (subst (λ t. MadeFits K laws F u L (only v) (of unit) (if t then stores s.0 b else fails)) (sym (same-self u)) (p.a, refl, s.2, e))

  pub two_made : (m : Mode) (f : BinaryForm) (p : Pick) (a b : Value C) → at_site u (world_of m) ≡ u → IsStraightTwo f m → Holds (ValueFits K F L a) u m (of (binary_rule f (world_of m) p).first) → Holds (ValueFits K F L b) u m (of (binary_rule f (world_of m) p).second) → MadeFits K laws F u L m (of (binary_rule f (world_of m) p).whole) (made_by_two u f a b)
  two_made m binary_form.Pair p a b e st d c = holds_both (ValueFits K F L a) (ValueFits K F L b) (ValueFits K F L (join pair a b)) u m (of p.a) (of p.b) (of (product p.a p.b)) (λ v h k. (p.a, p.b, refl, h, k)) d c
  two_made m binary_form.Cons p a b e st d c = holds_both (ValueFits K F L a) (ValueFits K F L b) (ValueFits K F L (join cons a b)) u m (of p.a) (of (list p.a)) (of (list p.a)) (λ v h k. (p.a, refl, h, k)) d c
  two_made (only v) binary_form.Store p a b e st d c = store_made v p a b (subst (λ w. ValueFits K F L a w (of (cell p.a))) e d) (subst (λ w. ValueFits K F L b w (of p.a)) e c)
  two_made (only v) (binary_form.Binary o) p a b e st d c = operated_made v o p a b (subst (λ w. ValueFits K F L a w (of (binary_rule (binary_form.Binary o) v p).first)) e d) (subst (λ w. ValueFits K F L b w (of (binary_rule (binary_form.Binary o) v p).second)) e c)
  two_made everywhere binary_form.Store p a b e st d c = absurd st
  two_made everywhere (binary_form.Binary o) p a b e st d c = absurd st
  two_made m binary_form.Call p a b e st d c = absurd st
  two_made m binary_form.Do p a b e st d c = absurd st
  two_made m binary_form.Get p a b e st d c = absurd st
  two_made m (binary_form.Val x) p a b e st d c = absurd st
  two_made m (binary_form.Put x) p a b e st d c = absurd st
  two_made m (binary_form.Leta x) p a b e st d c = absurd st
  two_made m (binary_form.Lets x) p a b e st d c = absurd st
