-- What is typed at any is typed at each world.
use Rattle.std.proofs.Common.{if◌then◌else◌, ◌≡◌, ◌≢◌, inl, inr, ℕ, Bool, true, false, ◌==◌, Option, Some, None, refl, sym, subst, ap}
use Rattle.m5_terms.specs.Expression.{Expression, leaf, unary, binary, ternary}
use Rattle.m5_terms.specs.TypeExpression.{TypeExpression, address, function, list, at}
use Rattle.m5_terms.specs.Primitives.{primitive_world}
use Rattle.m5_terms.specs.declared.types.World.{World}
use Rattle.m5_terms.specs.declared.types.World.TheVariants.{Any}
use Rattle.m5_terms.specs.declared.types.Primitive.{Primitive}
use Rattle.m5_terms.specs.declared.types.Primitive.TheVariants as primitive
use Rattle.m5_terms.specs.declared.form.LeafForm.{LeafForm}
use Rattle.m5_terms.specs.declared.form.LeafForm.TheVariants as leaf_form
use Rattle.m5_terms.specs.declared.form.UnaryForm.TheVariants as unary_form
use Rattle.m5_terms.specs.declared.form.BinaryForm.TheVariants as binary_form
use Rattle.m5_terms.specs.declared.form.TernaryForm.TheVariants as ternary_form
use Rattle.m5_typing.specs.Context.{Bound, local, valid, Context, Setting, nothing, with, if_valid, IsKnownAt}
use Rattle.m5_typing.specs.Rules.{LeafRule}
use Rattle.m5_typing.specs.Typing.{Typed}
use Rattle.m5_typing.specs.Laws.{TypedEverywhere}
use Rattle.m5_typing.proofs.Weaken.{weaker}

abbrev at_world : World → World → World
at_world u Any = u
at_world u w = w

abbrev lifted : World → Bound → Bound
lifted u (local w A) = local (at_world u w) A
lifted u (valid A) = valid A

abbrev Lifts : World → Context → Context → Type 0
Lifts u G H = (y : ℕ) (b : Bound) → G y ≡ Some b → H y ≡ Some (lifted u b)

lifts-either : (u : World) (t : Bool) (c b : Bound) (p q : Option Bound) → (p ≡ Some b → q ≡ Some (lifted u b)) → (if t then Some c else p) ≡ Some b → (if t then Some (lifted u c) else q) ≡ Some (lifted u b)
lifts-either u true c b p q h e = ap (λ o. Some o) (ap (lifted u) (let q : c ≡ b = cc in q))
lifts-either u false c b p q h e = h e

lifts-with : (u : World) (x : ℕ) (c : Bound) (G H : Context) → Lifts u G H → Lifts u (with x (Some c) G) (with x (Some (lifted u c)) H)
lifts-with u x c G H h = λ y b e. lifts-either u (y == x) c b (G y) (H y) (h y b) e

lifts-valid : (u : World) (o p : Option Bound) → ((b : Bound) → o ≡ Some b → p ≡ Some (lifted u b)) → (b : Bound) → if_valid o ≡ Some b → if_valid p ≡ Some b
lifts-valid u None p h b e = cc
lifts-valid u (Some (local w A)) p h b e = cc
lifts-valid u (Some (valid A)) p h b e = rw (h (valid A) refl) e

real : (u v : World) → v ≢ Any → at_world u v ≡ v
real u Any n = absurd (n refl)
real u _ n = refl

real-is : (u w v : World) → v ≢ Any → w ≡ v → at_world u w ≡ v
real-is u w v n e = subst (λ x. at_world u x ≡ v) (sym e) (real u v n)

ext-real : (p : Primitive) → primitive_world p ≢ Any
ext-real primitive.Say e = cc
ext-real _ e = cc

known-lifts : (o : Option Bound) (u w : World) (A : TypeExpression) → IsKnownAt o w A → IsKnownAt o (at_world u w) A
known-lifts o u w A (inl e) = subst (λ x. IsKnownAt o x A) (sym (real u w e.0)) (inl e)
known-lifts o u w A (inr e) = inr e

leaf-lifts : (E : Setting) (u : World) (f : LeafForm) (G H : Context) (w : World) (A : TypeExpression) → Lifts u G H → LeafRule E G w f A → LeafRule E H (at_world u w) f A
leaf-lifts E u (leaf_form.Var x) G H w A h d = h x (local w A) d
leaf-lifts E u (leaf_form.Valid x) G H w A h d = h x (valid A) d
leaf-lifts E u (leaf_form.Extern p) G H w A h d = (real-is u w (primitive_world p) (ext-real p) d.0, d.1)
leaf-lifts E u leaf_form.Here G H w A h d = subst (λ x. (x ≢ Any) × (A ≡ address x)) (sym (real u w d.0)) d
leaf-lifts E u (leaf_form.CellAt v n) G H w A h d = (d.0, d.1, real-is u w v d.1 d.2, d.3, d.4)
leaf-lifts E u (leaf_form.Glob f) G H w A h d = (d.0, d.1, d.2, known-lifts (E.functions f) u w A d.3)
leaf-lifts E u _ G H w A h d = d

pub lifts : (E : Setting) (u : World) (e : Expression) (G H : Context) (w : World) (A : TypeExpression) → Lifts u G H → Typed E G w e A → Typed E H (at_world u w) e A
lifts E u (leaf f) G H w A h d = (leaf-lifts E u f G H w A h d.0, d.1)
lifts E u (unary (unary_form.Fn x C) a) G H w A h d = record { pick = d.pick; part = lifts E u a _ _ w d.pick.a (lifts-with u x (local w C) G H h) d.part; side = tt; is = d.is; small = d.small }
lifts E u (unary (unary_form.Rec f x C D) a) G H w A h d = record { pick = d.pick; part = lifts E u a _ _ w D (lifts-with u x (local w C) _ _ (lifts-with u f (local w (function C D)) G H h)) d.part; side = tt; is = d.is; small = d.small }
lifts E u (unary unary_form.Hold a) G H w A h d = record {
  pick = d.pick;
  part = lifts E u a G H w d.pick.a h d.part;
  side = subst (λ x. x ≢ Any) (sym (real u w d.side)) d.side;
  is = subst (λ x. A ≡ at d.pick.a x) (sym (real u w d.side)) d.is;
  small = d.small;
}
lifts E u (unary (unary_form.Held v) a) G H w A h d = record {
  pick = d.pick;
  part = subst (λ x. Typed E H x a d.pick.a) (real u v d.side.0) (lifts E u a G H v d.pick.a h d.part);
  side = d.side;
  is = d.is;
  small = d.small;
}
lifts E u (unary unary_form.Sham a) G H w A h d = record {
  pick = d.pick;
  part = weaker E a _ _ Any d.pick.a (λ y b e. lifts-valid u (G y) (H y) (h y) b e) d.part;
  side = d.side;
  is = d.is;
  small = d.small;
}
lifts E u (unary _ a) G H w A h d = record { pick = d.pick; part = lifts E u a G H w _ h d.part; side = d.side; is = d.is; small = d.small }
lifts E u (binary binary_form.Get a b) G H w A h d = record {
  pick = d.pick;
  first = lifts E u a G H w _ h d.first;
  second = subst (λ x. Typed E H x b d.pick.b) (real u d.pick.v d.side.1) (lifts E u b G H d.pick.v d.pick.b h d.second);
  side = (subst (λ x. x ≢ Any) (sym (real u w d.side.0)) d.side.0, d.side.1, d.side.2);
  is = d.is;
  small = d.small;
}
lifts E u (binary (binary_form.Val x) a b) G H w A h d = record { pick = d.pick; first = lifts E u a G H w _ h d.first; second = lifts E u b _ _ w _ (lifts-with u x (local w d.pick.a) G H h) d.second; side = tt; is = d.is; small = d.small }
lifts E u (binary (binary_form.Put x) a b) G H w A h d = record { pick = d.pick; first = lifts E u a G H w _ h d.first; second = lifts E u b _ _ w _ (lifts-with u x (valid d.pick.a) G H h) d.second; side = d.side; is = d.is; small = d.small }
lifts E u (binary (binary_form.Leta x) a b) G H w A h d = record {
  pick = d.pick;
  first = lifts E u a G H w _ h d.first;
  second = subst (λ v. Typed E (with x (Some (local v d.pick.a)) H) (at_world u w) b d.pick.b) (real u d.pick.v d.side) (lifts E u b _ _ w _ (lifts-with u x (local d.pick.v d.pick.a) G H h) d.second);
  side = d.side;
  is = d.is;
  small = d.small;
}
lifts E u (binary (binary_form.Lets x) a b) G H w A h d = record { pick = d.pick; first = lifts E u a G H w _ h d.first; second = lifts E u b _ _ w _ (lifts-with u x (valid d.pick.a) G H h) d.second; side = tt; is = d.is; small = d.small }
lifts E u (binary _ a b) G H w A h d = record { pick = d.pick; first = lifts E u a G H w _ h d.first; second = lifts E u b G H w _ h d.second; side = tt; is = d.is; small = d.small }
lifts E u (ternary ternary_form.If a b c) G H w A h d = record { pick = d.pick; first = lifts E u a G H w _ h d.first; second = lifts E u b G H w _ h d.second; third = lifts E u c G H w _ h d.third; is = d.is; small = d.small }
lifts E u (ternary (ternary_form.CaseSum x y) a b c) G H w A h d = record { pick = d.pick; first = lifts E u a G H w _ h d.first; second = lifts E u b _ _ w _ (lifts-with u x (local w d.pick.a) G H h) d.second; third = lifts E u c _ _ w _ (lifts-with u y (local w d.pick.c) G H h) d.third; is = d.is; small = d.small }
lifts E u (ternary (ternary_form.CaseList x y) a b c) G H w A h d = record { pick = d.pick; first = lifts E u a G H w _ h d.first; second = lifts E u b G H w _ h d.second; third = lifts E u c _ _ w _ (lifts-with u y (local w (list d.pick.a)) _ _ (lifts-with u x (local w d.pick.a) G H h)) d.third; is = d.is; small = d.small }

-- what is typed at any with one variable at any is typed at u with it at u
pub anywhere-one : (E : Setting) (x : ℕ) (C : TypeExpression) (e : Expression) (A : TypeExpression) → Typed E (with x (Some (local Any C)) nothing) Any e A → (u : World) → Typed E (with x (Some (local u C)) nothing) u e A
anywhere-one E x C e A d u = lifts E u e _ _ Any A (lifts-with u x (local Any C) nothing nothing (λ y b q. cc)) d

pub anywhere : TypedEverywhere
anywhere E e u A d = lifts E u e nothing nothing Any A (λ y b q. cc) d
