-- What is typed without variables has no free ones.
use Rattle.std.proofs.Common.{if◌then◌else◌, ◌≡◌, ℕ, Bool, true, false, IsTrue, ◌==◌, ◌||◌, ◌&&◌, Option, Some, None, List, [], ◌∷◌, ◌++◌, refl}
use Rattle.m5_terms.specs.Expression.{Expression, leaf, unary, binary, ternary}
use Rattle.m5_terms.specs.TypeExpression.{TypeExpression}
use Rattle.m5_terms.specs.Substitution.{unary_binders, binary_binders, second_binders, third_binders, among}
use Rattle.m5_terms.specs.declared.types.World.{World}
use Rattle.m5_terms.specs.declared.form.LeafForm.{LeafForm}
use Rattle.m5_terms.specs.declared.form.LeafForm.TheVariants as leaf_form
use Rattle.m5_terms.specs.declared.form.UnaryForm.{UnaryForm}
use Rattle.m5_terms.specs.declared.form.UnaryForm.TheVariants as unary_form
use Rattle.m5_typing.specs.Context.{Bound, local, valid, Context, Setting, nothing, with, with_all, if_valid}
use Rattle.m5_typing.specs.Rules.{LeafRule, unary_rule, binary_rule, ternary_rule}
use Rattle.m5_typing.specs.Typing.{Typed, part_context}
use Rattle.m5_terms.specs.Closed.{closed_under, closed_leaf}
use Rattle.m5_typing.specs.Laws.{TypedIsClosed}

-- each variable that is known is among these
abbrev Covers : List ℕ → Context → Type 0
Covers xs G = (x : ℕ) (b : Bound) → G x ≡ Some b → IsTrue (among x xs)

both : (p q : Bool) → IsTrue p → IsTrue q → IsTrue (p && q)
both true q s t = t
both false q s t = s

either : (t : Bool) (o p : Option Bound) (r : Bool) (b : Bound) → (p ≡ Some b → IsTrue r) → (if t then o else p) ≡ Some b → IsTrue (t || r)
either true o p r b h e = refl
either false o p r b h e = h e

covers-with : (x : ℕ) (o : Option Bound) (xs : List ℕ) (G : Context) → Covers xs G → Covers (x ∷ xs) (with x o G)
covers-with x o xs G h = λ y b e. either (y == x) o (G y) (among y xs) b (h y b) e

covers-all : (ys : List ℕ) (bs : List Bound) (xs : List ℕ) (G : Context) → Covers xs G → Covers (ys ++ xs) (with_all ys bs G)
covers-all [] bs xs G h = h
covers-all (y ∷ ys) [] xs G h = covers-with y None (ys ++ xs) (with_all ys [] G) (covers-all ys [] xs G h)
covers-all (y ∷ ys) (b ∷ bs) xs G h = covers-with y (Some b) (ys ++ xs) (with_all ys bs G) (covers-all ys bs xs G h)

covers-valid : (o : Option Bound) (P : Type 0) (b : Bound) → ((c : Bound) → o ≡ Some c → P) → if_valid o ≡ Some b → P
covers-valid None P b h e = cc
covers-valid (Some (local w A)) P b h e = h (local w A) refl
covers-valid (Some (valid A)) P b h e = h (valid A) refl

covers-part : (f : UnaryForm) (xs : List ℕ) (G : Context) → Covers xs G → Covers xs (part_context f G)
covers-part unary_form.Sham xs G h = λ y b e. covers-valid (G y) (IsTrue (among y xs)) b (h y) e
covers-part _ xs G h = h

leaf-closed : (E : Setting) (G : Context) (w : World) (f : LeafForm) (A : TypeExpression) (xs : List ℕ) → Covers xs G → LeafRule E G w f A → IsTrue (closed_leaf xs f)
leaf-closed E G w (leaf_form.Var x) A xs h d = h x (local w A) d
leaf-closed E G w (leaf_form.Valid x) A xs h d = h x (valid A) d
leaf-closed E G w _ A xs h d = refl

closes : (E : Setting) (e : Expression) (G : Context) (w : World) (A : TypeExpression) (xs : List ℕ) → Covers xs G → Typed E G w e A → IsTrue (closed_under xs e)
closes E (leaf f) G w A xs h d = leaf-closed E G w f A xs h d.0
closes E (unary f a) G w A xs h d =
    let r = unary_rule f w d.pick in
    closes E a _ r.world r.part (unary_binders f ++ xs) (covers-all (unary_binders f) r.bounds xs _ (covers-part f xs G h)) d.part
closes E (binary f a b) G w A xs h d =
    let r = binary_rule f w d.pick in
    both (closed_under xs a) _ (closes E a G w r.first xs h d.first)
    (closes E b _ r.world r.second (binary_binders f ++ xs) (covers-all (binary_binders f) r.bounds xs G h) d.second)
closes E (ternary f a b c) G w A xs h d =
    let r = ternary_rule f w d.pick in
    both (closed_under xs a) _ (closes E a G w r.first xs h d.first)
    (both (closed_under (second_binders f ++ xs) b) _
    (closes E b _ w r.whole (second_binders f ++ xs) (covers-all (second_binders f) r.second_bounds xs G h) d.second)
    (closes E c _ w r.whole (third_binders f ++ xs) (covers-all (third_binders f) r.third_bounds xs G h) d.third))

pub closed_terms : TypedIsClosed
closed_terms E w e A d = closes E e nothing w A [] (λ x b p. cc) d
