-- More is known: of variables, of declared functions and of cells.
use Rattle.std.proofs.Common.{if◌then◌else◌, ◌≡◌, inl, inr, ℕ, Bool, true, false, ◌==◌, Option, Some, None, List, [], ◌∷◌, refl}
use Rattle.m5_terms.specs.Expression.{Expression, leaf, unary, binary, ternary}
use Rattle.m5_terms.specs.TypeExpression.{TypeExpression}
use Rattle.m5_terms.specs.Substitution.{unary_binders, binary_binders, second_binders, third_binders}
use Rattle.m5_terms.specs.declared.types.World.{World}
use Rattle.m5_terms.specs.declared.form.LeafForm.{LeafForm}
use Rattle.m5_terms.specs.declared.form.LeafForm.TheVariants as leaf_form
use Rattle.m5_terms.specs.declared.form.UnaryForm.{UnaryForm}
use Rattle.m5_terms.specs.declared.form.UnaryForm.TheVariants as unary_form
use Rattle.m5_typing.specs.Context.{Bound, local, valid, Context, Setting, nothing, with, with_all, if_valid, IsKnownAt}
use Rattle.m5_typing.specs.Rules.{LeafRule, unary_rule, binary_rule, ternary_rule}
use Rattle.m5_typing.specs.Typing.{Typed, part_context}
use Rattle.m5_typing.specs.Laws.{Includes, Extends, Weakening}

pub if_either : (t : Bool) (o p q : Option Bound) (b : Bound) → (p ≡ Some b → q ≡ Some b) → (if t then o else p) ≡ Some b → (if t then o else q) ≡ Some b
if_either true o p q b h e = e
if_either false o p q b h e = h e

pub with-includes : (G H : Context) (x : ℕ) (b : Option Bound) → Includes G H → Includes (with x b G) (with x b H)
with-includes G H x b h = λ y c e. if_either (y == x) b (G y) (H y) c (h y c) e

pub with_all-includes : (xs : List ℕ) (bs : List Bound) (G H : Context) → Includes G H → Includes (with_all xs bs G) (with_all xs bs H)
with_all-includes [] bs G H h = h
with_all-includes (x ∷ xs) [] G H h = with-includes (with_all xs [] G) (with_all xs [] H) x None (with_all-includes xs [] G H h)
with_all-includes (x ∷ xs) (b ∷ bs) G H h = with-includes (with_all xs bs G) (with_all xs bs H) x (Some b) (with_all-includes xs bs G H h)

if_valid-grows : (o p : Option Bound) → ((b : Bound) → o ≡ Some b → p ≡ Some b) → (b : Bound) → if_valid o ≡ Some b → if_valid p ≡ Some b
if_valid-grows None p h b e = cc
if_valid-grows (Some (local w A)) p h b e = cc
if_valid-grows (Some (valid A)) p h b e = rw (h (valid A) refl) e

pub part_context-includes : (f : UnaryForm) (G H : Context) → Includes G H → Includes (part_context f G) (part_context f H)
part_context-includes unary_form.Sham G H h = λ x b e. if_valid-grows (G x) (H x) (h x) b e
part_context-includes _ G H h = h

known-grows : (o p : Option Bound) (w : World) (A : TypeExpression) → ((b : Bound) → o ≡ Some b → p ≡ Some b) → IsKnownAt o w A → IsKnownAt p w A
known-grows o p w A h (inl e) = inl (e.0, h (local w A) e.1)
known-grows o p w A h (inr e) = inr (h (valid A) e)

leaf-weakens : (E F : Setting) (G H : Context) (w : World) (f : LeafForm) (A : TypeExpression) → Extends E F → Includes G H → LeafRule E G w f A → LeafRule F H w f A
leaf-weakens E F G H w (leaf_form.Var x) A m h d = h x (local w A) d
leaf-weakens E F G H w (leaf_form.Valid x) A m h d = h x (valid A) d
leaf-weakens E F G H w (leaf_form.Glob f) A m h d = (d.0, d.1, d.2, known-grows (E.functions f) (F.functions f) w A (m.functions f) d.3)
leaf-weakens E F G H w (leaf_form.CellAt v n) A m h d = (d.0, d.1, d.2, m.cells v n d.0 d.3, d.4)
leaf-weakens E F G H w _ A m h d = d

pub weaken : (E F : Setting) → Extends E F → (e : Expression) (G H : Context) (w : World) (A : TypeExpression) → Includes G H → Typed E G w e A → Typed F H w e A
weaken E F m (leaf f) G H w A h d = (leaf-weakens E F G H w f A m h d.0, d.1)
weaken E F m (unary f a) G H w A h d =
    let r = unary_rule f w d.pick in
    record {
      pick = d.pick;
      part = weaken E F m a _ _ r.world r.part (with_all-includes (unary_binders f) r.bounds _ _ (part_context-includes f G H h)) d.part;
      side = d.side;
      is = d.is;
      small = d.small;
    }
weaken E F m (binary f a b) G H w A h d =
    let r = binary_rule f w d.pick in
    record {
      pick = d.pick;
      first = weaken E F m a G H w r.first h d.first;
      second = weaken E F m b _ _ r.world r.second (with_all-includes (binary_binders f) r.bounds G H h) d.second;
      side = d.side;
      is = d.is;
      small = d.small;
    }
weaken E F m (ternary f a b c) G H w A h d =
    let r = ternary_rule f w d.pick in
    record {
      pick = d.pick;
      first = weaken E F m a G H w r.first h d.first;
      second = weaken E F m b _ _ w r.whole (with_all-includes (second_binders f) r.second_bounds G H h) d.second;
      third = weaken E F m c _ _ w r.whole (with_all-includes (third_binders f) r.third_bounds G H h) d.third;
      is = d.is;
      small = d.small;
    }

pub weakening : Weakening
weakening E F G H w e A m h d = weaken E F m e G H w A h d

pub same : (E : Setting) → Extends E E
same E = record { functions = λ f b e. e; cells = λ w n A e. e }

-- in one setting
pub weaker : (E : Setting) (e : Expression) (G H : Context) (w : World) (A : TypeExpression) → Includes G H → Typed E G w e A → Typed E H w e A
weaker E e G H w A h d = weaken E E (same E) e G H w A h d

-- what is typed without variables is typed in each context
pub closed : (E : Setting) (e : Expression) (H : Context) (w : World) (A : TypeExpression) → Typed E nothing w e A → Typed E H w e A
closed E e H w A d = weaker E e nothing H w A (λ x b e. cc) d
