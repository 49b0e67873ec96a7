-- The parts of a typed node: each is typed, stands where it may, and takes a value in its place.
use Rattle.std.proofs.Common.{◌≡◌, ◌⊎◌, inl, inr, ℕ, zero, suc, ◌<◌, Bool, true, false, IsTrue, ◌&&◌, refl, ◌∙◌, arith}
use Rattle.m5_terms.specs.Expression.{Expression, leaf, unary, binary, ternary}
use Rattle.m5_terms.specs.TypeExpression.{TypeExpression}
use Rattle.m5_terms.specs.declared.types.World.{World}
use Rattle.m5_terms.specs.declared.types.World.TheVariants.{Any}
use Rattle.m5_terms.specs.declared.form.LeafForm.{LeafForm}
use Rattle.m5_terms.specs.declared.form.LeafForm.TheVariants as leaf_form
use Rattle.m5_terms.specs.declared.form.UnaryForm.{UnaryForm}
use Rattle.m5_terms.specs.declared.form.UnaryForm.TheVariants as unary_form
use Rattle.m5_terms.specs.declared.form.BinaryForm.{BinaryForm}
use Rattle.m5_terms.specs.declared.form.BinaryForm.TheVariants as binary_form
use Rattle.m5_typing.specs.Value.{leaf_is_value, leaf_is_value_form, is_value, is_value_form, IsValue, IsValueForm}
use Rattle.m5_typing.specs.Context.{Setting, nothing}
use Rattle.m5_typing.specs.Rules.{Pick, unary_rule, binary_rule, ternary_rule}
use Rattle.m5_typing.specs.Typing.{Typed}
use Rattle.m5_typing.proofs.Mobile.{both-left, both-right}
use Rattle.m5_typing.proofs.Substitute.{both, one-form}
use Rattle.m5_meaning.specs.Parts.{unary_parts, binary_parts, parts, part, fill, inner_world}
use Rattle.m5_site_sound.specs.Threads.{StandsAt, Fits}
use Rattle.m5_site_sound.proofs.Growth.{grown}

leaf-form : (f : LeafForm) → IsTrue (leaf_is_value f) → IsTrue (leaf_is_value_form f)
leaf-form leaf_form.Here e = e
leaf-form _ e = refl

-- each value is a value form
pub form-of : (v : Expression) → IsValue v → IsValueForm v
form-of (leaf f) e = leaf-form f e
form-of (unary f a) e = one-form f (is_value a) (is_value_form a) (form-of a) e
form-of (binary binary_form.Pair a b) e = both (is_value a) (is_value b) _ _ (form-of a) (form-of b) e
form-of (binary binary_form.Cons a b) e = both (is_value a) (is_value b) _ _ (form-of a) (form-of b) e
form-of (ternary f a b c) e = e
form-of (binary _ a b) e = e

-- part k of a typed node, and what it fits
pub record PartFits (E : Setting) (w : World) (e : Expression) (k : ℕ) (A : TypeExpression) : Type 0 where
  pub of : TypeExpression
  pub typed : Typed E nothing (inner_world e w) (part e k) of
  pub fits : Fits E w e k (inner_world e w) of A

side-stays : (f : UnaryForm) (w : World) (p : Pick) (a v : Expression) → IsValue v → (unary_rule f w p).side a → (unary_rule f w p).side v
side-stays unary_form.Sham w p a v h s = form-of v h
side-stays (unary_form.Held x) w p a v h s = (s.0, h)
side-stays _ w p a v h s = s

unary-part : (E : Setting) (w : World) (f : UnaryForm) (a : Expression) (k : ℕ) (A : TypeExpression) → 0 < unary_parts f → Typed E nothing w (unary f a) A → PartFits E w (unary f a) k A
unary-part E w (unary_form.Fn x C) a k A h d = absurd (omega arith)
unary-part E w (unary_form.Rec g x C D) a k A h d = absurd (omega arith)
unary-part E w unary_form.Spawn a k A h d = absurd (omega arith)
unary-part E w (unary_form.Held v) a k A h d = absurd (omega arith)
unary-part E w f a k A h d = record {
  of = (unary_rule f w d.pick).part;
  typed = d.part;
  fits = λ F m v p q. record { pick = d.pick; part = q; side = side-stays f w d.pick a v p d.side; is = d.is; small = d.small };
}

second-part : (E : Setting) (w : World) (f : BinaryForm) (a b : Expression) (k : ℕ) (A : TypeExpression) → 1 < binary_parts f → Typed E nothing w (binary f a b) A → PartFits E w (binary f a b) (suc k) A
second-part E w binary_form.Do a b k A h d = absurd (omega arith)
second-part E w binary_form.Get a b k A h d = absurd (omega arith)
second-part E w (binary_form.Val x) a b k A h d = absurd (omega arith)
second-part E w (binary_form.Put x) a b k A h d = absurd (omega arith)
second-part E w (binary_form.Leta x) a b k A h d = absurd (omega arith)
second-part E w (binary_form.Lets x) a b k A h d = absurd (omega arith)
second-part E w f a b k A h d = record {
  of = (binary_rule f w d.pick).second;
  typed = d.second;
  fits = λ F m v p q. record { pick = d.pick; first = grown E F m a nothing w _ d.first; second = q; side = d.side; is = d.is; small = d.small };
}

pub part-fits : (E : Setting) (w : World) (e : Expression) (k : ℕ) (A : TypeExpression) → k < parts e → Typed E nothing w e A → PartFits E w e k A
part-fits E w (leaf f) k A h d = absurd (omega arith)
part-fits E w (unary f a) k A h d = unary-part E w f a k A (omega arith) d
part-fits E w (binary f a b) zero A h d = record {
  of = (binary_rule f w d.pick).first;
  typed = d.first;
  fits = λ F m v p q. record { pick = d.pick; first = q; second = grown E F m b _ _ _ d.second; side = d.side; is = d.is; small = d.small };
}
part-fits E w (binary f a b) (suc k) A h d = second-part E w f a b k A (omega arith) d
part-fits E w (ternary f a b c) k A h d = record {
  of = (ternary_rule f w d.pick).first;
  typed = d.first;
  fits = λ F m v p q. record { pick = d.pick; first = q; second = grown E F m b _ _ _ d.second; third = grown E F m c _ _ _ d.third; is = d.is; small = d.small };
}

pub both-are : (p q : Bool) → IsTrue p → IsTrue q → IsTrue (p && q)
both-are true q a b = b
both-are false q a b = a

-- a value form stays one when a hole is filled by a value form
fill-form : (e : Expression) (k : ℕ) (v : Expression) → IsValueForm v → IsValueForm e → IsValueForm (fill e k v)
fill-form (leaf f) k v p e = e
fill-form (unary f a) k v p e = one-form f (is_value_form a) (is_value_form v) (λ q. p) e
fill-form (binary binary_form.Pair a b) zero v p e = both-are _ _ p (both-right (is_value_form a) (is_value_form b) e)
fill-form (binary binary_form.Pair a b) (suc k) v p e = both-are _ _ (both-left (is_value_form a) (is_value_form b) e) p
fill-form (binary binary_form.Cons a b) zero v p e = both-are _ _ p (both-right (is_value_form a) (is_value_form b) e)
fill-form (binary binary_form.Cons a b) (suc k) v p e = both-are _ _ (both-left (is_value_form a) (is_value_form b) e) p
fill-form (binary _ a b) k v p e = cc
fill-form (ternary f a b c) k v p e = cc

pub stands-filled : (u w : World) (e : Expression) (k : ℕ) (v : Expression) → IsValue v → StandsAt u w e → StandsAt u w (fill e k v)
stands-filled u w e k v p (inl s) = inl s
stands-filled u w e k v p (inr s) = inr (s.0, fill-form e k v (form-of v p) s.1)

part-form : (e : Expression) (k : ℕ) → k < parts e → IsValueForm e → IsValueForm (part e k)
part-form (leaf f) k h e = e
part-form (unary (unary_form.Fn x C) a) k h e = absurd (omega arith)
part-form (unary (unary_form.Rec f x C D) a) k h e = absurd (omega arith)
part-form (unary (unary_form.Inl T) a) k h e = e
part-form (unary (unary_form.Inr T) a) k h e = e
part-form (unary unary_form.Sham a) k h e = e
part-form (unary (unary_form.Held v) a) k h e = e
part-form (unary _ a) k h e = cc
part-form (binary binary_form.Pair a b) zero h e = both-left (is_value_form a) (is_value_form b) e
part-form (binary binary_form.Pair a b) (suc k) h e = both-right (is_value_form a) (is_value_form b) e
part-form (binary binary_form.Cons a b) zero h e = both-left (is_value_form a) (is_value_form b) e
part-form (binary binary_form.Cons a b) (suc k) h e = both-right (is_value_form a) (is_value_form b) e
part-form (binary _ a b) k h e = cc
part-form (ternary f a b c) k h e = cc

inner-form : (E : Setting) (w : World) (e : Expression) (k : ℕ) (A : TypeExpression) → Typed E nothing w e A → (inner_world e w ≡ w) ⊎ ((inner_world e w ≡ Any) × IsValueForm (part e k))
inner-form E w (leaf f) k A d = inl refl
inner-form E w (unary unary_form.Sham a) k A d = inr (refl, d.side)
inner-form E w (unary _ a) k A d = inl refl
inner-form E w (binary f a b) k A d = inl refl
inner-form E w (ternary f a b c) k A d = inl refl

pub stands-part : (E : Setting) (u w : World) (e : Expression) (k : ℕ) (A : TypeExpression) → k < parts e → Typed E nothing w e A → StandsAt u w e → StandsAt u (inner_world e w) (part e k)
stands-part E u w e k A h d s = by (inner-form E w e k A d) s
  where
    by : (inner_world e w ≡ w) ⊎ ((inner_world e w ≡ Any) × IsValueForm (part e k)) → StandsAt u w e → StandsAt u (inner_world e w) (part e k)
    by (inr i) s = inr i
    by (inl i) (inl s) = inl (i ∙ s)
    by (inl i) (inr s) = inr (i ∙ s.0, part-form e k h s.1)
