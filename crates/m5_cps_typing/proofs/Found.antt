-- The type of a typed node is the one that is computed.
use Rattle.std.proofs.Common.{◌≡◌, inl, inr, Option, List, [], ◌∷◌, refl, sym, subst, ap, ◌∙◌}
use Rattle.m5_terms.specs.Expression.{Expression, leaf, unary, binary, ternary}
use Rattle.m5_terms.specs.TypeExpression.{TypeExpression, product, function, cell, sham, at}
use Rattle.m5_terms.specs.Substitution.{unary_binders, binary_binders, second_binders}
use Rattle.m5_terms.specs.declared.types.World.{World}
use Rattle.m5_terms.specs.declared.form.LeafForm.{LeafForm}
use Rattle.m5_terms.specs.declared.form.LeafForm.TheVariants as leaf_form
use Rattle.m5_terms.specs.declared.form.UnaryForm.{UnaryForm}
use Rattle.m5_terms.specs.declared.form.UnaryForm.TheVariants as unary_form
use Rattle.m5_terms.specs.declared.form.BinaryForm.{BinaryForm}
use Rattle.m5_terms.specs.declared.form.BinaryForm.TheVariants as binary_form
use Rattle.m5_terms.specs.declared.form.TernaryForm.{TernaryForm}
use Rattle.m5_terms.specs.declared.form.TernaryForm.TheVariants as ternary_form
use Rattle.m5_typing.specs.Context.{Bound, local, valid, Context, Setting, with_all, IsKnownAt}
use Rattle.m5_typing.specs.Rules.{LeafRule, Pick, unary_rule, binary_rule, ternary_rule}
use Rattle.m5_typing.specs.Typing.{Typed, UnaryTyped, BinaryTyped, part_context}
use Rattle.m5_cps.specs.TypeParts.{bound_type, first_of, second_of, result_of, content_of, place_of, cell_type, leaf_type, unary_whole, binary_whole}
use Rattle.m5_cps.specs.TypeOf.{unary_bounds, unary_world, second_world, second_bounds, second_arm_bounds, third_arm_bounds, type_of}

known_found : (o : Option Bound) (w : World) (A : TypeExpression) → IsKnownAt o w A → bound_type o ≡ A
known_found o w A (inl e) = ap bound_type e.1
known_found o w A (inr e) = ap bound_type e

leaf_found : (E : Setting) (G : Context) (w : World) (f : LeafForm) (A : TypeExpression) → LeafRule E G w f A → leaf_type E G w f ≡ A
leaf_found E G w (leaf_form.Var x) A d = ap bound_type d
leaf_found E G w (leaf_form.Valid x) A d = ap bound_type d
leaf_found E G w (leaf_form.Glob f) A d = known_found (E.functions f) w A d.3
leaf_found E G w (leaf_form.Extern p) A d = sym d.1
leaf_found E G w leaf_form.Unit A d = sym d
leaf_found E G w (leaf_form.Bool b) A d = sym d
leaf_found E G w (leaf_form.Int n) A d = sym d
leaf_found E G w (leaf_form.Str s) A d = sym d.0
leaf_found E G w (leaf_form.Addr v) A d = sym d.1
leaf_found E G w leaf_form.Here A d = sym d.1
leaf_found E G w (leaf_form.Nil B) A d = sym d
leaf_found E G w (leaf_form.CellAt v n) A d = ap cell_type d.3 ∙ sym d.4

unary_found : (f : UnaryForm) (w : World) (a : Expression) (A : TypeExpression) (P : World → List Bound → TypeExpression → Type 0) (d : UnaryTyped f w a A P) (B : TypeExpression) → B ≡ (unary_rule f w d.pick).part → unary_whole f w B ≡ A
unary_found (unary_form.Fn x C) w a A P d B p = ap (λ T. function C T) p ∙ sym d.is
unary_found (unary_form.Rec f x C D) w a A P d B p = sym d.is
unary_found (unary_form.Inl T) w a A P d B p = d.side ∙ sym d.is
unary_found (unary_form.Inr T) w a A P d B p = d.side ∙ sym d.is
unary_found unary_form.Fst w a A P d B p = ap first_of p ∙ sym d.is
unary_found unary_form.Snd w a A P d B p = ap second_of p ∙ sym d.is
unary_found unary_form.StrOf w a A P d B p = sym d.is
unary_found unary_form.Div w a A P d B p = sym d.is
unary_found unary_form.NewCell w a A P d B p = ap cell p ∙ sym d.is
unary_found unary_form.Load w a A P d B p = ap content_of p ∙ sym d.is
unary_found unary_form.Hold w a A P d B p = ap (λ T. at T w) p ∙ sym d.is
unary_found (unary_form.Held v) w a A P d B p = ap (λ T. at T v) p ∙ sym d.is
unary_found unary_form.Sham w a A P d B p = ap sham p ∙ sym d.is
unary_found unary_form.Spawn w a A P d B p = sym d.is

-- the part is typed where it is computed to stand
pub unary_part : (f : UnaryForm) (w : World) (p : Pick) (B : TypeExpression) (P : World → List Bound → TypeExpression → Type 0) → P (unary_rule f w p).world (unary_rule f w p).bounds B → P (unary_world f w) (unary_bounds f w) B
unary_part (unary_form.Fn x A) w p B P t = t
unary_part _ w p B P t = t

binary_found : (f : BinaryForm) (w : World) (A : TypeExpression) (P : TypeExpression → Type 0) (Q : World → List Bound → TypeExpression → Type 0) (d : BinaryTyped f w A P Q) (B C : TypeExpression) → B ≡ (binary_rule f w d.pick).first → C ≡ (binary_rule f w d.pick).second → binary_whole f B C ≡ A
binary_found binary_form.Call w A P Q d B C p q = ap result_of p ∙ sym d.is
binary_found binary_form.Pair w A P Q d B C p q = (λ i. product (p i) (q i)) ∙ sym d.is
binary_found binary_form.Store w A P Q d B C p q = sym d.is
binary_found (binary_form.Binary o) w A P Q d B C p q = sym d.is
binary_found binary_form.Cons w A P Q d B C p q = q ∙ sym d.is
binary_found binary_form.Do w A P Q d B C p q = q ∙ sym d.is
binary_found binary_form.Get w A P Q d B C p q = q ∙ sym d.is
binary_found (binary_form.Val x) w A P Q d B C p q = q ∙ sym d.is
binary_found (binary_form.Put x) w A P Q d B C p q = q ∙ sym d.is
binary_found (binary_form.Leta x) w A P Q d B C p q = q ∙ sym d.is
binary_found (binary_form.Lets x) w A P Q d B C p q = q ∙ sym d.is

pub second_part : (f : BinaryForm) (w : World) (p : Pick) (B C : TypeExpression) (Q : World → List Bound → TypeExpression → Type 0) → B ≡ (binary_rule f w p).first → Q (binary_rule f w p).world (binary_rule f w p).bounds C → Q (second_world f w B) (second_bounds f w B) C
second_part binary_form.Call w p B C Q e t = t
second_part binary_form.Pair w p B C Q e t = t
second_part binary_form.Store w p B C Q e t = t
second_part (binary_form.Binary o) w p B C Q e t = t
second_part binary_form.Cons w p B C Q e t = t
second_part binary_form.Do w p B C Q e t = t
second_part binary_form.Get w p B C Q e t = subst (λ T. Q (place_of T) [] C) (sym e) t
second_part (binary_form.Val x) w p B C Q e t = subst (λ T. Q w (local w T ∷ []) C) (sym e) t
second_part (binary_form.Put x) w p B C Q e t = subst (λ T. Q w (valid T ∷ []) C) (sym e) t
second_part (binary_form.Leta x) w p B C Q e t = subst (λ T. Q w (local (place_of T) (content_of T) ∷ []) C) (sym e) t
second_part (binary_form.Lets x) w p B C Q e t = subst (λ T. Q w (valid (content_of T) ∷ []) C) (sym e) t

pub second_arm_part : (f : TernaryForm) (w : World) (p : Pick) (B C : TypeExpression) (Q : List Bound → TypeExpression → Type 0) → B ≡ (ternary_rule f w p).first → Q (ternary_rule f w p).second_bounds C → Q (second_arm_bounds f w B) C
second_arm_part ternary_form.If w p B C Q e t = t
second_arm_part (ternary_form.CaseSum x y) w p B C Q e t = subst (λ T. Q (local w (first_of T) ∷ []) C) (sym e) t
second_arm_part (ternary_form.CaseList x y) w p B C Q e t = t

pub third_arm_part : (f : TernaryForm) (w : World) (p : Pick) (B C : TypeExpression) (Q : List Bound → TypeExpression → Type 0) → B ≡ (ternary_rule f w p).first → Q (ternary_rule f w p).third_bounds C → Q (third_arm_bounds f w B) C
third_arm_part ternary_form.If w p B C Q e t = t
third_arm_part (ternary_form.CaseSum x y) w p B C Q e t = subst (λ T. Q (local w (second_of T) ∷ []) C) (sym e) t
third_arm_part (ternary_form.CaseList x y) w p B C Q e t = subst (λ T. Q (local w T ∷ local w (content_of T) ∷ []) C) (sym e) t

pub found : (E : Setting) (e : Expression) (G : Context) (w : World) (A : TypeExpression) → Typed E G w e A → type_of E e G w ≡ A
found E (leaf f) G w A d = leaf_found E G w f A d.0
found E (unary f a) G w A d =
    unary_found f w a A _ d _ (found E a _ (unary_world f w) _ (unary_part f w d.pick _ (λ v bounds C. Typed E (with_all (unary_binders f) bounds (part_context f G)) v a C) d.part))
found E (binary f a b) G w A d =
    let p = found E a G w _ d.first in
    binary_found f w A _ _ d _ _ p (found E b _ _ _ (second_part f w d.pick _ _ (λ v bounds C. Typed E (with_all (binary_binders f) bounds G) v b C) p d.second))
found E (ternary f a b c) G w A d =
    found E b _ w _ (second_arm_part f w d.pick _ _ (λ bounds C. Typed E (with_all (second_binders f) bounds G) w b C) (found E a G w _ d.first) d.second) ∙ whole f w d.pick ∙ sym d.is
  where
    whole : (f : TernaryForm) (w : World) (p : Pick) → (ternary_rule f w p).whole ≡ (ternary_rule f w p).whole
    whole f w p = refl
