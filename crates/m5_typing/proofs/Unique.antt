-- A term has one type at a world.
use Rattle.std.proofs.Common.{◌≡◌, inl, inr, Option, Some, List, sym, subst, ap, ◌∙◌}
use Rattle.m5_terms.specs.Expression.{Expression, leaf, unary, binary, ternary}
use Rattle.m5_terms.specs.TypeExpression.{TypeExpression, address, product, sum, function, list, cell, sham, at}
use Rattle.m5_terms.specs.Substitution.{unary_binders}
use Rattle.m5_terms.specs.declared.types.World.{World}
use Rattle.m5_terms.specs.declared.form.LeafForm.{LeafForm}
use Rattle.m5_terms.specs.declared.form.LeafForm.TheVariants as leaf_form
use Rattle.m5_terms.specs.declared.form.UnaryForm.{UnaryForm}
use Rattle.m5_terms.specs.declared.form.UnaryForm.TheVariants as unary_form
use Rattle.m5_terms.specs.declared.form.BinaryForm.TheVariants as binary_form
use Rattle.m5_terms.specs.declared.form.TernaryForm.TheVariants as ternary_form
use Rattle.m5_typing.specs.Context.{Bound, local, valid, Context, Setting, with, with_all, IsKnownAt}
use Rattle.m5_typing.specs.Rules.{LeafRule, Pick, unary_rule}
use Rattle.m5_typing.specs.Typing.{Typed, UnaryTyped, part_context}
use Rattle.m5_typing.specs.Laws.{OneType}

some-inj : (A : Type 0) (a b : A) → Some a ≡ Some b → a ≡ b
some-inj A a b e = cc

local-inj : (o : Option Bound) (w : World) (A B : TypeExpression) → o ≡ Some (local w A) → o ≡ Some (local w B) → A ≡ B
local-inj o w A B d e = let q : Some (local w A) ≡ Some (local w B) = sym d ∙ e in cc

valid-inj : (o : Option Bound) (A B : TypeExpression) → o ≡ Some (valid A) → o ≡ Some (valid B) → A ≡ B
valid-inj o A B d e = let q : Some (valid A) ≡ Some (valid B) = sym d ∙ e in cc

known-one : (o : Option Bound) (w : World) (A B : TypeExpression) → IsKnownAt o w A → IsKnownAt o w B → A ≡ B
known-one o w A B (inl d) (inl e) = local-inj o w A B d.1 e.1
known-one o w A B (inr d) (inr e) = valid-inj o A B d e
known-one o w A B (inl d) (inr e) = let q : Some (local w A) ≡ Some (valid B) = sym d.1 ∙ e in cc
known-one o w A B (inr d) (inl e) = let q : Some (valid A) ≡ Some (local w B) = sym d ∙ e.1 in cc

leaf-one : (E : Setting) (G : Context) (w : World) (f : LeafForm) (A B : TypeExpression) → LeafRule E G w f A → LeafRule E G w f B → A ≡ B
leaf-one E G w (leaf_form.Var x) A B d e = local-inj (G x) w A B d e
leaf-one E G w (leaf_form.Valid x) A B d e = valid-inj (G x) A B d e
leaf-one E G w leaf_form.Unit A B d e = d ∙ sym e
leaf-one E G w (leaf_form.Str s) A B d e = d.0 ∙ sym e.0
leaf-one E G w (leaf_form.Int n) A B d e = d ∙ sym e
leaf-one E G w (leaf_form.Bool b) A B d e = d ∙ sym e
leaf-one E G w (leaf_form.Nil T) A B d e = d ∙ sym e
leaf-one E G w (leaf_form.Glob f) A B d e = known-one (E.functions f) w A B d.3 e.3
leaf-one E G w (leaf_form.Extern p) A B d e = d.1 ∙ sym e.1
leaf-one E G w (leaf_form.Addr v) A B d e = d.1 ∙ sym e.1
leaf-one E G w leaf_form.Here A B d e = d.1 ∙ sym e.1
leaf-one E G w (leaf_form.CellAt v n) A B d e = d.4 ∙ ap cell (some-inj TypeExpression d.0 e.0 (sym d.3 ∙ e.3)) ∙ sym e.4

fun-right : (A B C D : TypeExpression) → function A B ≡ function C D → B ≡ D
fun-right A B C D e = cc

prod-left : (A B C D : TypeExpression) → product A B ≡ product C D → A ≡ C
prod-left A B C D e = cc

prod-right : (A B C D : TypeExpression) → product A B ≡ product C D → B ≡ D
prod-right A B C D e = cc

sum-left : (A B C D : TypeExpression) → sum A B ≡ sum C D → A ≡ C
sum-left A B C D e = cc

at-left : (A B : TypeExpression) (v w : World) → at A v ≡ at B w → A ≡ B
at-left A B v w e = cc

at-right : (A B : TypeExpression) (v w : World) → at A v ≡ at B w → v ≡ w
at-right A B v w e = cc

list-inj : (A B : TypeExpression) → list A ≡ list B → A ≡ B
list-inj A B e = cc

sham-inj : (A B : TypeExpression) → sham A ≡ sham B → A ≡ B
sham-inj A B e = cc

cell-inj : (A B : TypeExpression) → cell A ≡ cell B → A ≡ B
cell-inj A B e = cc

addr-inj : (v w : World) → address v ≡ address w → v ≡ w
addr-inj v w e = cc

one-one : (f : UnaryForm) (w : World) (a : Expression) (A B : TypeExpression) (P : World → List Bound → TypeExpression → Type 0) (d : UnaryTyped f w a A P) (e : UnaryTyped f w a B P) → (unary_rule f w d.pick).part ≡ (unary_rule f w e.pick).part → A ≡ B
one-one (unary_form.Fn x C) w a A B P d e p = d.is ∙ ap (λ T. function C T) p ∙ sym e.is
one-one (unary_form.Rec f x C D) w a A B P d e p = d.is ∙ sym e.is
one-one (unary_form.Inl T) w a A B P d e p = d.is ∙ sym d.side ∙ e.side ∙ sym e.is
one-one (unary_form.Inr T) w a A B P d e p = d.is ∙ sym d.side ∙ e.side ∙ sym e.is
one-one unary_form.Fst w a A B P d e p = d.is ∙ prod-left _ _ _ _ p ∙ sym e.is
one-one unary_form.Snd w a A B P d e p = d.is ∙ prod-right _ _ _ _ p ∙ sym e.is
one-one unary_form.StrOf w a A B P d e p = d.is ∙ sym e.is
one-one unary_form.Div w a A B P d e p = d.is ∙ sym e.is
one-one unary_form.NewCell w a A B P d e p = d.is ∙ ap cell p ∙ sym e.is
one-one unary_form.Load w a A B P d e p = d.is ∙ cell-inj _ _ p ∙ sym e.is
one-one unary_form.Hold w a A B P d e p = d.is ∙ ap (λ T. at T w) p ∙ sym e.is
one-one (unary_form.Held v) w a A B P d e p = d.is ∙ ap (λ T. at T v) p ∙ sym e.is
one-one unary_form.Sham w a A B P d e p = d.is ∙ ap sham p ∙ sym e.is
one-one unary_form.Spawn w a A B P d e p = d.is ∙ sym e.is

-- a part's world and bounds are the form's alone
as-picked : (f : UnaryForm) (w : World) (p q : Pick) (B : TypeExpression) (P : World → List Bound → TypeExpression → Type 0) → P (unary_rule f w q).world (unary_rule f w q).bounds B → P (unary_rule f w p).world (unary_rule f w p).bounds B
as-picked (unary_form.Fn x A) w p q B P t = t
as-picked _ w p q B P t = t

pub unique : (E : Setting) (e : Expression) (G : Context) (w : World) (A B : TypeExpression) → Typed E G w e A → Typed E G w e B → A ≡ B
unique E (leaf f) G w A B d e = leaf-one E G w f A B d.0 e.0
unique E (unary f a) G w A B d e = one-one f w a A B _ d e
    (unique E a _ (unary_rule f w d.pick).world _ _ d.part (as-picked f w d.pick e.pick (unary_rule f w e.pick).part (λ v bounds C. Typed E (with_all (unary_binders f) bounds (part_context f G)) v a C) e.part))
unique E (binary binary_form.Call a b) G w A B d e = d.is ∙ fun-right _ _ _ _ (unique E a G w _ _ d.first e.first) ∙ sym e.is
unique E (binary binary_form.Pair a b) G w A B d e = d.is ∙ (λ i. product (unique E a G w _ _ d.first e.first i) (unique E b G w _ _ d.second e.second i)) ∙ sym e.is
unique E (binary binary_form.Store a b) G w A B d e = d.is ∙ sym e.is
unique E (binary (binary_form.Binary o) a b) G w A B d e = d.is ∙ sym e.is
unique E (binary binary_form.Cons a b) G w A B d e = d.is ∙ ap list (unique E a G w _ _ d.first e.first) ∙ sym e.is
unique E (binary binary_form.Do a b) G w A B d e = d.is ∙ unique E b G w _ _ d.second e.second ∙ sym e.is
unique E (binary binary_form.Get a b) G w A B d e =
    let p = addr-inj _ _ (unique E a G w _ _ d.first e.first) in
    d.is ∙ unique E b G e.pick.v _ _ (subst (λ v. Typed E G v b d.pick.b) p d.second) e.second ∙ sym e.is
unique E (binary (binary_form.Val x) a b) G w A B d e =
    let p = unique E a G w _ _ d.first e.first in
    d.is ∙ unique E b _ w _ _ (subst (λ T. Typed E (with x (Some (local w T)) G) w b d.pick.b) p d.second) e.second ∙ sym e.is
unique E (binary (binary_form.Put x) a b) G w A B d e =
    let p = unique E a G w _ _ d.first e.first in
    d.is ∙ unique E b _ w _ _ (subst (λ T. Typed E (with x (Some (valid T)) G) w b d.pick.b) p d.second) e.second ∙ sym e.is
unique E (binary (binary_form.Leta x) a b) G w A B d e =
    let p = unique E a G w _ _ d.first e.first in
    d.is ∙ unique E b _ w _ _ (subst (λ v. Typed E (with x (Some (local v e.pick.a)) G) w b d.pick.b) (at-right _ _ _ _ p) (subst (λ T. Typed E (with x (Some (local d.pick.v T)) G) w b d.pick.b) (at-left _ _ _ _ p) d.second)) e.second ∙ sym e.is
unique E (binary (binary_form.Lets x) a b) G w A B d e =
    let p = sham-inj _ _ (unique E a G w _ _ d.first e.first) in
    d.is ∙ unique E b _ w _ _ (subst (λ T. Typed E (with x (Some (valid T)) G) w b d.pick.b) p d.second) e.second ∙ sym e.is
unique E (ternary ternary_form.If a b c) G w A B d e = d.is ∙ unique E b G w _ _ d.second e.second ∙ sym e.is
unique E (ternary (ternary_form.CaseSum x y) a b c) G w A B d e =
    let p = sum-left _ _ _ _ (unique E a G w _ _ d.first e.first) in
    d.is ∙ unique E b _ w _ _ (subst (λ T. Typed E (with x (Some (local w T)) G) w b d.pick.b) p d.second) e.second ∙ sym e.is
unique E (ternary (ternary_form.CaseList x y) a b c) G w A B d e = d.is ∙ unique E b G w _ _ d.second e.second ∙ sym e.is

pub one_type : OneType
one_type E G w e A B c d = unique E e G w A B c d
