-- Where a term has a type, it is found.
use Rattle.std.proofs.Common.{◌≡◌, ◌≢◌, ◌≤◌, ◌&&◌, inl, inr, ℕ, Bool, true, false, IsTrue, if◌then◌else◌, nat_le, Option, Some, List, refl, ap, sym, ◌∙◌, subst, arith}
use Rattle.std.proofs.lemmas.Bool.Decides.{leb_tells}
use Rattle.m5_lex.specs.declared.place.Place.{Place}
use Rattle.m5_terms.specs.Expression.{Expression}
use Rattle.m5_terms.specs.TypeExpression as types
use Rattle.m5_terms.specs.TypeExpression.{TypeExpression, unit, bool, int, string, address, product, sum, function, list, cell, sham, mobile, same_type, same_world, type_node_count}
use Rattle.m5_terms.specs.Primitives.{primitive_world, primitive_type}
use Rattle.m5_terms.specs.Substitution.{unary_binders, binary_binders, second_binders, third_binders}
use Rattle.m5_terms.specs.declared.types.World.{World}
use Rattle.m5_terms.specs.declared.types.World.TheVariants.{Any}
use Rattle.m5_terms.specs.declared.types.Primitive.{Primitive}
use Rattle.m5_terms.specs.declared.types.Primitive.TheVariants as primitive
use Rattle.m5_terms.specs.declared.form.LeafForm.{LeafForm}
use Rattle.m5_terms.specs.declared.form.LeafForm.TheVariants as leaf_form
use Rattle.m5_terms.specs.declared.form.UnaryForm.{UnaryForm}
use Rattle.m5_terms.specs.declared.form.UnaryForm.TheVariants.{Fn, Rec, Fst, Snd, StrOf, Div, NewCell, Load, Hold, Sham, Spawn, Inl, Inr, Held}
use Rattle.m5_terms.specs.declared.form.BinaryForm.{BinaryForm}
use Rattle.m5_terms.specs.declared.form.BinaryForm.TheVariants.{Call, Cons, Store, Get, Binary, Val, Put, Leta, Lets}
use Rattle.m5_terms.specs.declared.form.TernaryForm.{TernaryForm}
use Rattle.m5_terms.specs.declared.form.TernaryForm.TheVariants.{If, CaseSum, CaseList}
use Rattle.m5_terms.proofs.SiteWorlds.{same-self}
use Rattle.m5_typing.specs.Operators.{operand, outcome}
use Rattle.m5_typing.specs.Context.{Bound, local, Context, Setting, with_all, IsKnownAt}
use Rattle.m5_typing.specs.Value.{is_value_form}
use Rattle.m5_typing.specs.Rules.{IsSmall, LeafRule, unary_rule, binary_rule, ternary_rule}
use Rattle.m5_typing.specs.Typing.{Typed, UnaryTyped, BinaryTyped, TernaryTyped, part_context}
use Rattle.m5_raw.specs.Resolved.{Resolved, leaf, unary, binary, ternary}
use Rattle.m5_terms.specs.InText.{leaf_in_text, unary_in_text}
use Rattle.m5_raw.specs.InText.{in_text}
use Rattle.m5_elaborate.specs.declared.names.Bound.TheVariants as bound
use Rattle.m5_terms.specs.declared.table.Binding.TheVariants.{Nothing, One, Two}
use Rattle.m5_elaborate.specs.declared.parts.Inside.{Inside}
use Rattle.m5_elaborate.specs.declared.arms.Arms.{Arms}
use Rattle.m5_terms.specs.Outcome.{found, and_then}
use Rattle.m5_elaborate.specs.Outcome.{Outcome}
use Rattle.m5_elaborate.specs.Names.{under}
use Rattle.m5_elaborate.specs.Parts.{if_same}
use Rattle.m5_elaborate.specs.Erased.{erased}
use Rattle.m5_elaborate.specs.Leaves.{is_any, local_type, valid_type, declared_type, extern_type, address_type, leaf_type}
use Rattle.m5_elaborate.specs.Synthesis.{unary_world, unary_binding, unary_type, second_part, binary_type, arms, ternary_type}
use Rattle.m5_elaborate.specs.Checked.{checked, limited}
use Rattle.m5_elaborate.proofs.Same.{left_true, right_true, both_true, type_self}
use Rattle.m5_elaborate.proofs.Outcomes.{joined}
use Rattle.m5_elaborate.proofs.Sound.{Declares}

-- a test that is passed finds
when : {A : Type 0} (t : Bool) (o p : Outcome A) → t ≡ true → (if t then o else p) ≡ o
when true o p e = refl
when false o p e = cc

unless : {A : Type 0} (t : Bool) (o p : Outcome A) → t ≡ false → (if t then p else o) ≡ o
unless true o p e = cc
unless false o p e = refl

pub one_type : (p : Place) (A C : TypeExpression) → if_same (same_type A A) p C ≡ found C
one_type p A C = when (same_type A A) (found C) _ (type_self A)

not_any : (w : World) → w ≢ Any → is_any w ≡ false
not_any Any n = absurd (n refl)
not_any _ n = refl

found_local : (p : Place) (w : World) (A : TypeExpression) → local_type p w (Some (local w A)) ≡ found A
found_local p w A = when (same_world w w) (found A) _ (same-self w)

found_declared : (p : Place) (w : World) (A : TypeExpression) (o : Option Bound) → IsKnownAt o w A → declared_type p w o ≡ found A
found_declared p w A o (inl k) = ap (λ b. declared_type p w b) k.1 ∙ found_local p w A
found_declared p w A o (inr k) = ap (λ b. declared_type p w b) k

site_of : (e : Primitive) → is_any (primitive_world e) ≡ false
site_of primitive.Say = refl
site_of _ = refl

found_extern : (p : Place) (e : Primitive) → extern_type p (primitive_world e) e ≡ found (primitive_type e)
found_extern p e =
    unless (is_any (primitive_world e)) (if same_world (primitive_world e) (primitive_world e) then found (primitive_type e) else _) _ (site_of e)
    ∙ when (same_world (primitive_world e) (primitive_world e)) (found (primitive_type e)) _ (same-self (primitive_world e))

found_address : (p : Place) (w : World) → w ≢ Any → address_type p w ≡ found (address w)
found_address p w n = unless (is_any w) (found (address w)) _ (not_any w n)

leaf_complete : (F : ℕ → Option Bound) (E : Setting) → Declares F E → (f : LeafForm) (G : Context) (w : World) (p : Place) (A : TypeExpression)
    → IsTrue (leaf_in_text f) → LeafRule E G w f A → leaf_type F G w p f ≡ found A
leaf_complete F E d (leaf_form.Var x) G w p A t e = ap (λ o. local_type p w o) e ∙ found_local p w A
leaf_complete F E d (leaf_form.Valid x) G w p A t e = ap (λ o. valid_type p o) e
leaf_complete F E d (leaf_form.Glob f) G w p A t e = found_declared p w A (F f) (subst (λ o. IsKnownAt o w A) (d.same f) e.3)
leaf_complete F E d (leaf_form.Extern x) G w p A t e = ap (λ v. extern_type p v x) e.0 ∙ (found_extern p x ∙ ap (λ B. found B) (sym e.1))
leaf_complete F E d leaf_form.Unit G w p A t e = ap (λ B. found B) (sym e)
leaf_complete F E d (leaf_form.Bool b) G w p A t e = ap (λ B. found B) (sym e)
leaf_complete F E d (leaf_form.Int n) G w p A t e = ap (λ B. found B) (sym e)
leaf_complete F E d (leaf_form.Str s) G w p A t e = ap (λ B. found B) (sym e.0)
leaf_complete F E d (leaf_form.Addr v) G w p A t e = found_address p v e.0 ∙ ap (λ B. found B) (sym e.1)
leaf_complete F E d leaf_form.Here G w p A t e = found_address p w e.0 ∙ ap (λ B. found B) (sym e.1)
leaf_complete F E d (leaf_form.Nil B) G w p A t e = ap (λ B. found B) (sym e)
leaf_complete F E d (leaf_form.CellAt v n) G w p A t e = cc

-- from the type that the rule gives the part
unary_complete : (f : UnaryForm) (p : Place) (w : World) (a : Expression) (A : TypeExpression) (Part : World → List Bound → TypeExpression → Type 0)
    → IsTrue (unary_in_text f) → (d : UnaryTyped f w a A Part) → unary_type f p w (is_value_form a) (unary_rule f w d.pick).part ≡ found A
unary_complete (Fn x C) p w a A Part t d = ap (λ T. found T) (sym d.is)
unary_complete (Rec g x C D) p w a A Part t d = one_type p D (function C D) ∙ ap (λ T. found T) (sym d.is)
unary_complete Fst p w a A Part t d = ap (λ T. found T) (sym d.is)
unary_complete Snd p w a A Part t d = ap (λ T. found T) (sym d.is)
unary_complete (Inl T) p w a A Part t d =
    ap (λ S. unary_type (Inl S) p w (is_value_form a) d.pick.a) d.side ∙ (one_type p d.pick.a (sum d.pick.a d.pick.b) ∙ ap (λ T. found T) (sym d.is))
unary_complete (Inr T) p w a A Part t d =
    ap (λ S. unary_type (Inr S) p w (is_value_form a) d.pick.b) d.side ∙ (one_type p d.pick.b (sum d.pick.a d.pick.b) ∙ ap (λ T. found T) (sym d.is))
unary_complete StrOf p w a A Part t d = ap (λ T. found T) (sym d.is)
unary_complete Div p w a A Part t d = ap (λ T. found T) (sym d.is)
unary_complete NewCell p w a A Part t d = ap (λ T. found T) (sym d.is)
unary_complete Load p w a A Part t d = ap (λ T. found T) (sym d.is)
unary_complete Hold p w a A Part t d = unless (is_any w) (found (types.at d.pick.a w)) _ (not_any w d.side) ∙ ap (λ T. found T) (sym d.is)
unary_complete Sham p w a A Part t d = when (is_value_form a) (found (sham d.pick.a)) _ d.side ∙ ap (λ T. found T) (sym d.is)
unary_complete Spawn p w a A Part t d = ap (λ T. found T) (sym d.is)
unary_complete (Held v) p w a A Part t d = cc

-- the part stands where the rule puts it
unary_stands : (f : UnaryForm) (w : World) (a : Expression) (A : TypeExpression) (K : Context) (P : World → Context → TypeExpression → Type 0)
    → IsTrue (unary_in_text f) → (d : UnaryTyped f w a A (λ v bounds C. P v (with_all (unary_binders f) bounds K) C))
    → P (unary_world f w) (under (unary_binding f w) K) (unary_rule f w d.pick).part
unary_stands (Held v) w a A K P t d = cc
unary_stands _ w a A K P t d = d.part

-- a second part that stands where the rule puts it, and a node that then has the rule's type
pub record SecondFound (f : BinaryForm) (p : Place) (w : World) (X Y A : TypeExpression) (G : Context) (P : World → Context → TypeExpression → Type 0) : Type 0 where
  pub inside : Inside
  pub opens : second_part f p w X ≡ found inside
  pub part : P inside.world (under inside.binding G) Y
  pub whole : binary_type f p X Y ≡ found A

binary_complete : (f : BinaryForm) (p : Place) (w : World) (A : TypeExpression) (G : Context) (First : TypeExpression → Type 0) (P : World → Context → TypeExpression → Type 0)
    → (d : BinaryTyped f w A First (λ v bounds C. P v (with_all (binary_binders f) bounds G) C))
    → SecondFound f p w (binary_rule f w d.pick).first (binary_rule f w d.pick).second A G P
binary_complete Call p w A G First P d =
    record { inside = record { world = w; binding = Nothing }; opens = refl; part = d.second; whole = one_type p d.pick.a d.pick.b ∙ ap (λ T. found T) (sym d.is) }
binary_complete Cons p w A G First P d =
    record { inside = record { world = w; binding = Nothing }; opens = refl; part = d.second; whole = one_type p d.pick.a (list d.pick.a) ∙ ap (λ T. found T) (sym d.is) }
binary_complete Store p w A G First P d =
    record { inside = record { world = w; binding = Nothing }; opens = refl; part = d.second; whole = one_type p d.pick.a unit ∙ ap (λ T. found T) (sym d.is) }
binary_complete (Binary o) p w A G First P d =
    record {
      inside = record { world = w; binding = Nothing };
      opens = refl;
      part = d.second;
      whole = when (same_type (operand o) (operand o) && same_type (operand o) (operand o)) (found (outcome o)) _
          (both_true (same_type (operand o) (operand o)) (same_type (operand o) (operand o)) (type_self (operand o)) (type_self (operand o)))
          ∙ ap (λ T. found T) (sym d.is);
    }
binary_complete (Val x) p w A G First P d =
    record { inside = record { world = w; binding = One x (bound.Local w d.pick.a) }; opens = refl; part = d.second; whole = ap (λ T. found T) (sym d.is) }
binary_complete (Put x) p w A G First P d =
    record {
      inside = record { world = w; binding = One x (bound.Valid d.pick.a) };
      opens = when (mobile d.pick.a) (found (record { world = w; binding = One x (bound.Valid d.pick.a) })) _ d.side;
      part = d.second;
      whole = ap (λ T. found T) (sym d.is);
    }
binary_complete (Leta x) p w A G First P d =
    record {
      inside = record { world = w; binding = One x (bound.Local d.pick.v d.pick.a) };
      opens = unless (is_any d.pick.v) (found (record { world = w; binding = One x (bound.Local d.pick.v d.pick.a) })) _ (not_any d.pick.v d.side);
      part = d.second;
      whole = ap (λ T. found T) (sym d.is);
    }
binary_complete (Lets x) p w A G First P d =
    record { inside = record { world = w; binding = One x (bound.Valid d.pick.a) }; opens = refl; part = d.second; whole = ap (λ T. found T) (sym d.is) }
binary_complete Get p w A G First P d =
    record {
      inside = record { world = d.pick.v; binding = Nothing };
      opens = unless (is_any w) (if is_any d.pick.v then _ else found (record { world = d.pick.v; binding = Nothing })) _ (not_any w d.side.0)
          ∙ unless (is_any d.pick.v) (found (record { world = d.pick.v; binding = Nothing })) _ (not_any d.pick.v d.side.1);
      part = d.second;
      whole = when (mobile d.pick.b) (found d.pick.b) _ d.side.2 ∙ ap (λ T. found T) (sym d.is);
    }
binary_complete _ p w A G First P d =
    record { inside = record { world = w; binding = Nothing }; opens = refl; part = d.second; whole = ap (λ T. found T) (sym d.is) }

-- arms that stand where the rule puts them, and a node that then has the rule's type
pub record ArmsFound (f : TernaryForm) (p : Place) (w : World) (X Y A : TypeExpression) (G : Context) (P Q : Context → TypeExpression → Type 0) : Type 0 where
  pub bound : Arms
  pub opens : arms f p w X ≡ found bound
  pub second : P (under bound.second G) Y
  pub third : Q (under bound.third G) Y
  pub whole : ternary_type f p X Y Y ≡ found A

ternary_complete : (f : TernaryForm) (p : Place) (w : World) (A : TypeExpression) (G : Context) (First : TypeExpression → Type 0) (P Q : Context → TypeExpression → Type 0)
    → (d : TernaryTyped f w A First (λ bounds C. P (with_all (second_binders f) bounds G) C) (λ bounds C. Q (with_all (third_binders f) bounds G) C))
    → ArmsFound f p w (ternary_rule f w d.pick).first (ternary_rule f w d.pick).whole A G P Q
ternary_complete If p w A G First P Q d =
    record { bound = record { second = Nothing; third = Nothing }; opens = refl; second = d.second; third = d.third; whole = one_type p d.pick.b d.pick.b ∙ ap (λ T. found T) (sym d.is) }
ternary_complete (CaseSum x y) p w A G First P Q d =
    record {
      bound = record { second = One x (bound.Local w d.pick.a); third = One y (bound.Local w d.pick.c) };
      opens = refl;
      second = d.second;
      third = d.third;
      whole = one_type p d.pick.b d.pick.b ∙ ap (λ T. found T) (sym d.is);
    }
ternary_complete (CaseList x y) p w A G First P Q d =
    record {
      bound = record { second = Nothing; third = Two y (bound.Local w (list d.pick.a)) x (bound.Local w d.pick.a) };
      opens = refl;
      second = d.second;
      third = d.third;
      whole = one_type p d.pick.b d.pick.b ∙ ap (λ T. found T) (sym d.is);
    }

small_is : (n : ℕ) → n ≤ 1024 → nat_le n 1024 ≡ true
small_is n h =
    elim (leb_tells n 1024) [
      | inl p ↦ p.0
      | inr p ↦ absurd (omega (arith, p.1))
    ]

pub within_limit : (p : Place) (o : Outcome TypeExpression) (A : TypeExpression) → o ≡ found A → IsSmall A → limited p o ≡ found A
within_limit p o A e s = ap (λ x. limited p x) e ∙ when (nat_le (type_node_count A) 1024) (found A) _ (small_is (type_node_count A) s)

-- where a term of a text has a type, it is found
pub complete : (F : ℕ → Option Bound) (E : Setting) → Declares F E → (r : Resolved) (G : Context) (w : World) (A : TypeExpression)
    → IsTrue (in_text r) → Typed E G w (erased r) A → checked F G w r ≡ found A
complete F E d (leaf p f) G w A t e = within_limit p (leaf_type F G w p f) A (leaf_complete F E d f G w p A t e.0) e.1
complete F E d (unary p f a) G w A t e =
    let B = (unary_rule f w e.pick).part in
    let here = left_true (unary_in_text f) (in_text a) t in
    let stands = unary_stands f w (erased a) A (part_context f G) (λ v H C. Typed E H v (erased a) C) here e in
    within_limit p _ A
    (joined (checked F (under (unary_binding f w) (part_context f G)) (unary_world f w) a) (unary_type f p w (is_value_form (erased a))) B A
    (complete F E d a (under (unary_binding f w) (part_context f G)) (unary_world f w) B (right_true (unary_in_text f) (in_text a) t) stands)
    (unary_complete f p w (erased a) A _ here e)) e.small
complete F E d (binary p f a b) G w A t e =
    let X = (binary_rule f w e.pick).first in
    let Y = (binary_rule f w e.pick).second in
    let k = binary_complete f p w A G (λ C. Typed E G w (erased a) C) (λ v H C. Typed E H v (erased b) C) e in
    let second = λ (X : TypeExpression) (i : Inside). and_then (checked F (under i.binding G) i.world b) (binary_type f p X) in
    let rest = λ (X : TypeExpression). and_then (second_part f p w X) (second X) in
    within_limit p (and_then (checked F G w a) rest) A
    (joined (checked F G w a) rest X A (complete F E d a G w X (left_true (in_text a) (in_text b) t) e.first)
    (joined (second_part f p w X) (second X) k.inside A k.opens
    (joined (checked F (under k.inside.binding G) k.inside.world b) (binary_type f p X) Y A
    (complete F E d b (under k.inside.binding G) k.inside.world Y (right_true (in_text a) (in_text b) t) k.part) k.whole))) e.small
complete F E d (ternary p f a b c) G w A t e =
    let X = (ternary_rule f w e.pick).first in
    let Y = (ternary_rule f w e.pick).whole in
    let k = ternary_complete f p w A G (λ C. Typed E G w (erased a) C) (λ H C. Typed E H w (erased b) C) (λ H C. Typed E H w (erased c) C) e in
    let third = λ (X Y : TypeExpression) (i : Arms). and_then (checked F (under i.third G) w c) (ternary_type f p X Y) in
    let second = λ (X : TypeExpression) (i : Arms). and_then (checked F (under i.second G) w b) (λ Y. third X Y i) in
    let rest = λ (X : TypeExpression). and_then (arms f p w X) (second X) in
    let later = right_true (in_text a) (in_text b && in_text c) t in
    within_limit p (and_then (checked F G w a) rest) A
    (joined (checked F G w a) rest X A (complete F E d a G w X (left_true (in_text a) (in_text b && in_text c) t) e.first)
    (joined (arms f p w X) (second X) k.bound A k.opens
    (joined (checked F (under k.bound.second G) w b) (λ Y. third X Y k.bound) Y A
    (complete F E d b (under k.bound.second G) w Y (left_true (in_text b) (in_text c) later) k.second)
    (joined (checked F (under k.bound.third G) w c) (ternary_type f p X Y) Y A
    (complete F E d c (under k.bound.third G) w Y (right_true (in_text b) (in_text c) later) k.third) k.whole)))) e.small
