-- Where a type is found, the term has it.
use Rattle.std.proofs.Common.{◌≡◌, ◌≢◌, ◌&&◌, inl, inr, ℕ, false, IsTrue, if◌then◌else◌, Option, Some, None, refl, ap, sym, ◌∙◌, subst}
use Rattle.m5_lex.specs.declared.place.Place.{Place}
use Rattle.m5_terms.specs.Expression.{Expression}
use Rattle.m5_terms.specs.TypeExpression as types
use Rattle.m5_terms.specs.TypeExpression.{TypeExpression, unit, bool, int, string, address, product, sum, function, list, cell, sham, mobile, same_type, same_world}
use Rattle.m5_terms.specs.Primitives.{primitive_world, primitive_type}
use Rattle.m5_terms.specs.Substitution.{unary_binders, binary_binders, second_binders, third_binders}
use Rattle.m5_terms.specs.declared.types.World.{World}
use Rattle.m5_terms.specs.declared.types.World.TheVariants.{Any}
use Rattle.m5_terms.specs.declared.types.Primitive.{Primitive}
use Rattle.m5_terms.specs.declared.form.LeafForm.{LeafForm}
use Rattle.m5_terms.specs.declared.form.LeafForm.TheVariants as leaf_form
use Rattle.m5_terms.specs.declared.form.UnaryForm.{UnaryForm}
use Rattle.m5_terms.specs.declared.form.UnaryForm.TheVariants.{Fn, Rec, Fst, Snd, StrOf, Div, NewCell, Load, Hold, Sham, Spawn, Inl, Inr, Held}
use Rattle.m5_terms.specs.declared.form.BinaryForm.{BinaryForm}
use Rattle.m5_terms.specs.declared.form.BinaryForm.TheVariants.{Call, Pair, Cons, Store, Do, Get, Binary, Val, Put, Leta, Lets}
use Rattle.m5_terms.specs.declared.form.TernaryForm.{TernaryForm}
use Rattle.m5_terms.specs.declared.form.TernaryForm.TheVariants.{If, CaseSum, CaseList}
use Rattle.m5_typing.specs.Context.{Bound, local, valid, Context, Setting, with_all, IsKnownAt}
use Rattle.m5_typing.specs.Operators.{operand, outcome}
use Rattle.m5_typing.specs.Value.{is_value_form}
use Rattle.m5_typing.specs.Rules.{IsSmall, LeafRule, Pick}
use Rattle.m5_typing.specs.Typing.{Typed, UnaryTyped, BinaryTyped, TernaryTyped, part_context}
use Rattle.m5_raw.specs.Resolved.{Resolved, leaf, unary, binary, ternary}
use Rattle.m5_terms.specs.InText.{leaf_in_text, unary_in_text}
use Rattle.m5_raw.specs.InText.{in_text}
use Rattle.m5_terms.specs.Outcome.{found, and_then}
use Rattle.m5_elaborate.specs.Outcome.{refused}
use Rattle.m5_elaborate.specs.declared.end.Kind.TheVariants.{WrongWorld}
use Rattle.m5_elaborate.specs.declared.names.Bound.{Bound as NameBound}
use Rattle.m5_elaborate.specs.declared.names.Bound.TheVariants as bound
use Rattle.m5_elaborate.specs.declared.names.Bound.TheVariants.{Local}
use Rattle.m5_terms.specs.declared.table.Binding.{Binding}
use Rattle.m5_terms.specs.declared.table.Binding.TheVariants.{Nothing, One, Two}
use Rattle.m5_elaborate.specs.declared.parts.Inside.{Inside}
use Rattle.m5_elaborate.specs.declared.arms.Arms.{Arms}
use Rattle.m5_elaborate.specs.Names.{under}
use Rattle.m5_elaborate.specs.Parts.{moved_type}
use Rattle.m5_elaborate.specs.Erased.{erased}
use Rattle.m5_elaborate.specs.Leaves.{is_any, local_type, valid_type, declared_type, extern_type, address_type, leaf_type}
use Rattle.m5_elaborate.specs.Synthesis.{unary_world, unary_binding, unary_type, addressed, second_part, binary_type, arms, ternary_type}
use Rattle.m5_elaborate.specs.Checked.{checked}
use Rattle.m5_terms.proofs.SiteWorlds.{same-true}
use Rattle.m5_elaborate.proofs.Same.{left_true, right_true, type_same}
use Rattle.m5_elaborate.proofs.Outcomes.{finds, found_is, both, passed, allowed, limits}

pub record IsFunction (A : TypeExpression) : Type 0 where
  pub from : TypeExpression
  pub to : TypeExpression
  pub is : A ≡ function from to

-- a declared function has a type of functions, and no local one stands at any
abbrev pub IsFair : Bound → Type 0
IsFair (local w A) = (w ≢ Any) × IsFunction A
IsFair (valid A) = IsFunction A

pub record Declares (F : ℕ → Option Bound) (E : Setting) : Type 0 where
  pub same : (f : ℕ) → E.functions f ≡ F f
  pub fair : (f : ℕ) (b : Bound) → F f ≡ Some b → IsFair b

pub real : (w : World) → is_any w ≡ false → w ≢ Any
real w e = λ p. let q : is_any Any ≡ false = subst (λ v. is_any v ≡ false) p e in cc

local_known : (p : Place) (w : World) (o : Option Bound) (A : TypeExpression) → local_type p w o ≡ found A → o ≡ Some (local w A)
local_known p w None A e = cc
local_known p w (Some (valid B)) A e = cc
local_known p w (Some (local v B)) A e =
    let t = passed (same_world v w) (found B) _ A e in
    λ i. Some (local (same-true v w t.test i) (found_is B A t.then_found i))

valid_known : (p : Place) (o : Option Bound) (A : TypeExpression) → valid_type p o ≡ found A → o ≡ Some (valid A)
valid_known p None A e = cc
valid_known p (Some (local w B)) A e = cc
valid_known p (Some (valid B)) A e = ap (λ C. Some (valid C)) (found_is B A e)

declared_known : (p : Place) (w : World) (o : Option Bound) (A : TypeExpression) → ((b : Bound) → o ≡ Some b → IsFair b) → declared_type p w o ≡ found A
    → (B C : TypeExpression) × (A ≡ function B C) × IsKnownAt o w A
declared_known p w None A h e = cc
declared_known p w (Some (valid B)) A h e =
    let k = h (valid B) refl in
    let q = found_is B A e in
    (k.from, k.to, sym q ∙ k.is, inr (ap (λ C. Some (valid C)) q))
declared_known p w (Some (local v B)) A h e =
    let t = passed (same_world v w) (found B) _ A e in
    let k = h (local v B) refl in
    let q = found_is B A t.then_found in
    let r = same-true v w t.test in
    (k.1.from, k.1.to, sym q ∙ k.1.is, inl (λ z. k.0 (r ∙ z), λ i. Some (local (r i) (q i))))

extern_known : (p : Place) (w : World) (e : Primitive) (A : TypeExpression) → extern_type p w e ≡ found A → (w ≡ primitive_world e) × (A ≡ primitive_type e)
extern_known p w e A h =
    let s = allowed (is_any w) (if same_world w (primitive_world e) then found (primitive_type e) else refused WrongWorld p) _ A h in
    let t = passed (same_world w (primitive_world e)) (found (primitive_type e)) _ A s.then_found in
    (same-true w (primitive_world e) t.test, sym (found_is (primitive_type e) A t.then_found))

address_known : (p : Place) (w : World) (A : TypeExpression) → address_type p w ≡ found A → (w ≢ Any) × (A ≡ address w)
address_known p w A h =
    let s = allowed (is_any w) (found (address w)) _ A h in
    (real w s.test, sym (found_is (address w) A s.then_found))

leaf_sound : (F : ℕ → Option Bound) (E : Setting) → Declares F E → (f : LeafForm) (G : Context) (w : World) (p : Place) (A : TypeExpression)
    → IsTrue (leaf_in_text f) → leaf_type F G w p f ≡ found A → LeafRule E G w f A
leaf_sound F E d (leaf_form.Var x) G w p A t e = local_known p w (G x) A e
leaf_sound F E d (leaf_form.Valid x) G w p A t e = valid_known p (G x) A e
leaf_sound F E d (leaf_form.Glob f) G w p A t e =
    subst (λ o. (B C : TypeExpression) × (A ≡ function B C) × IsKnownAt o w A) (sym (d.same f)) (declared_known p w (F f) A (d.fair f) e)
leaf_sound F E d (leaf_form.Extern x) G w p A t e = extern_known p w x A e
leaf_sound F E d leaf_form.Unit G w p A t e = sym (found_is unit A e)
leaf_sound F E d (leaf_form.Bool b) G w p A t e = sym (found_is bool A e)
leaf_sound F E d (leaf_form.Int n) G w p A t e = sym (found_is int A e)
leaf_sound F E d (leaf_form.Str s) G w p A t e = (sym (found_is string A e), t)
leaf_sound F E d (leaf_form.Addr v) G w p A t e = address_known p v A e
leaf_sound F E d leaf_form.Here G w p A t e = address_known p w A e
leaf_sound F E d (leaf_form.Nil B) G w p A t e = sym (found_is (list B) A e)
leaf_sound F E d (leaf_form.CellAt v n) G w p A t e = cc

abbrev picks : TypeExpression → TypeExpression → TypeExpression → World → Pick
picks A B C v = record { a = A; b = B; c = C; v = v }

-- from the type of the part
unary_sound : (f : UnaryForm) (p : Place) (w : World) (a : Expression) (A B : TypeExpression) (K : Context) (P : World → Context → TypeExpression → Type 0)
    → unary_type f p w (is_value_form a) B ≡ found A → IsSmall A → P (unary_world f w) (under (unary_binding f w) K) B
    → UnaryTyped f w a A (λ v bounds C. P v (with_all (unary_binders f) bounds K) C)
unary_sound (Fn x C) p w a A B K P e s h = record { pick = picks B unit unit w; part = h; side = tt; is = sym (found_is (function C B) A e); small = s }
unary_sound (Rec g x C D) p w a A B K P e s h =
    let t = passed (same_type B D) (found (function C D)) _ A e in
    record { pick = picks unit unit unit w; part = subst (λ T. P w (under (unary_binding (Rec g x C D) w) K) T) (type_same B D t.test) h; side = tt; is = sym (found_is (function C D) A t.then_found); small = s }
unary_sound Fst p w a A (product X Y) K P e s h = record { pick = picks X Y unit w; part = h; side = tt; is = sym (found_is X A e); small = s }
unary_sound Fst p w a A _ K P e s h = cc
unary_sound Snd p w a A (product X Y) K P e s h = record { pick = picks X Y unit w; part = h; side = tt; is = sym (found_is Y A e); small = s }
unary_sound Snd p w a A _ K P e s h = cc
unary_sound (Inl (sum X Y)) p w a A B K P e s h =
    let t = passed (same_type B X) (found (sum X Y)) _ A e in
    record { pick = picks X Y unit w; part = subst (λ T. P w K T) (type_same B X t.test) h; side = refl; is = sym (found_is (sum X Y) A t.then_found); small = s }
unary_sound (Inl _) p w a A B K P e s h = cc
unary_sound (Inr (sum X Y)) p w a A B K P e s h =
    let t = passed (same_type B Y) (found (sum X Y)) _ A e in
    record { pick = picks X Y unit w; part = subst (λ T. P w K T) (type_same B Y t.test) h; side = refl; is = sym (found_is (sum X Y) A t.then_found); small = s }
unary_sound (Inr _) p w a A B K P e s h = cc
unary_sound StrOf p w a A B K P e s h =
    let t = passed (same_type B int) (found string) _ A e in
    record { pick = picks unit unit unit w; part = subst (λ T. P w K T) (type_same B int t.test) h; side = tt; is = sym (found_is string A t.then_found); small = s }
unary_sound Div p w a A B K P e s h =
    let t = passed (same_type B (product int int)) (found (sum unit int)) _ A e in
    record { pick = picks unit unit unit w; part = subst (λ T. P w K T) (type_same B (product int int) t.test) h; side = tt; is = sym (found_is (sum unit int) A t.then_found); small = s }
unary_sound NewCell p w a A B K P e s h = record { pick = picks B unit unit w; part = h; side = tt; is = sym (found_is (cell B) A e); small = s }
unary_sound Load p w a A (cell X) K P e s h = record { pick = picks X unit unit w; part = h; side = tt; is = sym (found_is X A e); small = s }
unary_sound Load p w a A _ K P e s h = cc
unary_sound Hold p w a A B K P e s h =
    let t = allowed (is_any w) (found (types.at B w)) _ A e in
    record { pick = picks B unit unit w; part = h; side = real w t.test; is = sym (found_is (types.at B w) A t.then_found); small = s }
unary_sound Sham p w a A B K P e s h =
    let t = passed (is_value_form a) (found (sham B)) _ A e in
    record { pick = picks B unit unit w; part = h; side = t.test; is = sym (found_is (sham B) A t.then_found); small = s }
unary_sound Spawn p w a A B K P e s h =
    let t = passed (same_type B unit) (found unit) _ A e in
    record { pick = picks unit unit unit w; part = subst (λ T. P w K T) (type_same B unit t.test) h; side = tt; is = sym (found_is unit A t.then_found); small = s }
unary_sound (Held v) p w a A B K P e s h = cc

-- where the second part stands
moved : (i j : Inside) (G : Context) (P : World → Context → TypeExpression → Type 0) (Y : TypeExpression) → finds i ≡ finds j → P j.world (under j.binding G) Y → P i.world (under i.binding G) Y
moved i j G P Y e h = subst (λ k. P k.world (under k.binding G) Y) (sym (found_is i j e)) h

abbrev at_world : World → Binding NameBound → Inside
at_world w b = record { world = w; binding = b }

get_sound : (p : Place) (w : World) (A X Y : TypeExpression) (j : Inside) (G : Context) (First : TypeExpression → Type 0) (P : World → Context → TypeExpression → Type 0)
    → w ≢ Any → addressed p X ≡ found j → moved_type p Y ≡ found A → IsSmall A → First X → P j.world (under j.binding G) Y
    → BinaryTyped Get w A First (λ v bounds C. P v G C)
get_sound p w A (address v) Y j G First P n i e s h k =
    let t = allowed (is_any v) (found (at_world v Nothing)) _ j i in
    let m = passed (mobile Y) (found Y) _ A e in
    record { pick = picks unit Y unit v; first = h; second = moved (at_world v Nothing) j G P Y t.then_found k; side = (n, real v t.test, m.test); is = sym (found_is Y A m.then_found); small = s }
get_sound p w A _ Y j G First P n i e s h k = cc

-- from the types of both parts
binary_sound : (f : BinaryForm) (p : Place) (w : World) (A X Y : TypeExpression) (j : Inside) (G : Context) (First : TypeExpression → Type 0) (P : World → Context → TypeExpression → Type 0)
    → second_part f p w X ≡ found j → binary_type f p X Y ≡ found A → IsSmall A → First X → P j.world (under j.binding G) Y
    → BinaryTyped f w A First (λ v bounds C. P v (with_all (binary_binders f) bounds G) C)
binary_sound Call p w A (function X Z) Y j G First P i e s h k =
    let t = passed (same_type X Y) (found Z) _ A e in
    record { pick = picks X Z unit w; first = h; second = subst (λ T. P w G T) (sym (type_same X Y t.test)) (moved (at_world w Nothing) j G P Y i k); side = tt; is = sym (found_is Z A t.then_found); small = s }
binary_sound Call p w A _ Y j G First P i e s h k = cc
binary_sound Pair p w A X Y j G First P i e s h k =
    record { pick = picks X Y unit w; first = h; second = moved (at_world w Nothing) j G P Y i k; side = tt; is = sym (found_is (product X Y) A e); small = s }
binary_sound Cons p w A X (list Z) j G First P i e s h k =
    let t = passed (same_type X Z) (found (list Z)) _ A e in
    record { pick = picks Z unit unit w; first = subst First (type_same X Z t.test) h; second = moved (at_world w Nothing) j G P (list Z) i k; side = tt; is = sym (found_is (list Z) A t.then_found); small = s }
binary_sound Cons p w A X _ j G First P i e s h k = cc
binary_sound Store p w A (cell Z) Y j G First P i e s h k =
    let t = passed (same_type Z Y) (found unit) _ A e in
    record { pick = picks Z unit unit w; first = h; second = subst (λ T. P w G T) (sym (type_same Z Y t.test)) (moved (at_world w Nothing) j G P Y i k); side = tt; is = sym (found_is unit A t.then_found); small = s }
binary_sound Store p w A _ Y j G First P i e s h k = cc
binary_sound (Binary o) p w A X Y j G First P i e s h k =
    let t = passed (same_type X (operand o) && same_type Y (operand o)) (found (outcome o)) _ A e in
    record {
      pick = picks unit unit unit w;
      first = subst First (type_same X (operand o) (left_true (same_type X (operand o)) (same_type Y (operand o)) t.test)) h;
      second = subst (λ T. P w G T) (type_same Y (operand o) (right_true (same_type X (operand o)) (same_type Y (operand o)) t.test)) (moved (at_world w Nothing) j G P Y i k);
      side = tt;
      is = sym (found_is (outcome o) A t.then_found);
      small = s;
    }
binary_sound Do p w A X Y j G First P i e s h k =
    record { pick = picks X Y unit w; first = h; second = moved (at_world w Nothing) j G P Y i k; side = tt; is = sym (found_is Y A e); small = s }
binary_sound (Val x) p w A X Y j G First P i e s h k =
    record { pick = picks X Y unit w; first = h; second = moved (at_world w (One x (Local w X))) j G P Y i k; side = tt; is = sym (found_is Y A e); small = s }
binary_sound (Put x) p w A X Y j G First P i e s h k =
    let t = passed (mobile X) (found (at_world w (One x (bound.Valid X)))) _ j i in
    record { pick = picks X Y unit w; first = h; second = moved (at_world w (One x (bound.Valid X))) j G P Y t.then_found k; side = t.test; is = sym (found_is Y A e); small = s }
binary_sound (Leta x) p w A (types.at Z v) Y j G First P i e s h k =
    let t = allowed (is_any v) (found (at_world w (One x (Local v Z)))) _ j i in
    record { pick = picks Z Y unit v; first = h; second = moved (at_world w (One x (Local v Z))) j G P Y t.then_found k; side = real v t.test; is = sym (found_is Y A e); small = s }
binary_sound (Leta x) p w A _ Y j G First P i e s h k = cc
binary_sound (Lets x) p w A (sham Z) Y j G First P i e s h k =
    record { pick = picks Z Y unit w; first = h; second = moved (at_world w (One x (bound.Valid Z))) j G P Y i k; side = tt; is = sym (found_is Y A e); small = s }
binary_sound (Lets x) p w A _ Y j G First P i e s h k = cc
binary_sound Get p w A X Y j G First P i e s h k =
    let t = allowed (is_any w) (addressed p X) _ j i in
    get_sound p w A X Y j G First P (real w t.test) t.then_found e s h k

-- from the types of the three parts
ternary_sound : (f : TernaryForm) (p : Place) (w : World) (A X Y Z : TypeExpression) (j : Arms) (G : Context) (First : TypeExpression → Type 0) (P Q : Context → TypeExpression → Type 0)
    → arms f p w X ≡ found j → ternary_type f p X Y Z ≡ found A → IsSmall A → First X → P (under j.second G) Y → Q (under j.third G) Z
    → TernaryTyped f w A First (λ bounds C. P (with_all (second_binders f) bounds G) C) (λ bounds C. Q (with_all (third_binders f) bounds G) C)
ternary_sound If p w A X Y Z j G First P Q i e s h k l =
    let t = passed (same_type X bool && same_type Y Z) (found Y) _ A e in
    let a = found_is (record { second = Nothing; third = Nothing }) j i in
    record {
      pick = picks unit Y unit w;
      first = subst First (type_same X bool (left_true (same_type X bool) (same_type Y Z) t.test)) h;
      second = subst (λ r. P (under r.second G) Y) (sym a) k;
      third = subst (λ T. Q G T) (sym (type_same Y Z (right_true (same_type X bool) (same_type Y Z) t.test))) (subst (λ r. Q (under r.third G) Z) (sym a) l);
      is = sym (found_is Y A t.then_found);
      small = s;
    }
ternary_sound (CaseSum x y) p w A (sum B C) Y Z j G First P Q i e s h k l =
    let t = passed (same_type Y Z) (found Y) _ A e in
    let a = found_is (record { second = One x (Local w B); third = One y (Local w C) }) j i in
    record {
      pick = picks B Y C w;
      first = h;
      second = subst (λ r. P (under r.second G) Y) (sym a) k;
      third = subst (λ T. Q (under (One y (Local w C)) G) T) (sym (type_same Y Z t.test)) (subst (λ r. Q (under r.third G) Z) (sym a) l);
      is = sym (found_is Y A t.then_found);
      small = s;
    }
ternary_sound (CaseSum x y) p w A _ Y Z j G First P Q i e s h k l = cc
ternary_sound (CaseList x y) p w A (list B) Y Z j G First P Q i e s h k l =
    let t = passed (same_type Y Z) (found Y) _ A e in
    let a = found_is (record { second = Nothing; third = Two y (Local w (list B)) x (Local w B) }) j i in
    record {
      pick = picks B Y unit w;
      first = h;
      second = subst (λ r. P (under r.second G) Y) (sym a) k;
      third = subst (λ T. Q (under (Two y (Local w (list B)) x (Local w B)) G) T) (sym (type_same Y Z t.test)) (subst (λ r. Q (under r.third G) Z) (sym a) l);
      is = sym (found_is Y A t.then_found);
      small = s;
    }
ternary_sound (CaseList x y) p w A _ Y Z j G First P Q i e s h k l = cc

-- where a type is found, the term has it
pub sound : (F : ℕ → Option Bound) (E : Setting) → Declares F E → (r : Resolved) (G : Context) (w : World) (A : TypeExpression)
    → IsTrue (in_text r) → checked F G w r ≡ found A → Typed E G w (erased r) A
sound F E d (leaf p f) G w A t e =
    let l = limits p (leaf_type F G w p f) A e in
    (leaf_sound F E d f G w p A t l.is, l.small)
sound F E d (unary p f a) G w A t e =
    let part = checked F (under (unary_binding f w) (part_context f G)) (unary_world f w) a in
    let type = unary_type f p w (is_value_form (erased a)) in
    let l = limits p (and_then part type) A e in
    let s = both part type A l.is in
    unary_sound f p w (erased a) A s.value (part_context f G) (λ v H C. Typed E H v (erased a) C) s.second l.small
    (sound F E d a (under (unary_binding f w) (part_context f G)) (unary_world f w) s.value (right_true (unary_in_text f) (in_text a) t) s.first)
sound F E d (binary p f a b) G w A t e =
    let second = λ (X : TypeExpression) (i : Inside). and_then (checked F (under i.binding G) i.world b) (binary_type f p X) in
    let rest = λ (X : TypeExpression). and_then (second_part f p w X) (second X) in
    let l = limits p (and_then (checked F G w a) rest) A e in
    let r = both (checked F G w a) rest A l.is in
    let i = both (second_part f p w r.value) (second r.value) A r.second in
    let s = both (checked F (under i.value.binding G) i.value.world b) (binary_type f p r.value) A i.second in
    binary_sound f p w A r.value s.value i.value G (λ C. Typed E G w (erased a) C) (λ v H C. Typed E H v (erased b) C) i.first s.second l.small
    (sound F E d a G w r.value (left_true (in_text a) (in_text b) t) r.first)
    (sound F E d b (under i.value.binding G) i.value.world s.value (right_true (in_text a) (in_text b) t) s.first)
sound F E d (ternary p f a b c) G w A t e =
    let third = λ (X Y : TypeExpression) (i : Arms). and_then (checked F (under i.third G) w c) (ternary_type f p X Y) in
    let second = λ (X : TypeExpression) (i : Arms). and_then (checked F (under i.second G) w b) (λ Y. third X Y i) in
    let rest = λ (X : TypeExpression). and_then (arms f p w X) (second X) in
    let l = limits p (and_then (checked F G w a) rest) A e in
    let r = both (checked F G w a) rest A l.is in
    let i = both (arms f p w r.value) (second r.value) A r.second in
    let s = both (checked F (under i.value.second G) w b) (λ Y. third r.value Y i.value) A i.second in
    let q = both (checked F (under i.value.third G) w c) (ternary_type f p r.value s.value) A s.second in
    let later = right_true (in_text a) (in_text b && in_text c) t in
    ternary_sound f p w A r.value s.value q.value i.value G (λ C. Typed E G w (erased a) C) (λ H C. Typed E H w (erased b) C) (λ H C. Typed E H w (erased c) C) i.first q.second l.small
    (sound F E d a G w r.value (left_true (in_text a) (in_text b && in_text c) t) r.first)
    (sound F E d b (under i.value.second G) w s.value (left_true (in_text b) (in_text c) later) s.first)
    (sound F E d c (under i.value.third G) w q.value (right_true (in_text b) (in_text c) later) q.first)
