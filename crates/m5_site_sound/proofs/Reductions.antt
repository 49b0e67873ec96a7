-- What a typed node whose evaluated parts are values becomes is typed.
use Rattle.std.proofs.Common.{◌≡◌, ◌≢◌, inl, inr, ℕ, ◌<◌, pos, Bool, true, false, if◌then◌else◌, IsTrue, ◌&&◌, Option, Some, None, slice_get, refl, sym, subst, arith}
use Rattle.std.specs.Ordering.{int_eq}
use Rattle.m5_terms.specs.Expression.{Expression, leaf, unary, binary, ternary}
use Rattle.m5_terms.specs.TypeExpression.{TypeExpression, unit, bool, int, string, address, product, sum, function, list, cell, sham, at, mobile, same_world}
use Rattle.m5_terms.specs.Text.{IsText}
use Rattle.m5_terms.specs.Primitives.{primitive_world, primitive_type}
use Rattle.m5_terms.specs.Substitution.{substituted}
use Rattle.m5_terms.specs.declared.types.World.{World}
use Rattle.m5_terms.specs.declared.types.World.TheVariants.{Any}
use Rattle.m5_terms.specs.declared.types.Primitive.{Primitive}
use Rattle.m5_terms.specs.declared.types.Primitive.TheVariants as primitive
use Rattle.m5_terms.specs.declared.types.Op.{Op}
use Rattle.m5_terms.specs.declared.types.Op.TheVariants as op
use Rattle.m5_terms.specs.declared.form.UnaryForm.{UnaryForm}
use Rattle.m5_terms.specs.declared.form.UnaryForm.TheVariants as unary_form
use Rattle.m5_terms.specs.declared.form.BinaryForm.{BinaryForm}
use Rattle.m5_terms.specs.declared.form.BinaryForm.TheVariants as binary_form
use Rattle.m5_terms.specs.declared.form.TernaryForm.{TernaryForm}
use Rattle.m5_terms.specs.declared.form.TernaryForm.TheVariants as ternary_form
use Rattle.m5_typing.specs.declared.functions.Function.{Function}
use Rattle.m5_typing.specs.Value.{is_value, IsValue, IsValueForm}
use Rattle.m5_typing.specs.Context.{Context, Setting, Bound, local, valid, nothing, with, type_at, IsKnownAt}
use Rattle.m5_typing.specs.Operators.{operand}
use Rattle.m5_typing.specs.Operators as operators
use Rattle.m5_typing.specs.Rules.{IsSmall}
use Rattle.m5_typing.specs.Typing.{Typed}
use Rattle.m5_typing.specs.Laws.{Suits}
use Rattle.m5_typing.specs.Program.{IsProgram, setting_of, declared_bound, bound_at}
use Rattle.m5_typing.proofs.Mobile.{both-left, both-right, moves}
use Rattle.m5_typing.proofs.Everywhere.{anywhere, anywhere-one}
use Rattle.m5_typing.proofs.Substitute.{substitution_law}
use Rattle.m5_typing.proofs.Declared.{declared_is_typed}
use Rattle.m5_terms.specs.declared.ask.AskOf.TheVariants as ask
use Rattle.m5_meaning.specs.Parts.{unary_parts, parts}
use Rattle.m5_meaning.specs.Reduction.{Reduced, gives, makes_text, goes_on, makes_cell, loads, stores, leaves, says, shows, sets, writes, gets, reads, handles, watches, wrong, unit_value, unit_or, called_extern, called_function, called, first_of, second_of, text_of_number, divided, operated, at_cell, got, unheld, unsham, reduced_unary, reduced_binary, chosen, case_of_sum, case_of_list, reduced_ternary, reduced}
use Rattle.m5_meaning.specs.Site.{Program}
use Rattle.m5_site_sound.specs.Sites.{ValueTyped, HandlerTyped, QueryTyped}
use Rattle.m5_terms.proofs.SiteWorlds.{by-world}
use Rattle.m5_site_sound.proofs.Growth.{grown}
use Rattle.m5_site_sound.proofs.Parts.{form-of, both-are}
use Rattle.m5_site_sound.proofs.TextBytes.{text-append, signed-text}
use Rattle.m5_site_sound.proofs.Canonical.{Canonical, a_bool, an_int, a_text, an_address, a_nil, a_cell, an_extern, a_declared, a_function, a_recursive, a_pair, a_cons, a_left, a_right, a_held, a_sham, canonical}

-- what a reduction leads to has the type A at u
abbrev pub Outcome : Setting → World → TypeExpression → Reduced → Type 0
Outcome E u A (gives v) = ValueTyped E u v A
Outcome E u A (makes_text t) = (A ≡ string) × IsText t
Outcome E u A (goes_on e) = Typed E nothing u e A
Outcome E u A (makes_cell v) = (B : TypeExpression) × (A ≡ cell B) × IsSmall A × ValueTyped E u v B
Outcome E u A (loads n) = type_at (E.cells u) n ≡ Some A
Outcome E u A (stores n v) = (B : TypeExpression) × (A ≡ unit) × (type_at (E.cells u) n ≡ Some B) × ValueTyped E u v B
Outcome E u A (leaves v e) = (v ≢ u) × (v ≢ Any) × IsTrue (mobile A) × Typed E nothing v e A
Outcome E u A (says t) = (A ≡ unit) × QueryTyped E u (ask.Say t)
Outcome E u A (shows t) = (A ≡ unit) × QueryTyped E u (ask.Show t)
Outcome E u A (sets e t) = (A ≡ unit) × QueryTyped E u (ask.Set e t)
Outcome E u A (writes k t) = (A ≡ unit) × QueryTyped E u (ask.Write k t)
Outcome E u A (gets e) = (A ≡ string) × QueryTyped E u (ask.GetText e)
Outcome E u A (reads k) = (A ≡ unit_or string) × QueryTyped E u (ask.Read k)
Outcome E u A (handles e h) = (A ≡ unit) × ((n : ℕ) → QueryTyped E u (ask.On e n)) × HandlerTyped E u h
Outcome E u A (watches k h) = (A ≡ unit) × ((n : ℕ) → QueryTyped E u (ask.Watch k n)) × HandlerTyped E u h
Outcome E u A wrong = ⊥

-- the program's functions are those that are known
pub record Declares (E : Setting) (P : Program) : Type 0 where
  pub functions : (f : ℕ) → E.functions f ≡ declared_bound (slice_get P.functions f)
  pub program : IsProgram P

outcome-at : (E : Setting) (u : World) (r : Reduced) (A B : TypeExpression) → A ≡ B → Outcome E u B r → Outcome E u A r
outcome-at E u r A B p d = subst (λ C. Outcome E u C r) (sym p) d

at-type : (E : Setting) (G : Context) (w : World) (e : Expression) (A B : TypeExpression) → A ≡ B → Typed E G w e A → Typed E G w e B
at-type E G w e A B p d = subst (λ C. Typed E G w e C) p d

either : (P : Reduced → Type 0) (t : Bool) (x y : Reduced) → P x → P y → P (if t then x else y)
either P true x y p q = p
either P false x y p q = q

-- a value in the place of the one variable
put-in : (E : Setting) (x : ℕ) (v e : Expression) (b : Bound) (w : World) (A : TypeExpression) → IsValue v → Suits E v b → Typed E (with x (Some b) nothing) w e A → Typed E nothing w (substituted x v e) A
put-in E x v e b w A p s d = substitution_law E nothing x b v w e A (form-of v p) s d

-- in the place of the inner one first
put-both : (E : Setting) (x y : ℕ) (v u e : Expression) (b c : Bound) (w : World) (A : TypeExpression) → IsValue v → IsValue u → Suits E v b → Suits E u c →
    Typed E (with x (Some b) (with y (Some c) nothing)) w e A → Typed E nothing w (substituted y u (substituted x v e)) A
put-both E x y v u e b c w A p q s t d = put-in E y u (substituted x v e) c w A q t (substitution_law E (with y (Some c) nothing) x b v w e A (form-of v p) s d)

-- of one part

first-typed : (E : Setting) (u : World) (v : Expression) (A B : TypeExpression) → Canonical E u v (product A B) → Outcome E u A (first_of v)
first-typed E u v A B (a_pair a b A' B' c d) = c

second-typed : (E : Setting) (u : World) (v : Expression) (A B : TypeExpression) → Canonical E u v (product A B) → Outcome E u B (second_of v)
second-typed E u v A B (a_pair a b A' B' c d) = d

number-typed : (E : Setting) (u : World) (v : Expression) → Canonical E u v int → Outcome E u string (text_of_number v)
number-typed E u v (an_int n) = (refl, signed-text n)

pub left-unit : (E : Setting) (u : World) (A : TypeExpression) → IsSmall (unit_or A) → ValueTyped E u (unary (unary_form.Inl (unit_or A)) unit_value) (unit_or A)
left-unit E u A s = (refl, record { pick = record { a = unit; b = A; c = unit; v = u }; part = (refl, omega arith); side = refl; is = refl; small = s })

quotient-typed : (E : Setting) (u : World) (a b : Expression) → Canonical E u a int → Canonical E u b int → Outcome E u (sum unit int) (divided (binary binary_form.Pair a b))
quotient-typed E u a b (an_int m) (an_int n) =
    either (Outcome E u (sum unit int)) (int_eq n (pos 0)) _ _ (left-unit E u int (omega arith))
    (refl, record { pick = record { a = unit; b = int; c = unit; v = u }; part = (refl, omega arith); side = refl; is = refl; small = omega arith })

divided-typed : (E : Setting) (u : World) (v : Expression) → Canonical E u v (product int int) → Outcome E u (sum unit int) (divided v)
divided-typed E u v (a_pair a b A B c d) = quotient-typed E u a b (canonical E u a int c) (canonical E u b int d)

-- a typed cell is the site's own
own-cell : (E : Setting) (u w : World) (A : TypeExpression) (x : Reduced) → u ≡ w → Outcome E u A x → Outcome E u A (if same_world w u then x else wrong)
own-cell E u w A x h o = by-world (λ t. Outcome E u A (if t then x else wrong)) w u (λ q. o) (λ q. absurd (q (sym h)))

load-typed : (E : Setting) (u : World) (v : Expression) (A : TypeExpression) → Canonical E u v (cell A) → Outcome E u A (at_cell u loads v)
load-typed E u v A (a_cell w n A' h e) = own-cell E u w A (loads n) h e

pub unary-typed : (E : Setting) (u : World) (f : UnaryForm) (a : Expression) (A : TypeExpression) → 0 < unary_parts f → IsValue a → Typed E nothing u (unary f a) A → Outcome E u A (reduced_unary u f a)
unary-typed E u (unary_form.Fn x C) a A h p d = absurd (omega arith)
unary-typed E u (unary_form.Rec f x C D) a A h p d = absurd (omega arith)
unary-typed E u unary_form.Spawn a A h p d = absurd (omega arith)
unary-typed E u (unary_form.Held v) a A h p d = absurd (omega arith)
unary-typed E u (unary_form.Inl T) a A h p d = (p, d)
unary-typed E u (unary_form.Inr T) a A h p d = (p, d)
unary-typed E u unary_form.Sham a A h p d = (p, d)
unary-typed E u unary_form.Fst a A h p d = outcome-at E u (first_of a) A _ d.is (first-typed E u a d.pick.a d.pick.b (canonical E u a _ (p, d.part)))
unary-typed E u unary_form.Snd a A h p d = outcome-at E u (second_of a) A _ d.is (second-typed E u a d.pick.a d.pick.b (canonical E u a _ (p, d.part)))
unary-typed E u unary_form.StrOf a A h p d = outcome-at E u (text_of_number a) A _ d.is (number-typed E u a (canonical E u a _ (p, d.part)))
unary-typed E u unary_form.Div a A h p d = outcome-at E u (divided a) A _ d.is (divided-typed E u a (canonical E u a _ (p, d.part)))
unary-typed E u unary_form.NewCell a A h p d = (d.pick.a, d.is, d.small, (p, d.part))
unary-typed E u unary_form.Load a A h p d = outcome-at E u (at_cell u loads a) A _ d.is (load-typed E u a d.pick.a (canonical E u a _ (p, d.part)))
unary-typed E u unary_form.Hold a A h p d = (p, record { pick = d.pick; part = d.part; side = (d.side, p); is = d.is; small = d.small })

-- of two parts

operated-typed : (E : Setting) (u : World) (o : Op) (a b : Expression) → Canonical E u a (operand o) → Canonical E u b (operand o) → Outcome E u (operators.outcome o) (operated o a b)
operated-typed E u op.Add a b (an_int m) (an_int n) = (refl, (refl, omega arith))
operated-typed E u op.Sub a b (an_int m) (an_int n) = (refl, (refl, omega arith))
operated-typed E u op.Mul a b (an_int m) (an_int n) = (refl, (refl, omega arith))
operated-typed E u op.EqInt a b (an_int m) (an_int n) = (refl, (refl, omega arith))
operated-typed E u op.Less a b (an_int m) (an_int n) = (refl, (refl, omega arith))
operated-typed E u op.Cat a b (a_text s i) (a_text t j) = (refl, text-append s t i j)
operated-typed E u op.EqStr a b (a_text s i) (a_text t j) = (refl, (refl, omega arith))

store-typed : (E : Setting) (u : World) (v b : Expression) (A : TypeExpression) → Canonical E u v (cell A) → ValueTyped E u b A → Outcome E u unit (at_cell u (λ n. stores n b) v)
store-typed E u v b A (a_cell w n A' h e) c = own-cell E u w unit (stores n b) h (A, refl, e, c)

says-typed : (E : Setting) (u : World) (v : Expression) → u ≡ primitive_world primitive.Say → Canonical E u v string → Outcome E u unit (called_extern primitive.Say v)
says-typed E u v h (a_text s i) = (refl, (h, i))

shows-typed : (E : Setting) (u : World) (v : Expression) → u ≡ primitive_world primitive.Show → Canonical E u v string → Outcome E u unit (called_extern primitive.Show v)
shows-typed E u v h (a_text s i) = (refl, (h, i))

gets-typed : (E : Setting) (u : World) (v : Expression) → u ≡ primitive_world primitive.GetText → Canonical E u v string → Outcome E u string (called_extern primitive.GetText v)
gets-typed E u v h (a_text s i) = (refl, (h, i))

reads-typed : (E : Setting) (u : World) (v : Expression) → u ≡ primitive_world primitive.Read → Canonical E u v string → Outcome E u (sum unit string) (called_extern primitive.Read v)
reads-typed E u v h (a_text s i) = (refl, (h, i))

pub record OnTwoTexts (E : Setting) (u : World) (v : Expression) : Type 0 where
  pub sets : u ≡ primitive_world primitive.SetText → Outcome E u unit (called_extern primitive.SetText v)
  pub writes : u ≡ primitive_world primitive.Write → Outcome E u unit (called_extern primitive.Write v)

two-texts : (E : Setting) (u : World) (a b : Expression) → Canonical E u a string → Canonical E u b string → OnTwoTexts E u (binary binary_form.Pair a b)
two-texts E u a b (a_text s i) (a_text t j) = record { sets = λ h. (refl, (h, i, j)); writes = λ h. (refl, (h, i, j)) }

sets-typed : (E : Setting) (u : World) (v : Expression) → Canonical E u v (product string string) → OnTwoTexts E u v
sets-typed E u v (a_pair a b A B c d) = two-texts E u a b (canonical E u a string c) (canonical E u b string d)

pub record OnHandler (E : Setting) (u : World) (v : Expression) : Type 0 where
  pub handles : u ≡ primitive_world primitive.On → Outcome E u unit (called_extern primitive.On v)
  pub watches : u ≡ primitive_world primitive.Watch → Outcome E u unit (called_extern primitive.Watch v)

with-handler : (E : Setting) (u : World) (a b : Expression) → Canonical E u a string → HandlerTyped E u b → OnHandler E u (binary binary_form.Pair a b)
with-handler E u a b (a_text s i) c = record { handles = λ h. (refl, (λ n. (h, i)), c); watches = λ h. (refl, (λ n. (h, i)), c) }

handles-typed : (E : Setting) (u : World) (v : Expression) → Canonical E u v (product string (function string unit)) → OnHandler E u v
handles-typed E u v (a_pair a b A B c d) = with-handler E u a b (canonical E u a string c) d

function-left : (A B C D : TypeExpression) → function A B ≡ function C D → A ≡ C
function-left A B C D e = cc

function-right : (A B C D : TypeExpression) → function A B ≡ function C D → B ≡ D
function-right A B C D e = cc

-- by the primitive's type
extern-at : (E : Setting) (u : World) (p : Primitive) (v : Expression) (A B C D : TypeExpression) → function A B ≡ function C D → (Canonical E u v C → Outcome E u D (called_extern p v)) → ValueTyped E u v A → Outcome E u B (called_extern p v)
extern-at E u p v A B C D e f c =
    outcome-at E u (called_extern p v) B D (function-right A B C D e) (f (canonical E u v C (c.0, at-type E nothing u v A C (function-left A B C D e) c.1)))

extern-typed : (E : Setting) (u : World) (p : Primitive) (v : Expression) (A B : TypeExpression) → u ≡ primitive_world p → function A B ≡ primitive_type p → ValueTyped E u v A → Outcome E u B (called_extern p v)
extern-typed E u primitive.Say v A B h e c = extern-at E u primitive.Say v A B _ _ e (says-typed E u v h) c
extern-typed E u primitive.SetText v A B h e c = extern-at E u primitive.SetText v A B _ _ e (λ k. (sets-typed E u v k).sets h) c
extern-typed E u primitive.GetText v A B h e c = extern-at E u primitive.GetText v A B _ _ e (gets-typed E u v h) c
extern-typed E u primitive.On v A B h e c = extern-at E u primitive.On v A B _ _ e (λ k. (handles-typed E u v k).handles h) c
extern-typed E u primitive.Read v A B h e c = extern-at E u primitive.Read v A B _ _ e (reads-typed E u v h) c
extern-typed E u primitive.Write v A B h e c = extern-at E u primitive.Write v A B _ _ e (λ k. (sets-typed E u v k).writes h) c
extern-typed E u primitive.Watch v A B h e c = extern-at E u primitive.Watch v A B _ _ e (λ k. (handles-typed E u v k).watches h) c
extern-typed E u primitive.Show v A B h e c = extern-at E u primitive.Show v A B _ _ e (shows-typed E u v h) c

-- a declared function that is known at u is typed there
pub record BodyAt (E : Setting) (x : ℕ) (u : World) (C D A B : TypeExpression) (b : Expression) : Type 0 where
  pub from : C ≡ A
  pub to : D ≡ B
  pub body : Typed E (with x (Some (local u C)) nothing) u b D

body-at : (E : Setting) (x : ℕ) (w u : World) (C D A B : TypeExpression) (b : Expression) → IsKnownAt (Some (bound_at w (function C D))) u (function A B) →
    Typed E (with x (Some (local w C)) nothing) w b D → BodyAt E x u C D A B b
body-at E x Any u C D A B b (inl k) d = let q = k.1 in cc
body-at E x Any u C D A B b (inr k) d = record { from = cc; to = cc; body = anywhere-one E x C b D d u }
body-at E x w u C D A B b (inl k) d =
    let e : w ≡ u = let q = k.1 in cc in
    record { from = let q = k.1 in cc; to = let q = k.1 in cc; body = subst (λ v. Typed E (with x (Some (local v C)) nothing) v b D) e d }
body-at E x w u C D A B b (inr k) d = cc

-- what a program's functions need is known
declared-in : (E : Setting) (P : Program) → Declares E P → (e : Expression) (G : Context) (w : World) (A : TypeExpression) → Typed (setting_of P.functions) G w e A → Typed E G w e A
declared-in E P t e G w A d =
    grown (setting_of P.functions) E (record { functions = λ f b q. subst (λ o. o ≡ Some b) (sym (t.functions f)) q; cells = λ v n B q. cc }) e G w A d

declared-typed : (E : Setting) (P : Program) (u : World) (f : ℕ) (v : Expression) (A B : TypeExpression) (o : Option Function) → Declares E P → slice_get P.functions f ≡ o → IsKnownAt (declared_bound o) u (function A B) → ValueTyped E u v A → Outcome E u B (called_function o v)
declared-typed E P u f v A B None t s (inl k) c = let q = k.1 in cc
declared-typed E P u f v A B None t s (inr k) c = cc
declared-typed E P u f v A B (Some g) t s k c =
    let d = declared_is_typed P f g t.program s in
    let r = body-at E g.parameter g.world u g.ty g.result A B g.body k (declared-in E P t g.body _ g.world g.result d.body) in
    at-type E nothing u (substituted g.parameter v g.body) g.result B r.to
    (put-in E g.parameter v g.body (local u g.ty) u g.result c.0 (at-type E nothing u v A g.ty (sym r.from) c.1) r.body)

call-typed : (E : Setting) (P : Program) (u : World) (f v : Expression) (A B : TypeExpression) → Declares E P → Canonical E u f (function A B) → ValueTyped E u v A → Outcome E u B (called P f v)
call-typed E P u f v A B t (an_extern p A' B' h e) c = extern-typed E u p v A B h e c
call-typed E P u f v A B t (a_declared g A' B' k) c = declared-typed E P u g v A B (slice_get P.functions g) t refl (subst (λ o. IsKnownAt o u (function A B)) (t.functions g) k) c
call-typed E P u f v A B t (a_function x C b A' B' e d) c = put-in E x v b (local u A) u B c.0 c.1 d
call-typed E P u f v A B t (a_recursive g x C D b A' B' r d) c =
    put-both E x g v (unary (unary_form.Rec g x C D) b) b (local u A) (local u (function A B)) u B c.0 refl c.1 r d

held-typed : (E : Setting) (u : World) (x : ℕ) (v b : Expression) (A B : TypeExpression) (w : World) → Canonical E u v (at A w) → Typed E (with x (Some (local w A)) nothing) u b B → Outcome E u B (unheld x v b)
held-typed E u x v b A B w (a_held w' a A' c) d = put-in E x a b (local w A) u B c.0 c.1 d

sham-typed : (E : Setting) (u : World) (x : ℕ) (v b : Expression) (A B : TypeExpression) → Canonical E u v (sham A) → Typed E (with x (Some (valid A)) nothing) u b B → Outcome E u B (unsham x v b)
sham-typed E u x v b A B (a_sham a A' c) d = put-in E x a b (valid A) u B c.0 (λ w. anywhere E a w A c.1) d

get-typed : (E : Setting) (u v : World) (a b : Expression) (A : TypeExpression) → v ≢ Any → IsTrue (mobile A) → Canonical E u a (address v) → Typed E nothing v b A → Outcome E u A (got u a b)
get-typed E u v a b A n m (an_address x) d =
    by-world (λ t. Outcome E u A (if t then goes_on b else leaves x b)) x u (λ e. subst (λ y. Typed E nothing y b A) e d) (λ q. (q, n, m, d))

-- the second part is a value where it is evaluated
abbrev pub second_is_ready : BinaryForm → Expression → Bool
second_is_ready binary_form.Call b = is_value b
second_is_ready binary_form.Pair b = is_value b
second_is_ready binary_form.Cons b = is_value b
second_is_ready binary_form.Store b = is_value b
second_is_ready (binary_form.Binary o) b = is_value b
second_is_ready _ b = true

pub binary-typed : (E : Setting) (P : Program) (u : World) (f : BinaryForm) (a b : Expression) (A : TypeExpression) → Declares E P → IsValue a → IsTrue (second_is_ready f b) → Typed E nothing u (binary f a b) A → Outcome E u A (reduced_binary P u f a b)
binary-typed E P u binary_form.Call a b A t p q d = outcome-at E u (called P a b) A _ d.is (call-typed E P u a b d.pick.a d.pick.b t (canonical E u a _ (p, d.first)) (q, d.second))
binary-typed E P u binary_form.Pair a b A t p q d = (both-are _ _ p q, d)
binary-typed E P u binary_form.Cons a b A t p q d = (both-are _ _ p q, d)
binary-typed E P u binary_form.Store a b A t p q d = outcome-at E u (at_cell u (λ k. stores k b) a) A _ d.is (store-typed E u a b d.pick.a (canonical E u a _ (p, d.first)) (q, d.second))
binary-typed E P u (binary_form.Binary o) a b A t p q d = outcome-at E u (operated o a b) A _ d.is (operated-typed E u o a b (canonical E u a _ (p, d.first)) (canonical E u b _ (q, d.second)))
binary-typed E P u binary_form.Do a b A t p q d = outcome-at E u (goes_on b) A _ d.is d.second
binary-typed E P u binary_form.Get a b A t p q d = outcome-at E u (got u a b) A _ d.is (get-typed E u d.pick.v a b d.pick.b d.side.1 d.side.2 (canonical E u a _ (p, d.first)) d.second)
binary-typed E P u (binary_form.Val x) a b A t p q d = outcome-at E u (goes_on (substituted x a b)) A _ d.is (put-in E x a b (local u d.pick.a) u d.pick.b p d.first d.second)
binary-typed E P u (binary_form.Put x) a b A t p q d = outcome-at E u (goes_on (substituted x a b)) A _ d.is (put-in E x a b (valid d.pick.a) u d.pick.b p (λ w. moves E a u w d.pick.a p d.side d.first) d.second)
binary-typed E P u (binary_form.Leta x) a b A t p q d = outcome-at E u (unheld x a b) A _ d.is (held-typed E u x a b d.pick.a d.pick.b d.pick.v (canonical E u a _ (p, d.first)) d.second)
binary-typed E P u (binary_form.Lets x) a b A t p q d = outcome-at E u (unsham x a b) A _ d.is (sham-typed E u x a b d.pick.a d.pick.b (canonical E u a _ (p, d.first)) d.second)

-- of three parts

chosen-typed : (E : Setting) (u : World) (a b c : Expression) (A : TypeExpression) → Canonical E u a bool → Typed E nothing u b A → Typed E nothing u c A → Outcome E u A (chosen a b c)
chosen-typed E u a b c A (a_bool true) d e = d
chosen-typed E u a b c A (a_bool false) d e = e

sum-typed : (E : Setting) (u : World) (x y : ℕ) (a b c : Expression) (L R A : TypeExpression) → Canonical E u a (sum L R) → Typed E (with x (Some (local u L)) nothing) u b A → Typed E (with y (Some (local u R)) nothing) u c A → Outcome E u A (case_of_sum x y a b c)
sum-typed E u x y a b c L R A (a_left T v L' R' k) d e = put-in E x v b (local u L) u A k.0 k.1 d
sum-typed E u x y a b c L R A (a_right T v L' R' k) d e = put-in E y v c (local u R) u A k.0 k.1 e

list-typed : (E : Setting) (u : World) (x y : ℕ) (a b c : Expression) (L A : TypeExpression) → Canonical E u a (list L) → Typed E nothing u b A → Typed E (with y (Some (local u (list L))) (with x (Some (local u L)) nothing)) u c A → Outcome E u A (case_of_list x y a b c)
list-typed E u x y a b c L A (a_nil T L') d e = d
list-typed E u x y a b c L A (a_cons h t L' k l) d e = put-both E y x t h c (local u (list L)) (local u L) u A l.0 k.0 l.1 k.1 e

pub ternary-typed : (E : Setting) (u : World) (f : TernaryForm) (a b c : Expression) (A : TypeExpression) → IsValue a → Typed E nothing u (ternary f a b c) A → Outcome E u A (reduced_ternary f a b c)
ternary-typed E u ternary_form.If a b c A p d = outcome-at E u (chosen a b c) A _ d.is (chosen-typed E u a b c d.pick.b (canonical E u a _ (p, d.first)) d.second d.third)
ternary-typed E u (ternary_form.CaseSum x y) a b c A p d = outcome-at E u (case_of_sum x y a b c) A _ d.is (sum-typed E u x y a b c d.pick.a d.pick.c d.pick.b (canonical E u a _ (p, d.first)) d.second d.third)
ternary-typed E u (ternary_form.CaseList x y) a b c A p d = outcome-at E u (case_of_list x y a b c) A _ d.is (list-typed E u x y a b c d.pick.a d.pick.b (canonical E u a _ (p, d.first)) d.second d.third)

-- all evaluated parts are values
abbrev pub is_complete : Expression → Bool
is_complete (leaf f) = true
is_complete (unary f a) = is_value a
is_complete (binary f a b) = is_value a && second_is_ready f b
is_complete (ternary f a b c) = is_value a

pub reduced-typed : (E : Setting) (P : Program) (u : World) (e : Expression) (A : TypeExpression) → Declares E P → 0 < parts e → IsTrue (is_complete e) → Typed E nothing u e A → Outcome E u A (reduced P u e)
reduced-typed E P u (leaf f) A t h p d = absurd (omega arith)
reduced-typed E P u (unary f a) A t h p d = unary-typed E u f a A (omega arith) p d
reduced-typed E P u (binary f a b) A t h p d = binary-typed E P u f a b A t (both-left (is_value a) _ p) (both-right (is_value a) _ p) d
reduced-typed E P u (ternary f a b c) A t h p d = ternary-typed E u f a b c A p d

-- a value form at any is a value by then
pub form-reduces : (P : Program) (u : World) (e : Expression) → 0 < parts e → IsTrue (is_complete e) → IsValueForm e → (reduced P u e ≡ gives e) × IsValue e
form-reduces P u (leaf f) h p q = absurd (omega arith)
form-reduces P u (unary (unary_form.Fn x C) a) h p q = absurd (omega arith)
form-reduces P u (unary (unary_form.Rec f x C D) a) h p q = absurd (omega arith)
form-reduces P u (unary (unary_form.Held v) a) h p q = absurd (omega arith)
form-reduces P u (unary unary_form.Sham a) h p q = (refl, p)
form-reduces P u (unary (unary_form.Inl T) a) h p q = (refl, p)
form-reduces P u (unary (unary_form.Inr T) a) h p q = (refl, p)
form-reduces P u (unary _ a) h p q = cc
form-reduces P u (binary binary_form.Pair a b) h p q = (refl, p)
form-reduces P u (binary binary_form.Cons a b) h p q = (refl, p)
form-reduces P u (binary _ a b) h p q = cc
form-reduces P u (ternary f a b c) h p q = cc
