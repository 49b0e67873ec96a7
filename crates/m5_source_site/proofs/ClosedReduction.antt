-- What a closed node becomes is closed.
use Rattle.std.proofs.Common.{◌≡◌, ℕ, Bool, true, false, IsTrue, [], ◌∷◌, Option, Some, None, refl, if◌then◌else◌, int_eq, pos}
use Rattle.std.specs.Prelude.{slice_get}
use Rattle.m5_terms.specs.Expression.{Expression, leaf, unary, binary, ternary}
use Rattle.m5_terms.specs.TypeExpression.{same_world}
use Rattle.m5_terms.specs.Closed.{IsClosed, closed_under}
use Rattle.m5_terms.specs.declared.types.World.{World}
use Rattle.m5_terms.specs.declared.types.Primitive.{Primitive}
use Rattle.m5_terms.specs.declared.types.Primitive.TheVariants as primitive
use Rattle.m5_terms.specs.declared.types.Op.{Op}
use Rattle.m5_terms.specs.declared.types.Op.TheVariants as op
use Rattle.m5_terms.specs.declared.form.LeafForm.TheVariants as leaf_form
use Rattle.m5_terms.specs.declared.form.UnaryForm.{UnaryForm}
use Rattle.m5_terms.specs.declared.form.UnaryForm.TheVariants as unary_form
use Rattle.m5_terms.specs.declared.form.BinaryForm.{BinaryForm}
use Rattle.m5_terms.specs.declared.form.BinaryForm.TheVariants as binary_form
use Rattle.m5_terms.specs.declared.form.TernaryForm.{TernaryForm}
use Rattle.m5_terms.specs.declared.form.TernaryForm.TheVariants as ternary_form
use Rattle.m5_terms.specs.Substitution.{substituted}
use Rattle.m5_typing.specs.declared.functions.Function.{Function}
use Rattle.m5_meaning.specs.Site.{Program}
use Rattle.m5_meaning.specs.Reduction.{Reduced, gives, goes_on, makes_cell, loads, stores, leaves, handles, watches, wrong, called, called_extern, called_function, first_of, second_of, text_of_number, divided, operated, at_cell, got, unheld, unsham, reduced_unary, reduced_binary, chosen, case_of_sum, case_of_list, reduced_ternary, reduced}
use Rattle.m5_source_site.specs.ClosedSite.{IsClosedProgram}
use Rattle.m5_terms.proofs.ClosedTerms.{left, right}
use Rattle.m5_source_site.proofs.ClosedTerm.{bound}

abbrev pub IsClosedReduced : Reduced → Type 0
IsClosedReduced (gives v) = IsClosed v
IsClosedReduced (goes_on e) = IsClosed e
IsClosedReduced (makes_cell v) = IsClosed v
IsClosedReduced (stores n v) = IsClosed v
IsClosedReduced (leaves w e) = IsClosed e
IsClosedReduced (handles e h) = IsClosed h
IsClosedReduced (watches k h) = IsClosed h
IsClosedReduced _ = Unit {0}

first-closed : (v : Expression) → IsClosed v → IsClosedReduced (first_of v)
first-closed (binary binary_form.Pair a b) h = left (closed_under [] a) _ h
first-closed _ h = tt

second-closed : (v : Expression) → IsClosed v → IsClosedReduced (second_of v)
second-closed (binary binary_form.Pair a b) h = right (closed_under [] a) _ h
second-closed _ h = tt

number-closed : (v : Expression) → IsClosedReduced (text_of_number v)
number-closed (leaf (leaf_form.Int n)) = tt
number-closed _ = tt

quotient-closed : (t : Bool) (a b : Expression) → IsClosed a → IsClosed b → IsClosedReduced (if t then gives a else gives b)
quotient-closed true a b h k = h
quotient-closed false a b h k = k

divided-closed : (v : Expression) → IsClosedReduced (divided v)
divided-closed (binary binary_form.Pair (leaf (leaf_form.Int m)) (leaf (leaf_form.Int n))) = quotient-closed (int_eq n (pos 0)) _ _ refl refl
divided-closed _ = tt

here-closed : (t : Bool) (r : Reduced) → IsClosedReduced r → IsClosedReduced (if t then r else wrong)
here-closed true r h = h
here-closed false r h = tt

at-cell-closed : (w : World) (f : ℕ → Reduced) (v : Expression) → ((n : ℕ) → IsClosedReduced (f n)) → IsClosedReduced (at_cell w f v)
at-cell-closed w f (leaf (leaf_form.CellAt x n)) h = here-closed (same_world x w) (f n) (h n)
at-cell-closed w f _ h = tt

unary-closed : (w : World) (f : UnaryForm) (v : Expression) → IsClosed (unary f v) → IsClosedReduced (reduced_unary w f v)
unary-closed w unary_form.Fst v h = first-closed v h
unary-closed w unary_form.Snd v h = second-closed v h
unary-closed w unary_form.StrOf v h = number-closed v
unary-closed w unary_form.Div v h = divided-closed v
unary-closed w unary_form.NewCell v h = h
unary-closed w unary_form.Load v h = at-cell-closed w loads v (λ n. tt)
unary-closed w unary_form.Hold v h = h
unary-closed w f v h = h

extern-closed : (p : Primitive) (v : Expression) → IsClosed v → IsClosedReduced (called_extern p v)
extern-closed primitive.On (binary binary_form.Pair (leaf (leaf_form.Str e)) k) h = right true _ h
extern-closed primitive.Watch (binary binary_form.Pair (leaf (leaf_form.Str e)) k) h = right true _ h
extern-closed primitive.Say (leaf (leaf_form.Str t)) h = tt
extern-closed primitive.Show (leaf (leaf_form.Str t)) h = tt
extern-closed primitive.SetText (binary binary_form.Pair (leaf (leaf_form.Str e)) (leaf (leaf_form.Str t))) h = tt
extern-closed primitive.GetText (leaf (leaf_form.Str e)) h = tt
extern-closed primitive.Read (leaf (leaf_form.Str k)) h = tt
extern-closed primitive.Write (binary binary_form.Pair (leaf (leaf_form.Str k)) (leaf (leaf_form.Str t))) h = tt
extern-closed _ _ h = tt

function-closed : (o : Option Function) (v : Expression) → ((g : Function) → o ≡ Some g → IsTrue (closed_under (g.parameter ∷ []) g.body)) → IsClosed v → IsClosedReduced (called_function o v)
function-closed None v k h = tt
function-closed (Some g) v k h = bound g.parameter v g.body [] h (k g refl)

called-closed : (P : Program) → IsClosedProgram P → (v b : Expression) → IsClosed v → IsClosed b → IsClosedReduced (called P v b)
called-closed P c (leaf (leaf_form.Glob f)) b h k = function-closed (slice_get P.functions f) b (c.bodies f) k
called-closed P c (leaf (leaf_form.Extern p)) b h k = extern-closed p b k
called-closed P c (unary (unary_form.Fn x a) e) b h k = bound x b e [] k h
called-closed P c (unary (unary_form.Rec f x a r) e) b h k = bound f (unary (unary_form.Rec f x a r) e) (substituted x b e) [] h (bound x b e (f ∷ []) k h)
called-closed P c _ b h k = tt

operated-closed : (o : Op) (v b : Expression) → IsClosedReduced (operated o v b)
operated-closed op.Add (leaf (leaf_form.Int m)) (leaf (leaf_form.Int n)) = refl
operated-closed op.Sub (leaf (leaf_form.Int m)) (leaf (leaf_form.Int n)) = refl
operated-closed op.Mul (leaf (leaf_form.Int m)) (leaf (leaf_form.Int n)) = refl
operated-closed op.EqInt (leaf (leaf_form.Int m)) (leaf (leaf_form.Int n)) = refl
operated-closed op.Less (leaf (leaf_form.Int m)) (leaf (leaf_form.Int n)) = refl
operated-closed op.Cat (leaf (leaf_form.Str s)) (leaf (leaf_form.Str t)) = tt
operated-closed op.EqStr (leaf (leaf_form.Str s)) (leaf (leaf_form.Str t)) = refl
operated-closed o _ _ = tt

go-closed : (t : Bool) (v : World) (b : Expression) → IsClosed b → IsClosedReduced (if t then goes_on b else leaves v b)
go-closed true v b h = h
go-closed false v b h = h

got-closed : (w : World) (a b : Expression) → IsClosed b → IsClosedReduced (got w a b)
got-closed w (leaf (leaf_form.Addr v)) b h = go-closed (same_world v w) v b h
got-closed w _ b h = tt

held-closed : (x : ℕ) (v b : Expression) → IsClosed v → IsTrue (closed_under (x ∷ []) b) → IsClosedReduced (unheld x v b)
held-closed x (unary (unary_form.Held w) v) b h k = bound x v b [] h k
held-closed x _ b h k = tt

sham-closed : (x : ℕ) (v b : Expression) → IsClosed v → IsTrue (closed_under (x ∷ []) b) → IsClosedReduced (unsham x v b)
sham-closed x (unary unary_form.Sham v) b h k = bound x v b [] h k
sham-closed x _ b h k = tt

binary-closed : (P : Program) → IsClosedProgram P → (w : World) (f : BinaryForm) (v b : Expression) → IsClosed (binary f v b) → IsClosedReduced (reduced_binary P w f v b)
binary-closed P c w binary_form.Call v b h = called-closed P c v b (left (closed_under [] v) _ h) (right (closed_under [] v) _ h)
binary-closed P c w binary_form.Pair v b h = h
binary-closed P c w binary_form.Cons v b h = h
binary-closed P c w binary_form.Store v b h = at-cell-closed w (λ n. stores n b) v (λ n. right (closed_under [] v) _ h)
binary-closed P c w (binary_form.Binary o) v b h = operated-closed o v b
binary-closed P c w binary_form.Do v b h = right (closed_under [] v) _ h
binary-closed P c w binary_form.Get v b h = got-closed w v b (right (closed_under [] v) _ h)
binary-closed P c w (binary_form.Val x) v b h = bound x v b [] (left (closed_under [] v) _ h) (right (closed_under [] v) _ h)
binary-closed P c w (binary_form.Put x) v b h = bound x v b [] (left (closed_under [] v) _ h) (right (closed_under [] v) _ h)
binary-closed P c w (binary_form.Leta x) v b h = held-closed x v b (left (closed_under [] v) _ h) (right (closed_under [] v) _ h)
binary-closed P c w (binary_form.Lets x) v b h = sham-closed x v b (left (closed_under [] v) _ h) (right (closed_under [] v) _ h)

chosen-closed : (v b c : Expression) → IsClosed b → IsClosed c → IsClosedReduced (chosen v b c)
chosen-closed (leaf (leaf_form.Bool true)) b c h k = h
chosen-closed (leaf (leaf_form.Bool false)) b c h k = k
chosen-closed _ b c h k = tt

sum-closed : (x y : ℕ) (v b c : Expression) → IsClosed v → IsTrue (closed_under (x ∷ []) b) → IsTrue (closed_under (y ∷ []) c) → IsClosedReduced (case_of_sum x y v b c)
sum-closed x y (unary (unary_form.Inl a) v) b c h k m = bound x v b [] h k
sum-closed x y (unary (unary_form.Inr a) v) b c h k m = bound y v c [] h m
sum-closed x y _ b c h k m = tt

list-closed : (x y : ℕ) (v b c : Expression) → IsClosed v → IsClosed b → IsTrue (closed_under (y ∷ x ∷ []) c) → IsClosedReduced (case_of_list x y v b c)
list-closed x y (leaf (leaf_form.Nil a)) b c h k m = k
list-closed x y (binary binary_form.Cons i t) b c h k m = bound x i (substituted y t c) [] (left (closed_under [] i) _ h) (bound y t c (x ∷ []) (right (closed_under [] i) _ h) m)
list-closed x y _ b c h k m = tt

ternary-closed : (f : TernaryForm) (v b c : Expression) → IsClosed (ternary f v b c) → IsClosedReduced (reduced_ternary f v b c)
ternary-closed ternary_form.If v b c h =
    let k = right (closed_under [] v) _ h in
    chosen-closed v b c (left (closed_under [] b) _ k) (right (closed_under [] b) _ k)
ternary-closed (ternary_form.CaseSum x y) v b c h =
    let k = right (closed_under [] v) _ h in
    sum-closed x y v b c (left (closed_under [] v) _ h) (left (closed_under (x ∷ []) b) _ k) (right (closed_under (x ∷ []) b) _ k)
ternary-closed (ternary_form.CaseList x y) v b c h =
    let k = right (closed_under [] v) _ h in
    list-closed x y v b c (left (closed_under [] v) _ h) (left (closed_under [] b) _ k) (right (closed_under [] b) _ k)

pub reduced-closed : (P : Program) → IsClosedProgram P → (w : World) (e : Expression) → IsClosed e → IsClosedReduced (reduced P w e)
reduced-closed P c w (leaf f) h = tt
reduced-closed P c w (unary f v) h = unary-closed w f v h
reduced-closed P c w (binary f v b) h = binary-closed P c w f v b h
reduced-closed P c w (ternary f v b d) h = ternary-closed f v b d h
