-- What a reduction puts into a cell is a part of the node, so it is within the budget of depth where the parts are.
use Rattle.std.proofs.Common.{ℕ, zero, suc, ◌+◌, ◌≤◌, Bool, true, false, IsTrue, nat_le, max, Option, Some, None, if◌then◌else◌, int_eq, pos, arith}
use Rattle.std.specs.Prelude.{slice_get}
use Rattle.m5_terms.specs.Expression.{Expression, leaf, unary, binary, ternary}
use Rattle.m5_terms.specs.TypeExpression.{same_world}
use Rattle.m5_terms.specs.Depth.{depth}
use Rattle.m5_terms.specs.declared.types.World.{World}
use Rattle.m5_terms.specs.declared.types.Primitive.{Primitive}
use Rattle.m5_terms.specs.declared.types.Primitive.TheVariants as primitive
use Rattle.m5_terms.specs.declared.types.Op.{Op}
use Rattle.m5_terms.specs.declared.types.Op.TheVariants as op
use Rattle.m5_terms.specs.declared.form.LeafForm.TheVariants as leaf_form
use Rattle.m5_terms.specs.declared.form.UnaryForm.{UnaryForm}
use Rattle.m5_terms.specs.declared.form.UnaryForm.TheVariants as unary_form
use Rattle.m5_terms.specs.declared.form.BinaryForm.{BinaryForm}
use Rattle.m5_terms.specs.declared.form.BinaryForm.TheVariants as binary_form
use Rattle.m5_terms.specs.declared.form.TernaryForm.{TernaryForm}
use Rattle.m5_terms.specs.declared.form.TernaryForm.TheVariants as ternary_form
use Rattle.m5_typing.specs.declared.functions.Function.{Function}
use Rattle.m5_meaning.specs.Parts.{fill}
use Rattle.m5_meaning.specs.Site.{Program}
use Rattle.m5_meaning.specs.Reduction.{Reduced, gives, goes_on, makes_cell, loads, stores, leaves, called, called_extern, called_function, first_of, second_of, text_of_number, divided, operated, at_cell, got, unheld, unsham, reduced_unary, reduced_binary, chosen, case_of_sum, case_of_list, reduced_ternary, reduced}
use Rattle.m5_meaning.specs.Reduction as reduction
use Rattle.m5_replay.specs.Depth.{is_shallow}

-- a part is no deeper than its node
pub lower : (m n : ℕ) → m ≤ n → IsTrue (nat_le n 4096) → IsTrue (nat_le m 4096)
lower m n l h = grind arith

-- what a reduction puts into a cell is within the budget
abbrev pub FillsShallow : Reduced → Type 0
FillsShallow (makes_cell v) = IsTrue (is_shallow v)
FillsShallow (stores n v) = IsTrue (is_shallow v)
FillsShallow _ = Unit {0}

-- the parts of a node that may go into a cell are within the budget
abbrev ArePartsShallow : Expression → Type 0
ArePartsShallow (leaf f) = Unit {0}
ArePartsShallow (unary f a) = IsTrue (is_shallow a)
ArePartsShallow (binary f a b) = IsTrue (is_shallow b)
ArePartsShallow (ternary f a b c) = Unit {0}

filled-parts : (e : Expression) (k : ℕ) (v : Expression) → IsTrue (is_shallow e) → IsTrue (is_shallow v) → ArePartsShallow (fill e k v)
filled-parts (leaf f) k v h i = tt
filled-parts (unary f a) k v h i = i
filled-parts (binary f a b) zero v h i = lower (depth b) (1 + max (depth a) (depth b)) (omega arith) h
filled-parts (binary f a b) (suc k) v h i = i
filled-parts (ternary f a b c) k v h i = tt

first-fills : (v : Expression) → FillsShallow (first_of v)
first-fills (binary binary_form.Pair a b) = tt
first-fills _ = tt

second-fills : (v : Expression) → FillsShallow (second_of v)
second-fills (binary binary_form.Pair a b) = tt
second-fills _ = tt

number-fills : (v : Expression) → FillsShallow (text_of_number v)
number-fills (leaf (leaf_form.Int n)) = tt
number-fills _ = tt

either-fills : (b : Bool) (r q : Reduced) → FillsShallow r → FillsShallow q → FillsShallow (if b then r else q)
either-fills true r q h k = h
either-fills false r q h k = k

divided-fills : (v : Expression) → FillsShallow (divided v)
divided-fills (binary binary_form.Pair (leaf (leaf_form.Int m)) (leaf (leaf_form.Int n))) = either-fills (int_eq n (pos 0)) (gives _) (gives _) tt tt
divided-fills _ = tt

at-cell-fills : (w : World) (f : ℕ → Reduced) (v : Expression) → ((n : ℕ) → FillsShallow (f n)) → FillsShallow (at_cell w f v)
at-cell-fills w f (leaf (leaf_form.CellAt x n)) h = either-fills (same_world x w) (f n) reduction.wrong (h n) tt
at-cell-fills w f _ h = tt

unary-fills : (w : World) (f : UnaryForm) (v : Expression) → IsTrue (is_shallow v) → FillsShallow (reduced_unary w f v)
unary-fills w unary_form.Fst v h = first-fills v
unary-fills w unary_form.Snd v h = second-fills v
unary-fills w unary_form.StrOf v h = number-fills v
unary-fills w unary_form.Div v h = divided-fills v
unary-fills w unary_form.NewCell v h = h
unary-fills w unary_form.Load v h = at-cell-fills w loads v (λ n. tt)
unary-fills w unary_form.Hold v h = tt
unary-fills w f v h = tt

extern-fills : (p : Primitive) (v : Expression) → FillsShallow (called_extern p v)
extern-fills primitive.Say (leaf (leaf_form.Str t)) = tt
extern-fills primitive.SetText (binary binary_form.Pair (leaf (leaf_form.Str e)) (leaf (leaf_form.Str t))) = tt
extern-fills primitive.GetText (leaf (leaf_form.Str e)) = tt
extern-fills primitive.On (binary binary_form.Pair (leaf (leaf_form.Str e)) k) = tt
extern-fills primitive.Read (leaf (leaf_form.Str t)) = tt
extern-fills primitive.Write (binary binary_form.Pair (leaf (leaf_form.Str e)) (leaf (leaf_form.Str t))) = tt
extern-fills primitive.Watch (binary binary_form.Pair (leaf (leaf_form.Str e)) k) = tt
extern-fills primitive.Show (leaf (leaf_form.Str t)) = tt
extern-fills _ _ = tt

function-fills : (o : Option Function) (v : Expression) → FillsShallow (called_function o v)
function-fills None v = tt
function-fills (Some g) v = tt

called-fills : (P : Program) (v b : Expression) → FillsShallow (called P v b)
called-fills P (leaf (leaf_form.Glob f)) b = function-fills (slice_get P.functions f) b
called-fills P (leaf (leaf_form.Extern p)) b = extern-fills p b
called-fills P (unary (unary_form.Fn x a) e) b = tt
called-fills P (unary (unary_form.Rec f x a r) e) b = tt
called-fills P _ b = tt

operated-fills : (o : Op) (v b : Expression) → FillsShallow (operated o v b)
operated-fills op.Add (leaf (leaf_form.Int m)) (leaf (leaf_form.Int n)) = tt
operated-fills op.Sub (leaf (leaf_form.Int m)) (leaf (leaf_form.Int n)) = tt
operated-fills op.Mul (leaf (leaf_form.Int m)) (leaf (leaf_form.Int n)) = tt
operated-fills op.EqInt (leaf (leaf_form.Int m)) (leaf (leaf_form.Int n)) = tt
operated-fills op.Less (leaf (leaf_form.Int m)) (leaf (leaf_form.Int n)) = tt
operated-fills op.Cat (leaf (leaf_form.Str s)) (leaf (leaf_form.Str t)) = tt
operated-fills op.EqStr (leaf (leaf_form.Str s)) (leaf (leaf_form.Str t)) = tt
operated-fills o _ _ = tt

got-fills : (w : World) (a b : Expression) → FillsShallow (got w a b)
got-fills w (leaf (leaf_form.Addr v)) b = either-fills (same_world v w) (goes_on b) (leaves v b) tt tt
got-fills w _ b = tt

held-fills : (x : ℕ) (v b : Expression) → FillsShallow (unheld x v b)
held-fills x (unary (unary_form.Held w) v) b = tt
held-fills x _ b = tt

sham-fills : (x : ℕ) (v b : Expression) → FillsShallow (unsham x v b)
sham-fills x (unary unary_form.Sham v) b = tt
sham-fills x _ b = tt

binary-fills : (P : Program) (w : World) (f : BinaryForm) (v b : Expression) → IsTrue (is_shallow b) → FillsShallow (reduced_binary P w f v b)
binary-fills P w binary_form.Call v b h = called-fills P v b
binary-fills P w binary_form.Pair v b h = tt
binary-fills P w binary_form.Cons v b h = tt
binary-fills P w binary_form.Store v b h = at-cell-fills w (λ n. stores n b) v (λ n. h)
binary-fills P w (binary_form.Binary o) v b h = operated-fills o v b
binary-fills P w binary_form.Do v b h = tt
binary-fills P w binary_form.Get v b h = got-fills w v b
binary-fills P w (binary_form.Val x) v b h = tt
binary-fills P w (binary_form.Put x) v b h = tt
binary-fills P w (binary_form.Leta x) v b h = held-fills x v b
binary-fills P w (binary_form.Lets x) v b h = sham-fills x v b

chosen-fills : (v b c : Expression) → FillsShallow (chosen v b c)
chosen-fills (leaf (leaf_form.Bool true)) b c = tt
chosen-fills (leaf (leaf_form.Bool false)) b c = tt
chosen-fills _ b c = tt

sum-fills : (x y : ℕ) (v b c : Expression) → FillsShallow (case_of_sum x y v b c)
sum-fills x y (unary (unary_form.Inl a) v) b c = tt
sum-fills x y (unary (unary_form.Inr a) v) b c = tt
sum-fills x y _ b c = tt

list-fills : (x y : ℕ) (v b c : Expression) → FillsShallow (case_of_list x y v b c)
list-fills x y (leaf (leaf_form.Nil a)) b c = tt
list-fills x y (binary binary_form.Cons i t) b c = tt
list-fills x y _ b c = tt

ternary-fills : (f : TernaryForm) (v b c : Expression) → FillsShallow (reduced_ternary f v b c)
ternary-fills ternary_form.If v b c = chosen-fills v b c
ternary-fills (ternary_form.CaseSum x y) v b c = sum-fills x y v b c
ternary-fills (ternary_form.CaseList x y) v b c = list-fills x y v b c

reduced-fills : (P : Program) (w : World) (e : Expression) → ArePartsShallow e → FillsShallow (reduced P w e)
reduced-fills P w (leaf f) h = tt
reduced-fills P w (unary f a) h = unary-fills w f a h
reduced-fills P w (binary f a b) h = binary-fills P w f a b h
reduced-fills P w (ternary f a b c) h = ternary-fills f a b c

pub filled-fills : (P : Program) (u : World) (e : Expression) (k : ℕ) (v : Expression) → IsTrue (is_shallow e) → IsTrue (is_shallow v) → FillsShallow (reduced P u (fill e k v))
filled-fills P u e k v h i = reduced-fills P u (fill e k v) (filled-parts e k v h i)
