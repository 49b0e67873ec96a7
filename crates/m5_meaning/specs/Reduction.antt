-- What a node becomes whose evaluated parts are values.
use Rattle.std.specs.Prelude.{ℕ, pos, ◌+ℤ◌, ◌-ℤ◌, ◌*ℤ◌, int_lt, true, false, if◌then◌else◌, List, ◌++◌, Option, Some, None, slice_get}
use Rattle.std.specs.Ordering.{int_eq}
use Rattle.std.specs.Str.{bytes_eq}
use Rattle.std.specs.Fmt.{signed_decimal}
use Rattle.m5_terms.specs.Expression.{Expression, leaf, unary, binary, ternary}
use Rattle.m5_terms.specs.TypeExpression.{TypeExpression, same_world}
use Rattle.m5_terms.specs.TypeExpression as type
use Rattle.m5_terms.specs.Substitution.{substituted}
use Rattle.m5_terms.specs.declared.types.World.{World}
use Rattle.m5_terms.specs.declared.types.Primitive.{Primitive}
use Rattle.m5_terms.specs.declared.types.Primitive.TheVariants as primitive
use Rattle.m5_terms.specs.declared.types.Op.{Op}
use Rattle.m5_terms.specs.declared.types.Op.TheVariants as op
use Rattle.m5_terms.specs.declared.form.LeafForm.TheVariants as leaf_form
use Rattle.m5_terms.specs.declared.form.UnaryForm.{UnaryForm}
use Rattle.m5_terms.specs.declared.form.UnaryForm.TheVariants as unary_form
use Rattle.m5_terms.specs.declared.form.BinaryForm.{BinaryForm}
use Rattle.m5_terms.specs.declared.form.BinaryForm.TheVariants as binary_form
use Rattle.m5_terms.specs.declared.form.TernaryForm.{TernaryForm}
use Rattle.m5_terms.specs.declared.form.TernaryForm.TheVariants as ternary_form
use Rattle.m5_meaning.specs.Numbers.{wrapped, quotient}
use Rattle.m5_typing.specs.declared.functions.Function.{Function}
use Rattle.m5_meaning.specs.Site.{Program}

-- a value, a text that is made, a term to go on with, a deed on a cell, a move to another world, or a primitive's ask
pub data Reduced : Type 0 where
  gives : Expression → Reduced
  makes_text : List ℕ → Reduced
  goes_on : Expression → Reduced
  makes_cell : Expression → Reduced
  loads : ℕ → Reduced
  stores : ℕ → Expression → Reduced
  leaves : World → Expression → Reduced
  says shows : List ℕ → Reduced
  sets writes : List ℕ → List ℕ → Reduced
  gets reads : List ℕ → Reduced
  handles watches : List ℕ → Expression → Reduced
  wrong : Reduced

abbrev pub unit_value : Expression
unit_value = leaf leaf_form.Unit

abbrev pub text_value : List ℕ → Expression
text_value t = leaf (leaf_form.Str t)

-- the type that a division's and a reading's answers carry
abbrev pub unit_or : TypeExpression → TypeExpression
unit_or a = type.sum type.unit a

-- the call of a primitive asks for what its argument says
abbrev pub called_extern : Primitive → Expression → Reduced
called_extern primitive.Say (leaf (leaf_form.Str t)) = says t
called_extern primitive.SetText (binary binary_form.Pair (leaf (leaf_form.Str e)) (leaf (leaf_form.Str t))) = sets e t
called_extern primitive.GetText (leaf (leaf_form.Str e)) = gets e
called_extern primitive.On (binary binary_form.Pair (leaf (leaf_form.Str e)) h) = handles e h
called_extern primitive.Read (leaf (leaf_form.Str k)) = reads k
called_extern primitive.Write (binary binary_form.Pair (leaf (leaf_form.Str k)) (leaf (leaf_form.Str t))) = writes k t
called_extern primitive.Watch (binary binary_form.Pair (leaf (leaf_form.Str k)) h) = watches k h
called_extern primitive.Show (leaf (leaf_form.Str t)) = shows t
called_extern _ _ = wrong

abbrev pub called_function : Option Function → Expression → Reduced
called_function None v = wrong
called_function (Some f) v = goes_on (substituted f.parameter v f.body)

-- a call puts the argument into the body; the parameter of a recursive function is its inner binder
abbrev pub called : Program → Expression → Expression → Reduced
called P (leaf (leaf_form.Glob f)) v = called_function (slice_get P.functions f) v
called P (leaf (leaf_form.Extern p)) v = called_extern p v
called P (unary (unary_form.Fn x a) b) v = goes_on (substituted x v b)
called P (unary (unary_form.Rec f x a r) b) v = goes_on (substituted f (unary (unary_form.Rec f x a r) b) (substituted x v b))
called P _ v = wrong

abbrev pub first_of : Expression → Reduced
first_of (binary binary_form.Pair a b) = gives a
first_of _ = wrong

abbrev pub second_of : Expression → Reduced
second_of (binary binary_form.Pair a b) = gives b
second_of _ = wrong

abbrev pub text_of_number : Expression → Reduced
text_of_number (leaf (leaf_form.Int n)) = makes_text (signed_decimal n)
text_of_number _ = wrong

-- a division by zero gives unit on the left, else the quotient on the right
abbrev pub divided : Expression → Reduced
divided (binary binary_form.Pair (leaf (leaf_form.Int m)) (leaf (leaf_form.Int n))) =
    if int_eq n (pos 0) then gives (unary (unary_form.Inl (unit_or type.int)) unit_value)
    else gives (unary (unary_form.Inr (unit_or type.int)) (leaf (leaf_form.Int (quotient m n))))
divided _ = wrong

abbrev pub operated : Op → Expression → Expression → Reduced
operated op.Add (leaf (leaf_form.Int m)) (leaf (leaf_form.Int n)) = gives (leaf (leaf_form.Int (wrapped (m +ℤ n))))
operated op.Sub (leaf (leaf_form.Int m)) (leaf (leaf_form.Int n)) = gives (leaf (leaf_form.Int (wrapped (m -ℤ n))))
operated op.Mul (leaf (leaf_form.Int m)) (leaf (leaf_form.Int n)) = gives (leaf (leaf_form.Int (wrapped (m *ℤ n))))
operated op.EqInt (leaf (leaf_form.Int m)) (leaf (leaf_form.Int n)) = gives (leaf (leaf_form.Bool (int_eq m n)))
operated op.Less (leaf (leaf_form.Int m)) (leaf (leaf_form.Int n)) = gives (leaf (leaf_form.Bool (int_lt m n)))
operated op.Cat (leaf (leaf_form.Str s)) (leaf (leaf_form.Str t)) = makes_text (s ++ t)
operated op.EqStr (leaf (leaf_form.Str s)) (leaf (leaf_form.Str t)) = gives (leaf (leaf_form.Bool (bytes_eq s t)))
operated o _ _ = wrong

-- a deed on a cell of the site's world; a cell of another world is out of reach
abbrev pub at_cell : World → (ℕ → Reduced) → Expression → Reduced
at_cell w f (leaf (leaf_form.CellAt v n)) = if same_world v w then f n else wrong
at_cell w f _ = wrong

-- a get to the world where the thread is goes on there, else the thread leaves
abbrev pub got : World → Expression → Expression → Reduced
got w (leaf (leaf_form.Addr v)) b = if same_world v w then goes_on b else leaves v b
got w _ b = wrong

abbrev pub unheld : ℕ → Expression → Expression → Reduced
unheld x (unary (unary_form.Held w) v) b = goes_on (substituted x v b)
unheld x _ b = wrong

abbrev pub unsham : ℕ → Expression → Expression → Reduced
unsham x (unary unary_form.Sham v) b = goes_on (substituted x v b)
unsham x _ b = wrong

abbrev pub reduced_unary : World → UnaryForm → Expression → Reduced
reduced_unary w unary_form.Fst v = first_of v
reduced_unary w unary_form.Snd v = second_of v
reduced_unary w unary_form.StrOf v = text_of_number v
reduced_unary w unary_form.Div v = divided v
reduced_unary w unary_form.NewCell v = makes_cell v
reduced_unary w unary_form.Load v = at_cell w loads v
reduced_unary w unary_form.Hold v = gives (unary (unary_form.Held w) v)
reduced_unary w f v = gives (unary f v)

abbrev pub reduced_binary : Program → World → BinaryForm → Expression → Expression → Reduced
reduced_binary P w binary_form.Call v b = called P v b
reduced_binary P w binary_form.Pair v b = gives (binary binary_form.Pair v b)
reduced_binary P w binary_form.Cons v b = gives (binary binary_form.Cons v b)
reduced_binary P w binary_form.Store v b = at_cell w (λ n. stores n b) v
reduced_binary P w (binary_form.Binary o) v b = operated o v b
reduced_binary P w binary_form.Do v b = goes_on b
reduced_binary P w binary_form.Get v b = got w v b
reduced_binary P w (binary_form.Val x) v b = goes_on (substituted x v b)
reduced_binary P w (binary_form.Put x) v b = goes_on (substituted x v b)
reduced_binary P w (binary_form.Leta x) v b = unheld x v b
reduced_binary P w (binary_form.Lets x) v b = unsham x v b

abbrev pub chosen : Expression → Expression → Expression → Reduced
chosen (leaf (leaf_form.Bool true)) b c = goes_on b
chosen (leaf (leaf_form.Bool false)) b c = goes_on c
chosen _ b c = wrong

abbrev pub case_of_sum : ℕ → ℕ → Expression → Expression → Expression → Reduced
case_of_sum x y (unary (unary_form.Inl a) v) b c = goes_on (substituted x v b)
case_of_sum x y (unary (unary_form.Inr a) v) b c = goes_on (substituted y v c)
case_of_sum x y _ b c = wrong

-- the tail is the inner binder of a cons arm
abbrev pub case_of_list : ℕ → ℕ → Expression → Expression → Expression → Reduced
case_of_list x y (leaf (leaf_form.Nil a)) b c = goes_on b
case_of_list x y (binary binary_form.Cons h t) b c = goes_on (substituted x h (substituted y t c))
case_of_list x y _ b c = wrong

abbrev pub reduced_ternary : TernaryForm → Expression → Expression → Expression → Reduced
reduced_ternary ternary_form.If v b c = chosen v b c
reduced_ternary (ternary_form.CaseSum x y) v b c = case_of_sum x y v b c
reduced_ternary (ternary_form.CaseList x y) v b c = case_of_list x y v b c

-- at a site's world
abbrev pub reduced : Program → World → Expression → Reduced
reduced P w (leaf f) = wrong
reduced P w (unary f v) = reduced_unary w f v
reduced P w (binary f v b) = reduced_binary P w f v b
reduced P w (ternary f v b c) = reduced_ternary f v b c
