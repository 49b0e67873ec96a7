-- Values, and the forms that `sham` takes.
use Rattle.std.specs.Prelude.{Bool, true, false, ◌&&◌, IsTrue}
use Rattle.m5_terms.specs.Expression.{Expression, leaf, unary, binary, ternary}
use Rattle.m5_terms.specs.declared.form.LeafForm.{LeafForm}
use Rattle.m5_terms.specs.declared.form.LeafForm.TheVariants as leaf_form
use Rattle.m5_terms.specs.declared.form.UnaryForm.{UnaryForm}
use Rattle.m5_terms.specs.declared.form.UnaryForm.TheVariants as unary_form
use Rattle.m5_terms.specs.declared.form.BinaryForm.{BinaryForm}
use Rattle.m5_terms.specs.declared.form.BinaryForm.TheVariants as binary_form

-- no variable is a value, and `here` is not one before it is evaluated
abbrev pub leaf_is_value : LeafForm → Bool
leaf_is_value (leaf_form.Var x) = false
leaf_is_value (leaf_form.Valid x) = false
leaf_is_value leaf_form.Here = false
leaf_is_value _ = true

-- a function is one whatever its body is
abbrev pub unary_is_value : UnaryForm → Bool → Bool
unary_is_value (unary_form.Fn x A) part = true
unary_is_value (unary_form.Rec f x A B) part = true
unary_is_value (unary_form.Inl T) part = part
unary_is_value (unary_form.Inr T) part = part
unary_is_value (unary_form.Held w) part = part
unary_is_value unary_form.Sham part = part
unary_is_value _ part = false

abbrev pub binary_is_value : BinaryForm → Bool → Bool → Bool
binary_is_value binary_form.Pair first second = first && second
binary_is_value binary_form.Cons first second = first && second
binary_is_value _ first second = false

abbrev pub is_value : Expression → Bool
is_value (leaf f) = leaf_is_value f
is_value (unary f a) = unary_is_value f (is_value a)
is_value (binary f a b) = binary_is_value f (is_value a) (is_value b)
is_value (ternary f a b c) = false

-- a value form may have variables where a value has values
abbrev pub leaf_is_value_form : LeafForm → Bool
leaf_is_value_form leaf_form.Here = false
leaf_is_value_form _ = true

abbrev pub is_value_form : Expression → Bool
is_value_form (leaf f) = leaf_is_value_form f
is_value_form (unary f a) = unary_is_value f (is_value_form a)
is_value_form (binary f a b) = binary_is_value f (is_value_form a) (is_value_form b)
is_value_form (ternary f a b c) = false

abbrev pub IsValue : Expression → Type 0
IsValue e = IsTrue (is_value e)

abbrev pub IsValueForm : Expression → Type 0
IsValueForm e = IsTrue (is_value_form e)
