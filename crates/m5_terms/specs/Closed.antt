-- Terms without free variables.
use Rattle.std.specs.Prelude.{ℕ, Bool, true, ◌&&◌, IsTrue, List, [], ◌++◌}
use Rattle.m5_terms.specs.Expression.{Expression, leaf, unary, binary, ternary}
use Rattle.m5_terms.specs.Substitution.{among, unary_binders, binary_binders, second_binders, third_binders}
use Rattle.m5_terms.specs.declared.form.LeafForm.{LeafForm}
use Rattle.m5_terms.specs.declared.form.LeafForm.TheVariants as leaf_form

abbrev pub closed_leaf : List ℕ → LeafForm → Bool
closed_leaf bound (leaf_form.Var x) = among x bound
closed_leaf bound (leaf_form.Valid x) = among x bound
closed_leaf bound _ = true

-- each variable, local or valid, is one of these or is bound around its use
abbrev pub closed_under : List ℕ → Expression → Bool
closed_under bound (leaf f) = closed_leaf bound f
closed_under bound (unary f a) = closed_under (unary_binders f ++ bound) a
closed_under bound (binary f a b) = closed_under bound a && closed_under (binary_binders f ++ bound) b
closed_under bound (ternary f a b c) =
    closed_under bound a && (closed_under (second_binders f ++ bound) b && closed_under (third_binders f ++ bound) c)

abbrev pub IsClosed : Expression → Type 0
IsClosed e = IsTrue (closed_under [] e)
