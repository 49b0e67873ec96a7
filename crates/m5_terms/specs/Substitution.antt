-- A closed value in the place of a variable.
use Rattle.std.specs.Prelude.{ℕ, Bool, false, ◌==◌, ◌||◌, if◌then◌else◌, List, [], ◌∷◌}
use Rattle.m5_terms.specs.Expression.{Expression, leaf, unary, binary, ternary}
use Rattle.m5_terms.specs.declared.form.LeafForm.{LeafForm}
use Rattle.m5_terms.specs.declared.form.LeafForm.TheVariants as leaf_form
use Rattle.m5_terms.specs.declared.form.UnaryForm.{UnaryForm}
use Rattle.m5_terms.specs.declared.form.UnaryForm.TheVariants as unary_form
use Rattle.m5_terms.specs.declared.form.BinaryForm.{BinaryForm}
use Rattle.m5_terms.specs.declared.form.BinaryForm.TheVariants as binary_form
use Rattle.m5_terms.specs.declared.form.TernaryForm.{TernaryForm}
use Rattle.m5_terms.specs.declared.form.TernaryForm.TheVariants as ternary_form

-- the numbers that a form binds in its one part
abbrev pub unary_binders : UnaryForm → List ℕ
unary_binders (unary_form.Fn x ty) = x ∷ []
unary_binders (unary_form.Rec f x ty result) = x ∷ f ∷ []
unary_binders _ = []

-- the numbers that a form binds in its second part
abbrev pub binary_binders : BinaryForm → List ℕ
binary_binders (binary_form.Val x) = x ∷ []
binary_binders (binary_form.Put x) = x ∷ []
binary_binders (binary_form.Leta x) = x ∷ []
binary_binders (binary_form.Lets x) = x ∷ []
binary_binders _ = []

-- the same in the second part of a choice
abbrev pub second_binders : TernaryForm → List ℕ
second_binders (ternary_form.CaseSum x z) = x ∷ []
second_binders _ = []

-- and in the third
abbrev pub third_binders : TernaryForm → List ℕ
third_binders (ternary_form.CaseSum x z) = z ∷ []
third_binders (ternary_form.CaseList x z) = z ∷ x ∷ []
third_binders ternary_form.If = []

-- whether the number is one of these
abbrev pub among : ℕ → List ℕ → Bool
among x [] = false
among x (y ∷ ys) = x == y || among x ys

-- a use of the variable is the value
abbrev pub substituted_leaf : ℕ → Expression → LeafForm → Expression
substituted_leaf x v (leaf_form.Var y) = if y == x then v else leaf (leaf_form.Var y)
substituted_leaf x v (leaf_form.Valid y) = if y == x then v else leaf (leaf_form.Valid y)
substituted_leaf x v other = leaf other

-- a part in which the variable is bound again stays as it was
abbrev pub unless : Bool → Expression → Expression → Expression
unless b a changed = if b then a else changed

-- the term with the value for the variable's free uses; the value is closed, so nothing is captured
abbrev pub substituted : ℕ → Expression → Expression → Expression
substituted x v (leaf f) = substituted_leaf x v f
substituted x v (unary f a) = unary f (unless (among x (unary_binders f)) a (substituted x v a))
substituted x v (binary f a b) = binary f (substituted x v a) (unless (among x (binary_binders f)) b (substituted x v b))
substituted x v (ternary f a b c) =
    ternary f (substituted x v a) (unless (among x (second_binders f)) b (substituted x v b)) (unless (among x (third_binders f)) c (substituted x v c))
