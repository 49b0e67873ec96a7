-- The numbers of the binders of a resolved program, in the order of the text: each number from 0 on, once.
use Rattle.std.specs.Prelude.{◌≡◌, ℕ, zero, suc, ◌+◌, List, [], ◌∷◌, ◌++◌}
use Rattle.m5_terms.specs.declared.form.UnaryForm.{UnaryForm}
use Rattle.m5_terms.specs.declared.form.UnaryForm.TheVariants as unary_form
use Rattle.m5_terms.specs.declared.form.BinaryForm.{BinaryForm}
use Rattle.m5_terms.specs.declared.form.BinaryForm.TheVariants as binary_form
use Rattle.m5_terms.specs.declared.form.TernaryForm.{TernaryForm}
use Rattle.m5_terms.specs.declared.form.TernaryForm.TheVariants as ternary_form
use Rattle.m5_tree.specs.declared.tree.Program as trees
use Rattle.m5_raw.specs.Resolved.{Resolved, leaf, unary, binary, ternary}
use Rattle.m5_raw.specs.RawTerm.{RawTerm}
use Rattle.m5_raw.specs.declared.function.Function.{Function}
use Rattle.m5_terms.specs.Outcome.{found}
use Rattle.m5_scope.specs.Resolving.{binders}
use Rattle.m5_scope.specs.Program.{list_binders, tree_resolved}

abbrev pub unary_numbers : UnaryForm → List ℕ
unary_numbers (unary_form.Fn x t) = x ∷ []
unary_numbers (unary_form.Rec f x t u) = f ∷ x ∷ []
unary_numbers _ = []

abbrev pub binary_numbers : BinaryForm → List ℕ
binary_numbers (binary_form.Val x) = x ∷ []
binary_numbers (binary_form.Put x) = x ∷ []
binary_numbers (binary_form.Leta x) = x ∷ []
binary_numbers (binary_form.Lets x) = x ∷ []
binary_numbers _ = []

-- those of the second part, and those of the third
abbrev pub second_numbers : TernaryForm → List ℕ
second_numbers (ternary_form.CaseSum x y) = x ∷ []
second_numbers _ = []

abbrev pub third_numbers : TernaryForm → List ℕ
third_numbers ternary_form.If = []
third_numbers (ternary_form.CaseSum x y) = y ∷ []
third_numbers (ternary_form.CaseList x y) = x ∷ y ∷ []

abbrev pub numbers : Resolved → List ℕ
numbers (leaf at f) = []
numbers (unary at f a) = unary_numbers f ++ numbers a
numbers (binary at f a b) = binary_numbers f ++ (numbers a ++ numbers b)
numbers (ternary at f a b c) = numbers a ++ (second_numbers f ++ (numbers b ++ (third_numbers f ++ numbers c)))

abbrev pub function_numbers : List Function → List ℕ
function_numbers [] = []
function_numbers (g ∷ gs) = (g.parameter ∷ numbers g.body) ++ function_numbers gs

abbrev pub raw_numbers : RawTerm → List ℕ
raw_numbers r = function_numbers r.functions ++ numbers r.main

-- so many numbers from the first on
abbrev pub count_from : ℕ → ℕ → List ℕ
count_from first zero = []
count_from first (suc k) = first ∷ count_from (first + 1) k

-- each binder of a resolved program has a number of its own
abbrev pub BindersDiffer : Type 0
BindersDiffer =
    (names : List (List ℕ)) (p : trees.Program) (r : RawTerm) → tree_resolved names p ≡ found r
    → raw_numbers r ≡ count_from 0 (list_binders p.declarations.functions + binders p.body)
