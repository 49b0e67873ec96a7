-- The forms of resolved terms: each binder has the next number in the order of the text.
use Rattle.std.specs.Prelude.{ℕ, ◌+◌}
use Rattle.m5_tree.specs.declared.form.UnaryForm as tree_unary
use Rattle.m5_tree.specs.declared.form.UnaryForm.TheVariants as unary_tree
use Rattle.m5_tree.specs.declared.form.BinaryForm as tree_binary
use Rattle.m5_tree.specs.declared.form.BinaryForm.TheVariants as binary_tree
use Rattle.m5_tree.specs.declared.form.TernaryForm as tree_ternary
use Rattle.m5_tree.specs.declared.form.TernaryForm.TheVariants as ternary_tree
use Rattle.m5_terms.specs.declared.form.UnaryForm.{UnaryForm}
use Rattle.m5_terms.specs.declared.form.UnaryForm.TheVariants as unary_form
use Rattle.m5_terms.specs.declared.form.BinaryForm.{BinaryForm}
use Rattle.m5_terms.specs.declared.form.BinaryForm.TheVariants as binary_form
use Rattle.m5_terms.specs.declared.form.TernaryForm.{TernaryForm}
use Rattle.m5_terms.specs.declared.form.TernaryForm.TheVariants as ternary_form
use Rattle.m5_scope.specs.Written.{type_of}
use Rattle.m5_terms.specs.declared.table.Binding.{Binding}
use Rattle.m5_terms.specs.declared.table.Binding.TheVariants as binds
use Rattle.m5_scope.specs.declared.meaning.Meaning.{Meaning}
use Rattle.m5_scope.specs.declared.meaning.Meaning.TheVariants as means

abbrev pub unary_resolved : ℕ → tree_unary.UnaryForm → UnaryForm
unary_resolved n (unary_tree.Fn x t) = unary_form.Fn n (type_of t)
unary_resolved n (unary_tree.Rec f x t u) = unary_form.Rec n (n + 1) (type_of t) (type_of u)
unary_resolved n unary_tree.Fst = unary_form.Fst
unary_resolved n unary_tree.Snd = unary_form.Snd
unary_resolved n unary_tree.Load = unary_form.Load
unary_resolved n unary_tree.NewCell = unary_form.NewCell
unary_resolved n unary_tree.Hold = unary_form.Hold
unary_resolved n unary_tree.Sham = unary_form.Sham
unary_resolved n unary_tree.StrOf = unary_form.StrOf
unary_resolved n unary_tree.Div = unary_form.Div
unary_resolved n (unary_tree.Inl t) = unary_form.Inl (type_of t)
unary_resolved n (unary_tree.Inr t) = unary_form.Inr (type_of t)
unary_resolved n unary_tree.Spawn = unary_form.Spawn

-- of two equal names of a form the later one counts, so that it is the innermost
abbrev pub unary_binding : ℕ → tree_unary.UnaryForm → Binding Meaning
unary_binding n (unary_tree.Fn x t) = binds.One x (means.Var n)
unary_binding n (unary_tree.Rec f x t u) = binds.Two x (means.Var (n + 1)) f (means.Var n)
unary_binding n _ = binds.Nothing

abbrev pub unary_count : tree_unary.UnaryForm → ℕ
unary_count (unary_tree.Fn x t) = 1
unary_count (unary_tree.Rec f x t u) = 2
unary_count _ = 0

abbrev pub binary_resolved : ℕ → tree_binary.BinaryForm → BinaryForm
binary_resolved n binary_tree.Call = binary_form.Call
binary_resolved n binary_tree.Pair = binary_form.Pair
binary_resolved n binary_tree.Cons = binary_form.Cons
binary_resolved n binary_tree.Store = binary_form.Store
binary_resolved n (binary_tree.Binary op) = binary_form.Binary op
binary_resolved n binary_tree.Get = binary_form.Get
binary_resolved n binary_tree.Do = binary_form.Do
binary_resolved n (binary_tree.Val x) = binary_form.Val n
binary_resolved n (binary_tree.Put x) = binary_form.Put n
binary_resolved n (binary_tree.Leta x) = binary_form.Leta n
binary_resolved n (binary_tree.Lets x) = binary_form.Lets n

-- what a declaration of a `let` binds in the rest of it, and not in its own first part
abbrev pub binary_binding : ℕ → tree_binary.BinaryForm → Binding Meaning
binary_binding n (binary_tree.Val x) = binds.One x (means.Var n)
binary_binding n (binary_tree.Put x) = binds.One x (means.Valid n)
binary_binding n (binary_tree.Leta x) = binds.One x (means.Var n)
binary_binding n (binary_tree.Lets x) = binds.One x (means.Valid n)
binary_binding n _ = binds.Nothing

abbrev pub binary_count : tree_binary.BinaryForm → ℕ
binary_count (binary_tree.Val x) = 1
binary_count (binary_tree.Put x) = 1
binary_count (binary_tree.Leta x) = 1
binary_count (binary_tree.Lets x) = 1
binary_count _ = 0

-- the numbers before the second part and before the third
abbrev pub ternary_resolved : ℕ → ℕ → tree_ternary.TernaryForm → TernaryForm
ternary_resolved m k ternary_tree.If = ternary_form.If
ternary_resolved m k (ternary_tree.CaseSum x y) = ternary_form.CaseSum m k
ternary_resolved m k (ternary_tree.CaseList x y) = ternary_form.CaseList k (k + 1)

abbrev pub second_binding : ℕ → tree_ternary.TernaryForm → Binding Meaning
second_binding m (ternary_tree.CaseSum x y) = binds.One x (means.Var m)
second_binding m _ = binds.Nothing

abbrev pub third_binding : ℕ → tree_ternary.TernaryForm → Binding Meaning
third_binding k ternary_tree.If = binds.Nothing
third_binding k (ternary_tree.CaseSum x y) = binds.One y (means.Var k)
third_binding k (ternary_tree.CaseList x y) = binds.Two y (means.Var (k + 1)) x (means.Var k)

abbrev pub second_count : tree_ternary.TernaryForm → ℕ
second_count (ternary_tree.CaseSum x y) = 1
second_count _ = 0

abbrev pub third_count : tree_ternary.TernaryForm → ℕ
third_count ternary_tree.If = 0
third_count (ternary_tree.CaseSum x y) = 1
third_count (ternary_tree.CaseList x y) = 2
