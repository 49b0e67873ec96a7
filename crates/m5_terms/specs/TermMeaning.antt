-- The form and the parts of a term, over any parts, and what a term stands for.
use Rattle.m5_terms.specs.Expression.{Expression, leaf, unary, binary, ternary}
use Rattle.m5_terms.specs.declared.term.Term.{Term}
use Rattle.m5_terms.specs.declared.term.Term.TheVariants as term
use Rattle.m5_terms.specs.declared.taken.Taken.{Taken}
use Rattle.m5_terms.specs.declared.taken.Taken.TheVariants as of_taken
use Rattle.m5_terms.specs.declared.form.LeafForm.TheVariants as leaf_form
use Rattle.m5_terms.specs.declared.form.UnaryForm.TheVariants as unary_form
use Rattle.m5_terms.specs.declared.form.BinaryForm.TheVariants as binary_form
use Rattle.m5_terms.specs.declared.form.TernaryForm.TheVariants as ternary_form

-- the form of a term and its parts, a line a form
abbrev pub parts : {P : Type 0} → Term P → Taken P
parts (term.Var x) = of_taken.Leaf (leaf_form.Var x)
parts (term.Valid x) = of_taken.Leaf (leaf_form.Valid x)
parts (term.Glob x) = of_taken.Leaf (leaf_form.Glob x)
parts (term.Extern p) = of_taken.Leaf (leaf_form.Extern p)
parts term.Unit = of_taken.Leaf leaf_form.Unit
parts (term.Bool b) = of_taken.Leaf (leaf_form.Bool b)
parts (term.Int n) = of_taken.Leaf (leaf_form.Int n)
parts (term.Str s) = of_taken.Leaf (leaf_form.Str s)
parts (term.Addr w) = of_taken.Leaf (leaf_form.Addr w)
parts term.Here = of_taken.Leaf leaf_form.Here
parts (term.Fn x ty a) = of_taken.Unary (unary_form.Fn x ty) a
parts (term.Rec f x ty result a) = of_taken.Unary (unary_form.Rec f x ty result) a
parts (term.Fst a) = of_taken.Unary unary_form.Fst a
parts (term.Snd a) = of_taken.Unary unary_form.Snd a
parts (term.StrOf a) = of_taken.Unary unary_form.StrOf a
parts (term.Div a) = of_taken.Unary unary_form.Div a
parts (term.NewCell a) = of_taken.Unary unary_form.NewCell a
parts (term.Load a) = of_taken.Unary unary_form.Load a
parts (term.Hold a) = of_taken.Unary unary_form.Hold a
parts (term.Sham a) = of_taken.Unary unary_form.Sham a
parts (term.Spawn a) = of_taken.Unary unary_form.Spawn a
parts (term.Call a b) = of_taken.Binary binary_form.Call a b
parts (term.Pair a b) = of_taken.Binary binary_form.Pair a b
parts (term.Cons a b) = of_taken.Binary binary_form.Cons a b
parts (term.Store a b) = of_taken.Binary binary_form.Store a b
parts (term.Do a b) = of_taken.Binary binary_form.Do a b
parts (term.Get a b) = of_taken.Binary binary_form.Get a b
parts (term.Binary op a b) = of_taken.Binary (binary_form.Binary op) a b
parts (term.Inl ty a) = of_taken.Unary (unary_form.Inl ty) a
parts (term.Inr ty a) = of_taken.Unary (unary_form.Inr ty) a
parts (term.Nil ty) = of_taken.Leaf (leaf_form.Nil ty)
parts (term.If a b c) = of_taken.Ternary ternary_form.If a b c
parts (term.CaseSum a x b y c) = of_taken.Ternary (ternary_form.CaseSum x y) a b c
parts (term.CaseList a b x y c) = of_taken.Ternary (ternary_form.CaseList x y) a b c
parts (term.Val x a b) = of_taken.Binary (binary_form.Val x) a b
parts (term.Put x a b) = of_taken.Binary (binary_form.Put x) a b
parts (term.Leta x a b) = of_taken.Binary (binary_form.Leta x) a b
parts (term.Lets x a b) = of_taken.Binary (binary_form.Lets x) a b
parts (term.Held w a) = of_taken.Unary (unary_form.Held w) a
parts (term.CellAt w n) = of_taken.Leaf (leaf_form.CellAt w n)

-- the expression of a form and its parts
abbrev pub expression_of : Taken Expression → Expression
expression_of (of_taken.Leaf f) = leaf f
expression_of (of_taken.Unary f a) = unary f a
expression_of (of_taken.Binary f a b) = binary f a b
expression_of (of_taken.Ternary f a b c) = ternary f a b c

-- what a term stands for
abbrev pub term_meaning : Term Expression → Expression
term_meaning t = expression_of (parts t)
