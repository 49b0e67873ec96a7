-- The term of a node that was opened, and the bound of its parts.
use Rattle.std.specs.Prelude.{ℕ, ◌<◌}
use Rattle.m5_terms.specs.declared.taken.Taken.{Taken}
use Rattle.m5_terms.specs.declared.taken.Taken.TheVariants as of_taken
use Rattle.m5_terms.specs.declared.form.LeafForm.{LeafForm}
use Rattle.m5_terms.specs.declared.form.LeafForm.TheVariants as leaf_form
use Rattle.m5_terms.specs.declared.form.UnaryForm.{UnaryForm}
use Rattle.m5_terms.specs.declared.form.UnaryForm.TheVariants as unary_form
use Rattle.m5_terms.specs.declared.opened.LeafView.{LeafView}
use Rattle.m5_terms.specs.declared.opened.LeafView.TheVariants as leaf_view
use Rattle.m5_terms.specs.declared.opened.UnaryView.{UnaryView}
use Rattle.m5_terms.specs.declared.opened.UnaryView.TheVariants as unary_view
use Rattle.m5_terms.specs.declared.opened.Opened.{Opened}
use Rattle.m5_terms.specs.declared.opened.Opened.TheVariants as of_opened

-- the form that is looked at
abbrev pub viewed_leaf : LeafView → LeafForm
viewed_leaf (leaf_view.Var x) = leaf_form.Var x
viewed_leaf (leaf_view.Valid x) = leaf_form.Valid x
viewed_leaf (leaf_view.Glob x) = leaf_form.Glob x
viewed_leaf (leaf_view.Extern p) = leaf_form.Extern p
viewed_leaf leaf_view.Unit = leaf_form.Unit
viewed_leaf (leaf_view.Bool b) = leaf_form.Bool b
viewed_leaf (leaf_view.Int n) = leaf_form.Int n
viewed_leaf (leaf_view.Str s) = leaf_form.Str s.now
viewed_leaf (leaf_view.Addr w) = leaf_form.Addr w
viewed_leaf leaf_view.Here = leaf_form.Here
viewed_leaf (leaf_view.Nil a) = leaf_form.Nil a.now
viewed_leaf (leaf_view.CellAt w n) = leaf_form.CellAt w n

abbrev pub viewed_unary : UnaryView → UnaryForm
viewed_unary (unary_view.Fn x a) = unary_form.Fn x a.now
viewed_unary (unary_view.Rec f x a b) = unary_form.Rec f x a.now b.now
viewed_unary unary_view.Fst = unary_form.Fst
viewed_unary unary_view.Snd = unary_form.Snd
viewed_unary unary_view.StrOf = unary_form.StrOf
viewed_unary unary_view.Div = unary_form.Div
viewed_unary unary_view.NewCell = unary_form.NewCell
viewed_unary unary_view.Load = unary_form.Load
viewed_unary unary_view.Hold = unary_form.Hold
viewed_unary unary_view.Sham = unary_form.Sham
viewed_unary unary_view.Spawn = unary_form.Spawn
viewed_unary (unary_view.Inl a) = unary_form.Inl a.now
viewed_unary (unary_view.Inr a) = unary_form.Inr a.now
viewed_unary (unary_view.Held w) = unary_form.Held w

-- the same with its parts in hand
abbrev pub opened : {P : Type 0} → Opened P → Taken P
opened (of_opened.Leaf f) = of_taken.Leaf (viewed_leaf f)
opened (of_opened.Unary f a) = of_taken.Unary (viewed_unary f) a.now
opened (of_opened.Binary f a b) = of_taken.Binary f a.now b.now
opened (of_opened.Ternary f a b c) = of_taken.Ternary f a.now b.now c.now

-- each part is smaller, by a count
abbrev pub PartsAreSmaller : {P : Type 0} → (P → ℕ) → ℕ → Opened P → Type 0
PartsAreSmaller count n (of_opened.Leaf f) = Unit {0}
PartsAreSmaller count n (of_opened.Unary f a) = count a.now < n
PartsAreSmaller count n (of_opened.Binary f a b) = (count a.now < n) × (count b.now < n)
PartsAreSmaller count n (of_opened.Ternary f a b c) = (count a.now < n) × (count b.now < n) × (count c.now < n)
