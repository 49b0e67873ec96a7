-- What the names of a program mean at a point of its text.
use Rattle.std.specs.Prelude.{ℕ, Option, Some, None, List}
use Rattle.m5_terms.specs.Table as table
use Rattle.m5_terms.specs.declared.table.Binding.{Binding}
use Rattle.m5_terms.specs.declared.form.LeafForm.{LeafForm}
use Rattle.m5_terms.specs.declared.form.LeafForm.TheVariants as leaf_form
use Rattle.m5_scope.specs.declared.meaning.Meaning.{Meaning}
use Rattle.m5_scope.specs.declared.meaning.Meaning.TheVariants as means

-- what each name means there, if it is bound
abbrev pub Scope : Type 0
Scope = ℕ → Option Meaning

abbrev pub nothing_known : Scope
nothing_known = λ y. None

-- inside a binder its name means this, whatever it means outside
abbrev pub hides : Scope → ℕ → Meaning → Scope
hides s x m = table.put x (Some m) s

-- inside a form its names mean these, the first of them innermost
abbrev pub entered : Scope → Binding Meaning → Scope
entered s b = table.entered b s

-- a use of a name with this meaning
abbrev pub use_of : Meaning → LeafForm
use_of (means.Var n) = leaf_form.Var n
use_of (means.Valid n) = leaf_form.Valid n
use_of (means.Glob n) = leaf_form.Glob n
use_of (means.Extern p) = leaf_form.Extern p

-- the scope of a table with an entry for each name
abbrev pub known : List (Option Meaning) → Scope
known entries = table.entries entries
