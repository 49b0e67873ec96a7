-- Tables of what numbers mean, what is bound inside a form, and what it hid put back.
use Rattle.std.specs.Prelude.{ℕ, ◌==◌, if◌then◌else◌, Option, Some, None, List, slice_index_or}
use Rattle.m5_terms.specs.declared.table.Binding.{Binding}
use Rattle.m5_terms.specs.declared.table.Binding.TheVariants.{Nothing, One, Two}
use Rattle.m5_terms.specs.declared.table.Hidden.{Hidden}
use Rattle.m5_terms.specs.declared.table.Hidden.TheVariants as hidden

-- what a table says of each number; past its end there is no entry
abbrev pub entries : {T : Type 0} → List (Option T) → ℕ → Option T
entries table = λ y. slice_index_or table y None

-- another entry for one number
abbrev pub put : {T : Type 0} → ℕ → Option T → (ℕ → Option T) → ℕ → Option T
put x e s = λ y. if y == x then e else s y

-- inside a form its numbers have these entries, the first of them innermost
abbrev pub entered : {T : Type 0} → Binding T → (ℕ → Option T) → ℕ → Option T
entered Nothing s = s
entered (One x a) s = put x (Some a) s
entered (Two x a y b) s = put x (Some a) (put y (Some b) s)

-- the entries that the binders hid are put back
abbrev pub restored : {T : Type 0} → Hidden T → (ℕ → Option T) → ℕ → Option T
restored hidden.Nothing s = s
restored (hidden.One x e) s = put x e s
restored (hidden.Two x e y d) s = put y d (put x e s)
