-- The programs that declare no extern but `say`, and give that name no other meaning.
use Rattle.std.specs.Prelude.{ℕ, Bool, true, false, ◌&&◌, not, List, Option, Some, None, slice_get, codes}
use Rattle.std.specs.List.{list_all}
use Rattle.std.specs.Str.{bytes_eq}
use Rattle.m5_tree.specs.Syntax.{Syntax, binary}
use Rattle.m5_tree.specs.declared.form.BinaryForm.TheVariants.{Val, Do}
use Rattle.m5_tree.specs.declared.tree.Program.{Program}

abbrev pub is_say_name : Option (List ℕ) → Bool
is_say_name None = false
is_say_name (Some name) = bytes_eq name (codes "say")

-- no `val` of these declarations binds `say`
abbrev pub keeps_say : List (List ℕ) → Syntax → Bool
keeps_say names (binary at (Val x) a b) = not (is_say_name (slice_get names x)) && keeps_say names b
keeps_say names (binary at Do a b) = keeps_say names a && keeps_say names b
keeps_say names _ = true

-- no extern but `say`, and no `val` that binds `say`
abbrev pub first_form : List (List ℕ) → Program → Bool
first_form names p = list_all (λ x. is_say_name (slice_get names x.name)) p.declarations.externs && keeps_say names p.body
