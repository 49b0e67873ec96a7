-- Nodes without evaluated parts.
use Rattle.std.specs.Prelude.{ℕ, length}
use Rattle.m5_terms.specs.Expression.{Expression, leaf, unary}
use Rattle.m5_terms.specs.declared.types.World.{World}
use Rattle.m5_terms.specs.declared.form.LeafForm.TheVariants as leaf_form
use Rattle.m5_terms.specs.declared.form.UnaryForm.TheVariants as unary_form

abbrev pub IsSpawn : Expression → Type 0
IsSpawn (unary unary_form.Spawn a) = Unit {0}
IsSpawn _ = ⊥

-- here becomes its address, and anything else is a value
abbrev pub atom_value : World → Expression → Expression
atom_value w (leaf leaf_form.Here) = leaf (leaf_form.Addr w)
atom_value w e = e

-- a text that is evaluated is made
abbrev pub atom_made : Expression → ℕ
atom_made (leaf (leaf_form.Str t)) = length t
atom_made _ = 0
