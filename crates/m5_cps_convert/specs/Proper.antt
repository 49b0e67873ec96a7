-- What terms of a text owe beside their types, and where a thread looks at them.
use Rattle.std.specs.Prelude.{◌≡◌, ◌⊎◌}
use Rattle.m5_terms.specs.Worlds.{IsSiteWorld}
use Rattle.m5_terms.specs.Expression.{Expression, leaf, unary, binary, ternary}
use Rattle.m5_terms.specs.declared.types.World.{World}
use Rattle.m5_terms.specs.declared.form.LeafForm.{LeafForm}
use Rattle.m5_terms.specs.declared.form.LeafForm.TheVariants as leaf_form
use Rattle.m5_terms.specs.declared.form.UnaryForm.{UnaryForm}
use Rattle.m5_terms.specs.declared.form.UnaryForm.TheVariants as unary_form
use Rattle.m5_typing.specs.Value.{IsValueForm}

-- an address is a site's, and a text has no cell
abbrev pub ProperLeaf : LeafForm → Type 0
ProperLeaf (leaf_form.Addr v) = IsSiteWorld v
ProperLeaf (leaf_form.CellAt v n) = ⊥
ProperLeaf f = Unit {0}

-- a sham's part is a value form, and a text has nothing held
abbrev pub ProperForm : UnaryForm → Expression → Type 0
ProperForm unary_form.Sham a = IsValueForm a
ProperForm (unary_form.Held w) a = ⊥
ProperForm f a = Unit {0}

abbrev pub Proper : Expression → Type 0
Proper (leaf f) = ProperLeaf f
Proper (unary f a) = ProperForm f a × Proper a
Proper (binary f a b) = Proper a × Proper b
Proper (ternary f a b c) = Proper a × Proper b × Proper c

-- a thread evaluates a node at its site's world; a value form, which is in a sham, may stand at any
abbrev pub StandsAt : World → World → Expression → Type 0
StandsAt u w e = (w ≡ u) ⊎ IsValueForm e
