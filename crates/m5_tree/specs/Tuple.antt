-- What the parts between brackets stand for.
use Rattle.std.specs.Prelude.{List, [], ◌∷◌}
use Rattle.m5_lex.specs.declared.place.Place.{Place}
use Rattle.m5_tree.specs.Syntax.{Syntax, leaf, binary}
use Rattle.m5_tree.specs.declared.form.LeafForm.TheVariants.{Unit as UnitForm}
use Rattle.m5_tree.specs.declared.form.BinaryForm.TheVariants.{Pair}
use Rattle.m5_tree.specs.declared.expr.Part.{Part}

-- pairs nest to the right, an inner one at its first part's place
abbrev pub pairs : Place → Syntax → List Part → Syntax
pairs at e [] = e
pairs at e (p ∷ ps) = binary at Pair e (pairs p.place p.expr ps)

-- no part is unit, one part is itself
abbrev pub tuple : Place → List Part → Syntax
tuple at [] = leaf at UnitForm
tuple at (p ∷ ps) = pairs at p.expr ps
