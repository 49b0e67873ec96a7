-- Pairs round a last part.
use Rattle.std.specs.Prelude.{List, [], ◌∷◌}
use Rattle.m5_terms.specs.declared.form.BinaryForm.TheVariants.{Pair}
use Rattle.m5_raw.specs.Resolved.{Resolved, binary}
use Rattle.m5_scope.specs.declared.tuple.Head.{Head}

-- pairs nest to the right, each at the place of its first part
abbrev pub paired : List Head → Resolved → Resolved
paired [] x = x
paired (h ∷ hs) x = binary h.place Pair h.node (paired hs x)
