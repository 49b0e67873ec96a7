-- The checks on the types of parts, each with the type that comes of it.
use Rattle.std.specs.Prelude.{Bool, if◌then◌else◌}
use Rattle.m5_lex.specs.declared.place.Place.{Place}
use Rattle.m5_terms.specs.TypeExpression as types
use Rattle.m5_terms.specs.TypeExpression.{TypeExpression, unit, product, sum, function, list, cell, sham, mobile, same_type}
use Rattle.m5_terms.specs.declared.types.World.{World}
use Rattle.m5_elaborate.specs.declared.end.Kind.TheVariants.{NotMobile, Mismatch, NotFunction, NotPair, NotSum, NotList, NotCell, NotGeneric}
use Rattle.m5_terms.specs.Outcome.{found}
use Rattle.m5_elaborate.specs.Outcome.{Outcome, refused}
use Rattle.m5_elaborate.specs.Leaves.{is_any}

-- C, where a check on types holds
abbrev pub if_same : Bool → Place → TypeExpression → Outcome TypeExpression
if_same same p C = if same then found C else refused Mismatch p

-- what the first part of a pair is
abbrev pub first_of : Place → TypeExpression → Outcome TypeExpression
first_of p (product A B) = found A
first_of p _ = refused NotPair p

-- what the second part of a pair is
abbrev pub second_of : Place → TypeExpression → Outcome TypeExpression
second_of p (product A B) = found B
second_of p _ = refused NotPair p

-- what a cell holds
abbrev pub content_of : Place → TypeExpression → Outcome TypeExpression
content_of p (cell A) = found A
content_of p _ = refused NotCell p

-- the result, where the argument has the type that the function takes
abbrev pub applied : Place → TypeExpression → TypeExpression → Outcome TypeExpression
applied p (function A C) B = if_same (same_type A B) p C
applied p _ B = refused NotFunction p

-- the list's type, where the new element has that of its elements
abbrev pub added : Place → TypeExpression → TypeExpression → Outcome TypeExpression
added p A (list B) = if_same (same_type A B) p (list B)
added p A _ = refused NotList p

-- unit, where the value has the type of the cell's content
abbrev pub stored : Place → TypeExpression → TypeExpression → Outcome TypeExpression
stored p (cell A) B = if_same (same_type A B) p unit
stored p _ B = refused NotCell p

-- the written sum, where the part has the type of its first, or of its second
abbrev pub injected_left : Place → TypeExpression → TypeExpression → Outcome TypeExpression
injected_left p (sum A B) C = if_same (same_type C A) p (sum A B)
injected_left p _ C = refused NotSum p

abbrev pub injected_right : Place → TypeExpression → TypeExpression → Outcome TypeExpression
injected_right p (sum A B) C = if_same (same_type C B) p (sum A B)
injected_right p _ C = refused NotSum p

-- what is held needs a world to be held at
abbrev pub hold_type : Place → World → TypeExpression → Outcome TypeExpression
hold_type p w B = if is_any w then refused NotGeneric p else found (types.at B w)

-- only a value form is sham
abbrev pub sham_type : Place → Bool → TypeExpression → Outcome TypeExpression
sham_type p v B = if v then found (sham B) else refused NotGeneric p

-- what comes from another world is mobile
abbrev pub moved_type : Place → TypeExpression → Outcome TypeExpression
moved_type p B = if mobile B then found B else refused NotMobile p
