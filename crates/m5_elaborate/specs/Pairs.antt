-- Nested pairs, the outermost first, from what their last part gives.
use Rattle.std.specs.Prelude.{List, [], ◌∷◌}
use Rattle.m5_terms.specs.Expression.{Expression, binary}
use Rattle.m5_terms.specs.TypeExpression.{TypeExpression, product}
use Rattle.m5_terms.specs.declared.form.BinaryForm.TheVariants.{Pair}
use Rattle.m5_elaborate.specs.declared.pairs.Waiting.{Waiting}
use Rattle.m5_terms.specs.Outcome.{found, and_then}
use Rattle.m5_elaborate.specs.Outcome.{Outcome}
use Rattle.m5_elaborate.specs.Checked.{limited}

-- a pair's type, from what its second part gives
abbrev pub paired : Waiting → Outcome TypeExpression → Outcome TypeExpression
paired e o = limited e.place (and_then o (λ B. found (product e.ty B)))

-- the type of the outermost one
abbrev pub nested : List Waiting → Outcome TypeExpression → Outcome TypeExpression
nested [] o = o
nested (e ∷ es) o = paired e (nested es o)

-- the term of nested pairs, from its last part
abbrev pub nested_terms : List Expression → Expression → Expression
nested_terms [] last = last
nested_terms (x ∷ xs) last = binary Pair x (nested_terms xs last)
