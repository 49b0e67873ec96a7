-- What a check finds, or the first fault of types.
use Rattle.std.specs.Prelude.{Result}
use Rattle.m5_lex.specs.declared.place.Place.{Place}
use Rattle.m5_terms.specs.Outcome as outcome
use Rattle.m5_terms.specs.Outcome.{fault}
use Rattle.m5_elaborate.specs.declared.end.Kind.{Kind}
use Rattle.m5_elaborate.specs.declared.end.TypeEnd.{TypeEnd}
use Rattle.m5_elaborate.specs.declared.end.TypeEnd.TheVariants.{Memory, Refused}

-- something found, or the first fault
abbrev pub Outcome : Type 0 → Type 0
Outcome A = outcome.Outcome A TypeEnd

-- a check of this kind failed at the node of this place
abbrev pub refused : {A : Type 0} → Kind → Place → Outcome A
refused k p = fault (Refused k p)

-- wanting memory may end anything, and else the first fault does
abbrev pub IsFault : {A : Type 0} → Outcome A → TypeEnd → Type 0
IsFault o e = outcome.IsFault Memory o e

-- a call that ends so by its definition: with what is found, or with the first fault
abbrev pub Ends : {A : Type 0} → Result A TypeEnd → Outcome A → Type 0
Ends r o = outcome.Ends Memory r o
