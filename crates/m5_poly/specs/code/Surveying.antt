-- How far a survey has come, and what its code's data stand for.
use Rattle.std.specs.Prelude.{◌≡◌, ◌≤◌, ℕ, true, List, [], ◌∷◌, ◌++◌, map, length}
use Rattle.std.specs.Option.{option_map}
use Rattle.m5_lex.specs.declared.tokens.Placed.{Placed}
use Rattle.m5_terms.specs.Outcome.{Outcome, found, and_then, IsFault}
use Rattle.m5_poly.specs.declared.end.PolyEnd.{PolyEnd}
use Rattle.m5_poly.specs.declared.end.PolyEnd.TheVariants.{Memory}
use Rattle.m5_poly.specs.declared.survey.Heading.{Heading as HeadingOf}
use Rattle.m5_poly.specs.declared.survey.Heading.TheVariants as heading_of
use Rattle.m5_poly.specs.declared.survey.Listed.{Listed as ListedOf}
use Rattle.m5_poly.specs.declared.survey.Survey.{Survey as SurveyOf}
use Rattle.m5_poly.specs.Roles.{begins}
use Rattle.m5_poly.specs.Survey.{Heading, Listed, Sections, plain, bad, nameless, generic, names_of, surveyed}
use Rattle.m5_poly.specs.code.Views.{generic_of}

abbrev pub listed_of : ListedOf → Listed
listed_of l = record { variables = l.variables; rest = l.rest.now }

abbrev pub heading_as : HeadingOf → Heading
heading_as heading_of.Plain = plain
heading_as (heading_of.Bad at) = bad at
heading_as heading_of.Nameless = nameless
heading_as (heading_of.Generic g) = generic (generic_of g)

abbrev pub survey_of : SurveyOf → Sections
survey_of s = record { sections = map (λ o. option_map (λ t. t.now) o) s.sections.items; generics = map generic_of s.generics.items }

-- the names are those of the generic declarations
abbrev pub AreNamed : SurveyOf → Type 0
AreNamed s = s.names ≡ names_of (map generic_of s.generics.items)

-- what follows a name lies within the section
abbrev pub IsWithin : HeadingOf → ℕ → Type 0
IsWithin (heading_of.Generic g) most = length g.rest.now ≤ most
IsWithin _ most = Unit {0}

-- sections before those that follow, unless these are refused
abbrev pub followed : Sections → Outcome Sections PolyEnd → Outcome Sections PolyEnd
followed front rest = and_then rest (λ (text : Sections). found (record { sections = front.sections ++ text.sections; generics = front.generics ++ text.generics }))

-- the survey of what is left, behind these sections
abbrev pub going_on : Sections → List (List Placed) → Outcome Sections PolyEnd
going_on front ss = followed front (surveyed (names_of front.generics) ss)

-- behind one section more, the survey goes on as before
abbrev pub Continues : Sections → List Placed → Sections → Type 0
Continues old section new = (ss : List (List Placed)) → going_on old (section ∷ ss) ≡ going_on new ss

-- the survey ends at the section
abbrev pub Refuses : Sections → List Placed → PolyEnd → Type 0
Refuses old section e = (ss : List (List Placed)) → IsFault Memory (going_on old (section ∷ ss)) e

-- what follows the first of the sections
abbrev pub following : List (List Placed) → List (List Placed)
following [] = []
following (s ∷ ss) = ss

-- the tokens are empty, or begin with `fun` or `main`
abbrev pub StartsSection : List Placed → Type 0
StartsSection [] = Unit {0}
StartsSection (p ∷ ps) = begins p.token ≡ true
