-- The declarations of a text, and what is refused of them before any is walked.
pub use Rattle.m5_poly.specs.Heading.{Generic, Listed, listed, tilde_length, Heading, plain, bad, nameless, generic, heading_after, heading}
use Rattle.std.specs.Prelude.{ℕ, ◌-◌, List, [], ◌∷◌, ◌++◌, map, length, take, Option, Some, None, if◌then◌else◌}
use Rattle.std.specs.List.{list_any}
use Rattle.std.specs.Str.{bytes_eq}
use Rattle.m5_lex.specs.declared.place.Place.{Place}
use Rattle.m5_lex.specs.declared.tokens.Placed.{Placed}
use Rattle.m5_terms.specs.Outcome.{Outcome, found, fault, and_then}
use Rattle.m5_poly.specs.declared.end.PolyEnd.{PolyEnd}
use Rattle.m5_poly.specs.declared.end.PolyEnd.TheVariants as end
use Rattle.m5_poly.specs.Roles.{begins, is_quoted}

-- a text: its sections in order, none in place of a generic declaration that has a name, and these declarations
pub record Sections : Type 0 where
  pub sections : List (Option (List Placed))
  pub generics : List Generic

abbrev pub opened : Placed → List (List Placed) → List (List Placed)
opened p [] = (p ∷ []) ∷ []
opened p (s ∷ ss) = if begins p.token then [] ∷ (p ∷ s) ∷ ss else (p ∷ s) ∷ ss

-- what stands before the first `fun` or `main`, and then each of these with what follows up to the next
abbrev pub sections_of : List Placed → List (List Placed)
sections_of [] = [] ∷ []
sections_of (p ∷ ps) = opened p (sections_of ps)

-- the place of the first name with `''`
abbrev pub first_quoted : List Placed → Option Place
first_quoted [] = None
first_quoted (p ∷ ps) = if is_quoted p.token then Some p.place else first_quoted ps

abbrev pub unless_quoted : Option Place → Outcome Sections PolyEnd → Outcome Sections PolyEnd
unless_quoted None next = next
unless_quoted (Some at) next = fault (end.Generic at)

-- Generic at the first name with `''`
abbrev pub unquoted : List Placed → Outcome Sections PolyEnd → Outcome Sections PolyEnd
unquoted section next = unless_quoted (first_quoted section) next

-- the tokens of a section before what follows its name
abbrev pub before_name : List Placed → Generic → List Placed
before_name section g = take (length section - length g.rest) section

abbrev pub in_front_of : Option (List Placed) → List Generic → Sections → Outcome Sections PolyEnd
in_front_of section generics text = found (record { sections = section ∷ text.sections; generics = generics ++ text.generics })

-- what a section is before those that follow, where these names are declared: Generic at a bad list, Repeated at a name that
-- a generic declaration has
abbrev pub surveyed_by : Heading → List (List ℕ) → List Placed → (List (List ℕ) → Outcome Sections PolyEnd) → Outcome Sections PolyEnd
surveyed_by plain names section next = unquoted section (and_then (next names) (in_front_of (Some section) []))
surveyed_by (bad at) names section next = fault (end.Generic at)
surveyed_by nameless names section next = unquoted section (next names)
surveyed_by (generic g) names section next =
    if list_any (bytes_eq g.name) names then unquoted (before_name section g) (fault (end.Repeated g.own.place))
    else unquoted section (and_then (next (names ++ g.name ∷ [])) (in_front_of None (g ∷ [])))

-- the sections of a text, or its first refusal from the left
abbrev pub surveyed : List (List ℕ) → List (List Placed) → Outcome Sections PolyEnd
surveyed names [] = found (record { sections = []; generics = [] })
surveyed names (s ∷ ss) = surveyed_by (heading s) names s (λ known. surveyed known ss)

abbrev pub names_of : List Generic → List (List ℕ)
names_of gs = map (λ (g : Generic). g.name) gs
