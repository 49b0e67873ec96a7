-- The expansion of a text: its generic declarations written out as their instances, or its first refusal.
use Rattle.std.specs.Prelude.{ℕ, zero, suc, ◌+◌, ◌==◌, ◌++◌, List, [], ◌∷◌, count_by, length, take, slice_get, Option, Some, None, if◌then◌else◌, codes}
use Rattle.std.specs.List.{flat_map, position_or_len}
use Rattle.std.specs.Fmt.{decimal}
use Rattle.std.specs.Str.{bytes_eq}
use Rattle.m5_lex.specs.declared.place.Place.{Place}
use Rattle.m5_lex.specs.declared.token.Token.TheVariants.{Name}
use Rattle.m5_lex.specs.declared.tokens.Placed.{Placed}
use Rattle.m5_lex.specs.Tokens.{Listing}
use Rattle.m5_terms.specs.Outcome.{Outcome, found, and_then}
use Rattle.m5_poly.specs.declared.end.PolyEnd.{PolyEnd}
use Rattle.m5_poly.specs.Survey.{Generic, Sections, sections_of, surveyed}
use Rattle.m5_poly.specs.Uses.{Scope, Bracketed, outside, arguments_of, stands_for, use_at, key_of}
use Rattle.m5_poly.specs.Walk.{Made, State, generic_used, inside_of, sections_walked}

-- the declarations, their instances, and the scope in which tokens are written
pub record Writing : Type 0 where
  pub generics : List Generic
  pub made : List Made
  pub scope : Scope

-- the number of an instance: one more than how many of its declaration's stand before it
abbrev pub number_of : List Made → ℕ → List ℕ → ℕ
number_of made i key = 1 + count_by (λ (m : Made). m.generic == i) (take (position_or_len (λ (m : Made). bytes_eq key m.key) made) made)

-- the name of the instance with a number
abbrev pub instance_name : List ℕ → ℕ → List ℕ
instance_name name k = name ++ codes "''" ++ decimal k

abbrev pub named : List ℕ → ℕ → Place → Placed
named name k at = record { token = Name (instance_name name k); place = at }

abbrev pub written_use : Writing → Placed → Bracketed → Option ℕ → (ℕ → List Placed) → List Placed
written_use w p u None next = stands_for w.scope p ++ next 0
written_use w p u (Some i) next =
    named u.name (number_of w.made i (key_of u.name (arguments_of w.scope u.content))) p.place ∷ next (length u.content + 2)

abbrev pub written_at : Writing → Placed → Option Bracketed → (ℕ → List Placed) → List Placed
written_at w p None next = stands_for w.scope p ++ next 0
written_at w p (Some u) next = written_use w p u (generic_used w.generics w.scope u) next

-- a use becomes its instance's name, and another token what stands for it
abbrev pub written : Writing → ℕ → List Placed → List Placed
written w more [] = []
written w (suc more) (p ∷ ps) = written w more ps
written w zero (p ∷ ps) = written_at w p (use_at w.scope p ps) (λ n. written w n ps)

-- an instance: its declaration without the list of variables, under the instance's name
abbrev pub instance_written : List Generic → List Made → ℕ → Generic → Made → List Placed
instance_written gs made n g m =
    g.mark ++ (g.tilde ++ named g.name (number_of made n m.key) g.own.place ∷ written (record { generics = gs; made = made; scope = inside_of n g m.arguments }) 0 g.rest)

-- the instances of the generic declaration with a number, in order
abbrev pub instances_written : List Generic → List Made → ℕ → Option Generic → List Placed
instances_written gs made n None = []
instances_written gs made n (Some g) = flat_map (λ (m : Made). if m.generic == n then instance_written gs made n g m else []) made

-- the sections in order, behind so many generic declarations
abbrev pub sections_written : List Generic → List Made → ℕ → List (Option (List Placed)) → List Placed
sections_written gs made n [] = []
sections_written gs made n (None ∷ ss) = instances_written gs made n (slice_get gs n) ++ sections_written gs made (n + 1) ss
sections_written gs made n (Some ts ∷ ss) = written (record { generics = gs; made = made; scope = outside n }) 0 ts ++ sections_written gs made n ss

abbrev pub expanded_from : Place → Sections → Outcome Listing PolyEnd
expanded_from ending text =
    and_then (sections_walked text.generics 0 text.sections (record { read = 0; made = [] }))
    (λ (st : State). found (record { tokens = sections_written text.generics st.made 0 text.sections; ending = ending }))

-- the tokens with each instance written out, or the first refusal: of the survey, and else of the walk
unfoldable pub expanded : Listing → Outcome Listing PolyEnd
expanded listing = and_then (surveyed [] (sections_of listing.tokens)) (expanded_from listing.ending)
