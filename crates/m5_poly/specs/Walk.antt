-- The walk over a text, which finds the instances of its generic declarations, or its first refusal.
use Rattle.std.specs.Prelude.{ℕ, zero, suc, ◌+◌, ◌==◌, ◌&&◌, ◌++◌, true, nat_lt, List, [], ◌∷◌, length, take, slice_get, Option, Some, None, if◌then◌else◌}
use Rattle.std.specs.List.{list_any, position}
use Rattle.std.specs.Str.{bytes_eq}
use Rattle.m5_lex.specs.declared.place.Place.{Place}
use Rattle.m5_lex.specs.declared.tokens.Placed.{Placed}
use Rattle.m5_terms.specs.Outcome.{Outcome, found, fault, and_then}
use Rattle.m5_poly.specs.declared.end.PolyEnd.{PolyEnd}
use Rattle.m5_poly.specs.declared.end.PolyEnd.TheVariants as end
use Rattle.m5_poly.specs.Survey.{Generic, names_of}
use Rattle.m5_poly.specs.Uses.{Scope, Bracketed, outside, is_own, may_use, read_as, arguments_of, use_at, key_of}

-- an instance: of the generic declaration with this number, from 0, at these arguments
pub record Made : Type 0 where
  pub key : List ℕ
  pub generic : ℕ
  pub arguments : List (List ℕ)

-- how many tokens were read, and the instances so far
pub record State : Type 0 where
  pub read : ℕ
  pub made : List Made

-- a use of a generic declaration
pub record Use : Type 0 where
  pub generic : ℕ
  pub name : List ℕ
  pub arguments : List (List ℕ)
  pub place : Place

-- the declarations and the scope of a walk, and what it does at a use of an earlier declaration
pub record Walk : Type 0 where
  pub generics : List Generic
  pub scope : Scope
  pub make : Use → State → Outcome State PolyEnd

-- a token is read as what stands for it: Long where more than 4,194,304 are read
abbrev pub counted : Scope → Placed → State → Outcome State PolyEnd
counted s p st =
    if nat_lt 4194304 (st.read + length (read_as s p)) then fault (end.Long p.place)
    else found (record { read = st.read + length (read_as s p); made = st.made })

abbrev pub all_counted : Scope → List Placed → State → Outcome State PolyEnd
all_counted s [] st = found st
all_counted s (p ∷ ps) st = and_then (counted s p st) (all_counted s ps)

abbrev pub arity : Option Generic → ℕ
arity None = 0
arity (Some g) = length g.variables

abbrev pub allowed : List Generic → Scope → ℕ → Option ℕ → Option ℕ
allowed gs s count None = None
allowed gs s count (Some i) = if may_use s i && arity (slice_get gs i) == count then Some i else None

-- the generic declaration, among those that may be used, of this name and number of variables
abbrev pub generic_used : List Generic → Scope → Bracketed → Option ℕ
generic_used gs s u = allowed gs s (length (arguments_of s u.content)) (position (bytes_eq u.name) (names_of gs))

-- Instance where the surrounding declaration is used with other arguments than its instance's
abbrev pub asked : Walk → Use → State → Outcome State PolyEnd
asked w u st =
    if is_own w.scope u.generic then
    (if bytes_eq (key_of u.name u.arguments) (key_of u.name w.scope.arguments) then found st else fault (end.Instance u.place))
    else w.make u st

-- a use that begins at a token, before its brackets: Generic where no declaration fits; the brackets are read before the rest
abbrev pub used : Walk → Placed → Bracketed → List Placed → Option ℕ → State → Outcome State PolyEnd
used w p u brackets None st = fault (end.Generic p.place)
used w p u brackets (Some i) st =
    and_then (all_counted w.scope brackets st) (asked w (record { generic = i; name = u.name; arguments = arguments_of w.scope u.content; place = p.place }))

abbrev pub walked_at : Walk → Placed → List Placed → Option Bracketed → State → (ℕ → State → Outcome State PolyEnd) → Outcome State PolyEnd
walked_at w p ps None st next = next 0 st
walked_at w p ps (Some u) st next =
    and_then (used w p u (take (length u.content + 2) ps) (generic_used w.generics w.scope u) st) (next (length u.content + 2))

-- tokens are read from left to right, where so many still belong to the use before
abbrev pub walked : Walk → ℕ → List Placed → State → Outcome State PolyEnd
walked w more [] st = found st
walked w (suc more) (p ∷ ps) st = walked w more ps st
walked w zero (p ∷ ps) st = and_then (counted w.scope p st) (λ read. walked_at w p ps (use_at w.scope p ps) read (λ n later. walked w n ps later))

-- an instance of the generic declaration with this number
abbrev pub inside_of : ℕ → Generic → List (List ℕ) → Scope
inside_of n g arguments = record { before = n; inside = true; variables = g.variables; arguments = arguments }

-- an instance up to its name, without the list of variables
abbrev pub head : Generic → List Placed
head g = g.mark ++ (g.tilde ++ g.own ∷ [])

-- an instance is read from its `fun` on
abbrev pub instance_walked : List Generic → ℕ → (Use → State → Outcome State PolyEnd) → List (List ℕ) → Option Generic → State → Outcome State PolyEnd
instance_walked gs n make arguments None st = found st
instance_walked gs n make arguments (Some g) st =
    and_then (all_counted (outside n) (head g) st)
    (walked (record { generics = gs; scope = inside_of n g arguments; make = make }) 0 g.rest)

-- a new instance is walked at once: Instances where there are 256 already
abbrev pub made_new : (State → Outcome State PolyEnd) → List ℕ → Use → State → Outcome State PolyEnd
made_new walk key u st =
    if list_any (λ (m : Made). bytes_eq key m.key) st.made then found st
    else if nat_lt (length st.made) 256 then walk (record { read = st.read; made = st.made ++ record { key = key; generic = u.generic; arguments = u.arguments } ∷ [] })
    else fault (end.Instances u.place)

-- a use of the generic declaration with this number
abbrev pub made_by : List Generic → ℕ → (Use → State → Outcome State PolyEnd) → Use → State → Outcome State PolyEnd
made_by gs n make u st = made_new (instance_walked gs n make u.arguments (slice_get gs n)) (key_of u.name u.arguments) u st

-- a use of one of the first so many generic declarations, in the instance of which the earlier ones may be used
abbrev pub making : List Generic → ℕ → Use → State → Outcome State PolyEnd
making gs zero u st = found st
making gs (suc n) u st = if u.generic == n then made_by gs n (making gs n) u st else making gs n u st

-- the sections in order, behind so many generic declarations
abbrev pub sections_walked : List Generic → ℕ → List (Option (List Placed)) → State → Outcome State PolyEnd
sections_walked gs n [] st = found st
sections_walked gs n (None ∷ ss) st = sections_walked gs (n + 1) ss st
sections_walked gs n (Some ts ∷ ss) st =
    and_then (walked (record { generics = gs; scope = outside n; make = making gs n }) 0 ts st) (sections_walked gs n ss)
