-- What stands for the tokens of a declaration's instance, and the uses of generic declarations.
use Rattle.std.specs.Prelude.{ℕ, ◌+◌, ◌-◌, ◌*◌, ◌/◌, ◌==◌, ◌||◌, ◌&&◌, ◌++◌, Bool, false, nat_lt, min, List, [], ◌∷◌, map, length, take, drop, Option, Some, None, if◌then◌else◌}
use Rattle.std.specs.List.{slice_index_or, flat_map}
use Rattle.m5_lex.specs.declared.tokens.Placed.{Placed}
use Rattle.m5_poly.specs.declared.types.Need.TheVariants.{Begin}
use Rattle.m5_poly.specs.Roles.{is_sign, name_in, name_place, code_of, token_of}
use Rattle.m5_poly.specs.Types.{closing}

-- where tokens are read: behind so many generic declarations, or inside an instance of the next one, whose variables stand
-- for these arguments
pub record Scope : Type 0 where
  pub before : ℕ
  pub inside : Bool
  pub variables : List (List ℕ)
  pub arguments : List (List ℕ)

-- a section that is no generic declaration's, behind so many of them
abbrev pub outside : ℕ → Scope
outside n = record { before = n; inside = false; variables = []; arguments = [] }

-- the surrounding generic declaration
abbrev pub is_own : Scope → ℕ → Bool
is_own s i = s.inside && i == s.before

-- the generic declarations that may be used: the earlier ones and the surrounding one
abbrev pub may_use : Scope → ℕ → Bool
may_use s i = nat_lt i s.before || is_own s i

-- a type in place of a variable: in one pair of parentheses, unless it is one token
abbrev pub put_in : List ℕ → List ℕ
put_in (c ∷ []) = c ∷ []
put_in codes = 44 ∷ codes ++ 45 ∷ []

abbrev pub code_at : Scope → Placed → Option ℕ → List ℕ
code_at s p None = code_of p.token ∷ []
code_at s p (Some i) = put_in (slice_index_or s.arguments i [])

-- the keywords and symbols that a token of a type is read as
abbrev pub read_as : Scope → Placed → List ℕ
read_as s p = code_at s p (name_place s.variables p.token)

abbrev pub token_at : Scope → Placed → Option ℕ → List Placed
token_at s p None = p ∷ []
token_at s p (Some i) = map (λ c. record { token = token_of c; place = p.place }) (put_in (slice_index_or s.arguments i []))

-- the tokens that stand for a token, each with its place
abbrev pub stands_for : Scope → Placed → List Placed
stands_for s p = token_at s p (name_place s.variables p.token)

-- how many pairs of parentheses stand around all other tokens, where so many are open and no more than `least` can be
abbrev pub pairs_around : ℕ → ℕ → List ℕ → ℕ
pairs_around depth least [] = least
pairs_around depth least (c ∷ cs) =
    if c == 44 then pairs_around (depth + 1) least cs
    else if c == 45 then pairs_around (depth - 1) least cs
    else pairs_around depth (min depth least) cs

abbrev pub within : ℕ → List ℕ → List ℕ
within pairs codes = take (length codes - 2 * pairs) (drop pairs codes)

-- a type without the pairs of parentheses around it
abbrev pub stripped : List ℕ → List ℕ
stripped codes = within (pairs_around 0 (length codes / 2) codes) codes

abbrev pub in_front : List ℕ → List (List ℕ) → List (List ℕ)
in_front codes [] = codes ∷ []
in_front codes (x ∷ xs) = (codes ++ x) ∷ xs

-- the types between commas
abbrev pub parts : Scope → List Placed → List (List ℕ)
parts s [] = [] ∷ []
parts s (p ∷ ps) = if is_sign 4 p.token then [] ∷ parts s ps else in_front (read_as s p) (parts s ps)

-- the arguments of a use whose brackets hold these tokens
abbrev pub arguments_of : Scope → List Placed → List (List ℕ)
arguments_of s content = map stripped (parts s content)

-- a name that stands directly before types in brackets, and what these hold
pub record Bracketed : Type 0 where
  pub name : List ℕ
  pub content : List Placed

abbrev pub bracketed : Option (List ℕ) → Option ℕ → Option ℕ → List Placed → Option Bracketed
bracketed (Some x) None (Some n) ps = Some (record { name = x; content = take n ps })
bracketed name variable length ps = None

-- the use that begins at a token, before these: a name that is no variable, `[`, types parted by commas, and `]`
abbrev pub use_at : Scope → Placed → List Placed → Option Bracketed
use_at s p [] = None
use_at s p (q ∷ qs) = if is_sign 2 q.token then bracketed (name_in p.token) (name_place s.variables p.token) (closing s.variables Begin 0 qs) qs else None

-- instances are told apart by their name and their arguments, each with a comma behind it
abbrev pub key_of : List ℕ → List (List ℕ) → List ℕ
key_of name arguments = name ++ 91 ∷ flat_map (λ codes. codes ++ 48 ∷ []) arguments
