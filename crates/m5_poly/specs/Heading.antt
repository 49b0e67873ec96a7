-- How a section of a text begins: whether as a generic declaration does.
use Rattle.std.specs.Prelude.{ℕ, ◌&&◌, List, [], ◌∷◌, ◌++◌, take, drop, Option, Some, None, if◌then◌else◌}
use Rattle.std.specs.List.{list_any}
use Rattle.std.specs.Str.{bytes_eq}
use Rattle.m5_lex.specs.declared.place.Place.{Place}
use Rattle.m5_lex.specs.declared.token.Token.{Token}
use Rattle.m5_lex.specs.declared.token.Token.TheVariants.{Name}
use Rattle.m5_lex.specs.declared.tokens.Placed.{Placed}
use Rattle.m5_poly.specs.Roles.{is_word, is_sign, name_in}

-- a generic declaration: its `fun`, its variables, a `~` or nothing, its name, and what follows that
pub record Generic : Type 0 where
  pub mark : List Placed
  pub variables : List (List ℕ)
  pub tilde : List Placed
  pub own : Placed
  pub name : List ℕ
  pub rest : List Placed

-- variables, all different, parted by commas and ended by `]`, and what follows them
pub record Listed : Type 0 where
  pub variables : List (List ℕ)
  pub rest : List Placed

abbrev pub after_variable : List (List ℕ) → Token → Token → List Placed → Option Listed → Option Listed
after_variable seen (Name x) q rest more =
    if list_any (bytes_eq x) seen then None
    else if is_sign 3 q then Some (record { variables = seen ++ x ∷ []; rest = rest })
    else if is_sign 4 q then more
    else None
after_variable seen token q rest more = None

abbrev pub name_of : Token → List ℕ
name_of (Name x) = x
name_of token = []

-- the list of variables that stands here, behind those seen
abbrev pub listed : List (List ℕ) → List Placed → Option Listed
listed seen [] = None
listed seen (p ∷ []) = None
listed seen (p ∷ q ∷ ps) = after_variable seen p.token q.token ps (listed (seen ++ name_of p.token ∷ []) ps)

-- how a section begins: as no generic declaration does, with a bad list, with a list and no name, or with both
pub data Heading : Type 0 where
  plain : Heading
  bad : Place → Heading
  nameless : Heading
  generic : Generic → Heading

abbrev pub tilde_length : List Placed → ℕ
tilde_length [] = 0
tilde_length (p ∷ ps) = if is_sign 20 p.token then 1 else 0

abbrev pub heading_by : Option (List ℕ) → List Placed → Listed → List Placed → Placed → List Placed → Heading
heading_by None section list tilde own rest = nameless
heading_by (Some x) section list tilde own rest = generic (record { mark = take 1 section; variables = list.variables; tilde = tilde; own = own; name = x; rest = rest })

abbrev pub heading_named : List Placed → Listed → List Placed → List Placed → Heading
heading_named section list tilde [] = nameless
heading_named section list tilde (own ∷ rest) = heading_by (name_in own.token) section list tilde own rest

abbrev pub heading_after : Place → List Placed → Option Listed → Heading
heading_after at section None = bad at
heading_after at section (Some list) = heading_named section list (take (tilde_length list.rest) list.rest) (drop (tilde_length list.rest) list.rest)

-- a section that begins `fun [` is a generic declaration
abbrev pub heading : List Placed → Heading
heading [] = plain
heading (p ∷ []) = plain
heading (p ∷ q ∷ qs) = if is_word 2 p.token && is_sign 2 q.token then heading_after p.place (p ∷ q ∷ qs) (listed [] qs) else plain
