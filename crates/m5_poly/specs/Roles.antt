-- What a token is where declarations, variables and types are read.
use Rattle.std.specs.Prelude.{ℕ, ◌+◌, ◌-◌, ◌==◌, ◌||◌, ◌&&◌, Bool, false, nat_lt, is_some, List, [], ◌∷◌, Option, Some, None, if◌then◌else◌}
use Rattle.std.specs.List.{position}
use Rattle.std.specs.Str.{bytes_eq}
use Rattle.m5_lex.specs.declared.token.Token.{Token}
use Rattle.m5_lex.specs.declared.token.Token.TheVariants.{Name, Word, Sign}
use Rattle.m5_poly.specs.declared.role.Role.{Role}
use Rattle.m5_poly.specs.declared.role.Role.TheVariants.{Open, Close, Prefix, Base, World, Addr, Suffix, At, Infix, Comma, Closing, Other}

-- the keyword at this place of the list of keywords
abbrev pub is_word : ℕ → Token → Bool
is_word k (Word j) = j == k
is_word k token = false

-- the symbol at this place of the list of symbols
abbrev pub is_sign : ℕ → Token → Bool
is_sign k (Sign j) = j == k
is_sign k token = false

-- `fun` and `main` begin a section of the text
abbrev pub begins : Token → Bool
begins token = is_word 2 token || is_word 3 token

-- a name with `''` in it
abbrev pub has_quotes : List ℕ → Bool
has_quotes [] = false
has_quotes (x ∷ []) = false
has_quotes (x ∷ y ∷ rest) = x == 39 && y == 39 || has_quotes (y ∷ rest)

abbrev pub is_quoted : Token → Bool
is_quoted (Name x) = has_quotes x
is_quoted token = false

-- the name that a token is
abbrev pub name_in : Token → Option (List ℕ)
name_in (Name x) = Some x
name_in token = None

-- which of these names a token is, by its place among them
abbrev pub name_place : List (List ℕ) → Token → Option ℕ
name_place names (Name x) = position (bytes_eq x) names
name_place names token = None

-- a keyword or a symbol of a type as one number: keywords by their place, and then the symbols
abbrev pub code_of : Token → ℕ
code_of (Word k) = k
code_of (Sign k) = 44 + k
code_of token = 0

abbrev pub token_of : ℕ → Token
token_of code = if nat_lt code 44 then Word code else Sign (code - 44)

-- what a keyword is in a type: `sham`; `list` and `ref`; `at`; `addr`; a base type; a world
abbrev pub word_role : ℕ → Role
word_role k =
    if k == 26 then Prefix
    else if k == 36 || k == 29 then Suffix
    else if k == 34 then At
    else if k == 35 then Addr
    else if k == 37 || k == 38 || k == 39 || k == 40 then Base
    else if k == 41 || k == 42 || k == 43 then World
    else Other

-- what a symbol is in a list of types: `(`, `)`, `]`, `,`, or one of `->`, `+` and `*`
abbrev pub sign_role : ℕ → Role
sign_role k =
    if k == 0 then Open
    else if k == 1 then Close
    else if k == 3 then Closing
    else if k == 4 then Comma
    else if k == 11 || k == 13 || k == 14 then Infix
    else Other

-- what a token is in a list of types; a variable stands for a type
abbrev pub role : List (List ℕ) → Token → Role
role variables (Word k) = word_role k
role variables (Sign k) = sign_role k
role variables token = if is_some (name_place variables token) then Base else Other
