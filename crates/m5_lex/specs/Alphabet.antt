-- The bytes, keywords and symbols of the lexical form.
use Rattle.std.specs.Prelude.{ℕ, Bool, ◌||◌, ◌&&◌, ◌==◌, nat_le, List, [], ◌∷◌, Option, codes}
use Rattle.std.specs.List.{position_from}
use Rattle.std.specs.Str.{bytes_eq}
use Rattle.m5_terms.specs.Decimal.{is_digit}

-- tab, line feed, carriage return, space
abbrev pub is_blank : ℕ → Bool
is_blank x = x == 9 || x == 10 || x == 13 || x == 32

-- a-z and A-Z
abbrev pub is_letter : ℕ → Bool
is_letter x = (nat_le 97 x && nat_le x 122) || (nat_le 65 x && nat_le x 90)

-- a letter, a digit, `_` or `'`
abbrev pub is_name_byte : ℕ → Bool
is_name_byte x = is_letter x || is_digit x || x == 95 || x == 39

-- `(*`
abbrev pub opens : ℕ → ℕ → Bool
opens x y = x == 40 && y == 42

-- `*)`
abbrev pub closes : ℕ → ℕ → Bool
closes x y = x == 42 && y == 41

-- the keywords, in order
unfoldable pub keywords : List (List ℕ)
keywords = codes "extern" ∷ codes "val" ∷ codes "fun" ∷ codes "main" ∷ codes "fn" ∷ codes "rec" ∷ codes "let" ∷ codes "in"
    ∷ codes "end" ∷ codes "do" ∷ codes "put" ∷ codes "leta" ∷ codes "lets" ∷ codes "if" ∷ codes "then" ∷ codes "else"
    ∷ codes "case" ∷ codes "of" ∷ codes "inl" ∷ codes "inr" ∷ codes "nil" ∷ codes "from" ∷ codes "get" ∷ codes "spawn"
    ∷ codes "hold" ∷ codes "here" ∷ codes "sham" ∷ codes "fst" ∷ codes "snd" ∷ codes "ref" ∷ codes "str" ∷ codes "div"
    ∷ codes "true" ∷ codes "false" ∷ codes "at" ∷ codes "addr" ∷ codes "list" ∷ codes "unit" ∷ codes "bool" ∷ codes "int"
    ∷ codes "string" ∷ codes "home" ∷ codes "server" ∷ codes "panel" ∷ []

-- the symbols, in order
unfoldable pub symbols : List (List ℕ)
symbols = codes "(" ∷ codes ")" ∷ codes "[" ∷ codes "]" ∷ codes "," ∷ codes ":" ∷ codes ":=" ∷ codes "::" ∷ codes "=" ∷ codes "=="
    ∷ codes "=>" ∷ codes "->" ∷ codes "-" ∷ codes "+" ∷ codes "*" ∷ codes "^" ∷ codes "<" ∷ codes "!" ∷ codes "|" ∷ codes "@"
    ∷ codes "~" ∷ []

-- the place of a word in a list of words, from 0
abbrev pub place_of : List ℕ → List (List ℕ) → Option ℕ
place_of word words = position_from (λ w. bytes_eq w word) 0 words
