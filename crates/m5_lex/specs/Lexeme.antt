-- The lexeme at the head of a rest of the text, and its length.
use Rattle.std.specs.Prelude.{ℕ, ◌≤◌, ◌+◌, ◌-◌, ◌==◌, nat_le, List, [], ◌∷◌, length, Option, Some, None, if◌then◌else◌, slice_index, drop}
use Rattle.std.specs.List.{take_while}
use Rattle.std.specs.Option.{option_map}
use Rattle.std.specs.Str.Parse.{digits_value}
use Rattle.m5_terms.specs.Decimal.{is_digit}
use Rattle.m5_terms.specs.Quoted.{quoted}
use Rattle.m5_terms.specs.declared.quoted.Quoted.{Quoted}
use Rattle.m5_terms.specs.declared.quoted.Quoted.TheVariants.{Closed, Broken}
use Rattle.m5_lex.specs.declared.token.Token.{Token}
use Rattle.m5_lex.specs.declared.token.Token.TheVariants.{Name, Number, Literal, Word, Sign}
use Rattle.m5_lex.specs.Token.{IsToken}
use Rattle.m5_lex.specs.declared.lexeme.Lexeme.{Lexeme}
use Rattle.m5_lex.specs.declared.lexeme.Lexeme.TheVariants as lexemes
use Rattle.m5_lex.specs.Alphabet.{is_blank, is_letter, is_name_byte, opens, closes, keywords, symbols, place_of}

-- so many bytes more
abbrev pub longer : ℕ → Option ℕ → Option ℕ
longer n o = option_map (λ k. n + k) o

-- how many bytes follow until so many open comments are closed, or none where they are not
abbrev pub comment_length : ℕ → List ℕ → Option ℕ
comment_length depth [] = None
comment_length depth (x ∷ []) = None
comment_length depth (x ∷ y ∷ rest) =
    if opens x y then longer 2 (comment_length (depth + 1) rest)
    else if closes x y then (if depth == 1 then Some 2 else longer 2 (comment_length (depth - 1) rest))
    else longer 1 (comment_length depth (y ∷ rest))

-- a comment that does not end is a fault at its first byte
abbrev pub comment_lexeme : Option ℕ → Lexeme
comment_lexeme None = lexemes.BadByte 0
comment_lexeme (Some n) = lexemes.Gap (2 + n)

-- a keyword, or else a name
abbrev pub word_or_name : List ℕ → Option ℕ → Token
word_or_name text None = Name text
word_or_name text (Some place) = Word place

-- the longest run of letters, digits, `_` and `'`
abbrev pub name_lexeme : List ℕ → Lexeme
name_lexeme text = lexemes.Token (word_or_name text (place_of text keywords)) (length text)

-- the longest run of digits, leading zeros among them
abbrev pub number_lexeme : List ℕ → Lexeme
number_lexeme digits =
    if nat_le (digits_value 10 digits) 9223372036854775807 then lexemes.Token (Number (digits_value 10 digits)) (length digits)
    else lexemes.BadNumber

-- the opening quote counts
abbrev pub literal_lexeme : Quoted → Lexeme
literal_lexeme (Closed value n) = lexemes.Token (Literal value) (1 + n)
literal_lexeme (Broken n) = lexemes.BadByte (1 + n)

-- the longest symbol: one of two bytes before one of one byte
abbrev pub symbol_lexeme : Option ℕ → Option ℕ → Lexeme
symbol_lexeme (Some place) one = lexemes.Token (Sign place) 2
symbol_lexeme None (Some place) = lexemes.Token (Sign place) 1
symbol_lexeme None None = lexemes.BadByte 0

-- by the first byte x and the byte y after it, 0 where there is none
abbrev pub lexeme_by : ℕ → ℕ → List ℕ → Lexeme
lexeme_by x y rest =
    if is_blank x then lexemes.Gap 1
    else if opens x y then comment_lexeme (comment_length 1 (drop 2 rest))
    else if is_letter x then name_lexeme (take_while is_name_byte rest)
    else if is_digit x then number_lexeme (take_while is_digit rest)
    else if x == 34 then literal_lexeme (quoted (drop 1 rest))
    else symbol_lexeme (place_of (x ∷ y ∷ []) symbols) (place_of (x ∷ []) symbols)

-- the lexeme at the head of a rest that is not empty
unfoldable pub lexeme : List ℕ → Lexeme
lexeme rest = lexeme_by (slice_index rest 0) (slice_index rest 1) rest

-- a lexeme takes at least one byte and at most all of them
abbrev pub Fits : Lexeme → ℕ → Type 0
Fits (lexemes.Gap n) most = (1 ≤ n) × (n ≤ most)
Fits (lexemes.Token token n) most = (1 ≤ n) × (n ≤ most) × IsToken token
Fits (lexemes.BadByte n) most = n ≤ most
Fits lexemes.BadNumber most = Unit {0}
