-- What tokens a text can have.
use Rattle.std.specs.Prelude.{◌≡◌, ℕ, ◌≤◌, ◌<◌, true, List, length, None, slice_index}
use Rattle.std.specs.List.{AllPass}
use Rattle.m5_terms.specs.Text.{IsText}
use Rattle.m5_lex.specs.declared.token.Token.{Token}
use Rattle.m5_lex.specs.declared.token.Token.TheVariants.{Name, Number, Literal, Word, Sign}
use Rattle.m5_lex.specs.Alphabet.{is_letter, is_name_byte, keywords, symbols, place_of}

-- a letter and then letters, digits, `_` and `'`, and no keyword
pub record IsName (text : List ℕ) : Type 0 where
  pub first : is_letter (slice_index text 0) ≡ true
  pub all : AllPass is_name_byte text
  pub free : place_of text keywords ≡ None

-- a name, a number up to the largest, a text of its bytes, or a place in the list of keywords or symbols
abbrev pub IsToken : Token → Type 0
IsToken (Name text) = IsName text
IsToken (Number n) = n ≤ 9223372036854775807
IsToken (Literal text) = IsText text
IsToken (Word place) = place < length keywords
IsToken (Sign place) = place < length symbols
