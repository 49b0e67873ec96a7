-- The text that tokens are shown as, and what it is to lex back to them.
use Rattle.std.specs.Prelude.{◌≡◌, ℕ, Bool, false, ◌==◌, ◌||◌, List, [], ◌∷◌, ◌++◌, map, IsOkAnd, if◌then◌else◌, codes}
use Rattle.std.specs.List.{flat_map, slice_index_or}
use Rattle.std.specs.Fmt.{decimal}
use Rattle.m5_terms.specs.Quoted.{quotation}
use Rattle.m5_lex.specs.declared.token.Token.{Token}
use Rattle.m5_lex.specs.declared.token.Token.TheVariants.{Name, Number, Literal, Word, Sign}
use Rattle.m5_lex.specs.declared.tokens.Placed.{Placed}
use Rattle.m5_lex.specs.Alphabet.{keywords, symbols}
use Rattle.m5_lex.specs.Lexed.{lexed}

-- the bytes of a token: a name as it is, a number in decimal, a literal between quotes, a keyword or a symbol from its list
abbrev pub spelling : Token → List ℕ
spelling (Name text) = text
spelling (Number n) = decimal n
spelling (Literal text) = quotation text
spelling (Word place) = slice_index_or keywords place []
spelling (Sign place) = slice_index_or symbols place []

-- `extern`, `fun` and `main` begin a line
abbrev pub begins_line : Token → Bool
begins_line (Word place) = place == 0 || place == 2 || place == 3
begins_line token = false

-- a token that follows another: a line feed or a blank stands before it
abbrev pub parted : Token → List ℕ
parted token = (if begins_line token then 10 else 32) ∷ spelling token

-- tokens, parted by a line feed or a blank, and a line feed after the last
abbrev pub shown : List Token → List ℕ
shown [] = []
shown (token ∷ tokens) = spelling token ++ flat_map parted tokens ++ codes "\n"

-- tokens without their places
abbrev pub tokens_of : List Placed → List Token
tokens_of listed = map (λ p. p.token) listed

-- the text lexes, and to these tokens
abbrev pub LexesBack : List ℕ → List Token → Type 0
LexesBack text tokens = IsOkAnd (lexed text) (λ listing. tokens_of listing.tokens ≡ tokens)
