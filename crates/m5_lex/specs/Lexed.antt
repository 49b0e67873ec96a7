-- The tokens of a text, or its first fault from the left.
use Rattle.std.specs.Prelude.{◌≡◌, ℕ, zero, suc, ◌-◌, List, [], ◌∷◌, ◌++◌, take, Result, Ok, Err}
use Rattle.m5_lex.specs.declared.place.Place.{Place}
use Rattle.m5_lex.specs.declared.tokens.Placed.{Placed}
use Rattle.m5_lex.specs.declared.lexeme.Lexeme.{Lexeme}
use Rattle.m5_lex.specs.declared.lexeme.Lexeme.TheVariants.{Gap, Token, BadByte, BadNumber}
use Rattle.m5_lex.specs.declared.lexed.LexEnd.{LexEnd}
use Rattle.m5_lex.specs.declared.lexed.LexEnd.TheVariants as ends
use Rattle.m5_lex.specs.Place.{first_place, after_byte, after}
use Rattle.m5_lex.specs.Lexeme.{lexeme}
use Rattle.m5_lex.specs.Tokens.{Listing}

-- a byte that fits nowhere, or a number that is too large, and its place
pub data Fault : Type 0 where
  bad_byte : Place → Fault
  bad_number : Place → Fault

-- tokens in front of those that follow, unless a fault does
abbrev pub followed_by : List Placed → Result (List Placed) Fault → Result (List Placed) Fault
followed_by front (Ok tokens) = Ok (front ++ tokens)
followed_by front (Err fault) = Err fault

-- a lexeme at a place, at the head of a rest, before what follows it
abbrev pub with_lexeme : Lexeme → Place → List ℕ → (ℕ → Result (List Placed) Fault) → Result (List Placed) Fault
with_lexeme (Gap n) p rest next = next n
with_lexeme (Token token n) p rest next = followed_by (record { token = token; place = p } ∷ []) (next n)
with_lexeme (BadByte n) p rest next = Err (bad_byte (after p (take n rest)))
with_lexeme BadNumber p rest next = Err (bad_number p)

-- the tokens of a rest that stands at a place, where so many bytes still belong to the lexeme before
abbrev pub tokens_from : ℕ → Place → List ℕ → Result (List Placed) Fault
tokens_from more p [] = Ok []
tokens_from (suc more) p (x ∷ rest) = tokens_from more (after_byte p x) rest
tokens_from zero p (x ∷ rest) = with_lexeme (lexeme (x ∷ rest)) p (x ∷ rest) (λ n. tokens_from (n - 1) (after_byte p x) rest)

abbrev pub ending_at : Place → Result (List Placed) Fault → Result Listing Fault
ending_at p (Ok tokens) = Ok (record { tokens = tokens; ending = p })
ending_at p (Err fault) = Err fault

-- the tokens of a text and the place after it, or its first fault
unfoldable pub lexed : List ℕ → Result Listing Fault
lexed text = ending_at (after first_place text) (tokens_from 0 first_place text)

-- want of memory may end it anywhere, a fault where it is the first
abbrev pub Ends : {X : Type 0} → LexEnd → Result X Fault → Type 0
Ends (ends.BadByte p) answer = answer ≡ Err (bad_byte p)
Ends (ends.BadNumber p) answer = answer ≡ Err (bad_number p)
Ends ends.Memory answer = Unit {0}
