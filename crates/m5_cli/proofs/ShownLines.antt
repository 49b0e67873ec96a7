-- Tokens that were read are spelled within a line, and none begins with a percent sign.
use Rattle.std.proofs.Common.{◌≡◌, ℕ, zero, suc, ◌+◌, ◌-◌, ◌≤◌, ◌<◌, Bool, true, false, not, ◌&&◌, eqb, leb, if◌then◌else◌, List, [], ◌∷◌, ◌++◌, length, drop, get_or, Option, None, Some, Result, Ok, Err, refl, subst, arith}
use Rattle.std.specs.Prelude.{IsOkAnd}
use Rattle.std.specs.List.{flat_map, list_all, take_while}
use Rattle.std.specs.Fmt.{decimal}
use Rattle.std.specs.Char.{digit_value}
use Rattle.std.specs.Str.Parse.{AllDigits, digits_value}
use Rattle.std.proofs.lemmas.Bool.Decides.{nat_tests}
use Rattle.std.proofs.lemmas.Fmt.{decimal_is_IsNumeral}
use Rattle.std.proofs.lemmas.List.Sums.{take_while-cons}
use Rattle.std.proofs.lemmas.Str.Parse.{digit_from_value}
use Rattle.m5_terms.specs.Decimal.{is_digit}
use Rattle.m5_terms.specs.Quoted.{escaping, quoted}
use Rattle.m5_terms.specs.declared.quoted.Quoted.{Quoted}
use Rattle.m5_terms.specs.declared.quoted.Quoted.TheVariants.{Closed, Broken}
use Rattle.m5_lex.specs.declared.place.Place.{Place}
use Rattle.m5_lex.specs.declared.token.Token.{Token}
use Rattle.m5_lex.specs.declared.token.Token.TheVariants.{Name, Number, Literal, Word, Sign}
use Rattle.m5_lex.specs.declared.tokens.Placed.{Placed}
use Rattle.m5_lex.specs.Alphabet.{is_blank, is_letter, is_name_byte, opens, keywords, symbols, place_of}
use Rattle.m5_lex.specs.Place.{first_place, after_byte, after}
use Rattle.m5_lex.specs.Lexeme.{comment_length, comment_lexeme, word_or_name, name_lexeme, number_lexeme, literal_lexeme, symbol_lexeme, lexeme_by, lexeme}
use Rattle.m5_lex.specs.Lexed.{Fault, followed_by, with_lexeme, tokens_from, ending_at, lexed}
use Rattle.m5_lex.specs.Shown.{spelling, tokens_of, LexesBack}

pub both : (a b : Bool) → (a && b) ≡ true → (a ≡ true) × (b ≡ true)
both true b h = (refl, h)
both false b h = absurd cc

pub denied : (a : Bool) → not a ≡ true → a ≡ false
denied true h = absurd cc
denied false h = refl

-- ---- what is read

-- a name has bytes of names alone, and a number is one of the limit's
abbrev IsPlain : Token → Type 0
IsPlain (Name w) = list_all is_name_byte w ≡ true
IsPlain (Number n) = n ≤ 9223372036854775807
IsPlain _ = Unit {0}

abbrev pub ArePlain : List Token → Type 0
ArePlain [] = Unit {0}
ArePlain (t ∷ ts) = IsPlain t × ArePlain ts

taken_step : (p : ℕ → Bool) (x : ℕ) (b : Bool) (xs : List ℕ) → p x ≡ b → list_all p xs ≡ true → list_all p (if b then x ∷ xs else []) ≡ true
taken_step p x true xs e h = rw e h
taken_step p x false xs e h = refl

taken_pass : (p : ℕ → Bool) (s : List ℕ) → list_all p (take_while p s) ≡ true
taken_pass p [] = refl
taken_pass p (x ∷ s) = rw (take_while-cons p x s) (taken_step p x (p x) (take_while p s) refl (taken_pass p s))

within : (n m : ℕ) → leb n m ≡ true → n ≤ m
within n m h = grind (arith, nat_tests)

if_holds : {A : Type 0} (P : A → Type 0) (b : Bool) (x y : A) → (b ≡ true → P x) → P y → P (if b then x else y)
if_holds P true x y h k = h refl
if_holds P false x y h k = k

abbrev ReadPlain : Result (List Placed) Fault → Type 0
ReadPlain (Ok ps) = ArePlain (tokens_of ps)
ReadPlain (Err e) = Unit {0}

followed_plain : (q : Placed) (r : Result (List Placed) Fault) → IsPlain q.token → ReadPlain r → ReadPlain (followed_by (q ∷ []) r)
followed_plain q (Ok ps) h k = (h, k)
followed_plain q (Err e) h k = tt

word_plain : (w : List ℕ) (o : Option ℕ) → list_all is_name_byte w ≡ true → IsPlain (word_or_name w o)
word_plain w None h = h
word_plain w (Some k) h = tt

-- what follows a lexeme
abbrev Next : Type 0
Next = ℕ → Result (List Placed) Fault

abbrev Plain : Next → Type 0
Plain next = (n : ℕ) → ReadPlain (next n)

comment_plain : (o : Option ℕ) (p : Place) (rest : List ℕ) (next : Next) → Plain next → ReadPlain (with_lexeme (comment_lexeme o) p rest next)
comment_plain None p rest next k = tt
comment_plain (Some n) p rest next k = k (2 + n)

name_plain : (w : List ℕ) (p : Place) (rest : List ℕ) (next : Next) → list_all is_name_byte w ≡ true → Plain next → ReadPlain (with_lexeme (name_lexeme w) p rest next)
name_plain w p rest next h k =
    followed_plain (record { token = word_or_name w (place_of w keywords); place = p }) (next (length w)) (word_plain w (place_of w keywords) h) (k (length w))

number_plain : (ds : List ℕ) (p : Place) (rest : List ℕ) (next : Next) → Plain next → ReadPlain (with_lexeme (number_lexeme ds) p rest next)
number_plain ds p rest next k =
    let value : ℕ = digits_value 10 ds in
    if_holds (λ l. ReadPlain (with_lexeme l p rest next)) (leb value 9223372036854775807) _ _
    (λ e. followed_plain (record { token = Number value; place = p }) (next (length ds)) (within value 9223372036854775807 e) (k (length ds))) tt

literal_plain : (q : Quoted) (p : Place) (rest : List ℕ) (next : Next) → Plain next → ReadPlain (with_lexeme (literal_lexeme q) p rest next)
literal_plain (Closed value n) p rest next k = followed_plain (record { token = Literal value; place = p }) (next (1 + n)) tt (k (1 + n))
literal_plain (Broken n) p rest next k = tt

symbol_plain : (two one : Option ℕ) (p : Place) (rest : List ℕ) (next : Next) → Plain next → ReadPlain (with_lexeme (symbol_lexeme two one) p rest next)
symbol_plain (Some place) one p rest next k = followed_plain (record { token = Sign place; place = p }) (next 2) tt (k 2)
symbol_plain None (Some place) p rest next k = followed_plain (record { token = Sign place; place = p }) (next 1) tt (k 1)
symbol_plain None None p rest next k = tt

lexeme_plain : (x y : ℕ) (s : List ℕ) (p : Place) (rest : List ℕ) (next : Next) → Plain next → ReadPlain (with_lexeme (lexeme_by x y s) p rest next)
lexeme_plain x y s p rest next k =
    if_holds (λ l. ReadPlain (with_lexeme l p rest next)) (is_blank x) _ _ (λ e. k 1)
    (if_holds (λ l. ReadPlain (with_lexeme l p rest next)) (opens x y) _ _ (λ e. comment_plain (comment_length 1 (drop 2 s)) p rest next k)
    (if_holds (λ l. ReadPlain (with_lexeme l p rest next)) (is_letter x) _ _ (λ e. name_plain (take_while is_name_byte s) p rest next (taken_pass is_name_byte s) k)
    (if_holds (λ l. ReadPlain (with_lexeme l p rest next)) (is_digit x) _ _ (λ e. number_plain (take_while is_digit s) p rest next k)
    (if_holds (λ l. ReadPlain (with_lexeme l p rest next)) (eqb x 34) _ _ (λ e. literal_plain (quoted (drop 1 s)) p rest next k)
    (symbol_plain (place_of (x ∷ y ∷ []) symbols) (place_of (x ∷ []) symbols) p rest next k)))))

from_plain : (more : ℕ) (p : Place) (rest : List ℕ) → ReadPlain (tokens_from more p rest)
unfolding lexeme
from_plain more p [] = tt
from_plain (suc more) p (x ∷ rest) = from_plain more (after_byte p x) rest
from_plain zero p (x ∷ rest) =
    lexeme_plain x (get_or (x ∷ rest) 1 0) (x ∷ rest) p (x ∷ rest) (λ n. tokens_from (n - 1) (after_byte p x) rest) (λ n. from_plain (n - 1) (after_byte p x) rest)

back_plain : (p : Place) (r : Result (List Placed) Fault) (ts : List Token) → IsOkAnd (ending_at p r) (λ l. tokens_of l.tokens ≡ ts) → ReadPlain r → ArePlain ts
back_plain p (Ok ps) ts h k = subst (λ us. ArePlain us) h k
back_plain p (Err e) ts h k = absurd h

pub lexes_plain : (text : List ℕ) (ts : List Token) → LexesBack text ts → ArePlain ts
unfolding lexed
lexes_plain text ts h = back_plain (after first_place text) (tokens_from 0 first_place text) ts h (from_plain 0 first_place text)

-- ---- how it is spelled

abbrev pub is_inner : ℕ → Bool
is_inner x = not (eqb x 10)

-- no line feed is in it, and no percent sign at its head
pub record IsInLine (w : List ℕ) : Type 0 where
  pub inner : list_all is_inner w ≡ true
  pub head : eqb (get_or w 0 0) 37 ≡ false

abbrev in_line : List ℕ → Bool
in_line w = list_all is_inner w && not (eqb (get_or w 0 0) 37)

in_line_by : (w : List ℕ) → in_line w ≡ true → IsInLine w
in_line_by w h =
    let parts = both (list_all is_inner w) (not (eqb (get_or w 0 0) 37)) h in
    record { inner = parts.0; head = denied (eqb (get_or w 0 0) 37) parts.1 }

listed_in_line : (ws : List (List ℕ)) (i : ℕ) → list_all in_line ws ≡ true → IsInLine (get_or ws i [])
listed_in_line [] i h = record { inner = refl; head = refl }
listed_in_line (w ∷ ws) zero h = in_line_by w (both (in_line w) (list_all in_line ws) h).0
listed_in_line (w ∷ ws) (suc i) h = listed_in_line ws i (both (in_line w) (list_all in_line ws) h).1

keywords_in_line : list_all in_line keywords ≡ true
unfolding keywords
keywords_in_line = refl

symbols_in_line : list_all in_line symbols ≡ true
unfolding symbols
symbols_in_line = refl

joined_inner : (a b : List ℕ) → list_all is_inner a ≡ true → list_all is_inner b ≡ true → list_all is_inner (a ++ b) ≡ true
joined_inner [] b h k = k
joined_inner (x ∷ a) b h k = let parts = both (is_inner x) (list_all is_inner a) h in rw parts.0 (joined_inner a b parts.1 k)

name_byte_inner : (x : ℕ) → is_name_byte x ≡ true → is_inner x ≡ true
name_byte_inner x h = grind (arith, nat_tests)

name_byte_head : (x : ℕ) → is_name_byte x ≡ true → eqb x 37 ≡ false
name_byte_head x h = grind (arith, nat_tests)

name_inner : (w : List ℕ) → list_all is_name_byte w ≡ true → list_all is_inner w ≡ true
name_inner [] h = refl
name_inner (x ∷ w) h = let parts = both (is_name_byte x) (list_all is_name_byte w) h in rw (name_byte_inner x parts.0) (name_inner w parts.1)

name_head : (w : List ℕ) → list_all is_name_byte w ≡ true → eqb (get_or w 0 0) 37 ≡ false
name_head [] h = refl
name_head (x ∷ w) h = name_byte_head x (both (is_name_byte x) (list_all is_name_byte w) h).0

digit_byte : (x : ℕ) → digit_value x < 10 → is_name_byte x ≡ true
digit_byte x h = let near = digit_from_value x h in grind (arith, nat_tests)

digits_bytes : (ds : List ℕ) → AllDigits 10 ds → list_all is_name_byte ds ≡ true
digits_bytes [] h = refl
digits_bytes (x ∷ ds) h = rw (digit_byte x h.0) (digits_bytes ds h.1)

if_inner : (b : Bool) (u v : List ℕ) → list_all is_inner u ≡ true → (b ≡ false → list_all is_inner v ≡ true) → list_all is_inner (if b then u else v) ≡ true
if_inner true u v h k = h
if_inner false u v h k = k refl

escaping_inner : (x : ℕ) → list_all is_inner (escaping x) ≡ true
escaping_inner x =
    if_inner (eqb x 34) _ _ refl
    (λ q. if_inner (eqb x 92) _ _ refl (λ s. if_inner (eqb x 10) _ _ refl (λ l. if_inner (eqb x 9) _ _ refl (λ t. rw l refl))))

escaped_inner : (text : List ℕ) → list_all is_inner (flat_map escaping text) ≡ true
escaped_inner [] = refl
escaped_inner (x ∷ text) = joined_inner (escaping x) (flat_map escaping text) (escaping_inner x) (escaped_inner text)

pub token_in_line : (t : Token) → IsPlain t → IsInLine (spelling t)
token_in_line (Name w) h = record { inner = name_inner w h; head = name_head w h }
token_in_line (Number n) h =
    let bytes = digits_bytes (decimal n) (decimal_is_IsNumeral n (omega (arith, h))).0.1 in
    record { inner = name_inner (decimal n) bytes; head = name_head (decimal n) bytes }
token_in_line (Literal text) h = record { inner = joined_inner (flat_map escaping text) (34 ∷ []) (escaped_inner text) refl; head = refl }
token_in_line (Word place) h = listed_in_line keywords place keywords_in_line
token_in_line (Sign place) h = listed_in_line symbols place symbols_in_line
