-- What a token's spelling lexes to, where a blank or a line feed follows it.
use Rattle.std.proofs.Common.{◌≡◌, ℕ, zero, suc, ◌+◌, ◌≤◌, ◌<◌, ◌⊎◌, Bool, true, false, not, ◌&&◌, eqb, leb, List, [], ◌∷◌, ◌++◌, length, get_or, Option, None, Some, refl, ap, sym, subst, ◌∙◌, arith, inl, inr, append_assoc, length-append}
use Rattle.std.specs.List.{AllPass, take_while, flat_map, list_all}
use Rattle.std.specs.Fmt.{decimal}
use Rattle.std.specs.Char.{digit_value}
use Rattle.std.specs.Str.Parse.{AllDigits, IsNumeral, digits_value}
use Rattle.std.proofs.lemmas.Bool.Decides.{nat_tests, eqb_tells}
use Rattle.std.proofs.lemmas.Fmt.{decimal_is_IsNumeral}
use Rattle.std.proofs.lemmas.List.Elements.{All-cons}
use Rattle.std.proofs.lemmas.List.Sums.{take_while-cons}
use Rattle.std.proofs.lemmas.Str.Parse.{digit_from_value}
use Rattle.m5_terms.specs.Text.{IsText}
use Rattle.m5_terms.specs.Decimal.{is_digit}
use Rattle.m5_terms.specs.Quoted.{escaping, quoted}
use Rattle.m5_terms.proofs.Quoting.{quoted_shown}
use Rattle.m5_lex.specs.declared.token.Token.{Token}
use Rattle.m5_lex.specs.declared.token.Token.TheVariants.{Name, Number, Literal, Word, Sign}
use Rattle.m5_lex.specs.declared.lexeme.Lexeme.{Lexeme}
use Rattle.m5_lex.specs.declared.lexeme.Lexeme.TheVariants as lexemes
use Rattle.m5_lex.specs.Alphabet.{is_blank, is_letter, is_name_byte, opens, keywords, symbols, place_of}
use Rattle.m5_lex.specs.Lexeme.{word_or_name, name_lexeme, number_lexeme, literal_lexeme, symbol_lexeme, lexeme_by, lexeme}
use Rattle.m5_lex.specs.Token.{IsToken}
use Rattle.m5_lex.specs.Shown.{spelling}

-- what parts two tokens
abbrev pub Parts : ℕ → Type 0
Parts b = (b ≡ 32) ⊎ (b ≡ 10)

both : (a b : Bool) → (a && b) ≡ true → (a ≡ true) × (b ≡ true)
both true b h = (refl, h)
both false b h = absurd cc

denied : (a : Bool) → not a ≡ true → a ≡ false
denied true h = absurd cc
denied false h = refl

-- ---- runs of bytes

-- a run of bytes that pass ends at one that does not
run_taken : (p : ℕ → Bool) (xs : List ℕ) (b : ℕ) (rest : List ℕ) → AllPass p xs → p b ≡ false → take_while p (xs ++ b ∷ rest) ≡ xs
run_taken p [] b rest h fails = take_while-cons p b rest ∙ rw fails refl
run_taken p (x ∷ xs) b rest h fails =
    let first : p x ≡ true = h 0 0 (omega arith) in
    take_while-cons p x (xs ++ b ∷ rest) ∙ rw first (ap (λ (r : List ℕ). x ∷ r) (run_taken p xs b rest (λ k d l. h (suc k) d (omega arith)) fails))

no_name_byte : (b : ℕ) → Parts b → is_name_byte b ≡ false
no_name_byte b (inl e) = rw e refl
no_name_byte b (inr e) = rw e refl

no_digit : (b : ℕ) → Parts b → is_digit b ≡ false
no_digit b (inl e) = rw e refl
no_digit b (inr e) = rw e refl

-- ---- names and keywords

letter_lexeme : (x y : ℕ) (rest : List ℕ) → is_letter x ≡ true → lexeme_by x y rest ≡ name_lexeme (take_while is_name_byte rest)
letter_lexeme x y rest h =
    let blank : is_blank x ≡ false = grind (arith, nat_tests) in
    let comment : opens x y ≡ false = grind (arith, nat_tests) in
    rw (blank, comment, h) refl

name_lexes : (w : List ℕ) (b : ℕ) (rest : List ℕ) → is_letter (get_or w 0 0) ≡ true → AllPass is_name_byte w → Parts b
    → lexeme (w ++ b ∷ rest) ≡ lexemes.Token (word_or_name w (place_of w keywords)) (length w)
unfolding lexeme
name_lexes [] b rest first all parts = absurd cc
name_lexes (x ∷ w) b rest first all parts =
    letter_lexeme x (get_or (w ++ b ∷ rest) 0 0) (x ∷ (w ++ b ∷ rest)) first ∙ ap name_lexeme (run_taken is_name_byte (x ∷ w) b rest all (no_name_byte b parts))

-- whether a test holds of each word of a list and its place, from this place on
abbrev each_from : (ℕ → List ℕ → Bool) → ℕ → List (List ℕ) → Bool
each_from test k [] = true
each_from test k (w ∷ ws) = test k w && each_from test (k + 1) ws

at_each : (test : ℕ → List ℕ → Bool) (k : ℕ) (ws : List (List ℕ)) (i j : ℕ) → each_from test k ws ≡ true → i < length ws → j ≡ k + i → test j (get_or ws i []) ≡ true
at_each test k [] i j h l e = absurd (omega arith)
at_each test k (w ∷ ws) zero j h l e =
    let same : j ≡ k = omega arith in
    rw same (both (test k w) (each_from test (k + 1) ws) h).0
at_each test k (w ∷ ws) (suc i) j h l e = at_each test (k + 1) ws i j (both (test k w) (each_from test (k + 1) ws) h).1 (omega arith) (omega arith)

all_pass : (p : ℕ → Bool) (w : List ℕ) → list_all p w ≡ true → AllPass p w
all_pass p [] h = λ k d l. absurd (omega arith)
all_pass p (x ∷ w) h = let parts = both (p x) (list_all p w) h in All-cons (λ y. p y ≡ true) x w parts.0 (all_pass p w parts.1)

abbrev is_at : Option ℕ → ℕ → Bool
is_at None k = false
is_at (Some j) k = eqb j k

at_place : (o : Option ℕ) (k : ℕ) → is_at o k ≡ true → o ≡ Some k
at_place None k h = absurd cc
at_place (Some j) k h = let same : j ≡ k = grind (arith, nat_tests) in ap (λ (n : ℕ). Some n) same

-- a keyword is spelled as a name, and stands at its place alone
abbrev is_keyword : ℕ → List ℕ → Bool
is_keyword k w = (is_letter (get_or w 0 0) && list_all is_name_byte w) && is_at (place_of w keywords) k

keywords_hold : each_from is_keyword 0 keywords ≡ true
unfolding keywords
keywords_hold = refl

keyword_spelled : (w : List ℕ) (k b : ℕ) (rest : List ℕ) → is_keyword k w ≡ true → Parts b → lexeme (w ++ b ∷ rest) ≡ lexemes.Token (Word k) (length w)
keyword_spelled w k b rest h parts =
    let all = both (is_letter (get_or w 0 0) && list_all is_name_byte w) (is_at (place_of w keywords) k) h in
    let name = both (is_letter (get_or w 0 0)) (list_all is_name_byte w) all.0 in
    name_lexes w b rest name.0 (all_pass is_name_byte w name.1) parts
    ∙ ap (λ (o : Option ℕ). lexemes.Token (word_or_name w o) (length w)) (at_place (place_of w keywords) k all.1)

-- ---- symbols

abbrev is_sign_of : Lexeme → ℕ → ℕ → Bool
is_sign_of (lexemes.Token (Sign j) n) k m = eqb j k && eqb n m
is_sign_of other k m = false

sign_of : (x : Lexeme) (k m : ℕ) → is_sign_of x k m ≡ true → x ≡ lexemes.Token (Sign k) m
sign_of (lexemes.Token (Sign j) n) k m h =
    let parts = both (eqb j k) (eqb n m) h in
    let place : j ≡ k = grind (arith, nat_tests) in
    let count : n ≡ m = grind (arith, nat_tests) in
    rw (place, count) refl
sign_of (lexemes.Token (Name w) n) k m h = absurd cc
sign_of (lexemes.Token (Number w) n) k m h = absurd cc
sign_of (lexemes.Token (Literal w) n) k m h = absurd cc
sign_of (lexemes.Token (Word w) n) k m h = absurd cc
sign_of (lexemes.Gap n) k m h = absurd cc
sign_of (lexemes.BadByte n) k m h = absurd cc
sign_of lexemes.BadNumber k m h = absurd cc

-- two bytes that begin no other lexeme than a symbol
abbrev is_symbolic : ℕ → ℕ → Bool
is_symbolic x y = not (is_blank x) && (not (opens x y) && (not (is_letter x) && (not (is_digit x) && not (eqb x 34))))

abbrev sign_at : ℕ → ℕ → ℕ → ℕ → Bool
sign_at x y k n = is_symbolic x y && is_sign_of (symbol_lexeme (place_of (x ∷ y ∷ []) symbols) (place_of (x ∷ []) symbols)) k n

sign_lexeme : (x y k n : ℕ) (rest : List ℕ) → sign_at x y k n ≡ true → lexeme_by x y rest ≡ lexemes.Token (Sign k) n
sign_lexeme x y k n rest h =
    let two = both (is_symbolic x y) (is_sign_of (symbol_lexeme (place_of (x ∷ y ∷ []) symbols) (place_of (x ∷ []) symbols)) k n) h in
    let a = both (not (is_blank x)) (not (opens x y) && (not (is_letter x) && (not (is_digit x) && not (eqb x 34)))) two.0 in
    let b = both (not (opens x y)) (not (is_letter x) && (not (is_digit x) && not (eqb x 34))) a.1 in
    let c = both (not (is_letter x)) (not (is_digit x) && not (eqb x 34)) b.1 in
    let d = both (not (is_digit x)) (not (eqb x 34)) c.1 in
    rw (denied (is_blank x) a.0, denied (opens x y) b.0, denied (is_letter x) c.0, denied (is_digit x) d.0, denied (eqb x 34) d.1)
    (sign_of (symbol_lexeme (place_of (x ∷ y ∷ []) symbols) (place_of (x ∷ []) symbols)) k n two.1)

-- whether a word that this byte follows is the symbol at a place
abbrev is_symbol : ℕ → ℕ → List ℕ → Bool
is_symbol b k [] = false
is_symbol b k (x ∷ []) = sign_at x b k 1
is_symbol b k (x ∷ y ∷ []) = sign_at x y k 2
is_symbol b k (x ∷ y ∷ z ∷ w) = false

before_blank : each_from (is_symbol 32) 0 symbols ≡ true
unfolding symbols
before_blank = refl

before_line_feed : each_from (is_symbol 10) 0 symbols ≡ true
unfolding symbols
before_line_feed = refl

before_part : (b : ℕ) → Parts b → each_from (is_symbol b) 0 symbols ≡ true
before_part b (inl e) = let P : ℕ → Type 0 = λ n. each_from (is_symbol n) 0 symbols ≡ true in subst P (sym e) before_blank
before_part b (inr e) = let P : ℕ → Type 0 = λ n. each_from (is_symbol n) 0 symbols ≡ true in subst P (sym e) before_line_feed

symbol_spelled : (w : List ℕ) (k b : ℕ) (rest : List ℕ) → is_symbol b k w ≡ true → (lexeme (w ++ b ∷ rest) ≡ lexemes.Token (Sign k) (length w)) × (1 ≤ length w)
unfolding lexeme
symbol_spelled [] k b rest h = absurd cc
symbol_spelled (x ∷ []) k b rest h = (sign_lexeme x b k 1 (x ∷ b ∷ rest) h, omega arith)
symbol_spelled (x ∷ y ∷ []) k b rest h = (sign_lexeme x y k 2 (x ∷ y ∷ b ∷ rest) h, omega arith)
symbol_spelled (x ∷ y ∷ z ∷ w) k b rest h = absurd cc

-- ---- numbers

is_digit_value : (x : ℕ) → digit_value x < 10 → is_digit x ≡ true
is_digit_value x h = let within = digit_from_value x h in grind (arith, nat_tests)

digits_all : (ds : List ℕ) → AllDigits 10 ds → AllPass is_digit ds
digits_all [] h = λ k d l. absurd (omega arith)
digits_all (x ∷ ds) h = All-cons (λ y. is_digit y ≡ true) x ds (is_digit_value x h.0) (digits_all ds h.1)

digit_lexeme : (x y : ℕ) (rest : List ℕ) → is_digit x ≡ true → lexeme_by x y rest ≡ number_lexeme (take_while is_digit rest)
digit_lexeme x y rest h =
    let blank : is_blank x ≡ false = grind (arith, nat_tests) in
    let comment : opens x y ≡ false = grind (arith, nat_tests) in
    let letter : is_letter x ≡ false = grind (arith, nat_tests) in
    rw (blank, comment, letter, h) refl

number_is : (ds : List ℕ) (n : ℕ) → digits_value 10 ds ≡ n → n ≤ 9223372036854775807 → number_lexeme ds ≡ lexemes.Token (Number n) (length ds)
number_is ds n e most = let fits : leb n 9223372036854775807 ≡ true = grind (arith, nat_tests) in rw (e, fits) refl

digits_lex : (ds : List ℕ) (n b : ℕ) (rest : List ℕ) → IsNumeral 10 ds → digits_value 10 ds ≡ n → n ≤ 9223372036854775807 → Parts b
    → lexeme (ds ++ b ∷ rest) ≡ lexemes.Token (Number n) (length ds)
unfolding lexeme
digits_lex [] n b rest h e most parts = absurd (omega (arith, h.0))
digits_lex (x ∷ ds) n b rest h e most parts =
    digit_lexeme x (get_or (ds ++ b ∷ rest) 0 0) (x ∷ (ds ++ b ∷ rest)) (is_digit_value x h.1.0)
    ∙ ap number_lexeme (run_taken is_digit (x ∷ ds) b rest (digits_all (x ∷ ds) h.1) (no_digit b parts))
    ∙ number_is (x ∷ ds) n e most

-- ---- text literals

literal_lexes : (text : List ℕ) (b : ℕ) (rest : List ℕ) → IsText text → lexeme (spelling (Literal text) ++ b ∷ rest) ≡ lexemes.Token (Literal text) (length (spelling (Literal text)))
unfolding lexeme
literal_lexes text b rest h =
    let shown : List ℕ = flat_map escaping text in
    ap (λ (q : List ℕ). literal_lexeme (quoted q)) (append_assoc shown (34 ∷ []) (b ∷ rest))
    ∙ ap literal_lexeme (quoted_shown text (b ∷ rest) h)
    ∙ ap (λ (n : ℕ). lexemes.Token (Literal text) n) (omega (arith, length-append shown (34 ∷ [])))

-- ---- all kinds

letter_some : (w : List ℕ) → is_letter (get_or w 0 0) ≡ true → 1 ≤ length w
letter_some [] h = absurd cc
letter_some (x ∷ w) h = omega arith

keyword_some : (w : List ℕ) (k : ℕ) → is_keyword k w ≡ true → 1 ≤ length w
keyword_some [] k h = absurd cc
keyword_some (x ∷ w) k h = omega arith

-- a token's spelling lexes to the token, of its whole length
pub token_lexes : (t : Token) (b : ℕ) (rest : List ℕ) → IsToken t → Parts b → (lexeme (spelling t ++ b ∷ rest) ≡ lexemes.Token t (length (spelling t))) × (1 ≤ length (spelling t))
token_lexes (Name w) b rest h parts = (name_lexes w b rest h.first h.all parts ∙ ap (λ (o : Option ℕ). lexemes.Token (word_or_name w o) (length w)) h.free, letter_some w h.first)
token_lexes (Number n) b rest h parts = let numeral = decimal_is_IsNumeral n (omega arith) in (digits_lex (decimal n) n b rest numeral.0 numeral.1 h parts, numeral.0.0)
token_lexes (Literal text) b rest h parts = (literal_lexes text b rest h, omega arith)
token_lexes (Word place) b rest h parts =
    let holds = at_each is_keyword 0 keywords place place keywords_hold h (omega arith) in
    (keyword_spelled (get_or keywords place []) place b rest holds parts, keyword_some (get_or keywords place []) place holds)
token_lexes (Sign place) b rest h parts = symbol_spelled (get_or symbols place []) place b rest (at_each (is_symbol b) 0 symbols place place (before_part b parts) h (omega arith))
