-- What one lexeme does to the tokens of a text.
use Rattle.std.proofs.Common.{◌≡◌, ℕ, zero, suc, ◌+◌, ◌-◌, ◌≤◌, ◌<◌, List, [], ◌∷◌, ◌++◌, length, take, drop, Result, Ok, Err, refl, ap, sym, ◌∙◌, append_assoc, arith}
use Rattle.std.proofs.lemmas.List.{length-append, length-drop, length-take, drop-drop, take_all}
use Rattle.std.proofs.lemmas.List.Elements.{All-push}
use Rattle.std.proofs.Math.Seq.{take-add}
use Rattle.m5_lex.proofs.Placing.{after-append, line-after, column-after}
use Rattle.m5_lex.specs.declared.place.Place.{Place}
use Rattle.m5_lex.specs.declared.tokens.Placed.{Placed}
use Rattle.m5_lex.specs.declared.token.Token.{Token}
use Rattle.m5_lex.specs.declared.lexeme.Lexeme.TheVariants as lexemes
use Rattle.m5_lex.specs.Place.{first_place, after_byte, after}
use Rattle.m5_lex.specs.Lexeme.{lexeme}
use Rattle.m5_lex.specs.Token.{IsToken}
use Rattle.m5_lex.specs.Tokens.{Listing, AreTokens}
use Rattle.m5_lex.specs.Lexed.{Fault, bad_byte, bad_number, followed_by, tokens_from}

pub tokens_push : (ts : List Placed) (t : Placed) → AreTokens ts → IsToken t.token → length ts < 4294967295 → AreTokens (ts ++ t ∷ [])
tokens_push ts t h k room = record { each = All-push (λ p. IsToken p.token) ts t h.each k; few = omega (arith, length-append ts (t ∷ []), h.few) }

followed-followed : (a b : List Placed) (r : Result (List Placed) Fault) → followed_by a (followed_by b r) ≡ followed_by (a ++ b) r
followed-followed a b (Ok ts) = ap (λ (x : List Placed). Ok x) (sym (append_assoc a b ts))
followed-followed a b (Err f) = refl

-- the bytes that belong to the lexeme before are passed over
skipped : (k : ℕ) (p : Place) (s : List ℕ) → tokens_from k p s ≡ tokens_from 0 (after p (take k s)) (drop k s)
skipped zero p [] = refl
skipped zero p (x ∷ s) = refl
skipped (suc k) p [] = refl
skipped (suc k) p (x ∷ s) = skipped k (after_byte p x) s

pub after_gap : (s : List ℕ) (p : Place) (n : ℕ) (done : List Placed) → lexeme s ≡ lexemes.Gap n → 1 ≤ n → n ≤ length s
    → followed_by done (tokens_from 0 (after p (take n s)) (drop n s)) ≡ followed_by done (tokens_from 0 p s)
after_gap [] p n done e some most = absurd (omega arith)
after_gap (x ∷ s) p zero done e some most = absurd (omega arith)
after_gap (x ∷ s) p (suc n) done e some most =
    let less : suc n - 1 ≡ n = omega arith in
    ap (followed_by done) (sym (rw (e, less) (skipped n (after_byte p x) s)))

pub after_token : (s : List ℕ) (p : Place) (t : Token) (n : ℕ) (done : List Placed) → lexeme s ≡ lexemes.Token t n → 1 ≤ n → n ≤ length s
    → followed_by (done ++ record { token = t; place = p } ∷ []) (tokens_from 0 (after p (take n s)) (drop n s)) ≡ followed_by done (tokens_from 0 p s)
after_token [] p t n done e some most = absurd (omega arith)
after_token (x ∷ s) p t zero done e some most = absurd (omega arith)
after_token (x ∷ s) p t (suc n) done e some most =
    let less : suc n - 1 ≡ n = omega arith in
    sym (followed-followed done (record { token = t; place = p } ∷ []) (tokens_from 0 (after (after_byte p x) (take n s)) (drop n s)))
    ∙ ap (followed_by done) (sym (rw (e, less) (ap (followed_by (record { token = t; place = p } ∷ [])) (skipped n (after_byte p x) s))))

pub at_bad_byte : (s : List ℕ) (p : Place) (n : ℕ) (done : List Placed) → lexeme s ≡ lexemes.BadByte n → 1 ≤ length s
    → followed_by done (tokens_from 0 p s) ≡ Err (bad_byte (after p (take n s)))
at_bad_byte [] p n done e some = absurd (omega arith)
at_bad_byte (x ∷ s) p n done e some = rw e refl

pub at_bad_number : (s : List ℕ) (p : Place) (done : List Placed) → lexeme s ≡ lexemes.BadNumber → 1 ≤ length s
    → followed_by done (tokens_from 0 p s) ≡ Err (bad_number p)
at_bad_number [] p done e some = absurd (omega arith)
at_bad_number (x ∷ s) p done e some = rw e refl

-- ---- the whole text

-- what is taken so far: the tokens and those of the rest are the tokens of the text
pub record Reached (text : List ℕ) (at : ℕ) (place : Place) (taken : Listing) : Type 0 where
  pub tokens : followed_by taken.tokens (tokens_from 0 place (drop at text)) ≡ tokens_from 0 first_place text
  pub here : place ≡ after first_place (take at text)
  pub ending : taken.ending ≡ after first_place text
  pub few : length taken.tokens ≤ at
  pub within : at ≤ length text

rest_whole : (s : List ℕ) (i : ℕ) → take (length s - i) (drop i s) ≡ drop i s
rest_whole s i = take_all (length s - i) (drop i s) (omega (arith, length-drop i s))

-- so the lines and columns of a part of the rest fit
pub lines_fit : (text : List ℕ) (at : ℕ) (p : Place) (t : Listing) (part : List ℕ) → Reached text at p t → length text < 4294967295 → at + length part ≤ length text → p.line + length part < 4294967296
lines_fit text at p t part h small within =
    let line : p.line ≤ 1 + length (take at text) = rw h.here (line-after first_place (take at text)) in
    omega (arith, length-take at text)

pub columns_fit : (text : List ℕ) (at : ℕ) (p : Place) (t : Listing) (part : List ℕ) → Reached text at p t → length text < 4294967295 → at + length part ≤ length text → p.column + length part < 4294967296
columns_fit text at p t part h small within =
    let column : p.column ≤ 1 + length (take at text) = rw h.here (column-after first_place (take at text)) in
    omega (arith, length-take at text)

pub goes_on : (text : List ℕ) (at n : ℕ) (p : Place) (old new : Listing) (rest : List ℕ) → Reached text at p old
    → rest ≡ take (length text - at) (drop at text) → 1 ≤ n → n ≤ length rest → length new.tokens ≤ length old.tokens + 1 → new.ending ≡ old.ending
    → followed_by new.tokens (tokens_from 0 (after p (take n rest)) (drop n rest)) ≡ followed_by old.tokens (tokens_from 0 p rest)
    → Reached text (at + n) (after p (take n rest)) new
goes_on text at n p old new rest h is some most more ends same =
    let whole : rest ≡ drop at text = is ∙ rest_whole text at in
    let on : drop n rest ≡ drop (at + n) text = ap (drop n) whole ∙ drop-drop n at text in
    let front : after p (take n rest) ≡ after first_place (take (at + n) text) =
    ap (λ (r : List ℕ). after p (take n r)) whole ∙ ap (λ (q : Place). after q (take n (drop at text))) h.here
    ∙ sym (after-append first_place (take at text) (take n (drop at text))) ∙ ap (after first_place) (sym (take-add at n text)) in
    record {
      tokens = ap (λ (r : List ℕ). followed_by new.tokens (tokens_from 0 (after p (take n rest)) r)) (sym on) ∙ same ∙ ap (λ (r : List ℕ). followed_by old.tokens (tokens_from 0 p r)) whole ∙ h.tokens;
      here = front;
      ending = ends ∙ h.ending;
      few = omega (arith, h.few);
      within = omega (arith, ap length whole, length-drop at text, h.within);
    }
