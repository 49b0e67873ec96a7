-- Shown tokens lex to themselves.
use Rattle.std.proofs.Common.{◌≡◌, ℕ, suc, Bool, true, false, cond, List, [], ◌∷◌, ◌++◌, length, take, drop, Result, Ok, Err, refl, ap, sym, subst, ◌∙◌, arith, inl, inr, append_assoc, length-append}
use Rattle.std.specs.Prelude.{IsOkAnd}
use Rattle.std.specs.List.{All, flat_map}
use Rattle.std.proofs.Math.Seq.{drop-append_seam}
use Rattle.std.proofs.lemmas.List.Elements.{All-cons}
use Rattle.m5_lex.specs.declared.place.Place.{Place}
use Rattle.m5_lex.specs.declared.tokens.Placed.{Placed}
use Rattle.m5_lex.specs.declared.token.Token.{Token}
use Rattle.m5_lex.specs.Place.{first_place, after_byte, after}
use Rattle.m5_lex.specs.Lexeme.{lexeme}
use Rattle.m5_lex.specs.Lexed.{Fault, followed_by, tokens_from, ending_at, lexed}
use Rattle.m5_lex.specs.Token.{IsToken}
use Rattle.m5_lex.specs.Tokens.{AreTokens}
use Rattle.m5_lex.specs.Shown.{spelling, begins_line, parted, shown, tokens_of, LexesBack}
use Rattle.m5_lex.proofs.Taking.{after_token}
use Rattle.m5_lex.proofs.Spelled.{Parts, token_lexes}

-- the tokens that are read, places aside
abbrev Reads : Result (List Placed) Fault → List Token → Type 0
Reads r ts = IsOkAnd r (λ listed. tokens_of listed ≡ ts)

reads_first : (t : Placed) (r : Result (List Placed) Fault) (ts : List Token) → Reads r ts → Reads (followed_by (t ∷ []) r) (t.token ∷ ts)
reads_first t (Ok listed) ts h = ap (λ (us : List Token). t.token ∷ us) h
reads_first t (Err fault) ts h = h

followed-nil : (r : Result (List Placed) Fault) → followed_by [] r ≡ r
followed-nil (Ok listed) = refl
followed-nil (Err fault) = refl

-- what parts tokens is passed over
part_passed : (b : ℕ) (p : Place) (rest : List ℕ) → Parts b → tokens_from 0 p (b ∷ rest) ≡ tokens_from 0 (after_byte p b) rest
unfolding lexeme
part_passed b p rest (inl e) = rw e refl
part_passed b p rest (inr e) = rw e refl

-- a token is read before what parts it from the next
reads_token : (t : Token) (p : Place) (b : ℕ) (rest : List ℕ) (ts : List Token) → IsToken t → Parts b
    → ((q : Place) → Reads (tokens_from 0 q (b ∷ rest)) ts) → Reads (tokens_from 0 p (spelling t ++ b ∷ rest)) (t ∷ ts)
reads_token t p b rest ts form parts next =
    let whole : List ℕ = spelling t ++ b ∷ rest in
    let n : ℕ = length (spelling t) in
    let placed : Placed = record { token = t; place = p } in
    let lexes = token_lexes t b rest form parts in
    let goes = after_token whole p t n [] lexes.0 lexes.1 (omega (arith, length-append (spelling t) (b ∷ rest))) in
    let rest_is : drop n whole ≡ b ∷ rest = drop-append_seam (spelling t) (b ∷ rest) in
    let reads : Reads (followed_by (placed ∷ []) (tokens_from 0 (after p (take n whole)) (drop n whole))) (t ∷ ts) =
    rw rest_is (reads_first placed (tokens_from 0 (after p (take n whole)) (b ∷ rest)) ts (next (after p (take n whole)))) in
    subst (λ (r : Result (List Placed) Fault). Reads r (t ∷ ts)) (goes ∙ followed-nil (tokens_from 0 p whole)) reads

-- what follows the first token's spelling
abbrev following : List Token → List ℕ
following ts = flat_map parted ts ++ 10 ∷ []

abbrev part_of : Bool → ℕ
part_of b = cond b 10 32

parts_of : (b : Bool) → Parts (part_of b)
parts_of true = inr refl
parts_of false = inl refl

reads_spelled : (t : Token) (p : Place) (ts : List Token) → IsToken t → ((q : Place) → Reads (tokens_from 0 q (following ts)) ts)
    → Reads (tokens_from 0 p ((spelling t ++ flat_map parted ts) ++ 10 ∷ [])) (t ∷ ts)
reads_spelled t p [] form next = rw (append_assoc (spelling t) [] (10 ∷ [])) (reads_token t p 10 [] [] form (inr refl) next)
reads_spelled t p (u ∷ us) form next =
    rw (append_assoc (spelling t) (flat_map parted (u ∷ us)) (10 ∷ []))
    (reads_token t p (part_of (begins_line u)) ((spelling u ++ flat_map parted us) ++ 10 ∷ []) (u ∷ us) form (parts_of (begins_line u)) next)

reads_following : (ts : List Token) (p : Place) → All IsToken ts → Reads (tokens_from 0 p (following ts)) ts
reads_following [] p h = rw (part_passed 10 p [] (inr refl)) refl
reads_following (t ∷ ts) p h =
    let b : ℕ = part_of (begins_line t) in
    let rest : List ℕ = (spelling t ++ flat_map parted ts) ++ 10 ∷ [] in
    subst (λ (r : Result (List Placed) Fault). Reads r (t ∷ ts)) (sym (part_passed b p rest (parts_of (begins_line t))))
    (reads_spelled t (after_byte p b) ts (h 0 t (omega arith)) (λ q. reads_following ts q (λ k d l. h (suc k) d (omega arith))))

ends_reading : (p : Place) (r : Result (List Placed) Fault) (ts : List Token) → Reads r ts → IsOkAnd (ending_at p r) (λ listing. tokens_of listing.tokens ≡ ts)
ends_reading p (Ok listed) ts h = h
ends_reading p (Err fault) ts h = h

lexes_back : (ts : List Token) → All IsToken ts → LexesBack (shown ts) ts
unfolding lexed
lexes_back [] h = refl
lexes_back (t ∷ ts) h = ends_reading (after first_place (shown (t ∷ ts))) (tokens_from 0 first_place (shown (t ∷ ts))) (t ∷ ts)
    (reads_spelled t first_place ts (h 0 t (omega arith)) (λ q. reads_following ts q (λ k d l. h (suc k) d (omega arith))))

all_tokens : (ps : List Placed) → All (λ p. IsToken p.token) ps → All IsToken (tokens_of ps)
all_tokens [] h = λ k d l. absurd (omega arith)
all_tokens (p ∷ ps) h = All-cons IsToken p.token (tokens_of ps) (h 0 p (omega arith)) (all_tokens ps (λ k d l. h (suc k) d (omega arith)))

-- the text of tokens of the lexical form lexes to them
pub shown_lexes : (ps : List Placed) (text : List ℕ) → AreTokens ps → text ≡ shown (tokens_of ps) → LexesBack text (tokens_of ps)
shown_lexes ps text h e = subst (λ (s : List ℕ). LexesBack s (tokens_of ps)) (sym e) (lexes_back (tokens_of ps) (all_tokens ps h.each))
