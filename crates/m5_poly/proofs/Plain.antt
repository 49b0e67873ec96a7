-- A text without generic declarations and uses is its own expansion.
use Rattle.std.proofs.Common.{◌≡◌, ℕ, suc, ◌+◌, ◌≤◌, Bool, true, false, not, ◌&&◌, List, [], ◌∷◌, ◌++◌, length, map, Option, Some, None, if◌then◌else◌, refl, ap, ◌∙◌, arith, Result, Ok, Err}
use Rattle.std.specs.Prelude.{nat_lt, MatchResult, IfOk, IfErr}
use Rattle.std.proofs.lemmas.Bool.Decides.{nat_tests}
use Rattle.m5_lex.specs.declared.token.Token.{Token}
use Rattle.m5_lex.specs.declared.token.Token.TheVariants.{Name, Number, Literal, Word, Sign}
use Rattle.m5_lex.specs.declared.tokens.Placed.{Placed}
use Rattle.m5_lex.specs.Tokens.{Listing}
use Rattle.m5_terms.specs.Outcome.{Outcome, found, IsFault}
use Rattle.m5_poly.specs.declared.end.PolyEnd.{PolyEnd}
use Rattle.m5_poly.specs.declared.end.PolyEnd.TheVariants as end
use Rattle.m5_poly.specs.Roles.{is_word, is_sign, begins, is_quoted, name_in, name_place}
use Rattle.m5_poly.specs.Survey.{plain, heading, Generic, opened, first_quoted, sections_of, surveyed}
use Rattle.m5_poly.specs.Uses.{outside, bracketed, use_at}
use Rattle.m5_poly.specs.Walk.{Made, State, Use, making, walked, counted, sections_walked}
use Rattle.m5_poly.specs.Expansion.{written, sections_written, expanded}
use Rattle.m5_poly.specs.Plain.{IsPlain, takes_brackets, unbracketed}

both : (a b : Bool) → a && b ≡ true → (a ≡ true) × (b ≡ true)
both true b h = (refl, h)
both false b h = absurd cc

-- ---- sections

record Calm (before : Bool) (s : List Placed) : Type 0 where
  brackets : unbracketed before s ≡ true
  names : first_quoted s ≡ None

abbrev AllCalm : List (List Placed) → Type 0
AllCalm [] = Unit {0}
AllCalm (s ∷ ss) = Calm false s × AllCalm ss

abbrev FirstCalm : Bool → List (List Placed) → Type 0
FirstCalm before [] = Unit {0}
FirstCalm before (s ∷ ss) = Calm before s × AllCalm ss

none_quoted : (b : Bool) (p : Placed) (ps : List Placed) → (if b then Some p.place else first_quoted ps) ≡ None → (b ≡ false) × (first_quoted ps ≡ None)
none_quoted true p ps h = absurd cc
none_quoted false p ps h = (refl, h)

calm_opened : (b before : Bool) (p : Placed) (s : List Placed) (ss : List (List Placed)) → not (before && is_sign 2 p.token) ≡ true → is_quoted p.token ≡ false
    → Calm (takes_brackets p.token) s → AllCalm ss → FirstCalm before (if b then [] ∷ (p ∷ s) ∷ ss else (p ∷ s) ∷ ss)
calm_opened true before p s ss a q h k = (record { brackets = refl; names = refl }, (record { brackets = h.brackets; names = rw q h.names }, k))
calm_opened false before p s ss a q h k = (record { brackets = rw a h.brackets; names = rw q h.names }, k)

calm_next : (before : Bool) (p : Placed) (xs : List (List Placed)) → not (before && is_sign 2 p.token) ≡ true → is_quoted p.token ≡ false
    → FirstCalm (takes_brackets p.token) xs → FirstCalm before (opened p xs)
calm_next before p [] a q f = (record { brackets = rw a refl; names = rw q refl }, tt)
calm_next before p (s ∷ ss) a q f = calm_opened (begins p.token) before p s ss a q f.0 f.1

calm_sections : (before : Bool) (ps : List Placed) → unbracketed before ps ≡ true → first_quoted ps ≡ None → FirstCalm before (sections_of ps)
calm_sections before [] h n = (record { brackets = refl; names = refl }, tt)
calm_sections before (p ∷ ps) h n =
    let parts = both (not (before && is_sign 2 p.token)) (unbracketed (takes_brackets p.token) ps) h in
    let names = none_quoted (is_quoted p.token) p ps n in
    calm_next before p (sections_of ps) parts.0 names.0 (calm_sections (takes_brackets p.token) ps parts.1 names.1)

all_calm : (xs : List (List Placed)) → FirstCalm false xs → AllCalm xs
all_calm [] f = tt
all_calm (s ∷ ss) f = f

denied : (b : Bool) → not b ≡ true → b ≡ false
denied true h = absurd cc
denied false h = refl

no_mark : (t : Token) (b : Bool) → not (takes_brackets t && b) ≡ true → is_word 2 t && b ≡ false
no_mark (Name x) b h = refl
no_mark (Number x) b h = refl
no_mark (Literal x) b h = refl
no_mark (Word k) b h = denied (is_word 2 (Word k) && b) h
no_mark (Sign k) b h = refl

plain_heading : (s : List Placed) → unbracketed false s ≡ true → heading s ≡ plain
plain_heading [] h = refl
plain_heading (p ∷ []) h = refl
plain_heading (p ∷ q ∷ qs) h =
    let test = no_mark p.token (is_sign 2 q.token) (both (not (takes_brackets p.token && is_sign 2 q.token)) (unbracketed (takes_brackets q.token) qs) h).0 in
    rw test refl

all_plain : (names : List (List ℕ)) (ss : List (List Placed)) → AllCalm ss → surveyed names ss ≡ found (record { sections = map (λ s. Some s) ss; generics = [] })
all_plain names [] h = refl
all_plain names (s ∷ ss) h = rw (plain_heading s h.0.brackets, h.0.names, all_plain names ss h.1) refl

-- ---- the walk

no_variable : (t : Token) → name_place [] t ≡ None
no_variable (Name x) = refl
no_variable (Number x) = refl
no_variable (Literal x) = refl
no_variable (Word k) = refl
no_variable (Sign k) = refl

counts_one : (n : ℕ) (p : Placed) (st : State) → st.read + 1 ≤ 4194304 → counted (outside n) p st ≡ found (record { read = st.read + 1; made = st.made })
counts_one n p st h =
    let few : nat_lt 4194304 (st.read + 1) ≡ false = grind (arith, nat_tests) in
    rw (no_variable p.token, few) refl

not_bracketed : (t : Token) (b : Bool) (v l : Option ℕ) (qs : List Placed) → not (takes_brackets t && b) ≡ true
    → (if b then bracketed (name_in t) v l qs else None) ≡ None
not_bracketed t false v l qs h = refl
not_bracketed (Name x) true v l qs h = absurd cc
not_bracketed (Number x) true v l qs h = refl
not_bracketed (Literal x) true v l qs h = refl
not_bracketed (Word k) true v l qs h = refl
not_bracketed (Sign k) true v l qs h = refl

no_use : (n : ℕ) (p : Placed) (ps : List Placed) → unbracketed (takes_brackets p.token) ps ≡ true → use_at (outside n) p ps ≡ None
no_use n p [] h = refl
no_use n p (q ∷ qs) h =
    not_bracketed p.token (is_sign 2 q.token) _ _ qs (both (not (takes_brackets p.token && is_sign 2 q.token)) (unbracketed (takes_brackets q.token) qs) h).0

abbrev read_at : ℕ → List Made → Outcome State PolyEnd
read_at r made = found (record { read = r; made = made })

at_read : (r s : ℕ) (made : List Made) → r ≡ s → read_at r made ≡ read_at s made
at_read r s made h = ap (λ k. read_at k made) h

walked_plain : (make : Use → State → Outcome State PolyEnd) (gs : List Generic) (n : ℕ) (before : Bool) (ps : List Placed) (r : ℕ) (made : List Made)
    → unbracketed before ps ≡ true → r + length ps ≤ 4194304
    → walked (record { generics = gs; scope = outside n; make = make }) 0 ps (record { read = r; made = made }) ≡ found (record { read = r + length ps; made = made })
walked_plain make gs n before [] r made h few = at_read r (r + 0) made (omega arith)
walked_plain make gs n before (p ∷ ps) r made h few =
    let rest = (both (not (before && is_sign 2 p.token)) (unbracketed (takes_brackets p.token) ps) h).1 in
    rw (counts_one n p (record { read = r; made = made }) (omega arith), no_use n p ps rest)
    (walked_plain make gs n (takes_brackets p.token) ps (r + 1) made rest (omega arith) ∙ at_read (r + 1 + length ps) (r + length (p ∷ ps)) made (omega arith))

total : List (List Placed) → ℕ
total [] = 0
total (s ∷ ss) = length s + total ss

walked_all : (n : ℕ) (ss : List (List Placed)) (r : ℕ) (made : List Made) → AllCalm ss → r + total ss ≤ 4194304
    → sections_walked [] n (map (λ s. Some s) ss) (record { read = r; made = made }) ≡ found (record { read = r + total ss; made = made })
unfolding total
walked_all n [] r made h few = at_read r (r + 0) made (omega arith)
walked_all n (s ∷ ss) r made h few =
    rw (walked_plain (making [] n) [] n false s r made h.0.brackets (omega arith))
    (walked_all n ss (r + length s) made h.1 (omega arith) ∙ at_read (r + length s + total ss) (r + (length s + total ss)) made (omega arith))

-- ---- what is written

written_plain : (gs : List Generic) (made : List Made) (n : ℕ) (before : Bool) (ps : List Placed) → unbracketed before ps ≡ true
    → written (record { generics = gs; made = made; scope = outside n }) 0 ps ≡ ps
written_plain gs made n before [] h = refl
written_plain gs made n before (p ∷ ps) h =
    let rest = (both (not (before && is_sign 2 p.token)) (unbracketed (takes_brackets p.token) ps) h).1 in
    rw (no_use n p ps rest, no_variable p.token) (ap (λ (qs : List Placed). p ∷ qs) (written_plain gs made n (takes_brackets p.token) ps rest))

joined : List (List Placed) → List Placed
joined [] = []
joined (s ∷ ss) = s ++ joined ss

written_all : (made : List Made) (n : ℕ) (ss : List (List Placed)) → AllCalm ss → sections_written [] made n (map (λ s. Some s) ss) ≡ joined ss
unfolding joined
written_all made n [] h = refl
written_all made n (s ∷ ss) h = rw (written_plain [] made n false s h.0.brackets) (ap (λ (ps : List Placed). s ++ ps) (written_all made n ss h.1))

joined_opened : (b : Bool) (p : Placed) (s : List Placed) (ss : List (List Placed)) → joined (if b then [] ∷ (p ∷ s) ∷ ss else (p ∷ s) ∷ ss) ≡ p ∷ joined (s ∷ ss)
unfolding joined
joined_opened true p s ss = refl
joined_opened false p s ss = refl

joined_next : (p : Placed) (xs : List (List Placed)) → joined (opened p xs) ≡ p ∷ joined xs
unfolding joined
joined_next p [] = refl
joined_next p (s ∷ ss) = joined_opened (begins p.token) p s ss

joined_sections : (ps : List Placed) → joined (sections_of ps) ≡ ps
unfolding joined
joined_sections [] = refl
joined_sections (p ∷ ps) = joined_next p (sections_of ps) ∙ ap (λ (qs : List Placed). p ∷ qs) (joined_sections ps)

total_opened : (b : Bool) (p : Placed) (s : List Placed) (ss : List (List Placed)) → total (if b then [] ∷ (p ∷ s) ∷ ss else (p ∷ s) ∷ ss) ≡ suc (total (s ∷ ss))
unfolding total
total_opened true p s ss = omega arith
total_opened false p s ss = omega arith

total_next : (p : Placed) (xs : List (List Placed)) → total (opened p xs) ≡ suc (total xs)
unfolding total
total_next p [] = omega arith
total_next p (s ∷ ss) = total_opened (begins p.token) p s ss

total_sections : (ps : List Placed) → total (sections_of ps) ≡ length ps
unfolding total
total_sections [] = refl
total_sections (p ∷ ps) = total_next p (sections_of ps) ∙ ap suc (total_sections ps)

plain_expanded : (l : Listing) → IsPlain l.tokens → expanded l ≡ found l
unfolding expanded
plain_expanded l h =
    let calm = all_calm (sections_of l.tokens) (calm_sections false l.tokens h.brackets h.names) in
    let few : 0 + total (sections_of l.tokens) ≤ 4194304 = omega (arith, total_sections l.tokens, h.few) in
    rw (all_plain [] (sections_of l.tokens) calm, walked_all 0 (sections_of l.tokens) 0 [] calm few, written_all [] 0 (sections_of l.tokens) calm, joined_sections l.tokens) refl

only_memory : (o : Outcome Listing PolyEnd) (l : Listing) (e : PolyEnd) → o ≡ found l → IsFault end.Memory o e → e ≡ end.Memory
only_memory o l end.Memory h k = refl
only_memory o l (end.Generic at) h k = absurd (let f = k (λ n. cc) in cc)
only_memory o l (end.Repeated at) h k = absurd (let f = k (λ n. cc) in cc)
only_memory o l (end.Instance at) h k = absurd (let f = k (λ n. cc) in cc)
only_memory o l (end.Instances at) h k = absurd (let f = k (λ n. cc) in cc)
only_memory o l (end.Long at) h k = absurd (let f = k (λ n. cc) in cc)

-- such a text is answered as it is, though memory may be wanting
pub plain_answer : (l : Listing) (r : Result Listing PolyEnd) → IfOk r (λ out. expanded l ≡ found out) → IfErr r (IsFault end.Memory (expanded l)) → IsPlain l.tokens
    → MatchResult r (λ out. out ≡ l) (λ e. e ≡ end.Memory)
plain_answer l (Ok out) f g h = let same = plain_expanded l h in cc
plain_answer l (Err e) f g h = only_memory (expanded l) l e (plain_expanded l h) g
