-- What one section more does to a survey.
use Rattle.std.proofs.Common.{◌≡◌, ℕ, ◌+◌, ◌<◌, ◌≤◌, Bool, true, false, not, cond, suc, List, [], ◌∷◌, ◌++◌, length, take, drop, get_or, Option, Some, None, refl, ap, sym, ◌∙◌, arith, append_assoc}
use Rattle.std.proofs.lemmas.List.{append-nil, map-append, drop_more, length-drop}
use Rattle.std.proofs.lemmas.List.Folds.{length-prefix_len}
use Rattle.std.specs.List.{list_any, prefix_len, take_while}
use Rattle.std.specs.Prelude.{if◌then◌else◌}
use Rattle.std.specs.Str.{bytes_eq}
use Rattle.m5_lex.specs.declared.place.Place.{Place}
use Rattle.m5_lex.specs.declared.tokens.Placed.{Placed}
use Rattle.m5_terms.specs.Outcome.{Outcome, found, fault, and_then, IsFault}
use Rattle.m5_poly.specs.declared.end.PolyEnd.{PolyEnd}
use Rattle.m5_poly.specs.declared.end.PolyEnd.TheVariants as end
use Rattle.m5_lex.specs.declared.token.Token.TheVariants.{Name}
use Rattle.m5_poly.specs.Roles.{begins, is_word, is_sign}
use Rattle.m5_poly.specs.Survey.{Generic, Sections, plain, bad, nameless, generic, heading, heading_after, listed, first_quoted, surveyed, in_front_of, before_name, names_of, sections_of}
use Rattle.m5_poly.specs.code.Surveying.{followed, going_on, following, StartsSection, Continues, Refuses}

-- ---- lists of variables and headings

two_at : (ts : List Placed) (i : ℕ) (d e : Placed) → i + 1 < length ts → drop i ts ≡ get_or ts i d ∷ (get_or ts (i + 1) e ∷ drop (i + 2) ts)
two_at ts i d e h =
    let further : drop (i + 1 + 1) ts ≡ drop (i + 2) ts = ap (λ k. drop k ts) (omega arith) in
    drop_more ts i d (omega arith) ∙ ap (λ rest. get_or ts i d ∷ rest) (drop_more ts (i + 1) e h ∙ ap (λ rest. get_or ts (i + 1) e ∷ rest) further)

-- one variable more, with a comma behind it
pub listed_more : (seen : List (List ℕ)) (ts : List Placed) (i : ℕ) (p q : Placed) (x : List ℕ) → i + 1 < length ts → p ≡ get_or ts i p → q ≡ get_or ts (i + 1) q
    → p.token ≡ Name x → list_any (bytes_eq x) seen ≡ false → is_sign 3 q.token ≡ false → is_sign 4 q.token ≡ true
    → listed seen (drop i ts) ≡ listed (seen ++ x ∷ []) (drop (i + 2) ts)
listed_more seen ts i p q x h a b name new closing comma = rw (two_at ts i p q h, ← a, ← b, name, new, closing, comma) refl

pub listed_again : (seen : List (List ℕ)) (ts : List Placed) (i : ℕ) (p : Placed) (x : List ℕ) → i + 1 < length ts → p ≡ get_or ts i p
    → p.token ≡ Name x → list_any (bytes_eq x) seen ≡ true → listed seen (drop i ts) ≡ None
listed_again seen ts i p x h a name old = rw (two_at ts i p p h, ← a, name, old) refl

-- a variable and what follows it are two tokens
pub listed_short : (seen : List (List ℕ)) (ts : List Placed) (i : ℕ) → length ts ≤ i + 1 → listed seen (drop i ts) ≡ None
listed_short seen ts i h = few seen (drop i ts) (omega (arith, length-drop i ts))
  where
    few : (seen : List (List ℕ)) (ps : List Placed) → length ps ≤ 1 → listed seen ps ≡ None
    few seen [] k = refl
    few seen (p ∷ []) k = refl
    few seen (p ∷ q ∷ ps) k = absurd (omega arith)

pub headed : (section after qs : List Placed) (p q : Placed) → section ≡ p ∷ after → after ≡ q ∷ qs → is_word 2 p.token ≡ true → is_sign 2 q.token ≡ true
    → heading section ≡ heading_after p.place section (listed [] qs)
headed section after qs p q h k mark bracket = rw (h, k, mark, bracket) refl

pub added_new : (b : Bool) → not b ≡ true → b ≡ false
added_new true h = absurd cc
added_new false h = refl

pub added_old : (b : Bool) → not b ≡ false → b ≡ true
added_old true h = refl
added_old false h = absurd cc

pub added_behind : (b : Bool) (new names more : List (List ℕ)) → b ≡ false → new ≡ (if b then names else more) → new ≡ more
added_behind b new names more h k = rw h at k

-- ---- sections behind others

text_of : List (Option (List Placed)) → List Generic → Outcome Sections PolyEnd
text_of sections generics = found (record { sections = sections; generics = generics })

in_front : (old : Sections) (section : Option (List Placed)) (gs : List Generic) (o : Outcome Sections PolyEnd)
    → followed old (and_then o (in_front_of section gs)) ≡ followed (record { sections = old.sections ++ section ∷ []; generics = old.generics ++ gs }) o
unfolding text_of
in_front old section gs (found text) =
    ap (λ (ss : List (Option (List Placed))). text_of ss (old.generics ++ (gs ++ text.generics))) (sym (append_assoc old.sections (section ∷ []) text.sections))
    ∙ ap (λ (hs : List Generic). text_of ((old.sections ++ section ∷ []) ++ text.sections) hs) (sym (append_assoc old.generics gs text.generics))
in_front old section gs (fault e) = refl

pub plain_continues : (old : Sections) (s : List Placed) → heading s ≡ plain → first_quoted s ≡ None
    → Continues old s (record { sections = old.sections ++ Some s ∷ []; generics = old.generics })
plain_continues old s h q ss =
    rw (h, q) (in_front old (Some s) [] (surveyed (names_of old.generics) ss)
    ∙ ap (λ (gs : List Generic). followed (record { sections = old.sections ++ Some s ∷ []; generics = gs }) (surveyed (names_of old.generics) ss)) (append-nil old.generics))

pub nameless_continues : (old : Sections) (s : List Placed) → heading s ≡ nameless → first_quoted s ≡ None → Continues old s old
nameless_continues old s h q ss = rw (h, q) refl

pub generic_continues : (old : Sections) (s : List Placed) (g : Generic) → heading s ≡ generic g → first_quoted s ≡ None
    → list_any (bytes_eq g.name) (names_of old.generics) ≡ false
    → Continues old s (record { sections = old.sections ++ None ∷ []; generics = old.generics ++ g ∷ [] })
generic_continues old s g h q new ss =
    rw (h, new, q) (in_front old None (g ∷ []) (surveyed (names_of old.generics ++ g.name ∷ []) ss)
    ∙ ap (λ (names : List (List ℕ)). followed (record { sections = old.sections ++ None ∷ []; generics = old.generics ++ g ∷ [] }) (surveyed names ss))
    (sym (map-append (λ (x : Generic). x.name) old.generics (g ∷ []))))

-- ---- refusals

pub memory_refuses : (old : Sections) (s : List Placed) (e : PolyEnd) → e ≡ end.Memory → Refuses old s e
memory_refuses old s e h ss n = absurd (n h)

pub plain_refuses : (old : Sections) (s : List Placed) (at : Place) (e : PolyEnd) → heading s ≡ plain → first_quoted s ≡ Some at → e ≡ end.Generic at → Refuses old s e
plain_refuses old s at e h q is ss n = rw (h, q, is) refl

pub nameless_refuses : (old : Sections) (s : List Placed) (at : Place) (e : PolyEnd) → heading s ≡ nameless → first_quoted s ≡ Some at → e ≡ end.Generic at → Refuses old s e
nameless_refuses old s at e h q is ss n = rw (h, q, is) refl

pub bad_refuses : (old : Sections) (s : List Placed) (at : Place) → heading s ≡ bad at → Refuses old s (end.Generic at)
bad_refuses old s at h ss n = rw h refl

pub generic_refuses : (old : Sections) (s : List Placed) (g : Generic) (at : Place) (e : PolyEnd) → heading s ≡ generic g
    → list_any (bytes_eq g.name) (names_of old.generics) ≡ false → first_quoted s ≡ Some at → e ≡ end.Generic at → Refuses old s e
generic_refuses old s g at e h new q is ss n = rw (h, new, q, is) refl

pub again_refuses : (old : Sections) (s : List Placed) (g : Generic) (at : Place) (e : PolyEnd) → heading s ≡ generic g
    → list_any (bytes_eq g.name) (names_of old.generics) ≡ true → first_quoted (before_name s g) ≡ Some at → e ≡ end.Generic at → Refuses old s e
again_refuses old s g at e h again q is ss n = rw (h, again, q, is) refl

pub repeated_refuses : (old : Sections) (s : List Placed) (g : Generic) → heading s ≡ generic g
    → list_any (bytes_eq g.name) (names_of old.generics) ≡ true → first_quoted (before_name s g) ≡ None → Refuses old s (end.Repeated g.own.place)
repeated_refuses old s g h again q ss n = rw (h, again, q) refl

-- ---- sections of a text

abbrev goes_on : Placed → Bool
goes_on p = not (begins p.token)

split_at : (b : Bool) (p : Placed) (ps : List Placed) (n : ℕ) → begins p.token ≡ b
    → sections_of ps ≡ take n ps ∷ following (sections_of (drop n ps))
    → sections_of (p ∷ ps) ≡ take (cond (not b) (1 + n) 0) (p ∷ ps) ∷ following (sections_of (drop (cond (not b) (1 + n) 0) (p ∷ ps)))
split_at true p ps n is h = rw (h, is) refl
split_at false p ps n is h = let e : 1 + n ≡ suc n = omega arith in rw (e, h, is) refl

-- the first section is what stands before the next beginning
sections_split : (ps : List Placed) → sections_of ps ≡ take (prefix_len goes_on ps) ps ∷ following (sections_of (drop (prefix_len goes_on ps) ps))
sections_split [] = refl
sections_split (p ∷ ps) = split_at (begins p.token) p ps (prefix_len goes_on ps) refl (sections_split ps)

starts_at : (b : Bool) (p : Placed) (ps : List Placed) (n : ℕ) → begins p.token ≡ b → StartsSection (drop n ps) → StartsSection (drop (cond (not b) (1 + n) 0) (p ∷ ps))
starts_at true p ps n is h = is
starts_at false p ps n is h = let e : 1 + n ≡ suc n = omega arith in rw e h

-- and behind it the next one begins
section_starts : (ps : List Placed) → StartsSection (drop (prefix_len goes_on ps) ps)
section_starts [] = tt
section_starts (p ∷ ps) = starts_at (begins p.token) p ps (prefix_len goes_on ps) refl (section_starts ps)

-- a section from its `fun` or `main` on
next_section : (rest more : List Placed) (p : Placed) (n : ℕ) → rest ≡ p ∷ more → begins p.token ≡ true → n ≡ 1 + prefix_len goes_on more
    → following (sections_of rest) ≡ take n rest ∷ following (sections_of (drop n rest))
next_section rest more p n h is count =
    let e : n ≡ suc (prefix_len goes_on more) = omega arith in
    rw (h, e, sections_split more, is) refl

next_starts : (rest more : List Placed) (p : Placed) (n : ℕ) → rest ≡ p ∷ more → n ≡ 1 + prefix_len goes_on more → StartsSection (drop n rest)
next_starts rest more p n h count =
    let e : n ≡ suc (prefix_len goes_on more) = omega arith in
    rw (h, e) (section_starts more)

head_starts : (rest more : List Placed) (p : Placed) → rest ≡ p ∷ more → StartsSection rest → begins p.token ≡ true
head_starts rest more p h k = rw h at k

behind_nothing : (o : Outcome Sections PolyEnd) → followed (record { sections = []; generics = [] }) o ≡ o
behind_nothing (found text) = refl
behind_nothing (fault e) = refl

pub before_nothing : (front : Sections) → going_on front [] ≡ found front
unfolding text_of
before_nothing front =
    ap (λ (ss : List (Option (List Placed))). text_of ss (front.generics ++ [])) (append-nil front.sections)
    ∙ ap (λ (gs : List Generic). text_of front.sections gs) (append-nil front.generics)

counts : (n : ℕ) (ps : List Placed) → n ≡ length (take_while goes_on ps) → n ≡ prefix_len goes_on ps
counts n ps h = h ∙ length-prefix_len goes_on ps

empty : (text : Sections) → text.sections ≡ [] → text.generics ≡ [] → text ≡ record { sections = []; generics = [] }
empty text ss gs i = record { sections = ss i; generics = gs i }

-- the text begins with what stands before its first section
pub begun : (tokens front back : List Placed) (n : ℕ) (text : Sections) → text.sections ≡ [] → text.generics ≡ []
    → n ≡ length (take_while goes_on tokens) → front ≡ take n tokens → back ≡ drop n tokens
    → (surveyed [] (sections_of tokens) ≡ going_on text (front ∷ following (sections_of back))) × StartsSection back
begun tokens front back n text ss gs h f b =
    let count : n ≡ prefix_len goes_on tokens = counts n tokens h in
    let nothing : text ≡ record { sections = []; generics = [] } = empty text ss gs in
    (rw (f, b, count, nothing) (ap (λ (ss : List (List Placed)). surveyed [] ss) (sections_split tokens) ∙ sym (behind_nothing _)), rw (b, count) (section_starts tokens))

-- and goes on with its next one
pub one_more : (text : Sections) (rest more front back : List Placed) (p : Placed) (n : ℕ) → rest ≡ p ∷ more → StartsSection rest
    → n ≡ length (take_while goes_on more) → front ≡ take (1 + n) rest → back ≡ drop (1 + n) rest
    → (going_on text (following (sections_of rest)) ≡ going_on text (front ∷ following (sections_of back))) × StartsSection back
one_more text rest more front back p n h k count f b =
    let counted : 1 + n ≡ 1 + prefix_len goes_on more = ap (λ m. 1 + m) (counts n more count) in (
      rw (f, b) (ap (λ (ss : List (List Placed)). going_on text ss) (next_section rest more p (1 + n) h (head_starts rest more p h k) counted)),
      rw b (next_starts rest more p (1 + n) h counted),
    )

pub refused_there : (text : Sections) (section : List Placed) (ss : List (List Placed)) (o : Outcome Sections PolyEnd) (e : PolyEnd)
    → o ≡ going_on text (section ∷ ss) → Refuses text section e → IsFault end.Memory o e
refused_there text section ss o e h k n = h ∙ k ss n
