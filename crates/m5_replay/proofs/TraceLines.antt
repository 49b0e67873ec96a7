-- The lines of a trace's text: one for each deed, and the last one, which names no place.
use Rattle.std.proofs.Common.{◌≡◌, ℕ, zero, suc, ◌+◌, ◌/◌, ◌%◌, ◌==◌, Bool, true, false, nat_lt, if◌then◌else◌, List, [], ◌∷◌, ◌++◌, map, sum_by, Some, None, refl, sym, ap, ◌∙◌, append_assoc, append-nil, arith}
use Rattle.std.specs.Prelude.{codes}
use Rattle.std.specs.List.{flat_map, list_all}
use Rattle.std.specs.Fmt.{decimal, digits}
use Rattle.std.specs.Fmt.{digit_glyph, digits_onto}
use Rattle.std.proofs.lemmas.List.Folds.{list_all-append}
use Rattle.std.proofs.lemmas.Bool.Decides.{nat_tests}
use Rattle.m5_terms.specs.Quoted.{escaping, quotation}
use Rattle.m5_terms.specs.declared.types.World.{World}
use Rattle.m5_terms.specs.declared.types.World.TheVariants.{Home, Server, Panel, Any}
use Rattle.m5_terms.specs.declared.ask.Act.{Act}
use Rattle.m5_terms.specs.declared.ask.Act.TheVariants as act
use Rattle.m5_terms.specs.declared.ask.Cause.{Cause}
use Rattle.m5_terms.specs.declared.ask.Cause.TheVariants.{Spent, Region, Table}
use Rattle.m5_terms.specs.declared.ask.Entry.{Entry}
use Rattle.m5_meaning.specs.Site.{Item}
use Rattle.m5_script.specs.Fields.{◌>>=◌, number_of, world_of}
use Rattle.m5_script.specs.Trace.{world_word, cause_word, words_of, site_words, line_of, last_words, trace_of}
use Rattle.m5_network.specs.Claim.{has_seal, stop_count, ending}
use Rattle.m5_network.specs.Entries.{Deed, entry_of}
use Rattle.m5_replay.specs.Lines.{before, lines, first_word, after_word, place_at, place_named}
use Rattle.m5_replay.specs.Fitting.{deed_line, due_line}
use Rattle.m5_replay.specs.Laws.{entries_of, history_of}
use Rattle.m5_replay.specs.code.Cutting.{in_line}
use Rattle.m5_replay.proofs.Named.{parted-word}

-- no byte of these ends a line
abbrev IsOneLine : List ℕ → Type 0
IsOneLine xs = list_all in_line xs ≡ true

both : (xs ys : List ℕ) → IsOneLine xs → IsOneLine ys → IsOneLine (xs ++ ys)
both xs ys h k = rw (list_all-append in_line xs ys, h, k) refl

-- ---- the words of a line

glyph-stays : (d : ℕ) → in_line (digit_glyph false d) ≡ true
glyph-stays d = by (nat_lt d 10)
  where
    by : (b : Bool) → in_line (if b then 48 + d else 87 + d) ≡ true
    by true = grind (arith, nat_tests)
    by false = grind (arith, nat_tests)

one-more : (n : ℕ) (end : List ℕ) → IsOneLine end → IsOneLine (digit_glyph false (n % 10) ∷ end)
one-more n end h = rw (glyph-stays (n % 10), h) refl

digits-stay : (k n : ℕ) (end : List ℕ) → IsOneLine end → IsOneLine (digits_onto k 10 false n end)
digits-stay zero n end h = h
digits-stay (suc k) n end h = by (one-more n end h) (digits-stay k (n / 10) (digit_glyph false (n % 10) ∷ end) (one-more n end h)) (n / 10 == 0)
  where
    by : IsOneLine (digit_glyph false (n % 10) ∷ end) → IsOneLine (digits_onto k 10 false (n / 10) (digit_glyph false (n % 10) ∷ end)) → (b : Bool) → IsOneLine (if b then digit_glyph false (n % 10) ∷ end else digits_onto k 10 false (n / 10) (digit_glyph false (n % 10) ∷ end))
    by last more true = last
    by last more false = more

decimal-stays : (n : ℕ) → IsOneLine (decimal n)
unfolding digits
decimal-stays n = digits-stay 64 n [] refl

escaping-stays : (x : ℕ) → IsOneLine (escaping x)
escaping-stays x = by (x == 34) (x == 92) (x == 10) (x == 9) refl
  where
    by : (a b c d : Bool) → (x == 10) ≡ c → IsOneLine (if a then codes "\\\"" else if b then codes "\\\\" else if c then codes "\\n" else if d then codes "\\t" else x ∷ [])
    by true b c d e = refl
    by false true c d e = refl
    by false false true d e = refl
    by false false false true e = refl
    by false false false false e = rw e refl

escapes-stay : (xs : List ℕ) → IsOneLine (flat_map escaping xs)
escapes-stay [] = refl
escapes-stay (x ∷ xs) = both (escaping x) (flat_map escaping xs) (escaping-stays x) (escapes-stay xs)

quotation-stays : (text : List ℕ) → IsOneLine (quotation text)
quotation-stays text = both (codes "\"" ++ flat_map escaping text) (codes "\"") (both (codes "\"") (flat_map escaping text) refl (escapes-stay text)) refl

world-stays : (w : World) → IsOneLine (world_word w)
world-stays Home = refl
world-stays Server = refl
world-stays Panel = refl
world-stays Any = refl

cause-stays : (c : Cause) → IsOneLine (cause_word c)
cause-stays Spent = refl
cause-stays Region = refl
cause-stays Table = refl

one-text : (word text : List ℕ) → IsOneLine word → IsOneLine (word ++ quotation text)
one-text word text h = both word (quotation text) h (quotation-stays text)

two-texts : (word a b : List ℕ) → IsOneLine word → IsOneLine (word ++ quotation a ++ codes " " ++ quotation b)
two-texts word a b h = one-text (word ++ quotation a ++ codes " ") b (both (word ++ quotation a) (codes " ") (one-text word a h) refl)

words-stay : (a : Act) → IsOneLine (words_of a)
words-stay (act.Say t) = one-text (codes "say ") t refl
words-stay (act.Set e t) = two-texts (codes "set ") e t refl
words-stay (act.GetText e t) = two-texts (codes "text ") e t refl
words-stay (act.On e) = one-text (codes "on ") e refl
words-stay (act.ReadNone k) = both (codes "read " ++ quotation k) (codes " none") (one-text (codes "read ") k refl) refl
words-stay (act.ReadSome k t) = two-texts (codes "read ") k t refl
words-stay (act.Write k t) = two-texts (codes "write ") k t refl
words-stay (act.Watch k) = one-text (codes "watch ") k refl
words-stay (act.Show t) = one-text (codes "show ") t refl
words-stay (act.Send v) = both (codes "send ") (world_word v) refl (world-stays v)
words-stay (act.Take v) = both (codes "take ") (world_word v) refl (world-stays v)
words-stay act.Refuse = refl
words-stay (act.Fire k) = one-text (codes "fire ") k refl
words-stay (act.Event e t) = two-texts (codes "event ") e t refl
words-stay (act.Stop c) = both (codes "stop ") (cause_word c) refl (cause-stays c)

site-stays : (s : ℕ) (w : World) → IsOneLine (site_words s w)
site-stays s w = both (decimal s ++ codes " ") (world_word w) (both (decimal s) (codes " ") (decimal-stays s) refl) (world-stays w)

entry-stays : (e : Entry) → IsOneLine (site_words e.session e.world ++ codes " " ++ words_of e.act)
entry-stays e = both (site_words e.session e.world ++ codes " ") (words_of e.act) (both (site_words e.session e.world) (codes " ") (site-stays e.session e.world) refl) (words-stay e.act)

last-stays : (n : ℕ) → IsOneLine (last_words (ending n))
last-stays zero = refl
last-stays (suc n) = both (codes "stopped ") (decimal (suc n)) refl (decimal-stays (suc n))

-- ---- the lines of a text

first-line : (xs ys : List ℕ) → IsOneLine xs → lines ((xs ++ codes "\n") ++ ys) ≡ (xs ++ codes "\n") ∷ lines ys
first-line [] ys h = refl
first-line (x ∷ xs) ys h = by (first-line xs ys) (x == 10) refl
  where
    by : (IsOneLine xs → lines ((xs ++ codes "\n") ++ ys) ≡ (xs ++ codes "\n") ∷ lines ys) → (c : Bool) → (x == 10) ≡ c → lines (x ∷ ((xs ++ codes "\n") ++ ys)) ≡ (x ∷ (xs ++ codes "\n")) ∷ lines ys
    by rest true e = let k : false ≡ true = rw e at h in cc
    by rest false e = let k : IsOneLine xs = rw e at h in rw e (ap (before x) (rest k))

deed-lines : (ds : List (Deed Item)) (xs : List ℕ) → IsOneLine xs → lines (flat_map line_of (entries_of ds) ++ (xs ++ codes "\n")) ≡ map deed_line ds ++ (xs ++ codes "\n") ∷ []
deed-lines [] xs h = ap lines (sym (append-nil (xs ++ codes "\n"))) ∙ first-line xs [] h
deed-lines (d ∷ ds) xs h =
    let e : Entry = entry_of has_seal d in
    let rest : List ℕ = flat_map line_of (entries_of ds) ++ (xs ++ codes "\n") in
    ap lines (append_assoc (line_of e) (flat_map line_of (entries_of ds)) (xs ++ codes "\n")) ∙ first-line (site_words e.session e.world ++ codes " " ++ words_of e.act) rest (entry-stays e) ∙ ap (λ ls. deed_line d ∷ ls) (deed-lines ds xs h)

abbrev stops : List (Deed Item) → ℕ
stops ds = sum_by (λ (e : Entry). stop_count e.act) (entries_of ds)

pub trace-lines : (ds : List (Deed Item)) → lines (trace_of (history_of ds)) ≡ map deed_line ds ++ due_line ds ∷ []
trace-lines ds = ap lines (append_assoc (flat_map line_of (entries_of ds)) (last_words (ending (stops ds))) (codes "\n")) ∙ deed-lines ds (last_words (ending (stops ds))) (last-stays (stops ds))

-- ---- the last line names no place

no-number : (line word : List ℕ) → first_word line ≡ word → number_of word ≡ None → place_named line ≡ None
no-number line word e n =
    let k : number_of (first_word line) ≡ None = ap number_of e ∙ n in
    λ i. (k i >>= λ session. world_of (first_word (after_word line)) >>= λ world. Some (record { session = session; world = world })) >>= λ x. Some (place_at line x)

ending-unnamed : (n : ℕ) → place_named (last_words (ending n) ++ codes "\n") ≡ None
ending-unnamed zero = no-number (codes "rest\n") (codes "rest") (parted-word (codes "rest") 10 [] refl refl).0 refl
ending-unnamed (suc n) = no-number (codes "stopped " ++ decimal (suc n) ++ codes "\n") (codes "stopped") (parted-word (codes "stopped") 32 (decimal (suc n) ++ codes "\n") refl refl).0 refl

pub due-unnamed : (ds : List (Deed Item)) → place_named (due_line ds) ≡ None
due-unnamed ds = ending-unnamed (stops ds)
