-- A text is read line by line.
use Rattle.std.proofs.Common.{◌≡◌, ◌≢◌, ℕ, ◌+◌, ◌≤◌, ◌<◌, eqb, List, [], ◌∷◌, length, take, drop, Ok, Err, refl, ap, sym, ◌∙◌, arith}
use Rattle.std.specs.List.{slice_split, position_or_len}
use Rattle.std.specs.Str.Lines.{lines, lines_of_parts, strip_carriage_return}
use Rattle.std.proofs.lemmas.Bool.Decides.{nat_tests}
use Rattle.std.proofs.lemmas.List.{drop_all, take_all, drop-drop, length-drop}
use Rattle.std.proofs.lemmas.List.Folds.{length-prefix_len}
use Rattle.std.proofs.lemmas.List.Sums.{fails_before_first}
use Rattle.std.proofs.lemmas.List.Splits.{slice_split_first, slice_split_none, length-slice_split}
use Rattle.m5_script.specs.declared.reading.LineKind.{LineKind}
use Rattle.m5_script.specs.declared.reading.Reading.{Reading}
use Rattle.m5_script.specs.declared.read.ScriptEnd.{ScriptEnd}
use Rattle.m5_script.specs.declared.read.ScriptEnd.TheVariants.{Line, Memory}
use Rattle.m5_script.specs.Fields.{span}
use Rattle.m5_script.specs.Reading.{fresh, finished, IsReading}
use Rattle.m5_script.proofs.Rules.{fresh_holds}
use Rattle.m5_script.specs.Script.{in_line, after_line, read_lines, in_full, script_of, Ends, EndsLine}

pub strip_nothing : (l : List ℕ) → length l ≡ 0 → l ≡ strip_carriage_return l
strip_nothing [] h = refl
strip_nothing (x ∷ l) h = absurd (omega arith)

-- ---- the first line

parts-cons : (x : List ℕ) (parts : List (List ℕ)) → 0 < length parts → lines_of_parts (x ∷ parts) ≡ strip_carriage_return x ∷ lines_of_parts parts
parts-cons x [] h = absurd (omega arith)
parts-cons x (y ∷ more) h = refl

only_part : (x : List ℕ) → 0 < length x → lines_of_parts (x ∷ []) ≡ x ∷ []
only_part [] h = absurd (omega arith)
only_part (b ∷ x) h = grind (arith, nat_tests)

pub last_line : (s line : List ℕ) (n : ℕ) → 0 < length s → n ≡ span in_line s → n ≡ length s → line ≡ take n s → lines s ≡ line ∷ lines (drop n s)
last_line s line n some count all is =
    let same : span in_line s ≡ position_or_len (λ (b : ℕ). eqb b 10) s = length-prefix_len in_line s in
    let none : slice_split (λ (b : ℕ). eqb b 10) s ≡ s ∷ [] = slice_split_none (λ (b : ℕ). eqb b 10) s (λ k d near. fails_before_first (λ (b : ℕ). eqb b 10) s k d (omega arith)) in
    let whole : line ≡ s = is ∙ take_all n s (omega arith) in
    let past : drop n s ≡ [] = drop_all n s (omega arith) in
    ap lines_of_parts none ∙ only_part s some ∙ ap (λ (l : List ℕ). l ∷ []) (sym whole) ∙ ap (λ (r : List ℕ). line ∷ lines r) (sym past)

pub more_lines : (s line stripped : List ℕ) (n : ℕ) → n ≡ span in_line s → n ≤ length s → n ≢ length s → line ≡ take n s → stripped ≡ strip_carriage_return line
    → lines s ≡ stripped ∷ lines (drop (n + 1) s)
more_lines s line stripped n count most less is strip =
    let p = λ (b : ℕ). eqb b 10 in
    let same : n ≡ position_or_len p s = count ∙ length-prefix_len in_line s in
    let near : position_or_len p s < length s = omega arith in
    let rest : List ℕ = drop (n + 1) s in
    let first : slice_split p s ≡ take n s ∷ slice_split p rest = rw same (slice_split_first p s 0 near) in
    ap lines_of_parts first ∙ parts-cons (take n s) (slice_split p rest) (omega (arith, length-slice_split p rest))
    ∙ ap (λ (l : List ℕ). strip_carriage_return l ∷ lines rest) (sym is) ∙ ap (λ (l : List ℕ). l ∷ lines rest) (sym strip)

-- ---- the lines in turn

-- the lines so far were taken, and the others are read on
pub record SoFar (text : List ℕ) (at number : ℕ) (reading : Reading) : Type 0 where
  pub on : read_lines number reading (lines (drop at text)) ≡ read_lines 1 fresh (lines text)
  pub holds : IsReading reading
  pub within : at ≤ length text
  pub counted : number ≤ at + 1

pub begins : (text : List ℕ) (r : Reading) → r ≡ fresh → SoFar text 0 1 r
begins text r e = rw e (record { on = refl; holds = fresh_holds; within = omega arith; counted = omega arith })

goes_on : (text : List ℕ) (at number : ℕ) (old : Reading) (rest line more : List ℕ) → SoFar text at number old → rest ≡ drop at text → lines rest ≡ line ∷ lines more
    → read_lines number old (line ∷ lines more) ≡ read_lines 1 fresh (lines text)
goes_on text at number old rest line more h is first = ap (read_lines number old) (sym first ∙ ap lines is) ∙ h.on

takes : (number : ℕ) (old new : Reading) (line : List ℕ) (others : List (List ℕ)) → after_line old line ≡ Ok new → read_lines number old (line ∷ others) ≡ read_lines (number + 1) new others
takes number old new line others e = rw e refl

refuses : (number : ℕ) (old : Reading) (kind : LineKind) (line : List ℕ) (others : List (List ℕ)) → after_line old line ≡ Err kind → read_lines number old (line ∷ others) ≡ Err (record { line = number; kind = kind })
refuses number old kind line others e = rw e refl

pub line_taken : (text : List ℕ) (at number n : ℕ) (old new : Reading) (rest line : List ℕ) → SoFar text at number old → rest ≡ drop at text → 0 < n → n ≤ length rest
    → lines rest ≡ line ∷ lines (drop n rest) → after_line old line ≡ Ok new → IsReading new → SoFar text (at + n) (number + 1) new
line_taken text at number n old new rest line h is some most first step holds =
    let there : drop n rest ≡ drop (at + n) text = ap (drop n) is ∙ drop-drop n at text in
    record {
      on = ap (λ (r : List ℕ). read_lines (number + 1) new (lines r)) (sym there) ∙ sym (takes number old new line (lines (drop n rest)) step) ∙ goes_on text at number old rest line (drop n rest) h is first;
      holds = holds;
      within = omega (arith, length-drop at text, ap length is, h.within);
      counted = omega (arith, h.counted);
    }

pub line_refused : (end : ScriptEnd) (text : List ℕ) (at number n : ℕ) (old : Reading) (rest line : List ℕ) → SoFar text at number old → rest ≡ drop at text
    → lines rest ≡ line ∷ lines (drop n rest) → EndsLine end number (after_line old line) → Ends end (script_of text)
unfolding script_of
line_refused Memory text at number n old rest line h is first step = tt
line_refused (Line m kind) text at number n old rest line h is first step =
    let fault : read_lines number old (line ∷ lines (drop n rest)) ≡ Err (record { line = m; kind = kind }) = rw step.0 (refuses number old kind line (lines (drop n rest)) step.1) in
    ap in_full (sym (goes_on text at number old rest line (drop n rest) h is first) ∙ fault)

pub all_taken : (text : List ℕ) (at number : ℕ) (r : Reading) → SoFar text at number r → length text ≤ at → script_of text ≡ Ok (finished r)
unfolding script_of
all_taken text at number r h past =
    let none : drop at text ≡ [] = drop_all at text past in
    ap in_full (sym h.on ∙ ap (λ (s : List ℕ). read_lines number r (lines s)) none)
