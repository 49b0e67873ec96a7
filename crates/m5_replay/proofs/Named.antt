-- The line of an entry names the entry's place.
use Rattle.std.proofs.Common.{◌≡◌, ◌≢◌, ℕ, zero, suc, ◌+◌, ◌<◌, ◌≤◌, ◌==◌, min, Bool, true, false, List, [], ◌∷◌, ◌++◌, length, take, drop, get_or, Option, Some, refl, ap, ◌∙◌, append_assoc, arith}
use Rattle.std.specs.Prelude.{codes}
use Rattle.std.specs.Char.{digit_value}
use Rattle.std.specs.Fmt.{decimal}
use Rattle.std.specs.List.{list_all, prefix_len}
use Rattle.std.specs.Str.Parse.{AllDigits, digits_value}
use Rattle.std.proofs.Math.Seq.{take-append_seam, drop-append-add}
use Rattle.std.proofs.lemmas.Bool.Decides.{nat_tests}
use Rattle.std.proofs.lemmas.Fmt.{decimal_digit, decimal_is_IsNumeral, first_decimal}
use Rattle.std.proofs.lemmas.List.Folds.{length-prefix_len}
use Rattle.std.proofs.lemmas.Str.Parse.{digit_from_value}
use Rattle.m5_terms.specs.Decimal.{is_digit}
use Rattle.m5_terms.specs.declared.types.World.{World}
use Rattle.m5_terms.specs.declared.types.World.TheVariants.{Home, Server, Panel, Any}
use Rattle.m5_terms.specs.declared.ask.Act.{Act}
use Rattle.m5_terms.specs.declared.ask.Act.TheVariants as act
use Rattle.m5_terms.specs.declared.ask.Cause.{Cause}
use Rattle.m5_terms.specs.declared.ask.Cause.TheVariants.{Spent, Region, Table}
use Rattle.m5_script.specs.Fields.{◌>>=◌, span, is_number, number_cap, number_of, world_of}
use Rattle.m5_script.specs.Trace.{world_word, words_of, line_of}
use Rattle.m5_script.specs.declared.items.SiteName.{SiteName}
use Rattle.m5_network.specs.Claim.{chosen_cause, place_of}
use Rattle.m5_network.specs.Run.{Place}
use Rattle.m5_replay.specs.Lines.{in_word, first_word, after_word, cause_of, cause_named, place_named}
use Rattle.m5_replay.proofs.Lines.{one_more, no_more}

-- a word up to a byte that ends it, and what follows
word_ends : (xs : List ℕ) (y : ℕ) (ys : List ℕ) → list_all in_word xs ≡ true → in_word y ≡ false → prefix_len in_word (xs ++ y ∷ ys) ≡ length xs
word_ends [] y ys h e = no_more in_word y ys e
word_ends (x ∷ xs) y ys h e = by (λ k. word_ends xs y ys k e) (in_word x) refl
  where
    by : (list_all in_word xs ≡ true → prefix_len in_word (xs ++ y ∷ ys) ≡ length xs) → (c : Bool) → in_word x ≡ c → prefix_len in_word (x ∷ (xs ++ y ∷ ys)) ≡ suc (length xs)
    by rest true d =
        let k : list_all in_word xs ≡ true = rw d at h in
        one_more in_word x (xs ++ y ∷ ys) d ∙ ap suc (rest k)
    by rest false d = let k : false ≡ true = rw d at h in cc

pub parted-word : (xs : List ℕ) (y : ℕ) (ys : List ℕ) → list_all in_word xs ≡ true → in_word y ≡ false → (first_word (xs ++ y ∷ ys) ≡ xs) × (after_word (xs ++ y ∷ ys) ≡ ys)
parted-word xs y ys h e =
    let n : span in_word (xs ++ y ∷ ys) ≡ length xs = length-prefix_len in_word (xs ++ y ∷ ys) ∙ word_ends xs y ys h e in
    let first : take (length xs) (xs ++ y ∷ ys) ≡ xs = take-append_seam xs (y ∷ ys) in
    let after : drop (length xs + 1) (xs ++ y ∷ ys) ≡ ys = drop-append-add xs (y ∷ ys) 1 in
    (ap (λ (m : ℕ). take m (xs ++ y ∷ ys)) n ∙ first, ap (λ (m : ℕ). drop (m + 1) (xs ++ y ∷ ys)) n ∙ after)

-- the decimal of a session's number is read back, and has no blank in it
digit_is : (x : ℕ) → digit_value x < 10 → (is_digit x ≡ true) × (in_word x ≡ true)
digit_is x h = let within = digit_from_value x h in (grind (arith, nat_tests), grind (arith, nat_tests))

digits_are : (ds : List ℕ) → AllDigits 10 ds → (list_all is_digit ds ≡ true) × (list_all in_word ds ≡ true)
digits_are [] h = (refl, refl)
digits_are (x ∷ ds) h = let k = digit_is x h.0 in let r = digits_are ds h.1 in (rw (k.0, r.0) refl, rw (k.1, r.1) refl)

numeral_is : (ds : List ℕ) → AllDigits 10 ds → 0 < length ds → 48 < get_or ds 0 0 → is_number ds ≡ true
numeral_is [] h l f = absurd (omega (arith, l))
numeral_is (x ∷ []) h l f = (digit_is x h.0).0
numeral_is (x ∷ y ∷ ds) h l f =
    let d : (x == 48) ≡ false = grind (arith, nat_tests, f) in
    let k = (digits_are (x ∷ y ∷ ds) h).0 in
    rw d k

decimal_is : (s : ℕ) → s ≤ 32 → is_number (decimal s) ≡ true
decimal_is zero l = ap is_number (decimal_digit 0 (omega arith))
decimal_is (suc n) l =
    let numeral = (decimal_is_IsNumeral (suc n) (omega (arith, l))).0 in
    numeral_is (decimal (suc n)) numeral.1 numeral.0 (first_decimal (suc n) (omega arith) (omega (arith, l)))

number-back : (s : ℕ) → s ≤ 32 → (list_all in_word (decimal s) ≡ true) × (number_of (decimal s) ≡ Some s)
number-back s l =
    let numeral = decimal_is_IsNumeral s (omega (arith, l)) in
    let is : is_number (decimal s) ≡ true = decimal_is s l in
    let small : min number_cap s ≡ s = omega (arith, l) in
    let few : min number_cap (digits_value 10 (decimal s)) ≡ s = ap (min number_cap) numeral.1 ∙ small in
    ((digits_are (decimal s) numeral.0.1).1, rw is (ap Some few))

world-back : (w : World) → w ≢ Any → (list_all in_word (world_word w) ≡ true) × (world_of (world_word w) ≡ Some w)
world-back Home n = (refl, refl)
world-back Server n = (refl, refl)
world-back Panel n = (refl, refl)
world-back Any n = absurd (n refl)

cause-back : (a : Act) → cause_of (words_of a ++ codes "\n") ≡ chosen_cause a
cause-back (act.Say t) = refl
cause-back (act.Set e t) = refl
cause-back (act.GetText e t) = refl
cause-back (act.On e) = refl
cause-back (act.ReadNone k) = refl
cause-back (act.ReadSome k t) = refl
cause-back (act.Write k t) = refl
cause-back (act.Watch k) = refl
cause-back (act.Show t) = refl
cause-back (act.Send v) = refl
cause-back (act.Take v) = refl
cause-back act.Refuse = refl
cause-back (act.Fire k) = refl
cause-back (act.Event e t) = refl
cause-back (act.Stop Spent) = refl
cause-back (act.Stop Region) = refl
cause-back (act.Stop Table) = refl

regrouped : (d w t : List ℕ) → ((((d ++ 32 ∷ []) ++ w) ++ 32 ∷ []) ++ t) ++ 10 ∷ [] ≡ d ++ 32 ∷ (w ++ 32 ∷ (t ++ 10 ∷ []))
regrouped d w t = simp append_assoc

abbrev place_from : Option ℕ → Option World → Option Cause → Option Place
place_from number world cause =
    let named : ℕ → World → Option SiteName = λ s w. Some (record { session = s; world = w }) in
    let placed : SiteName → Option Place = λ x. Some (record { session = x.session; world = x.world; cause = cause }) in
    (number >>= λ s. world >>= λ w. named s w) >>= placed

pub line-names : (s : ℕ) (w : World) (a : Act) → s ≤ 32 → w ≢ Any → place_named (line_of (record { session = s; world = w; act = a })) ≡ Some (place_of (record { session = s; world = w; act = a }))
line-names s w a l n =
    let T : List ℕ = words_of a ++ codes "\n" in
    let R : List ℕ = world_word w ++ 32 ∷ T in
    let L : List ℕ = line_of (record { session = s; world = w; act = a }) in
    let g : L ≡ decimal s ++ 32 ∷ R = regrouped (decimal s) (world_word w) (words_of a) in
    let f = parted-word (decimal s) 32 R (number-back s l).0 refl in
    let k = parted-word (world_word w) 32 T (world-back w n).0 refl in
    let number : number_of (first_word L) ≡ Some s = ap (λ x. number_of (first_word x)) g ∙ (ap number_of f.0 ∙ (number-back s l).1) in
    let rest : after_word L ≡ R = ap after_word g ∙ f.1 in
    let world : world_of (first_word (after_word L)) ≡ Some w = ap (λ x. world_of (first_word x)) rest ∙ (ap world_of k.0 ∙ (world-back w n).1) in
    let cause : cause_named L ≡ chosen_cause a = ap (λ x. cause_of (after_word x)) rest ∙ (ap cause_of k.1 ∙ cause-back a) in
    λ i. place_from (number i) (world i) (cause i)
