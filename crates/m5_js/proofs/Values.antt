-- The value of an instruction is guessed where it is spelled.
use Rattle.std.proofs.Common.{◌≡◌, ℕ, zero, suc, pos, negsuc, ◌-◌, ◌<◌, ◌≤◌, ◌^◌, ◌∙◌, List, [], ◌∷◌, ◌++◌, length, drop, refl, ap, sym, subst, arith, append_assoc, length-append, Option, Some, None, Bool, true, false, nat_le, nat_lt, ◌||◌, ◌==◌, if◌then◌else◌, FitsSigned, slice_index, inl, inr, codes}
use Rattle.std.specs.List.{flat_map, AllPass}
use Rattle.std.specs.Fmt.{decimal}
use Rattle.std.specs.Int.{w64}
use Rattle.std.proofs.lemmas.Fmt.{decimal_is_IsNumeral}
use Rattle.std.proofs.lemmas.Bool.Decides.{nat_tests}
use Rattle.std.proofs.lemmas.Bool.{cases_eq}
use Rattle.m5_terms.specs.Decimal.{is_digit}
use Rattle.m5_terms.specs.Text.{IsText}
use Rattle.m5_terms.specs.Quoted.{escaping, quoted}
use Rattle.m5_terms.proofs.Quoting.{quoted_shown}
use Rattle.m5_machine.specs.declared.step.Instruction.{Instruction}
use Rattle.m5_machine.specs.declared.step.Instruction.TheVariants as i
use Rattle.m5_machine.specs.Numbers.{IsSlot, AreSlots, IsInstruction}
use Rattle.m5_machine.proofs.EachStep.{Each, each_all}
use Rattle.m5_js.specs.Page.{page_instruction}
use Rattle.m5_js.specs.Spelling.{slot_text, pair_text, after_comma, fields_text, value_text}
use Rattle.m5_js.specs.code.Guess.{and_read, slot_in, one_in, two_in, with_one, with_two, arithmetic, comparison, wrapped_in, after_slot, slot_first_in, literal_in, quoted_value, in_front, fields_in, array_of, other_value, value_in}
use Rattle.m5_js.proofs.Guessed.{number_back, slot_back, later_text, digits_all}

-- what is found behind a slot
pub slot_then : {B : Type 0} (s x : ℕ) (r : List ℕ) (next : ℕ → List ℕ → Option B) → s < 2 ^ 16 → is_digit x ≡ false → and_read (slot_in (slot_text s ++ x ∷ r)) next ≡ next s (x ∷ r)
slot_then s x r next h d = ap (λ (o : Option (ℕ × List ℕ)). and_read o next) (slot_back s x r h d)

pub one_back : (s x : ℕ) (r : List ℕ) → s < 2 ^ 16 → is_digit x ≡ false → one_in (slot_text s ++ x ∷ r) ≡ Some s
one_back s x r h d = slot_then s x r (λ n rest. Some n) h d

-- two slots with `, ` between them
pub comma_back : (a b x : ℕ) (r : List ℕ) → AreSlots a b → is_digit x ≡ false → two_in 2 (slot_text a ++ (44 ∷ 32 ∷ (slot_text b ++ x ∷ r))) ≡ Some (a, b)
comma_back a b x r h d =
    slot_then a 44 (32 ∷ (slot_text b ++ x ∷ r)) (λ n rest. and_read (slot_in (drop 2 rest)) (λ m more. Some (n, m))) h.0 refl ∙ slot_then b x r (λ m more. Some (a, m)) h.1 d

call_rest : (s : ℕ) (r : List ℕ) → (slot_text s ++ codes ")") ++ r ≡ slot_text s ++ 41 ∷ r
call_rest s r = append_assoc (slot_text s) (codes ")") r

-- a pair before what follows it
pub pair_rest : (a b : ℕ) (between r : List ℕ) → pair_text a between b ++ r ≡ slot_text a ++ (between ++ (slot_text b ++ r))
pair_rest a b between r = append_assoc (slot_text a) (between ++ slot_text b) r ∙ ap (λ (t : List ℕ). slot_text a ++ t) (append_assoc between (slot_text b) r)

wrapped_back : (a b op : ℕ) (r : List ℕ) → AreSlots a b → wrapped_in (slot_text a ++ (32 ∷ op ∷ 32 ∷ (slot_text b ++ 41 ∷ r))) ≡ arithmetic op a b
wrapped_back a b op r h =
    slot_then a 32 (op ∷ 32 ∷ (slot_text b ++ 41 ∷ r)) (λ n rest. and_read (slot_in (drop 3 rest)) (λ m more. arithmetic (slice_index rest 1) n m)) h.0 refl
    ∙ slot_then b 41 r (λ m more. arithmetic op a m) h.1 refl

-- what begins with a slot is no other value
zero_first : (r : List ℕ) → value_in (slot_text 0 ++ r) ≡ slot_first_in (slot_text 0 ++ r)
unfolding value_in
zero_first r = refl

one_first : (r : List ℕ) → value_in (slot_text 1 ++ r) ≡ slot_first_in (slot_text 1 ++ r)
unfolding value_in
one_first r = refl

later_first : (n : ℕ) (r : List ℕ) → value_in ((codes "v" ++ decimal n) ++ r) ≡ slot_first_in ((codes "v" ++ decimal n) ++ r)
unfolding value_in
later_first n r = refl

slot_first : (s : ℕ) (r : List ℕ) → value_in (slot_text s ++ r) ≡ slot_first_in (slot_text s ++ r)
slot_first s r =
    elim (cases_eq s 0) [
      | inl e ↦ subst (λ (n : ℕ). value_in (slot_text n ++ r) ≡ slot_first_in (slot_text n ++ r)) (sym e) (zero_first r)
      | inr f ↦ elim (cases_eq s 1) [
        | inl e ↦ subst (λ (n : ℕ). value_in (slot_text n ++ r) ≡ slot_first_in (slot_text n ++ r)) (sym e) (one_first r)
        | inr g ↦ subst (λ (t : List ℕ). value_in (t ++ r) ≡ slot_first_in (t ++ r)) (sym (later_text s (omega (arith, f, g)))) (later_first (s - 2) r)
      ]
    ]

spaced_back : (a b op x : ℕ) (r : List ℕ) → AreSlots a b → is_digit x ≡ false → (op == 61) ≡ false → slot_first_in (slot_text a ++ (32 ∷ op ∷ 32 ∷ (slot_text b ++ x ∷ r))) ≡ comparison op a b
spaced_back a b op x r h d n =
    slot_then a 32 (op ∷ 32 ∷ (slot_text b ++ x ∷ r)) after_slot h.0 refl
    ∙ ap (λ (t : Bool). and_read (slot_in (drop (if t then 5 else 3) (32 ∷ op ∷ 32 ∷ (slot_text b ++ x ∷ r)))) (λ m more. comparison op a m)) n
    ∙ slot_then b x r (λ m more. comparison op a m) h.1 d

same_back : (a b x : ℕ) (r : List ℕ) → AreSlots a b → is_digit x ≡ false → slot_first_in (slot_text a ++ (codes " === " ++ (slot_text b ++ x ∷ r))) ≡ Some (i.Same a b)
same_back a b x r h d =
    slot_then a 32 (61 ∷ 61 ∷ 61 ∷ 32 ∷ (slot_text b ++ x ∷ r)) after_slot h.0 refl ∙ slot_then b x r (λ m more. comparison 61 a m) h.1 d

field_back : (a n : ℕ) (r : List ℕ) → IsSlot a → n ≤ 65534 → slot_first_in (slot_text a ++ (91 ∷ (decimal n ++ 93 ∷ r))) ≡ Some (i.Field a n)
field_back a n r h k =
    slot_then a 91 (decimal n ++ 93 ∷ r) after_slot h refl
    ∙ ap (λ (o : Option (ℕ × List ℕ)). and_read o (λ m more. Some (i.Field a m))) (number_back 65534 n 93 r k (omega arith) refl)

literal_back : (n : ℕ) (r : List ℕ) → n < 2 ^ 63 → literal_in (decimal n ++ 110 ∷ r) ≡ Some (i.Int (pos n))
literal_back n r h = ap (λ (o : Option (ℕ × List ℕ)). and_read o (λ m more. Some (i.Int (pos m)))) (number_back 9223372036854775807 n 110 r (omega arith) (omega arith) refl)

text_back : (bytes r : List ℕ) → IsText bytes → quoted_value (quoted (flat_map escaping bytes ++ 34 ∷ r)) ≡ Some (i.Text bytes)
text_back bytes r h = ap quoted_value (quoted_shown bytes r h)

-- slots up to the closing bracket
fields_back : (n s : ℕ) (ss r : List ℕ) → length ss < n → IsSlot s → Each IsSlot ss → fields_in n (slot_text s ++ (flat_map after_comma ss ++ 93 ∷ r)) ≡ Some (s ∷ ss)
fields_back zero s ss r l h e = absurd (omega arith)
fields_back (suc n) s [] r l h e = slot_then s 93 r (λ m rest. if slice_index rest 0 == 44 then in_front m (fields_in n (drop 2 rest)) else Some (m ∷ [])) h refl
fields_back (suc n) s (t ∷ ss) r l h e =
    ap (λ (xs : List ℕ). fields_in (suc n) (slot_text s ++ (44 ∷ 32 ∷ xs))) (append_assoc (slot_text t) (flat_map after_comma ss) (93 ∷ r))
    ∙ slot_then s 44 (32 ∷ (slot_text t ++ (flat_map after_comma ss ++ 93 ∷ r))) (λ m rest. if slice_index rest 0 == 44 then in_front m (fields_in n (drop 2 rest)) else Some (m ∷ [])) h refl
    ∙ ap (in_front s) (fields_back n t ss r (omega arith) e.0 e.1)

first_digit : (ds r : List ℕ) → 0 < length ds → AllPass is_digit ds → is_digit (slice_index (ds ++ r) 0) ≡ true
first_digit [] r h a = absurd (omega arith)
first_digit (d ∷ ds) r h a = a 0 0 (omega arith)

number_value : (n : ℕ) (r : List ℕ) → n < 2 ^ 63 → value_in (decimal n ++ 110 ∷ r) ≡ Some (i.Int (pos n))
unfolding value_in
number_value n r h =
    let numeral = decimal_is_IsNumeral n (omega arith) in
    let bytes : List ℕ = decimal n ++ 110 ∷ r in
    let first : is_digit (slice_index bytes 0) ≡ true = first_digit (decimal n) (110 ∷ r) numeral.0.0 (digits_all (decimal n) numeral.0.1) in
    ap (λ (t : Bool). if t then literal_in bytes else other_value (slice_index bytes 0) (slice_index bytes 1) bytes) first ∙ literal_back n r h

commas_long : (ss : List ℕ) → length ss ≤ length (flat_map after_comma ss)
commas_long [] = omega arith
commas_long (s ∷ ss) = omega (arith, commas_long ss, length-append (after_comma s) (flat_map after_comma ss))

few_slots : (s : ℕ) (ss : List ℕ) → length ss < 65535 → (length (s ∷ ss) == 0 || nat_lt 65535 (length (s ∷ ss))) ≡ false
few_slots s ss l = grind (arith, nat_tests)

positive : (n : ℕ) → FitsSigned w64 (pos n) → n < 2 ^ 63
positive n h = omega arith

place_fits : (n : ℕ) → nat_le n 65534 ≡ true → n ≤ 65534
place_fits n h = grind (arith, nat_tests)

array_value : (s : ℕ) (ss r : List ℕ) → IsSlot s → Each IsSlot ss → length ss < 65535 → array_of (fields_in (length (slot_text s ++ (flat_map after_comma ss ++ 93 ∷ r))) (slot_text s ++ (flat_map after_comma ss ++ 93 ∷ r))) ≡ Some (i.Array (s ∷ ss))
array_value s ss r h e l =
    let bytes : List ℕ = slot_text s ++ (flat_map after_comma ss ++ 93 ∷ r) in
    let long : length ss < length bytes = omega (arith, commas_long ss, length-append (slot_text s) (flat_map after_comma ss ++ 93 ∷ r), length-append (flat_map after_comma ss) (93 ∷ r)) in
    ap array_of (fields_back (length bytes) s ss r long h e)
    ∙ ap (λ (t : Bool). if t then None else Some (i.Array (s ∷ ss))) (few_slots s ss l)

wrapped_rest : (a b : ℕ) (between r : List ℕ) → (pair_text a between b ++ codes ")") ++ 59 ∷ r ≡ slot_text a ++ (between ++ (slot_text b ++ 41 ∷ (59 ∷ r)))
wrapped_rest a b between r = append_assoc (pair_text a between b) (codes ")") (59 ∷ r) ∙ pair_rest a b between (41 ∷ (59 ∷ r))

-- the value is guessed before `;`
pub value_back : (f : Instruction) (r : List ℕ) → page_instruction f ≡ true → IsInstruction f → value_in (value_text f ++ 59 ∷ r) ≡ Some f
unfolding value_in
value_back i.Unit r p h = refl
value_back (i.Bool false) r p h = refl
value_back (i.Bool true) r p h = refl
value_back (i.Int (pos n)) r p h = ap value_in (append_assoc (decimal n) (codes "n") (59 ∷ r)) ∙ number_value n (59 ∷ r) (positive n h)
value_back (i.Int (negsuc n)) r p h = absurd (let no : false ≡ true = p in cc)
value_back (i.Text bytes) r p h = ap (λ (t : List ℕ). quoted_value (quoted t)) (append_assoc (flat_map escaping bytes) (codes "\"") (59 ∷ r)) ∙ text_back bytes (59 ∷ r) p
value_back (i.Array []) r p h = absurd (omega (arith, h.0))
value_back (i.Array (s ∷ ss)) r p h =
    let all = each_all IsSlot (s ∷ ss) h.2 in
    ap (λ (t : List ℕ). array_of (fields_in (length t) t)) (append_assoc (fields_text (s ∷ ss)) (codes "]") (59 ∷ r) ∙ append_assoc (slot_text s) (flat_map after_comma ss) (93 ∷ (59 ∷ r)))
    ∙ array_value s ss (59 ∷ r) all.0 all.1 (omega (arith, h.1))
value_back (i.Field a n) r p h =
    let moved : value_text (i.Field a n) ++ 59 ∷ r ≡ slot_text a ++ (91 ∷ (decimal n ++ 93 ∷ (59 ∷ r))) =
    append_assoc (slot_text a) (codes "[" ++ (decimal n ++ codes "]")) (59 ∷ r) ∙ ap (λ (t : List ℕ). slot_text a ++ (91 ∷ t)) (append_assoc (decimal n) (codes "]") (59 ∷ r)) in
    ap value_in moved ∙ slot_first a (91 ∷ (decimal n ++ 93 ∷ (59 ∷ r))) ∙ field_back a n (59 ∷ r) h.0 (place_fits n p)
value_back (i.Add a b) r p h = ap wrapped_in (wrapped_rest a b (codes " + ") r) ∙ wrapped_back a b 43 (59 ∷ r) h
value_back (i.Sub a b) r p h = ap wrapped_in (wrapped_rest a b (codes " - ") r) ∙ wrapped_back a b 45 (59 ∷ r) h
value_back (i.Mul a b) r p h = ap wrapped_in (wrapped_rest a b (codes " * ") r) ∙ wrapped_back a b 42 (59 ∷ r) h
value_back (i.Quo a b) r p h = ap wrapped_in (wrapped_rest a b (codes " / ") r) ∙ wrapped_back a b 47 (59 ∷ r) h
value_back (i.Cat a b) r p h = ap value_in (pair_rest a b (codes " + ") (59 ∷ r)) ∙ slot_first a (codes " + " ++ (slot_text b ++ 59 ∷ r)) ∙ spaced_back a b 43 59 r h refl refl
value_back (i.Less a b) r p h = ap value_in (pair_rest a b (codes " < ") (59 ∷ r)) ∙ slot_first a (codes " < " ++ (slot_text b ++ 59 ∷ r)) ∙ spaced_back a b 60 59 r h refl refl
value_back (i.Same a b) r p h = ap value_in (pair_rest a b (codes " === ") (59 ∷ r)) ∙ slot_first a (codes " === " ++ (slot_text b ++ 59 ∷ r)) ∙ same_back a b 59 r h refl
value_back (i.EqualInts a b) r p h = absurd (let no : false ≡ true = p in cc)
value_back (i.EqualTexts a b) r p h = absurd (let no : false ≡ true = p in cc)
value_back (i.Str a) r p h = ap (λ (t : List ℕ). with_one (one_in t) i.Str) (call_rest a (59 ∷ r)) ∙ ap (λ (o : Option ℕ). with_one o i.Str) (one_back a 41 (59 ∷ r) h refl)
value_back (i.Cell a) r p h = ap (λ (t : List ℕ). with_one (one_in t) i.Cell) (call_rest a (59 ∷ r)) ∙ ap (λ (o : Option ℕ). with_one o i.Cell) (one_back a 41 (59 ∷ r) h refl)
value_back (i.Load a) r p h = ap (λ (t : List ℕ). with_one (one_in t) i.Load) (call_rest a (59 ∷ r)) ∙ ap (λ (o : Option ℕ). with_one o i.Load) (one_back a 41 (59 ∷ r) h refl)
value_back (i.Spawn a) r p h = ap (λ (t : List ℕ). with_one (one_in t) i.Spawn) (call_rest a (59 ∷ r)) ∙ ap (λ (o : Option ℕ). with_one o i.Spawn) (one_back a 41 (59 ∷ r) h refl)
value_back (i.Store a b) r p h =
    ap (λ (t : List ℕ). with_two (two_in 2 t) i.Store) (wrapped_rest a b (codes ", ") r) ∙ ap (λ (o : Option (ℕ × ℕ)). with_two o i.Store) (comma_back a b 41 (59 ∷ r) h refl)
