-- A step that is spelled at the front of bytes is read there.
use Rattle.std.proofs.Common.{◌≡◌, ℕ, ◌*◌, ◌<◌, ◌^◌, ◌∙◌, List, [], ◌∷◌, ◌++◌, length, take, drop, refl, ap, sym, arith, length-append, Option, Some, None, Bool, true, false, nat_lt, if◌then◌else◌, All, FitsSigned, ℤ, nat_le, ◌==◌, ◌&&◌, ◌||◌}
use Rattle.std.specs.List.{flat_map, list_all}
use Rattle.std.specs.Int.{w16, w32, w64, to_be_bytes, from_be_bytes, cast_signed, cast_unsigned}
use Rattle.std.proofs.lemmas.Bool.{le-ltb, ne_eqb}
use Rattle.std.proofs.lemmas.List.{take_at, drop_at}
use Rattle.std.proofs.lemmas.Int.{to_z-of_z}
use Rattle.std.proofs.Math.Facts.{Fits-of_z, Fits-lt-pow}
use Rattle.std.proofs.lemmas.Nat.{from_be_bytes-to_be_bytes_2, from_be_bytes-to_be_bytes_4, from_be_bytes-to_be_bytes_8}
use Rattle.m5_terms.specs.Text.{text_byte}
use Rattle.m5_machine.specs.declared.step.Instruction.{Instruction}
use Rattle.m5_machine.specs.declared.step.Instruction.TheVariants as i
use Rattle.m5_machine.specs.declared.step.Step.{Step}
use Rattle.m5_machine.specs.declared.step.Step.TheVariants as steps
use Rattle.m5_machine.specs.Numbers.{IsSlot}
use Rattle.m5_machine.proofs.EachStep.{Each, each_all}
use Rattle.m5_bytecode.specs.Spelling.{two, four, instruction_bytes}
use Rattle.m5_bytecode.specs.code.Reading.{and_read, with_rest, take_in, two_in, four_in, number_in, text_in, text_of, twos, slots_in, array_in, one_step, one_in, two_step, pair_in, branch_in, ask_in, send_in, step_in}
use Rattle.m5_bytecode.specs.code.Bodies.{step_bytes, IsServerStep}
use Rattle.m5_bytecode.proofs.Sizes.{twos_length}

-- an array's spelling, by its parts
pub array_is : (old mid new bytes slots of : List ℕ) (count : ℕ) → old ≡ two count ++ mid → mid ≡ bytes ++ new → flat_map two slots ≡ bytes → length slots ≡ count → of ≡ slots → 0x04 ∷ old ≡ step_bytes (steps.Fill (i.Array of)) ++ new
array_is old mid new bytes slots of count e f g h k =
    ap (λ (x : List ℕ). 0x04 ∷ x) (e ∙ ap (λ (x : List ℕ). two count ++ x) (f ∙ ap (λ (x : List ℕ). x ++ new) (sym g))
    ∙ ap (λ (n : ℕ). two n ++ (flat_map two slots ++ new)) (sym h))
    ∙ ap (λ (x : List ℕ). step_bytes (steps.Fill (i.Array x)) ++ new) (sym k)

take_back : (n : ℕ) (xs rest : List ℕ) → length xs ≡ n → take_in n (xs ++ rest) ≡ Some (xs, rest)
take_back n xs rest e =
    let enough : nat_lt (length (xs ++ rest)) n ≡ false = le-ltb (length (xs ++ rest)) n (omega (arith, length-append xs rest)) in
    ap (λ (t : Bool). if t then None else Some (take n (xs ++ rest), drop n (xs ++ rest))) enough
    ∙ ap (λ (x : List ℕ). Some (x, drop n (xs ++ rest))) (take_at xs rest n e) ∙ ap (λ (x : List ℕ). Some (xs, x)) (drop_at xs rest n e)

pub two_back : (a : ℕ) (rest : List ℕ) → a < 2 ^ 16 → two_in (two a ++ rest) ≡ Some (a, rest)
two_back a rest h =
    ap (λ (r : Option (List ℕ × List ℕ)). and_read r (λ xs more. Some (from_be_bytes w16 xs, more))) (take_back 2 (two a) rest refl)
    ∙ ap (λ (n : ℕ). Some (n, rest)) (from_be_bytes-to_be_bytes_2 a h)

pub four_back : (a : ℕ) (rest : List ℕ) → a < 2 ^ 32 → four_in (four a ++ rest) ≡ Some (a, rest)
four_back a rest h =
    ap (λ (r : Option (List ℕ × List ℕ)). and_read r (λ xs more. Some (from_be_bytes w32 xs, more))) (take_back 4 (four a) rest refl)
    ∙ ap (λ (n : ℕ). Some (n, rest)) (from_be_bytes-to_be_bytes_4 a h)

-- what is read after a number of two bytes
two_then : {B : Type 0} (a : ℕ) (rest : List ℕ) (next : ℕ → List ℕ → Option (B × List ℕ)) → a < 2 ^ 16 → and_read (two_in (two a ++ rest)) next ≡ next a rest
two_then a rest next h = ap (λ (r : Option (ℕ × List ℕ)). and_read r next) (two_back a rest h)

four_then : {B : Type 0} (a : ℕ) (rest : List ℕ) (next : ℕ → List ℕ → Option (B × List ℕ)) → a < 2 ^ 32 → and_read (four_in (four a ++ rest)) next ≡ next a rest
four_then a rest next h = ap (λ (r : Option (ℕ × List ℕ)). and_read r next) (four_back a rest h)

take_then : {B : Type 0} (n : ℕ) (xs rest : List ℕ) (next : List ℕ → List ℕ → Option (B × List ℕ)) → length xs ≡ n → and_read (take_in n (xs ++ rest)) next ≡ next xs rest
take_then n xs rest next e = ap (λ (r : Option (List ℕ × List ℕ)). and_read r next) (take_back n xs rest e)

pair_then : {B : Type 0} (a b : ℕ) (rest : List ℕ) (next : ℕ → ℕ → List ℕ → Option (B × List ℕ)) → a < 2 ^ 16 → b < 2 ^ 16 → and_read (two_in (two a ++ (two b ++ rest))) (λ x more. and_read (two_in more) (λ y left. next x y left)) ≡ next a b rest
pair_then a b rest next h k = two_then a (two b ++ rest) (λ x more. and_read (two_in more) (λ y left. next x y left)) h ∙ two_then b rest (next a) k

one_back : (op a : ℕ) (s : Step) (rest : List ℕ) → a < 2 ^ 16 → one_step op a ≡ Some s → one_in op (two a ++ rest) ≡ Some (s, rest)
one_back op a s rest h e = two_then a rest (λ x more. with_rest (one_step op x) more) h ∙ ap (λ (o : Option Step). with_rest o rest) e

pair_back : (op a b : ℕ) (s : Step) (rest : List ℕ) → (a < 2 ^ 16) × (b < 2 ^ 16) → two_step op a b ≡ Some s → pair_in op (two a ++ (two b ++ rest)) ≡ Some (s, rest)
pair_back op a b s rest h e = pair_then a b rest (λ x y left. with_rest (two_step op x y) left) h.0 h.1 ∙ ap (λ (o : Option Step). with_rest o rest) e

number_back : (n : ℤ) (rest : List ℕ) → FitsSigned w64 n → number_in (to_be_bytes w64 (cast_unsigned w64 n) ++ rest) ≡ Some (steps.Fill (i.Int n), rest)
number_back n rest h =
    take_then 8 (to_be_bytes w64 (cast_unsigned w64 n)) rest (λ xs more. Some (steps.Fill (i.Int (cast_signed w64 (from_be_bytes w64 xs))), more)) refl
    ∙ ap (λ (k : ℕ). Some (steps.Fill (i.Int (cast_signed w64 k)), rest)) (from_be_bytes-to_be_bytes_8 (cast_unsigned w64 n) (Fits-lt-pow (Fits-of_z h)))
    ∙ ap (λ (z : ℤ). Some (steps.Fill (i.Int z), rest)) (to_z-of_z w64 n h)

text_back : (bytes rest : List ℕ) → length bytes < 2 ^ 32 → list_all text_byte bytes ≡ true → text_in (four (length bytes) ++ (bytes ++ rest)) ≡ Some (steps.Fill (i.Text bytes), rest)
text_back bytes rest h e =
    four_then (length bytes) (bytes ++ rest) (λ n more. and_read (take_in n more) (λ xs left. with_rest (text_of xs) left)) h
    ∙ take_then (length bytes) bytes rest (λ xs left. with_rest (text_of xs) left) refl
    ∙ ap (λ (t : Bool). with_rest (if t then Some (steps.Fill (i.Text bytes)) else None) rest) e

twos_back : (slots : List ℕ) → Each IsSlot slots → twos (flat_map two slots) ≡ slots
twos_back [] e = refl
twos_back (x ∷ xs) e = ap (λ (n : ℕ). n ∷ twos (flat_map two xs)) (from_be_bytes-to_be_bytes_2 x e.0) ∙ ap (λ (ys : List ℕ). x ∷ ys) (twos_back xs e.1)

array_back : (slots rest : List ℕ) → 0 < length slots → length slots < 2 ^ 16 → All IsSlot slots → array_in (two (length slots) ++ (flat_map two slots ++ rest)) ≡ Some (steps.Fill (i.Array slots), rest)
array_back slots rest p h a =
    two_then (length slots) (flat_map two slots ++ rest) slots_in h
    ∙ ap (λ (t : Bool). if t then None else and_read (take_in (2 * length slots) (flat_map two slots ++ rest)) (λ xs more. Some (steps.Fill (i.Array (twos xs)), more))) (ne_eqb (length slots) 0 (λ e. omega arith))
    ∙ take_then (2 * length slots) (flat_map two slots) rest (λ xs more. Some (steps.Fill (i.Array (twos xs)), more)) (twos_length slots)
    ∙ ap (λ (xs : List ℕ). Some (steps.Fill (i.Array xs), rest)) (twos_back slots (each_all IsSlot slots a))

-- the instruction, if its spelling has fewer than 2 ^ 32 bytes
fill_back : (f : Instruction) (rest : List ℕ) → IsServerStep (steps.Fill f) → length (instruction_bytes f) < 2 ^ 32 → step_in (instruction_bytes f ++ rest) ≡ Some (steps.Fill f, rest)
unfolding step_in
fill_back i.Unit rest g h = refl
fill_back (i.Bool false) rest g h = refl
fill_back (i.Bool true) rest g h = refl
fill_back (i.Int n) rest g h = number_back n rest g.numbers
fill_back (i.Text bytes) rest g h = text_back bytes rest (omega (arith, length-append (four (length bytes)) bytes)) g.server
fill_back (i.Array slots) rest g h = array_back slots rest g.numbers.0 g.numbers.1 g.numbers.2
fill_back (i.Field a b) rest g h = pair_back 0x05 a b _ rest g.numbers refl
fill_back (i.Add a b) rest g h = pair_back 0x06 a b _ rest g.numbers refl
fill_back (i.Sub a b) rest g h = pair_back 0x07 a b _ rest g.numbers refl
fill_back (i.Mul a b) rest g h = pair_back 0x08 a b _ rest g.numbers refl
fill_back (i.Quo a b) rest g h = pair_back 0x09 a b _ rest g.numbers refl
fill_back (i.Cat a b) rest g h = pair_back 0x0a a b _ rest g.numbers refl
fill_back (i.Str a) rest g h = one_back 0x0b a _ rest g.numbers refl
fill_back (i.EqualInts a b) rest g h = pair_back 0x0c a b _ rest g.numbers refl
fill_back (i.Less a b) rest g h = pair_back 0x0d a b _ rest g.numbers refl
fill_back (i.EqualTexts a b) rest g h = pair_back 0x0e a b _ rest g.numbers refl
fill_back (i.Same a b) rest g h = absurd (let no : false ≡ true = g.server in cc)
fill_back (i.Cell a) rest g h = one_back 0x10 a _ rest g.numbers refl
fill_back (i.Load a) rest g h = one_back 0x11 a _ rest g.numbers refl
fill_back (i.Store a b) rest g h = pair_back 0x12 a b _ rest g.numbers refl
fill_back (i.Spawn a) rest g h = one_back 0x13 a _ rest g.numbers refl

ask_back : (p a n : ℕ) (rest : List ℕ) → (a < 2 ^ 16) × (n < 2 ^ 16) → (nat_le 4 p && nat_le p 6) ≡ true → ask_in (p ∷ (two a ++ (two n ++ rest))) ≡ Some (steps.Ask p a n, rest)
ask_back p a n rest h e =
    ap (λ (t : Bool). if t then and_read (two_in (two a ++ (two n ++ rest))) (λ x more. and_read (two_in more) (λ y left. Some (steps.Ask p x y, left))) else None) e
    ∙ pair_then a n rest (λ x y left. Some (steps.Ask p x y, left)) h.0 h.1

send_back : (w c v : ℕ) (rest : List ℕ) → (c < 2 ^ 16) × (v < 2 ^ 16) → (w == 0 || w == 2) ≡ true → send_in (w ∷ (two c ++ (two v ++ rest))) ≡ Some (steps.Send w c v, rest)
send_back w c v rest h e =
    ap (λ (t : Bool). if t then and_read (two_in (two c ++ (two v ++ rest))) (λ x more. and_read (two_in more) (λ y left. Some (steps.Send w x y, left))) else None) e
    ∙ pair_then c v rest (λ x y left. Some (steps.Send w x y, left)) h.0 h.1

branch_back : (s n : ℕ) (rest : List ℕ) → s < 2 ^ 16 → n < 2 ^ 32 → branch_in (two s ++ (four n ++ rest)) ≡ Some (steps.If s n, rest)
branch_back s n rest h k =
    two_then s (four n ++ rest) (λ x more. and_read (four_in more) (λ y left. Some (steps.If x y, left))) h
    ∙ four_then n rest (λ y left. Some (steps.If s y, left)) k

-- a step is read where it is spelled
pub step_back : (s : Step) (rest : List ℕ) → IsServerStep s → length (step_bytes s) < 2 ^ 32 → step_in (step_bytes s ++ rest) ≡ Some (s, rest)
unfolding step_in
step_back (steps.Fill f) rest g h = fill_back f rest g h
step_back (steps.If s n) rest g h = branch_back s n rest g.numbers.0 g.numbers.1
step_back (steps.Go c v) rest g h = pair_back 0x21 c v _ rest g.numbers refl
step_back (steps.Ask p a n) rest g h = ask_back p a n rest g.numbers g.server
step_back (steps.Send w c v) rest g h = send_back w c v rest g.numbers g.server
step_back steps.Done rest g h = refl

-- an instruction of a server has a spelling
pub some_bytes : (f : Instruction) → IsServerStep (steps.Fill f) → 0 < length (instruction_bytes f)
some_bytes i.Unit g = omega arith
some_bytes (i.Bool false) g = omega arith
some_bytes (i.Bool true) g = omega arith
some_bytes (i.Int n) g = omega arith
some_bytes (i.Text xs) g = omega arith
some_bytes (i.Array xs) g = omega arith
some_bytes (i.Field a b) g = omega arith
some_bytes (i.Add a b) g = omega arith
some_bytes (i.Sub a b) g = omega arith
some_bytes (i.Mul a b) g = omega arith
some_bytes (i.Quo a b) g = omega arith
some_bytes (i.Cat a b) g = omega arith
some_bytes (i.Str a) g = omega arith
some_bytes (i.EqualInts a b) g = omega arith
some_bytes (i.Less a b) g = omega arith
some_bytes (i.EqualTexts a b) g = omega arith
some_bytes (i.Cell a) g = omega arith
some_bytes (i.Load a) g = omega arith
some_bytes (i.Store a b) g = omega arith
some_bytes (i.Spawn a) g = omega arith
some_bytes (i.Same a b) g = absurd (let no : false ≡ true = g.server in cc)
