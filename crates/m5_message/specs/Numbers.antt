-- How each format spells and reads the numbers of a message.
use Rattle.std.specs.Prelude.{◌≡◌, ℕ, zero, suc, ◌+◌, ◌-◌, ◌*◌, ◌^◌, List, [], ◌∷◌, length, take, drop, Option, Some, None, Result, Ok, Err, nat_lt, ◌==◌, if◌then◌else◌, Bool}
use Rattle.std.specs.Int.{Width, w16, w32, byte_len, from_be_bytes}
use Rattle.m5_message.specs.declared.format.Format.{Format}
use Rattle.m5_message.specs.declared.format.Format.TheVariants.{First, Second}

-- A reader answers a value and the bytes behind it, or how many bytes there are from the bad field on.
abbrev pub Read : Type 0 → Type 0
Read A = Result (A × List ℕ) ℕ

infixl 10 ◌>>=◌
abbrev pub ◌>>=◌ : {A B : Type 0} → Result A ℕ → (A → Result B ℕ) → Result B ℕ
(Ok x) >>= f = f x
(Err e) >>= f = Err e

-- what a function returned, seen by view, is what reading gives
abbrev pub Gives : {X Y : Type 0} → (X → Y) → Result X ℕ → Result Y ℕ → Type 0
Gives view (Ok x) read = read ≡ Ok (view x)
Gives view (Err e) read = read ≡ Err e

-- a field of one value
abbrev pub field : {A : Type 0} → List ℕ → Option (A × List ℕ) → Read A
field bytes None = Err (length bytes)
field bytes (Some x) = Ok x

-- the value is allowed
abbrev pub where_ok : (ℕ → Bool) → Option (ℕ × List ℕ) → Option (ℕ × List ℕ)
where_ok p None = None
where_ok p (Some x) = if p x.0 then Some x else None

-- a number of so many bytes
abbrev pub wide : Width → List ℕ → Option (ℕ × List ℕ)
wide w bytes = if nat_lt (length bytes) (byte_len w) then None else Some (from_be_bytes w (take (byte_len w) bytes), drop (byte_len w) bytes)

-- Seven bits of a short number in front of the others, which are not all 0. The whole is below 2 ^ 32 where the others are below 2 ^ 25.
abbrev pub onto : ℕ → Option (ℕ × List ℕ) → Option (ℕ × List ℕ)
onto b None = None
onto b (Some x) = if x.0 == 0 then None else (if nat_lt x.0 (2 ^ 25) then Some (b - 128 + 128 * x.0, x.1) else None)

unfoldable pub groups : ℕ → List ℕ → Option (ℕ × List ℕ)
groups zero bytes = None
groups (suc n) [] = None
groups (suc n) (b ∷ bytes) = if nat_lt b 128 then Some (b, bytes) else onto b (groups n bytes)

-- a short number, of at most five bytes
unfoldable pub short : List ℕ → Option (ℕ × List ℕ)
short bytes = groups 5 bytes

-- a count, a length or a place; a label; each as its format has it
abbrev pub number : Format → List ℕ → Option (ℕ × List ℕ)
number First bytes = wide w32 bytes
number Second bytes = short bytes

abbrev pub small_number : Format → List ℕ → Option (ℕ × List ℕ)
small_number First bytes = wide w16 bytes
small_number Second bytes = where_ok (λ n. nat_lt n 65536) (short bytes)

-- the older object that a reference is to, of an object of this number
abbrev pub back_from : ℕ → Option (ℕ × List ℕ) → Option (ℕ × List ℕ)
back_from own None = None
back_from own (Some x) = if nat_lt x.0 1 then None else (if nat_lt own x.0 then None else Some (own - x.0, x.1))

abbrev pub older : Format → ℕ → List ℕ → Option (ℕ × List ℕ)
older First own bytes = where_ok (λ j. nat_lt j own) (wide w32 bytes)
older Second own bytes = back_from own (short bytes)
