-- Quoted texts, and bytes in hexadecimal.
use Rattle.std.specs.Prelude.{ℕ, ◌+◌, ◌-◌, ◌*◌, Bool, true, ◌&&◌, ◌==◌, nat_le, List, [], ◌∷◌, ◌++◌, drop, slice_index, Option, Some, None, if◌then◌else◌}
use Rattle.m5_terms.specs.Decimal.{is_digit}
use Rattle.m5_terms.specs.Quoted.{quoted}
use Rattle.m5_terms.specs.declared.quoted.Quoted.{Quoted}
use Rattle.m5_terms.specs.declared.quoted.Quoted.TheVariants.{Closed, Broken}
use Rattle.m5_script.specs.Fields.{◌>>=◌, is_blank, skipped}

-- a blank or the end
abbrev pub is_parted : List ℕ → Bool
is_parted [] = true
is_parted (byte ∷ bytes) = is_blank byte

-- what follows an opening quote
abbrev pub opened : List ℕ → Option (List ℕ)
opened bytes = if slice_index bytes 0 == 34 then Some (drop 1 bytes) else None

-- the text up to its closing quote, and what follows that
abbrev pub closed_text : List ℕ → Quoted → Option (List ℕ × List ℕ)
closed_text bytes (Closed text n) = Some (text, drop n bytes)
closed_text bytes (Broken n) = None

-- a text whose opening quote came before
abbrev pub text_inside : List ℕ → Option (List ℕ × List ℕ)
text_inside bytes = closed_text bytes (quoted bytes)

-- a text that a blank or the end follows
abbrev pub parted_text : List ℕ × List ℕ → Option (List ℕ × List ℕ)
parted_text text = if is_parted text.1 then Some text else None

-- the next quoted text, and what follows it
unfoldable pub text_at : List ℕ → Option (List ℕ × List ℕ)
text_at bytes = opened (skipped bytes) >>= λ inside. text_inside inside >>= parted_text

abbrev pub nibble : ℕ → Option ℕ
nibble byte = if is_digit byte then Some (byte - 48) else (if nat_le 65 byte && nat_le byte 70 then Some (byte - 55) else (if nat_le 97 byte && nat_le byte 102 then Some (byte - 87) else None))

-- two digits a byte, the high one first, after the bytes that are read so far
abbrev pub bytes_from : List ℕ → List ℕ → Option (List ℕ)
bytes_from item [] = Some item
bytes_from item (high ∷ []) = None
bytes_from item (high ∷ low ∷ more) = nibble high >>= λ upper. nibble low >>= λ lower. bytes_from (item ++ (upper * 16 + lower) ∷ []) more
