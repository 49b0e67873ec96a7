-- Pieces of a list that are read or written one after the other.
use Rattle.std.proofs.Common.{◌≡◌, ℕ, ◌+◌, ◌-◌, List, ◌++◌, length, take, drop, sym, ap, ◌∙◌, arith}
use Rattle.std.proofs.lemmas.List.{take_all, length-drop, take-append-drop, drop-drop}
use Rattle.std.proofs.Math.Seq.{take-add}

-- the rest from a place, as a slice has it
pub rest-is : (xs : List ℕ) (p : ℕ) → take (length xs - p) (drop p xs) ≡ drop p xs
rest-is xs p = let e = length-drop p xs in take_all (length xs - p) (drop p xs) (omega (arith, e))

-- the first d, and then n of the rest, are the first d + n
pub take-piece : (xs : List ℕ) (d n : ℕ) → take d xs ++ take n (take (length xs - d) (drop d xs)) ≡ take (d + n) xs
take-piece xs d n = ap (λ r. take d xs ++ take n r) (rest-is xs d) ∙ sym (take-add d n xs)

-- the first n bytes of what is left, copied, and then the rest
pub given : (xs copied : List ℕ) (p n : ℕ) → take n copied ≡ take n (drop p xs) → drop p xs ≡ take n copied ++ drop (p + n) xs
given xs copied p n e =
    sym (take-append-drop n (drop p xs)) ∙ ap (λ l. l ++ drop n (drop p xs)) (sym e) ∙ ap (λ l. take n copied ++ l) (drop-drop n p xs)
