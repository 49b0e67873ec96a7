-- Two texts' bytes, copied to the end of the list that they stand in.
use Rattle.std.proofs.Common.{◌≡◌, ℕ, ◌+◌, ◌-◌, ◌*◌, ◌/◌, ◌≤◌, ◌∙◌, List, ◌++◌, length, take, drop, replicate, ap, append_assoc, arith, length-append, length-drop, slice_range}
use Rattle.std.specs.Int.{w64, to_be_bytes}
use Rattle.std.proofs.lemmas.List.{take-append-le, drop-append-le, length-take-le}
use Rattle.m5_region.specs.Region.{TextOf}
use Rattle.m5_region.specs.Layout.{content_of}
use Rattle.m5_region.specs.code.Stored.{two_ranges}

less : (a n : ℕ) → a + n - a ≡ n
less a n = omega arith

range_front : (xs ys : List ℕ) (a n : ℕ) → a + n ≤ length xs → slice_range (xs ++ ys) a (a + n) ≡ slice_range xs a (a + n)
range_front xs ys a n h =
    let one : drop a (xs ++ ys) ≡ drop a xs ++ ys = drop-append-le a xs ys (omega arith) in
    let two : take n (drop a xs ++ ys) ≡ take n (drop a xs) = take-append-le n (drop a xs) ys (omega (arith, length-drop a xs)) in
    rw (less a n) (ap (take n) one ∙ two)

pub range_length : (xs : List ℕ) (a n : ℕ) → a + n ≤ length xs → length (slice_range xs a (a + n)) ≡ n
range_length xs a n h = rw (less a n) (length-take-le n (drop a xs) (omega (arith, length-drop a xs)))

pub joined_content : (old c1 c2 c3 c4 : List ℕ) (first second : ℕ × ℕ) (len : ℕ) →
    first.0 + first.1 ≤ length old → second.0 + second.1 ≤ length old → len ≡ first.1 + second.1 →
    c1 ≡ old ++ to_be_bytes w64 len → c2 ≡ c1 ++ slice_range c1 first.0 (first.0 + first.1) → c3 ≡ c2 ++ slice_range c2 second.0 (second.0 + second.1) →
    c4 ≡ c3 ++ replicate (8 * ((len + 7) / 8) - len) 0 →
    c4 ≡ old ++ content_of (TextOf (two_ranges old first second))
joined_content old c1 c2 c3 c4 first second len h k len_is e1 e2 e3 e4 =
    let word = to_be_bytes w64 len in
    let a = slice_range old first.0 (first.0 + first.1) in
    let b = slice_range old second.0 (second.0 + second.1) in
    let pad = replicate (8 * ((len + 7) / 8) - len) 0 in
    let a_is : slice_range c1 first.0 (first.0 + first.1) ≡ a = ap (λ (x : List ℕ). slice_range x first.0 (first.0 + first.1)) e1 ∙ range_front old word first.0 first.1 h in
    let c2_is : c2 ≡ old ++ (word ++ a) = e2 ∙ ap (λ (x : List ℕ). c1 ++ x) a_is ∙ ap (λ (x : List ℕ). x ++ a) e1 ∙ append_assoc old word a in
    let b_is : slice_range c2 second.0 (second.0 + second.1) ≡ b = ap (λ (x : List ℕ). slice_range x second.0 (second.0 + second.1)) c2_is ∙ range_front old (word ++ a) second.0 second.1 k in
    let c3_is : c3 ≡ (old ++ (word ++ a)) ++ b = e3 ∙ ap (λ (x : List ℕ). c2 ++ x) b_is ∙ ap (λ (x : List ℕ). x ++ b) c2_is in
    let c4_is : c4 ≡ ((old ++ (word ++ a)) ++ b) ++ pad = e4 ∙ ap (λ (x : List ℕ). x ++ pad) c3_is in
    let regroup : ((old ++ (word ++ a)) ++ b) ++ pad ≡ old ++ (word ++ ((a ++ b) ++ pad)) = simp append_assoc in
    let total : len ≡ length (a ++ b) = omega (arith, length-append a b, range_length old first.0 first.1 h, range_length old second.0 second.1 k) in
    c4_is ∙ regroup ∙ ap (λ (n : ℕ). old ++ (to_be_bytes w64 n ++ ((a ++ b) ++ replicate (8 * ((n + 7) / 8) - n) 0))) total
