-- Texts between quotes: how one is written, and what stands after an opening quote.
use Rattle.std.specs.Prelude.{ℕ, ◌≤◌, ◌+◌, Bool, ◌&&◌, ◌==◌, nat_le, not, List, [], ◌∷◌, ◌++◌, Option, Some, None, codes, if◌then◌else◌}
use Rattle.std.specs.List.{flat_map}
use Rattle.m5_terms.specs.Text.{IsText}
use Rattle.m5_terms.specs.declared.quoted.Quoted.{Quoted}
use Rattle.m5_terms.specs.declared.quoted.Quoted.TheVariants.{Closed, Broken}

-- a byte that stands for itself between quotes: a printable one, but no quote and no backslash
abbrev pub is_plain : ℕ → Bool
is_plain x = nat_le 32 x && nat_le x 126 && not (x == 34) && not (x == 92)

-- the byte that an escape stands for, by the byte after its backslash
abbrev pub escape : ℕ → Option ℕ
escape x = if x == 34 then Some 34 else if x == 92 then Some 92 else if x == 110 then Some 10 else if x == 116 then Some 9 else None

-- a quote, a backslash, a line feed and a tab are written by their escapes, each other byte as itself
abbrev pub escaping : ℕ → List ℕ
escaping x =
    if x == 34 then codes "\\\"" else if x == 92 then codes "\\\\" else if x == 10 then codes "\\n" else if x == 9 then codes "\\t" else x ∷ []

-- a text between quotes
abbrev pub quotation : List ℕ → List ℕ
quotation text = codes "\"" ++ flat_map escaping text ++ codes "\""

-- the value so far and the bytes passed, in front of what is read next
abbrev pub joined : List ℕ → ℕ → Quoted → Quoted
joined front n (Closed value k) = Closed (front ++ value) (n + k)
joined front n (Broken k) = Broken (n + k)

-- after a backslash: the byte that the escape stands for, or the fault at the backslash
abbrev pub escaped : Option ℕ → Quoted → Quoted
escaped None next = Broken 0
escaped (Some x) next = joined (x ∷ []) 2 next

-- by a byte x and the byte y after it: what is read after both, and after x alone
abbrev pub quoted_by : ℕ → ℕ → Quoted → Quoted → Quoted
quoted_by x y after_both after_one =
    if x == 34 then Closed [] 1
    else if x == 92 then escaped (escape y) after_both
    else if is_plain x then joined (x ∷ []) 1 after_one
    else Broken 0

-- after an opening quote: the value and how many bytes to the closing quote, or how many stand before the fault
abbrev pub quoted : List ℕ → Quoted
quoted [] = Broken 0
quoted (x ∷ []) = quoted_by x 0 (Broken 0) (Broken 0)
quoted (x ∷ y ∷ rest) = quoted_by x y (quoted rest) (quoted (y ∷ rest))

-- the value has only bytes of texts, and it takes at most so many bytes
abbrev pub Within : Quoted → ℕ → Type 0
Within (Closed value n) most = (n ≤ most) × IsText value
Within (Broken n) most = n ≤ most
