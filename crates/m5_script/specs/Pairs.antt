-- Pairs of a key and its text.
use Rattle.std.specs.Prelude.{ℕ, if◌then◌else◌, List, [], ◌∷◌, Option, Some, None}
use Rattle.std.specs.Str.{bytes_eq}
use Rattle.m5_script.specs.declared.items.TextPair.{TextPair}

-- the text of a key
abbrev pub text_at : List TextPair → List ℕ → Option (List ℕ)
text_at [] key = None
text_at (p ∷ ps) key = if bytes_eq p.key key then Some p.text else text_at ps key

-- the pair of a key is set, in its place or last
abbrev pub set_at : List TextPair → List ℕ → List ℕ → List TextPair
set_at [] key text = record { key = key; text = text } ∷ []
set_at (p ∷ ps) key text = if bytes_eq p.key key then record { key = key; text = text } ∷ ps else p ∷ set_at ps key text
