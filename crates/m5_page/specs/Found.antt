-- Where a key stands among pairs.
use Rattle.std.specs.Prelude.{◌≡◌, ℕ, ◌<◌, true, false, List, length, take, All, Some, slice_get}
use Rattle.std.specs.Str.{bytes_eq}
use Rattle.m5_script.specs.declared.items.TextPair.{TextPair}

abbrev pub Differs : List ℕ → TextPair → Type 0
Differs key p = bytes_eq p.key key ≡ false

-- the first pair with the key
pub record IsFoundAt (key : List ℕ) (pairs : List TextPair) (i : ℕ) : Type 0 where
  pub within : i < length pairs
  pub before : All (Differs key) (take i pairs)
  pub here : (p : TextPair) → slice_get pairs i ≡ Some p → bytes_eq p.key key ≡ true
