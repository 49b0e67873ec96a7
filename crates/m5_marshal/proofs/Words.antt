-- The type id of an object stands four bytes behind that of the one before it.
use Rattle.std.proofs.Common.{◌≡◌, ℕ, zero, suc, ◌+◌, ◌*◌, ◌<◌, ◌≤◌, List, [], ◌∷◌, length, get_or, Some, None, slice_get, refl, ap, arith}
use Rattle.std.specs.Int.{w32, from_be_bytes}
use Rattle.m5_marshal.specs.code.Ids.{words}

-- the four bytes from a place on
abbrev pub four : List ℕ → ℕ → List ℕ
four bytes at = get_or bytes at 0 ∷ get_or bytes (at + 1) 0 ∷ get_or bytes (at + 2) 0 ∷ get_or bytes (at + 3) 0 ∷ []

further : (a b c e : ℕ) (rest : List ℕ) (at n : ℕ) → n ≡ 4 + at → get_or (a ∷ b ∷ c ∷ e ∷ rest) n 0 ≡ get_or rest at 0
further a b c e rest at n h = ap (λ (k : ℕ). get_or (a ∷ b ∷ c ∷ e ∷ rest) k 0) (let same : n ≡ suc (suc (suc (suc at))) = omega arith in same)

pub word_there : (bytes : List ℕ) (j : ℕ) → 4 * j + 4 ≤ length bytes → slice_get (words bytes) j ≡ Some (from_be_bytes w32 (four bytes (4 * j)))
unfolding words
word_there [] j h = absurd (omega arith)
word_there (a ∷ []) j h = absurd (omega arith)
word_there (a ∷ b ∷ []) j h = absurd (omega arith)
word_there (a ∷ b ∷ c ∷ []) j h = absurd (omega arith)
word_there (a ∷ b ∷ c ∷ e ∷ rest) zero h = refl
word_there (a ∷ b ∷ c ∷ e ∷ rest) (suc j) h =
    rw (
      further a b c e rest (4 * j) (4 * suc j) (omega arith),
      further a b c e rest (4 * j + 1) (4 * suc j + 1) (omega arith),
      further a b c e rest (4 * j + 2) (4 * suc j + 2) (omega arith),
      further a b c e rest (4 * j + 3) (4 * suc j + 3) (omega arith),
    )
    (word_there rest j (omega arith))

pub word_past : (bytes : List ℕ) (j : ℕ) → length bytes < 4 * j + 4 → slice_get (words bytes) j ≡ None
unfolding words
word_past [] j h = refl
word_past (a ∷ []) j h = refl
word_past (a ∷ b ∷ []) j h = refl
word_past (a ∷ b ∷ c ∷ []) j h = refl
word_past (a ∷ b ∷ c ∷ e ∷ rest) zero h = absurd (omega arith)
word_past (a ∷ b ∷ c ∷ e ∷ rest) (suc j) h = word_past rest j (omega arith)

-- a number that is there has its four bytes
pub word_within : (bytes : List ℕ) (j : ℕ) → j < length (words bytes) → 4 * j + 4 ≤ length bytes
unfolding words
word_within [] j h = absurd (omega arith)
word_within (a ∷ []) j h = absurd (omega arith)
word_within (a ∷ b ∷ []) j h = absurd (omega arith)
word_within (a ∷ b ∷ c ∷ []) j h = absurd (omega arith)
word_within (a ∷ b ∷ c ∷ e ∷ rest) zero h = omega arith
word_within (a ∷ b ∷ c ∷ e ∷ rest) (suc j) h = omega (arith, word_within rest j (omega arith))
