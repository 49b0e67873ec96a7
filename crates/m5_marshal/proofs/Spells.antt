-- How numbers are spelled.
use Rattle.std.proofs.Common.{◌≡◌, ℕ, zero, suc, ◌+◌, ◌-◌, ◌/◌, ◌%◌, ◌<◌, ◌≤◌, ◌∷◌, refl, arith}
use Rattle.std.proofs.lemmas.Bool.{le-ltb}
use Rattle.m5_message.specs.Spelling.{groups_of}

pub groups_more : (most n : ℕ) → 0 < most → 128 ≤ n → groups_of most n ≡ (n % 128 + 128) ∷ groups_of (most - 1) (n / 128)
unfolding groups_of
groups_more zero n h le = absurd (omega arith)
groups_more (suc k) n h le = let e : suc k - 1 ≡ k = omega arith in rw (le-ltb n 128 le, e) refl
