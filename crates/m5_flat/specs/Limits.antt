-- The limits of blocks under labels: how deep endings nest, and how many slots are filled.
use Rattle.std.specs.Prelude.{ℕ, suc, ◌+◌, ◌≤◌, max, length}
use Rattle.m5_cps.specs.Limits.{parts_then, parts_else, straight_slots, test_slots, ending_slots, begun_slots, ending_depth, straight_depth}
use Rattle.m5_flat.specs.Blocks.{Code, straight, closure, test, ends, Block}

-- how many slots are filled along the longest path; a closure's label has one too
abbrev pub path : Code → ℕ
path (straight f c) = straight_slots f + path c
path (closure ls i c) = 2 + path c
path (test t x b c) = test_slots t + max (parts_then t + path b) (parts_else t + path c)
path (ends e) = ending_slots e

-- how deep endings nest
abbrev pub depth : Code → ℕ
depth (straight f c) = straight_depth f + depth c
depth (closure ls i c) = depth c
depth (test t x b c) = suc (max (depth b) (depth c))
depth (ends e) = ending_depth e

-- a block's endings nest at most 1,000 deep, and it has at most 65,536 slots
pub record IsLimited (b : Block) : Type 0 where
  pub depth : depth b.code ≤ 1000
  pub slots : length b.environment + (begun_slots b.entry + path b.code) ≤ 65536
