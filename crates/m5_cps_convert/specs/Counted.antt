-- How many blocks a program's blocks are.
use Rattle.std.specs.Prelude.{ℕ, suc, ◌+◌, sum_by}
use Rattle.m5_cps.specs.Blocks.{Code, straight, closure, test, ends, Block, Blocks}

-- the blocks of the closures in the code
abbrev pub blocks_in : Code → ℕ
blocks_in (straight f c) = blocks_in c
blocks_in (closure y b c) = suc (blocks_in b + blocks_in c)
blocks_in (test t x b c) = blocks_in b + blocks_in c
blocks_in (ends e) = 0

-- a block and those in it
abbrev pub counted : Code → ℕ
counted c = suc (blocks_in c)

-- the declared functions', main's, and those in them
abbrev pub block_count : Blocks → ℕ
block_count B = sum_by (λ (b : Block). counted b.code) B.functions + counted B.main
