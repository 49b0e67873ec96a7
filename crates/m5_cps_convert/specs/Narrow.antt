-- Blocks that take no more slots with them than the program's width allows.
use Rattle.std.specs.Prelude.{ℕ, suc, ◌≤◌}
use Rattle.m5_typing.specs.Width.{program_width}
use Rattle.m5_typing.specs.Program.{ProgramTerm}
use Rattle.m5_cps.specs.Entries.{entry_filled}
use Rattle.m5_cps.specs.Blocks.{Test, if_left, if_nil, Ending, call, ask, send, Code, straight, closure, test, ends}
use Rattle.m5_cps.specs.Captured.{captured}

-- a block takes at most a slot for each binder around it and each value that waits beside it, and one for its continuation
abbrev pub widest : ProgramTerm → ℕ
widest P = suc (program_width P)

-- how many slots are filled in the two ways of a test
abbrev pub yes_filled : Test → ℕ → ℕ
yes_filled if_left n = suc n
yes_filled _ n = n

abbrev pub no_filled : Test → ℕ → ℕ
no_filled if_left n = suc n
no_filled if_nil n = suc (suc n)
no_filled _ n = n

-- what calls, asks, sends or tests comes from a node with a second part, so the width is not least
abbrev pub NarrowEnding : ℕ → Ending → Type 0
NarrowEnding w (call f x k) = 2 ≤ w
NarrowEnding w (ask p x k) = 2 ≤ w
NarrowEnding w (send a k x) = 2 ≤ w
NarrowEnding w e = Unit {0}

-- each closure in the code, where n slots are filled before it, takes at most w of them
abbrev pub Narrow : ℕ → Code → ℕ → Type 0
Narrow w (straight f c) n = Narrow w c (suc n)
Narrow w (closure y b c) n = (captured n b ≤ w) × Narrow w b (entry_filled y n) × Narrow w c (suc n)
Narrow w (test t x b c) n = (2 ≤ w) × Narrow w b (yes_filled t n) × Narrow w c (no_filled t n)
Narrow w (ends e) n = NarrowEnding w e
