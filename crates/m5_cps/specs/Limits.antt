-- The limits of blocks, as codes of slots and endings spell them: how deep endings nest, and how many slots are filled.
use Rattle.std.specs.Prelude.{ℕ, suc, ◌+◌, ◌≤◌, max}
use Rattle.m5_terms.specs.declared.form.UnaryForm.TheVariants as unary_form
use Rattle.m5_cps.specs.Entries.{Entry, by_value, by_call, entry_filled}
use Rattle.m5_cps.specs.Blocks.{Straight, constant, one, two, Test, if_true, if_left, if_nil, if_here, Ending, call, send, Code, straight, closure, test, ends}
use Rattle.m5_cps.specs.Captured.{captured}

-- how many parts fill slots where the test holds, and where it does not
abbrev pub parts_then : Test → ℕ
parts_then if_left = 1
parts_then _ = 0

abbrev pub parts_else : Test → ℕ
parts_else if_left = 1
parts_else if_nil = 2
parts_else _ = 0

-- slots for a form: its value, and before it the number of a label or a tag; for a division the two parts, zero, whether the
-- second is zero, and the quotient with its tag
abbrev pub straight_slots : Straight → ℕ
straight_slots (constant f) = 2
straight_slots (one unary_form.Div x) = 7
straight_slots (one f x) = 2
straight_slots (two f x y) = 2
straight_slots _ = 1

-- for a test: a tag, or a world and whether it is the one
abbrev pub test_slots : Test → ℕ
test_slots if_true = 0
test_slots if_here = 2
test_slots _ = 1

-- for an ending: the array of a call, after the label and two for each primitive that it may be; two for each other world
abbrev pub ending_slots : Ending → ℕ
ending_slots (call f x k) = 18
ending_slots (send a k x) = 4
ending_slots _ = 0

-- where a block begins: its closure and its argument, and the two parts of the array of a call
abbrev pub begun_slots : Entry → ℕ
begun_slots (by_value m T) = 2
begun_slots (by_call m A B) = 4

-- how many slots are filled along the longest path
abbrev pub path : Code → ℕ
path (straight f c) = straight_slots f + path c
path (closure y b c) = 2 + path c
path (test t x b c) = test_slots t + max (parts_then t + path b) (parts_else t + path c)
path (ends e) = ending_slots e

-- how many endings are open at once for an ending: a call asks first whether the function is one of eight primitives, a send
-- goes to one of three worlds
abbrev pub ending_depth : Ending → ℕ
ending_depth (call f x k) = 9
ending_depth (send a k x) = 3
ending_depth _ = 1

-- and for a division, which is made where the second part is not zero
abbrev pub straight_depth : Straight → ℕ
straight_depth (one unary_form.Div x) = 1
straight_depth _ = 0

abbrev pub depth : Code → ℕ
depth (straight f c) = straight_depth f + depth c
depth (closure y b c) = depth c
depth (test t x b c) = suc (max (depth b) (depth c))
depth (ends e) = ending_depth e

-- a block with so many variables from outside: its endings nest at most 1,000 deep, and it has at most 65,536 slots
pub record IsLimited (outside : ℕ) (y : Entry) (c : Code) : Type 0 where
  pub depth : depth c ≤ 1000
  pub slots : outside + (begun_slots y + path c) ≤ 65536

-- so it is with each block in the code, where so many slots of blocks are filled
abbrev pub AreLimited : ℕ → Code → Type 0
AreLimited n (straight f c) = AreLimited (suc n) c
AreLimited n (closure y b c) = IsLimited (captured n b) y b × AreLimited (entry_filled y n) b × AreLimited (suc n) c
AreLimited n (test t x b c) = AreLimited (parts_then t + n) b × AreLimited (parts_else t + n) c
AreLimited n (ends e) = Unit {0}
