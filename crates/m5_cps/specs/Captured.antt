-- Closures over the slots that are filled, of which a block takes those that it uses.
use Rattle.std.specs.Prelude.{ℕ, zero, suc, ◌+◌, Bool, false, ◌==◌, ◌||◌, if◌then◌else◌}
use Rattle.m5_cps.specs.Entries.{Entry}
use Rattle.m5_cps.specs.Blocks.{Straight, constant, one, two, unheld, unsham, spawn, Ending, go, call, ask, send, done, Code, straight, closure, test, Block, Blocks}
use Rattle.m5_cps.specs.Blocks as block
use Rattle.m5_cps.specs.Values as value
use Rattle.m5_cps.specs.Values.{atom, wrap, join, closed, enter, SiteNext, unit_value, put, put_all, filled_by}
use Rattle.m5_cps.specs.Units.{leaf_units, wrap_units, join_units, closure_units}

-- beside its values a closure has how it is entered, how many slots are filled, and the block
pub data Closure : Type 0 where
  over : Entry → ℕ → Code → Closure

abbrev pub Value : Type 0
Value = value.Value Closure

abbrev pub Thread : Type 0
Thread = value.Thread Closure

abbrev pub Item : Type 0
Item = value.Item Closure

abbrev pub Site : Type 0
Site = value.Site Closure

-- whether the code uses a slot
abbrev pub straight_uses : Straight → ℕ → Bool
straight_uses (constant f) l = false
straight_uses (one f x) l = l == x
straight_uses (two f x y) l = l == x || l == y
straight_uses (unheld x) l = l == x
straight_uses (unsham x) l = l == x
straight_uses (spawn x) l = l == x

abbrev pub ending_uses : Ending → ℕ → Bool
ending_uses (go k x) l = l == k || l == x
ending_uses (call f x k) l = l == f || (l == x || l == k)
ending_uses (ask p x k) l = l == x || l == k
ending_uses (send a k x) l = l == a || (l == k || l == x)
ending_uses done l = false

abbrev pub uses : Code → ℕ → Bool
uses (straight f c) l = straight_uses f l || uses c l
uses (closure y b c) l = uses b l || uses c l
uses (test t x b c) l = l == x || (uses b l || uses c l)
uses (block.ends e) l = ending_uses e l

-- the sum over the slots before n that the code uses
abbrev pub sum_used : Code → (ℕ → ℕ) → ℕ → ℕ
sum_used c f zero = 0
sum_used c f (suc n) = sum_used c f n + (if uses c n then f n else 0)

-- how many slots of so many a block takes with it
abbrev pub captured : ℕ → Code → ℕ
captured n c = sum_used c (λ l. 1) n

-- the units of a value counted as a tree; a closure has those slots that its block uses
abbrev pub value_units : Value → ℕ
value_units (atom f) = leaf_units f
value_units (wrap f a) = wrap_units f + value_units a
value_units (join f a b) = join_units f + (value_units a + value_units b)
value_units (closed (over y n c) ρ) = closure_units 0 + sum_used c (λ l. 1 + value_units (ρ l)) n
