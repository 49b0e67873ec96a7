use Rattle.std.proofs.Common.{refl, arith, List, ℕ, ◌≡◌, sym, subst, ◌<◌, ◌^◌, length, All}
use Rattle.m5_machine.specs.Numbers.{IsSlot}
use Rattle.m5_bytecode.proofs.Reading.{array_is}
use Rattle.m5_bytecode.proofs.input.Input.array.Goals as goal

pub returns-clause-ok : goal.returns-clause-ok
returns-clause-ok c =
    let count = c.in_ok-slots.ensures.count in
    let some = c.if-count-eq0.false in
    let long : length c.in_ok-slots.slots.items ≡ c.in_ok-count.count = omega (arith, count) in
    let numbers : (0 < length c.in_ok-slots.slots.items) × (length c.in_ok-slots.slots.items < 2 ^ 16) × All IsSlot c.in_ok-slots.slots.items =
    (omega (arith, long, some), omega (arith, long), c.in_ok-slots.ensures.slots) in
    record {
      is = array_is _ _ _ _ _ _ _ c.in_ok-count.ensures.spelled c.in_ok-bytes.ensures.spelled c.in_ok-slots.ensures.spelled long c.of.ensures;
      good = record { server = refl; numbers = subst (λ (xs : List ℕ). (0 < length xs) × (length xs < 2 ^ 16) × All IsSlot xs) (sym c.of.ensures) numbers };
    }
