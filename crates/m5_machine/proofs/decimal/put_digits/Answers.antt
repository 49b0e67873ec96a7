use Rattle.std.proofs.Common.{◌≡◌, ℕ, ◌+◌, ◌-◌, ◌/◌, ◌%◌, ◌<◌, ◌≤◌, ◌^◌, ◌∙◌, length, ap, arith, append-nil, append_assoc, length-append}
use Rattle.std.specs.Fmt.{decimal}
use Rattle.std.proofs.lemmas.Fmt.{decimal_digit, decimal_step, length-decimal-le, decimal_nonempty}
use Rattle.std.proofs.lemmas.List.{drop-set, drop_all, length-set}
use Rattle.m5_machine.proofs.decimal.put_digits.Goals as goal

one_less : (n : ℕ) → 10 ≤ n → n < 2 ^ 64 → length (decimal n) ≡ length (decimal (n / 10)) + 1
one_less n low high = ap length (decimal_step n low high) ∙ length-append _ _

pub loop-left-init : goal.loop-left-init
loop-left-init c = record {
  within = omega arith;
  long = omega arith;
  count = omega arith;
  digits = rw (drop_all 20 c.args.buffer.now (omega arith), append-nil);
}

pub overflow_sub-at : goal.overflow_sub-at
overflow_sub-at c =
    omega (arith, length-decimal-le 20 c.args.number (omega arith) (omega arith) c.ranges.number.fits, decimal_nonempty c.loop-left.left c.loop-left.auto.left-fits.fits)

pub overflow_sub-at-2 : goal.overflow_sub-at-2
overflow_sub-at-2 c =
    omega (arith, length-decimal-le 20 c.args.number (omega arith) (omega arith) c.ranges.number.fits, decimal_nonempty c.loop-left.left c.loop-left.auto.left-fits.fits)

pub loop-left-preserved : goal.loop-left-preserved
loop-left-preserved c =
    let l = c.loop-left in
    let long = length-decimal-le 20 c.args.number (omega arith) (omega arith) c.ranges.number.fits in
    let some = decimal_nonempty l.left l.auto.left-fits.fits in
    let step = one_less l.left (omega arith) l.auto.left-fits.fits in
    let e : l.at - 1 + 1 ≡ l.at = omega arith in
    record {
      within = omega arith;
      long = omega (arith, length-set l.buffer (l.at - 1) (48 + l.left % 10));
      count = omega arith;
      digits = rw (drop-set l.buffer (l.at - 1) _ (omega arith), e) (rw (decimal_step l.left (omega arith) l.auto.left-fits.fits, append_assoc) at l.invariant.digits);
    }

pub returns-clause-start : goal.returns-clause-start
returns-clause-start c =
    let one = ap length (decimal_digit c.loop-left.left (omega arith)) in
    let long = length-decimal-le 20 c.args.number (omega arith) (omega arith) c.ranges.number.fits in
    omega (arith, one, long)

pub returns-clause-written : goal.returns-clause-written
returns-clause-written c =
    let l = c.loop-left in
    let one = ap length (decimal_digit l.left (omega arith)) in
    let long = length-decimal-le 20 c.args.number (omega arith) (omega arith) c.ranges.number.fits in
    let e : l.at - 1 + 1 ≡ l.at = omega (arith, one, long) in
    rw (drop-set l.buffer (l.at - 1) _ (omega (arith, one, long)), e) (rw (decimal_digit l.left (omega arith)) at l.invariant.digits)
