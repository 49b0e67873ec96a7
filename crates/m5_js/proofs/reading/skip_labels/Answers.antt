use Rattle.std.proofs.Common.{List, ℕ, sym, subst, arith}
use Rattle.m5_machine.specs.code.Flattened.{IsLaid}
use Rattle.m5_machine.proofs.Laying.{laid_none}
use Rattle.m5_js.proofs.reading.skip_labels.Goals as goal

pub loop-starts-preserved : goal.loop-starts-preserved
loop-starts-preserved c = record {
  within = omega (arith, c.in_ok-push.ensures.len, c.len.ensures, c.loop-starts-test.true);
  laid = λ ss bs i. subst (λ (xs : List ℕ). IsLaid xs ss bs) (sym c.in_ok-push.ensures.items) (laid_none _ _ _ (c.loop-starts.invariant.laid ss bs i));
}
