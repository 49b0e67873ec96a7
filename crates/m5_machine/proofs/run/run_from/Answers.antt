use Rattle.std.proofs.Common.{arith, rules, ◌∙◌, ◌-◌}
use Rattle.m5_machine.proofs.Going.{spent, ends, no_block, goes, entering_fits}
use Rattle.m5_machine.proofs.run.run_from.Goals as goal

pub returns-then-bench-eq0-clause-run : goal.returns-then-bench-eq0-clause-run
returns-then-bench-eq0-clause-run c = c.loop-bench.invariant.same ∙ spent _ _ _ _ _ _ (omega arith)

pub returns-in_default-clause-run : goal.returns-in_default-clause-run
returns-in_default-clause-run c =
    let r = c.run_block-next.ensures.run in
    rw c.ending.ensures
    (c.loop-bench.invariant.same ∙ ends _ _ (c.loop-bench.bench.fuel - 1) _ _ _ _ _ _ (omega arith) (simp c.open.ensures at r) (search rules))

pub returns-in_default-entry-clause-run : goal.returns-in_default-entry-clause-run
returns-in_default-entry-clause-run c =
    let r = c.run_block-next.ensures.run in
    rw c.ending-in_default-entry.ensures
    (c.loop-bench.invariant.same ∙ no_block _ _ (c.loop-bench.bench.fuel - 1) _ _ _ _ _ _ (c.in-Some.entered, c.in-Some.argument) (omega arith) (simp c.open.ensures at r) (search rules) (search rules))

pub loop-bench-preserved : goal.loop-bench-preserved
loop-bench-preserved c =
    let r = c.run_block-next.ensures.run in
    let fits = entering_fits _ _ _ (c.in-Some.entered, c.in-Some.argument) c.run_block-next.ensures.fits (search rules) in
    record {
      same = c.loop-bench.invariant.same ∙ goes _ _ (c.loop-bench.bench.fuel - 1) _ _ _ _ _ _ _ (c.in-Some.entered, c.in-Some.argument) (omega arith) (simp c.open.ensures at r) (search rules) (search rules) (omega arith);
      enters = record { begins = c.in-Some-entry.ensures.begins; sound = c.run_block-next.ensures.sound; closure_refers = fits.0; value_refers = fits.1 };
    }
