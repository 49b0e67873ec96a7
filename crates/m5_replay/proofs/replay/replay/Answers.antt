use Rattle.std.proofs.Common.{ℕ, subst}
use Rattle.m5_meaning.specs.Site.{Program}
use Rattle.m5_replay.specs.Lines.{lines}
use Rattle.m5_replay.specs.Verdicts.{IsVerdict}
use Rattle.m5_replay.specs.code.Running.{IsReady}
use Rattle.m5_replay.specs.declared.verdict.Verdict.TheVariants.{No}
use Rattle.m5_replay.proofs.Answering.{cut-here, no-lines, shorter}
use Rattle.m5_replay.proofs.Passing.{begins-stands, next-stands, stands-by}
use Rattle.m5_replay.proofs.replay.replay.Goals as goal

pub lines-init : goal.lines-init
lines-init c = (subst (λ (n : ℕ). IsReady n c.in_ok-running.running) c.limits_of-limits.ensures.sessions c.in_ok-running.ensures.ready, begins-stands c.of-measured.result c.args.script.now c.args.trace.now c.in_ok-running.running c.in_ok-running.ensures.stands)

pub check_line-requires : goal.check_line-requires
check_line-requires c = c.lines.invariant.0

pub returns-in-Some : goal.returns-in-Some
returns-in-Some c =
    let s = stands-by c.of-measured.result c.args.script.now c.args.trace.now (lines c.lines.rest.now) _ c.lines.number c.lines.running c.split_line.ensures.lines c.lines.invariant.1 in
    subst (λ (P : Program). IsVerdict P c.args.script.now c.args.trace.now c.in-Some.verdict) c.of-measured.ensures
    (rw c.in-Some.is at (c.in_ok-verdict.ensures.verdict c.args.script.now c.args.trace.now s.passed c.limits_of-limits.ensures s.stands s.counted))

pub lines-smaller : goal.lines-smaller
lines-smaller c = shorter c.lines.rest.now _ _ c.split_line.ensures.lines c.split_line.ensures.length

pub lines-preserved : goal.lines-preserved
lines-preserved c =
    let s = stands-by c.of-measured.result c.args.script.now c.args.trace.now (lines c.lines.rest.now) _ c.lines.number c.lines.running c.split_line.ensures.lines c.lines.invariant.1 in (
      c.in_ok-verdict.ensures.ready c.in_default.is,
      next-stands c.of-measured.result c.args.script.now c.args.trace.now _ c.lines.number c.in_ok-number.number c.check_line.new.running c.in_ok-number.ensures
          (rw c.in_default.is at (c.in_ok-verdict.ensures.verdict c.args.script.now c.args.trace.now s.passed c.limits_of-limits.ensures s.stands s.counted)),
    )

pub returns : goal.returns
returns c = subst (λ (P : Program). IsVerdict P c.args.script.now c.args.trace.now (No c.lines.number)) c.of-measured.ensures
    (cut-here c.of-measured.result c.args.script.now c.args.trace.now (lines c.lines.rest.now) c.lines.number c.lines.running (no-lines c.lines.rest.now c.is_empty.result c.is_empty.ensures c.lines-test.false) c.lines.invariant.1)
