use Rattle.std.proofs.Common.{◌∷◌, ◌+◌, arith}
use Rattle.m5_terms.specs.declared.thread.Frame.TheVariants.{Part}
use Rattle.m5_terms.specs.declared.thread.Focus.TheVariants.{Returned}
use Rattle.m5_meaning.specs.Step.{thread_of}
use Rattle.m5_source_site.proofs.Outcomes.{to-part, to-last}
use Rattle.m5_source_site.proofs.returning.fill_part.Goals as goal

pub returns-in_ok-after : goal.returns-in_ok-after
returns-in_ok-after c =
    let t = thread_of (Part c.args.frame.0 c.args.frame.1 c.args.frame.2 ∷ c.args.frames) (Returned c.args.given.0 c.args.given.1) in
    to-part c.args.program.now c.args.here t c.args.site _ _ _ c.args.given.0 _ _ _ c.args.frame.2 (c.args.frame.2 + 1) c.in_ok-node.ensures (omega arith) (omega (arith, c.if-hole-saturating_sub.true, c.saturating_sub.ensures, c.count_of_parts.ensures)) c.in_ok-after.ensures

pub returns-else-hole-saturating_sub : goal.returns-else-hole-saturating_sub
returns-else-hole-saturating_sub c =
    let t = thread_of (Part c.args.frame.0 c.args.frame.1 c.args.frame.2 ∷ c.args.frames) (Returned c.args.given.0 c.args.given.1) in
    to-last c.args.program.now c.args.here t c.args.site c.args.frames c.args.frame.0 c.args.given.0 c.args.frame.1 c.args.given.1 c.args.frame.2 c.fill_last_part.result (omega (arith, c.if-hole-saturating_sub.false, c.saturating_sub.ensures, c.count_of_parts.ensures)) c.fill_last_part.ensures
