use Rattle.std.proofs.Common.{◌∷◌, sym, ◌∙◌}
use Rattle.m5_terms.specs.declared.thread.Frame.TheVariants.{Part}
use Rattle.m5_terms.specs.declared.thread.Focus.TheVariants.{Returned}
use Rattle.m5_meaning.specs.Step.{thread_of}
use Rattle.m5_source_site.proofs.Outcomes.{full-is, concludes}
use Rattle.m5_source_site.proofs.returning.fill_last_part.Goals as goal

pub returns-in_ok-waiting : goal.returns-in_ok-waiting
returns-in_ok-waiting c =
    let t = thread_of (Part c.args.frame.0 c.args.frame.1 c.args.frame.2 ∷ c.args.frames) (Returned c.args.given.0 c.args.given.1) in
    full-is c.args.program.now c.args.here t c.args.site _ _ _ _ _ c.in_ok-reduced.ensures (sym c.has_no_place.ensures ∙ c.if-has_no_place.true) c.in_ok-waiting.ensures

pub returns-else-has_no_place : goal.returns-else-has_no_place
returns-else-has_no_place c =
    let t = thread_of (Part c.args.frame.0 c.args.frame.1 c.args.frame.2 ∷ c.args.frames) (Returned c.args.given.0 c.args.given.1) in
    concludes c.args.program.now c.args.here t c.args.site _ _ _ _ _ c.in_ok-reduced.ensures (sym c.has_no_place.ensures ∙ c.if-has_no_place.false) c.conclude.ensures
