use Rattle.std.proofs.Common.{sym, ◌∙◌}
use Rattle.m5_terms.specs.declared.thread.Focus.TheVariants.{Eval}
use Rattle.m5_meaning.specs.Step.{thread_of}
use Rattle.m5_source_site.proofs.Outcomes.{spawn-stops, spawn-goes}
use Rattle.m5_source_site.proofs.evaluate.evaluate_atom.Goals as goal

pub returns-in_ok-waiting-in-Some : goal.returns-in_ok-waiting-in-Some
returns-in_ok-waiting-in-Some c =
    let t = thread_of c.args.frames (Eval c.args.given.0 c.args.given.1) in
    spawn-stops c.args.program.now c.args.here t c.args.site _ _ _ _ _ (rw c.in-Some.is at c.in_ok-body.ensures) (sym (c.lacks_place_beside_front.ensures t) ∙ c.if-lacks_place_beside_front.true) c.in_ok-waiting-in-Some.ensures

pub returns-in_ok-spawn-in-Some : goal.returns-in_ok-spawn-in-Some
returns-in_ok-spawn-in-Some c =
    let t = thread_of c.args.frames (Eval c.args.given.0 c.args.given.1) in
    spawn-goes c.args.program.now t c.args.site _ _ _ _ _ (rw c.in-Some.is at c.in_ok-body.ensures) (sym (c.lacks_place_beside_front.ensures t) ∙ c.if-lacks_place_beside_front.false) c.in_ok-spawn-in-Some.ensures
