use Rattle.m5_terms.specs.declared.thread.Focus.TheVariants.{Returned}
use Rattle.m5_meaning.specs.Step.{thread_of}
use Rattle.m5_source_site.proofs.Outcomes.{away}
use Rattle.m5_source_site.proofs.returning.return_value.Goals as goal

pub returns-in-Some-Return : goal.returns-in-Some-Return
returns-in-Some-Return c =
    let t = thread_of c.args.frames (Returned c.args.given.0 c.args.given.1) in
    away c.args.program.now c.args.here c.args.given.0 t c.args.site c.pop_front.new.self c.args.frames c.args.given.1 c.in-Some-Return.there c.return_to_world.result
    (rw c.in-Some-Return.field-0-is at c.in-Some-Return.ensures) (c.return_to_world.ensures c.args.program.now c.args.here c.args.given.0 t)
