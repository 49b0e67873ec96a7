use Rattle.std.proofs.Common.{get_or, refl}
use Rattle.m5_source_site.proofs.Begun.{handlers_more}
use Rattle.m5_source_site.proofs.resume.begin_handlers.Goals as goal

pub loop-number-preserved : goal.loop-number-preserved
loop-number-preserved c = handlers_more c.args.here c.args.site c.loop-number.after c.in_ok-after.after c.args.numbers.now c.loop-number.number-index (get_or c.args.numbers.now c.loop-number.number-index 0) c.args.text.now c.loop-number-test.true refl c.loop-number.invariant c.in_ok-after.ensures
