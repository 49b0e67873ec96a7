use Rattle.std.proofs.Common.{◌∙◌, sym, arith}
use Rattle.m5_site.proofs.Handling.{none_is, handled_next}
use Rattle.m5_site.proofs.answers.all_handled.Goals as goal

pub returns-then-is_some-clause-sound : goal.returns-then-is_some-clause-sound
returns-then-is_some-clause-sound c = λ code s. c.handled_by.ensures.sound code (c.handlers.invariant.sound code s)

pub handlers-preserved : goal.handlers-preserved
handlers-preserved c = record {
  same =
      c.handlers.invariant.same
      ∙ handled_next c.args.finish c.args.bytes.now c.args.numbers.now c.handlers.number-index c.handlers.state c.handled_by.new.state (omega arith) c.handled_by.ensures.is (none_is _ (sym c.is_some.ensures ∙ c.if-is_some.false));
  sound = λ code s. c.handled_by.ensures.sound code (c.handlers.invariant.sound code s);
}
