use Rattle.std.proofs.Common.{ap}
use Rattle.m5_region.specs.Region.{TextOf}
use Rattle.m5_message.specs.Reading.{closing_at}
use Rattle.m5_marshal.specs.declared.opening.Opened.{Opened}
use Rattle.m5_marshal.specs.code.Opened.{opening}
use Rattle.m5_marshal.specs.code.Ids.{words}
use Rattle.m5_marshal.proofs.add.add_opened.Goals as goal

pub returns-in-None : goal.returns-in-None
returns-in-None c = (
  TextOf c.in-Whole.letters.now,
  ap (λ (o : Opened). closing_at c.args.dicts.now c.args.format (words c.args.ids.now) c.args.own (opening o) c.args.bytes.now) c.in-Whole.is,
  c.in-None.ensures.0,
  c.in-None.ensures.1,
)

pub returns-in-Some : goal.returns-in-Some
returns-in-Some c = (
  TextOf c.in-Whole.letters.now,
  ap (λ (o : Opened). closing_at c.args.dicts.now c.args.format (words c.args.ids.now) c.args.own (opening o) c.args.bytes.now) c.in-Whole.is,
  c.in-Some.ensures.1,
  c.in-Some.ensures.2,
)
