use Rattle.std.proofs.Common.{slice_get, arith}
use Rattle.std.proofs.lemmas.Int.{ints}
use Rattle.std.proofs.lemmas.Option.{slice_get_within}
use Rattle.m5_marshal.proofs.Fields.{label_number}
use Rattle.m5_marshal.proofs.packing.argument_of.Goals as goal

pub returns-then-number-lt0 : goal.returns-then-number-lt0
returns-then-number-lt0 c e en =
    let number = label_number (slice_get c.args.region.now.objects c.args.at.0) en.0 c.in-Int.number c.in-Int.ensures.is en.1 in
    let within = slice_get_within c.args.dicts.now.labels en.0 e en.2 in
    let few = c.are_dictionaries.ensures.labels.few in
    absurd (omega (arith, ints, number, within, few))
