use Rattle.std.proofs.Common.{slice_get, arith}
use Rattle.std.proofs.lemmas.Int.{ints}
use Rattle.std.proofs.lemmas.Option.{slice_get_within}
use Rattle.m5_marshal.proofs.Fields.{label_number}
use Rattle.m5_marshal.proofs.Fitting.{first_field}
use Rattle.m5_marshal.proofs.premise.label_of.Goals as goal

pub field-requires : goal.field-requires
field-requires c = first_field c.args.region.now.objects c.args.at.0 c.requires c.refers_to_older.ensures

pub returns-then-number-lt0-clause-none : goal.returns-then-number-lt0-clause-none
returns-then-number-lt0-clause-none c e en =
    let number = label_number (slice_get c.args.region.now.objects c.args.at.0) en.0 c.in-Int.number c.in-Int.ensures.is en.1 in
    let within = slice_get_within c.args.dicts.now.labels en.0 e en.2 in
    let few = c.are_dictionaries.ensures.labels.few in
    absurd (omega (arith, ints, number, within, few))
