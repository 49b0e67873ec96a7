use Rattle.std.proofs.Common.{◌≡◌, ◌*◌, ◌∙◌, ap, Some, sym, arith}
use Rattle.std.specs.Int.{w32, from_be_bytes}
use Rattle.m5_marshal.proofs.Words.{four, word_there, word_within}
use Rattle.m5_marshal.proofs.field.id_there.Goals as goal

pub bounds-ids-from : goal.bounds-ids-from
bounds-ids-from c = omega (arith, word_within c.args.ids.now c.args.place c.requires)

pub bounds-ids-from-2 : goal.bounds-ids-from-2
bounds-ids-from-2 c = omega (arith, word_within c.args.ids.now c.args.place c.requires)

pub bounds-ids-from-3 : goal.bounds-ids-from-3
bounds-ids-from-3 c = omega (arith, word_within c.args.ids.now c.args.place c.requires)

pub bounds-ids-from-4 : goal.bounds-ids-from-4
bounds-ids-from-4 c = omega (arith, word_within c.args.ids.now c.args.place c.requires)

pub returns : goal.returns
returns c =
    let e = word_there c.args.ids.now c.args.place (word_within c.args.ids.now c.args.place c.requires) in
    let n : c.from_be_bytes.result ≡ from_be_bytes w32 (four c.args.ids.now (4 * c.args.place)) = omega arith in
    e ∙ sym (ap Some n)
