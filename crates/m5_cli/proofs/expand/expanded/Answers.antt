use Rattle.std.proofs.Common.{◌≡◌, subst}
use Rattle.m5_lex.specs.declared.place.Place.{Place}
use Rattle.m5_front.specs.declared.refusal.Fault.TheVariants as fault
use Rattle.m5_cli.specs.Refusal.{refusal_line}
use Rattle.m5_cli.proofs.Refusing.{byte_due, number_due}
use Rattle.m5_cli.proofs.expand.expanded.Goals as goal

pub returns-in_ok-refusal_text-in-Err-BadByte : goal.returns-in_ok-refusal_text-in-Err-BadByte
returns-in_ok-refusal_text-in-Err-BadByte c =
    let Says : Place → Type 0 = λ p. c.in_ok-refusal_text-in-Err-BadByte.field-0 ≡ refusal_line (record { fault = fault.Byte; place = p }) in
    byte_due c.args.input.now c.in_ok-refusal_text-in-Err-BadByte.field-0 c.split.result.0.now c.in-Err-BadByte.field-0 c.in-Err-BadByte.place
    c.split.ensures.program c.in-Err-BadByte.field-0-is c.in-Err-BadByte.ensures.fault (subst Says c.in-Err-BadByte.place-is c.in_ok-refusal_text-in-Err-BadByte.ensures)

pub returns-in_ok-refusal_text-in-Err-BadNumber : goal.returns-in_ok-refusal_text-in-Err-BadNumber
returns-in_ok-refusal_text-in-Err-BadNumber c =
    let Says : Place → Type 0 = λ p. c.in_ok-refusal_text-in-Err-BadNumber.field-0 ≡ refusal_line (record { fault = fault.Number; place = p }) in
    number_due c.args.input.now c.in_ok-refusal_text-in-Err-BadNumber.field-0 c.split.result.0.now c.in-Err-BadNumber.field-0 c.in-Err-BadNumber.place
    c.split.ensures.program c.in-Err-BadNumber.field-0-is c.in-Err-BadNumber.ensures.fault (subst Says c.in-Err-BadNumber.place-is c.in_ok-refusal_text-in-Err-BadNumber.ensures)
