use Rattle.std.proofs.Common.{subst, ap, sym, ◌∙◌, Some}
use Rattle.m5_machine.specs.Blocks.{Shows}
use Rattle.m5_machine.proofs.Ends.{fill_room, filled_on, filled_out, chosen_first, chosen_second, chosen_none, ends_go, ends_ask, ends_send, ends_done}
use Rattle.m5_machine.proofs.block.step.Goals as goal

pub fill-requires-clause-room : goal.fill-requires-clause-room
fill-requires-clause-room c = fill_room _ _ _ _ _ c.requires (subst (Shows c.args.code.now c.args.at) c.in-Fill.is c.step.ensures).0

pub returns-in-None : goal.returns-in-None
returns-in-None c = filled_on _ _ _ _ _ _ c.requires (subst (Shows c.args.code.now c.args.at) c.in-Fill.is c.step.ensures).0 (subst (Shows c.args.code.now c.args.at) c.in-Fill.is c.step.ensures).1 c.in-None.ensures.filled c.in-None.ensures.keeps

pub returns-in-Some : goal.returns-in-Some
returns-in-Some c = filled_out _ _ _ _ _ _ _ (subst (Shows c.args.code.now c.args.at) c.in-Fill.is c.step.ensures).0 c.in-Some.ensures.filled c.in-Some.ensures.keeps c.in-Some.ensures.fits

pub returns-in-Some-true : goal.returns-in-Some-true
returns-in-Some-true c = chosen_first _ _ _ _ _ _ c.requires (subst (Shows c.args.code.now c.args.at) c.in-If.is c.step.ensures).0 (subst (Shows c.args.code.now c.args.at) c.in-If.is c.step.ensures).1 (ap Some (sym c.in-Some-true.field-0-test) ∙ c.in-Some-true.ensures)

pub returns-in-Some-false : goal.returns-in-Some-false
returns-in-Some-false c = chosen_second _ _ _ _ _ _ c.requires (subst (Shows c.args.code.now c.args.at) c.in-If.is c.step.ensures).0 (subst (Shows c.args.code.now c.args.at) c.in-If.is c.step.ensures).2 (ap Some (sym c.in-Some-false.field-0-test) ∙ c.in-Some-false.ensures)

pub returns-in-None-bool_in : goal.returns-in-None-bool_in
returns-in-None-bool_in c = chosen_none _ _ _ _ _ _ c.requires (subst (Shows c.args.code.now c.args.at) c.in-If.is c.step.ensures).0 c.in-None-bool_in.ensures

pub returns-in-Go : goal.returns-in-Go
returns-in-Go c = ends_go _ _ _ _ _ _ c.requires (subst (Shows c.args.code.now c.args.at) c.in-Go.is c.step.ensures) c.enters.ensures.next (c.enters.ensures.fits c.args.code.now)

pub returns-in-Ask : goal.returns-in-Ask
returns-in-Ask c = ends_ask _ _ _ _ _ _ _ c.requires (subst (Shows c.args.code.now c.args.at) c.in-Ask.is c.step.ensures) c.asks.ensures.next c.asks.ensures.fits

pub returns-in-Send : goal.returns-in-Send
returns-in-Send c = ends_send _ _ _ _ _ _ _ c.requires (subst (Shows c.args.code.now c.args.at) c.in-Send.is c.step.ensures) c.sends.ensures.next (c.sends.ensures.fits c.args.code.now)

pub returns-in-Done : goal.returns-in-Done
returns-in-Done c = ends_done _ _ _ c.requires (subst (Shows c.args.code.now c.args.at) c.in-Done.is c.step.ensures)
