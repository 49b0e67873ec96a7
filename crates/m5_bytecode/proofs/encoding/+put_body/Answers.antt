use Rattle.std.proofs.Common.{◌+◌, ◌<◌, ◌∙◌, subst, arith}
use Rattle.std.specs.Vec.{vec_len}
use Rattle.m5_machine.specs.Blocks.{Shows, body_at}
use Rattle.m5_machine.specs.code.Running.{size}
use Rattle.m5_bytecode.specs.Spelling.{body_bytes}
use Rattle.m5_bytecode.proofs.Sizes.{body_length}
use Rattle.m5_bytecode.proofs.Writing.{fill_bytes, instruction_within, length_set, length_small, if_bytes, fill_smaller, if_smaller, go_bytes, ask_bytes, send_bytes, done_bytes}
use Rattle.m5_bytecode.proofs.encoding.+put_body.Goals as goal

pub put_instruction-requires : goal.put_instruction-requires
put_instruction-requires t c =
    let shows = subst (Shows c.args.code.now c.loop-instruction.at) c.in-Fill.is c.step.ensures in
    let long = body_length c.args.code.now c.loop-instruction.at c.loop-instruction.invariant.body in
    let within = instruction_within _ _ _ shows.0 in
    omega (arith, long, within, c.requires.small)

pub loop-instruction-smaller-in-Fill : goal.loop-instruction-smaller-in-Fill
loop-instruction-smaller-in-Fill t c =
    let shows = subst (Shows c.args.code.now c.loop-instruction.at) c.in-Fill.is c.step.ensures in
    fill_smaller _ _ _ shows.0

pub loop-instruction-preserved-in-Fill : goal.loop-instruction-preserved-in-Fill
loop-instruction-preserved-in-Fill t c =
    let shows = subst (Shows c.args.code.now c.loop-instruction.at) c.in-Fill.is c.step.ensures in
    let less = fill_smaller _ _ _ shows.0 in
    record {
      body = shows.1;
      bytes = fill_bytes _ _ _ _ _ shows.0 c.in_ok-put_instruction-in-Fill.ensures ∙ c.loop-instruction.invariant.bytes;
      smaller = omega (arith, less, c.loop-instruction.invariant.smaller);
    }

pub put_body-requires : goal.put_body-requires
put_body-requires t c =
    let shows = subst (Shows c.args.code.now c.loop-instruction.at) c.in-If.is c.step.ensures in
    let less = if_smaller _ _ _ _ shows.0 in
    let falls : size (body_at c.args.code.now (c.loop-instruction.at + 1)) < t = omega (arith, less.0, c.loop-instruction.invariant.smaller, c.decreases) in
    (falls, (shows.1, c.requires.small))

pub set_length-requires-clause-small : goal.set_length-requires-clause-small
set_length-requires-clause-small t c =
    let shows = subst (Shows c.args.code.now c.loop-instruction.at) c.in-If.is c.step.ensures in
    let long = body_length c.args.code.now (c.loop-instruction.at + 1) shows.1 in
    length_small c.put_slot.new.out.items c.put_four.new.out.items c.put_body.new.out.items (body_bytes (body_at c.args.code.now (c.loop-instruction.at + 1))) c.len-from.result (vec_len c.put_body.new.out) (omega arith) (omega arith) c.in_ok-put_four-in-If.ensures c.in_ok-put_body-in-If.ensures (omega (arith, long, c.requires.small))

pub loop-instruction-smaller : goal.loop-instruction-smaller
loop-instruction-smaller t c =
    let shows = subst (Shows c.args.code.now c.loop-instruction.at) c.in-If.is c.step.ensures in
    (if_smaller _ _ _ _ shows.0).1

pub loop-instruction-preserved : goal.loop-instruction-preserved
loop-instruction-preserved t c =
    let shows = subst (Shows c.args.code.now c.loop-instruction.at) c.in-If.is c.step.ensures in
    let less = if_smaller _ _ _ _ shows.0 in
    let first = length_set c.put_slot.new.out.items c.put_four.new.out.items c.put_body.new.out.items c.set_length.new.out.items (body_bytes (body_at c.args.code.now (c.loop-instruction.at + 1))) c.len-from.result (vec_len c.put_body.new.out) (omega arith) (omega arith) c.in_ok-put_four-in-If.ensures c.in_ok-put_body-in-If.ensures c.set_length.ensures in
    record {
      body = shows.2;
      bytes = if_bytes _ _ _ _ _ _ _ shows.0 c.in_ok-put_slot-in-If.ensures first ∙ c.loop-instruction.invariant.bytes;
      smaller = omega (arith, less.1, c.loop-instruction.invariant.smaller);
    }

pub returns-in-Go : goal.returns-in-Go
returns-in-Go t c =
    let shows = subst (Shows c.args.code.now c.loop-instruction.at) c.in-Go.is c.step.ensures in
    go_bytes _ _ _ _ _ shows c.in_ok-put_slots-in-Go.ensures ∙ c.loop-instruction.invariant.bytes

pub returns-in-Ask : goal.returns-in-Ask
returns-in-Ask t c =
    let shows = subst (Shows c.args.code.now c.loop-instruction.at) c.in-Ask.is c.step.ensures in
    ask_bytes _ _ _ _ _ _ _ shows c.in_ok-put_byte-in-Ask.ensures c.in_ok-put_slots-in-Ask.ensures ∙ c.loop-instruction.invariant.bytes

pub returns-in-Send : goal.returns-in-Send
returns-in-Send t c =
    let shows = subst (Shows c.args.code.now c.loop-instruction.at) c.in-Send.is c.step.ensures in
    send_bytes _ _ _ _ _ _ _ shows c.in_ok-put_byte-in-Send.ensures c.in_ok-put_slots-in-Send.ensures ∙ c.loop-instruction.invariant.bytes

pub returns-in-Done : goal.returns-in-Done
returns-in-Done t c =
    let shows = subst (Shows c.args.code.now c.loop-instruction.at) c.in-Done.is c.step.ensures in
    done_bytes _ _ _ shows c.in_ok-put_byte-in-Done.ensures ∙ c.loop-instruction.invariant.bytes
