use Rattle.std.proofs.Common.{◌+◌, ◌<◌, ◌∙◌, subst, arith}
use Rattle.m5_machine.specs.Blocks.{Shows, body_at}
use Rattle.m5_machine.specs.code.Running.{size}
use Rattle.m5_bytecode.proofs.Sizes.{body_length}
use Rattle.m5_bytecode.proofs.Writing.{fill_smaller, if_smaller, instruction_within}
use Rattle.m5_bytecode.proofs.Pieces.{fill_words, if_words, go_words, ask_words, send_words, done_words}
use Rattle.m5_bytecode.proofs.lines.+put_body_words.Goals as goal

pub put_instruction_words-requires : goal.put_instruction_words-requires
put_instruction_words-requires t c =
    let shows = subst (Shows c.args.code.now c.loop-instruction.at) c.in-Fill.is c.step.ensures in
    let long = body_length c.args.code.now c.loop-instruction.at c.loop-instruction.invariant.body in
    let within = instruction_within _ _ _ shows.0 in
    omega (arith, long, within, c.requires.small)

pub loop-instruction-smaller-in-Fill : goal.loop-instruction-smaller-in-Fill
loop-instruction-smaller-in-Fill t c =
    let shows = subst (Shows c.args.code.now c.loop-instruction.at) c.in-Fill.is c.step.ensures in
    fill_smaller _ _ _ shows.0

pub loop-instruction-preserved-in-Fill : goal.loop-instruction-preserved-in-Fill
loop-instruction-preserved-in-Fill t c =
    let shows = subst (Shows c.args.code.now c.loop-instruction.at) c.in-Fill.is c.step.ensures in
    let less = fill_smaller _ _ _ shows.0 in
    record {
      body = shows.1;
      words = fill_words _ c.put_instruction_words.new.out.items _ _ _ _ shows.0 c.in_ok-put_instruction_words-in-Fill.ensures c.in_ok-put-in-Fill.ensures ∙ c.loop-instruction.invariant.words;
      smaller = omega (arith, less, c.loop-instruction.invariant.smaller);
    }

pub put_operand-requires-in-If : goal.put_operand-requires-in-If
put_operand-requires-in-If t c =
    let shows = subst (Shows c.args.code.now c.loop-instruction.at) c.in-If.is c.step.ensures in
    let long = body_length c.args.code.now (c.loop-instruction.at + 1) shows.1 in
    omega (arith, long, c.body_length.ensures, c.requires.small)

pub put_body_words-requires : goal.put_body_words-requires
put_body_words-requires t c =
    let shows = subst (Shows c.args.code.now c.loop-instruction.at) c.in-If.is c.step.ensures in
    let less = if_smaller _ _ _ _ shows.0 in
    let falls : size (body_at c.args.code.now (c.loop-instruction.at + 1)) < t = omega (arith, less.0, c.loop-instruction.invariant.smaller, c.decreases) in
    (falls, (shows.1, c.requires.small))

pub loop-instruction-smaller : goal.loop-instruction-smaller
loop-instruction-smaller t c =
    let shows = subst (Shows c.args.code.now c.loop-instruction.at) c.in-If.is c.step.ensures in
    (if_smaller _ _ _ _ shows.0).1

pub loop-instruction-preserved : goal.loop-instruction-preserved
loop-instruction-preserved t c =
    let shows = subst (Shows c.args.code.now c.loop-instruction.at) c.in-If.is c.step.ensures in
    let less = if_smaller _ _ _ _ shows.0 in
    record {
      body = shows.2;
      words = if_words c.loop-instruction.out.items c.put-in-If.new.out.items c.put_operand.new.out.items c.put_operand-in-If.new.out.items c.put-in-If-2.new.out.items c.put_body_words.new.out.items c.put-in-If-3.new.out.items c.in-If.slot c.body_length.result _ _ _ shows.0 c.body_length.ensures
          c.in_ok-put-in-If.ensures c.in_ok-put_operand-in-If.ensures c.in_ok-put_operand-in-If-2.ensures c.in_ok-put-in-If-2.ensures c.in_ok-put_body_words-in-If.ensures c.in_ok-put-in-If-3.ensures
          ∙ c.loop-instruction.invariant.words;
      smaller = omega (arith, less.1, c.loop-instruction.invariant.smaller);
    }

pub returns-in-Go : goal.returns-in-Go
returns-in-Go t c =
    let shows = subst (Shows c.args.code.now c.loop-instruction.at) c.in-Go.is c.step.ensures in
    go_words _ _ _ _ _ shows c.in_ok-put_two_operands-in-Go.ensures ∙ c.loop-instruction.invariant.words

pub returns-in-Ask : goal.returns-in-Ask
returns-in-Ask t c =
    let shows = subst (Shows c.args.code.now c.loop-instruction.at) c.in-Ask.is c.step.ensures in
    ask_words c.loop-instruction.out.items c.put-in-Ask.new.out.items c.put_operand-in-Ask.new.out.items _ _ _ _ _ shows c.in_ok-put-in-Ask.ensures c.in_ok-put_operand-in-Ask.ensures c.in_ok-put_two_operands-in-Ask.ensures ∙ c.loop-instruction.invariant.words

pub returns-in-Send : goal.returns-in-Send
returns-in-Send t c =
    let shows = subst (Shows c.args.code.now c.loop-instruction.at) c.in-Send.is c.step.ensures in
    send_words c.loop-instruction.out.items c.put-in-Send.new.out.items c.put_operand-in-Send.new.out.items _ _ _ _ _ shows c.in_ok-put-in-Send.ensures c.in_ok-put_operand-in-Send.ensures c.in_ok-put_two_operands-in-Send.ensures ∙ c.loop-instruction.invariant.words

pub returns-in-Done : goal.returns-in-Done
returns-in-Done t c =
    let shows = subst (Shows c.args.code.now c.loop-instruction.at) c.in-Done.is c.step.ensures in
    done_words _ _ _ shows c.in_ok-put-in-Done.ensures ∙ c.loop-instruction.invariant.words
