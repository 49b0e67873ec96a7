use Rattle.std.proofs.Common.{◌+◌, ◌<◌, subst, arith}
use Rattle.m5_machine.specs.Blocks.{Shows, body_at}
use Rattle.m5_machine.specs.code.Running.{size}
use Rattle.m5_bytecode.proofs.Sizes.{body_length, fill_len, if_len, go_len, ask_len, send_len, done_len}
use Rattle.m5_bytecode.proofs.Writing.{fill_smaller, if_smaller}
use Rattle.m5_bytecode.proofs.lengths.+body_length.Goals as goal

pub overflow_add-total : goal.overflow_add-total
overflow_add-total t c =
    let shows = subst (Shows c.args.code.now c.loop-instruction.at) c.in-Fill.is c.step.ensures in
    let long = fill_len _ _ _ shows.0 in
    let whole = body_length c.args.code.now c.args.start c.requires.body in
    omega (arith, long, whole, c.loop-instruction.invariant.sum, c.requires.small)

pub loop-instruction-smaller-in-Fill : goal.loop-instruction-smaller-in-Fill
loop-instruction-smaller-in-Fill t c =
    let shows = subst (Shows c.args.code.now c.loop-instruction.at) c.in-Fill.is c.step.ensures in
    fill_smaller _ _ _ shows.0

pub loop-instruction-preserved-in-Fill : goal.loop-instruction-preserved-in-Fill
loop-instruction-preserved-in-Fill t c =
    let shows = subst (Shows c.args.code.now c.loop-instruction.at) c.in-Fill.is c.step.ensures in
    let long = fill_len _ _ _ shows.0 in
    let less = fill_smaller _ _ _ shows.0 in
    record {
      body = shows.1;
      sum = omega (arith, long, c.loop-instruction.invariant.sum);
      smaller = omega (arith, less, c.loop-instruction.invariant.smaller);
    }

pub body_length-requires : goal.body_length-requires
body_length-requires t c =
    let shows = subst (Shows c.args.code.now c.loop-instruction.at) c.in-If.is c.step.ensures in
    let less = if_smaller _ _ _ _ shows.0 in
    let falls : size (body_at c.args.code.now (c.loop-instruction.at + 1)) < t = omega (arith, less.0, c.loop-instruction.invariant.smaller, c.decreases) in
    (falls, (shows.1, c.requires.small))

pub overflow_add-total-in-If : goal.overflow_add-total-in-If
overflow_add-total-in-If t c =
    let shows = subst (Shows c.args.code.now c.loop-instruction.at) c.in-If.is c.step.ensures in
    let long = if_len _ _ _ _ shows.0 in
    let whole = body_length c.args.code.now c.args.start c.requires.body in
    omega (arith, long, whole, c.loop-instruction.invariant.sum, c.requires.small)

pub overflow_add-total-in-If-2 : goal.overflow_add-total-in-If-2
overflow_add-total-in-If-2 t c =
    let shows = subst (Shows c.args.code.now c.loop-instruction.at) c.in-If.is c.step.ensures in
    let long = if_len _ _ _ _ shows.0 in
    let whole = body_length c.args.code.now c.args.start c.requires.body in
    omega (arith, long, whole, c.loop-instruction.invariant.sum, c.requires.small)

pub loop-instruction-smaller : goal.loop-instruction-smaller
loop-instruction-smaller t c =
    let shows = subst (Shows c.args.code.now c.loop-instruction.at) c.in-If.is c.step.ensures in
    (if_smaller _ _ _ _ shows.0).1

pub loop-instruction-preserved : goal.loop-instruction-preserved
loop-instruction-preserved t c =
    let shows = subst (Shows c.args.code.now c.loop-instruction.at) c.in-If.is c.step.ensures in
    let long = if_len _ _ _ _ shows.0 in
    let less = if_smaller _ _ _ _ shows.0 in
    record {
      body = shows.2;
      sum = omega (arith, long, c.loop-instruction.invariant.sum);
      smaller = omega (arith, less.1, c.loop-instruction.invariant.smaller);
    }

pub overflow_add-result : goal.overflow_add-result
overflow_add-result t c =
    let shows = subst (Shows c.args.code.now c.loop-instruction.at) c.in-Go.is c.step.ensures in
    let long = go_len _ _ _ shows in
    let whole = body_length c.args.code.now c.args.start c.requires.body in
    omega (arith, long, whole, c.loop-instruction.invariant.sum, c.requires.small)

pub returns-in-Go : goal.returns-in-Go
returns-in-Go t c =
    let shows = subst (Shows c.args.code.now c.loop-instruction.at) c.in-Go.is c.step.ensures in
    let long = go_len _ _ _ shows in
    omega (arith, long, c.loop-instruction.invariant.sum)

pub overflow_add-result-in-Ask : goal.overflow_add-result-in-Ask
overflow_add-result-in-Ask t c =
    let shows = subst (Shows c.args.code.now c.loop-instruction.at) c.in-Ask.is c.step.ensures in
    let long = ask_len _ _ _ _ shows in
    let whole = body_length c.args.code.now c.args.start c.requires.body in
    omega (arith, long, whole, c.loop-instruction.invariant.sum, c.requires.small)

pub returns-in-Ask : goal.returns-in-Ask
returns-in-Ask t c =
    let shows = subst (Shows c.args.code.now c.loop-instruction.at) c.in-Ask.is c.step.ensures in
    let long = ask_len _ _ _ _ shows in
    omega (arith, long, c.loop-instruction.invariant.sum)

pub overflow_add-result-in-Send : goal.overflow_add-result-in-Send
overflow_add-result-in-Send t c =
    let shows = subst (Shows c.args.code.now c.loop-instruction.at) c.in-Send.is c.step.ensures in
    let long = send_len _ _ _ _ shows in
    let whole = body_length c.args.code.now c.args.start c.requires.body in
    omega (arith, long, whole, c.loop-instruction.invariant.sum, c.requires.small)

pub returns-in-Send : goal.returns-in-Send
returns-in-Send t c =
    let shows = subst (Shows c.args.code.now c.loop-instruction.at) c.in-Send.is c.step.ensures in
    let long = send_len _ _ _ _ shows in
    omega (arith, long, c.loop-instruction.invariant.sum)

pub overflow_add-result-in-Done : goal.overflow_add-result-in-Done
overflow_add-result-in-Done t c =
    let shows = subst (Shows c.args.code.now c.loop-instruction.at) c.in-Done.is c.step.ensures in
    let long = done_len _ shows in
    let whole = body_length c.args.code.now c.args.start c.requires.body in
    omega (arith, long, whole, c.loop-instruction.invariant.sum, c.requires.small)

pub returns-in-Done : goal.returns-in-Done
returns-in-Done t c =
    let shows = subst (Shows c.args.code.now c.loop-instruction.at) c.in-Done.is c.step.ensures in
    let long = done_len _ shows in
    omega (arith, long, c.loop-instruction.invariant.sum)
