use Rattle.std.proofs.Common.{◌+◌, ◌<◌, ◌∙◌, subst, arith}
use Rattle.std.proofs.lemmas.Result.{on_ok_weaker}
use Rattle.m5_machine.specs.Blocks.{Shows, body_at}
use Rattle.m5_machine.specs.code.Running.{size}
use Rattle.m5_js.proofs.Pieces.{fill_text, if_text, go_here, ask_here, send_here, done_here, fill_smaller, if_smaller}
use Rattle.m5_js.proofs.printing.+put_body.Goals as goal

pub loop-instruction-smaller : goal.loop-instruction-smaller
loop-instruction-smaller t c =
    let shows = subst (Shows c.args.code.now c.loop-instruction.at) c.in-Fill.is c.step.ensures in
    (fill_smaller _ _ _ shows.0).0

pub loop-instruction-preserved : goal.loop-instruction-preserved
loop-instruction-preserved t c =
    let shows = subst (Shows c.args.code.now c.loop-instruction.at) c.in-Fill.is c.step.ensures in
    let less = fill_smaller _ _ _ shows.0 in
    record {
      body = shows.1;
      room = omega (arith, less.1, c.loop-instruction.invariant.room);
      text = fill_text _ _ _ _ _ _ shows.0 c.in_ok-put_statement-in-Fill.ensures ∙ c.loop-instruction.invariant.text;
      smaller = omega (arith, less.0, c.loop-instruction.invariant.smaller);
    }

pub put_body-requires : goal.put_body-requires
put_body-requires t c =
    let shows = subst (Shows c.args.code.now c.loop-instruction.at) c.in-If.is c.step.ensures in
    let less = if_smaller _ _ _ _ shows.0 in
    let falls : size (body_at c.args.code.now (c.loop-instruction.at + 1)) < t = omega (arith, less.0, c.loop-instruction.invariant.smaller, c.decreases) in
    (falls, (shows.1, omega (arith, less.2, c.loop-instruction.invariant.room)))

pub put_body-requires-in-If : goal.put_body-requires-in-If
put_body-requires-in-If t c =
    let shows = subst (Shows c.args.code.now c.loop-instruction.at) c.in-If.is c.step.ensures in
    let less = if_smaller _ _ _ _ shows.0 in
    let falls : size (body_at c.args.code.now c.in-If.second) < t = omega (arith, less.1, c.loop-instruction.invariant.smaller, c.decreases) in
    (falls, (shows.2, omega (arith, less.3, c.loop-instruction.invariant.room)))

pub returns-in-If : goal.returns-in-If
returns-in-If t c =
    let shows = subst (Shows c.args.code.now c.loop-instruction.at) c.in-If.is c.step.ensures in
    on_ok_weaker c.put-in-If.result (λ n. if_text _ _ _ _ _ _ _ _ _ _ _ shows.0 c.in_ok-put_branch-in-If.ensures c.in_ok-put_body-in-If.ensures c.in_ok-put-in-If.ensures c.in_ok-put_body-in-If-2.ensures n ∙ c.loop-instruction.invariant.text) c.put-in-If.ensures

pub returns-in-Go : goal.returns-in-Go
returns-in-Go t c =
    let shows = subst (Shows c.args.code.now c.loop-instruction.at) c.in-Go.is c.step.ensures in
    on_ok_weaker c.put_go.result (λ n. go_here _ _ _ _ _ _ shows n ∙ c.loop-instruction.invariant.text) c.put_go.ensures

pub returns-in-Ask : goal.returns-in-Ask
returns-in-Ask t c =
    let shows = subst (Shows c.args.code.now c.loop-instruction.at) c.in-Ask.is c.step.ensures in
    on_ok_weaker c.put_ask.result (λ n. ask_here _ _ _ _ _ _ _ shows n ∙ c.loop-instruction.invariant.text) c.put_ask.ensures

pub returns-in-Send : goal.returns-in-Send
returns-in-Send t c =
    let shows = subst (Shows c.args.code.now c.loop-instruction.at) c.in-Send.is c.step.ensures in
    on_ok_weaker c.put_send.result (λ n. send_here _ _ _ _ _ _ _ shows n ∙ c.loop-instruction.invariant.text) c.put_send.ensures

pub returns-in-Done : goal.returns-in-Done
returns-in-Done t c =
    let shows = subst (Shows c.args.code.now c.loop-instruction.at) c.in-Done.is c.step.ensures in
    on_ok_weaker c.put-in-Done.result (λ n. done_here _ _ _ _ shows n ∙ c.loop-instruction.invariant.text) c.put-in-Done.ensures
