use Rattle.std.proofs.Common.{◌<◌, sym, subst, arith, length}
use Rattle.m5_machine.specs.code.Shapes.{IsShape}
use Rattle.m5_machine.proofs.Shapes.{step_at, open_fill, open_if, open_second, shape_fill, shape_if, shape_go, shape_ask, shape_send, shape_done}
use Rattle.m5_machine.proofs.link.shape_at.Goals as goal

pub returns-then-at-count : goal.returns-then-at-count
returns-then-at-count c =
    let there : c.args.at < length c.args.steps.now = omega arith in
    open_fill _ _ _ (step_at _ _ _ _ there c.index-steps-at.is c.in-Fill.is) (omega arith)

pub returns-then-at-count-2 : goal.returns-then-at-count-2
returns-then-at-count-2 c =
    let there : c.args.at < length c.args.steps.now = omega arith in
    open_if _ _ _ _ (step_at _ _ _ _ there c.index-steps-at.is c.in-If.is) (omega arith)

pub returns-then-after-count : goal.returns-then-after-count
returns-then-after-count c =
    let there : c.args.at < length c.args.steps.now = omega arith in
    open_second _ _ _ _ _ (step_at _ _ _ _ there c.index-steps-at.is c.in-If.is) (omega arith) c.known-first.ensures.shape (omega arith)

pub returns-else-at-count : goal.returns-else-at-count
returns-else-at-count c =
    let there : c.args.at < length c.args.steps.now = omega arith in
    shape_fill _ _ _ _ (step_at _ _ _ _ there c.index-steps-at.is c.in-Fill.is) c.known-next.ensures.shape

pub returns-else-after-count : goal.returns-else-after-count
returns-else-after-count c =
    let there : c.args.at < length c.args.steps.now = omega arith in
    rw (c.max.ensures, c.max-in-If.ensures) (shape_if _ _ _ _ _ _ (step_at _ _ _ _ there c.index-steps-at.is c.in-If.is) c.known-first.ensures.shape c.known-second.ensures.shape)

pub returns-in-Go : goal.returns-in-Go
returns-in-Go c =
    let there : c.args.at < length c.args.steps.now = omega arith in
    subst (IsShape c.args.steps.now c.args.at) (sym c.ending.ensures) (shape_go _ _ _ _ (step_at _ _ _ _ there c.index-steps-at.is c.in-Go.is) (omega arith))

pub returns-in-Ask : goal.returns-in-Ask
returns-in-Ask c =
    let there : c.args.at < length c.args.steps.now = omega arith in
    subst (IsShape c.args.steps.now c.args.at) (sym c.ending-in-Ask.ensures) (shape_ask _ _ _ _ _ (step_at _ _ _ _ there c.index-steps-at.is c.in-Ask.is) (omega arith))

pub returns-in-Send : goal.returns-in-Send
returns-in-Send c =
    let there : c.args.at < length c.args.steps.now = omega arith in
    subst (IsShape c.args.steps.now c.args.at) (sym c.ending-in-Send.ensures) (shape_send _ _ _ _ _ (step_at _ _ _ _ there c.index-steps-at.is c.in-Send.is) (omega arith))

pub returns-in-Done : goal.returns-in-Done
returns-in-Done c =
    let there : c.args.at < length c.args.steps.now = omega arith in
    subst (IsShape c.args.steps.now c.args.at) (sym c.ending-in-Done.ensures) (shape_done _ _ (step_at _ _ _ _ there c.index-steps-at.is c.in-Done.is) (omega arith))
