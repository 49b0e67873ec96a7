use Rattle.std.proofs.Common.{rules, ◌∙◌, ap}
use Rattle.m5_elaborate.specs.Erased.{erased, erased_functions}
use Rattle.m5_elaborate.proofs.Tables.{bare_same, bare_table}
use Rattle.m5_elaborate.proofs.Programs.{made_typed, untyped_result}
use Rattle.m5_elaborate.proofs.elaborate.elaborate.Goals as goal

pub check_main-requires : goal.check_main-requires
check_main-requires c = bare_same _ _ c.in_ok-check_functions.ensures.names (bare_table _ c.make-names.ensures)

pub make-requires : goal.make-requires
make-requires c =
    made_typed c.args.raw.now _ _ _ c.functions.ensures.limits c.in_ok-check_functions.ensures.value c.in_ok-check_main.ensures
    (c.in_ok-items.ensures ∙ ap erased_functions c.functions.ensures.value) (c.in_ok-main.ensures ∙ ap erased c.main.ensures)

pub returns-in_err-check_functions-clause-untyped : goal.returns-in_err-check_functions-clause-untyped
returns-in_err-check_functions-clause-untyped c = untyped_result c.args.raw.now _ c.check_functions.ensures.limits (search rules)

pub returns-in_err-check_main-clause-untyped : goal.returns-in_err-check_main-clause-untyped
returns-in_err-check_main-clause-untyped c = untyped_result c.args.raw.now _ c.check_functions.ensures.limits (search rules)
