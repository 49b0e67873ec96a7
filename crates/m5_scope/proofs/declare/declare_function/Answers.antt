use Rattle.std.proofs.Common.{rules, ap, sym, ◌∙◌}
use Rattle.std.specs.Prelude.{is_some}
use Rattle.m5_scope.specs.Meaning.{known}
use Rattle.m5_scope.specs.Resolving.{IsFault}
use Rattle.m5_scope.specs.Program.{function_resolved}
use Rattle.m5_scope.proofs.Declaring.{function_fault}
use Rattle.m5_scope.proofs.declare.declare_function.Goals as goal

pub returns-in_err-body-clause-fault : goal.returns-in_err-body-clause-fault
returns-in_err-body-clause-fault c =
    let item = c.args.item.now in
    let bad : IsFault (function_resolved (known c.args.table.now) c.args.number c.args.next.now item) c.in_err-body.field-0.0 =
    function_fault (known c.args.table.now) (known c.replace.new.self) c.args.number c.args.next.now item c.in_err-body.field-0.0
    (ap is_some (sym c.meaning_of.ensures) ∙ sym c.is_some.ensures ∙ c.if-is_some.false)
    c.in_ok-replace.ensures.entries
    c.in_err-body.ensures.fault in
    search rules
