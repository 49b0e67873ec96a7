use Rattle.std.proofs.Common.{◌+◌, ◌≤◌, List, length, sym, subst}
use Rattle.m5_tree.specs.declared.tree.Function.{Function}
use Rattle.m5_scope.specs.Meaning.{known}
use Rattle.m5_scope.specs.Places.{places, function_lists}
use Rattle.m5_scope.proofs.Raws.{raw_of, program_sizes}
use Rattle.m5_scope.proofs.resolve.resolve_in.Goals as goal

pub make-requires : goal.make-requires
make-requires c =
    let program = c.args.program.now in
    raw_of c.in_ok-functions.functions (known c.declare_externs.new.table) (known c.declare_functions.new.table) 0 c.declare_functions.new.next c.as_slice-2.result.now program.main program.body c.in_ok-main.main
    (c.in_ok-functions.ensures.value program.main program.body) c.in_ok-main.ensures.value
    (subst (λ (fs : List Function). length (function_lists fs) + length (places program.body) ≤ 16000) (sym c.as_slice-2.ensures) (program_sizes program c.requires.few))
