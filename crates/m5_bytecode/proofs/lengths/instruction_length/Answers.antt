use Rattle.std.proofs.Common.{◌≡◌, ◌+◌, ◌*◌, arith, length, subst, sym}
use Rattle.m5_machine.specs.declared.step.Instruction.{Instruction}
use Rattle.m5_bytecode.specs.Spelling.{instruction_bytes}
use Rattle.m5_bytecode.proofs.Sizes.{twos_length}
use Rattle.m5_bytecode.proofs.lengths.instruction_length.Goals as goal

pub returns-in-Array : goal.returns-in-Array
returns-in-Array c = subst (λ (i : Instruction). 3 + 2 * length c.slots.result.now ≡ length (instruction_bytes i)) (sym c.in-Array.is) (rw c.slots.ensures.slots (omega (arith, twos_length c.in-Array.operands)))
