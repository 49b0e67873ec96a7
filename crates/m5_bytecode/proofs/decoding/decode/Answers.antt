use Rattle.std.proofs.Common.{◌≡◌, ◌∙◌, ◌+◌, ◌-◌, ◌<◌, ◌^◌, ℕ, List, [], Option, IfSome, IfNone, ap, arith, length, length-append, subst, sym, suc}
use Rattle.std.proofs.lemmas.Result.{err_from_is_err_and}
use Rattle.m5_machine.specs.Blocks.{Flat}
use Rattle.m5_machine.specs.Labelled.{blocks_of}
use Rattle.m5_machine.specs.Linked.{CanLink, IsLinked}
use Rattle.m5_bytecode.specs.Spelling.{two}
use Rattle.m5_bytecode.specs.Server.{Spells}
use Rattle.m5_bytecode.specs.code.Blocks.{BlocksHere, BlocksRead}
use Rattle.m5_bytecode.proofs.Labels.{blocks_next}
use Rattle.m5_bytecode.proofs.Whole.{no_count, one_read, few_steps, no_code_block, other_here, none_left, same_as_other, must_link, code_read, linked_read, nothing}
use Rattle.m5_bytecode.proofs.decoding.decode.Goals as goal

pub returns-in_err-count-clause-bad : goal.returns-in_err-count-clause-bad
returns-in_err-count-clause-bad c =
    let p = err_from_is_err_and c.from_residual.result c.from_residual.ensures.1 in
    rw (p.1, p.2) (no_count _ _ c.in_err-count.ensures.err)

pub read_block-requires : goal.read_block-requires
read_block-requires c =
    let few = few_steps _ _ _ _ _ c.loop-number.invariant.found in
    omega (arith, few.0, ap length c.in_ok-count.ensures.spelled, length-append (two c.in_ok-count.count) c.two.new.self.rest.now)

pub returns-in_err-read_block-clause-bad : goal.returns-in_err-read_block-clause-bad
returns-in_err-read_block-clause-bad c =
    let p = err_from_is_err_and c.from_residual-in_err-read_block.result c.from_residual-in_err-read_block.ensures.1 in
    let short : length c.two.new.self.rest.now < 2 ^ 32 = omega (arith, ap length c.in_ok-count.ensures.spelled, length-append (two c.in_ok-count.count) c.two.new.self.rest.now) in
    rw (p.1, p.2) (no_code_block _ _ _ _ _ _ c.in_ok-count.ensures.ok short c.loop-number.number c.loop-number-test.true c.loop-number.invariant.here c.in_err-read_block.ensures.err)

pub loop-number-preserved : goal.loop-number-preserved
loop-number-preserved c =
    let few = few_steps _ _ _ _ _ c.loop-number.invariant.found in
    let small : length c.loop-number.steps.items < 4294967295 = omega (arith, few.0, ap length c.in_ok-count.ensures.spelled, length-append (two c.in_ok-count.count) c.two.new.self.rest.now) in
    let left : c.in_ok-count.count - c.loop-number.number ≡ suc (c.in_ok-count.count - (c.loop-number.number + 1)) = omega (arith, c.loop-number-test.true) in
    record {
      found = one_read _ _ _ _ _ _ _ _ small c.loop-number.invariant.found c.in_ok-read_block.ensures.ok;
      here = λ h. blocks_next _ _ _ _ _ _ _ _ (subst (λ (n : ℕ). BlocksHere (length c.loop-number.starts.items) n c.loop-number.input.rest.now) left (c.loop-number.invariant.here h)) c.in_ok-read_block.ensures.ok;
    }

pub returns-then-left-gt0-clause-bad : goal.returns-then-left-gt0-clause-bad
returns-then-left-gt0-clause-bad c = λ code s.
    let short : length c.two.new.self.rest.now < 2 ^ 32 = omega (arith, ap length c.in_ok-count.ensures.spelled, length-append (two c.in_ok-count.count) c.two.new.self.rest.now) in
    let done : c.in_ok-count.count - c.loop-number.number ≡ 0 = omega (arith, c.loop-number-test.false) in
    let none = none_left _ _ _ done (c.loop-number.invariant.here (other_here code _ _ _ s c.in_ok-count.ensures.ok short)) in
    omega (arith, ap length none)

pub made-requires : goal.made-requires
made-requires c =
    let left = nothing c.loop-number.input.rest.now (omega arith) in
    let count : c.loop-number.number ≡ c.in_ok-count.count = omega (arith, c.loop-number-test.false, c.loop-number.auto.number-end) in
    let read = subst (λ (n : ℕ). BlocksRead c.two.new.self.rest.now [] c.loop-number.starts.items c.loop-number.steps.items n) count
    (subst (λ (xs : List ℕ). BlocksRead c.two.new.self.rest.now xs c.loop-number.starts.items c.loop-number.steps.items c.loop-number.number) left c.loop-number.invariant.found) in
    let linked = subst (λ (o : Option Flat). IfSome o (IsLinked c.loop-number.starts.items c.loop-number.steps.items)) c.in-Some.is c.in_ok-blocks.ensures.some in
    (code_read _ _ _ _ _ _ c.in_ok-count.ensures.spelled (omega arith) (omega arith) read c.is_flat.ensures linked).server

pub returns-in-Some-clause-found : goal.returns-in-Some-clause-found
returns-in-Some-clause-found c =
    let left = nothing c.loop-number.input.rest.now (omega arith) in
    let count : c.loop-number.number ≡ c.in_ok-count.count = omega (arith, c.loop-number-test.false, c.loop-number.auto.number-end) in
    let read = subst (λ (n : ℕ). BlocksRead c.two.new.self.rest.now [] c.loop-number.starts.items c.loop-number.steps.items n) count
    (subst (λ (xs : List ℕ). BlocksRead c.two.new.self.rest.now xs c.loop-number.starts.items c.loop-number.steps.items c.loop-number.number) left c.loop-number.invariant.found) in
    let linked = subst (λ (o : Option Flat). IfSome o (IsLinked c.loop-number.starts.items c.loop-number.steps.items)) c.in-Some.is c.in_ok-blocks.ensures.some in
    subst (λ (code : Flat). Spells code c.args.bytes.now) (sym c.made.ensures) (code_read _ _ _ _ _ _ c.in_ok-count.ensures.spelled (omega arith) (omega arith) read c.is_flat.ensures linked)

pub returns-in-Some-clause-only : goal.returns-in-Some-clause-only
returns-in-Some-clause-only c = λ other s.
    let left = nothing c.loop-number.input.rest.now (omega arith) in
    let count : c.loop-number.number ≡ c.in_ok-count.count = omega (arith, c.loop-number-test.false, c.loop-number.auto.number-end) in
    let read = subst (λ (n : ℕ). BlocksRead c.two.new.self.rest.now [] c.loop-number.starts.items c.loop-number.steps.items n) count
    (subst (λ (xs : List ℕ). BlocksRead c.two.new.self.rest.now xs c.loop-number.starts.items c.loop-number.steps.items c.loop-number.number) left c.loop-number.invariant.found) in
    let linked = subst (λ (o : Option Flat). IfSome o (IsLinked c.loop-number.starts.items c.loop-number.steps.items)) c.in-Some.is c.in_ok-blocks.ensures.some in
    let short : length c.two.new.self.rest.now < 2 ^ 32 = omega (arith, ap length c.in_ok-count.ensures.spelled, length-append (two c.in_ok-count.count) c.two.new.self.rest.now) in
    same_as_other other _ _ _ _ _ s c.in_ok-count.ensures.ok short read ∙ sym (linked_read _ _ _ _ _ _ linked read) ∙ ap blocks_of (sym c.made.ensures)

pub returns-in-None-clause-bad : goal.returns-in-None-clause-bad
returns-in-None-clause-bad c = λ code s.
    let left = nothing c.loop-number.input.rest.now (omega arith) in
    let count : c.loop-number.number ≡ c.in_ok-count.count = omega (arith, c.loop-number-test.false, c.loop-number.auto.number-end) in
    let read = subst (λ (n : ℕ). BlocksRead c.two.new.self.rest.now [] c.loop-number.starts.items c.loop-number.steps.items n) count
    (subst (λ (xs : List ℕ). BlocksRead c.two.new.self.rest.now xs c.loop-number.starts.items c.loop-number.steps.items c.loop-number.number) left c.loop-number.invariant.found) in
    let none = subst (λ (o : Option Flat). IfNone o (CanLink c.loop-number.starts.items c.loop-number.steps.items → ⊥)) c.in-None.is c.in_ok-blocks.ensures.none in
    must_link _ _ _ _ _ c.in_ok-count.ensures.ok (omega (arith, ap length c.in_ok-count.ensures.spelled, length-append (two c.in_ok-count.count) c.two.new.self.rest.now)) read none code s
