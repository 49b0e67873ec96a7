use Rattle.std.proofs.Common.{◌≡◌, ◌∙◌, ◌+◌, ◌-◌, ◌<◌, ℕ, List, Option, IfSome, refl, ap, sym, subst, arith, length}
use Rattle.m5_machine.specs.Blocks.{Flat}
use Rattle.m5_machine.specs.Labelled.{blocks_of}
use Rattle.m5_machine.specs.Linked.{CanLink, IsLinked}
use Rattle.m5_js.specs.Fault.{Spells}
use Rattle.m5_js.specs.code.Lines.{LinesRead}
use Rattle.m5_js.proofs.Whole.{few, one_read, first_bad, no_code, may_link, some_linked, code_read, linked_read, same_as_other, nothing}
use Rattle.m5_js.proofs.reading.read.Goals as goal

pub read_line-requires : goal.read_line-requires
read_line-requires c =
    let f = few _ _ _ _ _ c.loop-input.invariant.found in
    omega (arith, f, c.requires)

pub overflow_add-line : goal.overflow_add-line
overflow_add-line c =
    let f = few _ _ _ _ _ c.loop-input.invariant.found in
    omega (arith, f, c.requires, c.loop-input-test.true, c.loop-input.invariant.some)

pub loop-input-preserved : goal.loop-input-preserved
loop-input-preserved c =
    let f = few _ _ _ _ _ c.loop-input.invariant.found in
    let small : length c.loop-input.steps.items < 4294967295 = omega (arith, f, c.requires) in
    let next : c.loop-input.line - 1 + 1 ≡ c.loop-input.line + 1 - 1 = omega (arith, c.loop-input.invariant.some) in
    record {
      some = omega arith;
      found = subst (λ (n : ℕ). LinesRead c.args.bytes.now c.read_line.new.input.rest.now c.read_line.new.starts.items c.read_line.new.steps.items n) next (one_read _ _ _ _ _ _ _ _ small c.loop-input.invariant.found c.in-Ok.ensures.ok);
    }

pub returns-in-Err-Bad-clause-bad : goal.returns-in-Err-Bad-clause-bad
returns-in-Err-Bad-clause-bad c =
    let none = rw c.in-Err-Bad.field-0-is at c.in-Err-Bad.ensures.err in
    let line : c.loop-input.line ≡ c.loop-input.line - 1 + 1 = omega (arith, c.loop-input.invariant.some) in
    (first_bad _ _ _ _ _ _ c.loop-input.invariant.found line none, refl, λ code s. no_code code _ _ _ _ _ (omega (arith, c.loop-input-test.true)) c.loop-input.invariant.found none s)

pub unwrap-blocks-requires : goal.unwrap-blocks-requires
unwrap-blocks-requires c =
    some_linked (CanLink c.loop-input.starts.items c.loop-input.steps.items) c.in_ok-link.field-0 c.in_ok-link.ensures.none (may_link _ _ _ _ _ c.requires c.loop-input.invariant.found)

pub made-requires : goal.made-requires
made-requires c =
    let left = nothing c.loop-input.input.rest.now (omega (arith, c.loop-input-test.false)) in
    let read = subst (λ (xs : List ℕ). LinesRead c.args.bytes.now xs c.loop-input.starts.items c.loop-input.steps.items (c.loop-input.line - 1)) left c.loop-input.invariant.found in
    let linked = subst (λ (o : Option Flat). IfSome o (IsLinked c.loop-input.starts.items c.loop-input.steps.items)) c.unwrap-blocks.ensures c.in_ok-link.ensures.some in
    (code_read _ _ _ _ _ read c.is_flat.ensures linked).page

pub returns-clause-found : goal.returns-clause-found
returns-clause-found c =
    let left = nothing c.loop-input.input.rest.now (omega (arith, c.loop-input-test.false)) in
    let read = subst (λ (xs : List ℕ). LinesRead c.args.bytes.now xs c.loop-input.starts.items c.loop-input.steps.items (c.loop-input.line - 1)) left c.loop-input.invariant.found in
    let linked = subst (λ (o : Option Flat). IfSome o (IsLinked c.loop-input.starts.items c.loop-input.steps.items)) c.unwrap-blocks.ensures c.in_ok-link.ensures.some in
    subst (λ (code : Flat). Spells code c.args.bytes.now) (sym c.made.ensures) (code_read _ _ _ _ _ read c.is_flat.ensures linked)

pub returns-clause-only : goal.returns-clause-only
returns-clause-only c = λ other s.
    let left = nothing c.loop-input.input.rest.now (omega (arith, c.loop-input-test.false)) in
    let read = subst (λ (xs : List ℕ). LinesRead c.args.bytes.now xs c.loop-input.starts.items c.loop-input.steps.items (c.loop-input.line - 1)) left c.loop-input.invariant.found in
    let linked = subst (λ (o : Option Flat). IfSome o (IsLinked c.loop-input.starts.items c.loop-input.steps.items)) c.unwrap-blocks.ensures c.in_ok-link.ensures.some in
    same_as_other other _ _ _ _ s read ∙ sym (linked_read _ _ _ _ _ _ linked read) ∙ ap blocks_of (sym c.made.ensures)
