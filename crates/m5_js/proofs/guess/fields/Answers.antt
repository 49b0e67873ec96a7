use Rattle.std.proofs.Common.{◌≡◌, ◌∙◌, ◌-◌, ◌+◌, ◌++◌, ◌∷◌, [], ℕ, List, suc, length, arith, sym, ap, subst, Some, All}
use Rattle.m5_js.specs.code.Guess.{fields_in, behind}
use Rattle.m5_machine.specs.Numbers.{IsSlot}
use Rattle.m5_js.proofs.Fields.{all_push, no_field, last_field, more_fields}
use Rattle.m5_js.proofs.guess.fields.Goals as goal

pub returns-in-None-clause-guess : goal.returns-in-None-clause-guess
returns-in-None-clause-guess c =
    let left : length c.args.bytes.now - c.loop-place.place ≡ suc (length c.args.bytes.now - (c.loop-place.place + 1)) = omega (arith, c.loop-place-test.true) in
    no_field _ _ c.loop-place.slots.items c.loop-place.front.rest.now _ left c.in-None.ensures c.loop-place.invariant.guess

pub returns-then-byte_at-ne44-clause-guess : goal.returns-then-byte_at-ne44-clause-guess
returns-then-byte_at-ne44-clause-guess c =
    let left : length c.args.bytes.now - c.loop-place.place ≡ suc (length c.args.bytes.now - (c.loop-place.place + 1)) = omega (arith, c.loop-place-test.true) in
    last_field _ _ c.in-Some.slot c.loop-place.slots.items c.loop-place.front.rest.now c.slot.new.self.rest.now _ left c.in-Some.ensures (λ e. c.if-byte_at-ne44.true (c.byte_at.ensures ∙ e)) c.loop-place.invariant.guess
    ∙ ap Some (sym c.in_ok-push.ensures.items)

pub loop-place-preserved : goal.loop-place-preserved
loop-place-preserved c =
    let left : length c.args.bytes.now - c.loop-place.place ≡ suc (length c.args.bytes.now - (c.loop-place.place + 1)) = omega (arith, c.loop-place-test.true) in
    let guess = more_fields _ _ c.in-Some.slot c.loop-place.slots.items c.loop-place.front.rest.now c.slot.new.self.rest.now _ left c.in-Some.ensures (sym c.byte_at.ensures ∙ c.if-byte_at-ne44.false) c.loop-place.invariant.guess
    ∙ ap (λ (rest : List ℕ). behind (c.loop-place.slots.items ++ c.in-Some.slot ∷ []) (fields_in (length c.args.bytes.now - (c.loop-place.place + 1)) rest)) (sym c.skip-front.ensures)
    ∙ ap (λ (ss : List ℕ). behind ss (fields_in (length c.args.bytes.now - (c.loop-place.place + 1)) c.skip-front.result.now)) (sym c.in_ok-push.ensures.items) in
    record { guess = guess; slots = subst (All IsSlot) (sym c.in_ok-push.ensures.items) (all_push c.loop-place.slots.items c.in-Some.slot c.loop-place.invariant.slots (omega arith)) }
