use Rattle.std.proofs.Common.{◌≡◌, refl, sym, ◌∙◌, map}
use Rattle.std.specs.Prelude.{None}
use Rattle.m5_tree.specs.code.Named.{found}
use Rattle.m5_tree.proofs.Naming.{new_number, pushed, spelled}
use Rattle.m5_tree.proofs.names.Names.number.Goals as goal

pub invariant_of-self-inside-in-Ok : goal.invariant_of-self-inside-in-Ok
invariant_of-self-inside-in-Ok c = (
  λ k.
      let none : found (spelled c.self.inside.names.items) c.in_ok-key.key.items ≡ None = sym (c.self.inside.numbered c.in_ok-key.key) ∙ sym c.in-None.ensures.value in
      rw c.in_ok-push.ensures.items (pushed c.self.inside.names.items c.in_ok-from_slice.field-0 c.in_ok-key.key k c.count-number.result _ _ (c.in_ok-from_slice.ensures.items ∙ sym c.in_ok-key.ensures.items) (c.count-number.ensures ∙ rw (← c.self.view_is) refl) none (c.self.inside.numbered k) (c.in-Ok.ensures.updates.0 k)),
  tt,
)

pub returns-in-Ok-clause-number : goal.returns-in-Ok-clause-number
returns-in-Ok-clause-number c =
    let none : found (map (λ v. v.items) c.self.inside.names.items) c.in_ok-key.key.items ≡ None = sym (c.self.inside.numbered c.in_ok-key.key) ∙ sym c.in-None.ensures.value in
    c.count-number.ensures ∙ rw (← c.in_ok-key.ensures.items, ← c.self.view_is) (new_number _ _ none)
