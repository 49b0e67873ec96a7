-- What no typed block does: ask by a primitive of another world, or send to its own world.
use Rattle.std.proofs.Common.{◌≡◌, Some, sym, ◌∙◌}
use Rattle.m5_terms.specs.TypeExpression.{address}
use Rattle.m5_terms.specs.declared.types.World.TheVariants.{Any}
use Rattle.m5_cps.specs.Entries.{of}
use Rattle.m5_cps.specs.Slots.{slot}
use Rattle.m5_flat_typing.specs.Laws.{AsksAtItsWorld, SendsElsewhere, SendsFromOneWorld}

pub asks_at_its_world : AsksAtItsWorld
asks_at_its_world B M b n S p x k d = d.0

pub sends_elsewhere : SendsElsewhere
sends_elsewhere B M b n S m a k x e d =
    let q : Some (slot m (of (address b))) ≡ Some (slot d.5.0 (of (address d.0))) = sym e ∙ d.5.1 in
    let r : d.0 ≡ b = cc in
    d.4 r

pub sends_from_one_world : SendsFromOneWorld
sends_from_one_world B M n S a k x d = d.3 (λ i. Any)
