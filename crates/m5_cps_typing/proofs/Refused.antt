-- What no typed block does: ask by a primitive of another world, or send to its own world.
use Rattle.std.proofs.Common.{◌≡◌, ℕ, Some, sym, ◌∙◌}
use Rattle.m5_terms.specs.TypeExpression.{address}
use Rattle.m5_terms.specs.Primitives.{primitive_world}
use Rattle.m5_terms.specs.declared.types.World.{World}
use Rattle.m5_terms.specs.declared.types.World.TheVariants.{Any}
use Rattle.m5_terms.specs.declared.types.Primitive.{Primitive}
use Rattle.m5_typing.specs.Context.{Setting}
use Rattle.m5_cps.specs.Entries.{of, Mode}
use Rattle.m5_cps.specs.Blocks.{ask, send, ends}
use Rattle.m5_cps.specs.Slots.{slot, Slots}
use Rattle.m5_cps.specs.Fits.{Fits}

pub asks_at_its_world : (E : Setting) (b : World) (n : ℕ) (S : Slots) (p : Primitive) (x k : ℕ) → Fits E b n S (ends (ask p x k)) → b ≡ primitive_world p
asks_at_its_world E b n S p x k d = d.0

pub sends_elsewhere : (E : Setting) (b : World) (n : ℕ) (S : Slots) (m : Mode) (a k x : ℕ) → S a ≡ Some (slot m (of (address b))) → Fits E b n S (ends (send a k x)) → ⊥
sends_elsewhere E b n S m a k x e d =
    let q : Some (slot m (of (address b))) ≡ Some (slot d.5.0 (of (address d.0))) = sym e ∙ d.5.1 in
    let r : d.0 ≡ b = cc in
    d.4 r

pub sends_from_one_world : (E : Setting) (n : ℕ) (S : Slots) (a k x : ℕ) → Fits E Any n S (ends (send a k x)) → ⊥
sends_from_one_world E n S a k x d = d.3 (λ i. Any)
