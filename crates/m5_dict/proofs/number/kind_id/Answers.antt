use Rattle.std.proofs.Common.{◌≡◌, ◌+◌, ℕ, suc, subst, arith}
use Rattle.m5_cps.specs.Entries.{of}
use Rattle.m5_cps.specs.TypesByNumber.{type_in}
use Rattle.m5_flat.specs.Steps.{taking}
use Rattle.m5_dict.specs.Standing.{Stands, slot_target}
use Rattle.m5_dict.proofs.Growing.{stay, within, grows_on}
use Rattle.m5_dict.proofs.number.kind_id.Goals as goal

pub number-requires : goal.number-requires
number-requires c = within _ _ _ c.loop-time.invariant.0

pub loop-time-preserved : goal.loop-time-preserved
loop-time-preserved c = (
  let e : suc c.loop-time.time ≡ c.loop-time.time + 1 = omega arith in
      subst (λ (k : ℕ). Stands c.number.new.self c.in_ok-id-2.id (slot_target (taking k (of (type_in c.args.types.now c.args.kind.number))))) e
      (record { part = c.loop-time.id; is = c.in_ok-id-2.ensures.is; stands = stay _ _ _ _ c.in_ok-id-2.ensures.grows c.loop-time.invariant.0 }),
  grows_on _ _ _ c.loop-time.invariant.1 c.in_ok-id-2.ensures.grows,
)
