use Rattle.std.proofs.Common.{arith, []}
use Rattle.m5_region.proofs.Keeping.{keeps, nothing_spelled, same_contents}
use Rattle.m5_region.proofs.Adding.{spelled}
use Rattle.m5_region.proofs.region.Region.make.Goals as goal

pub invariant_of-result : goal.invariant_of-result
invariant_of-result c =
    let k = c.in_ok-kinds.ensures in
    let b = c.in_ok-content.ensures in
    let s = c.in_ok-starts.ensures in
    keeps _ _ _ [] _ _ _ _ (nothing_spelled _ _ _ k.items b.items s.items)
    (record { within = rw k.items (omega arith); small = c.requires; kinds_fit = k.capacity; content_fit = b.capacity; starts_fit = s.capacity })

pub returns : goal.returns
returns c =
    let k = c.in_ok-kinds.ensures in
    let b = c.in_ok-content.ensures in
    let s = c.in_ok-starts.ensures in
    same_contents _ _ _ _ (spelled _ _ c.in_ok-starts.starts.items [] (nothing_spelled _ _ _ k.items b.items s.items)) (rw k.items (omega arith))
