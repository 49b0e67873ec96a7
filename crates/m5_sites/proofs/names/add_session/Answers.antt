use Rattle.std.proofs.Common.{◌≡◌, arith}
use Rattle.m5_sites.proofs.names.add_session.Goals as goal

-- all worlds of the list are passed
pub returns : goal.returns
returns c =
    let e : c.loop-world.world-index ≡ 3 = omega (arith, c.loop-world-test.false, c.loop-world.auto.world-index-end) in
    rw c.worlds_of_sites-world-items.ensures at (rw e at c.loop-world.invariant)
