use Rattle.m5_cps.specs.Machine.{blocks_machine, blocks_moments, opening_site, opening_threads}
use Rattle.m5_flat.specs.Machine.{flat_machine, flat_moments}
use Rattle.m5_flat.specs.Machine as flat
use Rattle.m5_close.specs.Closing.{closing, met}
use Rattle.m5_close.proofs.Played.{plays_on}
use Rattle.m5_close.proofs.laws.closed_plays_fully_holds.Goals as goal

pub returns : goal.returns
returns q c B g a p xs cs to k h =
    let C = q.O.Origin.blocks in
    let u = q.O.Origin.world in
    plays_on q.O.Origin.input (blocks_machine C u) (flat_machine B u) q.O.Origin.reading (closing C B g.functions u) q.O.Origin.moments (blocks_moments C u) (flat_moments B u) q.O.Origin.meeting (met C B u) (λ t b. tt) (g.matches u) (g.meets u) xs cs (flat.opening_site (flat.opening_threads B u)) to
    (opening_site (opening_threads C u)) a (g.opens u) p k h
