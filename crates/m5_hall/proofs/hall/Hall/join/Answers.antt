use Rattle.std.proofs.Common.{rules}
use Rattle.m5_hall.proofs.Cuts.{joins}
use Rattle.m5_hall.proofs.hall.Hall.join.Goals as goal

pub join_seat-requires : goal.join_seat-requires
join_seat-requires g c =
    (search rules, search rules, search rules, search rules, joins _ _ _ _ _ _ _ c.into.invariant.1 c.from.invariant.1)
