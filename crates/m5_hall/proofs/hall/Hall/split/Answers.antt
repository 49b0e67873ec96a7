use Rattle.std.proofs.Common.{rules}
use Rattle.m5_hall.proofs.Cuts.{splits}
use Rattle.m5_hall.proofs.hall.Hall.split.Goals as goal

pub split_seat-seat-requires : goal.split_seat-seat-requires
split_seat-seat-requires g c =
    (search rules, search rules, splits _ _ _ _ _ c.pass.invariant.1 (search rules))
