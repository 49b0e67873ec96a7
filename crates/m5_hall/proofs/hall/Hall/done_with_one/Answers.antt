use Rattle.std.proofs.Common.{rules}
use Rattle.m5_hall.proofs.Leaves.{leaves_one}
use Rattle.m5_hall.proofs.hall.Hall.done_with_one.Goals as goal

pub fetch_add-ticket-requires : goal.fetch_add-ticket-requires
fetch_add-ticket-requires g c = (search rules, search rules, leaves_one _ _ _ _ _ _ c.requires.leaves.0 c.requires.leaves.1 c.requires.leaves.2)
