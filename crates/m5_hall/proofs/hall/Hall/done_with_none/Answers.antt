use Rattle.std.proofs.Common.{rules}
use Rattle.m5_hall.proofs.Leaves.{leaves_none}
use Rattle.m5_hall.proofs.hall.Hall.done_with_none.Goals as goal

pub fetch_add-ticket-requires : goal.fetch_add-ticket-requires
fetch_add-ticket-requires g c = (search rules, search rules, leaves_none _ _ _ _ _ _ c.requires.leaves.0 c.requires.leaves.1)
