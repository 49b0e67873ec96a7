use Rattle.std.proofs.Common.{rules}
use Rattle.m5_hall.proofs.Moves.{draws}
use Rattle.m5_hall.proofs.hall.Hall.draw.Goals as goal

pub fetch_add-requires : goal.fetch_add-requires
fetch_add-requires g c = (search rules, search rules, draws _ _ _ _ _ _ c.requires.rests c.requires.few c.requires.owns)
