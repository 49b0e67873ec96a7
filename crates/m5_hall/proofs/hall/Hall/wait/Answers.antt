use Rattle.std.proofs.Common.{rules, ap, ◌∙◌}
use Rattle.m5_hall.proofs.Leaves.{serves_then}
use Rattle.m5_hall.proofs.Moves.{looks}
use Rattle.m5_hall.proofs.hall.Hall.wait.Goals as goal

pub load-served-requires : goal.load-served-requires
load-served-requires g c =
    (search rules, search rules, looks _ _ _ _ _ _ c.args.ticket (ap (λ m. m.0.stage) c.loop.invariant.1 ∙ c.requires.waits))

pub returns-then-served-ticket-clause-served : goal.returns-then-served-ticket-clause-served
returns-then-served-ticket-clause-served g c =
    serves_then _ _ _ _ _ _ _ c.loop.invariant.1 c.requires.waits (search rules) c.load-served.ensures.2
