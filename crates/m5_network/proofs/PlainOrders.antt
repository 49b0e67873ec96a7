-- The plain order is a run that ends with each site at rest or stopped.
use Rattle.m5_network.specs.Kinds.{Kind}
use Rattle.m5_network.specs.Laws.{PlainOrderIsRun}
use Rattle.m5_network.proofs.PlainRuns.{order-run}
use Rattle.m5_network.proofs.Finished.{order-finished}

pub plain-order : (K : Kind) → PlainOrderIsRun K
plain-order K h S N M deeds k o = (order-run K h S N M deeds k o, order-finished K S N M deeds o)
