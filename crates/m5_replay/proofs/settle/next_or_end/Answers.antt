use Rattle.std.proofs.Common.{◌≡◌}
use Rattle.m5_terms.specs.Machine.{goes}
use Rattle.m5_meaning.specs.Step.{site_next}
use Rattle.m5_sites.proofs.Counted.{counted}
use Rattle.m5_replay.proofs.settle.next_or_end.Goals as goal

pub returns-in-Goes-clause-counted : goal.returns-in-Goes-clause-counted
returns-in-Goes-clause-counted c = λ P w x s l.
    let e : site_next P w x ≡ goes c.in-Goes.next = rw c.in-Goes.is at s in
    (counted P w x c.in-Goes.next e, l)
