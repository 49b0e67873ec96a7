use Rattle.m5_site.proofs.Made.{may_run}
use Rattle.m5_site.proofs.answers.read_none.Goals as goal

pub returns-in_default-clause-sound : goal.returns-in_default-clause-sound
returns-in_default-clause-sound c = λ code s h. c.new_array.ensures.grows.sound code s

pub returns-in-Some-clause-sound : goal.returns-in-Some-clause-sound
returns-in-Some-clause-sound c = λ code s h.
    c.enter.ensures.sound code
    (c.new_array.ensures.grows.sound code s)
    (may_run code c.new_array.new.state.bench.region.objects c.args.next c.in-Some.none (c.new_array.ensures.grows.closures code c.args.next h) c.in-Some.ensures.refers)
