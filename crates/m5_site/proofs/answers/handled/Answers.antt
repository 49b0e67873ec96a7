use Rattle.m5_site.proofs.Made.{may_run}
use Rattle.m5_site.proofs.answers.handled.Goals as goal

pub returns-in_default-clause-sound : goal.returns-in_default-clause-sound
returns-in_default-clause-sound c = λ code s h. c.new_text.ensures.grows.sound code s

pub returns-in_default-new_array-clause-sound : goal.returns-in_default-new_array-clause-sound
returns-in_default-new_array-clause-sound c = λ code s h. c.new_array.ensures.grows.sound code (c.new_text.ensures.grows.sound code s)

pub returns-in_default-new_array-2-clause-sound : goal.returns-in_default-new_array-2-clause-sound
returns-in_default-new_array-2-clause-sound c = λ code s h.
    c.new_array-2.ensures.grows.sound code (c.new_array.ensures.grows.sound code (c.new_text.ensures.grows.sound code s))

pub returns-in-Some-new_array-2-clause-sound : goal.returns-in-Some-new_array-2-clause-sound
returns-in-Some-new_array-2-clause-sound c = λ code s h.
    c.begin.ensures.sound code
    (c.new_array-2.ensures.grows.sound code (c.new_array.ensures.grows.sound code (c.new_text.ensures.grows.sound code s)))
    (may_run code c.new_array-2.new.state.bench.region.objects c.args.handler c.in-Some-new_array-2.both
    (c.new_array-2.ensures.grows.closures code c.args.handler (c.new_array.ensures.grows.closures code c.args.handler (c.new_text.ensures.grows.closures code c.args.handler h)))
    c.in-Some-new_array-2.ensures.refers)
