use Rattle.m5_site.specs.Object.{code_of}
use Rattle.m5_site.proofs.answers.after_take.Goals as goal

pub returns-in-Fired-clause-sound : goal.returns-in-Fired-clause-sound
returns-in-Fired-clause-sound c = λ s. c.all_handled.ensures.sound (code_of c.args.object.now c.args.world) s

pub returns-in-Event-clause-sound : goal.returns-in-Event-clause-sound
returns-in-Event-clause-sound c = λ s. c.all_handled-in-Event.ensures.sound (code_of c.args.object.now c.args.world) s
