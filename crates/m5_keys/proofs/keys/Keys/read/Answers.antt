use Rattle.std.proofs.Common.{Some, ap, ◌∙◌}
use Rattle.m5_keys.proofs.Entries.{look-up}
use Rattle.m5_keys.proofs.keys.Keys.read.Goals as goal

pub returns-in-Some : goal.returns-in-Some
returns-in-Some c = rw (← c.self.view_is) (rw (← look-up c.args.key.now c.self.inside.texts.entries) (ap Some c.bytes.ensures ∙ c.in-Some.ensures.value))

pub returns-in-None : goal.returns-in-None
returns-in-None c = rw (← c.self.view_is) (rw (← look-up c.args.key.now c.self.inside.texts.entries) c.in-None.ensures.value)
