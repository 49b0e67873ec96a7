use Rattle.std.proofs.Common.{subst}
use Rattle.m5_dictionary.specs.Dictionaries.{Dictionaries}
use Rattle.m5_marshal.specs.Unpack.{StandsAt}
use Rattle.m5_site.specs.Object.{code_of}
use Rattle.m5_site.proofs.Arriving.{may_arrive, more_sound}
use Rattle.m5_site.proofs.answers.arrived.Goals as goal

pub returns-in-Ok-clause-sound : goal.returns-in-Ok-clause-sound
returns-in-Ok-clause-sound c = λ s.
    let code = code_of c.args.object.now c.args.world in
    let region = c.unpack.new.region in
    c.begin.ensures.sound code
    (more_sound code c.args.state.now region _ c.in-Ok.ensures.is.2 s)
    (may_arrive c.args.object.now c.args.world region.objects c.in-Ok.thread c.requires c.is_object.ensures c.in-Ok.ensures.refers
    (subst (λ (d : Dictionaries). StandsAt d c.args.world region.objects c.in-Ok.thread) c.dicts.ensures c.in-Ok.ensures.stands))
