use Rattle.std.proofs.Common.{sym, subst}
use Rattle.m5_site.specs.Object.{code_of}
use Rattle.m5_site.specs.code.Sound.{IsSoundState}
use Rattle.m5_site.proofs.Opened.{opening_sound}
use Rattle.m5_site.proofs.site.Site.make.Goals as goal

pub returns-clause-of : goal.returns-clause-of
returns-clause-of c = record {
  world = c.requires.world;
  sound = subst (IsSoundState (code_of c.args.object.now c.args.world)) (sym c.open.ensures) (opening_sound c.args.object.now c.args.limits c.args.world c.is_object.ensures);
  fits = tt;
  own = tt;
}
