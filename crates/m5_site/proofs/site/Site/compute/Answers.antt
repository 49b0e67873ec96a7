use Rattle.std.proofs.Common.{sym, subst}
use Rattle.m5_terms.specs.Worlds.{IsSiteWorld}
use Rattle.m5_site.specs.Held.{Held}
use Rattle.m5_site.proofs.OwnAsks.{moved_own}
use Rattle.m5_site.proofs.site.Site.compute.Goals as goal

pub returns-clause-of : goal.returns-clause-of
returns-clause-of c =
    let world = subst (λ (h : Held). IsSiteWorld h.world) (sym c.self.view_is) c.requires.of.world in
    record {
      world = world;
      sound = c.in_ok-wait.ensures.sound;
      fits = c.in_ok-wait.ensures.fits;
      own = moved_own c.args.object.now c.self.inside.at_world _ _ c.in_ok-wait.wait world c.is_object.ensures (c.in_ok-wait.ensures.comes 0).waiting;
    }
