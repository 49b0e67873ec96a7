use Rattle.std.proofs.Common.{arith, subst, sym, length, ◌<◌}
use Rattle.m5_machine.specs.Blocks.{Flat, HasBody, Shows}
use Rattle.m5_machine.proofs.Places.{within, shows, item_there}
use Rattle.m5_machine.proofs.blocks.Blocks.step.Goals as goal

pub index-requires : goal.index-requires
index-requires c = let w = within _ _ (subst (λ (f : Flat). HasBody f c.args.at) (sym c.self.view_is) c.requires) in omega arith

pub returns : goal.returns
returns c =
    let w : c.args.at < length c.self.inside.steps.items = within _ _ (subst (λ (f : Flat). HasBody f c.args.at) (sym c.self.view_is) c.requires) in
    subst (λ (f : Flat). Shows f c.args.at c.index.result.now) c.self.view_is (shows _ _ _ c.self.invariant (item_there c.self.inside.steps.items c.args.at c.index.result.now w c.index.ensures))
