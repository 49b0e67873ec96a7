use Rattle.std.proofs.Common.{arith, ap, ◌∙◌, ◌+◌, ◌<◌, length, take}
use Rattle.std.specs.Vec.{vec_capacity}
use Rattle.std.proofs.lemmas.List.{get_or_default}
use Rattle.m5_region.specs.Region.{units_in, Contents}
use Rattle.m5_region.proofs.Cutting.{CutTo, cut_lists}
use Rattle.m5_region.proofs.region.Region.cut.Goals as goal

cuts : (c : goal.After-truncate-then-count-len-2) → CutTo c.self.inside.kinds.items c.self.inside.content.items c.truncate.new.self.items c.truncate-then-count-len.new.self.items c.truncate-then-count-len-2.new.self.items c.self.inside.room (vec_capacity c.truncate.new.self) (vec_capacity c.truncate-then-count-len.new.self) (vec_capacity c.truncate-then-count-len-2.new.self) c.args.count
cuts c =
    let h : c.args.count < length c.self.inside.starts.items = omega arith in
    cut_lists _ _ c.self.inside.starts.items _ _ _ _ _ _ _ _ _ _ _ c.index.result.now c.self.invariant h (c.index.ensures ∙ get_or_default _ _ _ 0 h)
    c.truncate.ensures.items c.truncate-then-count-len.ensures.items c.truncate-then-count-len-2.ensures.items c.truncate.ensures.capacity c.truncate-then-count-len.ensures.capacity c.truncate-then-count-len-2.ensures.capacity

pub invariant_of-self : goal.invariant_of-self
invariant_of-self c = (cuts c).keeps

pub returns-then-count-len-clause-objects : goal.returns-then-count-len-clause-objects
returns-then-count-len-clause-objects c = (cuts c).objects ∙ ap (λ (v : Contents). take c.args.count v.objects) c.self.view_is

pub returns-then-count-len-clause-left : goal.returns-then-count-len-clause-left
returns-then-count-len-clause-left c = (cuts c).left ∙ ap (λ (v : Contents). v.left + units_in v.objects) c.self.view_is
