use Rattle.std.proofs.Common.{ap, sym, subst, ◌∙◌, ◌≡◌, ◌+◌, ℕ, length, take, slice_set, IsSome}
use Rattle.std.specs.Vec.{vec_capacity}
use Rattle.std.specs.Int.{w64, to_be_bytes}
use Rattle.m5_region.specs.Units.{with_word}
use Rattle.m5_region.specs.Region.{Contents, Refers, field_of, objects_with_field}
use Rattle.m5_region.proofs.Filling.{FillTo, fill_lists}
use Rattle.m5_region.proofs.region.Region.fill.Goals as goal

fills : (c : goal.After-set_unit) → FillTo c.self.inside.kinds.items c.self.inside.content.items c.set_unit.new.kinds.items c.set_unit.new.content.items c.self.inside.starts.items c.self.inside.room (vec_capacity c.set_unit.new.kinds) (vec_capacity c.set_unit.new.content) (vec_capacity c.self.inside.starts) c.args.at.0 c.args.place c.args.value
fills c =
    fill_lists _ _ _ _ _ _ _ _ _ _ _ _ _ c.field_unit-unit.result _ c.self.invariant
    (subst (λ (v : Contents). c.args.at.0 + 1 ≡ length v.objects) (sym c.self.view_is) c.requires.newest)
    (subst (λ (v : Contents). IsSome (field_of v.objects c.args.at.0 c.args.place)) (sym c.self.view_is) c.requires.there)
    c.number_of.ensures.fits
    (subst (λ (v : Contents). Refers (take c.args.at.0 v.objects) c.args.value) (sym c.self.view_is) c.requires.refers)
    (let u = c.field_unit-unit.ensures.unit in simp c.deref-3.ensures.value at u)
    (c.set_unit.ensures.kinds ∙ ap (slice_set c.self.inside.kinds.items c.field_unit-unit.result) c.kind_of.ensures)
    (c.set_unit.ensures.content ∙ ap (λ (n : ℕ). with_word c.self.inside.content.items c.field_unit-unit.result (to_be_bytes w64 n)) c.number_of.ensures.number)
    c.set_unit.ensures.kinds_room c.set_unit.ensures.content_room

pub invariant_of-self : goal.invariant_of-self
invariant_of-self c = (fills c).keeps

pub returns-clause-objects : goal.returns-clause-objects
returns-clause-objects c = (fills c).objects ∙ ap (λ (v : Contents). objects_with_field v.objects c.args.at.0 c.args.place c.args.value) c.self.view_is

pub returns-clause-left : goal.returns-clause-left
returns-clause-left c = (fills c).left ∙ ap (λ (v : Contents). v.left) c.self.view_is
