use Rattle.std.proofs.Common.{arith, subst, sym, ap, ◌∙◌, ◌++◌, ◌∷◌, [], ℕ}
use Rattle.m5_region.specs.Region.{ArrayOf, Contents, Refers}
use Rattle.std.specs.List.{All}
use Rattle.m5_region.proofs.Keeping.{GrowsTo, keeps_grown, adds_grown}
use Rattle.m5_region.proofs.region.Region.add.Goals as goal

grows : (c : goal.After-put_array) → GrowsTo c.self.inside (ArrayOf c.args.fields.now) c.put_array.new.kinds c.put_array.new.content c.push_reserved.new.self
grows c = record {
  kept = c.self.invariant;
  fits = (c.requires.count.0, c.requires.count.1, c.put_array.ensures.numbers, subst (λ (v : Contents). All (Refers v.objects) c.args.fields.now) (sym c.self.view_is) c.requires.refer);
  kinds = c.put_array.ensures.kinds;
  content = c.put_array.ensures.content;
  starts = c.push_reserved.ensures.items ∙ ap (λ (n : ℕ). c.self.inside.starts.items ++ n ∷ []) (omega arith);
  room_is = omega arith;
  kinds_fit = c.put_array.ensures.kinds_room;
  content_fit = c.put_array.ensures.content_room;
  starts_fit = omega arith;
}

pub invariant_of-self : goal.invariant_of-self
invariant_of-self c = keeps_grown _ _ _ _ _ _ _ (ArrayOf c.args.fields.now) _ _ _ _ _ _ (grows c)

pub returns : goal.returns
returns c = rw (← c.self.view_is) (adds_grown _ _ _ _ _ _ _ (ArrayOf c.args.fields.now) _ _ _ _ _ _ _ (grows c) (omega arith))
