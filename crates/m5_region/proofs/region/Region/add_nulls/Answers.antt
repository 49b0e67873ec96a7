use Rattle.std.proofs.Common.{arith, ap, ◌∙◌, ◌++◌, ◌∷◌, [], ℕ, replicate}
use Rattle.std.proofs.lemmas.List.{length-replicate}
use Rattle.std.proofs.lemmas.List.Elements.{All-replicate}
use Rattle.m5_region.specs.Units.{HasNumber}
use Rattle.m5_region.specs.code.Stored.{objects_in}
use Rattle.m5_region.specs.declared.value.Value.TheVariants.{Null}
use Rattle.m5_region.specs.Region.{ArrayOf, Refers}
use Rattle.m5_region.proofs.Keeping.{GrowsTo, keeps_grown, adds_grown}
use Rattle.m5_region.proofs.region.Region.add_nulls.Goals as goal

grows : (c : goal.After-put_nulls) → GrowsTo c.self.inside (ArrayOf (replicate c.args.count Null)) c.put_nulls.new.kinds c.put_nulls.new.content c.push_reserved.new.self
grows c = record {
  kept = c.self.invariant;
  fits = (omega (arith, length-replicate c.args.count Null), omega (arith, length-replicate c.args.count Null), All-replicate HasNumber c.args.count Null tt, All-replicate (Refers (objects_in c.self.inside.kinds.items c.self.inside.content.items)) c.args.count Null tt);
  kinds = c.put_nulls.ensures.kinds;
  content = c.put_nulls.ensures.content;
  starts = c.push_reserved.ensures.items ∙ ap (λ (n : ℕ). c.self.inside.starts.items ++ n ∷ []) (omega arith);
  room_is = omega (arith, length-replicate c.args.count Null);
  kinds_fit = c.put_nulls.ensures.kinds_room;
  content_fit = c.put_nulls.ensures.content_room;
  starts_fit = omega arith;
}

pub invariant_of-self : goal.invariant_of-self
invariant_of-self c = keeps_grown _ _ _ _ _ _ _ (ArrayOf (replicate c.args.count Null)) _ _ _ _ _ _ (grows c)

pub returns : goal.returns
returns c = rw (← c.self.view_is) (adds_grown _ _ _ _ _ _ _ (ArrayOf (replicate c.args.count Null)) _ _ _ _ _ _ _ (grows c) (omega arith))
