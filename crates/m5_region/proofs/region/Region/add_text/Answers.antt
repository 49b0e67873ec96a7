use Rattle.std.proofs.Common.{arith, ap, ◌∙◌, ◌++◌, ◌∷◌, [], ℕ}
use Rattle.std.proofs.lemmas.List.{get_or_default}
use Rattle.m5_region.specs.Region.{TextOf}
use Rattle.m5_region.proofs.Keeping.{GrowsTo, keeps_grown, adds_grown}
use Rattle.m5_region.proofs.region.Region.add_text.Goals as goal

grows : (c : goal.After-put_text) → GrowsTo c.self.inside (TextOf c.args.bytes.now) c.put_text.new.kinds c.put_text.new.content c.push_reserved.new.self
grows c = record {
  kept = c.self.invariant;
  fits = (omega arith, λ k d h. omega (arith, c.type_inv.bytes k, get_or_default c.args.bytes.now k d 0 h));
  kinds = c.put_text.ensures.kinds;
  content = c.put_text.ensures.content;
  starts = c.push_reserved.ensures.items ∙ ap (λ (n : ℕ). c.self.inside.starts.items ++ n ∷ []) (omega arith);
  room_is = omega arith;
  kinds_fit = c.put_text.ensures.kinds_room;
  content_fit = c.put_text.ensures.content_room;
  starts_fit = omega arith;
}

pub invariant_of-self : goal.invariant_of-self
invariant_of-self c = keeps_grown _ _ _ _ _ _ _ (TextOf c.args.bytes.now) _ _ _ _ _ _ (grows c)

pub returns : goal.returns
returns c = rw (← c.self.view_is) (adds_grown _ _ _ _ _ _ _ (TextOf c.args.bytes.now) _ _ _ _ _ _ _ (grows c) (omega arith))
