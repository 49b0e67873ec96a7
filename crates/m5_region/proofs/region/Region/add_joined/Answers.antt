use Rattle.std.proofs.Common.{arith, subst, ap, ◌≡◌, ◌<◌, ◌∙◌, ◌++◌, ◌+◌, ◌-◌, ◌∷◌, [], List, ℕ, Some, length, length-append, slice_range}
use Rattle.std.proofs.lemmas.List.Elements.{All-append}
use Rattle.m5_region.specs.Region.{TextOf, Contents, text_of, Joins}
use Rattle.m5_region.specs.code.Stored.{two_ranges, objects_in}
use Rattle.m5_region.proofs.Keeping.{GrowsTo, keeps_grown, adds_grown, joins_some, text_fits}
use Rattle.m5_region.proofs.Joining.{range_length}
use Rattle.m5_region.proofs.region.Region.add_joined.Goals as goal

part : List ℕ → ℕ → ℕ → List ℕ
part xs from len = slice_range xs from (from + len)

first_is : (c : goal.After-put_joined) → text_of (objects_in c.self.inside.kinds.items c.self.inside.content.items) c.args.first.0 ≡ Some (slice_range c.self.inside.content.items c.text_range-first.result.0 (c.text_range-first.result.0 + c.text_range-first.result.1))
first_is c = let e = c.text_range-first.ensures.bytes in simp (c.deref.ensures.value, c.deref-2.ensures.value) at e

second_is : (c : goal.After-put_joined) → text_of (objects_in c.self.inside.kinds.items c.self.inside.content.items) c.args.second.0 ≡ Some (slice_range c.self.inside.content.items c.text_range-second.result.0 (c.text_range-second.result.0 + c.text_range-second.result.1))
second_is c = let e = c.text_range-second.ensures.bytes in simp (c.deref-4.ensures.value, c.deref-5.ensures.value) at e

grows : (c : goal.After-put_joined) → GrowsTo c.self.inside (TextOf (two_ranges c.self.inside.content.items c.text_range-first.result c.text_range-second.result)) c.put_joined.new.kinds c.put_joined.new.content c.push_reserved.new.self
grows c =
    let a = range_length c.self.inside.content.items c.text_range-first.result.0 c.text_range-first.result.1 (omega arith) in
    let b = range_length c.self.inside.content.items c.text_range-second.result.0 c.text_range-second.result.1 (omega arith) in
    let both = length-append (slice_range c.self.inside.content.items c.text_range-first.result.0 (c.text_range-first.result.0 + c.text_range-first.result.1)) (slice_range c.self.inside.content.items c.text_range-second.result.0 (c.text_range-second.result.0 + c.text_range-second.result.1)) in
    record {
      kept = c.self.invariant;
      fits = (omega (arith, a, b, both), All-append (λ x. x < 256) _ _ (text_fits _ _ _ _ _ _ c.self.invariant.spells (first_is c)) (text_fits _ _ _ _ _ _ c.self.invariant.spells (second_is c)));
      kinds = c.put_joined.ensures.kinds;
      content = c.put_joined.ensures.content;
      starts = c.push_reserved.ensures.items ∙ ap (λ (n : ℕ). c.self.inside.starts.items ++ n ∷ []) (omega arith);
      room_is = omega (arith, a, b, both);
      kinds_fit = c.put_joined.ensures.kinds_room;
      content_fit = c.put_joined.ensures.content_room;
      starts_fit = omega arith;
    }

pub invariant_of-self : goal.invariant_of-self
invariant_of-self c = keeps_grown _ _ _ _ _ _ _ (TextOf (two_ranges c.self.inside.content.items c.text_range-first.result c.text_range-second.result)) _ _ _ _ _ _ (grows c)

pub returns : goal.returns
returns c =
    let at : c.len-2.result ≡ length c.self.inside.starts.items = omega arith in
    subst (λ (v : Contents). Joins v c.args.first.0 c.args.second.0 (Some (record { 0 = c.len-2.result })) (record { objects = objects_in c.put_joined.new.kinds.items c.put_joined.new.content.items; left = c.self.inside.room - length c.put_joined.new.kinds.items })) c.self.view_is
    (joins_some _ _ _ _ c.args.first.0 c.args.second.0 c.len-2.result _ _ (first_is c) (second_is c)
    (adds_grown _ _ _ _ _ _ _ (TextOf (two_ranges c.self.inside.content.items c.text_range-first.result c.text_range-second.result)) _ _ _ _ _ _ _ (grows c) at))
