use Rattle.std.proofs.Common.{ap, arith, length}
use Rattle.std.specs.Int.{w64, to_be_bytes}
use Rattle.std.proofs.lemmas.List.Elements.{All-more}
use Rattle.m5_region.specs.declared.value.Value.TheVariants.{Null}
use Rattle.m5_region.specs.Units.{HasNumber}
use Rattle.m5_region.specs.Layout.{word_of}
use Rattle.m5_region.proofs.More.{kinds_more, content_more}
use Rattle.m5_region.proofs.layout.put_array.Goals as goal

pub loop-value-preserved : goal.loop-value-preserved
loop-value-preserved c = record {
  kinds_are = kinds_more _ _ _ _ _ _ c.loop-value-test.true c.loop-value.invariant.kinds_are c.put_unit-in-loop-value.ensures.kinds c.kind_of.ensures;
  content_are = content_more word_of _ (to_be_bytes w64 (length c.args.fields.now)) _ _ _ _ _ c.loop-value-test.true c.loop-value.invariant.content_are c.put_unit-in-loop-value.ensures.content (ap (to_be_bytes w64) c.number_of.ensures.number);
  numbers = All-more HasNumber _ _ Null c.loop-value-test.true c.loop-value.invariant.numbers c.number_of.ensures.fits;
  kinds_len = omega arith;
  content_len = omega arith;
  kinds_room = omega arith;
  content_room = omega arith;
}
