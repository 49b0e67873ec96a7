use Rattle.std.proofs.Common.{◌≡◌, ◌+◌, ◌*◌, ◌≤◌, ◌∷◌, ◌++◌, map, take, length}
use Rattle.std.specs.List.{flat_map, All}
use Rattle.std.specs.Vec.{vec_len, vec_capacity}
use Rattle.std.specs.Int.{w64, to_be_bytes}
use Rattle.m5_region.specs.Units.{kind_of, HasNumber}
use Rattle.m5_region.specs.Layout.{word_of}
use Rattle.m5_region.proofs.layout.put_array.Given as goal

abbrev pub invariant-loop-value : goal.invariant-loop-value
invariant-loop-value l = record {
  kinds_are : l.kinds.items ≡ l.fn.kinds.items ++ (5 ∷ map kind_of (take l.value-index l.fields));
  content_are : l.content.items ≡ l.fn.content.items ++ (to_be_bytes w64 (length l.fields) ++ flat_map word_of (take l.value-index l.fields));
  numbers : All HasNumber (take l.value-index l.fields);
  kinds_len : vec_len l.kinds ≡ vec_len l.fn.kinds + 1 + l.value-index;
  content_len : vec_len l.content ≡ vec_len l.fn.content + 8 + 8 * l.value-index;
  kinds_room : vec_capacity l.fn.kinds ≤ vec_capacity l.kinds;
  content_room : vec_capacity l.fn.content ≤ vec_capacity l.content;
}
