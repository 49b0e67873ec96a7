-- What is read so far, as its bytes.
use Rattle.std.proofs.Common.{◌≡◌, ◌-◌, ◌*◌, ◌≤◌, length, take, drop}
use Rattle.m5_message.specs.Reading.{ids_at}
use Rattle.m5_marshal.specs.code.Ids.{words}
use Rattle.m5_marshal.proofs.Passing.{onto_ids}
use Rattle.m5_marshal.proofs.ids.read_ids.Given as goal

abbrev pub invariant-loop : goal.invariant-loop
invariant-loop l =
    (l.rest ≡ drop (4 * l.counter) l.bytes)
    × (4 * l.counter ≤ length l.bytes)
    × (ids_at l.dicts l.count l.bytes ≡ onto_ids (words (take (4 * l.counter) l.bytes)) (ids_at l.dicts (l.count - l.counter) l.rest))
