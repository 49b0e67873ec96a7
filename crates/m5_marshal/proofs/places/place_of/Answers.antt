use Rattle.std.proofs.Common.{◌≡◌, ◌+◌, ◌-◌, ◌/◌, ◌∙◌, sym, ap, is_lt, length, arith, slice_index_or}
use Rattle.std.proofs.lemmas.List.{length-map}
use Rattle.m5_message.proofs.Marks.{place_within}
use Rattle.m5_marshal.specs.code.Keys.{reached, marks}
use Rattle.m5_marshal.proofs.PlaceIn.{has_get, place_above, place_not_above, marks_get, index_get}
use Rattle.m5_marshal.proofs.KeySets.{key_lt, key_not_lt}
use Rattle.m5_marshal.proofs.places.place_of.Goals as goal

pub loop-low-init : goal.loop-low-init
loop-low-init c =
    let within = place_within (marks c.args.keys.now) (reached c.args.key) c.requires.there in
    let count : length (marks c.args.keys.now) ≡ length c.args.keys.now = length-map c.args.keys.now reached in
    (omega arith, omega (arith, within, count), omega arith)

pub loop-low-preserved-then-is_lt : goal.loop-low-preserved-then-is_lt
loop-low-preserved-then-is_lt c =
    let ks = c.args.keys.now in
    let n = c.loop-low.low + (c.loop-low.high - c.loop-low.low) / 2 in
    let i = c.loop-low.invariant in
    let k = slice_index_or ks n (record { at = 0; id = 0 }) in
    let get = marks_get ks n k (index_get ks n (record { at = 0; id = 0 }) (omega (arith, i.2, c.loop-low-test.true))) in
    let narrow = c.requires.rising.1 (reached k) (has_get (marks ks) n (reached k) get) in
    let lt = key_lt k c.args.key narrow (sym (c.if-is_lt.ensures ∙ ap is_lt c.cmp.ensures)) in
    let above = place_above (marks ks) (reached c.args.key) (reached k) n c.requires.rising.0 c.requires.there get lt in
    (omega (arith, above), i.1, i.2)

pub loop-low-preserved : goal.loop-low-preserved
loop-low-preserved c =
    let ks = c.args.keys.now in
    let n = c.loop-low.low + (c.loop-low.high - c.loop-low.low) / 2 in
    let i = c.loop-low.invariant in
    let k = slice_index_or ks n (record { at = 0; id = 0 }) in
    let get = marks_get ks n k (index_get ks n (record { at = 0; id = 0 }) (omega (arith, i.2, c.loop-low-test.true))) in
    let narrow = c.requires.rising.1 (reached c.args.key) c.requires.there in
    let le = key_not_lt k c.args.key narrow (sym (c.if-is_lt.ensures ∙ ap is_lt c.cmp.ensures)) in
    (i.0, place_not_above (marks ks) (reached c.args.key) (reached k) n c.requires.rising.0 c.requires.there get le, omega (arith, i.2, c.loop-low-test.true))
