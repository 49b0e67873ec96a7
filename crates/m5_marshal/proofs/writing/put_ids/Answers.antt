use Rattle.std.proofs.Common.{◌≡◌, ◌+◌, ◌∙◌, ◌++◌, suc, ℕ, map, take, sym, ap, append_assoc, arith, List, slice_index_or}
use Rattle.std.specs.Int.{w32, to_be_bytes}
use Rattle.m5_message.specs.Packing.{Reached}
use Rattle.m5_message.specs.Spelling.{ids_bytes}
use Rattle.m5_marshal.specs.code.Keys.{reached, marks, id_of}
use Rattle.m5_marshal.proofs.PlaceIn.{marks_get, index_get, take_next}
use Rattle.m5_marshal.proofs.Written.{ids_end}
use Rattle.m5_marshal.proofs.writing.put_ids.Goals as goal

pub loop-key-preserved : goal.loop-key-preserved
loop-key-preserved c =
    let ks = c.args.keys.now in
    let ps = marks ks in
    let n = c.loop-key.key-index in
    let k = slice_index_or ks n (record { at = 0; id = 0 }) in
    let old = c.args.out.now.items in
    let get = marks_get ks n k (index_get ks n (record { at = 0; id = 0 }) (omega arith)) in
    let one = to_be_bytes w32 k.id in
    c.in_ok-extend_from_slice.ensures.items
    ∙ ap (λ (x : List ℕ). c.loop-key.out.items ++ x) c.to_be_bytes-bytes.ensures
    ∙ ap (λ (x : List ℕ). x ++ one) c.loop-key.invariant
    ∙ append_assoc old (ids_bytes (map id_of (take n ps))) one
    ∙ ap (λ (x : List ℕ). old ++ x) (sym (ids_end (take n ps) (reached k)))
    ∙ ap (λ (x : List Reached). old ++ ids_bytes (map id_of x)) (sym (take_next ps n (reached k) get))
    ∙ ap (λ (m : ℕ). old ++ ids_bytes (map id_of (take m ps))) (let e : suc n ≡ n + 1 = omega arith in e)
