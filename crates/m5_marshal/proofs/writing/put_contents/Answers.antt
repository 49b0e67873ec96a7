use Rattle.std.proofs.Common.{◌≡◌, ◌+◌, ◌∙◌, ◌++◌, suc, ℕ, true, length, map, take, sym, ap, append_assoc, arith, List, slice_index_or}
use Rattle.std.proofs.lemmas.List.{length-map, length-take}
use Rattle.m5_message.specs.Packing.{Reached, has, reaches, sent}
use Rattle.m5_message.specs.Spelling.{content_bytes, contents_bytes}
use Rattle.m5_marshal.specs.code.Keys.{reached, marks, id_of}
use Rattle.m5_marshal.proofs.Marked.{all_of}
use Rattle.m5_marshal.proofs.PlaceIn.{has_get, marks_get, index_get, take_next}
use Rattle.m5_marshal.proofs.Written.{contents_end, contents_none}
use Rattle.m5_marshal.proofs.writing.put_contents.Goals as goal

pub loop-own-init : goal.loop-own-init
loop-own-init c = contents_none c.args.dicts.now (sent c.args.dicts.now c.args.region.now.objects (marks c.args.keys.now)) (marks c.args.keys.now) c.args.out.now.items

pub put_content-requires-clause-fit : goal.put_content-requires-clause-fit
put_content-requires-clause-fit c =
    let ks = c.args.keys.now in
    let n = c.loop-own.own in
    let k = slice_index_or ks n (record { at = 0; id = 0 }) in
    c.requires.fit (reached k) (has_get (marks ks) n (reached k) (marks_get ks n k (index_get ks n (record { at = 0; id = 0 }) (omega arith))))

pub put_content-requires-clause-rising : goal.put_content-requires-clause-rising
put_content-requires-clause-rising c = c.requires.rises

pub put_content-requires-clause-sent : goal.put_content-requires-clause-sent
put_content-requires-clause-sent c =
    let ks = c.args.keys.now in
    let n = c.loop-own.own in
    let k = slice_index_or ks n (record { at = 0; id = 0 }) in
    let there = has_get (marks ks) n (reached k) (marks_get ks n k (index_get ks n (record { at = 0; id = 0 }) (omega arith))) in
    all_of (λ q. has (marks ks) q ≡ true) (reaches c.args.dicts.now c.args.region.now.objects (reached k)) (λ (q : Reached) e. c.requires.reached (reached k) q there e)

pub loop-own-preserved : goal.loop-own-preserved
loop-own-preserved c =
    let d = c.args.dicts.now in
    let os = c.args.region.now.objects in
    let ks = c.args.keys.now in
    let ps = marks ks in
    let n = c.loop-own.own in
    let k = slice_index_or ks n (record { at = 0; id = 0 }) in
    let old = c.args.out.now.items in
    let f = sent d os ps in
    let get = marks_get ks n k (index_get ks n (record { at = 0; id = 0 }) (omega arith)) in
    let long : length ps ≡ length ks = length-map ks reached in
    let count : n ≡ 0 + length (take n ps) = omega (arith, length-take n ps, long) in
    let one = content_bytes d n k.id (f (reached k)) in
    c.in_ok-put_content.ensures
    ∙ ap (λ (x : List ℕ). x ++ one) c.loop-own.invariant
    ∙ append_assoc old (contents_bytes d 0 (map id_of (take n ps)) (map f (take n ps))) one
    ∙ ap (λ (x : List ℕ). old ++ x) (sym (contents_end d f 0 n (take n ps) (reached k) count))
    ∙ ap (λ (x : List Reached). old ++ contents_bytes d 0 (map id_of x) (map f x)) (sym (take_next ps n (reached k) get))
    ∙ ap (λ (m : ℕ). old ++ contents_bytes d 0 (map id_of (take m ps)) (map f (take m ps))) (let e : suc n ≡ n + 1 = omega arith in e)
