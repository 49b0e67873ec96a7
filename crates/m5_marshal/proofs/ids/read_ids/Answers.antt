use Rattle.std.proofs.Common.{◌≡◌, ℕ, List, Ok, sym, ◌-◌, ◌*◌, ◌∙◌, ap, length, take, drop, arith, length-drop}
use Rattle.m5_marshal.specs.code.Ids.{words}
use Rattle.m5_marshal.proofs.IdList.{ids_start, ids_next, ids_none, ids_done}
use Rattle.m5_marshal.proofs.ids.read_ids.Goals as goal

pub loop-init : goal.loop-init
loop-init c = ids_start c.args.dicts.now c.args.count c.args.bytes.now

pub returns-in-None : goal.returns-in-None
returns-in-None c = ids_none c.args.dicts.now c.args.count c.loop.counter c.args.bytes.now c.loop.rest.now (omega arith) c.loop.invariant c.in-None.ensures

pub loop-preserved : goal.loop-preserved
loop-preserved c = ids_next c.args.dicts.now c.args.count c.loop.counter c.args.bytes.now c.loop.rest.now _ (omega arith) c.loop.invariant c.in-Some.ensures

pub returns : goal.returns
returns c =
    let bytes = c.args.bytes.now in
    let rest = c.loop.rest.now in
    let e = ids_done c.args.dicts.now c.args.count c.loop.counter bytes rest (omega arith) c.loop.invariant in
    let s = c.split_at.ensures in
    let n : 4 * c.loop.counter ≡ length bytes - length rest = omega (arith, length-drop (4 * c.loop.counter) bytes, ap (λ (l : List ℕ). length l) c.loop.invariant.0, c.loop.invariant.1) in
    e
    ∙ ap (λ (l : List ℕ). Ok (words l, rest)) (ap (λ (m : ℕ). take m bytes) n ∙ sym s.front)
    ∙ ap (λ (r : List ℕ). Ok (words c.split_at.result.0.now, r)) (c.loop.invariant.0 ∙ ap (λ (m : ℕ). drop m bytes) n ∙ sym s.back)
