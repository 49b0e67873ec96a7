use Rattle.std.proofs.Common.{length, arith, subst, ap}
use Rattle.std.specs.Io.KnownBytes.{Appends}
use Rattle.std.proofs.KnownBytes.{Appends-trans}
use Rattle.std.proofs.lemmas.List.{length-drop}
use Rattle.m5_base.proofs.Pieces.{take-piece, rest-is}
use Rattle.m5_base.proofs.bytes.write_all.Goals as goal

pub loop-done-preserved : goal.loop-done-preserved
loop-done-preserved g c =
    let bytes = c.args.bytes.now in
    let d = c.loop-done.done in
    let n = c.in-Ok.count in
    let joined = Appends-trans _ _ _ _ _ c.loop-done.invariant.1 c.in-Ok.ensures.bytes in
    let left = length-drop d bytes in
    let size = ap length (rest-is bytes d) in (
      omega (arith, c.in-Ok.ensures.bound, left, size),
      subst (Appends (g.K.Sink.held c.args.sink.now) (g.K.Sink.held c.write.new.self)) (take-piece bytes d n) joined,
      omega (arith, c.in-Ok.ensures.cause.later, c.loop-done.invariant.2),
    )
