use Rattle.std.proofs.Common.{◌<◌, length, sym, ◌∙◌, ap, arith}
use Rattle.m5_poly.specs.code.Views.{generic_of}
use Rattle.m5_poly.specs.code.Writing.{with_tokens, one_written}
use Rattle.m5_poly.proofs.Writing.{with_both, instances_next}
use Rattle.m5_poly.proofs.write.write_instances.Goals as goal

pub loop-index-preserved : goal.loop-index-preserved
loop-index-preserved c =
    let within : c.loop-index.index < length c.args.source.now.made.now = omega arith in
    rw c.in_ok-write_one.ensures
    (with_both c.loop-index.out _ _
    ∙ ap (λ tokens. with_tokens c.loop-index.out tokens)
    (sym (instances_next (one_written c.args.source.now.text.now.generics c.args.source.now.made.now c.args.number (generic_of c.in-Some.generic.now)) c.args.source.now.made.now c.loop-index.index within))
    ∙ c.loop-index.invariant)
