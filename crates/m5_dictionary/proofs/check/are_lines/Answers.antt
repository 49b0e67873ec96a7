use Rattle.std.proofs.Common.{◌≡◌, true, false, refl, length, subst, arith}
use Rattle.std.proofs.lemmas.Option.{slice_get-get_or}
use Rattle.m5_dictionary.proofs.Lines.{AreSoFar, one_more, all_so_far}
use Rattle.m5_dictionary.proofs.check.are_lines.Goals as goal

pub loop-own-preserved : goal.loop-own-preserved
loop-own-preserved c = one_more c.args.types.now c.loop-own.own _ c.loop-own.invariant (slice_get-get_or c.args.types.now c.loop-own.own _ (omega arith)) (c.if-not-is_line.ensures.0 refl) (λ t. let e : false ≡ true = c.if-is_among.ensures.1 t in cc)

pub returns : goal.returns
returns c = (
  λ t. let all : c.loop-own.own ≡ length c.args.types.now = omega arith in
      all_so_far c.args.types.now (omega arith) (subst (AreSoFar c.args.types.now) all c.loop-own.invariant),
  λ t. refl,
)
