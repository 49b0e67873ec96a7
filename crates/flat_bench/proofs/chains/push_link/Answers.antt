use Rattle.std.proofs.Common.{◌≡◌, ◌∙◌, List, [], ◌∷◌, ◌++◌, length, refl, ap, arith}
use Rattle.flat_bench.proofs.Growing.{linked_as}
use Rattle.flat_bench.proofs.chains.push_link.Goals as goal

pub returns-clause-chains : goal.returns-clause-chains
returns-clause-chains c =
    linked_as c.args.types.now c.args.built.now c.args.next c.at-earlier.result.now c.requires.chains c.requires.far c.at-earlier.ensures
    _ _ _ _ _ _ _ (c.in_ok-push.ensures.ok ∙ ap (λ (ts : List _). ts ++ 0 ∷ []) c.make-taken.ensures) c.in_ok-copy.ensures (ap length c.as_slice-place.ensures) refl c.in_ok-push-2.ensures.ok c.in_ok-push-3.ensures.ok c.in_ok-push-4.ensures.ok
