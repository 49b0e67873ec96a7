use Rattle.std.proofs.Common.{sym, ◌∙◌, ap, arith}
use Rattle.m5_poly.specs.Roles.{role}
use Rattle.m5_poly.specs.Types.{step}
use Rattle.m5_poly.proofs.Reading.{read_on}
use Rattle.m5_poly.proofs.types.closing.Goals as goal

pub loop-index-preserved : goal.loop-index-preserved
loop-index-preserved c = (
  sym (read_on c.args.variables.now c.args.tokens.now c.loop-index.index c.index-tokens-index.result c.loop-index.need c.in-Goes.next c.loop-index.depth c.in-Goes.more
      (omega arith) c.index-tokens-index.is (c.in-Goes.ensures.step ∙ ap (λ r. step r c.loop-index.need c.loop-index.depth) c.role_of.ensures
      ∙ ap (λ t. step (role c.args.variables.now t) c.loop-index.need c.loop-index.depth) c.token.ensures.token)) ∙ c.loop-index.invariant.0,
  omega (arith, c.in-Goes.ensures.deeper),
)
