use Rattle.std.proofs.Common.{arith, refl}
use Rattle.m5_region.proofs.Joining.{joined_content}
use Rattle.m5_region.proofs.layout.put_joined.Goals as goal

pub returns-clause-content : goal.returns-clause-content
returns-clause-content c =
    joined_content _ _ _ _ _ c.args.first c.args.second _ (omega arith) (omega arith) refl
    c.put_unit.ensures.content c.put_again.ensures.items c.put_again-2.ensures.items c.put_copies-2.ensures.items
