use Rattle.m5_dict.specs.Standing.{type_target}
use Rattle.m5_cps.specs.TypesByNumber.{type_in}
use Rattle.m5_dict.proofs.Growing.{within}
use Rattle.m5_dict.proofs.Ending.{ok_fun}
use Rattle.m5_dict.proofs.number.argument_id.Goals as goal

pub number-requires : goal.number-requires
number-requires c = within _ _ _ c.in_ok-taken-in-Continuation.ensures.stands

pub returns-in_ok-taken-in-Continuation-clause-stands : goal.returns-in_ok-taken-in-Continuation-clause-stands
returns-in_ok-taken-in-Continuation-clause-stands c =
    rw c.in-Continuation.is (ok_fun (type_target (type_in c.args.types.now c.in-Continuation.number)) _ _ _ c.number.result c.in_ok-taken-in-Continuation.ensures.stands c.number.ensures.is c.number.ensures.grows)
