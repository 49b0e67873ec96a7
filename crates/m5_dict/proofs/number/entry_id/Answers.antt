use Rattle.m5_dict.specs.Standing.{type_target}
use Rattle.m5_cps.specs.TypesByNumber.{type_in}
use Rattle.m5_dict.proofs.Growing.{stay, within, know_on}
use Rattle.m5_dict.proofs.Ending.{ok_call}
use Rattle.m5_dict.proofs.number.entry_id.Goals as goal

pub type_id-requires-in-ByCall : goal.type_id-requires-in-ByCall
type_id-requires-in-ByCall c = record { known = know_on _ _ _ _ c.in_ok-argument-in-ByCall.ensures.grows c.requires.known }

pub call_id-requires-clause-argument : goal.call_id-requires-clause-argument
call_id-requires-clause-argument c = within _ _ _ (stay _ _ _ _ c.in_ok-result-in-ByCall.ensures.grows c.in_ok-argument-in-ByCall.ensures.stands)

pub call_id-requires-clause-result : goal.call_id-requires-clause-result
call_id-requires-clause-result c = within _ _ _ c.in_ok-result-in-ByCall.ensures.stands

pub returns-in_ok-result-in-ByCall-clause-stands : goal.returns-in_ok-result-in-ByCall-clause-stands
returns-in_ok-result-in-ByCall-clause-stands c =
    rw c.in-ByCall.is (ok_call (type_target (type_in c.args.types.now c.in-ByCall.first)) (type_target (type_in c.args.types.now c.in-ByCall.second)) _ _ _ _ _ c.call_id.result c.in_ok-argument-in-ByCall.ensures.stands c.in_ok-result-in-ByCall.ensures.grows c.in_ok-result-in-ByCall.ensures.stands c.call_id.ensures.is c.call_id.ensures.grows)
