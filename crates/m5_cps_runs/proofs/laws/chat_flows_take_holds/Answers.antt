use Rattle.m5_cps_runs.proofs.Chat.{chat_flows}
use Rattle.m5_cps_runs.proofs.laws.chat_flows_take_holds.Goals as goal

pub returns : goal.returns
returns c = chat_flows
