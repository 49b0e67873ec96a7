use Rattle.std.proofs.Common.{rules, of_calls}
use Rattle.m5_site.proofs.Computed.{if_ok}
use Rattle.m5_net.specs.Opening.{IsOpenedRow}
use Rattle.m5_net.proofs.opening.open_session.Goals as goal

pub returns : goal.returns
returns c = if_ok _ (IsOpenedRow c.args.object.now c.args.limits c.args.session) c.of_each.result (λ p h. λ w i. let made = h w i in search (of_calls, rules, made)) c.of_each.ensures
