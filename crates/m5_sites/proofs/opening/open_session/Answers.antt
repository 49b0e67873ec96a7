use Rattle.std.proofs.Common.{Some, rules, of_calls}
use Rattle.m5_network.specs.Opening.{opening_site, opening_threads}
use Rattle.m5_sites.proofs.Eachs.{each-by}
use Rattle.m5_sites.proofs.opening.open_session.Goals as goal

pub returns : goal.returns
returns c =
    each-by (λ w. Some (opening_site (opening_threads c.args.program.now w))) _ c.of_each.result
    (λ p h w i. let made = h w i in search (of_calls, rules, made)) c.of_each.ensures
