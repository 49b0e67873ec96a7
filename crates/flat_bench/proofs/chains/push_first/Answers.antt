use Rattle.std.proofs.Common.{◌≡◌, length, refl, ap, ◌∙◌}
use Rattle.flat_bench.proofs.Growing.{ended_more}
use Rattle.m5_cps.specs.declared.entry.Argument.TheVariants.{Value}
use Rattle.m5_cps.specs.declared.entry.Entry.TheVariants.{ByValue}
use Rattle.flat_bench.proofs.chains.push_first.Goals as goal

pub returns-clause-chains : goal.returns-clause-chains
returns-clause-chains c = rw c.in_ok-push_end.ensures (ended_more c.args.types.now c.args.built.now (record { entry = ByValue c.standing.result (Value c.args.chain); environment = c.push.new.self; place = length c.args.built.now.steps }) c.requires c.standing.result c.args.chain refl (rw c.in_ok-push.ensures.ok (rw c.make-environment.ensures refl)))
