use Rattle.std.proofs.Common.{subst}
use Rattle.std.specs.List.{All}
use Rattle.std.proofs.lemmas.List.Elements.{All-head, All-tail}
use Rattle.m5_machine.specs.Closure.{CanRun}
use Rattle.m5_machine.proofs.run.run_front.Goals as goal

pub run_from-requires : goal.run_from-requires
run_from-requires c =
    let P = CanRun c.args.code.now c.args.bench.now.region.objects in
    let all = subst (All P) c.in-Some.ensures.first c.requires.sound.threads in
    let first = All-head P c.in-Some.thread c.pop.new.self all in
    record {
      begins = c.in-Some-entry.ensures.begins;
      sound = record { cells = c.requires.sound.cells; threads = All-tail P c.in-Some.thread c.pop.new.self all };
      closure_refers = first.code_refers;
      value_refers = first.argument_refers;
    }
