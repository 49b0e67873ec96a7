use Rattle.std.proofs.Common.{arith, sym, subst, ◌<◌}
use Rattle.m5_region.specs.declared.bench.Bench.{Bench}
use Rattle.m5_site.specs.Object.{code_of}
use Rattle.m5_site.proofs.Computed.{moved_due, moved_idle, moved_on, ran_sound, if_ok, if_both}
use Rattle.m5_site.proofs.Fuel.{run_less}
use Rattle.m5_site.proofs.computing.moved.Goals as goal

pub returns-in-Some-clause-is : goal.returns-in-Some-clause-is
returns-in-Some-clause-is c = moved_due c.args.object.now c.args.world c.args.state.now c.in-Some.cause c.in-Some.is

pub returns-then-len-eq0-clause-is : goal.returns-then-len-eq0-clause-is
returns-then-len-eq0-clause-is c = moved_idle c.args.object.now c.args.world c.args.state.now c.in-None.is (omega arith)

pub came-requires-clause-sound : goal.came-requires-clause-sound
came-requires-clause-sound c = ran_sound (code_of c.args.object.now c.args.world) c.args.state.now _ _ c.run-out.ensures.run c.run-out.ensures.sound c.requires.sound

pub returns-clause-is : goal.returns-clause-is
returns-clause-is c =
    if_ok _ _ c.came.result (λ wait e. moved_on c.args.object.now c.args.world c.args.state.now _ _ _ wait c.in-None.is (omega arith) c.run-out.ensures.run e) c.came.ensures.is

pub returns-clause-fuel : goal.returns-clause-fuel
returns-clause-fuel c =
    let less = run_less (code_of c.args.object.now c.args.world) c.args.state.now.bench c.run-out.new.bench c.run-out.result c.requires.sound.bench (omega arith) c.run-out.ensures.run in
    if_both _ _ _ c.came.result (λ wait b e n. subst (λ (x : Bench). x.fuel < c.args.state.now.bench.fuel) (sym b) (less (e n))) c.came.ensures.bench c.came.ensures.ended
