use Rattle.std.proofs.Common.{suc}
use Rattle.m5_site.proofs.Computed.{longer, goes_to, differ}
use Rattle.m5_site.proofs.computing.computed.Goals as goal

pub returns-then-not-goes_on-clause-comes : goal.returns-then-not-goes_on-clause-comes
returns-then-not-goes_on-clause-comes c = λ s. record {
  steps = (c.threads.invariant.comes s).0;
  at = c.threads.state;
  comes = (c.threads.invariant.comes s).1;
  waiting = c.in_ok-wait.ensures.is;
  something = λ e. differ _ c.if-not-goes_on.true (c.goes_on.ensures.1 e);
}

pub threads-preserved : goal.threads-preserved
threads-preserved c = record {
  comes = λ s. (
    suc (c.threads.invariant.comes s).0,
    longer c.args.object.now s c.args.world (c.threads.invariant.comes s).0 c.args.state.now c.threads.state c.moved.new.state (c.threads.invariant.comes s).1
        (goes_to c.args.object.now s c.args.world c.threads.state c.moved.new.state c.in_ok-wait.wait c.in_ok-wait.ensures.is (c.goes_on.ensures.0 c.if-not-goes_on.false)),
  );
  sound = c.in_ok-wait.ensures.sound;
}
