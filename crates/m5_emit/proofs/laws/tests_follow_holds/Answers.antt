use Rattle.m5_emit.proofs.Tests.{tests_follow}
use Rattle.m5_emit.proofs.laws.tests_follow_holds.Goals as goal

pub returns : goal.returns
returns c = tests_follow
