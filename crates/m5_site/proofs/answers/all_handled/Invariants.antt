use Rattle.std.proofs.Common.{◌≡◌, drop}
use Rattle.m5_machine.specs.Blocks.{Flat}
use Rattle.m5_site.specs.Answers.{all_handled}
use Rattle.m5_site.specs.code.Sound.{IsSoundState}
use Rattle.m5_site.proofs.answers.all_handled.Given as goal

abbrev pub invariant-handlers : goal.invariant-handlers
invariant-handlers l = record {
  same : all_handled l.fn.finish l.fn.bytes l.fn.numbers l.fn.state ≡ all_handled l.fn.finish l.fn.bytes (drop l.number-index l.fn.numbers) l.state;
  sound : (code : Flat) → IsSoundState code l.fn.state → IsSoundState code l.state;
}
