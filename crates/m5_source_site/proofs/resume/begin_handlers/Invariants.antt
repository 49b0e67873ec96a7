use Rattle.std.proofs.Common.{◌≡◌, take}
use Rattle.m5_meaning.specs.Step.{begun, handler_threads}
use Rattle.m5_source_site.proofs.resume.begin_handlers.Given as goal

abbrev pub invariant-loop-number : goal.invariant-loop-number
invariant-loop-number l = l.after ≡ begun l.fn.site (handler_threads l.here l.fn.site (take l.number-index l.numbers) l.text)
