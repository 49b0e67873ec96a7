use Rattle.std.proofs.Common.{◌≡◌, Some}
use Rattle.m5_terms.specs.declared.ask.AnswerOf.TheVariants.{Done}
use Rattle.m5_tests.proofs.full_tables.filled.Goals as goal

pub answered-requires : goal.answered-requires
answered-requires c = λ t e. (rw c.in-Asks.is at c.in_ok-next.ensures.closed).1 Done t tt e
