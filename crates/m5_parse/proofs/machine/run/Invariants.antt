use Rattle.std.proofs.Common.{◌∷◌, []}
use Rattle.m5_tree.specs.Reading.{at_start}
use Rattle.m5_parse.specs.Machine.{Ends, Outcome, state_of}
use Rattle.m5_parse.specs.Work.{work}
use Rattle.m5_tree.specs.declared.grammar.Symbol.TheVariants.{Nt}
use Rattle.m5_tree.specs.declared.grammar.Phrase.TheVariants as phrase
use Rattle.m5_parse.proofs.machine.run.Given as goal

abbrev pub invariant-loop-symbol : goal.invariant-loop-symbol
invariant-loop-symbol l = (o : Outcome) → Ends o l.machine.pending l.rest (state_of l.machine) → Ends o (Nt phrase.Program ∷ []) l.tokens at_start

abbrev pub decreases-loop-symbol : goal.decreases-loop-symbol
decreases-loop-symbol l = work l.machine.pending l.rest
