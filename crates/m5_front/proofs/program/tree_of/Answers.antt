use Rattle.m5_front.proofs.Accepting.{no_tree}
use Rattle.m5_front.proofs.program.tree_of.Goals as goal

-- `parse` finds the tree of a program
pub returns-in-Err-Syntax-clause-accepted : goal.returns-in-Err-Syntax-clause-accepted
returns-in-Err-Syntax-clause-accepted c = λ tree h.
    absurd (no_tree c.args.tokens.now tree c.in-Err-Syntax.place c.in-Err-Syntax.field-0 c.in-Err-Syntax.ensures.only c.in-Err-Syntax.field-0-is h)
