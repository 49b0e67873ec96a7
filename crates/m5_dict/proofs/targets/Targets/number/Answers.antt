use Rattle.std.proofs.Common.{length, subst, sym, arith}
use Rattle.m5_dictionary.specs.Dictionaries.{IsLine}
use Rattle.m5_dict.specs.Lines.{line_of}
use Rattle.m5_dict.proofs.Adding.{added, stored}
use Rattle.m5_dict.proofs.targets.Targets.number.Goals as goal
use Rattle.m5_dict.proofs.targets.Targets.number.Goals.{in-Ok, in-Err}

pub invariant_of-self : goal.invariant_of-self
invariant_of-self c = elim c.match-insert_full.branch [ in-Ok w ↦ rw w.in-Ok.ensures.keys (added c.self.inside.found.keys c.args.target c.self.invariant (subst (λ L. IsLine (length L) (line_of c.args.target)) (sym c.self.view_is) c.requires) (omega (arith, c.len.ensures.len, c.if-len-ge4294967295.false))) | in-Err w ↦ rw w.in-Err.ensures.err c.self.invariant ]

pub returns-clause-is : goal.returns-clause-is
returns-clause-is c = elim c.match-insert_full.branch [ in-Ok w ↦ rw w.result-is (let x = w.in-Ok.ensures.stored in stored c.insert_full.new.self.keys c.args.target x.0 w.in-Ok.id x.1 x.2) | in-Err w ↦ rw w.result-is tt ]
