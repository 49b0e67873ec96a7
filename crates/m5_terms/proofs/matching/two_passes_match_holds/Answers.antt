use Rattle.m5_terms.proofs.Matched.{both-match, both-met}
use Rattle.m5_terms.proofs.matching.two_passes_match_holds.Goals as goal

pub returns-clause-matches : goal.returns-clause-matches
returns-clause-matches g c F G = both-match g.P.TwoPasses.first g.P.TwoPasses.second g.P.TwoPasses.third g.P.TwoPasses.over g.P.TwoPasses.under F G

pub returns-clause-met : goal.returns-clause-met
returns-clause-met g c F = both-met g.P.TwoPasses.first g.P.TwoPasses.second g.P.TwoPasses.third g.P.TwoPasses.over g.P.TwoPasses.under F g.P.TwoPasses.first_moments g.P.TwoPasses.second_moments g.P.TwoPasses.third_moments g.P.TwoPasses.met_over g.P.TwoPasses.met_under
