use Rattle.m5_terms.proofs.Played.{plays-always}
use Rattle.m5_terms.proofs.matching.matching_plays_holds.Goals as goal

pub returns : goal.returns
returns g c = plays-always g.P.Pass.input g.P.Pass.output g.P.Pass.reading g.P.Pass.input_moments g.P.Pass.output_moments g.P.Pass.meeting g.P.Pass.matches g.P.Pass.met
