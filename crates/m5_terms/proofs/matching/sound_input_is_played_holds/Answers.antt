use Rattle.m5_terms.proofs.Played.{plays-fully}
use Rattle.m5_terms.proofs.matching.sound_input_is_played_holds.Goals as goal

pub returns : goal.returns
returns g c t s h p = plays-fully g.P.Pass.input g.P.Pass.output g.P.Pass.reading g.P.Pass.input_moments g.P.Pass.output_moments g.P.Pass.meeting t s h p
