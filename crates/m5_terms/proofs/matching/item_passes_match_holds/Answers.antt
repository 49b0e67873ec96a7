use Rattle.m5_terms.proofs.Chained.{items-match}
use Rattle.m5_terms.proofs.matching.item_passes_match_holds.Goals as goal

pub returns : goal.returns
returns g c = items-match g.P.TwoItemPasses.first g.P.TwoItemPasses.second g.P.TwoItemPasses.third g.P.TwoItemPasses.over g.P.TwoItemPasses.under g.P.TwoItemPasses.over_items g.P.TwoItemPasses.under_items
