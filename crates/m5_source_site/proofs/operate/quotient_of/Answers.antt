use Rattle.m5_source_site.proofs.Quotient.{negation_read, division_read}
use Rattle.m5_source_site.proofs.operate.quotient_of.Goals as goal

pub returns-then-second-eqminus1 : goal.returns-then-second-eqminus1
returns-then-second-eqminus1 c = negation_read c.args.first c.args.second _ c.ranges.first c.ranges.second c.if-second-eqminus1.true (record { sfits = c.wrapping_neg.type_inv }) c.wrapping_neg.ensures

pub returns-else-second-eqminus1 : goal.returns-else-second-eqminus1
returns-else-second-eqminus1 c = division_read c.args.first c.args.second _ c.ranges.first c.ranges.second c.if-second-eqminus1.false c.requires (record { sfits = c.wrapping_div.type_inv }) c.wrapping_div.ensures
