use Rattle.m5_poly.proofs.Plain.{plain_answer}
use Rattle.m5_poly.proofs.expand.expand.Goals as goal

pub returns-clause-law : goal.returns-clause-law
returns-clause-law c = plain_answer c.args.tokens.now c.expanded_listing.result c.expanded_listing.ensures.found c.expanded_listing.ensures.fault
