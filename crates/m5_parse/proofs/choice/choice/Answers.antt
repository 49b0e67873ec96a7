use Rattle.std.proofs.Common.{ap, ◌∙◌}
use Rattle.m5_tree.specs.Productions.{alternatives}
use Rattle.m5_parse.specs.Rows.{pick_row}
use Rattle.m5_parse.proofs.Rows.{pick_row-row}
use Rattle.m5_parse.proofs.choice.choice.Goals as goal

pub returns : goal.returns
returns c = c.picked.ensures ∙ ap (pick_row c.args.rest.now) c.productions.ensures ∙ pick_row-row c.args.rest.now (alternatives c.args.phrase)
