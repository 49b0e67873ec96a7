use Rattle.std.proofs.Common.{sym, ◌∙◌}
use Rattle.m5_page.proofs.Pairs.{set-missing, found-set}
use Rattle.m5_page.proofs.page.set_text.Goals as goal

pub returns-in-Some-clause-ok : goal.returns-in-Some-clause-ok
returns-in-Some-clause-ok c = found-set c.args.key c.args.text c.args.pairs.now.items c.in-Some.index (rw c.as_slice.ensures.value at c.in-Some.ensures)

pub returns-in_ok-push-in-None-clause-ok : goal.returns-in_ok-push-in-None-clause-ok
returns-in_ok-push-in-None-clause-ok c = c.in_ok-push-in-None.ensures.items ∙ sym (set-missing c.args.key c.args.text c.args.pairs.now.items (rw c.as_slice.ensures.value at c.in-None.ensures))
