use Rattle.std.proofs.Common.{sym, subst, ◌∙◌, Option, MatchOption}
use Rattle.m5_terms.proofs.SiteWorlds.{has-site}
use Rattle.m5_replay.specs.Lines.{lines}
use Rattle.m5_replay.specs.Verdicts.{IsVerdict}
use Rattle.m5_replay.specs.code.Running.{GoesOn}
use Rattle.m5_replay.specs.declared.verdict.Verdict.{Verdict}
use Rattle.m5_replay.proofs.Answering.{at-place, at-end, too-early, no-lines, some-bytes}
use Rattle.m5_replay.proofs.replay.check_line.Goals as goal

pub returns-then-is_empty-clause-verdict : goal.returns-then-is_empty-clause-verdict
returns-then-is_empty-clause-verdict c = λ S trace p limits stands n.
    subst (IsVerdict c.args.program.now S trace) (sym c.of_last.ensures)
    (at-end c.args.program.now S trace c.args.line.now (lines c.args.more.now) (no-lines c.args.more.now c.is_empty.result c.is_empty.ensures c.if-is_empty.true) p c.args.number c.in_ok-check_last.field-0 (sym c.named_site.ensures.site ∙ c.in_default.is) n
    (c.in_ok-check_last.ensures S p.at p.weight p.deeds limits stands))

pub returns-in_default-clause-verdict : goal.returns-in_default-clause-verdict
returns-in_default-clause-verdict c = λ S trace p limits stands n.
    too-early c.args.program.now S trace c.args.line.now c.args.more.now p c.args.number (sym c.named_site.ensures.site ∙ c.in_default.is) (some-bytes c.args.more.now c.is_empty.result c.is_empty.ensures c.if-is_empty.false) n

pub check_place-requires-clause-world : goal.check_place-requires-clause-world
check_place-requires-clause-world c = has-site c.in-Some.name.world c.in-Some.ensures.world

pub returns-clause-verdict : goal.returns-clause-verdict
returns-clause-verdict c = λ S trace p limits stands n.
    let named = sym c.named_site.ensures.site ∙ c.in-Some.is in
    subst (λ (o : Option Verdict). MatchOption o (GoesOn c.args.program.now S trace (lines c.args.more.now) c.args.number c.check_place.new.running) (λ (v : Verdict). IsVerdict c.args.program.now S trace v)) (sym c.of_place.ensures)
    (at-place c.args.program.now S trace c.args.line.now (lines c.args.more.now) p c.args.number c.in-Some.name c.check_place.new.running c.in_ok-checked.checked named n
    (c.in_ok-checked.ensures.checked S p.at p.weight p.deeds limits stands named c.named_cause.ensures))
