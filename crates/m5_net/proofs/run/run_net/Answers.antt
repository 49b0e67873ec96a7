use Rattle.std.proofs.Common.{◌≡◌, inl, inr, sym, ap, subst, ◌∙◌}
use Rattle.m5_terms.specs.declared.ask.History.{History}
use Rattle.m5_terms.specs.declared.ask.End.TheVariants as end
use Rattle.m5_net.specs.Run.{IsFinishedRun, IsWrongRun}
use Rattle.m5_net.proofs.WholeRuns.{is_finished, is_wrong}
use Rattle.m5_net.proofs.run.run_net.Goals as goal

pub returns-in-On : goal.returns-in-On
returns-in-On c =
    let O = c.args.object.now in
    let S = c.args.script.now in
    inl (subst (IsFinishedRun O S) (sym c.into_history-history.ensures)
    (is_finished O S c.in_ok-running.running c.go.new.running c.limits_of-limits.ensures.script c.in_ok-running.ensures.entries (rw c.in-On.is at c.in_ok-going.ensures)))

pub returns : goal.returns
returns c =
    let O = c.args.object.now in
    let S = c.args.script.now in
    let x = c.in-Wrong.site in
    let label = c.in-Wrong.label in
    let same : c.wrong_at.result ≡ record { entries = c.go.new.running.shared.entries; end = end.Wrong x.session x.world label } =
    c.wrong_at.ensures ∙ ap (λ (h : History). record { entries = h.entries; end = end.Wrong x.session x.world label }) c.into_history-history.ensures in
    inr (subst (IsWrongRun O S) (sym same) (is_wrong O S c.in_ok-running.running c.go.new.running x label c.in_ok-running.ensures.entries (rw c.in-Wrong.is at c.in_ok-going.ensures)))
