use Rattle.std.proofs.Common.{ℕ, Bool, true, false, subst, sym, ap, ◌≡◌, ◌∙◌}
use Rattle.std.specs.Prelude.{◌++◌, codes}
use Rattle.m5_script.specs.Trace.{last_words}
use Rattle.m5_network.specs.Claim.{ending}
use Rattle.m5_network.specs.Plain.{sites_of}
use Rattle.m5_replay.specs.Fitting.{due_line, ExceedsAmong}
use Rattle.m5_replay.specs.code.Running.{RunAll}
use Rattle.m5_replay.proofs.RunSites.{settles-each, not-last, is-last}
use Rattle.m5_replay.proofs.Advances.{not-true}
use Rattle.m5_replay.proofs.last.check_last.Goals as goal

pub returns-in-Some-false : goal.returns-in-Some-false
returns-in-Some-false c = λ S N before ds l h.
    let all = rw c.in-Some-false.is at (c.in_ok-run_all.ensures.run S N l h.board h.sites) in
    let busy = subst (λ (b : Bool). RunAll c.args.program.now S N (sites_of S.sessions) b c.args.running.now c.run_all.new.running) c.in-Some-false.field-0-test all in
    (settles-each c.args.program.now S N before ds false c.args.running.now c.run_all.new.running h busy, not-last c.args.program.now S N ds c.args.line.now c.args.running.now c.run_all.new.running busy)

pub returns-in-None : goal.returns-in-None
returns-in-None c = λ S N before ds l h.
    let all = rw c.in-None.is at (c.in_ok-run_all.ensures.run S N l h.board h.sites) in
    subst (λ (n : ℕ). ExceedsAmong c.args.program.now S N n (sites_of S.sessions)) h.weighs all

pub returns-then-branch-2 : goal.returns-then-branch-2
returns-then-branch-2 c = λ S N before ds l h.
    let all = rw c.in-Some-true.is at (c.in_ok-run_all.ensures.run S N l h.board h.sites) in
    let quiet = subst (λ (b : Bool). RunAll c.args.program.now S N (sites_of S.sessions) b c.args.running.now c.run_all.new.running) c.in-Some-true.field-0-test all in
    let due : c.args.line.now ≡ due_line ds = c.in_ok-is_due.ensures.0 c.if-branch-2.true ∙ ap (λ (n : ℕ). last_words (ending n) ++ codes "\n") (c.in_ok-run_all.ensures.stops ∙ h.stops) in
    (settles-each c.args.program.now S N before ds true c.args.running.now c.run_all.new.running h quiet, is-last c.args.program.now S N ds c.args.line.now c.args.running.now c.run_all.new.running quiet due)

pub returns : goal.returns
returns c = λ S N before ds l h.
    let all = rw c.in-Some-true.is at (c.in_ok-run_all.ensures.run S N l h.board h.sites) in
    let quiet = subst (λ (b : Bool). RunAll c.args.program.now S N (sites_of S.sessions) b c.args.running.now c.run_all.new.running) c.in-Some-true.field-0-test all in (
      settles-each c.args.program.now S N before ds true c.args.running.now c.run_all.new.running h quiet,
      λ last. not-true _ c.if-branch-2.false (c.in_ok-is_due.ensures.1 (last.due ∙ ap (λ (n : ℕ). last_words (ending n) ++ codes "\n") (sym (c.in_ok-run_all.ensures.stops ∙ h.stops)))),
    )
