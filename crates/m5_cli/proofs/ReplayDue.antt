-- The line of a verdict is what is due.
use Rattle.std.proofs.Common.{◌≡◌, ℕ, List, Result, Ok, Err, IfOk, subst, sym}
use Rattle.std.specs.declared.alloc.AllocError.{AllocError}
use Rattle.m5_replay.specs.declared.verdict.Verdict.{Verdict}
use Rattle.m5_replay.specs.declared.verdict.Verdict.TheVariants.{Yes, No, Spent}
use Rattle.m5_cli.specs.Cases.{IsReplay}
use Rattle.m5_cli.specs.Due.{Due}
use Rattle.m5_cli.specs.Replaying.{IsVerdictText, replayed_script, replayed_trace, verdict_status}
use Rattle.m5_cli.specs.Taken.{HasScript}
use Rattle.m5_cli.specs.declared.answer.Answer.{Answer}
use Rattle.m5_cli.specs.declared.words.Job.TheVariants as job
use Rattle.m5_cli.specs.declared.status.Status.{Status}

-- the status of each verdict is one of the job's
verdict_due : (input text : List ℕ) (v : Verdict) → IsReplay (verdict_status v) input text → Due (verdict_status v) job.Replay input text
verdict_due input text Yes r = r
verdict_due input text (No number) r = r
verdict_due input text (Spent number) r = r

-- a verdict's line is due with its status
replay_due : (input text : List ℕ) (meant : Status) → IsReplay meant input text → Due meant job.Replay input text
replay_due input text meant r =
    let Is : Status → Type 0 = λ s. IsReplay s input text in
    let IsDue : Status → Type 0 = λ s. Due s job.Replay input text in
    subst IsDue (sym r.verdict.status) (verdict_due input text r.verdict.verdict (subst Is r.verdict.status r))

-- the same of an answer, if there is one
pub answered : (input trace : List ℕ) (given : HasScript input (replayed_script input)) → trace ≡ replayed_trace input → (r : Result Answer AllocError) → IfOk r (λ a. IsVerdictText a.status given.program given.scenario trace a.text) → IfOk r (λ a. Due a.status job.Replay input a.text)
answered input trace given e (Ok a) h =
    let Says : List ℕ → Type 0 = λ t. IsVerdictText a.status given.program given.scenario t a.text in
    replay_due input a.text a.status (record { given = given; verdict = subst Says e h })
answered input trace given e (Err x) h = tt
