-- The trace of a reference run is what is due.
use Rattle.std.proofs.Common.{ℕ, List, Result, Ok, Err, IfOk}
use Rattle.std.specs.declared.alloc.AllocError.{AllocError}
use Rattle.m5_cli.specs.Cases.{IsReferenceOf}
use Rattle.m5_cli.specs.Due.{Due}
use Rattle.m5_cli.specs.Input.{parts_of}
use Rattle.m5_cli.specs.Reference.{IsReferenceTrace}
use Rattle.m5_cli.specs.Taken.{HasScript}
use Rattle.m5_cli.specs.declared.answer.Answer.{Answer}
use Rattle.m5_cli.specs.declared.words.Job.TheVariants as job
use Rattle.m5_cli.specs.declared.status.Status.{Status}
use Rattle.m5_cli.specs.declared.status.Status.TheVariants as status

-- the reference's trace is due with the status with which its run ends
reference_due : (input text : List ℕ) (meant : Status) → IsReferenceOf meant input text → Due meant job.Ref input text
reference_due input text status.Rest r = r
reference_due input text status.Stopped r = r
reference_due input text _ r = absurd r.runs.ends

-- the same of an answer, if there is one
pub answered : (input : List ℕ) (given : HasScript input (parts_of input).script) (r : Result Answer AllocError) → IfOk r (λ a. IsReferenceTrace a.status given.program given.scenario a.text) → IfOk r (λ a. Due a.status job.Ref input a.text)
answered input given (Ok a) h = reference_due input a.text a.status (record { given = given; runs = h })
answered input given (Err e) h = tt
