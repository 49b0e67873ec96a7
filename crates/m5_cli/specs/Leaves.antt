-- What a call leaves in the sink, and how it answers an input that its job takes.
use Rattle.std.specs.Prelude.{◌≡◌, ◌<◌, ◌⊎◌, ℕ, List, length, take}
use Rattle.std.specs.Io.KnownBytes.{Appends, Keeps}
use Rattle.std.specs.declared.option.Option.{Option}
use Rattle.m5_cli.specs.Due.{Due}
use Rattle.m5_cli.specs.Expanding.{HasExpansion}
use Rattle.m5_cli.specs.Input.{parts_of}
use Rattle.m5_cli.specs.Replaying.{replayed_script}
use Rattle.m5_cli.specs.Taken.{HasProgram, HasScript}
use Rattle.m5_cli.specs.declared.words.Job.{Job}
use Rattle.m5_cli.specs.declared.words.Job.TheVariants as job
use Rattle.m5_cli.specs.declared.status.Status.{Status}
use Rattle.m5_cli.specs.declared.status.Status.TheVariants as status

-- a proper prefix of the text was taken
abbrev pub TookSome : Option (List ℕ) → Option (List ℕ) → List ℕ → Type 0
TookSome old new text = (count : ℕ) × (count < length text) × Appends old new (take count text)

-- the sink took the whole text, or failed after a proper prefix of it
abbrev pub Finishes : Option (List ℕ) → Option (List ℕ) → Status → List ℕ → Status → Type 0
Finishes old new meant text result = ((result ≡ meant) × Appends old new text) ⊎ ((result ≡ status.WriteFault) × TookSome old new text)

-- the sink took all of what is due for the input with this status
abbrev pub TookDue : Job → Option (List ℕ) → Option (List ℕ) → List ℕ → Status → Type 0
TookDue job old new input s = (text : List ℕ) × Due s job input text × Appends old new text

-- what a job over this input leaves in the sink: after a read fault nothing new, after a write fault a proper prefix of what
-- is due with some status, else all that is due with the status answered
abbrev pub Leaves : Job → Option (List ℕ) → Option (List ℕ) → List ℕ → Status → Type 0
Leaves job old new input status.ReadFault = Keeps old new
Leaves job old new input status.WriteFault = (meant : Status) × (text : List ℕ) × Due meant job input text × TookSome old new text
Leaves job old new input s = TookDue job old new input s

-- an input that a job takes: its program is accepted, its script too where the job reads one, and for `expand` its expansion
abbrev pub Takes : Job → List ℕ → Type 0
Takes job.Check input = HasProgram input
Takes job.Run input = HasScript input (parts_of input).script
Takes job.Ref input = HasScript input (parts_of input).script
Takes job.Expand input = HasExpansion input
Takes job.Replay input = HasScript input (replayed_script input)

-- an input that its job takes is answered with the job's output, if no stream fails and memory lasts; `run` may say that
-- it is not of the first form
abbrev pub Completes : Job → Status → Type 0
Completes job status.Rest = Unit {0}
Completes job.Ref status.Stopped = Unit {0}
Completes job.Run status.Unbuilt = Unit {0}
Completes job.Replay status.Refuted = Unit {0}
Completes job.Replay status.Unsettled = Unit {0}
Completes job status.ReadFault = Unit {0}
Completes job status.WriteFault = Unit {0}
Completes job status.NoMemory = Unit {0}
Completes job _ = ⊥
