-- The headline: what a call of the program does with its source and its sink.
use Rattle.std.specs.Prelude.{◌≡◌, ◌≢◌, ℕ, List, Option, IfSome, MatchOption}
use Rattle.std.specs.Io.KnownBytes.{Keeps}
use Rattle.m5_base.specs.Causes.{Rose}
use Rattle.m5_cli.specs.Due.{usage_line}
use Rattle.m5_cli.specs.Leaves.{Completes, Finishes, Leaves, Takes}
use Rattle.m5_cli.specs.Words.{job_of}
use Rattle.m5_cli.specs.declared.words.Job.{Job}
use Rattle.m5_cli.specs.declared.status.Status.{Status}
use Rattle.m5_cli.specs.declared.status.Status.TheVariants as status

-- a source and a sink at one moment: the bytes that the source has left and those that the sink holds, where they tell
-- them, and how often each has failed
pub record Streams : Type 0 where
  pub left : Option (List ℕ)
  pub held : Option (List ℕ)
  pub read_faults : ℕ
  pub write_faults : ℕ

-- what a job does from one moment to the other, with the status that it answers
pub record Headline (job : Job) (old new : Streams) (result : Status) : Type 0 where
  -- the sink took what is due for the input with this status, or a proper prefix of what is due where it failed
  pub output : IfSome old.left (λ input. Leaves job old.held new.held input result)
  -- an input that the job takes is answered with the job's output, if no stream fails and memory lasts
  pub completes : IfSome old.left (λ input. Takes job input → Completes job result)
  -- a read fault is the source's own, and nothing is written after it
  pub read_fault : result ≡ status.ReadFault → Rose old.read_faults new.read_faults
  pub nothing : result ≡ status.ReadFault → Keeps old.held new.held
  -- a write fault is the sink's own
  pub write_fault : result ≡ status.WriteFault → Rose old.write_faults new.write_faults
  -- a job is no usage
  pub no_usage : result ≢ status.Usage

-- words that name no job: their line is due, and a write fault is the sink's own
pub record IsUsage (old new : Streams) (result : Status) : Type 0 where
  pub line : Finishes old.held new.held status.Usage usage_line result
  pub write_fault : result ≡ status.WriteFault → Rose old.write_faults new.write_faults

-- the headline for the job that the words name, or the usage line
abbrev pub HeadlineOf : List (List ℕ) → Streams → Streams → Status → Type 0
HeadlineOf words old new result = MatchOption (job_of words) (IsUsage old new result) (λ job. Headline job old new result)
