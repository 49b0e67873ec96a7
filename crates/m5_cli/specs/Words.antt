-- The listed spellings of the jobs.
use Rattle.std.specs.Prelude.{ℕ, List, [], ◌∷◌, Option, Some, None, codes, if◌then◌else◌}
use Rattle.std.specs.Str.{bytes_eq}
use Rattle.m5_cli.specs.declared.words.Job.{Job}
use Rattle.m5_cli.specs.declared.words.Job.TheVariants as job

-- one word: `check`, `run`, `ref`, `expand` or `replay`
abbrev pub job_of : List (List ℕ) → Option Job
job_of (word ∷ []) =
    if bytes_eq word (codes "check") then Some job.Check
    else (if bytes_eq word (codes "run") then Some job.Run
    else (if bytes_eq word (codes "ref") then Some job.Ref
    else (if bytes_eq word (codes "expand") then Some job.Expand
    else (if bytes_eq word (codes "replay") then Some job.Replay else None))))
job_of _ = None
