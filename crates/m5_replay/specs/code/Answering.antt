-- What the check of a line makes of the verdict.
use Rattle.std.specs.Prelude.{ℕ, Option, Some, None}
use Rattle.m5_replay.specs.declared.check.Checked.{Checked}
use Rattle.m5_replay.specs.declared.check.Checked.TheVariants as checked
use Rattle.m5_replay.specs.declared.verdict.Verdict.{Verdict}
use Rattle.m5_replay.specs.declared.verdict.Verdict.TheVariants.{Yes, No, Spent}

-- where the line of this number names a place; nothing where the trace goes on
abbrev pub place_verdict : Checked → ℕ → Option Verdict
place_verdict checked.Fits n = None
place_verdict checked.Differs n = Some (No n)
place_verdict checked.Beyond n = Some (Spent n)

-- where it is the last and names none
abbrev pub last_verdict : Checked → ℕ → Verdict
last_verdict checked.Fits n = Yes
last_verdict checked.Differs n = No n
last_verdict checked.Beyond n = Spent n
