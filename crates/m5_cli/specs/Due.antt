-- What is due for a job and an input: the text that is written with each status.
use Rattle.std.specs.Prelude.{◌≡◌, ◌<◌, ℕ, List, length, codes}
use Rattle.m5_cli.specs.Cases.{IsBadScript, IsChecked, IsReferenceOf, IsRefusal, IsReplay, IsTraceOf, IsUnbuilt}
use Rattle.m5_cli.specs.Expanding.{IsBadText, IsBadTypes, IsExpansion}
use Rattle.m5_cli.specs.Input.{parts_of}
use Rattle.m5_cli.specs.Replaying.{replayed_script}
use Rattle.m5_cli.specs.Taken.{input_limit}
use Rattle.m5_cli.specs.declared.words.Job.{Job}
use Rattle.m5_cli.specs.declared.words.Job.TheVariants as job
use Rattle.m5_cli.specs.declared.status.Status.{Status}
use Rattle.m5_cli.specs.declared.status.Status.TheVariants as status

-- the text that is due with a status, by job: sites stop in reference runs alone, `check` ignores the script, `run` alone
-- takes less than it accepts today, `expand` refuses the expansion, the statuses of `replay` are its verdicts, and want of memory
-- alone may come at any input
abbrev pub Due : Status → Job → List ℕ → List ℕ → Type 0
Due status.Rest job.Check input text = IsChecked input text
Due status.Rest job.Run input text = IsTraceOf input text
Due status.Rest job.Ref input text = IsReferenceOf status.Rest input text
Due status.Stopped job.Ref input text = IsReferenceOf status.Stopped input text
Due status.Unbuilt job.Run input text = IsUnbuilt input text
Due status.Rest job.Replay input text = IsReplay status.Rest input text
Due status.Refuted job.Replay input text = IsReplay status.Refuted input text
Due status.Unsettled job.Replay input text = IsReplay status.Unsettled input text
Due status.BadScript job.Run input text = IsBadScript input (parts_of input).script text
Due status.BadScript job.Ref input text = IsBadScript input (parts_of input).script text
Due status.BadScript job.Replay input text = IsBadScript input (replayed_script input) text
Due status.Rest job.Expand input text = IsExpansion input text
Due status.BadText job.Expand input text = IsBadText input text
Due status.BadTypes job.Expand input text = IsBadTypes input text
Due status.BadText job input text = IsRefusal status.BadText input text
Due status.BadTypes job input text = IsRefusal status.BadTypes input text
Due status.TooLong job input text = (input_limit < length input) × (text ≡ codes "refused long\n")
Due status.NoMemory job input text = text ≡ codes "refused memory\n"
Due _ _ _ _ = ⊥

-- every job but `expand` reads the program text as it stands
abbrev pub ReadsProgram : Job → Type 0
ReadsProgram job.Expand = ⊥
ReadsProgram _ = Unit {0}

-- the words are no listed spelling: their line is due, and nothing else
abbrev pub usage_line : List ℕ
usage_line = codes "usage: ml5 check, run, ref, expand, replay\n"
