-- What a verdict says of runs.
use Rattle.std.specs.Prelude.{◌≡◌, ℕ, List, [], ◌∷◌, ◌++◌, map, sum_by, Some, None}
use Rattle.m5_terms.specs.declared.ask.Entry.{Entry}
use Rattle.m5_terms.specs.declared.ask.History.{History}
use Rattle.m5_meaning.specs.Site.{Program, Item}
use Rattle.m5_script.specs.Scenario.{Scenario, IsScript}
use Rattle.m5_script.specs.Trace.{trace_of}
use Rattle.m5_network.specs.Claim.{has_seal, place_of, stop_count, ending}
use Rattle.m5_network.specs.Entries.{Deed, entry_of}
use Rattle.m5_network.specs.Opening.{opening}
use Rattle.m5_network.specs.Run.{Network, Place, Run, IsFinished}
use Rattle.m5_replay.specs.Lines.{lines, place_named}
use Rattle.m5_replay.specs.Verdicts.{IsYes, IsNoAt, IsVerdict}
use Rattle.m5_replay.specs.declared.verdict.Verdict.{Verdict}
use Rattle.m5_replay.specs.declared.verdict.Verdict.TheVariants.{Yes, No, Spent}

abbrev pub entries_of : List (Deed Item) → List Entry
entries_of ds = map (entry_of has_seal) ds

-- the run that these deeds make, by the places that its own entries name
abbrev pub RunsBy : Program → Scenario → List (Deed Item) → Network → Type 0
RunsBy P S ds M = Run P S (opening P S) (map place_of (entries_of ds)) ds M

-- what these deeds show, with the last line that is due
abbrev pub history_of : List (Deed Item) → History
history_of ds = record { entries = entries_of ds; end = ending (sum_by (λ (e : Entry). stop_count e.act) (entries_of ds)) }

-- the trace is the text of a run by the places that it names, and that run is finished
pub record IsFinishedRun (P : Program) (S : Scenario) (trace : List ℕ) : Type 0 where
  pub deeds : List (Deed Item)
  pub last : Network
  pub run : RunsBy P S deeds last
  pub finished : IsFinished P S last
  pub text : trace ≡ trace_of (history_of deeds)

-- the lines begin the trace of some run, finished or not
pub record BeginsRun (P : Program) (S : Scenario) (first : List (List ℕ)) : Type 0 where
  pub deeds : List (Deed Item)
  pub last : Network
  pub run : RunsBy P S deeds last
  pub more : List (List ℕ)
  pub begins : lines (trace_of (history_of deeds)) ≡ first ++ more

-- a yes says that the trace is that of a finished run
abbrev pub YesIsRun : Type 0
YesIsRun = (P : Program) (S : Scenario) (trace : List ℕ) → IsScript S → IsYes P S trace → IsFinishedRun P S trace

-- the trace of a finished run gets no other verdict, unless a line of it is beyond the budget
abbrev pub RunIsYes : Type 0
RunIsYes = (P : Program) (S : Scenario) (trace : List ℕ) (v : Verdict) → IsScript S → IsFinishedRun P S trace → ((number : ℕ) → IsVerdict P S trace (Spent number) → ⊥) → IsVerdict P S trace v → v ≡ Yes

-- where the line of a no names a place, no run has a trace that begins with the lines up to it
abbrev pub NoExcludes : Type 0
NoExcludes = (P : Program) (S : Scenario) (trace : List ℕ) (number : ℕ) (p : Place) → IsScript S → (n : IsNoAt P S trace number) → place_named n.line ≡ Some p → BeginsRun P S (n.before.first ++ n.line ∷ []) → ⊥

-- where it names none and is not the last, no run has a trace that begins with one line more
abbrev pub NoExcludesLonger : Type 0
NoExcludesLonger =
    (P : Program) (S : Scenario) (trace : List ℕ) (number : ℕ) (next : List ℕ) (more : List (List ℕ)) → IsScript S → (n : IsNoAt P S trace number) → place_named n.line ≡ None → n.more ≡ next ∷ more →
    BeginsRun P S (n.before.first ++ n.line ∷ next ∷ []) → ⊥

-- no finished run has the trace of a no
abbrev pub NoIsNoRun : Type 0
NoIsNoRun = (P : Program) (S : Scenario) (trace : List ℕ) (number : ℕ) → IsScript S → IsVerdict P S trace (No number) → IsFinishedRun P S trace → ⊥

-- a trace has one verdict
abbrev pub OneVerdict : Type 0
OneVerdict = (P : Program) (S : Scenario) (trace : List ℕ) (v w : Verdict) → IsVerdict P S trace v → IsVerdict P S trace w → v ≡ w
