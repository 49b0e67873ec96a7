-- What the threads, sites and items of blocks are read back to, and when a stop of a site comes no sooner than its source's.
use Rattle.std.specs.Prelude.{◌≡◌, ◌+◌, ◌≤◌, ◌⊎◌, ◌*◌, true, false, Bool, List, [], ◌∷◌}
use Rattle.m5_terms.specs.Expression.{Expression, binary}
use Rattle.m5_terms.specs.declared.types.World.{World}
use Rattle.m5_terms.specs.declared.form.LeafForm.TheVariants as leaf_form
use Rattle.m5_terms.specs.declared.form.BinaryForm.TheVariants as binary_form
use Rattle.m5_terms.specs.declared.thread.Frame.{Frame}
use Rattle.m5_terms.specs.declared.thread.Focus.TheVariants.{Eval, Returned}
use Rattle.m5_meaning.specs.Site as meaning
use Rattle.m5_meaning.specs.Reduction as reduction
use Rattle.m5_meaning.specs.Step.{thread_of}
use Rattle.m5_meaning.specs.Step as meaning_step
use Rattle.m5_typing.specs.Program.{ProgramTerm}
use Rattle.m5_cps.specs.Values.{atom, enter, call, thread, raw}
use Rattle.m5_cps.specs.Units.{thread_units}
use Rattle.m5_cps.specs.Captured.{Value, Thread, Item, Site, value_units}
use Rattle.m5_cps_convert.specs.Slots.{SVal, SKont, SGoal, SStart}
use Rattle.m5_cps_convert.specs.Reading.{Reads}

-- a primitive is no block that is entered
abbrev pub IsEntered : Value → Type 0
IsEntered (atom (leaf_form.Extern p)) = ⊥
IsEntered f = Unit {0}

module _ (P : ProgramTerm) (u : World) where
  -- a value comes back to frames
  pub record Resuming (k x : Value) (th : meaning.Thread) : Type 0 where
    pub frames : List Frame
    pub world : World
    pub result : Expression
    pub continuation : Reads P k (SKont u frames)
    pub argument : Reads P x (SVal result)
    pub is : th ≡ thread_of frames (Returned world result)

  -- or it is evaluated to itself first
  pub record Evaluating (k x : Value) (th : meaning.Thread) : Type 0 where
    pub frames : List Frame
    pub world : World
    pub result : Expression
    pub continuation : Reads P k (SKont u frames)
    pub argument : Reads P x (SVal result)
    pub is : th ≡ thread_of frames (Eval world result)

  -- a term gets its frames
  pub record Going (k x : Value) (th : meaning.Thread) : Type 0 where
    pub frames : List Frame
    pub node : Expression
    pub goal : Reads P k (SGoal node)
    pub continuation : Reads P x (SKont u frames)
    pub is : th ≡ thread_of frames (Eval u node)

  -- a thread begins
  pub record Starting (k : Value) (th : meaning.Thread) : Type 0 where
    pub frames : List Frame
    pub node : Expression
    pub start : Reads P k (SStart u frames node)
    pub is : th ≡ thread_of frames (Eval u node)

  -- a function is called, and the source has put the argument into its body
  pub record Calling (f x k : Value) (th : meaning.Thread) : Type 0 where
    pub frames : List Frame
    pub function : Expression
    pub result : Expression
    pub body : Expression
    pub called : Reads P f (SVal function)
    pub entered : IsEntered f
    pub argument : Reads P x (SVal result)
    pub continuation : Reads P k (SKont u frames)
    pub put_in : reduction.called P function result ≡ reduction.goes_on body
    pub is : th ≡ thread_of frames (Eval u body)

  -- a handler is called with a text
  pub record Handling (f x k : Value) (th : meaning.Thread) : Type 0 where
    pub handler : Expression
    pub argument : Expression
    pub called : Reads P f (SVal handler)
    pub text : Reads P x (SVal argument)
    pub continuation : Reads P k (SKont u [])
    pub is : th ≡ thread_of [] (Eval u (binary binary_form.Call handler argument))

  abbrev pub ReadsThread : Thread → meaning.Thread → Type 0
  ReadsThread (enter k x) th = Resuming k x th ⊎ Evaluating k x th ⊎ Going k x th ⊎ Starting k th
  ReadsThread (call f x k) th = Calling f x k th ⊎ Handling f x k th

  abbrev pub ReadsThreads : List Thread → List meaning.Thread → Type 0
  ReadsThreads [] [] = Unit {0}
  ReadsThreads (t ∷ ts) (s ∷ ss) = ReadsThread t s × ReadsThreads ts ss
  ReadsThreads _ _ = ⊥

abbrev pub ReadsValues : ProgramTerm → List Value → List Expression → Type 0
ReadsValues P [] [] = Unit {0}
ReadsValues P (c ∷ cs) (v ∷ vs) = Reads P c (SVal v) × ReadsValues P cs vs
ReadsValues P _ _ = ⊥

-- a thread is read back at the world to which it goes, and takes no more than four times its source's size; raw bytes are the same
abbrev pub ReadsItem : ProgramTerm → World → Item → meaning.Item → Type 0
ReadsItem P v (thread t) (meaning.thread th) = ReadsThread P v t th × (thread_units value_units t ≤ 4 * meaning.thread_size th)
ReadsItem P v (raw bytes) (meaning.raw others) = bytes ≡ others
ReadsItem P v _ _ = ⊥

-- neither site is stopped: threads, cells and handlers are read back, and the source has paid for the blocks entered and the units
pub record ReadsSite (P : ProgramTerm) (u : World) (t : Site) (s : meaning.Site) : Type 0 where
  pub runs : t.stopped ≡ false
  pub source_runs : s.stopped ≡ false
  pub threads : ReadsThreads P u t.threads s.threads
  pub cells : ReadsValues P t.cells s.cells
  pub handlers : ReadsValues P t.handlers s.handlers
  pub steps : t.entered ≤ s.steps
  pub units : t.units ≤ 4 * s.weight + 64

-- both are stopped by a full table; the source's then asks for that stop again, as the blocks' does
pub record StoppedToo (P : ProgramTerm) (u : World) (t : Site) (s : meaning.Site) : Type 0 where
  pub stopped : t.stopped ≡ true
  pub source_stopped : s.stopped ≡ true
  pub stops : (b : Bool) → meaning_step.site_next P u (record s { stopped = b }) ≡ meaning_step.stops_full (record s { stopped = b })

abbrev pub ReadsState : ProgramTerm → World → Site → meaning.Site → Type 0
ReadsState P u t s = ReadsSite P u t s ⊎ StoppedToo P u t s
