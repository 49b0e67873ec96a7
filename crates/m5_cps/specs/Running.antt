-- What a site of blocks does next: the block that its front thread enters runs up to its ending.
use Rattle.std.specs.Prelude.{ℕ, suc, if◌then◌else◌, List, [], ◌∷◌, Option, Some, None, slice_get}
use Rattle.m5_terms.specs.TypeExpression.{unit}
use Rattle.m5_terms.specs.Machine.{asks, wrong}
use Rattle.m5_terms.specs.declared.ask.AskOf.TheVariants as query
use Rattle.m5_terms.specs.declared.types.World.{World}
use Rattle.m5_terms.specs.declared.form.LeafForm.TheVariants as leaf_form
use Rattle.m5_cps.specs.Entries.{of, everywhere, by_value, by_call}
use Rattle.m5_cps.specs.Blocks.{Straight, constant, one, two, unheld, unsham, spawn, Ending, go, call, ask, send, done, Code, straight, closure, test, Block, Blocks}
use Rattle.m5_cps.specs.Blocks as block
use Rattle.m5_cps.specs.Values as value
use Rattle.m5_cps.specs.Values.{atom, wrap, join, closed, enter, SiteNext, unit_value, put, put_all, filled_by}
use Rattle.m5_cps.specs.Units.{closure_units}
use Rattle.m5_cps.specs.Deeds.{Ran, makes, ends, taking, stops_full, performed, tested}
use Rattle.m5_cps.specs.Asks.{ended, after_take}
use Rattle.m5_cps.specs.Captured.{Closure, over, Value, Thread, Site, captured, value_units}

-- a block's run, up to what its ending makes of the site; n slots are filled, and s is the site without the thread that runs
abbrev pub run : World → Code → ℕ → (ℕ → Value) → Site → Ran Closure
run u (straight f c) n ρ s = performed u f ρ s (λ s1 a. run u c (suc n) (put n a ρ) s1)
run u (closure y b c) n ρ s = taking (closure_units (captured n b)) s (λ s1. run u c (suc n) (put n (closed (over y n b) ρ) ρ) s1)
run u (test t x b c) n ρ s =
    tested u t (ρ x) (λ parts. run u b (filled_by parts n) (put_all n parts ρ) s) (λ parts. run u c (filled_by parts n) (put_all n parts ρ) s)
run u (block.ends e) n ρ s = ended e ρ s

-- slots, how many are filled, and the block
pub record Entered : Type 0 where
  pub filled : ℕ
  pub slots : ℕ → Value
  pub code : Code

-- a block's closure and argument, and of a call the continuation, fill the next slots
abbrev pub entered : Value → Value → ℕ → (ℕ → Value) → Code → Entered
entered k x n ρ c = record { filled = suc (suc n); slots = put (suc n) x (put n k ρ); code = c }

abbrev pub called : Value → Value → Value → ℕ → (ℕ → Value) → Code → Entered
called f x k n ρ c = record { filled = suc (suc (suc n)); slots = put (suc (suc n)) k (put (suc n) x (put n f ρ)); code = c }

abbrev pub no_values : ℕ → Value
no_values l = unit_value

abbrev pub entered_by : Value → Value → Option Entered
entered_by (closed (over (by_value m T) n c) ρ) x = Some (entered (closed (over (by_value m T) n c) ρ) x n ρ c)
entered_by _ x = None

abbrev pub declared_block : ℕ → Value → Value → Option Block → Option Entered
declared_block f x k None = None
declared_block f x k (Some b) = Some (called (atom (leaf_form.Glob f)) x k 0 no_values b.code)

-- a primitive as a function has a block that asks
abbrev pub called_by : Blocks → Value → Value → Value → Option Entered
called_by B (closed (over (by_call m T A) n c) ρ) x k = Some (called (closed (over (by_call m T A) n c) ρ) x k n ρ c)
called_by B (atom (leaf_form.Glob f)) x k = declared_block f x k (slice_get B.functions f)
called_by B (atom (leaf_form.Extern p)) x k = Some (called (atom (leaf_form.Extern p)) x k 0 no_values (block.ends (ask p 1 2)))
called_by B _ x k = None

-- what a thread is about to run
abbrev pub resolved : Blocks → Thread → Option Entered
resolved B (enter k x) = entered_by k x
resolved B (value.call f x k) = called_by B f x k

abbrev pub started : World → Site → Option Entered → Ran Closure
started u s None = ends wrong
started u s (Some e) = run u e.code e.filled e.slots (record s { entered = suc s.entered })

-- the continuation of a handler's thread, which ends it
abbrev pub finish : Value
finish = closed (over (by_value everywhere (of unit)) 0 (block.ends done)) no_values

abbrev pub front : Blocks → World → Site → List Thread → Ran Closure
front B u s [] = ends (asks query.Take (after_take value_units finish s))
front B u s (th ∷ ths) = started u (record s { threads = ths }) (resolved B th)

-- the front thread's block; a stopped site asks to stop again
abbrev pub ran : Blocks → World → Site → Ran Closure
ran B u s = if s.stopped then stops_full s else front B u s s.threads

abbrev pub last : {C : Type 0} → Ran C → SiteNext C
last (makes p r) = last r
last (ends x) = x

-- what a site at the world u does next
abbrev pub site_next : Blocks → World → Site → SiteNext Closure
site_next B u s = last (ran B u s)
