-- What a site of blocks under labels does next: the block that its front thread enters runs up to its ending.
use Rattle.std.specs.Prelude.{ℕ, suc, if◌then◌else◌, List, [], ◌∷◌, length, Option, Some, None, slice_get}
use Rattle.m5_terms.specs.Machine.{asks, wrong}
use Rattle.m5_terms.specs.declared.ask.AskOf.TheVariants as query
use Rattle.m5_terms.specs.declared.types.World.{World}
use Rattle.m5_terms.specs.declared.types.Primitive.{Primitive}
use Rattle.m5_terms.specs.declared.form.LeafForm.TheVariants as leaf_form
use Rattle.m5_cps.specs.Entries.{Entry, by_value, by_call}
use Rattle.m5_cps.specs.Blocks.{Ending, go, call, ask, send, done}
use Rattle.m5_cps.specs.Values as value
use Rattle.m5_cps.specs.Values.{atom, closed, enter, SiteNext, put, put_all, filled_by}
use Rattle.m5_cps.specs.Units.{closure_units, array_units}
use Rattle.m5_cps.specs.Deeds.{Ran, taking, stops_full, performed, tested}
use Rattle.m5_cps.specs.Deeds as deeds
use Rattle.m5_cps.specs.Asks.{asked, goes_on, after_take}
use Rattle.m5_cps.specs.Asks as cps
use Rattle.m5_cps.specs.Running.{last}
use Rattle.m5_flat.specs.Blocks.{Code, straight, closure, test, Block, Blocks, primitive_at}
use Rattle.m5_flat.specs.Blocks as block
use Rattle.m5_flat.specs.Values.{Closure, under, Value, Thread, Site, no_values, taken, value_units}

-- the primitive that a function is
abbrev pub primitive_of : Blocks → Value → Option Primitive
primitive_of B (closed (under i k) ρ) = primitive_at B.primitives i
primitive_of B (atom (leaf_form.Extern p)) = Some p
primitive_of B _ = None

-- a primitive is asked at once, by the block that calls it; else the array of the call is made, and the function is called next
abbrev pub asks_or_calls : Option Primitive → Value → Value → Value → Site → Ran Closure
asks_or_calls (Some p) f x k s = asked s k p x
asks_or_calls None f x k s = taking array_units s (λ s1. goes_on s1 (value.call f x k))

-- but for calls, a block ends as in continuation-passing style
abbrev pub ended : Blocks → Ending → (ℕ → Value) → Site → Ran Closure
ended B (call f x k) ρ s = asks_or_calls (primitive_of B (ρ f)) (ρ f) (ρ x) (ρ k) s
ended B (go k x) ρ s = cps.ended (go k x) ρ s
ended B (ask p x k) ρ s = cps.ended (ask p x k) ρ s
ended B (send a k x) ρ s = cps.ended (send a k x) ρ s
ended B done ρ s = cps.ended done ρ s

-- a block's run, up to what its ending makes of the site; n slots are filled, and s is the site without the thread that runs
abbrev pub run : Blocks → World → Code → ℕ → (ℕ → Value) → Site → Ran Closure
run B u (straight f c) n ρ s = performed u f ρ s (λ s1 a. run B u c (suc n) (put n a ρ) s1)
run B u (closure ls i c) n ρ s =
    taking (closure_units (length ls)) s (λ s1. run B u c (suc n) (put n (closed (under i (length ls)) (taken ls ρ)) ρ) s1)
run B u (test t x b c) n ρ s =
    tested u t (ρ x) (λ parts. run B u b (filled_by parts n) (put_all n parts ρ) s) (λ parts. run B u c (filled_by parts n) (put_all n parts ρ) s)
run B u (block.ends e) n ρ s = ended B e ρ s

-- how many slots are filled, what is in them, and the block's code
pub record Entered : Type 0 where
  pub filled : ℕ
  pub slots : ℕ → Value
  pub code : Code

-- after so many values that the closure has taken come the closure and the argument, and of a call the continuation
abbrev pub entered : Value → Value → ℕ → (ℕ → Value) → Code → Entered
entered f x k ρ c = record { filled = suc (suc k); slots = put (suc k) x (put k f ρ); code = c }

abbrev pub called : Value → Value → Value → ℕ → (ℕ → Value) → Code → Entered
called f x j k ρ c = record { filled = suc (suc (suc k)); slots = put (suc (suc k)) j (put (suc k) x (put k f ρ)); code = c }

abbrev pub enter_block : ℕ → ℕ → (ℕ → Value) → Value → Entry → Code → Option Entered
enter_block i k ρ x (by_value m T) c = Some (entered (closed (under i k) ρ) x k ρ c)
enter_block i k ρ x (by_call m A T) c = None

abbrev pub call_block : ℕ → ℕ → (ℕ → Value) → Value → Value → Entry → Code → Option Entered
call_block i k ρ x j (by_call m A T) c = Some (called (closed (under i k) ρ) x j k ρ c)
call_block i k ρ x j (by_value m T) c = None

-- of the block of a label, where there is one
abbrev pub with_block : Option Block → (Entry → Code → Option Entered) → Option Entered
with_block None f = None
with_block (Some b) f = f b.entry b.code

abbrev pub entered_by : Blocks → Value → Value → Option Entered
entered_by B (closed (under i k) ρ) x = with_block (slice_get B.table i) (enter_block i k ρ x)
entered_by B _ x = None

abbrev pub called_by : Blocks → Value → Value → Value → Option Entered
called_by B (closed (under i k) ρ) x j = with_block (slice_get B.table i) (call_block i k ρ x j)
called_by B (atom (leaf_form.Extern p)) x j = Some (called (atom (leaf_form.Extern p)) x j 0 no_values (block.ends (ask p 1 2)))
called_by B _ x j = None

-- what a thread is about to run
abbrev pub resolved : Blocks → Thread → Option Entered
resolved B (enter k x) = entered_by B k x
resolved B (value.call f x k) = called_by B f x k

abbrev pub started : Blocks → World → Site → Option Entered → Ran Closure
started B u s None = deeds.ends wrong
started B u s (Some e) = run B u e.code e.filled e.slots (record s { entered = suc s.entered })

-- the continuation of a handler's thread, which ends it
abbrev pub finish_value : Blocks → Value
finish_value B = closed (under B.finish 0) no_values

abbrev pub front : Blocks → World → Site → List Thread → Ran Closure
front B u s [] = deeds.ends (asks query.Take (after_take value_units (finish_value B) s))
front B u s (th ∷ ths) = started B u (record s { threads = ths }) (resolved B th)

-- the front thread's block; a stopped site asks to stop again
abbrev pub ran : Blocks → World → Site → Ran Closure
ran B u s = if s.stopped then stops_full s else front B u s s.threads

-- what a site at the world u does next
abbrev pub site_next : Blocks → World → Site → SiteNext Closure
site_next B u s = last (ran B u s)
