-- The laws of emission.
use Rattle.std.specs.Prelude.{◌≡◌, ◌≢◌, ℕ, suc, ◌+◌, ◌<◌, Option, None, List, [], ◌∷◌, ◌++◌, Bool, true, false, if◌then◌else◌, IsTrue, length, Some, slice_get, FitsSigned}
use Rattle.std.specs.List.{AllZip}
use Rattle.std.specs.Int.{w64}
use Rattle.m5_terms.specs.declared.types.World.{World}
use Rattle.m5_terms.specs.declared.types.World.TheVariants.{Any}
use Rattle.m5_terms.specs.declared.types.Primitive.{Primitive}
use Rattle.m5_terms.specs.declared.types.Primitive.TheVariants as primitive
use Rattle.m5_terms.specs.declared.form.LeafForm.TheVariants as leaf_form
use Rattle.m5_region.specs.declared.value.Value.{Value}
use Rattle.m5_region.specs.declared.bench.Bench.{Bench}
use Rattle.m5_region.specs.declared.queue.Ready.{Ready}
use Rattle.m5_region.specs.Region.{Object}
use Rattle.m5_machine.specs.Blocks.{Flat}
use Rattle.m5_machine.specs.Block.{run_body}
use Rattle.m5_cps.specs.Blocks.{Straight, constant, spawn, Test, Ending, go, call, ask, send, done}
use Rattle.m5_cps.specs.Captured.{straight_uses, ending_uses}
use Rattle.m5_cps.specs.Deeds.{Ran, taking, performed, tested}
use Rattle.m5_cps.specs.Asks.{goes_on}
use Rattle.m5_cps.specs.Running.{last}
use Rattle.m5_cps.specs.Values.{pair, atom, join, closed, enter, put, put_all, filled_by}
use Rattle.m5_cps.specs.Values as value
use Rattle.m5_cps.specs.Units.{closure_units}
use Rattle.m5_flat.specs.Blocks.{Code, straight, closure, test, ends, Block, Blocks}
use Rattle.m5_flat.specs.Running.{primitive_of, ended, run, Entered, resolved}
use Rattle.m5_flat.specs.Values.{Closure, under, Site, Thread, taken}
use Rattle.m5_flat.specs.Values as flat
use Rattle.m5_flat.specs.Fits.{IsPlain}
use Rattle.m5_emit.specs.Represents.{Represents, IsThread}
use Rattle.m5_emit.specs.Emit.{Dialect, Rest, Way, straight_body, closure_body, test_body, ending_body, code_body, block_body}
use Rattle.m5_emit.specs.Follows.{Grows, Holds, MayEnter, IsSite, Follows}

-- what stands for a value does so when there are more objects
abbrev pub StandsOn : Type 0
StandsOn = (os more : List Object) (a : flat.Value) (v : Value) → Represents os a v → Represents (os ++ more) a v

-- a number has 64 bits, and a thread that begins enters a block of this code
abbrev pub MayRun : Flat → (ℕ → flat.Value) → Straight → Type 0
MayRun code ρ (constant (leaf_form.Var x)) = ⊥
MayRun code ρ (constant (leaf_form.Valid x)) = ⊥
MayRun code ρ (constant (leaf_form.Int n)) = FitsSigned w64 n
MayRun code ρ (spawn x) = MayEnter code (ρ x)
MayRun code ρ f = IsPlain f

-- what comes next is marked by the value that it goes on with
abbrev pub marked : Site → flat.Value → Ran Closure
marked s a = goes_on s (enter a a)

-- the form goes on with this value in this site
abbrev pub GoesOnWith : World → Straight → (ℕ → flat.Value) → Site → Site → flat.Value → Type 0
GoesOnWith u f ρ s new a = last (performed u f ρ s marked) ≡ last (marked new a)

-- what goes on from a value that H allows goes on from the slot, whatever was made before
abbrev pub GoOn : ℕ → List Value → (Site → flat.Value → Type 0) → Flat → Bench → Rest → (Site → flat.Value → Ran Closure) → Type 0
GoOn total hs H code old rest go_on =
    (new : Bench) (s : Site) (slot : ℕ) (a : flat.Value) → H s a → Grows old new → IsSite total hs new s → Holds new slot a →
    Follows total hs (go_on s a) (run_body code (rest slot (length new.slots)) new)

-- a straight form's instructions follow it, with its units, if what comes next does
abbrev pub StraightsFollow : Type 0
StraightsFollow =
    (total : ℕ) (hs : List Value) (code : Flat) (d : Dialect) (u : World) (f : Straight) (at : ℕ → ℕ) (ρ : ℕ → flat.Value) (s : Site) (bench : Bench)
    (rest : Rest) (go_on : Site → flat.Value → Ran Closure) → MayRun code ρ f → ((x : ℕ) → IsTrue (straight_uses f x) → Holds bench (at x) (ρ x)) →
    IsSite total hs bench s → GoOn total hs (GoesOnWith u f ρ s) code bench rest go_on →
    Follows total hs (performed u f ρ s go_on) (run_body code (straight_body d u f at (length bench.slots) rest) bench)

-- the closure that is made goes on, with the units that it takes
abbrev pub IsClosure : List ℕ → ℕ → (ℕ → flat.Value) → Site → Site → flat.Value → Type 0
IsClosure ls i ρ s new a = (new ≡ record s { units = s.units + closure_units (length ls) }) × (a ≡ closed (under i (length ls)) (taken ls ρ))

abbrev pub ClosuresFollow : Type 0
ClosuresFollow =
    (total : ℕ) (hs : List Value) (code : Flat) (d : Dialect) (u : World) (ls : List ℕ) (i : ℕ) (at : ℕ → ℕ) (ρ : ℕ → flat.Value) (s : Site) (bench : Bench)
    (rest : Rest) (go_on : Site → flat.Value → Ran Closure) → ((j l : ℕ) → slice_get ls j ≡ Some l → Holds bench (at l) (ρ l)) →
    IsSite total hs bench s → GoOn total hs (IsClosure ls i ρ s) code bench rest go_on →
    Follows total hs (taking (closure_units (length ls)) s (λ s1. go_on s1 (closed (under i (length ls)) (taken ls ρ))))
    (run_body code (closure_body d u ls i at (length bench.slots) rest) bench)

-- the test goes this way with these parts, whatever comes on either
abbrev pub TakesWay : World → Test → flat.Value → Bool → List flat.Value → Type 0
TakesWay u t a b parts = (this that : List flat.Value → Ran Closure) → tested u t a this that ≡ (if b then this parts else that parts)

abbrev pub WayOn : ℕ → List Value → Flat → World → Test → flat.Value → Site → Bench → Bool → (List flat.Value → Ran Closure) → Way → Type 0
WayOn total hs code u t a s old b go_on way =
    (new : Bench) (slots : List ℕ) (parts : List flat.Value) → TakesWay u t a b parts → Grows old new → IsSite total hs new s → AllZip (Holds new) slots parts →
    Follows total hs (go_on parts) (run_body code (way slots (length new.slots)) new)

-- a test's instructions go the way that it goes, with its parts in slots
abbrev pub TestsFollow : Type 0
TestsFollow =
    (total : ℕ) (hs : List Value) (code : Flat) (d : Dialect) (u : World) (t : Test) (x : ℕ) (a : flat.Value) (s : Site) (bench : Bench)
    (this that : List flat.Value → Ran Closure) (first second : Way) → Holds bench x a → IsSite total hs bench s →
    WayOn total hs code u t a s bench true this first → WayOn total hs code u t a s bench false that second →
    Follows total hs (tested u t a this that) (run_body code (test_body d u t x (length bench.slots) first second) bench)

-- an ask's continuation, and a handler that it adds, are closures whose labels have blocks in this code
abbrev pub HasHandler : Flat → Primitive → flat.Value → Type 0
HasHandler code primitive.On (join pair a h) = MayEnter code h
HasHandler code primitive.Watch (join pair a h) = MayEnter code h
HasHandler code p a = Unit {0}

abbrev pub MayAsk : Flat → Primitive → flat.Value → flat.Value → Type 0
MayAsk code p a k = HasHandler code p a × MayEnter code k

-- a function that is called is a primitive that may ask, or enters a block of this code
abbrev pub MayCall : Flat → Option Primitive → flat.Value → flat.Value → flat.Value → Type 0
MayCall code None f a k = MayEnter code f
MayCall code (Some p) f a k = MayAsk code p a k

-- what is sent goes to another world
abbrev pub LeavesFrom : World → flat.Value → Type 0
LeavesFrom u (atom (leaf_form.Addr v)) = (v ≢ u) × (v ≢ Any) × (u ≢ Any)
LeavesFrom u a = Unit {0}

abbrev pub MayEnd : Flat → Blocks → World → Ending → (ℕ → flat.Value) → Type 0
MayEnd code B u (call f x k) ρ = MayCall code (primitive_of B (ρ f)) (ρ f) (ρ x) (ρ k)
MayEnd code B u (ask p x k) ρ = MayAsk code p (ρ x) (ρ k)
MayEnd code B u (send a k x) ρ = LeavesFrom u (ρ a)
MayEnd code B u (go k x) ρ = Unit {0}
MayEnd code B u done ρ = Unit {0}

-- an ending's instructions end as it does, with what stands for its operands
abbrev pub EndingsFollow : Type 0
EndingsFollow =
    (total : ℕ) (hs : List Value) (code : Flat) (d : Dialect) (u : World) (B : Blocks) (e : Ending) (at : ℕ → ℕ) (ρ : ℕ → flat.Value) (s : Site) (bench : Bench) →
    MayEnd code B u e ρ → ((x : ℕ) → IsTrue (ending_uses e x) → Holds bench (at x) (ρ x)) → IsSite total hs bench s →
    Follows total hs (ended B e ρ s) (run_body code (ending_body d u B.primitives e at (length bench.slots)) bench)

-- the code may run from these slots: it names slots that are filled, and each form and the ending may be done as it comes to them
module _ (code : Flat) (B : Blocks) (u : World) where
  abbrev pub MayGo : Code → ℕ → (ℕ → flat.Value) → Site → Type 0
  MayGo (straight f c) n ρ s =
      MayRun code ρ f × ((x : ℕ) → IsTrue (straight_uses f x) → x < n)
      × ((new : Site) (a : flat.Value) → GoesOnWith u f ρ s new a → MayGo c (suc n) (put n a ρ) new)
  MayGo (closure ls i c) n ρ s =
      ((j l : ℕ) → slice_get ls j ≡ Some l → l < n)
      × MayGo c (suc n) (put n (closed (under i (length ls)) (taken ls ρ)) ρ) (record s { units = s.units + closure_units (length ls) })
  MayGo (test t x b c) n ρ s =
      (x < n) × ((parts : List flat.Value) → TakesWay u t (ρ x) true parts → MayGo b (filled_by parts n) (put_all n parts ρ) s)
      × ((parts : List flat.Value) → TakesWay u t (ρ x) false parts → MayGo c (filled_by parts n) (put_all n parts ρ) s)
  MayGo (ends e) n ρ s = ((x : ℕ) → IsTrue (ending_uses e x) → x < n) × MayEnd code B u e ρ

-- n slots are held at these places
abbrev pub AreHeld : Bench → (ℕ → ℕ) → ℕ → (ℕ → flat.Value) → Type 0
AreHeld bench at n ρ = (l : ℕ) → l < n → Holds bench (at l) (ρ l)

-- a block's body follows its code: it makes the same objects with the same units, and ends alike
abbrev pub BodiesFollow : Type 0
BodiesFollow =
    (total : ℕ) (hs : List Value) (code : Flat) (d : Dialect) (u : World) (B : Blocks) (c : Code) (n : ℕ) (at : ℕ → ℕ) (ρ : ℕ → flat.Value) (s : Site) (bench : Bench) →
    MayGo code B u c n ρ s → AreHeld bench at n ρ → IsSite total hs bench s →
    Follows total hs (run B u c n ρ s) (run_body code (code_body d u B.primitives c n at (length bench.slots)) bench)

-- what a thread enters or calls
abbrev pub begun_by : Thread → flat.Value
begun_by (enter k x) = k
begun_by (value.call f x k) = f

-- the body of the block that a thread is about to run follows the block's code, from a bench with the closure and the argument in
-- its first two slots
abbrev pub BlocksFollow : Type 0
BlocksFollow =
    (total : ℕ) (hs : List Value) (code : Flat) (d : Dialect) (u : World) (B : Blocks) (th : Thread) (i k : ℕ) (σ : ℕ → flat.Value) (b : Block) (e : Entered) (s : Site)
    (bench : Bench) (r : Ready) → begun_by th ≡ closed (under i k) σ → slice_get B.table i ≡ Some b → resolved B th ≡ Some e → bench.slots ≡ r.code ∷ r.argument ∷ [] →
    IsThread bench.region.objects r th → IsSite total hs bench s → MayGo code B u e.code e.filled e.slots s →
    Follows total hs (run B u e.code e.filled e.slots s) (run_body code (block_body d u B.primitives b k) bench)
