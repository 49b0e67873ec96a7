-- When what comes of a body on a machine is what the block does, with the same units.
use Rattle.std.specs.Prelude.{◌≡◌, ◌⊎◌, ◌<◌, ◌≤◌, ◌+◌, ℕ, List, ◌++◌, IsSome, Some, slice_get}
use Rattle.std.specs.List.{AllZip}
use Rattle.m5_terms.specs.Machine.{goes, wrong}
use Rattle.m5_terms.specs.declared.types.Primitive.{Primitive}
use Rattle.m5_terms.specs.declared.types.World.{World}
use Rattle.m5_terms.specs.declared.form.LeafForm.TheVariants as leaf_form
use Rattle.m5_region.specs.declared.value.Value.{Value}
use Rattle.m5_region.specs.declared.bench.Bench.{Bench}
use Rattle.m5_region.specs.Region.{Object}
use Rattle.m5_machine.specs.declared.next.Next.{Next}
use Rattle.m5_machine.specs.declared.next.Next.TheVariants as next
use Rattle.m5_machine.specs.Blocks.{Flat, start_of}
use Rattle.m5_dictionary.specs.Dictionaries.{code_of_world}
use Rattle.m5_cps.specs.Values.{atom, closed, enter}
use Rattle.m5_cps.specs.Deeds.{Ran, makes, ends, stops_full}
use Rattle.m5_cps.specs.Asks.{asked, sent, goes_on}
use Rattle.m5_flat.specs.Values.{Closure, under, Site, Thread}
use Rattle.m5_flat.specs.Values as flat
use Rattle.m5_emit.specs.Represents.{Represents, IsThread}
use Rattle.m5_emit.specs.Emit.{code_of_primitive}

-- objects and slots are only added
pub record Grows (old new : Bench) : Type 0 where
  pub objects : List Object
  pub slots : List Value
  pub objects_are : new.region.objects ≡ old.region.objects ++ objects
  pub slots_are : new.slots ≡ old.slots ++ slots

-- the slot's value stands for this one
pub record Holds (bench : Bench) (slot : ℕ) (a : flat.Value) : Type 0 where
  pub value : Value
  pub there : slice_get bench.slots slot ≡ Some value
  pub stands : Represents bench.region.objects a value

-- a closure whose label has a block in this code
abbrev pub MayEnter : Flat → flat.Value → Type 0
MayEnter code (closed (under i k) σ) = (i ≤ 65535) × IsSome (start_of code i)
MayEnter code _ = ⊥

abbrev pub GoesWrong : Ran Closure → Type 0
GoesWrong (makes p r) = GoesWrong r
GoesWrong (ends wrong) = Unit {0}
GoesWrong (ends x) = ⊥

-- a region of so many units in all, and the handlers of its site
module _ (total : ℕ) (hs : List Value) where
  pub record IsSite (bench : Bench) (s : Site) : Type 0 where
    pub threads : AllZip (IsThread bench.region.objects) bench.threads s.threads
    pub cells : AllZip (Represents bench.region.objects) s.cells bench.cells
    pub handlers : AllZip (Represents bench.region.objects) s.handlers hs
    pub units : bench.region.left + s.units ≡ total

  -- the ending's operands stand for those with which the block ends
  pub record EndsWith (bench : Bench) (r : Ran Closure) (k x : Value) (end : Site → flat.Value → flat.Value → Ran Closure) : Type 0 where
    pub site : Site
    pub closure : flat.Value
    pub argument : flat.Value
    pub is : r ≡ end site closure argument
    pub fits : IsSite bench site
    pub closure_stands : Represents bench.region.objects closure k
    pub argument_stands : Represents bench.region.objects argument x

  -- the thread goes on, in a block or in a call
  pub record GoesWith (bench : Bench) (r : Ran Closure) (k x : Value) : Type 0 where
    pub site : Site
    pub thread : Thread
    pub is : r ≡ goes_on site thread
    pub fits : IsSite bench site
    pub stands : IsThread bench.region.objects (record { code = k; argument = x }) thread

  pub record StopsWith (bench : Bench) (r : Ran Closure) (end : Site → Ran Closure) : Type 0 where
    pub site : Site
    pub is : r ≡ end site
    pub fits : IsSite bench site

  abbrev pub EndsAs : Ran Closure → Next → Bench → Type 0
  EndsAs r (next.Enters k x) b = GoesWith b r k x
  EndsAs r (next.Asks p x k) b = (q : Primitive) × (p ≡ code_of_primitive q) × EndsWith b r k x (λ s j a. asked s j q a)
  EndsAs r (next.Sends w k x) b = (v : World) × (w ≡ code_of_world v) × EndsWith b r k x (λ s j a. sent s (atom (leaf_form.Addr v)) (enter j a))
  EndsAs r next.Ended b = StopsWith b r (λ s. ends (goes s))
  EndsAs r next.FullTable b = StopsWith b r stops_full
  EndsAs r _ b = ⊥

  -- each object is made where it fits in the region, and the first that does not fit ends the run; of a block that goes wrong
  -- nothing is said
  abbrev pub Follows : Ran Closure → Next × Bench → Type 0
  Follows (makes p r) m = GoesWrong r ⊎ (((total < p.units) × (m.0 ≡ next.FullRegion)) ⊎ ((p.units ≤ total) × Follows r m))
  Follows (ends wrong) m = Unit {0}
  Follows (ends x) m = EndsAs (ends x) m.0 m.1
