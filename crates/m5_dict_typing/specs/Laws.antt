-- The laws of dictionaries: what a program's values are by the types, they are by the ids that stand for these.
use Rattle.std.specs.Prelude.{◌≡◌, ◌≢◌, ℕ, List, []}
use Rattle.m5_terms.specs.declared.types.World.{World}
use Rattle.m5_terms.specs.declared.types.World.TheVariants.{Any}
use Rattle.m5_typing.specs.Context.{CellTypes}
use Rattle.m5_dictionary.specs.Dictionaries.{Dictionaries, IsDictionaries}
use Rattle.m5_dict.specs.Standing.{Stands, slot_target}
use Rattle.m5_dict.specs.Dictionaries.{AreDictionariesOf}
use Rattle.m5_region.specs.declared.value.Value as region
use Rattle.m5_region.specs.Region.{Object}
use Rattle.m5_message.specs.Packing.{Sending, IsSendable}
use Rattle.m5_cps.specs.Entries.{SlotType}
use Rattle.m5_cps.specs.Values.{enter}
use Rattle.m5_cps_typing.specs.States.{ValueFits, ThreadFits}
use Rattle.m5_flat.specs.Blocks.{Blocks}
use Rattle.m5_flat.specs.Values.{Value, Thread, Site}
use Rattle.m5_flat.specs.Running.{site_next}
use Rattle.m5_flat.specs.Machine.{opening_site, opening_threads}
use Rattle.m5_flat.specs.Fits.{no_setting}
use Rattle.m5_flat.specs.Program.{IsProgram}
use Rattle.m5_flat_typing.specs.Closures.{ClosureFits}
use Rattle.m5_dict_typing.specs.Values.{IsOf}
use Rattle.m5_dict_typing.specs.Sites.{BringsItsTypes, ValuesHaveTheirTypes, GoesOnTo, KeepsTypes}
use Rattle.m5_dict_typing.specs.Trees.{StandsInRegion, ReachesFew}

module _ (B : Blocks) (p : IsProgram B) (d : Dictionaries) where
  -- a value that has a type somewhere is of each id that stands for the type
  abbrev pub HasItsId : Type 0
  HasItsId =
      (L : CellTypes) (u : World) (v : Value) (T : SlotType) (i : ℕ) →
      ValueFits (ClosureFits B p.environments) no_setting L v u T → Stands d.types i (slot_target T) → IsOf d i v

  -- a typed thread brings to its label what the label's line says
  abbrev pub ThreadBrings : Type 0
  ThreadBrings =
      (L : CellTypes) (u : World) (t : Thread) → ThreadFits (ClosureFits B p.environments) no_setting L u t → BringsItsTypes d u t

  abbrev pub Opens : Type 0
  Opens = (u : World) → u ≢ Any → ValuesHaveTheirTypes B p d (λ w. []) u (opening_site (opening_threads B u))

  abbrev pub GoesOn : Type 0
  GoesOn =
      (L : CellTypes) (u : World) (s : Site) → u ≢ Any → ValuesHaveTheirTypes B p d L u s →
      GoesOnTo B p d (ValuesHaveTheirTypes B p d) L u (site_next B u s)

  abbrev pub Runs : Type 0
  Runs = (n : ℕ) (L : CellTypes) (u : World) (s : Site) → u ≢ Any → ValuesHaveTheirTypes B p d L u s → KeepsTypes B p d n L u s

-- each is so of a program's blocks, by their dictionaries
abbrev pub OfDictionaries : ((B : Blocks) → IsProgram B → Dictionaries → Type 0) → Type 0
OfDictionaries Law =
    (B : Blocks) (p : IsProgram B) (d : Dictionaries) → IsDictionaries d → AreDictionariesOf B d → Law B p d

-- typed values are of the ids of their types
abbrev pub TypedValuesHaveIds : Type 0
TypedValuesHaveIds = OfDictionaries HasItsId

-- what a typed thread brings to a label has the label's types by their ids
abbrev pub ThreadsBringTheirTypes : Type 0
ThreadsBringTheirTypes = OfDictionaries ThreadBrings

-- it is so of each site as it opens
abbrev pub OpeningIsTyped : Type 0
OpeningIsTyped = OfDictionaries Opens

-- local steps and typed answers keep it, and what is sent has its types where it goes
abbrev pub SitesGoOn : Type 0
SitesGoOn = OfDictionaries GoesOn

-- and so does each run, whatever typed answers it has
abbrev pub RunsKeepTypes : Type 0
RunsKeepTypes = OfDictionaries Runs

-- A thread that enters a closure with its types has bytes where the label stands, in each region in which the closure and the
-- argument have their trees.
abbrev pub HasBytesThere : Type 0
HasBytesThere =
    (d : Dictionaries) → IsDictionaries d → (w : World) (k x : Value) → BringsItsTypes d w (enter k x) →
    (os : List Object) (at : ℕ) (v : region.Value) → StandsInRegion os k x at v → ReachesFew d os at v →
    (t : Sending) × (t.code.at ≡ at) × (t.argument ≡ v) × IsSendable d w os t
