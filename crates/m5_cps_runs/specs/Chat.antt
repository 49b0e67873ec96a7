-- What a flow of the chat enters and takes: a line that is typed, and a line that was written.
use Rattle.std.specs.Prelude.{◌≡◌, ℕ, ◌+◌, ◌*◌, false, List, [], ◌∷◌, length, codes}
use Rattle.m5_terms.specs.declared.ask.AskOf.TheVariants as query
use Rattle.m5_terms.specs.declared.ask.AnswerOf.{AnswerOf}
use Rattle.m5_terms.specs.declared.ask.AnswerOf.TheVariants as answer
use Rattle.m5_terms.specs.declared.types.World.{World}
use Rattle.m5_terms.specs.declared.types.World.TheVariants.{Home, Server}
use Rattle.m5_cps.specs.Units.{text_units}
use Rattle.m5_cps.specs.Values.{thread}
use Rattle.m5_cps.specs.Captured.{Value, Thread, Item, Site}
use Rattle.m5_cps_runs.specs.Examples.{chat}
use Rattle.m5_cps_runs.specs.Asking.{Deed, gets, opening, Reaches}

-- a site without threads that has one handler, and had entered so many blocks and taken so many units
abbrev pub waiting : Value → ℕ → ℕ → Site
waiting h blocks units = record { threads = []; cells = []; handlers = h ∷ []; entered = blocks; units = units; stopped = false }

-- whatever it has entered and taken before, the site that waits with this handler asks so, and waits again: it has entered and
-- taken so many more
abbrev pub Spends : World → Value → List Deed → ℕ → ℕ → Type 0
Spends u h deeds blocks units = (b c : ℕ) → Reaches chat u (waiting h b c) deeds (waiting h (b + blocks) (c + units))

-- the blocks that every flow enters, and the units that it takes where its text has so many bytes
abbrev pub flow_blocks : ℕ
flow_blocks = 4

abbrev pub flow_units : ℕ → ℕ
flow_units b = 25 + 2 * text_units b

-- a flow that begins at the one site and asks at the other: both together enter and take as much as is said
pub record Flow (u v : World) (h g : Value) (begins : AnswerOf Item) (asks : Deed) (text : List ℕ) : Type 0 where
  pub away : Thread
  pub back : Thread
  pub blocks_here : ℕ
  pub units_here : ℕ
  pub blocks_there : ℕ
  pub units_there : ℕ
  pub here :
      Spends u h
      (gets query.Take begins ∷ gets (query.Send v (thread away)) answer.Done ∷ gets query.Take (answer.Message v (thread back)) ∷ [])
      blocks_here units_here
  pub there :
      Spends v g
      (gets query.Take (answer.Message u (thread away)) ∷ asks ∷ gets (query.Send u (thread back)) answer.Done ∷ [])
      blocks_there units_there
  pub blocks : blocks_here + blocks_there ≡ flow_blocks
  pub units : units_here + units_there ≡ flow_units (length text)

-- a site waits after these deeds from its opening on
pub record Opens (u : World) (h : Value) (deeds : List Deed) : Type 0 where
  pub entered : ℕ
  pub taken : ℕ
  pub reaches : Reaches chat u (opening chat u) deeds (waiting h entered taken)

-- the page has a handler for what is typed, and the server one for what was written
pub record ChatOpens : Type 0 where
  pub typed : Value
  pub written : Value
  pub away : Thread
  pub back : Thread
  pub home :
      Opens Home typed
      (gets (query.On (codes "send") 0) answer.Done ∷ gets (query.Send Server (thread away)) answer.Done
      ∷ gets query.Take (answer.Message Server (thread back)) ∷ [])
  pub server :
      Opens Server written
      (gets query.Take (answer.Message Home (thread away)) ∷ gets (query.Watch (codes "chat") 0) answer.Done
      ∷ gets (query.Send Home (thread back)) answer.Done ∷ [])

-- what is typed is written at the server
abbrev pub Writes : ChatOpens → Type 0
Writes o =
    (t : List ℕ) →
    Flow Home Server o.typed o.written (answer.Event (codes "send") (0 ∷ []) t) (gets (query.Write (codes "chat") t) answer.Done) t

-- what was written is shown at the page
abbrev pub Shows : ChatOpens → Type 0
Shows o =
    (t : List ℕ) →
    Flow Server Home o.written o.typed (answer.Fired (codes "chat") 0 t) (gets (query.Set (codes "log") t) answer.Done) t

pub record ChatFlows : Type 0 where
  pub opens : ChatOpens
  pub writes : Writes opens
  pub shows : Shows opens
