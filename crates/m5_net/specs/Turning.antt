-- What one turn of an object's site makes of a network.
use Rattle.std.specs.Prelude.{◌≡◌, ◌≢◌, ℕ, List, [], ◌∷◌, ◌++◌, true, false, Option, Some, None}
use Rattle.m5_terms.specs.Machine.{Comes}
use Rattle.m5_terms.specs.declared.types.World.{World}
use Rattle.m5_terms.specs.declared.ask.AnswerOf.TheVariants as answer
use Rattle.m5_network.specs.Kinds.{NetOf, with_site}
use Rattle.m5_network.specs.Entries.{Deed, entry_of}
use Rattle.m5_network.specs.Claim.{IsAtItsWorld, primitive_of}
use Rattle.m5_network.specs.Plain.{TurnOf}
use Rattle.m5_board.specs.Boards.{board_of}
use Rattle.m5_shared.specs.Shared.{SharedBoard, IsAct, is_sealed}
use Rattle.m5_site.specs.declared.state.State.{State}
use Rattle.m5_site.specs.declared.state.Limits.{Limits}
use Rattle.m5_site.specs.declared.state.Wait.{Wait}
use Rattle.m5_site.specs.declared.state.Wait.TheVariants as waits
use Rattle.m5_site.specs.Answers.{Reply, answered}
use Rattle.m5_site.specs.Held.{Held, IsSiteOf}
use Rattle.m5_site.specs.Kind.{object_kind}
use Rattle.m5_site.specs.Object.{Bundle}
use Rattle.m5_site.specs.Site.{site_next, query}
use Rattle.m5_site.specs.Stops.{ComesTo}
use Rattle.m5_net.specs.declared.turn.Turned.{Turned}
use Rattle.m5_net.specs.declared.turn.Turned.TheVariants as turned

-- the site of a session at a world, which computes
pub record IsReadySite (O : Bundle) (s : ℕ) (w : World) (x : Held) : Type 0 where
  pub session : x.session ≡ s
  pub world : x.world ≡ w
  pub of : IsSiteOf O x
  pub computing : x.wait ≡ waits.Nothing

-- if it is there still
abbrev pub IsReadyLeft : Bundle → ℕ → World → Option Held → Type 0
IsReadyLeft O s w None = Unit {0}
IsReadyLeft O s w (Some x) = IsReadySite O s w x

-- what a turn leaves
abbrev pub IsReadyTurned : Bundle → ℕ → World → Turned → Type 0
IsReadyTurned O s w (turned.Acts left) = IsReadyLeft O s w left
IsReadyTurned O s w (turned.Rests x) = IsReadySite O s w x
IsReadyTurned O s w (turned.Wrong label) = Unit {0}

-- it waits for the answer to a call, a send or a look
abbrev pub IsGoing : Wait → Type 0
IsGoing (waits.Call p argument next) = Unit {0}
IsGoing (waits.Send v thread) = Unit {0}
IsGoing waits.Take = Unit {0}
IsGoing _ = ⊥

-- the board's answer to what a site waits for, and the site that goes on from it
pub record GoesOn (O : Bundle) (x : Held) (old new : SharedBoard) (r : Reply) (y : Held) : Type 0 where
  pub act : IsAct x.session x.world (query O x.session x.state x.wait) old new r
  pub resumed : answered O x.session x.world x.state x.wait r ≡ Some y.state
  pub of : IsSiteOf O y
  pub computing : y.wait ≡ waits.Nothing
  pub session : y.session ≡ x.session
  pub world : y.world ≡ x.world

abbrev pub IsAskTurned : Bundle → Held → SharedBoard → SharedBoard → Turned → Type 0
IsAskTurned O x old new (turned.Acts None) = ⊥
IsAskTurned O x old new (turned.Acts (Some y)) = (r : Reply) × (r ≢ answer.Nothing) × GoesOn O x old new r y
IsAskTurned O x old new (turned.Rests y) = GoesOn O x old new answer.Nothing y
IsAskTurned O x old new (turned.Wrong label) = ⊥

abbrev pub Net : Bundle → Limits → Type 0
Net O n = NetOf (object_kind O n)

-- the code's site computes, and the network's comes to it by local steps
pub record IsAhead (O : Bundle) (s : ℕ) (w : World) (from : State) (x : Held) : Type 0 where
  pub session : x.session ≡ s
  pub world : x.world ≡ w
  pub of : IsSiteOf O x
  pub computing : x.wait ≡ waits.Nothing
  pub steps : ℕ
  pub comes : Comes (site_next O s w) steps from x.state

-- gone where the network's has stopped, else ahead of it
abbrev pub IsLeft : Bundle → ℕ → World → State → Option Held → Type 0
IsLeft O s w y None = y.stopped ≡ true
IsLeft O s w y (Some x) = (y.stopped ≡ false) × IsAhead O s w y x

-- the turn makes a deed, whose entry is added; a primitive is called at its own world
pub record MakesDeed (O : Bundle) (n : Limits) (N : Net O n) (s : ℕ) (w : World) (old new : SharedBoard) (kept : Option Held) : Type 0 where
  pub deed : Deed (List ℕ)
  pub site : State
  pub turn : TurnOf (object_kind O n) N (record { session = s; world = w }) (deed ∷ []) (with_site s w site (board_of new.board) N)
  pub left : IsLeft O s w site kept
  pub entry : new.entries ≡ old.entries ++ entry_of (is_sealed s) deed ∷ []
  pub own : IsAtItsWorld (primitive_of (entry_of (is_sealed s) deed).act) w

-- the turn finds nothing
pub record FindsNothing (O : Bundle) (n : Limits) (N : Net O n) (s : ℕ) (w : World) (old new : SharedBoard) (left : Held) : Type 0 where
  pub turn : TurnOf (object_kind O n) N (record { session = s; world = w }) [] N
  pub board : board_of new.board ≡ N.board
  pub entries : new.entries ≡ old.entries
  pub ahead : IsAhead O s w (N.site s w) left

-- the site comes to where the block of a label does what has no meaning
abbrev pub IsStuck : Bundle → ℕ → World → State → ℕ → Type 0
IsStuck O s w from label = (to : State) × ComesTo O s w from (waits.Wrong label) to

abbrev pub IsTurned : (O : Bundle) (n : Limits) → Net O n → ℕ → World → SharedBoard → SharedBoard → Turned → Type 0
IsTurned O n N s w old new (turned.Acts left) = MakesDeed O n N s w old new left
IsTurned O n N s w old new (turned.Rests x) = FindsNothing O n N s w old new x
IsTurned O n N s w old new (turned.Wrong label) = (new.entries ≡ old.entries) × IsStuck O s w (N.site s w) label
