-- What one turn of a site makes.
use Rattle.std.specs.Prelude.{◌≡◌, ◌≢◌, ◌⊎◌, ℕ, [], ◌∷◌, Option, Some, None}
use Rattle.m5_terms.specs.declared.types.World.{World}
use Rattle.m5_terms.specs.declared.ask.Act.{Act}
use Rattle.m5_terms.specs.Machine.{asks, wrong, Comes}
use Rattle.m5_terms.specs.declared.ask.AskOf.{AskOf}
use Rattle.m5_terms.specs.declared.ask.AnswerOf.{AnswerOf}
use Rattle.m5_terms.specs.declared.ask.AnswerOf.TheVariants as answer
use Rattle.m5_meaning.specs.Site.{Program, Site, Item}
use Rattle.m5_meaning.specs.Step.{site_next}
use Rattle.m5_script.specs.Scenario.{Scenario}
use Rattle.m5_network.specs.Board.{Answered, answer_of}
use Rattle.m5_network.specs.Entries.{Deed, shown, entry_of}
use Rattle.m5_network.specs.Claim.{has_seal}
use Rattle.m5_network.specs.Run.{Network, with_site}
use Rattle.m5_board.specs.Boards.{BoardLists, board_of}
use Rattle.m5_sites.specs.Sites.{kept}
use Rattle.m5_reference.specs.Ahead.{IsAhead}
use Rattle.m5_reference.specs.Reference.{FirstTurn}
use Rattle.m5_reference.specs.declared.turn.Turned.{Turned}
use Rattle.m5_reference.specs.declared.turn.Turned.TheVariants as turned

-- a deed at the site's first moment, with what the history shows of it; after it the board is this one and the code's site is
-- what is left
pub record MakesDeed (P : Program) (S : Scenario) (N : Network) (s : ℕ) (w : World) (board : BoardLists Item) (left : Option Site) (act : Act) : Type 0 where
  pub deed : Deed Item
  pub site : Site
  pub turn : FirstTurn P S N (record { session = s; world = w }) (deed ∷ []) (with_site s w site (board_of board) N)
  pub ahead : IsAhead P S w site left
  pub entry : entry_of has_seal deed ≡ record { session = s; world = w; act = act }

-- nothing is found: the board stays, and the code's site waits
pub record FindsNothing (P : Program) (S : Scenario) (N : Network) (s : ℕ) (w : World) (board : BoardLists Item) (left : Site) : Type 0 where
  pub turn : FirstTurn P S N (record { session = s; world = w }) [] N
  pub same : board_of board ≡ N.board
  pub ahead : IsAhead P S w (N.site s w) (Some left)

-- the site comes to where the meaning goes wrong, or to an ask that is answered by what is no answer to it
pub record IsStuck (P : Program) (N : Network) (s : ℕ) (w : World) : Type 0 where
  pub steps : ℕ
  pub at : Site
  pub comes : Comes (site_next P w) steps (N.site s w) at
  pub stuck : (site_next P w at ≡ wrong) ⊎ ((q : AskOf Item) × (resume : AnswerOf Item → Option Site) × (site_next P w at ≡ asks q resume) × ((answer_of N.board s w q).reply ≢ answer.Nothing) × (resume (answer_of N.board s w q).reply ≡ None))

abbrev pub IsTurned : Program → Scenario → Network → ℕ → World → BoardLists Item → Turned → Type 0
IsTurned P S N s w b (turned.Acts left act) = MakesDeed P S N s w b left act
IsTurned P S N s w b (turned.Rests site) = FindsNothing P S N s w b site
IsTurned P S N s w b turned.Wrong = IsStuck P N s w

-- the site's deed by this answer of the board
pub record IsResumed (q : AskOf Item) (resume : AnswerOf Item → Option Site) (x : Answered Item) (left : Option Site) (act : Act) : Type 0 where
  pub told : x.reply ≢ answer.Nothing
  pub site : Site
  pub resumed : resume x.reply ≡ Some site
  pub left_is : left ≡ kept site
  pub act_is : act ≡ shown has_seal q x.reply

-- what the answer makes of a site that waits for it
abbrev pub IsAskTurned : Site → AskOf Item → (AnswerOf Item → Option Site) → Answered Item → Turned → Type 0
IsAskTurned y q resume x (turned.Acts left act) = IsResumed q resume x left act
IsAskTurned y q resume x (turned.Rests site) = (x.reply ≡ answer.Nothing) × (site ≡ y)
IsAskTurned y q resume x turned.Wrong = (x.reply ≢ answer.Nothing) × (resume x.reply ≡ None)
