-- What the code's answers and stops make of a network.
use Rattle.std.specs.Prelude.{◌≡◌, ◌≢◌, ◌⊎◌, ℕ, Option, Some, None}
use Rattle.m5_terms.specs.declared.ask.Act.{Act}
use Rattle.m5_terms.specs.declared.ask.AskOf.{AskOf}
use Rattle.m5_terms.specs.declared.ask.AnswerOf.{AnswerOf}
use Rattle.m5_terms.specs.declared.ask.AnswerOf.TheVariants as answer
use Rattle.m5_meaning.specs.Site.{Program, Site, Item}
use Rattle.m5_script.specs.Scenario.{Scenario}
use Rattle.m5_network.specs.Board.{Answered}
use Rattle.m5_network.specs.Claim.{has_seal}
use Rattle.m5_network.specs.Entries.{Deed, shown, entry_of}
use Rattle.m5_network.specs.Run.{Network, Place, Step, with_site}
use Rattle.m5_board.specs.Boards.{BoardLists, board_of}
use Rattle.m5_sites.specs.Sites.{kept}
use Rattle.m5_sites.specs.ClosedSites.{IsClosedLeft}
use Rattle.m5_replay.specs.declared.check.Made.{Made}
use Rattle.m5_replay.specs.declared.check.Made.TheVariants as made

-- the site goes on by this answer of the board
pub record IsAnswered (q : AskOf Item) (resume : AnswerOf Item → Option Site) (x : Answered Item) (board : BoardLists Item) (left : Option Site) (weight : ℕ) (act : Act) : Type 0 where
  pub told : x.reply ≢ answer.Nothing
  pub site : Site
  pub resumed : resume x.reply ≡ Some site
  pub left_is : left ≡ kept site
  pub weighs : weight ≡ site.weight
  pub act_is : act ≡ shown has_seal q x.reply
  pub board_is : board_of board ≡ x.board

abbrev pub IsAnswerMade : AskOf Item → (AnswerOf Item → Option Site) → Answered Item → BoardLists Item → Made → Type 0
IsAnswerMade q resume x b (made.Deed left weight act) = IsAnswered q resume x b left weight act
IsAnswerMade q resume x b made.Nothing = (x.reply ≡ answer.Nothing) ⊎ (resume x.reply ≡ None)

-- the deed of the place, with what the history shows of it; after it the board is this one and the code's site is what is left
pub record MakesDeed (P : Program) (S : Scenario) (N : Network) (p : Place) (board : BoardLists Item) (left : Option Site) (weight : ℕ) (act : Act) : Type 0 where
  pub deed : Deed Item
  pub site : Site
  pub step : Step P S N p deed (with_site p.session p.world site (board_of board) N)
  pub left_is : left ≡ kept site
  pub weighs : weight ≡ site.weight
  pub entry : entry_of has_seal deed ≡ record { session = p.session; world = p.world; act = act }

abbrev pub IsMade : Program → Scenario → Network → Place → BoardLists Item → Made → Type 0
IsMade P S N p b (made.Deed left weight act) = MakesDeed P S N p b left weight act
IsMade P S N p b made.Nothing = (d : Deed Item) (M : Network) → Step P S N p d M → ⊥

abbrev pub IsClosedMade : Made → Type 0
IsClosedMade (made.Deed left weight act) = IsClosedLeft left
IsClosedMade made.Nothing = Unit {0}
