-- The texts of a run beside those of its sites: each holds only bytes that a text may have.
use Rattle.std.specs.Prelude.{ℕ}
use Rattle.std.specs.List.{AllByRecursion as Each}
use Rattle.m5_terms.specs.Text.{IsText}
use Rattle.m5_terms.specs.declared.types.World.{World}
use Rattle.m5_terms.specs.declared.ask.Act.{Act}
use Rattle.m5_terms.specs.declared.ask.Act.TheVariants as act
use Rattle.m5_script.specs.Scenario.{IsPair}
use Rattle.m5_network.specs.Board.{Watch, Trigger, Event, Handler, Desk, Board, link}
use Rattle.m5_network.specs.Entries.{Deed}
use Rattle.m5_meaning.specs.Site.{Item}
use Rattle.m5_site_sound.specs.Texts.{ItemHasTexts, QueryHasTexts, ReplyHasTexts}

pub record DeedHasTexts (d : Deed Item) : Type 0 where
  pub query : QueryHasTexts d.query
  pub reply : ReplyHasTexts d.reply

-- of an entry
abbrev pub ActHasTexts : Act → Type 0
ActHasTexts (act.Say t) = IsText t
ActHasTexts (act.Set e t) = IsText e × IsText t
ActHasTexts (act.GetText e t) = IsText e × IsText t
ActHasTexts (act.On e) = IsText e
ActHasTexts (act.ReadNone k) = IsText k
ActHasTexts (act.ReadSome k t) = IsText k × IsText t
ActHasTexts (act.Write k t) = IsText k × IsText t
ActHasTexts (act.Watch k) = IsText k
ActHasTexts (act.Show t) = IsText t
ActHasTexts (act.Fire k) = IsText k
ActHasTexts (act.Event e t) = IsText e × IsText t
ActHasTexts _ = Unit {0}

-- what a session has on the board, its links aside
pub record DeskHasTexts (d : Desk Item) : Type 0 where
  pub page : Each IsPair d.texts
  pub handlers : Each (λ (h : Handler). IsText h.element) d.handlers
  pub triggers : Each (λ (t : Trigger). IsText t.key × IsText t.text) d.triggers
  pub events : Each (λ (e : Event). IsText e.element × IsText e.text) d.events

pub record BoardHasTexts (b : Board Item) : Type 0 where
  pub pairs : Each IsPair b.pairs
  pub watches : Each (λ (w : Watch). IsText w.key) b.watches
  pub desks : (s : ℕ) → DeskHasTexts (b.desks s)

-- the session's link between the two worlds
abbrev pub LinkHasTexts : Board Item → ℕ → World → World → Type 0
LinkHasTexts b s v w = Each ItemHasTexts (link (b.desks s) v w)
