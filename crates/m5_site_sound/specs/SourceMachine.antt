-- A program's site as a machine: what it does next, and which answers may come where it asks.
use Rattle.std.specs.Prelude.{length}
use Rattle.m5_terms.specs.declared.types.World.{World}
use Rattle.m5_typing.specs.Context.{CellTypes}
use Rattle.m5_terms.specs.Machine.{asks, Machine}
use Rattle.m5_terms.specs.declared.ask.AskOf.{AskOf}
use Rattle.m5_terms.specs.declared.ask.AnswerOf.{AnswerOf}
use Rattle.m5_meaning.specs.Site.{Program, Site, Item}
use Rattle.m5_meaning.specs.Step.{SiteNext, site_next}
use Rattle.m5_site_sound.specs.Settings.{setting}
use Rattle.m5_terms.specs.Answers.{IsAnswer, NamesHandlers}
use Rattle.m5_site_sound.specs.Sites.{SiteTyped, ReplyTyped}

-- an answer comes only where the site asks, and is of a kind that the ask may get
abbrev pub IsAnswerTo : SiteNext → AnswerOf Item → Type 0
IsAnswerTo (asks q resume) r = IsAnswer q r
IsAnswerTo _ r = ⊥

-- which answers may come: site and answer are typed by the same types of cells, so that a thread that comes may use the cells
pub record IsLawful (P : Program) (w : World) (s : Site) (r : AnswerOf Item) : Type 0 where
  pub cells : CellTypes
  pub site : SiteTyped (setting P cells) w s
  pub typed : ReplyTyped (setting P cells) w r
  pub fits : IsAnswerTo (site_next P w s) r
  pub numbers : NamesHandlers (length s.handlers) r

-- a site at w by the meaning
abbrev pub source_machine : Program → World → Machine
source_machine P w = record {
  State = Site;
  Ask = AskOf Item;
  Answer = AnswerOf Item;
  next = site_next P w;
  lawful = IsLawful P w;
}
