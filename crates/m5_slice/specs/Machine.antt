-- A site of a program's blocks as a machine whose answers are typed.
use Rattle.m5_terms.specs.Machine.{asks, Machine}
use Rattle.m5_terms.specs.Answers.{IsAnswer}
use Rattle.m5_terms.specs.declared.ask.AskOf.{AskOf}
use Rattle.m5_terms.specs.declared.ask.AnswerOf.{AnswerOf}
use Rattle.m5_terms.specs.declared.types.World.{World}
use Rattle.m5_typing.specs.Context.{CellTypes}
use Rattle.m5_cps.specs.Values.{SiteNext}
use Rattle.m5_cps_typing.specs.States.{SiteFits, ReplyFits}
use Rattle.m5_flat.specs.Blocks.{Blocks}
use Rattle.m5_flat.specs.Values.{Closure, Item, Site}
use Rattle.m5_flat.specs.Running.{site_next}
use Rattle.m5_flat.specs.Fits.{no_setting}
use Rattle.m5_flat.specs.Program.{IsProgram}
use Rattle.m5_flat_typing.specs.Closures.{ClosureFits}

-- an answer comes only where the site asks, and is of a kind that the ask may get
abbrev pub IsAnswerTo : SiteNext Closure → AnswerOf Item → Type 0
IsAnswerTo (asks q resume) r = IsAnswer q r
IsAnswerTo _ r = ⊥

module _ (B : Blocks) (d : IsProgram B) (w : World) where
  -- the site is typed, by some types of cells
  pub record IsTyped (s : Site) : Type 0 where
    pub cells : CellTypes
    pub site : SiteFits (ClosureFits B d.environments) no_setting cells w s

  -- which answers may come: site and answer are typed by the same types of cells, so that a thread that comes may use the cells
  pub record IsLawful (s : Site) (r : AnswerOf Item) : Type 0 where
    pub cells : CellTypes
    pub site : SiteFits (ClosureFits B d.environments) no_setting cells w s
    pub typed : ReplyFits (ClosureFits B d.environments) no_setting cells w r
    pub fits : IsAnswerTo (site_next B w s) r

  abbrev pub typed_machine : Machine
  typed_machine = record { State = Site; Ask = AskOf Item; Answer = AnswerOf Item; next = site_next B w; lawful = IsLawful }
