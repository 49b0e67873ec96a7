-- The laws of typed sites.
use Rattle.std.specs.Prelude.{◌≢◌}
use Rattle.m5_terms.specs.Machine.{IsSound}
use Rattle.m5_terms.specs.declared.types.World.{World}
use Rattle.m5_terms.specs.declared.types.World.TheVariants.{Any}
use Rattle.m5_typing.specs.Context.{CellTypes}
use Rattle.m5_typing.specs.Program.{IsProgram}
use Rattle.m5_meaning.specs.Site.{Program, Site}
use Rattle.m5_meaning.specs.Step.{site_next}
use Rattle.m5_site_sound.specs.Settings.{setting}
use Rattle.m5_site_sound.specs.Sites.{SiteTyped, NextTyped}
use Rattle.m5_site_sound.specs.SourceMachine.{source_machine}

-- what a typed site does next is a step to a typed site or a typed ask
abbrev pub TypedSitesGoOn : Type 0
TypedSitesGoOn = (P : Program) (L : CellTypes) (u : World) (x : Site) → IsProgram P → u ≢ Any → SiteTyped (setting P L) u x → NextTyped (setting P L) u (site_next P u x)

-- and no lawful answers ever lead it to where the rules allow nothing
abbrev pub TypedSitesAreSound : Type 0
TypedSitesAreSound = (P : Program) (L : CellTypes) (w : World) (s : Site) → IsProgram P → w ≢ Any → SiteTyped (setting P L) w s → IsSound (source_machine P w) s
