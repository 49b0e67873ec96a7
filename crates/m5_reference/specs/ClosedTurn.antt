-- What turns leave, without free variables.
use Rattle.m5_source_site.specs.ClosedSite.{IsClosedSite}
use Rattle.m5_sites.specs.ClosedSites.{IsClosedLeft}
use Rattle.m5_reference.specs.declared.turn.Turned.{Turned}
use Rattle.m5_reference.specs.declared.turn.Turned.TheVariants as turned

abbrev pub IsClosedTurned : Turned → Type 0
IsClosedTurned (turned.Acts left act) = IsClosedLeft left
IsClosedTurned (turned.Rests x) = IsClosedSite x
IsClosedTurned turned.Wrong = Unit {0}
