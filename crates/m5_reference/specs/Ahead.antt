-- The code's site beside the definition's.
use Rattle.std.specs.Prelude.{◌≡◌, ℕ, true, false, Option, Some, None}
use Rattle.m5_terms.specs.declared.types.World.{World}
use Rattle.m5_meaning.specs.Site.{Program, Site}
use Rattle.m5_script.specs.Scenario.{Scenario}
use Rattle.m5_network.specs.FirstMoment.{ComesFree}

-- gone where the definition's has stopped, else ahead of it by local steps before which no stop is licensed
abbrev pub IsAhead : Program → Scenario → World → Site → Option Site → Type 0
IsAhead P S w x None = x.stopped ≡ true
IsAhead P S w x (Some y) = (x.stopped ≡ false) × ((n : ℕ) × ComesFree P S w n x y)
