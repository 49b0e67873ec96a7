-- The sites of a session as they open.
use Rattle.std.specs.Prelude.{Some}
use Rattle.m5_terms.specs.PerWorld.{each}
use Rattle.m5_meaning.specs.Site.{Program}
use Rattle.m5_network.specs.Opening.{opening_site, opening_threads}
use Rattle.m5_sites.specs.Sites.{SessionSites}

abbrev pub sites_opened : Program → SessionSites
sites_opened P = each (λ w. Some (opening_site (opening_threads P w)))
