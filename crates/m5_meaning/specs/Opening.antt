-- What each site begins with.
use Rattle.std.specs.Prelude.{false, List, [], ◌∷◌}
use Rattle.m5_terms.specs.declared.types.World.{World}
use Rattle.m5_terms.specs.declared.types.World.TheVariants.{Home}
use Rattle.m5_terms.specs.declared.thread.Focus.TheVariants.{Eval}
use Rattle.m5_meaning.specs.Site.{Program, Thread, Site}
use Rattle.m5_meaning.specs.Step.{thread_of}

abbrev pub opening_site : List Thread → Site
opening_site ts = record { threads = ts; cells = []; handlers = []; steps = 0; weight = 0; stopped = false }

-- each home begins main, and no other site has a thread
abbrev pub opening_threads : Program → World → List Thread
opening_threads P Home = thread_of [] (Eval Home P.main) ∷ []
opening_threads P _ = []
