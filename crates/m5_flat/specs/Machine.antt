-- A site of blocks under labels as a machine, its moments, and what it begins with.
use Rattle.std.specs.Prelude.{◌≡◌, ◌⊎◌, true, false, List, [], ◌∷◌}
use Rattle.m5_terms.specs.Machine.{Machine}
use Rattle.m5_terms.specs.Matching.{Moments}
use Rattle.m5_terms.specs.declared.ask.AskOf.{AskOf}
use Rattle.m5_terms.specs.declared.ask.AnswerOf.{AnswerOf}
use Rattle.m5_terms.specs.declared.types.World.{World}
use Rattle.m5_terms.specs.declared.types.World.TheVariants.{Home}
use Rattle.m5_cps.specs.Values.{closed, enter, unit_value}
use Rattle.m5_cps.specs.Machine.{Making, is_entering}
use Rattle.m5_flat.specs.Blocks.{Blocks}
use Rattle.m5_flat.specs.Values.{under, Item, Thread, Site, no_values}
use Rattle.m5_flat.specs.Running.{ran, site_next}

-- any answer may come: what a pass needs to know of answers stands in its reading
abbrev pub flat_machine : Blocks → World → Machine
flat_machine B u = record { State = Site; Ask = AskOf Item; Answer = AnswerOf Item; next = site_next B u; lawful = λ s r. Unit {0} }

-- about to enter the front thread's block, or to make an object in it
abbrev pub flat_moments : (B : Blocks) (u : World) → Moments (flat_machine B u)
flat_moments B u = λ s. (is_entering s.stopped s.threads ≡ true) ⊎ Making (ran B u s)

abbrev pub opening_site : List Thread → Site
opening_site ths = record { threads = ths; cells = []; handlers = []; entered = 0; units = 0; stopped = false }

-- each home begins main's block, and no other site has a thread
abbrev pub opening_threads : Blocks → World → List Thread
opening_threads B Home = enter (closed (under B.main 0) no_values) unit_value ∷ []
opening_threads B _ = []
