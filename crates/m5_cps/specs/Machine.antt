-- A site of blocks as a machine, its moments, and what it begins with.
use Rattle.std.specs.Prelude.{◌≡◌, ◌⊎◌, Bool, true, false, List, [], ◌∷◌}
use Rattle.std.proofs.Common.{inl, inr}
use Rattle.m5_terms.specs.Machine.{Machine}
use Rattle.m5_terms.specs.Matching.{Moments}
use Rattle.m5_terms.specs.declared.ask.AskOf.{AskOf}
use Rattle.m5_terms.specs.declared.ask.AnswerOf.{AnswerOf}
use Rattle.m5_terms.specs.declared.types.World.{World}
use Rattle.m5_terms.specs.declared.types.World.TheVariants.{Home}
use Rattle.m5_cps.specs.Entries.{main_entry}
use Rattle.m5_cps.specs.Blocks.{Blocks}
use Rattle.m5_cps.specs.Values.{closed, enter, unit_value}
use Rattle.m5_cps.specs.Values as value
use Rattle.m5_cps.specs.Deeds.{Point, Ran, makes, ends}
use Rattle.m5_cps.specs.Captured.{over, Item, Thread, Site}
use Rattle.m5_cps.specs.Running.{no_values, ran, site_next}

-- any answer may come: what a pass needs to know of answers stands in its reading
abbrev pub blocks_machine : Blocks → World → Machine
blocks_machine B u = record { State = Site; Ask = AskOf Item; Answer = AnswerOf Item; next = site_next B u; lawful = λ s r. Unit {0} }

-- the objects that a run makes
abbrev pub Making : {C : Type 0} → Ran C → Type 0
Making (makes p r) = Unit {0} ⊎ Making r
Making (ends x) = ⊥

abbrev pub point_of : {C : Type 0} → (r : Ran C) → Making r → Point
point_of (makes p r) (inl i) = p
point_of (makes p r) (inr i) = point_of r i
point_of (ends x) i = absurd i

-- a site that is stopped, or not, with these threads is about to enter a block
abbrev pub is_entering : {C : Type 0} → Bool → List (value.Thread C) → Bool
is_entering false (th ∷ ths) = true
is_entering _ _ = false

-- about to enter the front thread's block, or to make an object in it
abbrev pub blocks_moments : (B : Blocks) (u : World) → Moments (blocks_machine B u)
blocks_moments B u = λ s. (is_entering s.stopped s.threads ≡ true) ⊎ Making (ran B u s)

abbrev pub opening_site : List Thread → Site
opening_site ths = record { threads = ths; cells = []; handlers = []; entered = 0; units = 0; stopped = false }

-- each home begins main's block, and no other site has a thread
abbrev pub opening_threads : Blocks → World → List Thread
opening_threads B Home = enter (closed (over main_entry 0 B.main) no_values) unit_value ∷ []
opening_threads B _ = []
