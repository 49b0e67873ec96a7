-- A script that has what an empty script has is the empty one's.
use Rattle.std.proofs.Common.{◌≡◌, List, [], ◌∷◌, length, refl, arith}
use Rattle.m5_script.specs.Scenario.{Scenario, silent}

nothing : {A : Type 0} (xs : List A) → length xs ≡ 0 → xs ≡ []
nothing [] h = refl
nothing (x ∷ xs) h = absurd (omega (arith, h))

-- by its numbers, and by how much stands in its lists
pub is_silent_by : (s : Scenario) → s.sessions ≡ 1 → s.steps ≡ 50000 → s.region ≡ 65536 → length s.pairs ≡ 0 → length s.events ≡ 0 → length s.raws ≡ 0 → length s.order ≡ 0 → s ≡ silent
is_silent_by s a b c d e f g i = record {
  sessions = a i;
  steps = b i;
  region = c i;
  pairs = nothing s.pairs d i;
  events = nothing s.events e i;
  raws = nothing s.raws f i;
  order = nothing s.order g i;
}
