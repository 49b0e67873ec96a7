-- What is known of the bodies that begin at steps.
use Rattle.std.specs.Prelude.{◌≡◌, ℕ, ◌+◌, ◌-◌, ◌<◌, ◌≤◌, List, length, drop, Some, None, Option, Bool, true, false, slice_get, slice_set, ◌==◌, ◌&&◌, nat_le, nat_lt, if◌then◌else◌}
use Rattle.m5_machine.specs.declared.link.Shape.{Shape}
use Rattle.m5_machine.specs.declared.step.Step.{Step}
use Rattle.m5_machine.specs.declared.step.Step.TheVariants as steps
use Rattle.m5_machine.specs.Body.{bodies, fills, depth}
use Rattle.m5_machine.specs.Blocks.{first_or_done, all_but_first}

pub record IsShape (ss : List Step) (at : ℕ) (shape : Shape) : Type 0 where
  pub body : 0 < length (bodies (drop at ss))
  pub behind : at < shape.after
  pub within : shape.after ≤ length ss
  pub rest : bodies (drop shape.after ss) ≡ all_but_first (bodies (drop at ss))
  pub fills : shape.fills ≡ fills (first_or_done (bodies (drop at ss)))
  pub depth : shape.depth ≡ depth (first_or_done (bodies (drop at ss)))

-- the shapes of the last steps, the last one's first
pub record HasShapes (ss : List Step) (shapes : List Shape) : Type 0 where
  pub each : (m : ℕ) (s : Shape) → slice_get shapes m ≡ Some s → IsShape ss (length ss - 1 - m) s

-- the steps end before a body does
pub record IsOpen (ss : List Step) : Type 0 where
  pub at : ℕ
  pub there : at < length ss
  pub none : length (bodies (drop at ss)) ≡ 0

-- a step with the place of its second body set
abbrev pub with_place : Step → ℕ → Step
with_place (steps.Fill i) place = steps.Fill i
with_place (steps.If slot old) place = steps.If slot place
with_place (steps.Go closure value) place = steps.Go closure value
with_place (steps.Ask primitive argument next) place = steps.Ask primitive argument next
with_place (steps.Send world closure value) place = steps.Send world closure value
with_place steps.Done place = steps.Done

-- the step there, with that place
abbrev pub SetsPlace : List Step → ℕ → ℕ → List Step → Type 0
SetsPlace old at place new =
    (s : Step) → slice_get old at ≡ Some s → new ≡ slice_set old at (with_place s place)

-- each `If` names the place of its second body
pub record PlacesSet (old new : List Step) : Type 0 where
  pub second : (at slot place : ℕ) → at + 1 < length old →
      slice_get new at ≡ Some (steps.If slot place) → bodies (drop place old) ≡ all_but_first (bodies (drop (at + 1) old))

-- a body that a block may have
abbrev pub shape_fits : Option Shape → Bool
shape_fits None = false
shape_fits (Some shape) = nat_le shape.fills 65534 && nat_le shape.depth 1000

abbrev pub shape_from : List Shape → ℕ → Option Shape
shape_from shapes start =
    if nat_lt start (length shapes) then slice_get shapes (length shapes - 1 - start) else None

-- a block may begin there, or the number stands for no block
abbrev pub start_fits : List Shape → ℕ → Bool
start_fits shapes start = if start == 4294967295 then true else shape_fits (shape_from shapes start)
