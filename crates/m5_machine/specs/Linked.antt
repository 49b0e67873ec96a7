-- Steps before the places of second bodies are set.
use Rattle.std.specs.Prelude.{◌≡◌, ℕ, ◌<◌, List, map, length, drop, Some}
use Rattle.m5_machine.specs.declared.step.Step.{Step}
use Rattle.m5_machine.specs.declared.step.Step.TheVariants as steps
use Rattle.m5_machine.specs.Body.{bodies}
use Rattle.m5_machine.specs.Blocks.{Flat, start_of, BeginsBlock}

-- a step without the place of its second body
abbrev pub erased : Step → Step
erased (steps.Fill i) = steps.Fill i
erased (steps.If slot place) = steps.If slot 0
erased (steps.Go closure value) = steps.Go closure value
erased (steps.Ask primitive argument next) = steps.Ask primitive argument next
erased (steps.Send world closure value) = steps.Send world closure value
erased steps.Done = steps.Done

-- a body begins at each step, and a block at each start
pub record CanLink (starts : List ℕ) (ss : List Step) : Type 0 where
  pub complete : (at : ℕ) → at < length ss → 0 < length (bodies (drop at ss))
  pub begin : (label start : ℕ) →
      start_of (record { starts = starts; steps = ss }) label ≡ Some start → BeginsBlock (record { starts = starts; steps = ss }) start
  pub small : length ss < 4294967295

-- blocks with these starts, whose steps are these but for the places of second bodies
pub record IsLinked (starts : List ℕ) (ss : List Step) (code : Flat) : Type 0 where
  pub starts_are : code.starts ≡ starts
  pub steps_are : map erased code.steps ≡ map erased ss
