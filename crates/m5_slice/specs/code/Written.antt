-- The steps and labels of a slice.
use Rattle.std.specs.Prelude.{ℕ, if◌then◌else◌, List, map, ◌++◌, [], ◌∷◌}
use Rattle.m5_terms.specs.TypeExpression.{TypeExpression, same_world}
use Rattle.m5_terms.specs.Primitives.{primitive_world}
use Rattle.m5_terms.specs.declared.types.World.{World}
use Rattle.m5_cps.specs.Entries.{world_of, entry_mode}
use Rattle.m5_cps.specs.Steps.{entry_of}
use Rattle.m5_cps.specs.declared.step.Ending.{Ending}
use Rattle.m5_cps.specs.declared.step.Ending.TheVariants as endings
use Rattle.m5_flat.specs.declared.label.Label.{Label}
use Rattle.m5_flat.specs.declared.step.Step.{Step}
use Rattle.m5_flat.specs.declared.step.Step.TheVariants as steps
use Rattle.m5_dictionary.specs.Dictionaries.{stands_at}

abbrev pub written_ending : World → Ending → Ending
written_ending w (endings.Ask p x k) = if same_world (primitive_world p) w then endings.Ask p x k else endings.Done
written_ending w e = e

abbrev pub written_step : World → Step → Step
written_step w (steps.Ends e) = steps.Ends (written_ending w e)
written_step w s = s

-- behind the steps stands the end of the blocks that are left out
abbrev pub written_steps : World → List Step → List Step
written_steps w ss = map (written_step w) ss ++ steps.Ends endings.Done ∷ []

abbrev pub written_label : List TypeExpression → World → ℕ → Label → Label
written_label types w end l =
    if stands_at (world_of (entry_mode (entry_of types l.entry))) w then l else record l { place = end }
