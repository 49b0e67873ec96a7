-- The steps that a site has in a reference run.
use Rattle.std.specs.Prelude.{min}
use Rattle.m5_script.specs.Scenario.{Scenario}

-- the lesser of the script's steps and 5,000
abbrev pub with_lesser_budget : Scenario → Scenario
with_lesser_budget S = record S { steps = min S.steps 5000 }
