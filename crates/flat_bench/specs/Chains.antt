-- Blocks in chains, over types by number: each block ends at once, or makes a closure of another one like it and enters that.
use Rattle.std.specs.Prelude.{◌≡◌, ◌⊎◌, ℕ, suc, ◌≤◌, List, [], ◌∷◌, ◌++◌, length, Some, slice_get}
use Rattle.m5_terms.specs.TypeExpression.{TypeExpression, unit}
use Rattle.m5_cps.specs.Entries as entries
use Rattle.m5_cps.specs.Entries.{of, everywhere, by_value, main_entry}
use Rattle.m5_cps.specs.Steps.{entry_of}
use Rattle.m5_cps.specs.declared.entry.Mode.{Mode}
use Rattle.m5_cps.specs.declared.entry.Argument.{Argument}
use Rattle.m5_cps.specs.declared.entry.Entry.TheVariants.{ByValue}
use Rattle.m5_cps.specs.declared.step.Ending.TheVariants.{Go, Done}
use Rattle.m5_flat.specs.declared.step.Step.{Step}
use Rattle.m5_flat.specs.declared.step.Step.TheVariants.{Closure, Ends}
use Rattle.m5_flat.specs.declared.label.Kind.{Kind}
use Rattle.m5_flat.specs.declared.label.Label.{Label}
use Rattle.flat_bench.specs.declared.chains.Built.{Built}

-- a block more, whose steps are the last
abbrev pub with_block : Built → List Step → Label → Built
with_block b ss l = record { steps = b.steps ++ ss; labels = b.labels ++ record l { place = length b.steps } ∷ [] }

-- over at most one thing it ends at once
pub record EndsAtOnce (b : Built) (l : Label) : Type 0 where
  pub few : length l.environment ≤ 1
  pub done : slice_get b.steps l.place ≡ Some (Ends Done)

-- over one thing it makes a closure of a block like it, over the same thing, and enters that with its own argument
pub record EntersAnother (b : Built) (l : Label) : Type 0 where
  pub held : Kind
  pub environment : l.environment ≡ held ∷ []
  pub next : ℕ
  pub block : Label
  pub at : slice_get b.labels next ≡ Some block
  pub same_entry : block.entry ≡ l.entry
  pub same_environment : block.environment ≡ l.environment
  pub closure : slice_get b.steps l.place ≡ Some (Closure (0 ∷ []) next (suc l.place))
  pub enters : slice_get b.steps (suc l.place) ≡ Some (Ends (Go 3 2))

-- each is entered, and not called
pub record IsChained (b : Built) (l : Label) : Type 0 where
  pub mode : Mode
  pub argument : Argument
  pub entry : l.entry ≡ ByValue mode argument
  pub code : EndsAtOnce b l ⊎ EntersAnother b l

-- a label whose block is entered so, takes nothing and ends at once
pub record IsBare (types : List TypeExpression) (b : Built) (i : ℕ) (y : entries.Entry) : Type 0 where
  pub label : Label
  pub at : slice_get b.labels i ≡ Some label
  pub entry : entry_of types label.entry ≡ y
  pub environment : label.environment ≡ []
  pub done : slice_get b.steps label.place ≡ Some (Ends Done)

-- label 0 ends a thread, label 1 begins main, and the others are over one thing
pub record AreChains (types : List TypeExpression) (b : Built) : Type 0 where
  pub finish : IsBare types b 0 (by_value everywhere (of unit))
  pub main : IsBare types b 1 main_entry
  pub chained : (i : ℕ) (l : Label) → slice_get b.labels i ≡ Some l → IsChained b l
  pub held : (i : ℕ) (l : Label) → 2 ≤ i → slice_get b.labels i ≡ Some l → length l.environment ≡ 1
