-- Values, threads and sites of blocks under labels: those of continuation-passing style, but for what a closure is.
use Rattle.std.specs.Prelude.{ℕ, zero, suc, ◌+◌, List, slice_get, Option, Some, None}
use Rattle.m5_cps.specs.Values as value
use Rattle.m5_cps.specs.Values.{atom, wrap, join, closed, unit_value}
use Rattle.m5_cps.specs.Units.{leaf_units, wrap_units, join_units, closure_units}

-- beside the values that it has taken a closure has its block's label, and how many they are
pub data Closure : Type 0 where
  under : ℕ → ℕ → Closure

abbrev pub Value : Type 0
Value = value.Value Closure

abbrev pub Thread : Type 0
Thread = value.Thread Closure

abbrev pub Item : Type 0
Item = value.Item Closure

abbrev pub Site : Type 0
Site = value.Site Closure

-- an environment without values, and one of the values of these slots in their order; past its end it has unit
abbrev pub no_values : ℕ → Value
no_values j = unit_value

abbrev pub value_of : Option ℕ → (ℕ → Value) → Value
value_of None ρ = unit_value
value_of (Some l) ρ = ρ l

abbrev pub taken : List ℕ → (ℕ → Value) → ℕ → Value
taken ls ρ j = value_of (slice_get ls j) ρ

abbrev pub sum_before : (ℕ → ℕ) → ℕ → ℕ
sum_before f zero = 0
sum_before f (suc n) = sum_before f n + f n

-- the units of a value counted as a tree
abbrev pub value_units : Value → ℕ
value_units (atom f) = leaf_units f
value_units (wrap f a) = wrap_units f + value_units a
value_units (join f a b) = join_units f + (value_units a + value_units b)
value_units (closed (under i k) ρ) = closure_units 0 + sum_before (λ j. 1 + value_units (ρ j)) k
