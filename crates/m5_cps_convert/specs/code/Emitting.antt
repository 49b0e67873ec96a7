-- What emitting a node makes sure of: its type, and its code for whatever becomes of its value.
use Rattle.std.specs.Prelude.{◌≡◌, ℕ, Option}
use Rattle.m5_terms.specs.Expression.{Expression}
use Rattle.m5_terms.specs.Table.{entries, entered}
use Rattle.m5_terms.specs.declared.table.Binding.{Binding}
use Rattle.m5_terms.specs.declared.form.LeafForm.{LeafForm}
use Rattle.m5_terms.specs.declared.form.LeafForm.TheVariants as leaf_form
use Rattle.m5_typing.specs.Context.{Setting}
use Rattle.m5_cps.specs.Blocks.{constant}
use Rattle.m5_cps.specs.Entries.{world_of}
use Rattle.m5_cps.specs.TypeParts.{leaf_type}
use Rattle.m5_cps.specs.declared.step.Straight.TheVariants as straights
use Rattle.m5_cps_convert.specs.Scopes.{Scope}
use Rattle.m5_cps_convert.specs.Convert.{type_in, cps}
use Rattle.m5_cps_convert.specs.declared.walk.Walk.{Walk}
use Rattle.m5_cps_convert.specs.declared.walk.Known.{Known}
use Rattle.m5_cps_convert.specs.declared.walk.Around.{Around}
use Rattle.m5_cps_convert.specs.declared.walk.Goal.{Goal}
use Rattle.m5_cps_convert.specs.declared.walk.Value.{Value}
use Rattle.m5_cps_convert.specs.declared.leaves.Leaf.{Leaf}
use Rattle.m5_cps_convert.specs.code.Types.{IsAt}
use Rattle.m5_cps_convert.specs.code.Writing.{Grows, Goes, Means}
use Rattle.m5_cps_convert.specs.code.Knowing.{Knows}

-- with these entries of the variables
pub record EmitsFrom (entry : ℕ → Option Known) (old new : Walk) (at : Around) (n : ℕ) (goal : Goal) (e : Expression) (v : Value) : Type 0 where
  pub grows : Grows old new
  pub typed : (E : Setting) (Γ : Scope) → Knows old.types entry old.functions.items at E Γ → IsAt new.types v.ty (type_in E e Γ)
  pub code : (E : Setting) (Γ : Scope) → Knows old.types entry old.functions.items at E Γ → Goes old new goal v (λ κ. cps E e Γ n κ)

abbrev pub Emits : Walk → Walk → Around → ℕ → Goal → Expression → Value → Type 0
Emits old new at n goal e v = EmitsFrom (entries old.names) old new at n goal e v

-- inside a form's binders
abbrev pub EmitsWithin : Binding Known → Walk → Walk → Around → ℕ → Goal → Expression → Value → Type 0
EmitsWithin b old new at n goal e v = EmitsFrom (entered b (entries old.names)) old new at n goal e v

-- no variable
abbrev pub IsOther : LeafForm → Type 0
IsOther (leaf_form.Var x) = ⊥
IsOther (leaf_form.Valid x) = ⊥
IsOther f = Unit {0}

-- types were added, and nothing else
pub record AddsTypes (old new : Walk) : Type 0 where
  pub grows : Grows old new
  pub steps : new.steps ≡ old.steps

-- a form without parts as a constant, and its type
pub record IsLeaf (old new : Walk) (at : Around) (f : LeafForm) (l : Leaf) : Type 0 where
  pub adds : AddsTypes old new
  pub means : Means new.types (straights.Constant l.constant) (constant f)
  pub typed : (E : Setting) (Γ : Scope) → Knows old.types (entries old.names) old.functions.items at E Γ
      → IsAt new.types l.ty (leaf_type E Γ.bounds (world_of Γ.mode) f)
