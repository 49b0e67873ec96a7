-- Which values of blocks under labels are of a type id.
use Rattle.std.specs.Prelude.{◌≡◌, ℕ, Option, Some, length, slice_get}
use Rattle.m5_terms.specs.Text.{IsText}
use Rattle.m5_terms.specs.declared.form.LeafForm.{LeafForm}
use Rattle.m5_terms.specs.declared.form.LeafForm.TheVariants as leaf_form
use Rattle.m5_dictionary.specs.declared.line.TypeLine.{TypeLine}
use Rattle.m5_dictionary.specs.declared.line.TypeLine.TheVariants as lines
use Rattle.m5_dictionary.specs.Dictionaries.{Entrance, Dictionaries}
use Rattle.m5_cps.specs.Values.{left, right, held, pair, cons, atom, wrap, join, closed}
use Rattle.m5_cps.specs.Values as value
use Rattle.m5_flat.specs.Values.{under, Value}

-- the line of a value without parts; a primitive is a function by its name
abbrev pub LeafIsOf : Option TypeLine → LeafForm → Type 0
LeafIsOf line leaf_form.Unit = line ≡ Some lines.Unit
LeafIsOf line (leaf_form.Bool b) = line ≡ Some lines.Bool
LeafIsOf line (leaf_form.Int n) = line ≡ Some lines.Int
LeafIsOf line (leaf_form.Str t) = (line ≡ Some lines.Text) × IsText t
LeafIsOf line (leaf_form.Addr w) = line ≡ Some (lines.Addr w)
LeafIsOf line (leaf_form.Nil A) = (i : ℕ) × (line ≡ Some (lines.List i))
LeafIsOf line (leaf_form.CellAt w n) = line ≡ Some lines.Cell
LeafIsOf line (leaf_form.Extern p) = (i : ℕ) × (line ≡ Some (lines.Fun i))
LeafIsOf line _ = ⊥

-- a closure of the label is of the id of functions of the label's argument, and has taken as many values as the label's environment
-- has ids; each value is of its place's id
pub record ClosureIsOf (d : Dictionaries) (i l k : ℕ) (V : ℕ → ℕ → Type 0) : Type 0 where
  pub entrance : Entrance
  pub at : slice_get d.labels l ≡ Some entrance
  pub line : slice_get d.types i ≡ Some (lines.Fun entrance.argument)
  pub count : k ≡ length entrance.environment
  pub environment : (j id : ℕ) → slice_get entrance.environment j ≡ Some id → V j id

-- the value is of the type id; what is held and what is in a sham are of the id themselves
abbrev pub IsOf : Dictionaries → ℕ → Value → Type 0
IsOf d i (atom f) = LeafIsOf (slice_get d.types i) f
IsOf d i (wrap (left X) a) = (j k : ℕ) × (slice_get d.types i ≡ Some (lines.Sum j k)) × IsOf d j a
IsOf d i (wrap (right X) a) = (j k : ℕ) × (slice_get d.types i ≡ Some (lines.Sum j k)) × IsOf d k a
IsOf d i (wrap (held w) a) = IsOf d i a
IsOf d i (wrap value.sham a) = IsOf d i a
IsOf d i (join pair a b) = (j k : ℕ) × (slice_get d.types i ≡ Some (lines.Pair j k)) × IsOf d j a × IsOf d k b
IsOf d i (join cons a b) = (j : ℕ) × (slice_get d.types i ≡ Some (lines.List j)) × IsOf d j a × IsOf d i b
IsOf d i (closed (under l k) ρ) = ClosureIsOf d i l k (λ j id. IsOf d id (ρ j))
