-- Which values of a region stand for values of blocks under labels.
use Rattle.std.specs.Prelude.{◌≡◌, ℕ, true, false, pos, List, [], ◌∷◌, length, Some, slice_get, FitsSigned}
use Rattle.std.specs.Int.{w64}
use Rattle.m5_terms.specs.declared.form.LeafForm.{LeafForm}
use Rattle.m5_terms.specs.declared.form.LeafForm.TheVariants as leaf_form
use Rattle.m5_region.specs.declared.value.Value.{Value}
use Rattle.m5_region.specs.declared.value.Value.TheVariants as values
use Rattle.m5_region.specs.declared.queue.Ready.{Ready}
use Rattle.m5_region.specs.Region.{Object, text_of, fields_of}
use Rattle.m5_dictionary.specs.Dictionaries.{code_of_world}
use Rattle.m5_cps.specs.Values.{left, right, held, sham, pair, cons, atom, wrap, join, closed, enter, call}
use Rattle.m5_flat.specs.Values.{under, Thread}
use Rattle.m5_flat.specs.Values as flat

module _ (os : List Object) where
  abbrev pub IsTextOf : List ℕ → Value → Type 0
  IsTextOf t (values.Text r) = text_of os r.0 ≡ Some t
  IsTextOf t _ = ⊥

  abbrev pub IsArrayOf : List Value → Value → Type 0
  IsArrayOf vs (values.Array r) = fields_of os r.0 ≡ Some vs
  IsArrayOf vs _ = ⊥

  -- an address and a cell are numbers, and `nil` is an array of a tag; a function is a closure, so its name stands for none
  abbrev pub LeafIs : LeafForm → Value → Type 0
  LeafIs leaf_form.Unit v = v ≡ values.Null
  LeafIs (leaf_form.Bool b) v = v ≡ values.Bool b
  LeafIs (leaf_form.Int n) v = (v ≡ values.Int n) × FitsSigned w64 n
  LeafIs (leaf_form.Str t) v = IsTextOf t v
  LeafIs (leaf_form.Addr w) v = v ≡ values.Int (pos (code_of_world w))
  LeafIs (leaf_form.Nil A) v = IsArrayOf (values.Bool false ∷ []) v
  LeafIs (leaf_form.CellAt w n) v = v ≡ values.Int (pos n)
  LeafIs _ v = ⊥

  -- an injection has its tag and its part, a pair its parts, and a cons a tag before them; what is held or in a sham stands for
  -- itself; a closure has its label and then what it has taken
  abbrev pub Represents : flat.Value → Value → Type 0
  Represents (atom f) v = LeafIs f v
  Represents (wrap (left T) a) v = (x : Value) × IsArrayOf (values.Bool false ∷ x ∷ []) v × Represents a x
  Represents (wrap (right T) a) v = (x : Value) × IsArrayOf (values.Bool true ∷ x ∷ []) v × Represents a x
  Represents (wrap (held w) a) v = Represents a v
  Represents (wrap sham a) v = Represents a v
  Represents (join pair a b) v = (x y : Value) × IsArrayOf (x ∷ y ∷ []) v × Represents a x × Represents b y
  Represents (join cons a b) v = (x y : Value) × IsArrayOf (values.Bool true ∷ x ∷ y ∷ []) v × Represents a x × Represents b y
  Represents (closed (under i k) σ) v =
      (xs : List Value) × IsArrayOf (values.Int (pos i) ∷ xs) v × (length xs ≡ k)
      × ((j : ℕ) (x : Value) → slice_get xs j ≡ Some x → Represents (σ j) x)

  -- a function is called with an array of the argument and the continuation
  abbrev pub IsThread : Ready → Thread → Type 0
  IsThread r (enter k x) = Represents k r.code × Represents x r.argument
  IsThread r (call f x k) = (a j : Value) × Represents f r.code × IsArrayOf (a ∷ j ∷ []) r.argument × Represents x a × Represents k j
