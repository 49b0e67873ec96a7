-- What a form makes of the values of its parts.
use Rattle.std.specs.Prelude.{ℕ, ◌+ℤ◌, ◌-ℤ◌, ◌*ℤ◌, int_lt, pos, if◌then◌else◌, List, ◌++◌, length}
use Rattle.std.specs.Ordering.{int_eq}
use Rattle.std.specs.Str.{bytes_eq}
use Rattle.std.specs.Fmt.{signed_decimal}
use Rattle.m5_terms.specs.TypeExpression.{same_world}
use Rattle.m5_terms.specs.TypeExpression as type
use Rattle.m5_terms.specs.declared.types.World.{World}
use Rattle.m5_terms.specs.declared.types.Op.{Op}
use Rattle.m5_terms.specs.declared.types.Op.TheVariants as op
use Rattle.m5_terms.specs.declared.form.LeafForm.TheVariants as leaf_form
use Rattle.m5_terms.specs.declared.form.UnaryForm.{UnaryForm}
use Rattle.m5_terms.specs.declared.form.UnaryForm.TheVariants as unary_form
use Rattle.m5_terms.specs.declared.form.BinaryForm.{BinaryForm}
use Rattle.m5_terms.specs.declared.form.BinaryForm.TheVariants as binary_form
use Rattle.m5_meaning.specs.Numbers.{wrapped, quotient}
use Rattle.m5_meaning.specs.Reduction.{unit_or}
use Rattle.m5_cps.specs.Values.{left, right, held, sham, pair, cons, Value, atom, wrap, join, unit_value}
use Rattle.m5_cps.specs.Units.{text_units}

-- a value, a text that is made, a deed on a cell, or nothing that the rules allow
pub data Made (C : Type 0) : Type 0 where
  gives : Value C → Made C
  makes_text : List ℕ → Made C
  makes_cell : Value C → Made C
  loads : ℕ → Made C
  stores : ℕ → Value C → Made C
  fails : Made C

module _ {C : Type 0} where
  abbrev pub first_of : Value C → Made C
  first_of (join pair a b) = gives a
  first_of _ = fails

  abbrev pub second_of : Value C → Made C
  second_of (join pair a b) = gives b
  second_of _ = fails

  abbrev pub text_of : Value C → Made C
  text_of (atom (leaf_form.Int n)) = makes_text (signed_decimal n)
  text_of _ = fails

  -- a division by zero gives unit on the left, else the quotient on the right
  abbrev pub divided : Value C → Made C
  divided (join pair (atom (leaf_form.Int m)) (atom (leaf_form.Int n))) =
      if int_eq n (pos 0) then gives (wrap (left (unit_or type.int)) unit_value)
      else gives (wrap (right (unit_or type.int)) (atom (leaf_form.Int (quotient m n))))
  divided _ = fails

  -- a deed on a cell of the site's world
  abbrev pub at_cell : World → (ℕ → Made C) → Value C → Made C
  at_cell w f (atom (leaf_form.CellAt v n)) = if same_world v w then f n else fails
  at_cell w f _ = fails

  abbrev pub made_by_one : World → UnaryForm → Value C → Made C
  made_by_one w unary_form.Fst a = first_of a
  made_by_one w unary_form.Snd a = second_of a
  made_by_one w unary_form.StrOf a = text_of a
  made_by_one w unary_form.Div a = divided a
  made_by_one w unary_form.NewCell a = makes_cell a
  made_by_one w unary_form.Load a = at_cell w loads a
  made_by_one w unary_form.Hold a = gives (wrap (held w) a)
  made_by_one w unary_form.Sham a = gives (wrap sham a)
  made_by_one w (unary_form.Inl T) a = gives (wrap (left T) a)
  made_by_one w (unary_form.Inr T) a = gives (wrap (right T) a)
  made_by_one w _ a = fails

  abbrev pub operated : Op → Value C → Value C → Made C
  operated op.Add (atom (leaf_form.Int m)) (atom (leaf_form.Int n)) = gives (atom (leaf_form.Int (wrapped (m +ℤ n))))
  operated op.Sub (atom (leaf_form.Int m)) (atom (leaf_form.Int n)) = gives (atom (leaf_form.Int (wrapped (m -ℤ n))))
  operated op.Mul (atom (leaf_form.Int m)) (atom (leaf_form.Int n)) = gives (atom (leaf_form.Int (wrapped (m *ℤ n))))
  operated op.EqInt (atom (leaf_form.Int m)) (atom (leaf_form.Int n)) = gives (atom (leaf_form.Bool (int_eq m n)))
  operated op.Less (atom (leaf_form.Int m)) (atom (leaf_form.Int n)) = gives (atom (leaf_form.Bool (int_lt m n)))
  operated op.Cat (atom (leaf_form.Str s)) (atom (leaf_form.Str t)) = makes_text (s ++ t)
  operated op.EqStr (atom (leaf_form.Str s)) (atom (leaf_form.Str t)) = gives (atom (leaf_form.Bool (bytes_eq s t)))
  operated o _ _ = fails

  abbrev pub made_by_two : World → BinaryForm → Value C → Value C → Made C
  made_by_two w binary_form.Pair a b = gives (join pair a b)
  made_by_two w binary_form.Cons a b = gives (join cons a b)
  made_by_two w binary_form.Store a b = at_cell w (λ n. stores n b) a
  made_by_two w (binary_form.Binary o) a b = operated o a b
  made_by_two w _ a b = fails

  -- what the object takes that the form makes
  abbrev pub one_units : UnaryForm → Made C → ℕ
  one_units (unary_form.Inl T) m = 3
  one_units (unary_form.Inr T) m = 3
  one_units unary_form.Div m = 3
  one_units unary_form.StrOf (makes_text t) = text_units (length t)
  one_units f m = 0

  abbrev pub two_units : BinaryForm → Made C → ℕ
  two_units binary_form.Pair m = 3
  two_units binary_form.Cons m = 4
  two_units f (makes_text t) = text_units (length t)
  two_units f m = 0
