-- What stands at the head of a value and of the one that it is read back to.
use Rattle.std.proofs.Common.{ℕ, inl, inr, refl, sym, subst}
use Rattle.m5_terms.specs.TypeExpression.{TypeExpression}
use Rattle.m5_terms.specs.Expression.{Expression, leaf, unary, binary}
use Rattle.m5_terms.specs.declared.types.World.{World}
use Rattle.m5_terms.specs.declared.form.LeafForm.{LeafForm}
use Rattle.m5_terms.specs.declared.form.UnaryForm.TheVariants as unary_form
use Rattle.m5_terms.specs.declared.form.BinaryForm.TheVariants as binary_form
use Rattle.m5_meaning.specs.Site.{Program}
use Rattle.m5_cps.specs.Entries.{Mode, by_value, by_call}
use Rattle.m5_cps.specs.Blocks.{Code}
use Rattle.m5_cps.specs.Values.{Wrap, Join, atom, wrap, join, closed, enter, put}
use Rattle.m5_cps.specs.Values as value
use Rattle.m5_cps.specs.Captured.{over, Value}
use Rattle.m5_cps_convert.specs.Slots.{SVal}
use Rattle.m5_cps_convert.specs.Reading.{IsAtom, Reads}

-- the two heads, with what is known of the parts
pub data Head (P : Program) : Value → Expression → Type 0 where
  atoms : (f : LeafForm) → IsAtom f → Head P (atom f) (leaf f)
  lefts : (T : TypeExpression) (a : Value) (x : Expression) → Reads P a (SVal x) → Head P (wrap (value.left T) a) (unary (unary_form.Inl T) x)
  rights : (T : TypeExpression) (a : Value) (x : Expression) → Reads P a (SVal x) → Head P (wrap (value.right T) a) (unary (unary_form.Inr T) x)
  helds : (w : World) (a : Value) (x : Expression) → Reads P a (SVal x) → Head P (wrap (value.held w) a) (unary (unary_form.Held w) x)
  shams : (a : Value) (x : Expression) → Reads P a (SVal x) → Head P (wrap value.sham a) (unary unary_form.Sham x)
  pairs : (a b : Value) (x y : Expression) → Reads P a (SVal x) → Reads P b (SVal y) → Head P (join value.pair a b) (binary binary_form.Pair x y)
  conses : (a b : Value) (x y : Expression) → Reads P a (SVal x) → Reads P b (SVal y) → Head P (join value.cons a b) (binary binary_form.Cons x y)
  fns : (m : Mode) (A B : TypeExpression) (n : ℕ) (c : Code) (ρ : ℕ → Value) (x : ℕ) (T : TypeExpression) (e : Expression) → Reads P (closed (over (by_call m A B) n c) ρ) (SVal (unary (unary_form.Fn x T) e)) →
      Head P (closed (over (by_call m A B) n c) ρ) (unary (unary_form.Fn x T) e)
  recs : (m : Mode) (A B : TypeExpression) (n : ℕ) (c : Code) (ρ : ℕ → Value) (f x : ℕ) (T R : TypeExpression) (e : Expression) → Reads P (closed (over (by_call m A B) n c) ρ) (SVal (unary (unary_form.Rec f x T R) e)) →
      Head P (closed (over (by_call m A B) n c) ρ) (unary (unary_form.Rec f x T R) e)

pub head_of : (P : Program) (c : Value) (v : Expression) → Reads P c (SVal v) → Head P c v
head_of P (atom f) v r = subst (Head P (atom f)) (sym r.0) (atoms f r.1)
head_of P (wrap (value.left T) a) v r = subst (Head P (wrap (value.left T) a)) (sym r.1) (lefts T a r.0 r.2)
head_of P (wrap (value.right T) a) v r = subst (Head P (wrap (value.right T) a)) (sym r.1) (rights T a r.0 r.2)
head_of P (wrap (value.held w) a) v r = subst (Head P (wrap (value.held w) a)) (sym r.1) (helds w a r.0 r.2)
head_of P (wrap value.sham a) v r = subst (Head P (wrap value.sham a)) (sym r.1) (shams a r.0 r.2)
head_of P (join value.pair a b) v r = subst (Head P (join value.pair a b)) (sym r.2) (pairs a b r.0 r.1 r.3 r.4)
head_of P (join value.cons a b) v r = subst (Head P (join value.cons a b)) (sym r.2) (conses a b r.0 r.1 r.3 r.4)
head_of P (closed (over (by_value m T) n c) ρ) v r = absurd r
head_of P (closed (over (by_call m A B) n c) ρ) v (inl r) = subst (Head P (closed (over (by_call m A B) n c) ρ)) (sym r.is) (fns m A B n c ρ r.x r.parameter _ (subst (λ y. Reads P (closed (over (by_call m A B) n c) ρ) (SVal y)) r.is (inl r)))
head_of P (closed (over (by_call m A B) n c) ρ) v (inr r) = subst (Head P (closed (over (by_call m A B) n c) ρ)) (sym r.is) (recs m A B n c ρ r.f r.x r.parameter r.result _ (subst (λ y. Reads P (closed (over (by_call m A B) n c) ρ) (SVal y)) r.is (inr r)))

pub reads_of : {P : Program} {c : Value} {v : Expression} → Head P c v → Reads P c (SVal v)
reads_of (atoms f i) = (refl, i)
reads_of (lefts T a x r) = (x, refl, r)
reads_of (rights T a x r) = (x, refl, r)
reads_of (helds w a x r) = (x, refl, r)
reads_of (shams a x r) = (x, refl, r)
reads_of (pairs a b x y ra rb) = (x, y, refl, ra, rb)
reads_of (conses a b x y ra rb) = (x, y, refl, ra, rb)
reads_of (fns m A B n c ρ x T e r) = r
reads_of (recs m A B n c ρ f x T R e r) = r
