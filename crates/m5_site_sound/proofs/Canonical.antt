-- Canonical forms: what a closed value of each type is, and what its parts are.
use Rattle.std.proofs.Common.{◌≡◌, ℕ, ℤ, Bool, Some, List, refl, sym, subst}
use Rattle.m5_terms.specs.Expression.{Expression, leaf, unary, binary, ternary}
use Rattle.m5_terms.specs.TypeExpression.{TypeExpression, unit, bool, int, string, address, product, sum, function, list, cell, sham, at}
use Rattle.m5_terms.specs.Text.{IsText}
use Rattle.m5_terms.specs.Primitives.{primitive_world, primitive_type}
use Rattle.m5_terms.specs.declared.types.World.{World}
use Rattle.m5_terms.specs.declared.types.World.TheVariants.{Any}
use Rattle.m5_terms.specs.declared.types.Primitive.{Primitive}
use Rattle.m5_terms.specs.declared.types.Primitive.TheVariants as primitive
use Rattle.m5_terms.specs.declared.form.LeafForm.TheVariants as leaf_form
use Rattle.m5_terms.specs.declared.form.UnaryForm.TheVariants as unary_form
use Rattle.m5_terms.specs.declared.form.BinaryForm.TheVariants as binary_form
use Rattle.m5_typing.specs.Value.{is_value}
use Rattle.m5_typing.specs.Context.{Setting, local, nothing, with, type_at, IsKnownAt}
use Rattle.m5_typing.specs.Typing.{Typed}
use Rattle.m5_typing.proofs.Mobile.{both-left, both-right}
use Rattle.m5_site_sound.specs.Sites.{ValueTyped}

-- the closed values of a type at u
pub data Canonical (E : Setting) (u : World) : Expression → TypeExpression → Type 0 where
  a_unit : Canonical E u (leaf leaf_form.Unit) unit
  a_bool : (b : Bool) → Canonical E u (leaf (leaf_form.Bool b)) bool
  an_int : (n : ℤ) → Canonical E u (leaf (leaf_form.Int n)) int
  a_text : (s : List ℕ) → IsText s → Canonical E u (leaf (leaf_form.Str s)) string
  an_address : (w : World) → Canonical E u (leaf (leaf_form.Addr w)) (address w)
  a_nil : (T A : TypeExpression) → Canonical E u (leaf (leaf_form.Nil T)) (list A)
  a_cell : (w : World) (n : ℕ) (A : TypeExpression) → u ≡ w → type_at (E.cells u) n ≡ Some A → Canonical E u (leaf (leaf_form.CellAt w n)) (cell A)
  an_extern : (p : Primitive) (A B : TypeExpression) → u ≡ primitive_world p → function A B ≡ primitive_type p → Canonical E u (leaf (leaf_form.Extern p)) (function A B)
  a_declared : (f : ℕ) (A B : TypeExpression) → IsKnownAt (E.functions f) u (function A B) → Canonical E u (leaf (leaf_form.Glob f)) (function A B)
  a_function : (x : ℕ) (C : TypeExpression) (b : Expression) (A B : TypeExpression) → C ≡ A → Typed E (with x (Some (local u A)) nothing) u b B → Canonical E u (unary (unary_form.Fn x C) b) (function A B)
  a_recursive : (f x : ℕ) (C D : TypeExpression) (b : Expression) (A B : TypeExpression) → Typed E nothing u (unary (unary_form.Rec f x C D) b) (function A B) →
      Typed E (with x (Some (local u A)) (with f (Some (local u (function A B))) nothing)) u b B → Canonical E u (unary (unary_form.Rec f x C D) b) (function A B)
  a_pair : (a b : Expression) (A B : TypeExpression) → ValueTyped E u a A → ValueTyped E u b B → Canonical E u (binary binary_form.Pair a b) (product A B)
  a_cons : (h t : Expression) (A : TypeExpression) → ValueTyped E u h A → ValueTyped E u t (list A) → Canonical E u (binary binary_form.Cons h t) (list A)
  a_left : (T : TypeExpression) (a : Expression) (A B : TypeExpression) → ValueTyped E u a A → Canonical E u (unary (unary_form.Inl T) a) (sum A B)
  a_right : (T : TypeExpression) (b : Expression) (A B : TypeExpression) → ValueTyped E u b B → Canonical E u (unary (unary_form.Inr T) b) (sum A B)
  a_held : (w : World) (a : Expression) (A : TypeExpression) → ValueTyped E w a A → Canonical E u (unary (unary_form.Held w) a) (at A w)
  a_sham : (a : Expression) (A : TypeExpression) → ValueTyped E Any a A → Canonical E u (unary unary_form.Sham a) (sham A)

pub canonical : (E : Setting) (u : World) (v : Expression) (A : TypeExpression) → ValueTyped E u v A → Canonical E u v A
canonical E u (leaf leaf_form.Unit) A (p, d) = subst (Canonical E u (leaf leaf_form.Unit)) (sym d.0) a_unit
canonical E u (leaf (leaf_form.Bool b)) A (p, d) = subst (Canonical E u (leaf (leaf_form.Bool b))) (sym d.0) (a_bool b)
canonical E u (leaf (leaf_form.Int n)) A (p, d) = subst (Canonical E u (leaf (leaf_form.Int n))) (sym d.0) (an_int n)
canonical E u (leaf (leaf_form.Str s)) A (p, d) = subst (Canonical E u (leaf (leaf_form.Str s))) (sym d.0.0) (a_text s d.0.1)
canonical E u (leaf (leaf_form.Addr w)) A (p, d) = subst (Canonical E u (leaf (leaf_form.Addr w))) (sym d.0.1) (an_address w)
canonical E u (leaf (leaf_form.Nil T)) A (p, d) = subst (Canonical E u (leaf (leaf_form.Nil T))) (sym d.0) (a_nil T T)
canonical E u (leaf (leaf_form.CellAt w n)) A (p, d) =
    subst (Canonical E u (leaf (leaf_form.CellAt w n))) (sym d.0.4) (a_cell w n d.0.0 d.0.2 (subst (λ x. type_at (E.cells x) n ≡ Some d.0.0) (sym d.0.2) d.0.3))
canonical E u (leaf (leaf_form.Extern x)) A (p, d) = subst (Canonical E u (leaf (leaf_form.Extern x))) (sym d.0.1) (extern-form x d.0.0)
  where
    extern-form : (x : Primitive) → u ≡ primitive_world x → Canonical E u (leaf (leaf_form.Extern x)) (primitive_type x)
    extern-form primitive.Say h = an_extern primitive.Say _ _ h refl
    extern-form primitive.SetText h = an_extern primitive.SetText _ _ h refl
    extern-form primitive.GetText h = an_extern primitive.GetText _ _ h refl
    extern-form primitive.On h = an_extern primitive.On _ _ h refl
    extern-form primitive.Read h = an_extern primitive.Read _ _ h refl
    extern-form primitive.Write h = an_extern primitive.Write _ _ h refl
    extern-form primitive.Watch h = an_extern primitive.Watch _ _ h refl
    extern-form primitive.Show h = an_extern primitive.Show _ _ h refl
canonical E u (leaf (leaf_form.Glob f)) A (p, d) =
    subst (Canonical E u (leaf (leaf_form.Glob f))) (sym d.0.2) (a_declared f d.0.0 d.0.1 (subst (λ T. IsKnownAt (E.functions f) u T) d.0.2 d.0.3))
canonical E u (leaf _) A (p, d) = cc
canonical E u (unary (unary_form.Fn x C) b) A (p, d) = subst (Canonical E u (unary (unary_form.Fn x C) b)) (sym d.is) (a_function x C b C d.pick.a refl d.part)
canonical E u (unary (unary_form.Rec f x C D) b) A (p, d) =
    subst (Canonical E u (unary (unary_form.Rec f x C D) b)) (sym d.is) (a_recursive f x C D b C D (subst (λ T. Typed E nothing u (unary (unary_form.Rec f x C D) b) T) d.is d) d.part)
canonical E u (unary (unary_form.Inl T) a) A (p, d) = subst (Canonical E u (unary (unary_form.Inl T) a)) (sym d.is) (a_left T a d.pick.a d.pick.b (p, d.part))
canonical E u (unary (unary_form.Inr T) a) A (p, d) = subst (Canonical E u (unary (unary_form.Inr T) a)) (sym d.is) (a_right T a d.pick.a d.pick.b (p, d.part))
canonical E u (unary (unary_form.Held w) a) A (p, d) = subst (Canonical E u (unary (unary_form.Held w) a)) (sym d.is) (a_held w a d.pick.a (p, d.part))
canonical E u (unary unary_form.Sham a) A (p, d) = subst (Canonical E u (unary unary_form.Sham a)) (sym d.is) (a_sham a d.pick.a (p, d.part))
canonical E u (unary _ a) A (p, d) = cc
canonical E u (binary binary_form.Pair a b) A (p, d) =
    subst (Canonical E u (binary binary_form.Pair a b)) (sym d.is) (a_pair a b d.pick.a d.pick.b (both-left (is_value a) (is_value b) p, d.first) (both-right (is_value a) (is_value b) p, d.second))
canonical E u (binary binary_form.Cons a b) A (p, d) =
    subst (Canonical E u (binary binary_form.Cons a b)) (sym d.is) (a_cons a b d.pick.a (both-left (is_value a) (is_value b) p, d.first) (both-right (is_value a) (is_value b) p, d.second))
canonical E u (binary _ a b) A (p, d) = cc
canonical E u (ternary f a b c) A (p, d) = cc
