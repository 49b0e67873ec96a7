-- The code of each form fits where the node is typed.
use Rattle.std.proofs.Common.{◌≡◌, ℕ, suc, false, IsTrue, Option, Some, None, refl, sym, subst, arith}
use Rattle.m5_terms.specs.Expression.{Expression, unary, binary}
use Rattle.m5_terms.specs.TypeExpression.{TypeExpression}
use Rattle.m5_terms.specs.declared.types.World.{World}
use Rattle.m5_terms.specs.declared.types.World.TheVariants.{Any}
use Rattle.m5_terms.specs.declared.form.UnaryForm.{UnaryForm}
use Rattle.m5_terms.specs.declared.form.UnaryForm.TheVariants as unary_form
use Rattle.m5_terms.specs.declared.form.BinaryForm.{BinaryForm}
use Rattle.m5_terms.specs.declared.form.BinaryForm.TheVariants as binary_form
use Rattle.m5_typing.specs.Value.{IsValueForm, is_value_form}
use Rattle.m5_typing.specs.Context.{Bound, local, valid, Context, Setting, valid_part, if_valid}
use Rattle.m5_typing.specs.Rules.{Pick, unary_rule, binary_rule}
use Rattle.m5_typing.specs.Typing.{Typed}
use Rattle.m5_typing.proofs.Mobile.{both-left, both-right}
use Rattle.m5_cps.specs.Entries.{of, Mode, only, everywhere, world_of}
use Rattle.m5_cps.specs.Blocks.{straight, two}
use Rattle.m5_cps.specs.Slots.{Slots, Needs, Allowed}
use Rattle.m5_cps.specs.Fits.{IsStraightOne, IsStraightTwo, part_mode, no_part, Fits}
use Rattle.m5_cps.specs.TypeOf.{type_of}
use Rattle.m5_cps_typing.proofs.Found.{found}
use Rattle.m5_cps_convert.specs.Scopes.{VariableSlots}
use Rattle.m5_cps_convert.specs.Continuations.{Continuation, Tail, Then, apply}
use Rattle.m5_cps_convert.specs.Forms.{unary_rest}
use Rattle.m5_cps_convert.proofs.TypedSlots.{same_on, needs_on, Vars, vars_on, valid_vars}
use Rattle.m5_cps_convert.proofs.TypedKonts.{node, NoLocals, Good, good_allowed, TakesAt, takes_on, applied_next, reified_as, Fit, here_fit}

pub not_form : IsTrue false → ⊥
not_form h = cc

valid_has_none : (G : Context) → NoLocals (valid_part G)
valid_has_none G x w A = at (G x)
  where
    at : (o : Option Bound) → if_valid o ≡ Some (local w A) → ⊥
    at None e = cc
    at (Some (local v B)) e = cc
    at (Some (valid B)) e = cc

module _ (E : Setting) where
  -- a form of one part whose value fills a slot
  one_fits : (f : UnaryForm) (a : Expression) (m : Mode) (b : World) (G : Context) (Γ : VariableSlots) (d : ℕ) (S : Slots) (n : ℕ) (κ : Continuation) (p : Pick) (H : Context) → Fit E a → Allowed m b → IsStraightOne f m → (unary_rule f (world_of m) p).side no_part → Good (part_mode f m) b H a → Typed E H (world_of (part_mode f m)) a (unary_rule f (world_of m) p).part → Vars (world_of (part_mode f m)) H Γ S n → TakesAt E b m S n κ (unary_rule f (world_of m) p).whole → Fits E b n S (node E a H (part_mode f m) Γ d n (Then (λ x q. unary_rest f x q κ)))
  one_fits f a m b G Γ d S n κ p H ua al st side g t v k = ua (part_mode f m) b H _ Γ d S n _ g t v
      (λ R x q i h j k1. (m, p, al, st, k1, side, applied_next E b m R q κ _ al (takes_on E b m S R n q κ _ i h k)))

  two_fits : (f : BinaryForm) (a c : Expression) (m : Mode) (b : World) (G : Context) (Γ : VariableSlots) (d : ℕ) (S : Slots) (n : ℕ) (κ : Continuation) (p : Pick) → Fit E a → Fit E c → Allowed m b → IsStraightTwo f m → Good m b G a → Good m b G c → Typed E G (world_of m) a (binary_rule f (world_of m) p).first → Typed E G (world_of m) c (binary_rule f (world_of m) p).second → Vars (world_of m) G Γ S n → TakesAt E b m S n κ (binary_rule f (world_of m) p).whole → Fits E b n S (node E a G m Γ d n (Then (λ x q. node E c G m Γ d q (Then (λ y r. straight (two f x y) (apply κ r (suc r)))))))
  two_fits f a c m b G Γ d S n κ p ua uc al st ga gc ta tc v k = ua m b G _ Γ d S n _ ga ta v
      (λ R x q i h j k1. uc m b G _ Γ d R q _ gc tc (vars_on (world_of m) G Γ S R n q i h v)
      (λ Q y r i2 h2 j2 d2. (m, p, al, st, needs_on q R Q x m _ j h2 k1, d2, applied_next E b m Q r κ _ al (takes_on E b m S Q n r κ _ (omega (arith, i, i2)) (same_on n q S R Q i h h2) k))))

  -- at one world
  one_here : (f : UnaryForm) (a : Expression) (w : World) (G : Context) (A : TypeExpression) (Γ : VariableSlots) (d : ℕ) (S : Slots) (n : ℕ) (κ : Continuation) (p : Pick) → Fit E a → part_mode f (only w) ≡ only w → IsStraightOne f (only w) → (unary_rule f w p).side no_part → A ≡ (unary_rule f w p).whole → Typed E G w a (unary_rule f w p).part → Vars w G Γ S n → TakesAt E w (only w) S n κ A → Fits E w n S (node E a G (only w) Γ d n (Then (λ x q. unary_rest f x q κ)))
  one_here f a w G A Γ d S n κ p ua pm st side e t v k = ua (only w) w G _ Γ d S n _ refl t v
      (λ R x q i h j k1. (only w, p, refl, st, subst (λ y. Needs R x y (of (unary_rule f w p).part)) (sym pm) k1, side, applied_next E w (only w) R q κ _ refl (takes_on E w (only w) S R n q κ _ i h (subst (TakesAt E w (only w) S n κ) e k))))

  pub fst_fit : (a : Expression) → Fit E a → Fit E (unary unary_form.Fst a)
  fst_fit a ua = here_fit E _ not_form (λ w G A Γ d S n κ t v k. one_here unary_form.Fst a w G A Γ d S n κ t.pick ua refl tt tt t.is t.part v k)

  pub snd_fit : (a : Expression) → Fit E a → Fit E (unary unary_form.Snd a)
  snd_fit a ua = here_fit E _ not_form (λ w G A Γ d S n κ t v k. one_here unary_form.Snd a w G A Γ d S n κ t.pick ua refl tt tt t.is t.part v k)

  pub text_fit : (a : Expression) → Fit E a → Fit E (unary unary_form.StrOf a)
  text_fit a ua = here_fit E _ not_form (λ w G A Γ d S n κ t v k. one_here unary_form.StrOf a w G A Γ d S n κ t.pick ua refl tt tt t.is t.part v k)

  pub div_fit : (a : Expression) → Fit E a → Fit E (unary unary_form.Div a)
  div_fit a ua = here_fit E _ not_form (λ w G A Γ d S n κ t v k.
      reified_as E w S n κ A (type_of E (unary unary_form.Div a) G w) (λ l p. node E a G (only w) Γ d p (Then (λ x q. unary_rest unary_form.Div x q (Tail l)))) (found E (unary unary_form.Div a) G w A t) k
      (λ R l p i h j k1. one_here unary_form.Div a w G A Γ d R p (Tail l) t.pick ua refl tt tt t.is t.part (vars_on w G Γ S R n p i h v) (j, k1)))

  pub new_fit : (a : Expression) → Fit E a → Fit E (unary unary_form.NewCell a)
  new_fit a ua = here_fit E _ not_form (λ w G A Γ d S n κ t v k. one_here unary_form.NewCell a w G A Γ d S n κ t.pick ua refl tt tt t.is t.part v k)

  pub load_fit : (a : Expression) → Fit E a → Fit E (unary unary_form.Load a)
  load_fit a ua = here_fit E _ not_form (λ w G A Γ d S n κ t v k. one_here unary_form.Load a w G A Γ d S n κ t.pick ua refl tt tt t.is t.part v k)

  pub hold_fit : (a : Expression) → Fit E a → Fit E (unary unary_form.Hold a)
  hold_fit a ua = here_fit E _ not_form (λ w G A Γ d S n κ t v k. one_here unary_form.Hold a w G A Γ d S n κ t.pick ua refl tt t.side t.is t.part v k)

  good_as : (m : Mode) (b : World) (G : Context) (e a : Expression) → (IsValueForm e → IsValueForm a) → Good m b G e → Good m b G a
  good_as (only w) b G e a h g = g
  good_as everywhere b G e a h g = (h g.0, g.1)

  pub inl_fit : (T : TypeExpression) (a : Expression) → Fit E a → Fit E (unary (unary_form.Inl T) a)
  inl_fit T a ua m b G A Γ d S n κ g t v k = one_fits (unary_form.Inl T) a m b G Γ d S n κ t.pick G ua (good_allowed m b G (unary (unary_form.Inl T) a) g) tt t.side (good_as m b G (unary (unary_form.Inl T) a) a (λ h. h) g) t.part v (subst (TakesAt E b m S n κ) t.is k)

  pub inr_fit : (T : TypeExpression) (a : Expression) → Fit E a → Fit E (unary (unary_form.Inr T) a)
  inr_fit T a ua m b G A Γ d S n κ g t v k = one_fits (unary_form.Inr T) a m b G Γ d S n κ t.pick G ua (good_allowed m b G (unary (unary_form.Inr T) a) g) tt t.side (good_as m b G (unary (unary_form.Inr T) a) a (λ h. h) g) t.part v (subst (TakesAt E b m S n κ) t.is k)

  pub sham_fit : (a : Expression) → Fit E a → Fit E (unary unary_form.Sham a)
  sham_fit a ua m b G A Γ d S n κ g t v k = one_fits unary_form.Sham a m b G Γ d S n κ t.pick (valid_part G) ua (good_allowed m b G (unary unary_form.Sham a) g) tt refl (t.side, valid_has_none G) t.part (valid_vars (world_of m) Any G Γ S n v) (subst (TakesAt E b m S n κ) t.is k)

  pub pair_fit : (a c : Expression) → Fit E a → Fit E c → Fit E (binary binary_form.Pair a c)
  pair_fit a c ua uc m b G A Γ d S n κ g t v k = two_fits binary_form.Pair a c m b G Γ d S n κ t.pick ua uc (good_allowed m b G (binary binary_form.Pair a c) g) tt (good_as m b G (binary binary_form.Pair a c) a (both-left (is_value_form a) (is_value_form c)) g) (good_as m b G (binary binary_form.Pair a c) c (both-right (is_value_form a) (is_value_form c)) g) t.first t.second v (subst (TakesAt E b m S n κ) t.is k)

  pub cons_fit : (a c : Expression) → Fit E a → Fit E c → Fit E (binary binary_form.Cons a c)
  cons_fit a c ua uc m b G A Γ d S n κ g t v k = two_fits binary_form.Cons a c m b G Γ d S n κ t.pick ua uc (good_allowed m b G (binary binary_form.Cons a c) g) tt (good_as m b G (binary binary_form.Cons a c) a (both-left (is_value_form a) (is_value_form c)) g) (good_as m b G (binary binary_form.Cons a c) c (both-right (is_value_form a) (is_value_form c)) g) t.first t.second v (subst (TakesAt E b m S n κ) t.is k)

  pub store_fit : (a c : Expression) → Fit E a → Fit E c → Fit E (binary binary_form.Store a c)
  store_fit a c ua uc = here_fit E _ not_form (λ w G A Γ d S n κ t v k. two_fits binary_form.Store a c (only w) w G Γ d S n κ t.pick ua uc refl tt refl refl t.first t.second v (subst (TakesAt E w (only w) S n κ) t.is k))

  pub operator_fit : (o : _) (a c : Expression) → Fit E a → Fit E c → Fit E (binary (binary_form.Binary o) a c)
  operator_fit o a c ua uc = here_fit E _ not_form (λ w G A Γ d S n κ t v k. two_fits (binary_form.Binary o) a c (only w) w G Γ d S n κ t.pick ua uc refl tt refl refl t.first t.second v (subst (TakesAt E w (only w) S n κ) t.is k))
