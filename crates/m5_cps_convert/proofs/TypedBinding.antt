-- Functions, calls, binders and choices fit.
use Rattle.std.proofs.Common.{◌≡◌, ℕ, suc, [], ◌∷◌, Some, refl, sym, subst, arith}
use Rattle.m5_terms.specs.Expression.{Expression, leaf, unary, binary}
use Rattle.m5_terms.specs.TypeExpression.{TypeExpression, unit, function}
use Rattle.m5_terms.specs.declared.types.World.{World}
use Rattle.m5_terms.specs.declared.types.World.TheVariants.{Any}
use Rattle.m5_terms.specs.declared.types.Primitive.{Primitive}
use Rattle.m5_terms.specs.declared.form.LeafForm.TheVariants as leaf_form
use Rattle.m5_terms.specs.declared.form.UnaryForm.TheVariants as unary_form
use Rattle.m5_terms.specs.declared.form.BinaryForm.TheVariants as binary_form
use Rattle.m5_typing.specs.Context.{Bound, local, valid, Context, Setting, with, with_all}
use Rattle.m5_typing.specs.Typing.{Typed}
use Rattle.m5_cps.specs.Entries.{of, takes, Mode, only, everywhere, by_call, world_of}
use Rattle.m5_cps.specs.Blocks.{Code, straight, closure, test, constant, one, two, spawn, unheld, unsham, if_true, if_left, if_nil, if_here, go, call, ask}
use Rattle.m5_cps.specs.Blocks as block
use Rattle.m5_cps.specs.Values.{put}
use Rattle.m5_cps.specs.Slots.{Slots, fill, Needs, entered_at, Captures}
use Rattle.m5_cps.specs.Fits.{Fits}
use Rattle.m5_cps.specs.TypeParts.{place_of, content_of}
use Rattle.m5_cps.specs.TypeOf.{type_of}
use Rattle.m5_cps_typing.proofs.Found.{found, second_part}
use Rattle.m5_cps_convert.specs.Scopes.{VariableSlots, Scope}
use Rattle.m5_cps_convert.specs.Continuations.{Continuation, Tail, Then, apply, body_code, thread_end}
use Rattle.m5_cps_convert.specs.Forms.{variable_of}
use Rattle.m5_cps_convert.specs.Convert.{cps, type_in, binary_rest}
use Rattle.m5_cps_convert.proofs.TypedSlots.{Same, same_on, filled, needs_own, needs_on, needs_as, Vars, vars_on, vars_with, taken, taken_captures, taken_needs, own_captures, bound_mode, bound_slot}
use Rattle.m5_cps_convert.proofs.TypedKonts.{sc, node, Good, good_allowed, entered_same, TakesAt, takes_on, applied, applied_next, reified_as, Fit, HereFit, here_fit}
use Rattle.m5_cps_convert.proofs.TypedForms.{not_form}

module _ (E : Setting) where
  -- a function's body, in a block at w over the slots R
  body_fits : (w : World) (a : Expression) (G : Context) (Γ : VariableSlots) (C B : TypeExpression) (R : Slots) (n : ℕ) → Fit E a → Typed E G w a B → Vars w G Γ (fill (suc (suc n)) (only w) (takes (of B)) (entered_at w n (of (function C B)) (of C) R)) (suc (suc (suc n))) →
      Fits E w (suc (suc (suc n))) (fill (suc (suc n)) (only w) (takes (of B)) (entered_at w n (of (function C B)) (of C) R)) (body_code (cps E a) (sc G Γ (only w) 0) n)
  body_fits w a G Γ C B R n ua t v = ua (only w) w G B Γ 0 _ _ (Tail (suc (suc n))) refl t v (omega arith, needs_own (suc (suc n)) (only w) (takes (of B)) (entered_at w n (of (function C B)) (of C) R))

  called_same : (w : World) (C B : TypeExpression) (R : Slots) (n : ℕ) → Same n R (fill (suc (suc n)) (only w) (takes (of B)) (entered_at w n (of (function C B)) (of C) R))
  called_same w C B R n = same_on n (suc (suc n)) R (entered_at w n (of (function C B)) (of C) R) _ (omega arith) (entered_same w n (of (function C B)) (of C) R) (filled (suc (suc n)) (only w) (takes (of B)) (entered_at w n (of (function C B)) (of C) R))

  argument_has : (w : World) (C B : TypeExpression) (R : Slots) (n : ℕ) → Needs (fill (suc (suc n)) (only w) (takes (of B)) (entered_at w n (of (function C B)) (of C) R)) (suc n) (only w) (of C)
  argument_has w C B R n = needs_on (suc (suc n)) (entered_at w n (of (function C B)) (of C) R) _ (suc n) (only w) (of C) (omega arith) (filled (suc (suc n)) (only w) (takes (of B)) (entered_at w n (of (function C B)) (of C) R)) (needs_own (suc n) (only w) (of C) (fill n (only w) (of (function C B)) R))

  itself_has : (w : World) (C B : TypeExpression) (R : Slots) (n : ℕ) → Needs (fill (suc (suc n)) (only w) (takes (of B)) (entered_at w n (of (function C B)) (of C) R)) n (only w) (of (function C B))
  itself_has w C B R n = needs_on (suc (suc n)) (entered_at w n (of (function C B)) (of C) R) _ n (only w) (of (function C B)) (omega arith) (filled (suc (suc n)) (only w) (takes (of B)) (entered_at w n (of (function C B)) (of C) R)) (needs_on (suc n) (fill n (only w) (of (function C B)) R) _ n (only w) (of (function C B)) (omega arith) (filled (suc n) (only w) (of C) (fill n (only w) (of (function C B)) R)) (needs_own n (only w) (of (function C B)) R))

  fn_vars : (w : World) (x : ℕ) (G : Context) (Γ : VariableSlots) (C B : TypeExpression) (R : Slots) (n : ℕ) → Vars w G Γ R n → Vars w (with x (Some (local w C)) G) (put x (Some (suc n)) Γ) (fill (suc (suc n)) (only w) (takes (of B)) (entered_at w n (of (function C B)) (of C) R)) (suc (suc (suc n)))
  fn_vars w x G Γ C B R n v = vars_with w G Γ _ _ x (suc n) (local w C) (omega arith) (argument_has w C B R n) (vars_on w G Γ R _ n (suc (suc (suc n))) (omega arith) (called_same w C B R n) v)

  rec_vars : (w : World) (f x : ℕ) (G : Context) (Γ : VariableSlots) (C B : TypeExpression) (R : Slots) (n : ℕ) → Vars w G Γ R n → Vars w (with x (Some (local w C)) (with f (Some (local w (function C B))) G)) (put x (Some (suc n)) (put f (Some n) Γ)) (fill (suc (suc n)) (only w) (takes (of B)) (entered_at w n (of (function C B)) (of C) R)) (suc (suc (suc n)))
  rec_vars w f x G Γ C B R n v = vars_with w _ _ _ _ x (suc n) (local w C) (omega arith) (argument_has w C B R n) (vars_with w G Γ _ _ f n (local w (function C B)) (omega arith) (itself_has w C B R n) (vars_on w G Γ R _ n (suc (suc (suc n))) (omega arith) (called_same w C B R n) v))

  -- the slots that a function takes with it: all, or those that have their types at each world
  captured_slots : (m : Mode) (b : World) (G : Context) (e : Expression) (Γ : VariableSlots) (S : Slots) (n : ℕ) → Good m b G e → Vars (world_of m) G Γ S n → (R : Slots) × Captures b m S R × Vars (world_of m) G Γ R n
  captured_slots (only w) b G e Γ S n g v = (S, subst (λ z. Captures b (only z) S S) (sym g) (own_captures b S), v)
  captured_slots everywhere b G e Γ S n g v = (taken S, taken_captures b everywhere S, shown)
    where
      shown : Vars Any G Γ (taken S) n
      shown x (local y A) h u = absurd (g.1 x y A h)
      shown x (valid A) h u = let d = v x (valid A) h tt in (d.0, d.1, d.2, taken_needs S d.0 everywhere (of A) tt d.3)

  fn_as : (x : ℕ) (C : TypeExpression) (a : Expression) (m : Mode) (b : World) (G : Context) (A B D : TypeExpression) (Γ : VariableSlots) (S : Slots) (n : ℕ) (κ : Continuation) → Fit E a → Good m b G (unary (unary_form.Fn x C) a) → Typed E (with x (Some (local (world_of m) C)) G) (world_of m) a B → A ≡ function C B → D ≡ B → Vars (world_of m) G Γ S n → TakesAt E b m S n κ A →
      Fits E b n S (closure (by_call m C D) (body_code (cps E a) (sc (with x (Some (local (world_of m) C)) G) (put x (Some (suc n)) Γ) (only (world_of m)) 0) n) (apply κ n (suc n)))
  fn_as x C a m b G A B D Γ S n κ ua g t e q v k =
      let r = captured_slots m b G (unary (unary_form.Fn x C) a) Γ S n g v in
      subst (λ D. Fits E b n S (closure (by_call m C D) (body_code (cps E a) (sc (with x (Some (local (world_of m) C)) G) (put x (Some (suc n)) Γ) (only (world_of m)) 0) n) (apply κ n (suc n)))) (sym q)
      (r.0, r.1, body_fits (world_of m) a _ (put x (Some (suc n)) Γ) C B r.0 n ua t (fn_vars (world_of m) x G Γ C B r.0 n r.2), applied_next E b m S n κ (function C B) (good_allowed m b G (unary (unary_form.Fn x C) a) g) (subst (TakesAt E b m S n κ) e k))

  pub fn_fit : (x : ℕ) (C : TypeExpression) (a : Expression) → Fit E a → Fit E (unary (unary_form.Fn x C) a)
  fn_fit x C a ua m b G A Γ d S n κ g t v k = fn_as x C a m b G A t.pick.a _ Γ S n κ ua g t.part t.is (found E a _ (world_of m) _ t.part) v k

  pub rec_fit : (f x : ℕ) (C B : TypeExpression) (a : Expression) → Fit E a → Fit E (unary (unary_form.Rec f x C B) a)
  rec_fit f x C B a ua m b G A Γ d S n κ g t v k =
      let r = captured_slots m b G (unary (unary_form.Rec f x C B) a) Γ S n g v in
      (r.0, r.1, body_fits (world_of m) a _ (put x (Some (suc n)) (put f (Some n) Γ)) C B r.0 n ua t.part (rec_vars (world_of m) f x G Γ C B r.0 n r.2), applied_next E b m S n κ (function C B) (good_allowed m b G (unary (unary_form.Rec f x C B) a) g) (subst (TakesAt E b m S n κ) t.is k))

  pub spawn_fit : (a : Expression) → Fit E a → Fit E (unary unary_form.Spawn a)
  spawn_fit a ua = here_fit E _ not_form (λ w G A Γ d S n κ t v k.
      let S2 = fill n (only w) (takes (of unit)) S in (
        S,
        own_captures w S,
        ua (only w) w G unit Γ 0 (entered_at w n (takes (of unit)) (of unit) S) (suc (suc n)) thread_end refl t.part (vars_on w G Γ S _ n (suc (suc n)) (omega arith) (entered_same w n (takes (of unit)) (of unit) S) v) (λ R x q i h j k1. tt),
        (
          needs_own n (only w) (takes (of unit)) S,
          applied E w (only w) S n κ unit refl (subst (TakesAt E w (only w) S n κ) t.is k) (fill (suc n) everywhere (of unit) S2) (suc n) (suc (suc n)) (omega arith) (same_on n (suc n) S S2 _ (omega arith) (filled n (only w) (takes (of unit)) S) (filled (suc n) everywhere (of unit) S2)) (omega arith) (needs_as (fill (suc n) everywhere (of unit) S2) (suc n) everywhere (only w) (of unit) tt (needs_own (suc n) everywhere (of unit) S2)),
        ),
      ))

  -- a primitive by its name, where it is
  direct_fit : (q : Primitive) (c : Expression) → Fit E c → HereFit E (binary binary_form.Call (leaf (leaf_form.Extern q)) c)
  direct_fit q c uc w G A Γ d S n κ t v k = uc (only w) w G _ Γ d S n _ refl t.second v
      (λ R y p i h j k1. reified_as E w R p κ A (type_of E (binary binary_form.Call (leaf (leaf_form.Extern q)) c) G w) (λ l m. block.ends (ask q y l)) (found E (binary binary_form.Call (leaf (leaf_form.Extern q)) c) G w A t) (takes_on E w (only w) S R n p κ A i h k)
      (λ Q z r i2 h2 j2 k2. (t.first.0.0, (t.pick.a, t.pick.b, sym t.first.0.1, needs_on p R Q y (only w) _ j h2 k1, subst (λ T. Needs Q z (only w) (takes (of T))) t.is k2))))

  plain_fit : (a c : Expression) → Fit E a → Fit E c → ((Γ : Scope) (n : ℕ) (κ : Continuation) → cps E (binary binary_form.Call a c) Γ n κ ≡ cps E a Γ n (Then (λ x m. binary_rest binary_form.Call (type_in E (binary binary_form.Call a c) Γ) (type_in E a Γ) (variable_of c) (cps E c) Γ x m κ))) → HereFit E (binary binary_form.Call a c)
  plain_fit a c ua uc same w G A Γ d S n κ t v k = subst (Fits E w n S) (sym (same (sc G Γ (only w) d) n κ)) (ua (only w) w G _ Γ d S n _ refl t.first v
      (λ R x p i h j k1. uc (only w) w G _ Γ d R p _ refl t.second (vars_on w G Γ S R n p i h v)
      (λ Q y q i2 h2 j2 k2. reified_as E w Q q κ A (type_of E (binary binary_form.Call a c) G w) (λ k m. block.ends (call x y k)) (found E (binary binary_form.Call a c) G w A t) (takes_on E w (only w) S Q n q κ A (omega (arith, i, i2)) (same_on n p S R Q i h h2) k)
      (λ P z r i3 h3 j3 k3. (t.pick.a, t.pick.b, needs_on q Q P x (only w) _ (omega (arith, j, i2)) h3 (needs_on p R Q x (only w) _ j h2 k1), needs_on q Q P y (only w) _ j2 h3 k2, subst (λ T. Needs P z (only w) (takes (of T))) t.is k3)))))

  pub call_fit : (a c : Expression) → Fit E a → Fit E c → Fit E (binary binary_form.Call a c)
  call_fit (leaf (leaf_form.Extern q)) c ua uc = here_fit E _ not_form (direct_fit q c uc)
  call_fit a c ua uc = here_fit E _ not_form (plain_fit a c ua uc (λ Γ n κ. refl))

  -- a part whose value is bound
  bound_fits : (w : World) (a c : Expression) (z : ℕ) (G : Context) (B A : TypeExpression) (b : Bound) (Γ : VariableSlots) (d : ℕ) (S : Slots) (n : ℕ) (κ : Continuation) → Fit E a → Fit E c → Typed E G w a B → ((R : Slots) (x : ℕ) → Needs R x (only w) (of B) → Needs R x (bound_mode b) (bound_slot b)) → Typed E (with z (Some b) G) w c A → Vars w G Γ S n → TakesAt E w (only w) S n κ A → Fits E w n S (node E a G (only w) Γ d n (Then (λ x p. node E c (with z (Some b) G) (only w) (put z (Some x) Γ) d p κ)))
  bound_fits w a c z G B A b Γ d S n κ ua uc ta as' tc v k = ua (only w) w G B Γ d S n _ refl ta v
      (λ R x p i h j k1. uc (only w) w (with z (Some b) G) A (put z (Some x) Γ) d R p κ refl tc (vars_with w G Γ R p z x b j (as' R x k1) (vars_on w G Γ S R n p i h v)) (takes_on E w (only w) S R n p κ A i h k))

  pub do_fit : (a c : Expression) → Fit E a → Fit E c → Fit E (binary binary_form.Do a c)
  do_fit a c ua uc = here_fit E _ not_form (λ w G A Γ d S n κ t v k. ua (only w) w G _ Γ d S n _ refl t.first v
      (λ R x p i h j k1. uc (only w) w G _ Γ d R p κ refl t.second (vars_on w G Γ S R n p i h v) (takes_on E w (only w) S R n p κ _ i h (subst (TakesAt E w (only w) S n κ) t.is k))))

  pub val_fit : (z : ℕ) (a c : Expression) → Fit E a → Fit E c → Fit E (binary (binary_form.Val z) a c)
  val_fit z a c ua uc = here_fit E _ not_form (λ w G A Γ d S n κ t v k.
      let q = found E a G w _ t.first in
      bound_fits w a c z G t.pick.a t.pick.b (local w (type_of E a G w)) Γ d S n κ ua uc t.first (λ R x k1. subst (λ T. Needs R x (only w) (of T)) (sym q) k1) (second_part (binary_form.Val z) w t.pick _ _ (λ y bounds C. Typed E (with_all (z ∷ []) bounds G) y c C) q t.second) v (subst (TakesAt E w (only w) S n κ) t.is k))

  pub put_fit : (z : ℕ) (a c : Expression) → Fit E a → Fit E c → Fit E (binary (binary_form.Put z) a c)
  put_fit z a c ua uc = here_fit E _ not_form (λ w G A Γ d S n κ t v k.
      let q = found E a G w _ t.first in
      bound_fits w a c z G t.pick.a t.pick.b (valid (type_of E a G w)) Γ d S n κ ua uc t.first (λ R x k1. subst (λ T. Needs R x everywhere (of T)) (sym q) (needs_as R x (only w) everywhere (of t.pick.a) t.side k1)) (second_part (binary_form.Put z) w t.pick _ _ (λ y bounds C. Typed E (with_all (z ∷ []) bounds G) y c C) q t.second) v (subst (TakesAt E w (only w) S n κ) t.is k))

  -- what is in a part's value is bound
  pub leta_fit : (z : ℕ) (a c : Expression) → Fit E a → Fit E c → Fit E (binary (binary_form.Leta z) a c)
  leta_fit z a c ua uc = here_fit E _ not_form (λ w G A Γ d S n κ t v k.
      let q = found E a G w _ t.first in
      let b = local (place_of (type_of E a G w)) (content_of (type_of E a G w)) in
      ua (only w) w G _ Γ d S n _ refl t.first v
      (λ R x p i h j k1. (
        t.pick.a,
        t.pick.v,
        t.side,
        k1,
        uc (only w) w (with z (Some b) G) _ (put z (Some p) Γ) d (fill p (only t.pick.v) (of t.pick.a) R) (suc p) κ refl (second_part (binary_form.Leta z) w t.pick _ _ (λ y bounds C. Typed E (with_all (z ∷ []) bounds G) y c C) q t.second)
            (vars_with w G Γ _ (suc p) z p b (omega arith) (subst (λ T. Needs (fill p (only t.pick.v) (of t.pick.a) R) p (only (place_of T)) (of (content_of T))) (sym q) (needs_own p (only t.pick.v) (of t.pick.a) R)) (vars_on w G Γ S _ n (suc p) (omega (arith, i)) (same_on n p S R _ i h (filled p (only t.pick.v) (of t.pick.a) R)) v))
            (takes_on E w (only w) S _ n (suc p) κ _ (omega (arith, i)) (same_on n p S R _ i h (filled p (only t.pick.v) (of t.pick.a) R)) (subst (TakesAt E w (only w) S n κ) t.is k)),
      )))

  pub lets_fit : (z : ℕ) (a c : Expression) → Fit E a → Fit E c → Fit E (binary (binary_form.Lets z) a c)
  lets_fit z a c ua uc = here_fit E _ not_form (λ w G A Γ d S n κ t v k.
      let q = found E a G w _ t.first in
      let b = valid (content_of (type_of E a G w)) in
      ua (only w) w G _ Γ d S n _ refl t.first v
      (λ R x p i h j k1. (
        t.pick.a,
        k1,
        uc (only w) w (with z (Some b) G) _ (put z (Some p) Γ) d (fill p everywhere (of t.pick.a) R) (suc p) κ refl (second_part (binary_form.Lets z) w t.pick _ _ (λ y bounds C. Typed E (with_all (z ∷ []) bounds G) y c C) q t.second)
            (vars_with w G Γ _ (suc p) z p b (omega arith) (subst (λ T. Needs (fill p everywhere (of t.pick.a) R) p everywhere (of (content_of T))) (sym q) (needs_own p everywhere (of t.pick.a) R)) (vars_on w G Γ S _ n (suc p) (omega (arith, i)) (same_on n p S R _ i h (filled p everywhere (of t.pick.a) R)) v))
            (takes_on E w (only w) S _ n (suc p) κ _ (omega (arith, i)) (same_on n p S R _ i h (filled p everywhere (of t.pick.a) R)) (subst (TakesAt E w (only w) S n κ) t.is k)),
      )))
