-- Choices fit.
use Rattle.std.proofs.Common.{◌≡◌, ℕ, suc, ◌<◌, Bool, true, false, [], ◌∷◌, Some, refl, sym, ap, subst, ◌∙◌, arith, nat_lt, if◌then◌else◌}
use Rattle.m5_terms.specs.Expression.{Expression, ternary}
use Rattle.m5_terms.specs.TypeExpression.{TypeExpression, list}
use Rattle.m5_terms.specs.declared.types.World.{World}
use Rattle.m5_terms.specs.declared.form.TernaryForm.TheVariants as ternary_form
use Rattle.m5_typing.specs.Context.{local, Context, Setting, with, with_all}
use Rattle.m5_typing.specs.Typing.{Typed}
use Rattle.m5_cps.specs.Entries.{of, takes, only, by_value}
use Rattle.m5_cps.specs.Blocks.{Code, straight, closure, test, constant, one, two, spawn, unheld, unsham, if_true, if_left, if_nil, if_here, go, call, ask}
use Rattle.m5_cps.specs.Blocks as block
use Rattle.m5_cps.specs.Values.{put}
use Rattle.m5_cps.specs.Slots.{Slots, fill, Needs, entered_at}
use Rattle.m5_cps.specs.Fits.{Fits}
use Rattle.m5_cps.specs.TypeParts.{content_of, first_of, second_of}
use Rattle.m5_cps.specs.TypeOf.{type_of}
use Rattle.m5_cps_typing.proofs.Found.{found, second_arm_part, third_arm_part}
use Rattle.m5_cps_convert.specs.Scopes.{VariableSlots, in_block, in_arm}
use Rattle.m5_cps_convert.specs.Continuations.{Tail, goal_code, arm_code}
use Rattle.m5_cps_convert.specs.Convert.{cps}
use Rattle.m5_cps_convert.proofs.TypedSlots.{same_on, filled, needs_own, needs_on, Vars, vars_on, vars_with, own_captures}
use Rattle.m5_cps_convert.proofs.TypedKonts.{sc, entered_same, takes_on, reified_as, Fit, here_fit}
use Rattle.m5_cps_convert.proofs.TypedForms.{not_form}

module _ (E : Setting) where
  -- an arm, in its block or in one of its own; T is what the node's type is found to be
  arm_fits : (w : World) (A T : TypeExpression) (c : Expression) (G : Context) (Γ : VariableSlots) (d : ℕ) (S : Slots) (n l : ℕ) → Fit E c → T ≡ A → Typed E G w c A → Vars w G Γ S n → l < n → Needs S l (only w) (takes (of A)) → Fits E w n S (arm_code T (cps E c) (sc G Γ (only w) d) n l)
  arm_fits w A T c G Γ d S n l uc q t v j k = subst (λ T. Fits E w n S (arm_code T (cps E c) (sc G Γ (only w) d) n l)) (sym q) (at (nat_lt d 500))
    where
      at : (b : Bool) → Fits E w n S (if b then cps E c (in_arm (sc G Γ (only w) d)) n (Tail l) else closure (by_value (only w) (takes (of A))) (goal_code (cps E c) (in_block (only w) (sc G Γ (only w) d)) n) (block.ends (go n l)))
      at true = uc (only w) w G A Γ (suc d) S n (Tail l) refl t v (j, k)
      at false = (
        S,
        own_captures w S,
        uc (only w) w G A Γ 0 (entered_at w n (takes (takes (of A))) (takes (of A)) S) (suc (suc n)) (Tail (suc n)) refl t (vars_on w G Γ S _ n (suc (suc n)) (omega arith) (entered_same w n (takes (takes (of A))) (takes (of A)) S) v) (omega arith, needs_own (suc n) (only w) (takes (of A)) (fill n (only w) (takes (takes (of A))) S)),
        (takes (of A), needs_own n (only w) (takes (takes (of A))) S, needs_on n S (fill n (only w) (takes (takes (of A))) S) l (only w) (takes (of A)) j (filled n (only w) (takes (takes (of A))) S) k),
      )

  -- with what it binds in the next slot
  bound_arm_fits : (w : World) (A T : TypeExpression) (c : Expression) (z : ℕ) (G : Context) (B C : TypeExpression) (Γ : VariableSlots) (d : ℕ) (S : Slots) (n l : ℕ) → Fit E c → T ≡ A → B ≡ C → Typed E (with z (Some (local w B)) G) w c A → Vars w G Γ S n → l < n → Needs S l (only w) (takes (of A)) → Fits E w (suc n) (fill n (only w) (of C) S) (arm_code T (cps E c) (sc (with z (Some (local w B)) G) (put z (Some n) Γ) (only w) d) (suc n) l)
  bound_arm_fits w A T c z G B C Γ d S n l uc r q t v j k = arm_fits w A T c (with z (Some (local w B)) G) (put z (Some n) Γ) d (fill n (only w) (of C) S) (suc n) l uc r t
      (vars_with w G Γ _ (suc n) z n (local w B) (omega arith) (subst (λ T. Needs (fill n (only w) (of C) S) n (only w) (of T)) (sym q) (needs_own n (only w) (of C) S)) (vars_on w G Γ S _ n (suc n) (omega arith) (filled n (only w) (of C) S) v))
      (omega (arith, j)) (needs_on n S _ l (only w) _ j (filled n (only w) (of C) S) k)

  pub if_fit : (a c e : Expression) → Fit E a → Fit E c → Fit E e → Fit E (ternary ternary_form.If a c e)
  if_fit a c e ua uc ue = here_fit E _ not_form (λ w G A Γ d S n κ t v k. ua (only w) w G _ Γ d S n _ refl t.first v
      (λ R x p i h j k1. reified_as E w R p κ A (type_of E (ternary ternary_form.If a c e) G w) (λ k m. test if_true x (arm_code (type_of E (ternary ternary_form.If a c e) G w) (cps E c) (sc G Γ (only w) d) m k) (arm_code (type_of E (ternary ternary_form.If a c e) G w) (cps E e) (sc G Γ (only w) d) m k)) (found E (ternary ternary_form.If a c e) G w A t) (takes_on E w (only w) S R n p κ A i h k)
      (λ Q l q i2 h2 j2 k3.
      let v2 = vars_on w G Γ S Q n q (omega (arith, i, i2)) (same_on n p S R Q i h h2) v in
      let k2 = subst (λ T. Needs Q l (only w) (takes (of T))) t.is k3 in
      (needs_on p R Q x (only w) _ j h2 k1, arm_fits w _ (type_of E (ternary ternary_form.If a c e) G w) c G Γ d Q q l uc (found E (ternary ternary_form.If a c e) G w A t ∙ t.is) t.second v2 j2 k2, arm_fits w _ (type_of E (ternary ternary_form.If a c e) G w) e G Γ d Q q l ue (found E (ternary ternary_form.If a c e) G w A t ∙ t.is) t.third v2 j2 k2))))

  pub sum_fit : (y z : ℕ) (a c e : Expression) → Fit E a → Fit E c → Fit E e → Fit E (ternary (ternary_form.CaseSum y z) a c e)
  sum_fit y z a c e ua uc ue = here_fit E _ not_form (λ w G A Γ d S n κ t v k.
      let r = found E a G w _ t.first in
      let T = type_of E a G w in
      ua (only w) w G _ Γ d S n _ refl t.first v
      (λ R x p i h j k1. reified_as E w R p κ A (type_of E (ternary (ternary_form.CaseSum y z) a c e) G w) (λ k m. test if_left x (arm_code (type_of E (ternary (ternary_form.CaseSum y z) a c e) G w) (cps E c) (sc (with y (Some (local w (first_of T))) G) (put y (Some m) Γ) (only w) d) (suc m) k) (arm_code (type_of E (ternary (ternary_form.CaseSum y z) a c e) G w) (cps E e) (sc (with z (Some (local w (second_of T))) G) (put z (Some m) Γ) (only w) d) (suc m) k)) (found E (ternary (ternary_form.CaseSum y z) a c e) G w A t) (takes_on E w (only w) S R n p κ A i h k)
      (λ Q l q i2 h2 j2 k3.
      let v2 = vars_on w G Γ S Q n q (omega (arith, i, i2)) (same_on n p S R Q i h h2) v in
      let k2 = subst (λ T. Needs Q l (only w) (takes (of T))) t.is k3 in (
        t.pick.a,
        t.pick.c,
        needs_on p R Q x (only w) _ j h2 k1,
        bound_arm_fits w _ (type_of E (ternary (ternary_form.CaseSum y z) a c e) G w) c y G (first_of T) t.pick.a Γ d Q q l uc (found E (ternary (ternary_form.CaseSum y z) a c e) G w A t ∙ t.is) (ap first_of r) (second_arm_part (ternary_form.CaseSum y z) w t.pick _ _ (λ bounds C. Typed E (with_all (y ∷ []) bounds G) w c C) r t.second) v2 j2 k2,
        bound_arm_fits w _ (type_of E (ternary (ternary_form.CaseSum y z) a c e) G w) e z G (second_of T) t.pick.c Γ d Q q l ue (found E (ternary (ternary_form.CaseSum y z) a c e) G w A t ∙ t.is) (ap second_of r) (third_arm_part (ternary_form.CaseSum y z) w t.pick _ _ (λ bounds C. Typed E (with_all (z ∷ []) bounds G) w e C) r t.third) v2 j2 k2,
      ))))

  pub list_fit : (y z : ℕ) (a c e : Expression) → Fit E a → Fit E c → Fit E e → Fit E (ternary (ternary_form.CaseList y z) a c e)
  list_fit y z a c e ua uc ue = here_fit E _ not_form (λ w G A Γ d S n κ t v k.
      let r = found E a G w _ t.first in
      let T = type_of E a G w in
      ua (only w) w G _ Γ d S n _ refl t.first v
      (λ R x p i h j k1. reified_as E w R p κ A (type_of E (ternary (ternary_form.CaseList y z) a c e) G w) (λ k m. test if_nil x (arm_code (type_of E (ternary (ternary_form.CaseList y z) a c e) G w) (cps E c) (sc G Γ (only w) d) m k) (arm_code (type_of E (ternary (ternary_form.CaseList y z) a c e) G w) (cps E e) (sc (with z (Some (local w T)) (with y (Some (local w (content_of T))) G)) (put z (Some (suc m)) (put y (Some m) Γ)) (only w) d) (suc (suc m)) k)) (found E (ternary (ternary_form.CaseList y z) a c e) G w A t) (takes_on E w (only w) S R n p κ A i h k)
      (λ Q l q i2 h2 j2 k3.
      let v2 = vars_on w G Γ S Q n q (omega (arith, i, i2)) (same_on n p S R Q i h h2) v in
      let k2 = subst (λ T. Needs Q l (only w) (takes (of T))) t.is k3 in
      let Q1 = fill q (only w) (of t.pick.a) Q in
      let Q2 = fill (suc q) (only w) (of (list t.pick.a)) Q1 in
      let o1 = filled q (only w) (of t.pick.a) Q in
      let o2 = filled (suc q) (only w) (of (list t.pick.a)) Q1 in
      let o = same_on q (suc q) Q Q1 Q2 (omega arith) o1 o2 in (
        t.pick.a,
        needs_on p R Q x (only w) _ j h2 k1,
        arm_fits w _ (type_of E (ternary (ternary_form.CaseList y z) a c e) G w) c G Γ d Q q l uc (found E (ternary (ternary_form.CaseList y z) a c e) G w A t ∙ t.is) t.second v2 j2 k2,
        arm_fits w _ (type_of E (ternary (ternary_form.CaseList y z) a c e) G w) e _ _ d Q2 (suc (suc q)) l ue (found E (ternary (ternary_form.CaseList y z) a c e) G w A t ∙ t.is) (third_arm_part (ternary_form.CaseList y z) w t.pick _ _ (λ bounds C. Typed E (with_all (z ∷ y ∷ []) bounds G) w e C) r t.third)
            (vars_with w _ _ Q2 (suc (suc q)) z (suc q) (local w T) (omega arith) (subst (λ T. Needs Q2 (suc q) (only w) (of T)) (sym r) (needs_own (suc q) (only w) (of (list t.pick.a)) Q1))
            (vars_with w G Γ Q2 (suc (suc q)) y q (local w (content_of T)) (omega arith) (subst (λ T. Needs Q2 q (only w) (of (content_of T))) (sym r) (needs_on (suc q) Q1 Q2 q (only w) _ (omega arith) o2 (needs_own q (only w) (of t.pick.a) Q))) (vars_on w G Γ Q Q2 q (suc (suc q)) (omega arith) o v2)))
            (omega (arith, j2)) (needs_on q Q Q2 l (only w) _ j2 o k2),
      ))))
