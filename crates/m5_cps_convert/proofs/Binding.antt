-- Functions, and what is bound to a part's value or to what is in it.
use Rattle.std.proofs.Common.{◌≡◌, ℕ, suc, inl, inr, List, [], ◌∷◌, Some, refl, sym, subst, arith}
use Rattle.m5_terms.specs.TypeExpression.{TypeExpression}
use Rattle.m5_terms.specs.Expression.{Expression, unary, binary}
use Rattle.m5_terms.specs.Worlds.{IsSiteWorld}
use Rattle.m5_terms.specs.Substitution.{substituted}
use Rattle.m5_terms.specs.declared.types.World.{World}
use Rattle.m5_terms.specs.declared.thread.Frame.{Frame}
use Rattle.m5_terms.specs.declared.thread.Frame.TheVariants as frame
use Rattle.m5_terms.specs.declared.thread.Focus.TheVariants.{Eval, Returned}
use Rattle.m5_terms.specs.declared.form.UnaryForm.TheVariants as unary_form
use Rattle.m5_terms.specs.declared.form.BinaryForm.TheVariants as binary_form
use Rattle.m5_typing.specs.Context.{Bound}
use Rattle.m5_meaning.specs.Site.{Program}
use Rattle.m5_meaning.specs.Site as meaning
use Rattle.m5_cps.specs.Entries.{world_of}
use Rattle.m5_cps.specs.Values.{put}
use Rattle.m5_cps.specs.Deeds.{opened_held, opened_sham}
use Rattle.m5_cps.specs.Captured.{Value, Site}
use Rattle.m5_cps.specs.Running.{run}
use Rattle.m5_cps_convert.specs.Scopes.{Scope, bind, fn_scope, rec_scope}
use Rattle.m5_cps_convert.specs.Continuations.{body_code}
use Rattle.m5_cps_convert.specs.Convert.{cps}
use Rattle.m5_cps_convert.specs.Closing.{Values, hide, close}
use Rattle.m5_cps_convert.specs.Proper.{Proper}
use Rattle.m5_cps_convert.specs.Statics.{Static, SFirst}
use Rattle.m5_cps_convert.specs.Slots.{SVal, Fits, Frames}
use Rattle.m5_cps_convert.specs.Narrow.{Narrow}
use Rattle.m5_cps_convert.specs.Reading.{setting, Reads}
use Rattle.m5_typing.specs.Context.{local, valid}
use Rattle.m5_cps.specs.TypeParts.{content_of, place_of}
use Rattle.m5_cps_convert.specs.Convert.{type_in}
use Rattle.m5_cps_convert.proofs.Substitutions.{body_put}
use Rattle.m5_cps_convert.proofs.Slots.{In, Grows, put_grows, put_has, fits_on, fits_put, fits_fixed, frames_on}
use Rattle.m5_cps_convert.proofs.Meets.{W, code, rest, src, ticked, Tied, step_pays, behind, Meets, back, Resumes, Evals}
use Rattle.m5_cps_convert.proofs.Straight.{closure_evals}
use Rattle.m5_cps_convert.proofs.Heads.{Head, helds, shams, head_of}
use Rattle.m5_cps_convert.proofs.Parts.{begins, stands_here}

module _ (P : Program) (u : World) (site : IsSiteWorld u) where
  pub fn_evals : (x : ℕ) (A : TypeExpression) (b : Expression) → Evals P u (unary (unary_form.Fn x A) b)
  fn_evals x A b = record {
    by = λ K rs t s n ρ Γ γ fs w p st f fr h nr.
        closure_evals P u site _ (body_code (cps (setting P) b) (fn_scope x A n Γ) n) (close γ (unary (unary_form.Fn x A) b)) K rs t s n ρ fs w refl (inl (record { narrow = nr.1; scope = Γ; values = γ; x = x; parameter = A; body = b; proper = p.1; fits = f; code = refl; is = refl })) fr h nr;
  }

  pub rec_evals : (g x : ℕ) (A R : TypeExpression) (b : Expression) → Evals P u (unary (unary_form.Rec g x A R) b)
  rec_evals g x A R b = record {
    by = λ K rs t s n ρ Γ γ fs w p st f fr h nr.
        closure_evals P u site _ (body_code (cps (setting P) b) (rec_scope g x A R n Γ) n) (close γ (unary (unary_form.Rec g x A R) b)) K rs t s n ρ fs w refl (inr (record { narrow = nr.1; scope = Γ; values = γ; f = g; x = x; parameter = A; result = R; body = b; proper = p.1; fits = f; code = refl; is = refl })) fr h nr;
  }

  pub val_first : (z : ℕ) (a b : Expression) → Evals P u b → (K : Static) → Resumes P u K → (Γ : Scope) → Resumes P u (SFirst Γ (binary (binary_form.Val z) a b) K)
  val_first z a b eb K rs Γ = record {
    by = λ t s n ρ fs w x v fr has h nr.
        let γ1 : Values = put z (Some v) fr.values in
        let b1 : Expression = close (hide (z ∷ []) fr.values) b in
        let Δ : Scope = bind z (local (world_of Γ.mode) (type_in (setting P) a Γ)) x Γ in
        let body : substituted z v b1 ≡ close γ1 b = body_put b z v fr.values (fits_fixed P ρ n Γ fr.values fr.fits) in
        subst (λ y. Meets P u (run u (code P b Δ n K) n ρ t) (src s y (Returned w v))) (sym fr.is)
        (back P u _ _ (src (ticked P 0 s) fr.below (Eval fr.world (substituted z v b1))) refl
        (subst (λ y. Meets P u (run u (code P b Δ n K) n ρ t) (src (ticked P 0 s) fr.below (Eval fr.world y))) (sym body)
        (eb.by K rs t (ticked P 0 s) n ρ Δ γ1 fr.below fr.world fr.proper.1 (inl (stands_here u fr.world (binary (binary_form.Val z) a b) refl fr.stands)) (fits_put (In P ρ) n Γ fr.values z x (local (world_of Γ.mode) (type_in (setting P) a Γ)) v fr.fits has) fr.rest (behind 0 1 (step_pays 0 h (omega arith)) (omega arith)) nr)));
  }

  pub val_evals : (z : ℕ) (a b : Expression) → Evals P u a → Evals P u b → Evals P u (binary (binary_form.Val z) a b)
  val_evals z a b ea eb = begins P u site (binary (binary_form.Val z) a b) a (λ w. w) (λ Γ. Γ) (λ Γ. refl) ea (λ Γ n K. refl) (λ s fs w γ. refl) (omega arith) (λ K. tt) (λ p. p.0) (λ w p st. inl (stands_here u w (binary (binary_form.Val z) a b) refl st)) (val_first z a b eb)

  pub put_first : (z : ℕ) (a b : Expression) → Evals P u b → (K : Static) → Resumes P u K → (Γ : Scope) → Resumes P u (SFirst Γ (binary (binary_form.Put z) a b) K)
  put_first z a b eb K rs Γ = record {
    by = λ t s n ρ fs w x v fr has h nr.
        let γ1 : Values = put z (Some v) fr.values in
        let b1 : Expression = close (hide (z ∷ []) fr.values) b in
        let Δ : Scope = bind z (valid (type_in (setting P) a Γ)) x Γ in
        let body : substituted z v b1 ≡ close γ1 b = body_put b z v fr.values (fits_fixed P ρ n Γ fr.values fr.fits) in
        subst (λ y. Meets P u (run u (code P b Δ n K) n ρ t) (src s y (Returned w v))) (sym fr.is)
        (back P u _ _ (src (ticked P 0 s) fr.below (Eval fr.world (substituted z v b1))) refl
        (subst (λ y. Meets P u (run u (code P b Δ n K) n ρ t) (src (ticked P 0 s) fr.below (Eval fr.world y))) (sym body)
        (eb.by K rs t (ticked P 0 s) n ρ Δ γ1 fr.below fr.world fr.proper.1 (inl (stands_here u fr.world (binary (binary_form.Put z) a b) refl fr.stands)) (fits_put (In P ρ) n Γ fr.values z x (valid (type_in (setting P) a Γ)) v fr.fits has) fr.rest (behind 0 1 (step_pays 0 h (omega arith)) (omega arith)) nr)));
  }

  pub put_evals : (z : ℕ) (a b : Expression) → Evals P u a → Evals P u b → Evals P u (binary (binary_form.Put z) a b)
  put_evals z a b ea eb = begins P u site (binary (binary_form.Put z) a b) a (λ w. w) (λ Γ. Γ) (λ Γ. refl) ea (λ Γ n K. refl) (λ s fs w γ. refl) (omega arith) (λ K. tt) (λ p. p.0) (λ w p st. inl (stands_here u w (binary (binary_form.Put z) a b) refl st)) (put_first z a b eb)

  pub do_first : (a b : Expression) → Evals P u b → (K : Static) → Resumes P u K → (Γ : Scope) → Resumes P u (SFirst Γ (binary binary_form.Do a b) K)
  do_first a b eb K rs Γ = record {
    by = λ t s n ρ fs w x v fr has h nr.
        subst (λ y. Meets P u (run u (code P b Γ n K) n ρ t) (src s y (Returned w v))) (sym fr.is)
        (back P u _ _ (src (ticked P 0 s) fr.below (Eval fr.world (close fr.values b))) refl
        (eb.by K rs t (ticked P 0 s) n ρ Γ fr.values fr.below fr.world fr.proper.1 (inl (stands_here u fr.world (binary binary_form.Do a b) refl fr.stands)) fr.fits fr.rest (behind 0 1 (step_pays 0 h (omega arith)) (omega arith)) nr));
  }

  pub do_evals : (a b : Expression) → Evals P u a → Evals P u b → Evals P u (binary binary_form.Do a b)
  do_evals a b ea eb = begins P u site (binary binary_form.Do a b) a (λ w. w) (λ Γ. Γ) (λ Γ. refl) ea (λ Γ n K. refl) (λ s fs w γ. refl) (omega arith) (λ K. tt) (λ p. p.0) (λ w p st. inl (stands_here u w (binary binary_form.Do a b) refl st)) (do_first a b eb)

  -- what is in a value fills the next slot, and is bound
  pub opened_bound : (z : ℕ) (e : Expression) → Evals P u e → (K : Static) → Resumes P u K → (c : Value) (v : Expression) (t : Site) (s : meaning.Site) (n : ℕ) (ρ : ℕ → Value) (Γ : Scope) (b : Bound) (γ : Values) (fs : List Frame) (w : World) → Reads P c (SVal v) → w ≡ u → Proper e → Fits (In P ρ) n Γ γ → Frames u (In P ρ) n K fs → Tied P u 1 0 t s → Narrow (W P) (code P e (bind z b n Γ) (suc n) K) (suc n) → Meets P u (run u (code P e (bind z b n Γ) (suc n) K) (suc n) (put n c ρ) t) (src s fs (Eval w (substituted z v (close (hide (z ∷ []) γ) e))))
  opened_bound z e ee K rs c v t s n ρ Γ b γ fs w r we p f fr h nr =
      let g : Grows (In P ρ) n (In P (put n c ρ)) (suc n) = put_grows P ρ n c in
      subst (λ y. Meets P u (run u (code P e (bind z b n Γ) (suc n) K) (suc n) (put n c ρ) t) (src s fs (Eval w y))) (sym (body_put e z v γ (fits_fixed P ρ n Γ γ f)))
      (ee.by K rs t s (suc n) (put n c ρ) (bind z b n Γ) (put z (Some v) γ) fs w p (inl we) (fits_put (In P (put n c ρ)) (suc n) Γ γ z n b v (fits_on Γ γ g f) (put_has P ρ n c (SVal v) r)) (frames_on u K fs g fr) h nr)

  module _ (z : ℕ) (a b : Expression) (eb : Evals P u b) (K : Static) (rs : Resumes P u K) (Γ : Scope) (t : Site) (s : meaning.Site) (n : ℕ) (ρ : ℕ → Value) (γ : Values) (fs : List Frame) (x w : World) (xe : x ≡ u) (p : Proper b) (f : Fits (In P ρ) n Γ γ) (fr : Frames u (In P ρ) n K fs) (h : Tied P u 1 0 t s) where
    abbrev leta_scope : Scope
    leta_scope = bind z (local (place_of (type_in (setting P) a Γ)) (content_of (type_in (setting P) a Γ))) n Γ

    leta_head : Narrow (W P) (code P b leta_scope (suc n) K) (suc n) → {d : Value} {v : Expression} → Head P d v → Meets P u (opened_held d (λ c. run u (code P b leta_scope (suc n) K) (suc n) (put n c ρ) t)) (src s (frame.Part x (binary (binary_form.Leta z) (close γ a) (close (hide (z ∷ []) γ) b)) 0 ∷ fs) (Returned w v))
    leta_head nr (helds x1 c v1 r) = back P u _ _ (src (ticked P 0 s) fs (Eval x (substituted z v1 (close (hide (z ∷ []) γ) b)))) refl (opened_bound z b eb K rs c v1 t (ticked P 0 s) n ρ Γ (local (place_of (type_in (setting P) a Γ)) (content_of (type_in (setting P) a Γ))) γ fs x r xe p f fr (behind 0 1 (step_pays 0 h (omega arith)) (omega arith)) nr)
    leta_head nr _ = record { steps = 0; at = src s (frame.Part x (binary (binary_form.Leta z) (close γ a) (close (hide (z ∷ []) γ) b)) 0 ∷ fs) (Returned w _); comes = refl; stuck = refl }

  pub leta_first : (z : ℕ) (a b : Expression) → Evals P u b → (K : Static) → Resumes P u K → (Γ : Scope) → Resumes P u (SFirst Γ (binary (binary_form.Leta z) a b) K)
  leta_first z a b eb K rs Γ = record {
    by = λ t s n ρ fs w x v fr has h nr.
        subst (λ y. Meets P u (run u (rest P (SFirst Γ (binary (binary_form.Leta z) a b) K) x n) n ρ t) (src s y (Returned w v))) (sym fr.is)
        (leta_head z a b eb K rs Γ t s n ρ fr.values fr.below fr.world w (stands_here u fr.world (binary (binary_form.Leta z) a b) refl fr.stands) fr.proper.1 fr.fits fr.rest h nr (head_of P (ρ x) v has.1));
  }

  pub leta_evals : (z : ℕ) (a b : Expression) → Evals P u a → Evals P u b → Evals P u (binary (binary_form.Leta z) a b)
  leta_evals z a b ea eb = begins P u site (binary (binary_form.Leta z) a b) a (λ w. w) (λ Γ. Γ) (λ Γ. refl) ea (λ Γ n K. refl) (λ s fs w γ. refl) (omega arith) (λ K. tt) (λ p. p.0) (λ w p st. inl (stands_here u w (binary (binary_form.Leta z) a b) refl st)) (leta_first z a b eb)

  module _ (z : ℕ) (a b : Expression) (eb : Evals P u b) (K : Static) (rs : Resumes P u K) (Γ : Scope) (t : Site) (s : meaning.Site) (n : ℕ) (ρ : ℕ → Value) (γ : Values) (fs : List Frame) (x w : World) (xe : x ≡ u) (p : Proper b) (f : Fits (In P ρ) n Γ γ) (fr : Frames u (In P ρ) n K fs) (h : Tied P u 1 0 t s) where
    abbrev lets_scope : Scope
    lets_scope = bind z (valid (content_of (type_in (setting P) a Γ))) n Γ

    lets_head : Narrow (W P) (code P b lets_scope (suc n) K) (suc n) → {d : Value} {v : Expression} → Head P d v → Meets P u (opened_sham d (λ c. run u (code P b lets_scope (suc n) K) (suc n) (put n c ρ) t)) (src s (frame.Part x (binary (binary_form.Lets z) (close γ a) (close (hide (z ∷ []) γ) b)) 0 ∷ fs) (Returned w v))
    lets_head nr (shams c v1 r) = back P u _ _ (src (ticked P 0 s) fs (Eval x (substituted z v1 (close (hide (z ∷ []) γ) b)))) refl (opened_bound z b eb K rs c v1 t (ticked P 0 s) n ρ Γ (valid (content_of (type_in (setting P) a Γ))) γ fs x r xe p f fr (behind 0 1 (step_pays 0 h (omega arith)) (omega arith)) nr)
    lets_head nr _ = record { steps = 0; at = src s (frame.Part x (binary (binary_form.Lets z) (close γ a) (close (hide (z ∷ []) γ) b)) 0 ∷ fs) (Returned w _); comes = refl; stuck = refl }

  pub lets_first : (z : ℕ) (a b : Expression) → Evals P u b → (K : Static) → Resumes P u K → (Γ : Scope) → Resumes P u (SFirst Γ (binary (binary_form.Lets z) a b) K)
  lets_first z a b eb K rs Γ = record {
    by = λ t s n ρ fs w x v fr has h nr.
        subst (λ y. Meets P u (run u (rest P (SFirst Γ (binary (binary_form.Lets z) a b) K) x n) n ρ t) (src s y (Returned w v))) (sym fr.is)
        (lets_head z a b eb K rs Γ t s n ρ fr.values fr.below fr.world w (stands_here u fr.world (binary (binary_form.Lets z) a b) refl fr.stands) fr.proper.1 fr.fits fr.rest h nr (head_of P (ρ x) v has.1));
  }

  pub lets_evals : (z : ℕ) (a b : Expression) → Evals P u a → Evals P u b → Evals P u (binary (binary_form.Lets z) a b)
  lets_evals z a b ea eb = begins P u site (binary (binary_form.Lets z) a b) a (λ w. w) (λ Γ. Γ) (λ Γ. refl) ea (λ Γ n K. refl) (λ s fs w γ. refl) (omega arith) (λ K. tt) (λ p. p.0) (λ w p st. inl (stands_here u w (binary (binary_form.Lets z) a b) refl st)) (lets_first z a b eb)
