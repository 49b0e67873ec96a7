-- Nodes with parts: how they begin, and how they go to their second part.
use Rattle.std.proofs.Common.{◌≡◌, ℕ, ◌≤◌, inl, inr, List, ◌∷◌, refl, sym, ap, ◌∙◌, subst, arith, false}
use Rattle.m5_terms.specs.Expression.{Expression, binary}
use Rattle.m5_terms.specs.Worlds.{IsSiteWorld}
use Rattle.m5_terms.specs.declared.types.World.{World}
use Rattle.m5_terms.specs.declared.thread.Frame.{Frame}
use Rattle.m5_terms.specs.declared.thread.Frame.TheVariants as frame
use Rattle.m5_terms.specs.declared.thread.Focus.TheVariants.{Eval, Returned}
use Rattle.m5_terms.specs.declared.form.BinaryForm.{BinaryForm}
use Rattle.m5_meaning.specs.Site.{Program}
use Rattle.m5_meaning.specs.Site as meaning
use Rattle.m5_cps.specs.Captured.{Value}
use Rattle.m5_cps.specs.Running.{run}
use Rattle.m5_cps_convert.specs.Scopes.{Scope}
use Rattle.m5_cps_convert.specs.Closing.{Values, hide, close}
use Rattle.m5_cps_convert.specs.Proper.{Proper, StandsAt}
use Rattle.m5_cps_convert.specs.Statics.{Static, SFirst, SSecond, kont, IsSlotted, first_rest}
use Rattle.m5_cps_convert.specs.Slots.{FitsAt, Fits}
use Rattle.m5_cps_convert.specs.Narrow.{Narrow}
use Rattle.m5_cps_convert.specs.Reading.{setting}
use Rattle.m5_terms.specs.Substitution.{binary_binders}
use Rattle.m5_meaning.specs.Parts.{parts, binary_parts}
use Rattle.m5_typing.specs.Value.{is_value_form}
use Rattle.m5_cps_convert.proofs.Slots.{In}
use Rattle.m5_cps_convert.proofs.Meets.{W, code, src, ticked, step_pays, behind, Meets, back, Resumes, Evals}
use Rattle.m5_cps_convert.proofs.Straight.{Goes}

-- a term that is no value form stands at the site's world
pub stands_here : (u w : World) (e : Expression) → (is_value_form e ≡ false) → StandsAt u w e → w ≡ u
stands_here u w e q (inl p) = p
stands_here u w e q (inr p) = absurd (cc)

-- what keeps the variables' slots
abbrev pub SameSlots : (Scope → Scope) → Type 0
SameSlots sc = (Γ : Scope) → (sc Γ).slots ≡ Γ.slots

pub fits_same : (P : Program) (ρ : ℕ → Value) (n : ℕ) (Γ Δ : Scope) (γ : Values) → Δ.slots ≡ Γ.slots → Fits (In P ρ) n Γ γ → Fits (In P ρ) n Δ γ
fits_same P ρ n Γ Δ γ e f = λ x. subst (λ s. FitsAt (In P ρ) n (s x) (γ x)) (sym e) (f x)

module _ (P : Program) (u : World) (site : IsSiteWorld u) where
  -- a node begins with its first part, in the scope that it makes for it
  pub begins : (e a : Expression) (inner : World → World) (sc : Scope → Scope) → SameSlots sc → Evals P u a → ((Γ : Scope) (n : ℕ) (K : Static) → code P e Γ n K ≡ code P a (sc Γ) n (SFirst Γ e K)) →
      ((s : meaning.Site) (fs : List Frame) (w : World) (γ : Values) → Goes P u site (src s fs (Eval w (close γ e))) (src (ticked P 0 s) (frame.Part w (close γ e) 0 ∷ fs) (Eval (inner w) (close γ a)))) → 1 ≤ parts e →
      ((K : Static) → IsSlotted e K) → (Proper e → Proper a) → ((w : World) → Proper e → StandsAt u w e → StandsAt u (inner w) a) → ((K : Static) → Resumes P u K → (Γ : Scope) → Resumes P u (SFirst Γ e K)) → Evals P u e
  begins e a inner sc keeps ea same starts some slotted proper stands rf = record {
    by = λ K rs t s n ρ Γ γ fs w p st f fr h nr.
        let first : Meets P u (run u (code P a (sc Γ) n (SFirst Γ e K)) n ρ t) (src s fs (Eval w (close γ e))) =
        back P u _ _ (src (ticked P 0 s) (frame.Part w (close γ e) 0 ∷ fs) (Eval (inner w) (close γ a))) (starts s fs w γ)
        (ea.by (SFirst Γ e K) (rf K rs Γ) t (ticked P 0 s) n ρ (sc Γ) γ (frame.Part w (close γ e) 0 ∷ fs) (inner w) (proper p) (stands w p st) (fits_same P ρ n Γ (sc Γ) γ (keeps Γ) f) (record { world = w; values = γ; below = fs; has_part = some; slotted = slotted K; proper = p; stands = st; fits = f; is = refl; rest = fr }) (behind 0 1 (step_pays 0 h (omega arith)) (omega arith)) (subst (λ c. Narrow (W P) c n) (same Γ n K) nr)) in
        subst (λ c. Meets P u (run u c n ρ t) (src s fs (Eval w (close γ e)))) (sym (same Γ n K)) first;
  }

  -- then comes its second part
  pub goes_second : (f : BinaryForm) (a b : Expression) → Evals P u b → ((Γ : Scope) (x n : ℕ) (K : Static) → first_rest (setting P) (binary f a b) Γ x n (kont (setting P) K) ≡ code P b Γ n (SSecond Γ (binary f a b) x K)) →
      ((s : meaning.Site) (fs : List Frame) (x w : World) (c d v : Expression) → Goes P u site (src s (frame.Part x (binary f c d) 0 ∷ fs) (Returned w v)) (src (ticked P 0 s) (frame.Part x (binary f v d) 1 ∷ fs) (Eval x d))) → binary_parts f ≡ 2 →
      ((γ : Values) → close (hide (binary_binders f) γ) b ≡ close γ b) → ((w : World) → StandsAt u w (binary f a b) → StandsAt u w b) → ((K : Static) → Resumes P u K → (Γ : Scope) (x : ℕ) → Resumes P u (SSecond Γ (binary f a b) x K)) →
      (K : Static) → Resumes P u K → (Γ : Scope) → Resumes P u (SFirst Γ (binary f a b) K)
  goes_second f a b eb same steps two bare stands rf K rs Γ = record {
    by = λ t s n ρ fs w x v fr has h nr.
        let a1 : Expression = close fr.values a in
        let b1 : Expression = close fr.values b in
        let at : src s fs (Returned w v) ≡ src s (frame.Part fr.world (binary f a1 b1) 0 ∷ fr.below) (Returned w v) = ap (λ y. src s y (Returned w v)) fr.is ∙ ap (λ y. src s (frame.Part fr.world (binary f a1 y) 0 ∷ fr.below) (Returned w v)) (bare fr.values) in
        let second : Meets P u (run u (code P b Γ n (SSecond Γ (binary f a b) x K)) n ρ t) (src s (frame.Part fr.world (binary f a1 b1) 0 ∷ fr.below) (Returned w v)) =
        back P u _ _ (src (ticked P 0 s) (frame.Part fr.world (binary f v b1) 1 ∷ fr.below) (Eval fr.world b1)) (steps s fr.below fr.world w a1 b1 v)
        (eb.by (SSecond Γ (binary f a b) x K) (rf K rs Γ x) t (ticked P 0 s) n ρ Γ fr.values (frame.Part fr.world (binary f v b1) 1 ∷ fr.below) fr.world fr.proper.1 (stands fr.world fr.stands) fr.fits (record { world = fr.world; values = fr.values; first = v; below = fr.below; has_parts = two; stands = fr.stands; has = has; is = ap (λ y. frame.Part fr.world (binary f v y) 1 ∷ fr.below) (sym (bare fr.values)); rest = fr.rest }) (behind 0 1 (step_pays 0 h (omega arith)) (omega arith)) (subst (λ c. Narrow (W P) c n) (same Γ x n K) nr)) in
        subst (λ c. Meets P u (run u c n ρ t) (src s fs (Returned w v))) (sym (same Γ x n K)) (subst (Meets P u (run u (code P b Γ n (SSecond Γ (binary f a b) x K)) n ρ t)) (sym at) second);
  }
