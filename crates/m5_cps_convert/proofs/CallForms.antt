-- Calls: of a primitive by its name, and of what a slot has.
use Rattle.std.proofs.Common.{inl, ◌≡◌, ◌∷◌, refl, sym, subst, arith}
use Rattle.m5_terms.specs.Expression.{Expression, leaf, binary}
use Rattle.m5_terms.specs.Worlds.{IsSiteWorld}
use Rattle.m5_terms.specs.declared.types.World.{World}
use Rattle.m5_terms.specs.declared.types.Primitive.{Primitive}
use Rattle.m5_terms.specs.declared.thread.Frame.TheVariants as frame
use Rattle.m5_terms.specs.declared.thread.Focus.TheVariants.{Eval, Returned}
use Rattle.m5_terms.specs.declared.form.LeafForm.TheVariants as leaf_form
use Rattle.m5_terms.specs.declared.form.BinaryForm.TheVariants as binary_form
use Rattle.m5_meaning.specs.Site.{Program}
use Rattle.m5_cps.specs.Running.{run}
use Rattle.m5_cps_convert.specs.Scopes.{Scope}
use Rattle.m5_cps_convert.specs.Closing.{close}
use Rattle.m5_cps_convert.specs.Statics.{Static, SFirst, SArgument}
use Rattle.m5_cps_convert.specs.Slots.{SVal}
use Rattle.m5_cps_convert.specs.Statics.{direct_call}
use Rattle.m5_cps_convert.proofs.Slots.{has_on}
use Rattle.m5_cps_convert.proofs.Meets.{code, rest, src, ticked, step_pays, behind, Meets, back, Evals, Resumes}
use Rattle.m5_cps_convert.proofs.Parts.{begins, goes_second, stands_here}
use Rattle.m5_cps_convert.proofs.Calls.{closure_room, AsksMeet, reified, call_done}

module _ (P : Program) (u : World) (site : IsSiteWorld u) (ps : (p : Primitive) → AsksMeet P u site p) where
  pub call_first : (a b : Expression) → Evals P u b → (K : Static) → Resumes P u K → (Γ : Scope) → Resumes P u (SFirst Γ (binary binary_form.Call a b) K)
  call_first a b eb = goes_second P u site binary_form.Call a b eb (λ Γ x n K. refl) (λ s fs x w c d v. refl) refl (λ γ. refl) (λ w st. inl (stands_here u w (binary binary_form.Call a b) refl st)) (call_done P u site ps a b)

  -- a primitive has its argument
  pub argument_done : (p : Primitive) (b : Expression) (K : Static) → Resumes P u K → (Γ : Scope) → Resumes P u (SArgument Γ p b K)
  argument_done p b K rs Γ = record {
    by = λ t s n ρ fs w y v fr has h nr.
        subst (λ z. Meets P u (run u (rest P (SArgument Γ p b K) y n) n ρ t) (src s z (Returned w v))) (sym fr.is)
        (reified P u site _ _ K n ρ fr.below _ t s _ (Returned w v) h fr.rest nr (λ l m σ t1 gr hl h1 n1.
        ps p (σ y) (σ l) fr.argument v t1 s fr.below u w (has_on y (SVal v) gr has).1 hl.1 refl (closure_room P u site) (omega (arith, n1)) h1));
  }

  direct_evals : (p : Primitive) (b : Expression) → Evals P u b → Evals P u (direct_call p b)
  direct_evals p b eb = record {
    by = λ K rs t s n ρ Γ γ fs w pr st f fr h nr.
        let e1 : Expression = direct_call p (close γ b) in
        let we : w ≡ u = stands_here u w (direct_call p b) refl st in
        subst (λ x. Meets P u (run u (code P b Γ n (SArgument Γ p b K)) n ρ t) (src s fs (Eval x e1))) (sym we)
        (back P u _ _ (src (ticked P 0 s) (frame.Part u e1 0 ∷ fs) (Eval u (leaf (leaf_form.Extern p)))) refl
        (back P u _ _ (src (ticked P 0 (ticked P 0 s)) (frame.Part u e1 0 ∷ fs) (Returned u (leaf (leaf_form.Extern p)))) refl
        (back P u _ _ (src (ticked P 0 (ticked P 0 (ticked P 0 s))) (frame.Part u e1 1 ∷ fs) (Eval u (close γ b))) refl
        (eb.by (SArgument Γ p b K) (argument_done p b K rs Γ) t (ticked P 0 (ticked P 0 (ticked P 0 s))) n ρ Γ γ (frame.Part u e1 1 ∷ fs) u pr.1 (inl refl) f (record { argument = close γ b; below = fs; is = refl; rest = fr })
        (behind 0 1 (step_pays 0 (behind 0 1 (step_pays 0 (behind 0 1 (step_pays 0 h (omega arith)) (omega arith)) (omega arith)) (omega arith)) (omega arith)) (omega arith)) nr))));
  }

  pub call_evals : (a b : Expression) → Evals P u a → Evals P u b → Evals P u (binary binary_form.Call a b)
  call_evals (leaf (leaf_form.Extern p)) b ea eb = direct_evals p b eb
  call_evals a b ea eb = begins P u site (binary binary_form.Call a b) a (λ w. w) (λ Γ. Γ) (λ Γ. refl) ea (λ Γ n K. refl) (λ s fs w γ. refl) (omega arith) (λ K. tt) (λ p. p.0) (λ w p st. inl (stands_here u w (binary binary_form.Call a b) refl st)) (call_first a b eb)
