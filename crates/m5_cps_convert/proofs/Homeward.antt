-- A get whose block goes with its continuation, and sends its value home.
use Rattle.std.proofs.Common.{◌≡◌, ℕ, suc, ◌+◌, inr, List, ◌∷◌, None, false, refl, sym, ap, ◌∙◌, subst, arith, if◌then◌else◌}
use Rattle.std.proofs.lemmas.List.Sums.{sum_by-cons}
use Rattle.m5_terms.specs.TypeExpression.{address, same_world}
use Rattle.m5_terms.specs.Expression.{Expression, leaf, binary}
use Rattle.m5_terms.specs.Worlds.{IsSiteWorld}
use Rattle.m5_terms.specs.Size.{frame_size}
use Rattle.m5_terms.specs.declared.ask.AskOf.TheVariants as query
use Rattle.m5_terms.specs.declared.types.World.{World}
use Rattle.m5_terms.specs.declared.thread.Frame.{Frame}
use Rattle.m5_terms.specs.declared.thread.Frame.TheVariants as frame
use Rattle.m5_terms.specs.declared.thread.Focus.TheVariants.{Eval, Returned}
use Rattle.m5_terms.specs.declared.form.LeafForm.TheVariants as leaf_form
use Rattle.m5_terms.specs.declared.form.BinaryForm.TheVariants as binary_form
use Rattle.m5_meaning.specs.Site.{Program}
use Rattle.m5_meaning.specs.Site as meaning
use Rattle.m5_meaning.specs.Step.{thread_of, outcome}
use Rattle.m5_meaning.specs.Step as meaning_step
use Rattle.m5_meaning.specs.Reduction as reduction
use Rattle.m5_cps.specs.Entries.{of, only, by_value}
use Rattle.m5_cps.specs.Blocks.{Code, straight, closure, constant, send}
use Rattle.m5_cps.specs.Blocks as block
use Rattle.m5_cps.specs.Values.{atom, closed, enter, put}
use Rattle.m5_cps.specs.Values as value
use Rattle.m5_cps.specs.Units.{closure_units}
use Rattle.m5_cps.specs.Asks.{sent}
use Rattle.m5_cps.specs.Captured.{over, Value, Site, captured}
use Rattle.m5_cps.specs.Running.{run}
use Rattle.m5_cps_convert.specs.Scopes.{Scope, in_block}
use Rattle.m5_cps_convert.specs.Forms.{homeward, variable_of}
use Rattle.m5_cps_convert.specs.Convert.{cps}
use Rattle.m5_cps_convert.specs.Closing.{Values, close}
use Rattle.m5_cps_convert.specs.Proper.{Proper}
use Rattle.m5_cps_convert.specs.Statics.{SHome}
use Rattle.m5_cps_convert.specs.Slots.{SKont, SStart, Has, Fits}
use Rattle.m5_cps_convert.specs.Narrow.{Narrow}
use Rattle.m5_cps_convert.specs.Reading.{setting, Reads}
use Rattle.m5_cps_convert.specs.Threads.{ReadsItem}
use Rattle.m5_cps_convert.proofs.Substitutions.{put_same, put_other}
use Rattle.m5_cps_convert.proofs.Slots.{In, Grows, grows_on, put_grows, has_on, fits_on}
use Rattle.m5_cps_convert.proofs.Meets.{W, src, Tied, step_pays, lent, Meets}
use Rattle.m5_cps_convert.proofs.Weights.{least}
use Rattle.m5_cps_convert.proofs.Straight.{object_made}
use Rattle.m5_cps_convert.proofs.Ends.{after_sent_reads}
use Rattle.m5_cps_convert.proofs.Light.{home_light}

-- the block that goes, where the own address fills slot n and the other one the next
abbrev goer : Program → World → Expression → Scope → ℕ → ℕ → World → Code
goer P v b Γ k n w = cps (setting P) b (in_block (only v) Γ) (suc (suc (suc (suc n)))) (homeward w k)

abbrev pub home_code : Program → World → Expression → Scope → ℕ → ℕ → World → Code
home_code P v b Γ k n w = straight (constant (leaf_form.Addr v)) (closure (by_value (only v) (of (address w))) (goer P v b Γ k n w) (block.ends (send (suc n) (suc (suc n)) n)))

module _ (P : Program) (u : World) (site : IsSiteWorld u) (v : World) (b : Expression) (Γ : Scope) (γ : Values) (k n : ℕ) (ρ : ℕ → Value) (fs : List Frame) (unnamed : variable_of b ≡ None) (proper : Proper b) (elsewhere : same_world v u ≡ false) (fits : Fits (In P ρ) n Γ γ) (hk : Has (In P ρ) n k (SKont u fs)) where
  abbrev ρ1 : ℕ → Value
  ρ1 = put n (atom (leaf_form.Addr u)) ρ

  abbrev ρ2 : ℕ → Value
  ρ2 = put (suc n) (atom (leaf_form.Addr v)) ρ1

  abbrev goes : Value
  goes = closed (over (by_value (only v) (of (address u))) (suc (suc n)) (goer P v b Γ k n u)) ρ2

  abbrev ρ3 : ℕ → Value
  ρ3 = put (suc (suc n)) goes ρ2

  grown : Grows (In P ρ) n (In P ρ2) (suc (suc n))
  grown = grows_on (put_grows P ρ n (atom (leaf_form.Addr u))) (put_grows P ρ1 (suc n) (atom (leaf_form.Addr v)))

  abbrev b1 : Expression
  b1 = close γ b

  starts : Narrow (W P) (goer P v b Γ k n u) (suc (suc (suc (suc n)))) → Reads P goes (SStart v (frame.Return u ∷ fs) b1)
  starts nr = record { narrow = nr; scope = in_block (only v) Γ; values = γ; node = b; proper = proper; fits = fits_on Γ γ grown fits; static = SHome u k; code = refl; frames = record { below = fs; continuation = has_on k (SKont u fs) grown hk; is = refl }; is = refl }

  item : Narrow (W P) (goer P v b Γ k n u) (suc (suc (suc (suc n)))) → ReadsItem P v (value.thread (enter goes (atom (leaf_form.Addr u)))) (meaning.thread (thread_of (frame.Return u ∷ fs) (Eval v b1)))
  item nr = (inr (inr (inr (record { frames = frame.Return u ∷ fs; node = b1; start = starts nr; is = refl }))), omega (arith, home_light P (suc (suc n)) (only v) (of (address u)) ρ2 (in_block (only v) Γ) γ b u k fs (fits_on Γ γ grown fits) unnamed (has_on k (SKont u fs) grown hk).1, sum_by-cons frame_size (frame.Return u) fs))

  module _ (s : meaning.Site) (x w : World) (xe : x ≡ u) where
    abbrev pub at : meaning.Site
    at = src s (frame.Part x (binary binary_form.Get (leaf (leaf_form.Addr v)) b1) 0 ∷ fs) (Returned w (leaf (leaf_form.Addr v)))

    next_is : meaning_step.site_next P u at ≡ outcome P u at s.threads fs x (reduction.leaves v b1)
    next_is = ap (λ y. outcome P u at s.threads fs x (if y then reduction.goes_on b1 else reduction.leaves v b1)) elsewhere

    sends : (t : Site) → Tied P u 1 (2 + W P) t s → Narrow (W P) (goer P v b Γ k n u) (suc (suc (suc (suc n)))) → Meets P u (sent t (atom (leaf_form.Addr v)) (enter goes (atom (leaf_form.Addr u)))) at
    sends t h nr = record { steps = 0; waiting = at; comes = refl; ask = query.Send v (meaning.thread (thread_of (frame.Return x ∷ fs) (Eval v b1))); resume_ = meaning_step.after_done P at s.threads; asking = next_is; reads = (meaning.thread (thread_of (frame.Return x ∷ fs) (Eval v b1)), subst (λ o. ReadsItem P v (value.thread (enter goes (atom (leaf_form.Addr u)))) (meaning.thread (thread_of (frame.Return o ∷ fs) (Eval v b1)))) (sym xe) (item nr), refl); after = λ r to c e ra. after_sent_reads P u site t s at (step_pays 0 h (omega arith)) refl r to c e ra }

    pub home_meets : (t : Site) → Tied P u 1 0 t s → Narrow (W P) (home_code P v b Γ k n u) (suc n) → Meets P u (run u (home_code P v b Γ k n u) (suc n) ρ1 t) at
    home_meets t h nr =
        let own : ρ3 n ≡ atom (leaf_form.Addr u) = put_other (suc (suc n)) n goes ρ2 (omega arith) ∙ put_other (suc n) n (atom (leaf_form.Addr v)) ρ1 (omega arith) ∙ put_same n (atom (leaf_form.Addr u)) ρ in
        let far : ρ3 (suc n) ≡ atom (leaf_form.Addr v) = put_other (suc (suc n)) (suc n) goes ρ2 (omega arith) ∙ put_same (suc n) (atom (leaf_form.Addr v)) ρ1 in
        let code : ρ3 (suc (suc n)) ≡ goes = put_same (suc (suc n)) goes ρ2 in
        object_made P u site 1 0 0 (closure_units (captured (suc (suc n)) (goer P v b Γ k n u))) t s (frame.Part x (binary binary_form.Get (leaf (leaf_form.Addr v)) b1) 0 ∷ fs) (Returned w (leaf (leaf_form.Addr v))) (λ t1. sent t1 (ρ3 (suc n)) (enter (ρ3 (suc (suc n))) (ρ3 n))) h (least P u at) (omega (arith, nr.0))
        (λ t1 h1.
        subst (λ d. Meets P u (sent t1 d (enter (ρ3 (suc (suc n))) (ρ3 n))) at) (sym far)
        (subst (λ d. Meets P u (sent t1 (atom (leaf_form.Addr v)) (enter d (ρ3 n))) at) (sym code)
        (subst (λ d. Meets P u (sent t1 (atom (leaf_form.Addr v)) (enter goes d)) at) (sym own)
        (sends t1 (lent (2 + W P) h1 (omega (arith, nr.0))) nr.1))))
