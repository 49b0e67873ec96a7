-- The frames that a block begins with: none, those of a continuation in a slot, and a value that is sent back.
use Rattle.std.proofs.Common.{◌≡◌, ℕ, suc, inl, inr, ◌∷◌, Some, refl, sym, ap, ◌∙◌, subst, arith}
use Rattle.m5_terms.specs.Machine.{goes}
use Rattle.m5_terms.specs.Related.{AnswerReads}
use Rattle.m5_terms.specs.Worlds.{IsSiteWorld}
use Rattle.m5_terms.specs.declared.ask.AskOf.TheVariants as query
use Rattle.m5_terms.specs.declared.ask.AnswerOf.{AnswerOf}
use Rattle.m5_terms.specs.declared.ask.AnswerOf.TheVariants as answer
use Rattle.m5_terms.specs.declared.types.World.{World}
use Rattle.m5_terms.specs.declared.thread.Frame.TheVariants as frame
use Rattle.m5_terms.specs.declared.thread.Focus.TheVariants.{Returned}
use Rattle.m5_meaning.specs.Site.{Program}
use Rattle.m5_meaning.specs.Site as meaning
use Rattle.m5_meaning.specs.Step.{step_weight, thread_of, outcome}
use Rattle.m5_meaning.specs.Step as meaning_step
use Rattle.m5_terms.specs.declared.form.LeafForm.TheVariants as leaf_form
use Rattle.m5_cps.specs.Values.{atom, enter, put}
use Rattle.m5_cps.specs.Deeds.{ends}
use Rattle.m5_cps.specs.Captured.{Value, Item, Site}
use Rattle.m5_cps_convert.specs.Statics.{STop, STail, SBack, SHome}
use Rattle.m5_cps_convert.specs.Slots.{SVal, SKont, Has}
use Rattle.m5_cps_convert.specs.Threads.{ReadsItem, ReadsState}
use Rattle.m5_cps.specs.Asks.{sent, after_sent}
use Rattle.m5_cps_convert.proofs.Meets.{src, ticked, Tied, step_pays, Meets, Resumes}
use Rattle.m5_cps_convert.proofs.Calls.{front_reads}
use Rattle.m5_cps_convert.proofs.Addresses.{address_value}
use Rattle.m5_cps_convert.proofs.Light.{value_light, kont_light}
use Rattle.m5_cps_convert.proofs.Substitutions.{put_same}
use Rattle.m5_cps_convert.proofs.Slots.{In, Grows, put_grows, has_on}

module _ (P : Program) (u : World) (site : IsSiteWorld u) where
  pub site_reads : (t : Site) (s : meaning.Site) → Tied P u 0 0 t s → ReadsState P u t s
  site_reads t s h = inl (record { runs = h.runs; source_runs = h.source_runs; threads = h.threads; cells = h.cells; handlers = h.handlers; steps = omega (arith, h.entered); units = omega (arith, h.units) })

  -- the thread is gone
  pub after_sent_reads : (t : Site) (s : meaning.Site) (s0 : meaning.Site) → Tied P u 0 0 t (ticked P 0 s) → (meaning_step.after_done P s0 s.threads answer.Done ≡ Some (ticked P 0 s)) → (b : AnswerOf Item) (to : Site) (c : AnswerOf meaning.Item) → after_sent t b ≡ Some to → AnswerReads (ReadsItem P u) b c → (at : meaning.Site) × (meaning_step.after_done P s0 s.threads c ≡ Some at) × ReadsState P u to at
  after_sent_reads t s s0 h q answer.Done to c e r = (ticked P 0 s, ap (meaning_step.after_done P s0 s.threads) r ∙ q, let e1 : t ≡ to = cc in subst (λ y. ReadsState P u y (ticked P 0 s)) e1 (site_reads t (ticked P 0 s) h))
  after_sent_reads t s s0 h q _ to c e r = absurd (cc)

  -- the thread ends
  pub top_resumes : Resumes P u STop
  top_resumes = record { by = λ t s n ρ fs w x v fr has h nr. subst (λ y. Meets P u (ends (goes t)) (src s y (Returned w v))) (sym fr) (inr (record { steps = 1; at = ticked P 0 s; comes = (ticked P 0 s, refl, refl); reads = site_reads t (ticked P 0 s) (step_pays 0 h (omega arith)) })) }

  pub tail_resumes : (k : ℕ) → Resumes P u (STail k)
  tail_resumes k = record { by = λ t s n ρ fs w x v fr has h nr. inr (record { steps = 0; at = src s fs (Returned w v); comes = refl; reads = front_reads P u site (enter (ρ k) (ρ x)) t s fs (Returned w v) h (inl (record { frames = fs; world = w; result = v; continuation = fr.1; argument = has.1; is = refl })) }) }

  -- a value is sent back
  pub back_resumes : (a k : ℕ) → Resumes P u (SBack a k)
  back_resumes a k = record {
    by = λ t s n ρ fs w x v fr has h nr.
        let th : meaning.Thread = thread_of fr.below (Returned fr.world v) in
        subst (λ y. Meets P u (sent t (ρ a) (enter (ρ k) (ρ x))) (src s y (Returned w v))) (sym fr.is)
        (subst (λ d. Meets P u (sent t d (enter (ρ k) (ρ x))) (src s (frame.Return fr.world ∷ fr.below) (Returned w v))) (sym (address_value P (ρ a) fr.world fr.address.1))
        (record { steps = 0; waiting = src s (frame.Return fr.world ∷ fr.below) (Returned w v); comes = refl; ask = query.Send fr.world (meaning.thread th); resume_ = meaning_step.after_done P (src s (frame.Return fr.world ∷ fr.below) (Returned w v)) s.threads; asking = refl; reads = (meaning.thread th, (inl (record { frames = fr.below; world = fr.world; result = v; continuation = fr.continuation.1; argument = has.1; is = refl }), omega (arith, kont_light P (ρ k) fr.world fr.below fr.continuation.1, value_light P (ρ x) v has.1)), refl); after = λ b to c e r. after_sent_reads t s (src s (frame.Return fr.world ∷ fr.below) (Returned w v)) (step_pays 0 h (omega arith)) refl b to c e r }));
  }

  -- where the world is written, its address fills a slot first
  pub home_resumes : (y : World) (k : ℕ) → Resumes P u (SHome y k)
  home_resumes y k = record {
    by = λ t s n ρ fs w x v fr has h nr.
        let c : Value = atom (leaf_form.Addr y) in
        let g : Grows (In P ρ) n (In P (put n c ρ)) (suc n) = put_grows P ρ n c in
        let hk : Has (In P (put n c ρ)) (suc n) k (SKont y fr.below) = has_on k (SKont y fr.below) g fr.continuation in
        let hx : Has (In P (put n c ρ)) (suc n) x (SVal v) = has_on x (SVal v) g has in
        let th : meaning.Thread = thread_of fr.below (Returned y v) in
        subst (λ f. Meets P u (sent t (put n c ρ n) (enter (put n c ρ k) (put n c ρ x))) (src s f (Returned w v))) (sym fr.is)
        (subst (λ d. Meets P u (sent t d (enter (put n c ρ k) (put n c ρ x))) (src s (frame.Return y ∷ fr.below) (Returned w v))) (sym (put_same n c ρ))
        (record { steps = 0; waiting = src s (frame.Return y ∷ fr.below) (Returned w v); comes = refl; ask = query.Send y (meaning.thread th); resume_ = meaning_step.after_done P (src s (frame.Return y ∷ fr.below) (Returned w v)) s.threads; asking = refl; reads = (meaning.thread th, (inl (record { frames = fr.below; world = y; result = v; continuation = hk.1; argument = hx.1; is = refl }), omega (arith, kont_light P (put n c ρ k) y fr.below hk.1, value_light P (put n c ρ x) v hx.1)), refl); after = λ b to d e r. after_sent_reads t s (src s (frame.Return y ∷ fr.below) (Returned w v)) (step_pays 0 h (omega arith)) refl b to d e r }));
  }
