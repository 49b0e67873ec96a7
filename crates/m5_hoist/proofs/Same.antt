-- What is read back to itself matches.
use Rattle.std.proofs.Common.{◌≡◌, inl, inr, refl, sym, ap, ◌∙◌}
use Rattle.m5_terms.specs.Matching.{Matches, AreMet}
use Rattle.m5_terms.specs.Related.{AskReads, AnswerReads}
use Rattle.m5_terms.specs.declared.ask.AskOf.{AskOf}
use Rattle.m5_terms.specs.declared.ask.AskOf.TheVariants as query
use Rattle.m5_terms.specs.declared.ask.AnswerOf.{AnswerOf}
use Rattle.m5_terms.specs.declared.ask.AnswerOf.TheVariants as answer
use Rattle.m5_terms.specs.declared.types.World.{World}
use Rattle.m5_flat.specs.Blocks.{Blocks}
use Rattle.m5_flat.specs.Values.{Item, Site}
use Rattle.m5_flat.specs.Running.{ran, site_next}
use Rattle.m5_flat.specs.Machine.{flat_machine, flat_moments}
use Rattle.m5_flat.specs.Moments.{IsMet}
use Rattle.m5_hoist.specs.Hoisting.{itself, met, HoistedGoOn}

pub asks_itself : (q : AskOf Item) → AskReads (λ v i j. i ≡ j) q q
asks_itself (query.Send v i) = (i, refl, refl)
asks_itself (query.Say t) = refl
asks_itself (query.Set e t) = refl
asks_itself (query.GetText e) = refl
asks_itself (query.On e n) = refl
asks_itself (query.Read k) = refl
asks_itself (query.Write k t) = refl
asks_itself (query.Watch k n) = refl
asks_itself (query.Show t) = refl
asks_itself query.Take = refl
asks_itself (query.Stop c) = refl

pub answered_itself : (b c : AnswerOf Item) → AnswerReads (λ i j. i ≡ j) b c → c ≡ b
answered_itself (answer.Message v i) c r = r.2 ∙ ap (answer.Message v) (sym r.1)
answered_itself answer.Done c r = r
answered_itself (answer.Found t) c r = r
answered_itself answer.Missing c r = r
answered_itself (answer.Fired k n t) c r = r
answered_itself (answer.Event e ns t) c r = r
answered_itself answer.Nothing c r = r

module _ (B : Blocks) (u : World) where
  same_matches : Matches (flat_machine B u) (flat_machine B u) (itself B B u)
  same_matches = record {
    on_step = λ t to s r e. inr (record { steps = 1; at = to; comes = (to, ap (site_next B u) (sym r) ∙ e, refl); reads = refl });
    on_ask = λ t a resume s r e. inr (record {
      steps = 0;
      waiting = s;
      comes = refl;
      ask = a;
      resume = resume;
      asking = ap (site_next B u) (sym r) ∙ e;
      reads = asks_itself a;
      lawful = λ b c h l. tt;
      after = λ b to c h l f. (to, ap resume (answered_itself b c h) ∙ f, refl);
    });
    on_wrong = λ t s r e. record { steps = 0; at = s; comes = refl; stuck = ap (site_next B u) (sym r) ∙ e };
  }

  met_itself : (t : Site) (m : flat_moments B u t) → IsMet t (ran B u t) t (ran B u t) m m
  met_itself t (inl e) = (refl, refl)
  met_itself t (inr i) = (refl, refl)

  same_meets : AreMet (flat_machine B u) (flat_machine B u) (itself B B u) (flat_moments B u) (flat_moments B u) (met B B u)
  same_meets t s r m = inr (record { steps = 0; at = t; comes = sym r; moment = m; met = met_itself t m })

pub same_goes_on : HoistedGoOn
same_goes_on B = record { opens = λ u. refl; matches = same_matches B; meets = same_meets B }
