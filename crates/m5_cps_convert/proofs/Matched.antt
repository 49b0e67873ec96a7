-- The blocks' site matches the source's, its moments are paid for, and it begins where the source's does.
use Rattle.std.proofs.Common.{◌≡◌, ℕ, zero, suc, ◌+◌, ◌*◌, ◌≤◌, ◌⊎◌, inl, inr, List, [], Bool, true, false, refl, sym, subst, arith, if◌then◌else◌, true≢false}
use Rattle.m5_terms.specs.Machine.{goes, asks, wrong}
use Rattle.m5_terms.specs.Worlds.{IsSiteWorld}
use Rattle.m5_terms.specs.declared.types.World.{World}
use Rattle.m5_terms.specs.declared.types.World.TheVariants.{Any}
use Rattle.m5_meaning.specs.Site.{Program}
use Rattle.m5_meaning.specs.Site as meaning
use Rattle.m5_meaning.specs.Step.{step_weight, thread_of, outcome}
use Rattle.m5_meaning.specs.Step as meaning_step
use Rattle.m5_cps.specs.Entries.{only}
use Rattle.m5_cps.specs.Deeds.{Ran, ends, Point, makes, stops_full}
use Rattle.m5_cps.specs.Captured.{Closure, Thread, Site}
use Rattle.m5_cps_convert.specs.Threads.{ReadsThreads, ReadsState}
use Rattle.m5_terms.specs.Machine.{Comes, GoesWrong}
use Rattle.m5_terms.specs.Matching.{Matches, Reaches, MeetsAt, AreMet}
use Rattle.m5_terms.specs.declared.types.World.TheVariants.{Home, Server, Panel}
use Rattle.m5_terms.proofs.SiteWorlds.{is-real}
use Rattle.m5_terms.proofs.Played.{plays-always, plays-fully}
use Rattle.m5_terms.specs.TypeExpression.{unit}
use Rattle.m5_typing.specs.Program.{IsProgram}
use Rattle.m5_meaning.specs.Opening as meaning_opening
use Rattle.m5_site_sound.specs.SourceMachine.{source_machine}
use Rattle.m5_site_sound.specs.Settings.{setting}
use Rattle.m5_site_sound.specs.Sites.{SiteTyped}
use Rattle.m5_site_sound.proofs.Soundness.{sites-are-sound}
use Rattle.m5_site_sound.proofs.Counts.{CountsOne, next-counts}
use Rattle.m5_cps.specs.Running.{front, ran}
use Rattle.m5_cps.specs.Machine.{blocks_machine, blocks_moments, Making, point_of, is_entering, opening_site, opening_threads}
use Rattle.m5_cps_convert.specs.Convert.{program_blocks}
use Rattle.m5_cps_convert.specs.Scopes.{empty_scope}
use Rattle.m5_cps_convert.specs.Statics.{STop}
use Rattle.m5_cps_convert.specs.Moments.{readback, source_moments, IsPaid, paid}
use Rattle.m5_cps_convert.specs.Laws.{BlocksPlay, BlocksOpen, OpeningsPlayFully, SentIsLight}
use Rattle.m5_cps_convert.proofs.Meets.{Weighs, AtPoint, WrongMet, PointMet, NextMet, Meets}
use Rattle.m5_cps_convert.proofs.Straight.{threads_long, values_long}
use Rattle.m5_cps_convert.proofs.Entering.{units_everywhere}
use Rattle.m5_cps_convert.proofs.Programs.{program_good, main_narrow, main_proper, main_stays}
use Rattle.m5_cps_convert.proofs.Whole.{owes, next_owes}

module _ (P : Program) (u : World) (d : IsProgram P) (site : IsSiteWorld u) where
  goes_wrong : (s : meaning.Site) → WrongMet P u s → GoesWrong (source_machine P u) s
  goes_wrong s h = record { steps = h.steps; at = h.at; comes = h.comes; stuck = h.stuck }

  reached : (t : Site) (s : meaning.Site) → NextMet P u (goes t) s → GoesWrong (source_machine P u) s ⊎ Reaches (source_machine P u) (blocks_machine (program_blocks P) u) (readback P u) t s
  reached t s (inl h) = inl (goes_wrong s h)
  reached t s (inr h) = inr (record { steps = h.steps; at = h.at; comes = h.comes; reads = h.reads })

  pub matches : Matches (source_machine P u) (blocks_machine (program_blocks P) u) (readback P u)
  matches = record {
    on_step = λ t to s r e. reached to s (subst (λ x. NextMet P u x s) e (next_owes P u site (program_good P d) t s r));
    on_ask = λ t a resume s r e.
        let h : NextMet P u (asks a resume) s = subst (λ x. NextMet P u x s) e (next_owes P u site (program_good P d) t s r) in
        inr (record { steps = h.steps; waiting = h.waiting; comes = h.comes; ask = h.ask; resume = h.resume_; asking = h.asking; reads = h.reads; lawful = λ b c ra l. tt; after = λ b to c ra l q. h.after b to c q ra });
    on_wrong = λ t s r e. goes_wrong s (subst (λ x. NextMet P u x s) e (next_owes P u site (program_good P d) t s r));
  }

  -- steps only grow
  later : (n : ℕ) (s at : meaning.Site) → Comes (meaning_step.site_next P u) n s at → s.steps ≤ at.steps
  later zero s at c = subst (λ y. s.steps ≤ y.steps) c (omega arith)
  later (suc n) s at c = omega (arith, later n c.0 at c.2, subst (λ x. CountsOne s x) c.1 (next-counts P u s))

  -- what the next step weighs pays, or there is none
  pays : (entered : ℕ) (p : Point) (at : meaning.Site) → AtPoint P u p at → entered ≤ at.steps → (x : meaning_step.SiteNext) → meaning_step.site_next P u at ≡ x → (x ≡ wrong) ⊎ IsPaid P u entered p at
  pays entered p at h e (goes y) q = inr (record { steps = e; units = subst (λ x. p.units ≤ 4 * (at.weight + meaning_step.next_weight P at x) + 64) (sym q) (omega (arith, h.units, weighs)); threads = h.threads; cells = h.cells; handlers = h.handlers })
    where
      weighs : at.weight + step_weight P h.made ≤ y.weight
      weighs = subst (λ x. Weighs P x at h.made) q h.weighs
  pays entered p at h e (asks a f) q = inr (record { steps = e; units = subst (λ x. p.units ≤ 4 * (at.weight + meaning_step.next_weight P at x) + 64) (sym q) (omega (arith, h.units, none)); threads = h.threads; cells = h.cells; handlers = h.handlers })
    where
      none : h.made ≡ 0
      none = subst (λ x. Weighs P x at h.made) q h.weighs
  pays entered p at h e wrong q = inl refl

  object_paid : (t : Site) (s : meaning.Site) (p : Point) → t.entered ≤ s.steps → PointMet P u p s → GoesWrong (source_machine P u) s ⊎ ((at : meaning.Site) × (n : ℕ) × Comes (meaning_step.site_next P u) n s at × IsPaid P u t.entered p at)
  object_paid t s p e h = by (pays t.entered p h.at h.point (omega (arith, e, later h.steps s h.at h.comes)) (meaning_step.site_next P u h.at) refl)
    where
      by : (meaning_step.site_next P u h.at ≡ wrong) ⊎ IsPaid P u t.entered p h.at → GoesWrong (source_machine P u) s ⊎ ((at : meaning.Site) × (n : ℕ) × Comes (meaning_step.site_next P u) n s at × IsPaid P u t.entered p at)
      by (inl q) = inl (record { steps = h.steps; at = h.at; comes = h.comes; stuck = q })
      by (inr q) = inr (h.at, h.steps, h.comes, q)

  point_met : (r : Ran Closure) (s : meaning.Site) → Meets P u r s → (i : Making r) → PointMet P u (point_of r i) s
  point_met (makes p r) s h (inl i) = h.0
  point_met (makes p r) s h (inr i) = point_met r s h.1 i
  point_met (ends x) s h i = absurd i

  stops_here : (b : Bool) (ts : List Thread) → b ≡ true → is_entering b ts ≡ true → ⊥
  stops_here true ts e h = true≢false (sym h)
  stops_here false ts e h = true≢false (sym e)

  met : (t : Site) (s : meaning.Site) → ReadsState P u t s → (m : blocks_moments (program_blocks P) u t) → GoesWrong (source_machine P u) s ⊎ MeetsAt (source_machine P u) (blocks_machine (program_blocks P) u) (source_moments P u) (blocks_moments (program_blocks P) u) (paid P u) t m s
  met t s (inl r) (inl i) = inr (record { steps = 0; at = s; comes = refl; moment = tt; met = record { steps = r.steps; units = omega (arith, r.units); threads = threads_long P u t.threads s.threads r.threads; cells = values_long P t.cells s.cells r.cells; handlers = values_long P t.handlers s.handlers r.handlers } })
  met t s (inl r) (inr i) = by (object_paid t s (point_of (ran (program_blocks P) u t) i) r.steps (point_met (ran (program_blocks P) u t) s (owes P u site (program_good P d) t s (inl r)) i))
    where
      by : GoesWrong (source_machine P u) s ⊎ ((at : meaning.Site) × (n : ℕ) × Comes (meaning_step.site_next P u) n s at × IsPaid P u t.entered (point_of (ran (program_blocks P) u t) i) at) → GoesWrong (source_machine P u) s ⊎ MeetsAt (source_machine P u) (blocks_machine (program_blocks P) u) (source_moments P u) (blocks_moments (program_blocks P) u) (paid P u) t (inr i) s
      by (inl w) = inl w
      by (inr q) = inr (record { steps = q.1; at = q.0; comes = q.2; moment = tt; met = q.3 })
  met t s (inr r) (inl i) = absurd (stops_here t.stopped t.threads r.stopped i)
  met t s (inr r) (inr i) = absurd (subst (λ b. Making (if b then stops_full t else front (program_blocks P) u t t.threads)) r.stopped i)

  pub all_met : AreMet (source_machine P u) (blocks_machine (program_blocks P) u) (readback P u) (source_moments P u) (blocks_moments (program_blocks P) u) (paid P u)
  all_met = met

  begins_as : ReadsThreads P u (opening_threads (program_blocks P) u) (meaning_opening.opening_threads P u) → ReadsState P u (opening_site (opening_threads (program_blocks P) u)) (meaning_opening.opening_site (meaning_opening.opening_threads P u))
  begins_as h = inl (record { runs = refl; source_runs = refl; threads = h; cells = tt; handlers = tt; steps = omega arith; units = omega arith })

-- main's thread at home, and none elsewhere
pub opens : BlocksOpen
opens P Home d i = begins_as P Home d i (inr (inr (inr (record { frames = []; node = P.main; start = record { narrow = main_narrow P d; scope = empty_scope (only Home); values = units_everywhere; node = P.main; proper = main_proper P d; fits = λ x. refl; static = STop; code = refl; frames = refl; is = sym (main_stays P d units_everywhere) }; is = refl }))), tt)
opens P Server d i = begins_as P Server d i tt
opens P Panel d i = begins_as P Panel d i tt
opens P Any d i = absurd (is-real Any i refl)

pub plays : BlocksPlay
plays P u t s d i r = plays-always (source_machine P u) (blocks_machine (program_blocks P) u) (readback P u) (source_moments P u) (blocks_moments (program_blocks P) u) (paid P u) (matches P u d i) (all_met P u d i) t s r

opening_typed : (P : Program) → IsProgram P → (u : World) → SiteTyped (setting P (λ w. [])) u (meaning_opening.opening_site (meaning_opening.opening_threads P u))
opening_typed P d Home = ((record { of = unit; stands = inl refl; typed = d.main; frames = refl }, tt), tt, tt)
opening_typed P d _ = (tt, tt, tt)

pub plays_fully : OpeningsPlayFully
plays_fully P u d i = let t = opening_site (opening_threads (program_blocks P) u) in let s = meaning_opening.opening_site (meaning_opening.opening_threads P u) in
    plays-fully (source_machine P u) (blocks_machine (program_blocks P) u) (readback P u) (source_moments P u) (blocks_moments (program_blocks P) u) (paid P u) t s
    (sites-are-sound P (λ w. []) u s d (λ q. is-real u i q) (opening_typed P d u)) (plays P u t s d i (opens P u d i))

pub light : SentIsLight
light P v t s r = r.1
