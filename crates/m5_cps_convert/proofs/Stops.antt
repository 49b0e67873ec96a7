-- Lists of values that are read back, and a stop by a full table on both sides.
use Rattle.std.proofs.Common.{◌≡◌, ℕ, zero, suc, inr, List, [], ◌∷◌, ◌++◌, Option, Some, None, Bool, true, refl, ap, subst, slice_get, slice_set}
use Rattle.m5_terms.specs.Related.{AnswerReads}
use Rattle.m5_terms.specs.Expression.{Expression}
use Rattle.m5_terms.specs.Worlds.{IsSiteWorld}
use Rattle.m5_terms.specs.declared.ask.AskOf.TheVariants as query
use Rattle.m5_terms.specs.declared.ask.AnswerOf.{AnswerOf}
use Rattle.m5_terms.specs.declared.ask.AnswerOf.TheVariants as answer
use Rattle.m5_terms.specs.declared.types.World.{World}
use Rattle.m5_meaning.specs.Site.{Program}
use Rattle.m5_meaning.specs.Site as meaning
use Rattle.m5_meaning.specs.Step.{step_weight, thread_of, outcome}
use Rattle.m5_meaning.specs.Step as meaning_step
use Rattle.m5_cps.specs.Deeds.{stops_full, after_stop}
use Rattle.m5_cps.specs.Captured.{Value, Item, Site}
use Rattle.m5_cps_convert.specs.Slots.{SVal}
use Rattle.m5_cps_convert.specs.Reading.{Reads}
use Rattle.m5_cps_convert.specs.Threads.{ReadsValues, ReadsItem, ReadsState}
use Rattle.m5_terms.specs.declared.ask.Cause.TheVariants.{Table}
use Rattle.m5_cps_convert.proofs.Meets.{Meets}

pub values_snoc : (P : Program) (cs : List Value) (vs : List Expression) (c : Value) (v : Expression) → ReadsValues P cs vs → Reads P c (SVal v) → ReadsValues P (cs ++ c ∷ []) (vs ++ v ∷ [])
values_snoc P [] [] c v h r = (r, record {})
values_snoc P [] (x ∷ vs) c v h r = absurd h
values_snoc P (d ∷ cs) [] c v h r = absurd h
values_snoc P (d ∷ cs) (x ∷ vs) c v h r = (h.0, values_snoc P cs vs c v h.1 r)

pub set_reads : (P : Program) (cs : List Value) (vs : List Expression) (i : ℕ) (c : Value) (v : Expression) → ReadsValues P cs vs → Reads P c (SVal v) → ReadsValues P (slice_set cs i c) (slice_set vs i v)
set_reads P [] [] i c v h r = record {}
set_reads P [] (y ∷ vs) i c v h r = absurd h
set_reads P (x ∷ cs) [] i c v h r = absurd h
set_reads P (x ∷ cs) (y ∷ vs) zero c v h r = (r, h.1)
set_reads P (x ∷ cs) (y ∷ vs) (suc i) c v h r = (h.0, set_reads P cs vs i c v h.1 r)

-- what the two lists have at a place
abbrev pub AtPlace : Program → Option Value → Option Expression → Type 0
AtPlace P None None = Unit {0}
AtPlace P (Some c) (Some v) = Reads P c (SVal v)
AtPlace P _ _ = ⊥

pub at_place : (P : Program) (cs : List Value) (vs : List Expression) (i : ℕ) → ReadsValues P cs vs → AtPlace P (slice_get cs i) (slice_get vs i)
at_place P [] [] i h = record {}
at_place P [] (v ∷ vs) i h = absurd h
at_place P (c ∷ cs) [] i h = absurd h
at_place P (c ∷ cs) (v ∷ vs) zero h = h.0
at_place P (c ∷ cs) (v ∷ vs) (suc i) h = at_place P cs vs i h.1

module _ (P : Program) (u : World) (site : IsSiteWorld u) where
  -- in place of what would add to what is full
  pub stops_meet : (t : Site) (s : meaning.Site) → ((b : Bool) → meaning_step.site_next P u (record s { stopped = b }) ≡ meaning_step.stops_full (record s { stopped = b })) → Meets P u (stops_full t) s
  stops_meet t s e = record { steps = 0; waiting = s; comes = refl; ask = query.Stop Table; resume_ = meaning_step.stopped_by s; asking = e s.stopped; reads = refl; after = after }
    where
      after : (b : AnswerOf Item) (to : Site) (c : AnswerOf meaning.Item) → after_stop t b ≡ Some to → AnswerReads (ReadsItem P u) b c → (at : meaning.Site) × (meaning_step.stopped_by s c ≡ Some at) × ReadsState P u to at
      after answer.Done to c q r = (record s { stopped = true }, ap (meaning_step.stopped_by s) r, let e1 : record t { stopped = true } ≡ to = cc in subst (λ y. ReadsState P u y (record s { stopped = true })) e1 (inr (record { stopped = refl; source_stopped = refl; stops = e })))
      after _ to c q r = absurd (cc)
