-- One desk is changed.
use Rattle.std.proofs.Common.{◌≡◌, ℕ, zero, suc, ◌-◌, ◌<◌, ◌==◌, List, [], ◌∷◌, ◌++◌, length, get_or, Option, Some, None, refl, sym, ap, ◌∙◌, if◌then◌else◌, arith}
use Rattle.std.specs.Prelude.{slice_get, slice_set, Result, Ok, Err, OnOk, OnErr, MatchOption}
use Rattle.std.proofs.lemmas.Bool.{eq-eqb}
use Rattle.std.proofs.Math.Dec.{eqb-suc-zero, eqb-zero-suc, eqb-suc-suc}
use Rattle.m5_terms.specs.declared.types.World.{World}
use Rattle.m5_network.specs.Board.{Desk, Trigger, Event, at_session, link, with_link}
use Rattle.m5_board.specs.Answers.{fired}
use Rattle.m5_board.specs.Boards.{IsUnfired, IsSession, desk_at, desk_or_empty, ChangesDesk, TakesLink, Receives, TakesTrigger, TakesEvent}

-- the place that is set, and the others
at-place : {I : Type 0} (ds : List (Desk I)) (k j : ℕ) (d : Desk I) → k < length ds → desk_or_empty (slice_get (slice_set ds k d) j) ≡ (if j == k then d else desk_or_empty (slice_get ds j))
at-place [] k j d h = absurd (omega (arith, h))
at-place (x ∷ ds) zero zero d h = refl
at-place (x ∷ ds) zero (suc j) d h = rw (eqb-suc-zero j) refl
at-place (x ∷ ds) (suc k) zero d h = rw (eqb-zero-suc k) refl
at-place (x ∷ ds) (suc k) (suc j) d h = rw (eqb-suc-suc j k) (at-place ds k j d (omega (arith, h)))

pointwise : {I : Type 0} (ds : List (Desk I)) (k : ℕ) (d : Desk I) → k < length ds → (z : ℕ) → desk_at (slice_set ds k d) z ≡ at_session (suc k) d (desk_at ds) z
pointwise ds k d h zero = rw (eqb-zero-suc k) refl
pointwise ds k d h (suc j) = rw (eqb-suc-suc j k) (at-place ds k j d h)

set-count : {I : Type 0} (ds : List (Desk I)) (k : ℕ) (d : Desk I) → length (slice_set ds k d) ≡ length ds
set-count [] k d = refl
set-count (x ∷ ds) zero d = refl
set-count (x ∷ ds) (suc k) d = ap suc (set-count ds k d)

set-desk : {I : Type 0} (ds : List (Desk I)) (s k : ℕ) (new D : Desk I) → IsSession s ds → k ≡ s - 1 → new ≡ D → desk_at (slice_set ds k new) ≡ at_session s D (desk_at ds)
set-desk ds s k new D h e g =
    let next : s ≡ suc k = omega (arith, h.0, e) in
    let within : k < length ds = omega (arith, h.0, h.1, e) in
    rw (next, ← g) (λ i. λ z. pointwise ds k new within z i)

found : {I : Type 0} (ds : List (Desk I)) (k : ℕ) (d : Desk I) → k < length ds → d ≡ get_or ds k d → slice_get ds k ≡ Some d
found [] k d h e = absurd (omega (arith, h))
found (x ∷ ds) zero d h e = ap Some (sym e)
found (x ∷ ds) (suc k) d h e = found ds k d (omega (arith, h)) e

pub the-desk : {I : Type 0} (ds : List (Desk I)) (s k : ℕ) (old : Desk I) → IsSession s ds → k ≡ s - 1 → old ≡ get_or ds k old → desk_at ds s ≡ old
the-desk ds s k old h e g =
    let next : s ≡ suc k = omega (arith, h.0, e) in
    let within : k < length ds = omega (arith, h.0, h.1, e) in
    rw next (ap desk_or_empty (found ds k old within g))

pub same-set : {I : Type 0} (ds : List (Desk I)) (k : ℕ) (d : Desk I) → d ≡ get_or ds k d → slice_set ds k d ≡ ds
same-set [] k d e = refl
same-set {I} (x ∷ ds) zero d e = ap (λ (y : Desk I). y ∷ ds) e
same-set {I} (x ∷ ds) (suc k) d e = ap (λ (ys : List (Desk I)). x ∷ ys) (same-set ds k d e)

changed : {I : Type 0} (ds : List (Desk I)) (s k : ℕ) (old new : Desk I) (f : Desk I → Desk I) → IsSession s ds → k ≡ s - 1 → old ≡ get_or ds k old → new ≡ f old → ChangesDesk s f ds (slice_set ds k new)
changed ds s k old new f h e q c = record {
  desk = set-desk ds s k new (f (desk_at ds s)) h e (c ∙ sym (ap f (the-desk ds s k old h e q)));
  count = set-count ds k new;
}

-- a desk that a call changes
pub changes : {I A E : Type 0} (r : Result A E) (ds : List (Desk I)) (s k : ℕ) (old new : Desk I) (f : Desk I → Desk I) → IsSession s ds → k ≡ s - 1 → old ≡ get_or ds k old → OnOk r (new ≡ f old) → OnOk r (ChangesDesk s f ds (slice_set ds k new))
changes (Ok x) ds s k old new f h e q c = changed ds s k old new f h e q c
changes (Err x) ds s k old new f h e q c = tt

-- and one that it leaves
pub stays : {I A E : Type 0} (r : Result A E) (ds : List (Desk I)) (k : ℕ) (old new : Desk I) → old ≡ get_or ds k old → OnErr r (new ≡ old) → OnErr r (slice_set ds k new ≡ ds)
stays (Ok x) ds k old new q c = tt
stays {I} (Err x) ds k old new q c = ap (λ (d : Desk I). slice_set ds k d) c ∙ same-set ds k old q

pub takes-event : {I : Type 0} (r : Option Event) (ds : List (Desk I)) (s k : ℕ) (old new : Desk I) → IsSession s ds → k ≡ s - 1 → old ≡ get_or ds k old → MatchOption r ((old.events ≡ []) × (new ≡ old)) (λ e. old ≡ record new { events = e ∷ new.events }) → MatchOption r (((desk_at ds s).events ≡ []) × (slice_set ds k new ≡ ds)) (λ e. TakesEvent s e ds (slice_set ds k new))
takes-event {I} None ds s k old new h e q c =
    (ap (λ (D : Desk I). D.events) (the-desk ds s k old h e q) ∙ c.0, ap (λ (d : Desk I). slice_set ds k d) c.1 ∙ same-set ds k old q)
takes-event {I} (Some x) ds s k old new h e q c =
    record {
      rest = new.events;
      first = ap (λ (D : Desk I). D.events) (the-desk ds s k old h e q ∙ c);
      changes = changed ds s k old new (λ (D : Desk I). record D { events = new.events }) h e q (sym (ap (λ (D : Desk I). record D { events = new.events }) c));
    }

pub takes-trigger : {I : Type 0} (r : Option Trigger) (ds : List (Desk I)) (s k : ℕ) (old new : Desk I) → IsSession s ds → k ≡ s - 1 → old ≡ get_or ds k old → MatchOption r ((old.triggers ≡ []) × (new ≡ old)) (λ t. old ≡ record new { triggers = t ∷ new.triggers }) → MatchOption r (((desk_at ds s).triggers ≡ []) × (slice_set ds k new ≡ ds)) (λ t. TakesTrigger s t ds (slice_set ds k new))
takes-trigger {I} None ds s k old new h e q c =
    (ap (λ (D : Desk I). D.triggers) (the-desk ds s k old h e q) ∙ c.0, ap (λ (d : Desk I). slice_set ds k d) c.1 ∙ same-set ds k old q)
takes-trigger {I} (Some x) ds s k old new h e q c =
    record {
      rest = new.triggers;
      first = ap (λ (D : Desk I). D.triggers) (the-desk ds s k old h e q ∙ c);
      changes = changed ds s k old new (λ (D : Desk I). record D { triggers = new.triggers }) h e q (sym (ap (λ (D : Desk I). record D { triggers = new.triggers }) c));
    }

pub receives : {I : Type 0} (r : Option I) (from to : World) (ds : List (Desk I)) (s k : ℕ) (old new : Desk I) → IsSession s ds → k ≡ s - 1 → old ≡ get_or ds k old → MatchOption r ((link old from to ≡ []) × (new ≡ old)) (λ i. TakesLink from to i old new) → MatchOption r ((link (desk_at ds s) from to ≡ []) × (slice_set ds k new ≡ ds)) (λ i. Receives s from to i ds (slice_set ds k new))
receives {I} None from to ds s k old new h e q c =
    (ap (λ (D : Desk I). link D from to) (the-desk ds s k old h e q) ∙ c.0, ap (λ (d : Desk I). slice_set ds k d) c.1 ∙ same-set ds k old q)
receives {I} (Some x) from to ds s k old new h e q c =
    record {
      rest = link new from to;
      first = ap (λ (D : Desk I). link D from to) (the-desk ds s k old h e q) ∙ c.first;
      changes = changed ds s k old new (with_link from to (link new from to)) h e q c.after;
    }

pub same-session : {I : Type 0} (s : ℕ) (D : Desk I) (f : ℕ → Desk I) → at_session s D f s ≡ D
same-session s D f = rw (eq-eqb s s refl) refl

put-back : {A : Type 0} (z s : ℕ) (f : ℕ → A) (x : A) → (if z == s then f s else (if z == s then x else f z)) ≡ f z
put-back zero zero f x = refl
put-back zero (suc s) f x = rw (eqb-zero-suc s) refl
put-back (suc z) zero f x = rw (eqb-suc-zero z) refl
put-back (suc z) (suc s) f x = rw (eqb-suc-suc z s) (put-back z s (λ n. f (suc n)) x)

-- the trigger that a session got last is taken off
pub unfires : {I : Type 0} (ds : List (Desk I)) (s k : ℕ) (old new : Desk I) → IsSession s ds → k ≡ s - 1 → old ≡ get_or ds k old → IsUnfired old new → (f : ℕ → Desk I) (t : Trigger) → desk_at ds ≡ fired t s f → desk_at (slice_set ds k new) ≡ f
unfires {I} ds s k old new h e q u f t p =
    let X : Desk I = record (f s) { triggers = (f s).triggers ++ t ∷ [] } in
    let was : old ≡ X = sym (the-desk ds s k old h e q) ∙ (ap (λ (D : ℕ → Desk I). D s) p ∙ same-session s X f) in
    set-desk ds s k new (f s) h e (u (f s) t was) ∙ (ap (at_session s (f s)) p ∙ (λ i. λ z. put-back z s f X i))

same-each : {I : Type 0} (ds es : List (Desk I)) → length ds ≡ length es → ((k : ℕ) → desk_or_empty (slice_get ds k) ≡ desk_or_empty (slice_get es k)) → ds ≡ es
same-each [] [] l h = refl
same-each [] (e ∷ es) l h = absurd (omega (arith, l))
same-each (d ∷ ds) [] l h = absurd (omega (arith, l))
same-each (d ∷ ds) (e ∷ es) l h = λ i. h 0 i ∷ same-each ds es (omega (arith, l)) (λ k. h (suc k)) i

-- lists of as many desks with the same at each session are the same
pub same-desks : {I : Type 0} (ds es : List (Desk I)) → length ds ≡ length es → desk_at ds ≡ desk_at es → ds ≡ es
same-desks {I} ds es l h = same-each ds es l (λ k. ap (λ (D : ℕ → Desk I). D (suc k)) h)
