-- Local steps without a licence: one more, others after them, and the moment to which they lead.
use Rattle.std.proofs.Common.{◌≡◌, ℕ, zero, suc, ◌<◌, refl, sym, ◌∙◌, subst, arith, inl, inr, ◌⊎◌}
use Rattle.m5_terms.specs.declared.types.World.{World}
use Rattle.m5_terms.specs.Machine.{goes, Comes}
use Rattle.m5_meaning.specs.Site.{Program, Site}
use Rattle.m5_meaning.specs.Step.{SiteNext, site_next}
use Rattle.m5_script.specs.Scenario.{Scenario}
use Rattle.m5_network.specs.FirstMoment.{IsFree, ComesFree}
use Rattle.m5_sites.proofs.LocalSteps.{same-step, one-way, longer, earlier}
use Rattle.m5_reference.specs.declared.limits.Limits.{Limits}
use Rattle.m5_reference.specs.declared.moment.Moment.{Moment}
use Rattle.m5_reference.specs.declared.moment.Moment.TheVariants as moment
use Rattle.m5_reference.specs.declared.moment.StepOrMoment.TheVariants as step_or_moment
use Rattle.m5_reference.specs.Moments.{HasLimits, IsMomentAt, IsStepOrMomentAt, IsMoment}

pub begin_free : (P : Program) (S : Scenario) (w : World) (a : Site) → ComesFree P S w 0 a a
begin_free P S w a = record { comes = refl; free = λ m x h k. absurd (omega (arith, h)) }

pub step_free : (P : Program) (S : Scenario) (w : World) (n : ℕ) (a b c : Site) → ComesFree P S w n a b → IsFree P S w b → site_next P w b ≡ goes c → ComesFree P S w (suc n) a c
step_free P S w n a b c h k e = record {
  comes = longer (site_next P w) n a b c h.comes e;
  free = λ m x l j. elim (earlier m n l) [ inl p ↦ h.free m x p j | inr p ↦ subst (IsFree P S w) (one-way (site_next P w) n a b x h.comes (subst (λ (z : ℕ). Comes (site_next P w) z a x) p j)) k ];
}

-- the sum, by recursion on the first number
abbrev pub plus : ℕ → ℕ → ℕ
plus zero n = n
plus (suc m) n = suc (plus m n)

free-at : (P : Program) (S : Scenario) (w : World) (n : ℕ) (a x c : Site) → IsFree P S w a → site_next P w a ≡ goes x → ComesFree P S w n x c → (j : ℕ) (y : Site) → j < suc n → Comes (site_next P w) j a y → IsFree P S w y
free-at P S w n a x c h e r zero y l k = subst (IsFree P S w) k h
free-at P S w n a x c h e r (suc j) y l k =
    let q : k.0 ≡ x = same-step k.0 x (site_next P w a) k.1 e in
    r.free j y (omega (arith, l)) (subst (λ (z : Site). Comes (site_next P w) j z y) q k.2)

first : (P : Program) (S : Scenario) (w : World) (n : ℕ) (a x c : Site) → IsFree P S w a → site_next P w a ≡ goes x → ComesFree P S w n x c → ComesFree P S w (suc n) a c
first P S w n a x c h e r = record { comes = (x, e, r.comes); free = free-at P S w n a x c h e r }

zero-below : (m : ℕ) → 0 < suc m
zero-below m = grind arith

pub follow : (P : Program) (S : Scenario) (w : World) (m n : ℕ) (a b c : Site) → ComesFree P S w m a b → ComesFree P S w n b c → ComesFree P S w (plus m n) a c
follow P S w zero n a b c h k = subst (λ (z : Site). ComesFree P S w n z c) (sym h.comes) k
follow P S w (suc m) n a b c h k =
    let x : Site = h.comes.0 in
    let e : site_next P w a ≡ goes x = h.comes.1 in
    let rest : ComesFree P S w m x b = record { comes = h.comes.2; free = λ j y l q. h.free (suc j) y (omega (arith, l)) (x, e, q) } in
    first P S w (plus m n) a x c (h.free 0 a (zero-below m) refl) e (follow P S w m n x b c rest k)

-- whatever the scenario, so many steps lead from one state to the other without a licence
abbrev pub Arrives : Program → Limits → World → Site → Site → Type 0
Arrives P l w a x = (n : ℕ) × ((S : Scenario) → HasLimits S l → ComesFree P S w n a x)

pub begins : (P : Program) (l : Limits) (w : World) (a : Site) → Arrives P l w a a
begins P l w a = (0, λ S h. begin_free P S w a)

pub goes_on : (P : Program) (l : Limits) (w : World) (a x t : Site) → Arrives P l w a x → ((S : Scenario) → HasLimits S l → IsStepOrMomentAt P S w x (step_or_moment.Step t)) → Arrives P l w a t
goes_on P l w a x t h k = (suc h.0, λ S e. step_free P S w h.0 a x t (h.1 S e) (k S e).0 (k S e).1)

moment-of : (P : Program) (S : Scenario) (w : World) (a x : Site) (n : ℕ) (m : Moment) → ComesFree P S w n a x → IsMomentAt P S w x m → IsMoment P S w a m
moment-of P S w a x n (moment.Stops cause) c h = record { steps = n; at = x; comes = c; stop = h.0; order = h.1 }
moment-of P S w a x n (moment.Asks q y) c h = record { steps = n; waiting = x; comes = c; free = h.0; asking = h.1 }
moment-of P S w a x n moment.Wrong c h = record { steps = n; at = x; comes = c; free = h.0; stuck = h.1 }

pub ends : (P : Program) (l : Limits) (w : World) (a x : Site) (m : Moment) → Arrives P l w a x → ((S : Scenario) → HasLimits S l → IsStepOrMomentAt P S w x (step_or_moment.Moment m)) → (S : Scenario) → HasLimits S l → IsMoment P S w a m
ends P l w a x m h k = λ S e. moment-of P S w a x h.0 m (h.1 S e) (k S e)
