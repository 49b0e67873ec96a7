-- A site settles in one way: to one state, or to a moment beyond the budget.
use Rattle.std.proofs.Common.{◌≡◌, ◌⊎◌, ℕ, ◌+◌, ◌-◌, ◌<◌, ◌≤◌, Bool, true, false, List, [], ◌∷◌, ◌++◌, Option, None, refl, sym, ap, subst, ◌∙◌, arith, inl, inr}
use Rattle.m5_terms.specs.declared.types.World.{World}
use Rattle.m5_terms.specs.declared.ask.Cause.{Cause}
use Rattle.m5_meaning.specs.Site.{Program, Site, Item}
use Rattle.m5_meaning.specs.Step.{site_next}
use Rattle.m5_script.specs.Scenario.{Scenario}
use Rattle.m5_script.specs.declared.items.SiteName.{SiteName}
use Rattle.m5_network.specs.Entries.{Deed}
use Rattle.m5_network.specs.Run.{Network, Place, Step, source}
use Rattle.m5_network.proofs.Runs.{determine}
use Rattle.m5_sites.proofs.LocalSteps.{one-way, goes-further}
use Rattle.m5_replay.specs.Settling.{Settling, Settles, Exceeds}
use Rattle.m5_replay.specs.Fitting.{Fits, weight_after, SettlesSite, SettlesAll, ExceedsAt, ExceedsAmong}
use Rattle.m5_replay.proofs.Runs.{same-some}

order : (m n : ℕ) → (m ≤ n) ⊎ (n < m)
order m n = grind arith

-- no settling goes past where one ends
ends-there : (P : Program) (S : Scenario) (w : World) (c : Option Cause) (u m : ℕ) (a b x : Site) (s : Settles P S w c u a b) → Settling P S w c m a x → s.steps < m → ⊥
ends-there P S w c u m a b x s k l =
    elim s.ends [
      | inl stop ↦ k.unstopped s.steps b l s.settling.comes stop
      | inr none ↦ let g = goes-further (site_next P w) s.steps m a b x l s.settling.comes k.comes in none g.0 g.1
    ]

pub not-both : (P : Program) (S : Scenario) (w : World) (c : Option Cause) (u : ℕ) (a b : Site) → Settles P S w c u a b → Exceeds P S w c u a → ⊥
not-both P S w c u a b s e =
    elim (order e.steps s.steps) [
      | inl l ↦ e.beyond (s.within e.steps e.at l e.settling.comes)
      | inr l ↦ ends-there P S w c u e.steps a b e.at s e.settling l
    ]

same-count : (m n : ℕ) → (n < m → ⊥) → (m < n → ⊥) → m ≡ n
same-count m n h k =
    elim (order m n) [
      | inl l ↦ elim (order n m) [
        | inl g ↦ omega (arith, l, g)
        | inr g ↦ absurd (k g)
      ]
      | inr l ↦ absurd (h l)
    ]

pub one-end : (P : Program) (S : Scenario) (w : World) (c : Option Cause) (u v : ℕ) (a b x : Site) → Settles P S w c u a b → Settles P S w c v a x → b ≡ x
one-end P S w c u v a b x s t =
    let e : s.steps ≡ t.steps = same-count s.steps t.steps (λ l. ends-there P S w c v s.steps a x b t s.settling l) (λ l. ends-there P S w c u t.steps a b x s t.settling l) in
    one-way (site_next P w) s.steps a b x s.settling.comes (subst (λ (n : ℕ). Settling P S w c n a x) (sym e) t.settling).comes

-- ---- the line that fits makes one deed

pub fits-once : (P : Program) (S : Scenario) (N M L : Network) (u v t : ℕ) (line : List ℕ) (d e : Deed Item) → Fits P S N u line d M v → Fits P S N u line e L t → (d ≡ e) × (M ≡ L) × (v ≡ t)
fits-once P S N M L u v t line d e f g =
    let p : Place = f.place in
    let same : p ≡ g.place = same-some p g.place (sym f.named ∙ g.named) in
    let settles : Settles P S p.world p.cause u (N.site p.session p.world) g.settled = subst (λ (q : Place). Settles P S q.world q.cause u (N.site q.session q.world) g.settled) (sym same) g.settles in
    let step : Step P S N p e L = subst (λ (q : Place). Step P S N q e L) (sym same) g.step in
    let settled : f.settled ≡ g.settled = one-end P S p.world p.cause u u (N.site p.session p.world) f.settled g.settled f.settles settles in
    let made = determine (source P S) S.sessions N M L (p ∷ []) (d ∷ []) (e ∷ []) (M, f.step, refl) (L, step, refl) in
    let weight : t ≡ weight_after u (N.site p.session p.world) g.settled (L.site p.session p.world) = subst (λ (q : Place). t ≡ weight_after u (N.site q.session q.world) g.settled (L.site q.session q.world)) (sym same) g.weight in
    (first-same d e made.0, made.1, f.weight ∙ (λ i. weight_after u (N.site p.session p.world) (settled i) ((made.1 i).site p.session p.world)) ∙ sym weight)
  where
    first-same : (x y : Deed Item) → x ∷ [] ≡ y ∷ [] → x ≡ y
    first-same x y k = cc

-- ---- all sites, for a last line

no-yes : (b : Bool) → b ≡ false → b ≡ true → ⊥
no-yes b e f = cc

site-once : (P : Program) (S : Scenario) (N : Network) (u v t : ℕ) (x : SiteName) → SettlesSite P S N u x v → SettlesSite P S N u x t → v ≡ t
site-once P S N u v t x (inl h) (inl k) = h.1 ∙ sym k.1
site-once P S N u v t x (inl h) (inr k) = absurd (no-yes (N.site x.session x.world).stopped k.runs h.0)
site-once P S N u v t x (inr h) (inl k) = absurd (no-yes (N.site x.session x.world).stopped h.runs k.0)
site-once P S N u v t x (inr h) (inr k) =
    let e : h.settled ≡ k.settled = one-end P S x.world None u u (N.site x.session x.world) h.settled k.settled h.settles k.settles in
    h.weight ∙ ap (λ (z : Site). u + (z.weight - (N.site x.session x.world).weight)) e ∙ sym k.weight

all-once : (P : Program) (S : Scenario) (N : Network) (u v t : ℕ) (xs : List SiteName) → SettlesAll P S N u xs v → SettlesAll P S N u xs t → v ≡ t
all-once P S N u v t [] h k = h ∙ sym k
all-once P S N u v t (x ∷ xs) h k =
    let e : h.0 ≡ k.0 = site-once P S N u h.0 k.0 x h.1 k.1 in
    all-once P S N k.0 v t xs (subst (λ (n : ℕ). SettlesAll P S N n xs v) e h.2) k.2

site-not-both : (P : Program) (S : Scenario) (N : Network) (u v : ℕ) (x : SiteName) → SettlesSite P S N u x v → ExceedsAt P S N u x → ⊥
site-not-both P S N u v x (inl h) e = no-yes (N.site x.session x.world).stopped e.runs h.0
site-not-both P S N u v x (inr h) e = not-both P S x.world None u (N.site x.session x.world) h.settled h.settles e.exceeds

-- those up to a site have settled where all have
parted : (P : Program) (S : Scenario) (N : Network) (u v : ℕ) (xs : List SiteName) (x : SiteName) (ys : List SiteName) → SettlesAll P S N u (xs ++ x ∷ ys) v → (m n : ℕ) × SettlesAll P S N u xs m × SettlesSite P S N m x n
parted P S N u v [] x ys h = (u, h.0, refl, h.1)
parted P S N u v (z ∷ xs) x ys h =
    let rest = parted P S N h.0 v xs x ys h.2 in
    (rest.0, rest.1, (h.0, h.1, rest.2), rest.3)

pub none-exceeds : (P : Program) (S : Scenario) (N : Network) (u v : ℕ) (xs : List SiteName) → SettlesAll P S N u xs v → ExceedsAmong P S N u xs → ⊥
none-exceeds P S N u v xs h e =
    let k = parted P S N u v e.passed e.site e.others (subst (λ (zs : List SiteName). SettlesAll P S N u zs v) e.all h) in
    let same : e.mid ≡ k.0 = all-once P S N u e.mid k.0 e.passed e.settles k.2 in
    site-not-both P S N k.0 k.1 e.site k.3 (subst (λ (n : ℕ). ExceedsAt P S N n e.site) same e.exceeds)
