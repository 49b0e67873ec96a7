-- Settling step by step: the start, one local step more, the end, and a moment beyond the budget.
use Rattle.std.proofs.Common.{◌≡◌, ℕ, suc, ◌<◌, Option, refl, sym, subst, arith, inl, inr}
use Rattle.m5_terms.specs.declared.types.World.{World}
use Rattle.m5_terms.specs.declared.ask.Cause.{Cause}
use Rattle.m5_terms.specs.Machine.{goes, asks, wrong, Comes}
use Rattle.m5_terms.specs.declared.ask.AskOf.{AskOf}
use Rattle.m5_terms.specs.declared.ask.AnswerOf.{AnswerOf}
use Rattle.m5_meaning.specs.Site.{Program, Site, Item}
use Rattle.m5_meaning.specs.Step.{SiteNext, site_next}
use Rattle.m5_script.specs.Scenario.{Scenario}
use Rattle.m5_source_site.specs.Waiting.{resumed}
use Rattle.m5_replay.specs.Settling.{StopsHere, Settling, EndsHere, IsWithin, Exceeds}
use Rattle.m5_replay.specs.code.Looking.{IsEnd, SettlesTo}
use Rattle.m5_replay.specs.declared.settle.Settled.{Settled}
use Rattle.m5_replay.specs.declared.settle.Settled.TheVariants as settled
use Rattle.m5_sites.proofs.LocalSteps.{one-way, longer, earlier}

-- the settling has come so far, within the budget before
pub record Coming (P : Program) (S : Scenario) (w : World) (cause : Option Cause) (before : ℕ) (from at : Site) : Type 0 where
  pub steps : ℕ
  pub settling : Settling P S w cause steps from at
  pub passed : (m : ℕ) (x : Site) → m < steps → Comes (site_next P w) m from x → IsWithin before from x

pub begins : (P : Program) (S : Scenario) (w : World) (cause : Option Cause) (before : ℕ) (a : Site) → Coming P S w cause before a a
begins P S w cause before a = record {
  steps = 0;
  settling = record { comes = refl; unstopped = λ m x h k j. absurd (omega (arith, h)) };
  passed = λ m x h k. absurd (omega (arith, h));
}

-- what holds of each state before, and of this one, holds of each up to it
up-to : (P : Program) (w : World) (Q : Site → Type 0) (n : ℕ) (a b : Site) → Comes (site_next P w) n a b → ((m : ℕ) (x : Site) → m < n → Comes (site_next P w) m a x → Q x) → Q b → (m : ℕ) (x : Site) → m < suc n → Comes (site_next P w) m a x → Q x
up-to P w Q n a b c h q m x l k =
    elim (earlier m n l) [
      | inl p ↦ h m x p k
      | inr p ↦ subst Q (one-way (site_next P w) n a b x c (subst (λ (z : ℕ). Comes (site_next P w) z a x) p k)) q
    ]

pub goes-on : (P : Program) (S : Scenario) (w : World) (cause : Option Cause) (before : ℕ) (a b c : Site) → Coming P S w cause before a b → IsWithin before a b → (StopsHere P S w cause b → ⊥) × (site_next P w b ≡ goes c) → Coming P S w cause before a c
goes-on P S w cause before a b c h i k = record {
  steps = suc h.steps;
  settling = record {
    comes = longer (site_next P w) h.steps a b c h.settling.comes k.1;
    unstopped = up-to P w (λ (x : Site). StopsHere P S w cause x → ⊥) h.steps a b h.settling.comes h.settling.unstopped k.0;
  };
  passed = up-to P w (IsWithin before a) h.steps a b h.settling.comes h.passed i;
}

no-goes-asks : (n : SiteNext) (q : AskOf Item) (r : AnswerOf Item → Option Site) (t : Site) → n ≡ asks q r → n ≡ goes t → ⊥
no-goes-asks n q r t e f = cc

no-goes-wrong : (n : SiteNext) (t : Site) → n ≡ wrong → n ≡ goes t → ⊥
no-goes-wrong n t e f = cc

ends-here : (P : Program) (S : Scenario) (w : World) (cause : Option Cause) (x : Site) (end : Settled) → IsEnd P S w cause x end → EndsHere P S w cause x
ends-here P S w cause x (settled.Stops c) h = inl (subst (λ (o : Option Cause). StopsHere P S w o x) (sym h.0) h.1)
ends-here P S w cause x (settled.Asks q y) h = inr (λ t e. no-goes-asks (site_next P w x) q (resumed P w y.site y.wait) t h.1 e)
ends-here P S w cause x settled.Wrong h = inr (λ t e. no-goes-wrong (site_next P w x) t h.1 e)

pub ends : (P : Program) (S : Scenario) (w : World) (cause : Option Cause) (before : ℕ) (a b : Site) (weight : ℕ) (end : Settled) → Coming P S w cause before a b → IsWithin before a b → weight ≡ b.weight → IsEnd P S w cause b end → SettlesTo P S w cause before a weight end
ends P S w cause before a b weight end h i e k = record {
  at = b;
  settles = record {
    steps = h.steps;
    settling = h.settling;
    ends = ends-here P S w cause b end k;
    within = λ m x l. up-to P w (IsWithin before a) h.steps a b h.settling.comes h.passed i m x (omega (arith, l));
  };
  weighs = e;
  ends = k;
}

pub exceeds : (P : Program) (S : Scenario) (w : World) (cause : Option Cause) (before : ℕ) (a b : Site) → Coming P S w cause before a b → (IsWithin before a b → ⊥) → Exceeds P S w cause before a
exceeds P S w cause before a b h i = record { steps = h.steps; at = b; settling = h.settling; beyond = i }
