-- Local steps: to one state alone, one more, and none past a state that makes none.
use Rattle.std.proofs.Common.{◌≡◌, ℕ, zero, suc, ◌<◌, refl, sym, ◌∙◌, subst, arith, inl, inr, ◌⊎◌}
use Rattle.m5_terms.specs.Machine.{goes, Comes}
use Rattle.m5_meaning.specs.Site.{Site}
use Rattle.m5_meaning.specs.Step.{SiteNext}

pub same-step : (a b : Site) (n : SiteNext) → n ≡ goes a → n ≡ goes b → a ≡ b
same-step a b n e f = let k : goes a ≡ goes b = sym e ∙ f in cc

-- local steps lead to one state
pub one-way : (f : Site → SiteNext) (n : ℕ) (a b c : Site) → Comes f n a b → Comes f n a c → b ≡ c
one-way f zero a b c h k = sym h ∙ k
one-way f (suc n) a b c h k =
    let e : h.0 ≡ k.0 = same-step h.0 k.0 (f a) h.1 k.1 in
    one-way f n k.0 b c (subst (λ (z : Site). Comes f n z b) e h.2) k.2

pub longer : (f : Site → SiteNext) (n : ℕ) (a b c : Site) → Comes f n a b → f b ≡ goes c → Comes f (suc n) a c
longer f zero a b c h e = (c, subst (λ (z : Site). f z ≡ goes c) (sym h) e, refl)
longer f (suc n) a b c h e = (h.0, h.1, longer f n h.0 b c h.2 e)

pub earlier : (m n : ℕ) → m < suc n → (m < n) ⊎ (m ≡ n)
earlier m n h = grind arith

-- where more steps are made, the state after fewer makes one
pub goes-further : (f : Site → SiteNext) (n m : ℕ) (a b c : Site) → n < m → Comes f n a b → Comes f m a c → (t : Site) × (f b ≡ goes t)
goes-further f n zero a b c l h k = absurd (omega (arith, l))
goes-further f zero (suc m) a b c l h k = (k.0, subst (λ (z : Site). f z ≡ goes k.0) h k.1)
goes-further f (suc n) (suc m) a b c l h k =
    let e : h.0 ≡ k.0 = same-step h.0 k.0 (f a) h.1 k.1 in
    goes-further f n m k.0 b c (omega (arith, l)) (subst (λ (z : Site). Comes f n z b) e h.2) k.2
