-- The plain order ends with each site at rest or stopped, of any kind.
use Rattle.std.proofs.Common.{◌≡◌, ◌⊎◌, inl, inr, ℕ, zero, suc, ◌≤◌, true, List, [], ◌∷◌, map, Contains, sym, ap, subst, ◌∙◌, arith}
use Rattle.std.proofs.lemmas.List.Elements.{All-from_recursion, All-contains, Contains-append_left, Contains-append_right}
use Rattle.std.specs.List.{AllByRecursion as Each}
use Rattle.m5_terms.specs.Worlds.{site_worlds, IsSiteWorld}
use Rattle.m5_terms.specs.declared.types.World.{World}
use Rattle.m5_script.specs.Scenario.{Scenario}
use Rattle.m5_script.specs.declared.items.SiteName.{SiteName}
use Rattle.m5_network.specs.Entries.{Deed}
use Rattle.m5_network.specs.Kinds.{Kind, NetOf, IsAmong, Rests, IsOver}
use Rattle.m5_network.specs.Plain.{TurnOf, Turns, sites_of, joined, PlainOrder}

-- the site is at rest or stopped
abbrev IsQuiet : (K : Kind) → NetOf K → SiteName → Type 0
IsQuiet K N x = Rests (K.next x.session x.world) N x.session x.world ⊎ (K.is_stopped (N.site x.session x.world) ≡ true)

-- turns that make no deed leave the network as it is, and find each site quiet
silent-turns : (K : Kind) (N M : NetOf K) (xs : List SiteName) (dss : List (List (Deed K.Item))) → Turns (TurnOf K) N xs dss M → joined dss ≡ [] → (M ≡ N) × Each (IsQuiet K N) xs
silent-turns K N M [] [] t e = (t, tt)
silent-turns K N M [] (ds ∷ dss) t e = absurd t
silent-turns K N M (x ∷ xs) [] t e = absurd t
silent-turns K N M (x ∷ xs) ([] ∷ dss) t e =
    let rest : (M ≡ t.0) × Each (IsQuiet K t.0) xs = silent-turns K t.0 M xs dss t.2 e in
    (rest.0 ∙ t.1.0, (t.1.1, subst (λ L. Each (IsQuiet K L) xs) t.1.0 rest.1))
silent-turns K N M (x ∷ xs) ((d ∷ ds) ∷ dss) t e = cc

-- the name of a session's site
abbrev pub site_of : ℕ → World → SiteName
site_of s w = record { session = s; world = w }

-- each site of a session is named
all-there : (n : ℕ) (w : World) (ws : List World) → Contains ws w → Contains (map (site_of n) ws) (site_of n w)
all-there n w [] (k, h, e) = absurd (omega (arith, h))
all-there n w (v ∷ ws) (zero, h, e) = (0, omega arith, ap (site_of n) e)
all-there n w (v ∷ ws) (suc k, h, e) = let r = all-there n w ws (k, omega (arith, h), e) in (suc r.0, omega (arith, r.1), r.2)

earlier : (s n : ℕ) → s ≤ suc n → (s ≤ n) ⊎ (s ≡ suc n)
earlier s n h = grind arith

first-have : (n s : ℕ) (w : World) → 1 ≤ s → s ≤ n → IsSiteWorld w → Contains (sites_of n) (site_of s w)
first-have zero s w h k i = absurd (omega (arith, h, k))
first-have (suc n) s w h k i =
    elim (earlier s n k) [
      | inl l ↦ Contains-append_left (sites_of n) (map (site_of (suc n)) site_worlds) (site_of s w) (first-have n s w h l i)
      | inr e ↦ Contains-append_right (sites_of n) (map (site_of (suc n)) site_worlds) (site_of s w) (subst (λ z. Contains (map (site_of (suc n)) site_worlds) (site_of z w)) (sym e) (all-there (suc n) w site_worlds i))
    ]

-- a round has each site of the run
pub round-has : (n s : ℕ) (w : World) → IsAmong n s w → Contains (sites_of n) (site_of s w)
round-has n s w i = first-have n s w i.from_one i.to_last i.world

-- after the plain order each site is at rest or stopped
pub order-finished : (K : Kind) (S : Scenario) (N M : NetOf K) (deeds : List (Deed K.Item)) → PlainOrder (TurnOf K) S N deeds M → IsOver K S.sessions M
order-finished K S N M deeds o = λ s w i.
    let k : (M ≡ o.settled) × Each (IsQuiet K o.settled) (sites_of S.sessions) = silent-turns K o.settled M (sites_of S.sessions) o.silent o.last o.found_nothing in
    let x : SiteName = site_of s w in
    let q : IsQuiet K o.settled x = All-contains (IsQuiet K o.settled) (sites_of S.sessions) x (All-from_recursion (IsQuiet K o.settled) (sites_of S.sessions) k.1) (round-has S.sessions s w i) in
    subst (λ L. IsQuiet K L x) (sym k.0) q
