-- The sites of all sessions stand in the order of their numbers, each once.
use Rattle.std.proofs.Common.{◌≡◌, ℕ, zero, suc, ◌+◌, ◌*◌, ◌<◌, ◌≤◌, List, [], ◌∷◌, ◌++◌, length, map, get_or, Option, None, refl, subst, ◌∙◌, arith}
use Rattle.std.specs.Prelude.{⊤, All}
use Rattle.std.proofs.lemmas.List.Elements.{All-append, All-from_recursion}
use Rattle.std.proofs.lemmas.List.{length-append}
use Rattle.m5_terms.specs.Worlds.{site_worlds}
use Rattle.m5_terms.specs.declared.types.World.{World}
use Rattle.m5_terms.specs.declared.types.World.TheVariants.{Home, Server, Panel, Any}
use Rattle.m5_meaning.specs.Site.{Site}
use Rattle.m5_script.specs.declared.items.SiteName.{SiteName}
use Rattle.m5_network.specs.Kinds.{IsAmong}
use Rattle.m5_network.specs.Plain.{sites_of}
use Rattle.m5_network.proofs.Finished.{site_of}
use Rattle.m5_network.proofs.Places.{at-place}
use Rattle.m5_sites.specs.Sites.{with_site_at}

abbrev world_number : World → ℕ
world_number Home = 0
world_number Server = 1
world_number Panel = 2
world_number Any = 3

abbrev pub number : ℕ → World → ℕ
number s w = 3 * s + world_number w

-- from k on, one by one
abbrev Numbered : ℕ → List SiteName → Type 0
Numbered k [] = ⊤
Numbered k (x ∷ xs) = (number x.session x.world ≡ k) × Numbered (suc k) xs

numbered-append : (k : ℕ) (xs ys : List SiteName) → Numbered k xs → Numbered (k + length xs) ys → Numbered k (xs ++ ys)
numbered-append k [] ys h g = let e : k + 0 ≡ k = omega arith in subst (λ n. Numbered n ys) e g
numbered-append k (x ∷ xs) ys h g =
    let e : k + suc (length xs) ≡ suc k + length xs = omega arith in
    (h.0, numbered-append (suc k) xs ys h.1 (subst (λ n. Numbered n ys) e g))

numbered-at : (k : ℕ) (xs : List SiteName) (i : ℕ) (d : SiteName) → Numbered k xs → i < length xs → number (get_or xs i d).session (get_or xs i d).world ≡ k + i
numbered-at k [] i d h l = absurd (omega (arith, l))
numbered-at k (x ∷ xs) zero d h l = h.0 ∙ omega arith
numbered-at k (x ∷ xs) (suc i) d h l = numbered-at (suc k) xs i d h.1 (omega (arith, l)) ∙ omega arith

sites-numbered : (n : ℕ) → Numbered 3 (sites_of n) × (length (sites_of n) ≡ 3 * n)
sites-numbered zero = (tt, refl)
sites-numbered (suc n) =
    let before = sites-numbered n in
    let c = before.1 in
    let e : length (sites_of n ++ map (site_of (suc n)) site_worlds) ≡ length (sites_of n) + 3 = length-append (sites_of n) (map (site_of (suc n)) site_worlds) in
    (numbered-append 3 (sites_of n) (map (site_of (suc n)) site_worlds) before.0 (omega (arith, c), (omega (arith, c), (omega (arith, c), tt))), e ∙ omega (arith, c))

-- the site at an index has the index as its number, less that of the first
pub number-at : (n i : ℕ) (d : SiteName) → i < length (sites_of n) → number (get_or (sites_of n) i d).session (get_or (sites_of n) i d).world ≡ 3 + i
number-at n i d l = numbered-at 3 (sites_of n) i d (sites-numbered n).0 l

-- a site with a greater number stays where one is taken out
pub later-stays : (s : ℕ) (w : World) (f : ℕ → World → Option Site) (z : ℕ) (v : World) → number s w < number z v → with_site_at s w None f z v ≡ f z v
later-stays s w f z v l =
    at-place (λ z v (a : ℕ) b. (number s w < number z v → b ≡ f z v)) s w 0 None (λ z v. 0) f (λ k. absurd (omega (arith, k))) (λ z v k. refl) z v l

-- each of them is a site of the run
abbrev Among : ℕ → SiteName → Type 0
Among n x = IsAmong n x.session x.world

among-all : (n m : ℕ) → n ≤ m → All (Among m) (sites_of n)
among-all zero m l = λ k d h. absurd (omega (arith, h))
among-all (suc n) m l =
    All-append (Among m) (sites_of n) (map (site_of (suc n)) site_worlds) (among-all n m (omega (arith, l)))
    (All-from_recursion (Among m) (map (site_of (suc n)) site_worlds) (
      record { from_one = omega arith; to_last = l; world = (0, omega arith, refl) },
      (
        record { from_one = omega arith; to_last = l; world = (1, omega arith, refl) },
        (record { from_one = omega arith; to_last = l; world = (2, omega arith, refl) }, tt),
      ),
    ))

pub among-at : (n i : ℕ) (d : SiteName) → i < length (sites_of n) → IsAmong n (get_or (sites_of n) i d).session (get_or (sites_of n) i d).world
among-at n i d l = among-all n n (omega arith) i d l
