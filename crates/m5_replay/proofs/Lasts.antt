-- Running the sites one by one, up to where the last line is due.
use Rattle.std.proofs.Common.{◌≡◌, ◌⊎◌, inl, inr, ℕ, suc, Bool, true, false, List, [], ◌∷◌, ◌++◌, take, drop, get_or, length, ◌<◌, ◌≤◌, ◌+◌, refl, sym, ap, subst, ◌∙◌, append_assoc, arith}
use Rattle.std.proofs.lemmas.List.{take_all, take_more, take-append-drop}
use Rattle.std.specs.Prelude.{All}
use Rattle.std.proofs.lemmas.List.Elements.{All-contains, All-push, All-cons}
use Rattle.m5_network.specs.Plain.{sites_of}
use Rattle.m5_network.specs.Run.{IsAtRest, IsFinished}
use Rattle.m5_network.proofs.Finished.{site_of, round-has}
use Rattle.m5_replay.proofs.Numbered.{among-at}
use Rattle.m5_meaning.specs.Site.{Program}
use Rattle.m5_script.specs.Scenario.{Scenario}
use Rattle.m5_script.specs.declared.items.SiteName.{SiteName}
use Rattle.m5_network.specs.Run.{Network}
use Rattle.m5_replay.specs.Fitting.{SettlesSite, SettlesAll, ExceedsAt, ExceedsAmong}

-- one more site runs
pub settles-one_more : (P : Program) (S : Scenario) (N : Network) (before : ℕ) (xs : List SiteName) (mid : ℕ) (x : SiteName) (after : ℕ) → SettlesAll P S N before xs mid → SettlesSite P S N mid x after → SettlesAll P S N before (xs ++ x ∷ []) after
settles-one_more P S N before [] mid x after h g = (after, subst (λ n. SettlesSite P S N n x after) h g, refl)
settles-one_more P S N before (y ∷ xs) mid x after h g = (h.0, h.1, settles-one_more P S N h.0 xs mid x after h.2 g)

pub settles-next : (P : Program) (S : Scenario) (N : Network) (before : ℕ) (xs : List SiteName) (i : ℕ) (d : SiteName) (mid after : ℕ) → i < length xs → SettlesAll P S N before (take i xs) mid → SettlesSite P S N mid (get_or xs i d) after → SettlesAll P S N before (take (i + 1) xs) after
settles-next P S N before xs i d mid after l h g = subst (λ ys. SettlesAll P S N before ys after) (sym (take_more xs i d l)) (settles-one_more P S N before (take i xs) mid (get_or xs i d) after h g)

apart : (xs : List SiteName) (i : ℕ) (d : SiteName) → i < length xs → xs ≡ take i xs ++ get_or xs i d ∷ drop (i + 1) xs
apart xs i d l = sym (take-append-drop (i + 1) xs) ∙ (ap (λ ys. ys ++ drop (i + 1) xs) (take_more xs i d l) ∙ append_assoc (take i xs) (get_or xs i d ∷ []) (drop (i + 1) xs))

-- the site at i is beyond the budget, those before it having run
pub exceeds-at : (P : Program) (S : Scenario) (N : Network) (before : ℕ) (xs : List SiteName) (i : ℕ) (d : SiteName) (mid : ℕ) → i < length xs → SettlesAll P S N before (take i xs) mid → ExceedsAt P S N mid (get_or xs i d) → ExceedsAmong P S N before xs
exceeds-at P S N before xs i d mid l h g = record { passed = take i xs; site = get_or xs i d; others = drop (i + 1) xs; all = apart xs i d l; mid = mid; settles = h; exceeds = g }

-- a site is at rest or stopped
abbrev Quiet : Program → Network → SiteName → Type 0
Quiet P N x = IsAtRest P N x.session x.world ⊎ ((N.site x.session x.world).stopped ≡ true)

-- the run is finished exactly where the sites of a round are so
pub finished-from_quiet : (P : Program) (S : Scenario) (N : Network) → All (Quiet P N) (sites_of S.sessions) → IsFinished P S N
finished-from_quiet P S N q = λ s w i. All-contains (Quiet P N) (sites_of S.sessions) (site_of s w) q (round-has S.sessions s w i)

pub quiet-from_finished : (P : Program) (S : Scenario) (N : Network) → IsFinished P S N → All (Quiet P N) (sites_of S.sessions)
quiet-from_finished P S N f = λ i d l. f (get_or (sites_of S.sessions) i d).session (get_or (sites_of S.sessions) i d).world (among-at S.sessions i d l)

-- one more site is quiet, or is not
pub quiet-next : (P : Program) (N : Network) (xs : List SiteName) (i : ℕ) (d : SiteName) → i < length xs → All (Quiet P N) (take i xs) → Quiet P N (get_or xs i d) → All (Quiet P N) (take (i + 1) xs)
quiet-next P N xs i d l h q = subst (All (Quiet P N)) (sym (take_more xs i d l)) (All-push (Quiet P N) (take i xs) (get_or xs i d) h q)

all-before : (T : SiteName → Type 0) (xs : List SiteName) (x : SiteName) → All T (xs ++ x ∷ []) → All T xs × T x
all-before T [] x h = (λ k d l. absurd (omega (arith, l)), h 0 x (omega arith))
all-before T (y ∷ xs) x h =
    let r = all-before T xs x (λ k d l. h (suc k) d (omega (arith, l))) in
    (All-cons T y xs (h 0 x (omega arith)) r.0, r.1)

pub quiet-before : (P : Program) (N : Network) (xs : List SiteName) (i : ℕ) (d : SiteName) → i < length xs → All (Quiet P N) (take (i + 1) xs) → All (Quiet P N) (take i xs) × Quiet P N (get_or xs i d)
quiet-before P N xs i d l h = all-before (Quiet P N) (take i xs) (get_or xs i d) (subst (All (Quiet P N)) (take_more xs i d l) h)

-- the first i sites have run: what all weighs then, and whether they are all quiet
pub record HasRun (P : Program) (S : Scenario) (N : Network) (before : ℕ) (xs : List SiteName) (i : ℕ) (quiet : Bool) (after : ℕ) : Type 0 where
  pub settles : SettlesAll P S N before (take i xs) after
  pub rests : quiet ≡ true → All (Quiet P N) (take i xs)
  pub busy : quiet ≡ false → All (Quiet P N) (take i xs) → ⊥

pub none-run : (P : Program) (S : Scenario) (N : Network) (before : ℕ) (xs : List SiteName) → HasRun P S N before xs 0 true before
none-run P S N before xs = record { settles = refl; rests = λ e k d l. absurd (omega (arith, l)); busy = λ e. cc }

pub run-next : (P : Program) (S : Scenario) (N : Network) (before : ℕ) (xs : List SiteName) (i : ℕ) (d : SiteName) (quiet now : Bool) (mid after : ℕ) → i < length xs → HasRun P S N before xs i quiet mid
    → SettlesSite P S N mid (get_or xs i d) after → (now ≡ true → (quiet ≡ true) × Quiet P N (get_or xs i d)) → (now ≡ false → (quiet ≡ false) ⊎ (Quiet P N (get_or xs i d) → ⊥)) → HasRun P S N before xs (i + 1) now after
run-next P S N before xs i d quiet now mid after l h g r b = record {
  settles = settles-next P S N before xs i d mid after l h.settles g;
  rests = λ e. quiet-next P N xs i d l (h.rests (r e).0) (r e).1;
  busy = λ e q. elim (b e) [
    | inl f ↦ h.busy f (quiet-before P N xs i d l q).0
    | inr f ↦ f (quiet-before P N xs i d l q).1
  ];
}

pub run-whole : (P : Program) (S : Scenario) (N : Network) (before : ℕ) (xs : List SiteName) (i : ℕ) (quiet : Bool) (after : ℕ) → length xs ≤ i → HasRun P S N before xs i quiet after
    → SettlesAll P S N before xs after × (quiet ≡ true → All (Quiet P N) xs) × (quiet ≡ false → All (Quiet P N) xs → ⊥)
run-whole P S N before xs i quiet after l h =
    let e : take i xs ≡ xs = take_all i xs l in
    (subst (λ ys. SettlesAll P S N before ys after) e h.settles, λ q. subst (All (Quiet P N)) e (h.rests q), λ q a. h.busy q (subst (All (Quiet P N)) (sym e) a))
