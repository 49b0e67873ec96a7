-- Counting down to zero by one and by two: two machines with a pass between them, for the tests of passes.
use Rattle.std.proofs.Common.{◌≡◌, ◌≤◌, ◌==◌, ℕ, zero, suc, Some, IfSome, IsTrue, inr, refl, subst}
use Rattle.std.proofs.Math.Nat.{le-suc, le_trans, suc-le-suc_iff}
use Rattle.m5_terms.specs.Machine.{Next, goes, asks, wrong, Machine}
use Rattle.m5_terms.specs.Matching.{Reading, Reaches, AsksAlike, Matches, Moments, Meeting, AreMet}
use Rattle.m5_terms.specs.Related.{Asking}
use Rattle.m5_terms.specs.declared.ask.AskOf.TheVariants as ask

-- how far it is to zero, with the steps so far; at zero it asks from where to count next
abbrev pub counted : (ℕ → ℕ) → ℕ → ℕ → Next (ℕ × ℕ) (Unit {0}) ℕ
counted f zero k = asks tt (λ n. Some (n, k))
counted f (suc n) k = goes (f n, suc k)

abbrev pub counts : (ℕ → ℕ) → Machine
counts f = record { State = ℕ × ℕ; Ask = Unit {0}; Answer = ℕ; next = λ c. counted f c.0 c.1; lawful = λ c n. Unit {0} }

abbrev pub less_one : ℕ → ℕ
less_one zero = zero
less_one (suc n) = n

-- a site that takes whatever comes
abbrev pub takes : Asking
takes = record { Item = ℕ; State = ℕ; next = λ n. asks ask.Take (λ r. Some (suc n)); lawful = λ n r. Unit {0} }

-- as far from zero, after at most as many steps
abbrev pub sooner : (f g : ℕ → ℕ) → Reading (counts f) (counts g)
sooner f g = record { state = λ t s. (t.0 ≡ s.0) × (t.1 ≤ s.1); ask = λ a b. Unit {0}; answer = λ n m. n ≡ m }

-- the moments at zero
abbrev pub at_zero : (f : ℕ → ℕ) → Moments (counts f)
at_zero f = λ c. IsTrue (c.0 == 0)

-- after at most as many steps
abbrev pub no_later : (f g : ℕ → ℕ) → Meeting (counts f) (counts g) (at_zero f) (at_zero g)
no_later f g = λ t m s k. t.1 ≤ s.1

abbrev Owed : ℕ × ℕ → ℕ × ℕ → Next (ℕ × ℕ) (Unit {0}) ℕ → Type 0
Owed t s (goes to) = Reaches (counts (λ n. n)) (counts less_one) (sooner (λ n. n) less_one) to s
Owed t s (asks a f) = AsksAlike (counts (λ n. n)) (counts less_one) (sooner (λ n. n) less_one) t a f s
Owed t s wrong = ⊥

owed : (n j k : ℕ) → j ≤ k → Owed (n, j) (n, k) (counted less_one n j)
owed zero j k l = record { steps = 0; waiting = (0, k); comes = refl; ask = tt; resume = λ n. Some (n, k); asking = refl; reads = tt; lawful = λ n m r h. tt; after = λ n to m r h e. ((m, k), refl, subst (λ o. IfSome o (λ t. (t.0 ≡ m) × (t.1 ≤ k))) e (r, l)) }
owed (suc zero) j k l = record { steps = 1; at = (0, suc k); comes = ((0, suc k), refl, refl); reads = (refl, suc-le-suc_iff.1 l) }
owed (suc (suc n)) j k l = record { steps = 2; at = (n, suc (suc k)); comes = ((suc n, suc k), refl, ((n, suc (suc k)), refl, refl)); reads = (refl, suc-le-suc_iff.1 (le_trans l (le-suc k))) }

owes : (t s : ℕ × ℕ) → (t.0 ≡ s.0) × (t.1 ≤ s.1) → Owed t s (counted less_one t.0 t.1)
owes t s r = subst (λ n. Owed t (n, s.1) (counted less_one t.0 t.1)) r.0 (owed t.0 t.1 s.1 r.1)

pub by_two_matches : Matches (counts (λ n. n)) (counts less_one) (sooner (λ n. n) less_one)
by_two_matches = record {
  on_step = λ t to s r e. inr (subst (Owed t s) e (owes t s r));
  on_ask = λ t a f s r e. inr (subst (Owed t s) e (owes t s r));
  on_wrong = λ t s r e. absurd (subst (Owed t s) e (owes t s r));
}

pub by_two_is_met : AreMet (counts (λ n. n)) (counts less_one) (sooner (λ n. n) less_one) (at_zero (λ n. n)) (at_zero less_one) (no_later (λ n. n) less_one)
by_two_is_met t s r m = inr (record { steps = 0; at = s; comes = refl; moment = subst (λ n. IsTrue (n == 0)) r.0 m; met = r.1 })
