-- A block's body follows its code.
use Rattle.std.proofs.Common.{◌≡◌, ◌+◌, ◌==◌, ℕ, suc, Bool, true, false, if◌then◌else◌, List, [], ◌∷◌, length, refl, sym, subst, arith}
use Rattle.std.specs.List.{AllZip}
use Rattle.m5_terms.specs.declared.types.World.{World}
use Rattle.m5_region.specs.declared.value.Value.{Value}
use Rattle.m5_region.specs.declared.bench.Bench.{Bench}
use Rattle.m5_machine.specs.Blocks.{Flat}
use Rattle.m5_machine.specs.Block.{run_body}
use Rattle.m5_cps.specs.Blocks.{Straight, Test}
use Rattle.m5_cps.specs.Values.{put, put_all, filled_by}
use Rattle.m5_cps.specs.Units.{closure_units}
use Rattle.m5_flat.specs.Blocks.{Code, straight, closure, test, ends, Blocks}
use Rattle.m5_flat.specs.Running.{run}
use Rattle.m5_flat.specs.Values.{under, Site, taken}
use Rattle.m5_flat.specs.Values as flat
use Rattle.m5_emit.specs.Emit.{Dialect, code_body}
use Rattle.m5_emit.specs.Follows.{Grows, Holds, IsSite, Follows}
use Rattle.m5_emit.specs.Laws.{IsClosure, MayGo, AreHeld, BodiesFollow}
use Rattle.m5_emit.proofs.Instructions.{holds_on}
use Rattle.m5_emit.proofs.Whole.{straights_follow}
use Rattle.m5_emit.proofs.Closures.{closures_follow}
use Rattle.m5_emit.proofs.Tests.{tests_follow}
use Rattle.m5_emit.proofs.Endings.{endings_follow}

held_on : (old new : Bench) (at : ℕ → ℕ) (n : ℕ) (ρ : ℕ → flat.Value) → Grows old new → AreHeld old at n ρ → AreHeld new at n ρ
held_on old new at n ρ g h l lt = holds_on old new (at l) (ρ l) g (h l lt)

-- one slot more
pub held_put : (bench : Bench) (at : ℕ → ℕ) (n p : ℕ) (ρ : ℕ → flat.Value) (a : flat.Value) → AreHeld bench at n ρ → Holds bench p a → AreHeld bench (put n p at) (suc n) (put n a ρ)
held_put bench at n p ρ a h k l lt = by_test (l == n) refl
  where
    by_test : (b : Bool) → (l == n) ≡ b → Holds bench (if b then p else at l) (if b then a else ρ l)
    by_test true e = k
    by_test false e = h l (grind (arith, lt, e))

-- the parts of a test
held_all : (bench : Bench) (ps : List ℕ) (vs : List flat.Value) (at : ℕ → ℕ) (n : ℕ) (ρ : ℕ → flat.Value) → AreHeld bench at n ρ → AllZip (Holds bench) ps vs → (filled_by vs n ≡ filled_by ps n) × AreHeld bench (put_all n ps at) (filled_by vs n) (put_all n vs ρ)
held_all bench [] [] at n ρ h k = (refl, h)
held_all bench (p ∷ ps) (a ∷ vs) at n ρ h k = held_all bench ps vs (put n p at) (suc n) (put n a ρ) (held_put bench at n p ρ a h k.0) k.1
held_all bench [] (a ∷ vs) at n ρ h k = absurd k
held_all bench (p ∷ ps) [] at n ρ h k = absurd k

module _ (total : ℕ) (hs : List Value) (code : Flat) (d : Dialect) (u : World) (B : Blocks) where
  abbrev Runs : Code → Type 0
  Runs c = (n : ℕ) (at : ℕ → ℕ) (ρ : ℕ → flat.Value) (s : Site) (bench : Bench) → MayGo code B u c n ρ s → AreHeld bench at n ρ → IsSite total hs bench s →
      Follows total hs (run B u c n ρ s) (run_body code (code_body d u B.primitives c n at (length bench.slots)) bench)

  straight_runs : (f : Straight) (c : Code) → Runs c → Runs (straight f c)
  straight_runs f c ih n at ρ s bench may h t =
      straights_follow total hs code d u f at ρ s bench (λ p k. code_body d u B.primitives c (suc n) (put n p at) k) (λ s1 a. run B u c (suc n) (put n a ρ) s1) may.0 (λ x e. h x (may.1 x e)) t
      (λ new s1 p a go g t1 k. ih (suc n) (put n p at) (put n a ρ) s1 new (may.2 s1 a go) (held_put new at n p ρ a (held_on bench new at n ρ g h) k) t1)

  closure_runs : (ls : List ℕ) (i : ℕ) (c : Code) → Runs c → Runs (closure ls i c)
  closure_runs ls i c ih n at ρ s bench may h t =
      closures_follow total hs code d u ls i at ρ s bench (λ p k. code_body d u B.primitives c (suc n) (put n p at) k) (λ s1 a. run B u c (suc n) (put n a ρ) s1) (λ j l e. h l (may.0 j l e)) t
      (λ new s1 p a go g t1 k. ih (suc n) (put n p at) (put n a ρ) s1 new (next s1 a go) (held_put new at n p ρ a (held_on bench new at n ρ g h) k) t1)
    where
      next : (s1 : Site) (a : flat.Value) → IsClosure ls i ρ s s1 a → MayGo code B u c (suc n) (put n a ρ) s1
      next s1 a go = subst (λ z. MayGo code B u c (suc n) (put n a ρ) z) (sym go.0) (subst (λ z. MayGo code B u c (suc n) (put n z ρ) (record s { units = s.units + closure_units (length ls) })) (sym go.1) may.1)

  test_runs : (t : Test) (x : ℕ) (b c : Code) → Runs b → Runs c → Runs (test t x b c)
  test_runs t x b c ihb ihc n at ρ s bench may h k =
      tests_follow total hs code d u t (at x) (ρ x) s bench (λ parts. run B u b (filled_by parts n) (put_all n parts ρ) s) (λ parts. run B u c (filled_by parts n) (put_all n parts ρ) s)
      (λ qs m. code_body d u B.primitives b (filled_by qs n) (put_all n qs at) m) (λ qs m. code_body d u B.primitives c (filled_by qs n) (put_all n qs at) m) (h x may.0) k
      (λ new qs parts w g k1 z. way b ihb new qs parts g k1 z (may.1 parts w)) (λ new qs parts w g k1 z. way c ihc new qs parts g k1 z (may.2 parts w))
    where
      way : (e : Code) → Runs e → (new : Bench) (qs : List ℕ) (parts : List flat.Value) → Grows bench new → IsSite total hs new s → AllZip (Holds new) qs parts → MayGo code B u e (filled_by parts n) (put_all n parts ρ) s →
          Follows total hs (run B u e (filled_by parts n) (put_all n parts ρ) s) (run_body code (code_body d u B.primitives e (filled_by qs n) (put_all n qs at) (length new.slots)) new)
      way e ih new qs parts g k1 z may =
          let f = held_all new qs parts at n ρ (held_on bench new at n ρ g h) z in
          subst (λ j. Follows total hs (run B u e (filled_by parts n) (put_all n parts ρ) s) (run_body code (code_body d u B.primitives e j (put_all n qs at) (length new.slots)) new)) f.0
          (ih (filled_by parts n) (put_all n qs at) (put_all n parts ρ) s new may f.1 k1)

  runs : (c : Code) → Runs c
  runs (straight f c) = straight_runs f c (runs c)
  runs (closure ls i c) = closure_runs ls i c (runs c)
  runs (test t x b c) = test_runs t x b c (runs b) (runs c)
  runs (ends e) = λ n at ρ s bench may h t. endings_follow total hs code d u B e at ρ s bench may.1 (λ x k. h x (may.0 x k)) t

pub bodies_follow : BodiesFollow
bodies_follow total hs code d u B c n at ρ s bench may h t = runs total hs code d u B c n at ρ s bench may h t
