-- The instructions of a closure follow it.
use Rattle.std.proofs.Common.{◌≡◌, ℕ, zero, suc, pos, List, [], ◌∷◌, map, length, Some, slice_get, refl, ap, subst, arith}
use Rattle.std.specs.List.{AllZip}
use Rattle.m5_region.specs.declared.value.Value.{Value}
use Rattle.m5_region.specs.declared.value.Value.TheVariants as values
use Rattle.m5_region.specs.declared.bench.Bench.{Bench}
use Rattle.m5_machine.specs.declared.step.Instruction.TheVariants as instructions
use Rattle.m5_cps.specs.Values.{closed}
use Rattle.m5_cps.specs.Units.{closure_units}
use Rattle.m5_flat.specs.Values.{under, taken}
use Rattle.m5_flat.specs.Values as flat
use Rattle.m5_emit.specs.Represents.{Represents}
use Rattle.m5_emit.specs.Follows.{Holds}
use Rattle.m5_emit.specs.Laws.{IsClosure, ClosuresFollow}
use Rattle.m5_emit.proofs.Standing.{stands_on}
use Rattle.m5_emit.proofs.Instructions.{tagged_on}

-- the values of the slots that a closure takes
record Values (bench : Bench) (at : ℕ → ℕ) (ρ : ℕ → flat.Value) (ls : List ℕ) : Type 0 where
  values : List Value
  there : AllZip (λ o v. slice_get bench.slots o ≡ Some v) (map at ls) values
  long : length values ≡ length ls
  stand : (j : ℕ) (x : Value) → slice_get values j ≡ Some x → Represents bench.region.objects (taken ls ρ j) x

taken_values : (bench : Bench) (at : ℕ → ℕ) (ρ : ℕ → flat.Value) (ls : List ℕ) → ((j l : ℕ) → slice_get ls j ≡ Some l → Holds bench (at l) (ρ l)) → Values bench at ρ ls
taken_values bench at ρ [] h = record { values = []; there = tt; long = refl; stand = λ j x e. absurd (cc (e)) }
taken_values bench at ρ (l ∷ ls) h =
    let k = h zero l refl in
    let r = taken_values bench at ρ ls (λ j n e. h (suc j) n e) in
    record { values = k.value ∷ r.values; there = (k.there, r.there); long = ap suc r.long; stand = stands k.value k.stands r.values r.stand }
  where
    stands : (v : Value) → Represents bench.region.objects (ρ l) v → (vs : List Value) → ((j : ℕ) (x : Value) → slice_get vs j ≡ Some x → Represents bench.region.objects (taken ls ρ j) x) → (j : ℕ) (x : Value) → slice_get (v ∷ vs) j ≡ Some x → Represents bench.region.objects (taken (l ∷ ls) ρ j) x
    stands v r vs k zero x e = let q : v ≡ x = cc (e) in subst (Represents bench.region.objects (ρ l)) q r
    stands v r vs k (suc j) x e = k j x e

pub closures_follow : ClosuresFollow
closures_follow total hs code d u ls i at ρ s bench rest go_on v h go =
    let r = taken_values bench at ρ ls v in
    tagged_on total hs (IsClosure ls i ρ s) code (instructions.Int (pos i)) (values.Int (pos i)) (map at ls) r.values (closure_units (length ls)) bench s (closed (under i (length ls)) (taken ls ρ)) rest go_on (λ b. refl) r.there (omega (arith, r.long))
    (λ os w k. (r.values, k, r.long, λ j x e. stands_on bench.region.objects os (taken ls ρ j) x (r.stand j x e))) h (refl, refl) go
