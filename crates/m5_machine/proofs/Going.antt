-- From block to block.
use Rattle.std.proofs.Common.{◌≡◌, ℕ, suc, ◌∙◌, List, [], ◌∷◌, refl, ap, sym, subst, arith, Option, Some, None}
use Rattle.std.proofs.lemmas.List.Elements.{All-cons, All-nil}
use Rattle.m5_region.specs.declared.value.Value.{Value}
use Rattle.m5_region.specs.declared.bench.Bench.{Bench}
use Rattle.m5_region.specs.declared.out.Out.{Out}
use Rattle.m5_region.specs.declared.out.Out.TheVariants as out
use Rattle.m5_region.specs.Region.{Object, Refers}
use Rattle.m5_machine.specs.declared.closure.Target.{Target}
use Rattle.m5_machine.specs.declared.next.Next.{Next}
use Rattle.m5_machine.specs.declared.next.Next.TheVariants.{Enters, Asks, Sends, Ended, FullRegion, FullTable, NoCase}
use Rattle.m5_machine.specs.Blocks.{Flat}
use Rattle.m5_machine.specs.Closure.{entry}
use Rattle.m5_machine.specs.Block.{NextFits}
use Rattle.m5_machine.specs.Run.{run_block, ending, entering, next_block, going, after_block, run_from, OutFits}
use Rattle.m5_machine.specs.code.Running.{IsReady, MayEnter}

pub spent : (code : Flat) (fuel : ℕ) (c v : Value) (to : Target) (bench : Bench) → fuel ≡ 0 → run_from code fuel c v to bench ≡ (out.Spent, bench)
unfolding run_from
spent code fuel c v to bench e = rw e refl

-- the first two slots of a block that may be entered
pub ready : (code : Flat) (bench : Bench) (c v : Value) (to : Target) (fuel : ℕ) → MayEnter code bench c v to → IsReady code (record bench { fuel = fuel; slots = c ∷ v ∷ [] }) to.start
ready code bench c v to fuel m = record {
  body = m.begins.body;
  running = record {
    sound = record { cells = m.sound.cells; threads = m.sound.threads };
    slots = All-cons (Refers bench.region.objects) c (v ∷ []) m.closure_refers (All-cons (Refers bench.region.objects) v [] m.value_refers (All-nil (Refers bench.region.objects)));
  };
  room = omega (arith, m.begins.room);
}

entered : (code : Flat) (fuel left : ℕ) (c v : Value) (to : Target) (bench : Bench) (p : Next × Bench) → fuel ≡ suc left → run_block code c v to.start (record bench { fuel = left }) ≡ p → run_from code fuel c v to bench ≡ after_block code to.label p.0 p.1 (run_from code left)
unfolding run_from
entered code fuel left c v to bench p e b = ap (λ (n : ℕ). run_from code n c v to bench) e ∙ ap (λ (x : Next × Bench). after_block code to.label x.0 x.1 (run_from code left)) b

-- a block that enters no other ends the run
pub ends : (code : Flat) (fuel left : ℕ) (c v : Value) (to : Target) (bench new : Bench) (next : Next) → fuel ≡ suc left → run_block code c v to.start (record bench { fuel = left }) ≡ (next, new) → None ≡ entering next → run_from code fuel c v to bench ≡ (ending to.label next, new)
ends code fuel left c v to bench new next e b n =
    entered code fuel left c v to bench (next, new) e b
    ∙ ap (λ (o : Option (Value × Value)). going (next_block code new.region.objects o) o to.label next new (run_from code left)) (sym n)

pub no_block : (code : Flat) (fuel left : ℕ) (c v : Value) (to : Target) (bench new : Bench) (next : Next) (p : Value × Value) → fuel ≡ suc left → run_block code c v to.start (record bench { fuel = left }) ≡ (next, new) → Some p ≡ entering next → None ≡ entry code new.region.objects p.0 → run_from code fuel c v to bench ≡ (ending to.label next, new)
no_block code fuel left c v to bench new next p e b n t =
    entered code fuel left c v to bench (next, new) e b
    ∙ ap (λ (o : Option (Value × Value)). going (next_block code new.region.objects o) o to.label next new (run_from code left)) (sym n)
    ∙ ap (λ (o : Option Target). going o (Some p) to.label next new (run_from code left)) (sym t)

-- a block that enters another goes on
pub goes : (code : Flat) (fuel left : ℕ) (c v : Value) (to target : Target) (bench new : Bench) (next : Next) (p : Value × Value) → fuel ≡ suc left → run_block code c v to.start (record bench { fuel = left }) ≡ (next, new) → Some p ≡ entering next → Some target ≡ entry code new.region.objects p.0 → new.fuel ≡ left → run_from code fuel c v to bench ≡ run_from code new.fuel p.0 p.1 target new
goes code fuel left c v to target bench new next p e b n t f =
    entered code fuel left c v to bench (next, new) e b
    ∙ ap (λ (o : Option (Value × Value)). going (next_block code new.region.objects o) o to.label next new (run_from code left)) (sym n)
    ∙ ap (λ (o : Option Target). going o (Some p) to.label next new (run_from code left)) (sym t)
    ∙ ap (λ (m : ℕ). run_from code m p.0 p.1 target new) (sym f)

same_pair : (p q : Value × Value) → Some p ≡ Some q → p ≡ q
same_pair p q e = cc

-- what a thread goes on with refers as what comes out of the block
pub entering_fits : (code : Flat) (os : List Object) (next : Next) (to : Value × Value) → NextFits code os next → Some to ≡ entering next → (Refers os to.0) × (Refers os to.1)
entering_fits code os (Enters c v) to h e = subst (λ (p : Value × Value). (Refers os p.0) × (Refers os p.1)) (sym (same_pair to (c, v) e)) h
entering_fits code os (Asks p a n) to h e = absurd (let none : Some to ≡ None = e in cc)
entering_fits code os (Sends w c v) to h e = absurd (let none : Some to ≡ None = e in cc)
entering_fits code os Ended to h e = absurd (let none : Some to ≡ None = e in cc)
entering_fits code os FullRegion to h e = absurd (let none : Some to ≡ None = e in cc)
entering_fits code os FullTable to h e = absurd (let none : Some to ≡ None = e in cc)
entering_fits code os NoCase to h e = absurd (let none : Some to ≡ None = e in cc)

-- how a run ends refers as what comes out of its last block
ending_fits : (code : Flat) (os : List Object) (label : ℕ) (next : Next) → NextFits code os next → OutFits code os (ending label next)
ending_fits code os label (Enters c v) h = tt
ending_fits code os label (Asks p a n) h = h
ending_fits code os label (Sends w c v) h = h
ending_fits code os label Ended h = tt
ending_fits code os label FullRegion h = tt
ending_fits code os label FullTable h = tt
ending_fits code os label NoCase h = tt

pub out_fits : (code : Flat) (os : List Object) (label : ℕ) (next : Next) (o : Out) → o ≡ ending label next → NextFits code os next → OutFits code os o
out_fits code os label next o e h = subst (OutFits code os) (sym e) (ending_fits code os label next h)
