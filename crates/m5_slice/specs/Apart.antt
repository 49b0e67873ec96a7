-- What stands in the slices of different worlds.
use Rattle.std.specs.Prelude.{◌≡◌, ◌≢◌, ◌⊎◌, ℕ, true, Some, Option, slice_get}
use Rattle.std.specs.List.{AllByRecursion as Each}
use Rattle.m5_terms.specs.Machine.{asks}
use Rattle.m5_terms.specs.Primitives.{primitive_world}
use Rattle.m5_terms.specs.declared.ask.AskOf.TheVariants as query
use Rattle.m5_terms.specs.declared.ask.AnswerOf.{AnswerOf}
use Rattle.m5_terms.specs.declared.types.Primitive.{Primitive}
use Rattle.m5_terms.specs.declared.types.World.{World}
use Rattle.m5_terms.specs.declared.types.World.TheVariants.{Any}
use Rattle.m5_terms.specs.declared.form.LeafForm.TheVariants as leaf_form
use Rattle.m5_cps.specs.Blocks.{Ending, ask}
use Rattle.m5_cps.specs.Values.{atom, closed, enter, call, thread}
use Rattle.m5_flat.specs.Blocks.{Code, straight, closure, test, ends, Block, Named, Blocks}
use Rattle.m5_flat.specs.Values.{under, Item, Thread, Site}
use Rattle.m5_flat.specs.Running.{site_next}
use Rattle.m5_flat.specs.Program.{IsProgram}
use Rattle.m5_slice.specs.Slicing.{is_at, cut}
use Rattle.m5_slice.specs.Machine.{IsTyped}

-- the code has an ask by the primitive
abbrev pub EndsAsking : Primitive → Ending → Type 0
EndsAsking p (ask q x k) = q ≡ p
EndsAsking p _ = ⊥

abbrev pub AsksBy : Primitive → Code → Type 0
AsksBy p (straight f c) = AsksBy p c
AsksBy p (closure ls i c) = AsksBy p c
AsksBy p (test t x b c) = AsksBy p b ⊎ AsksBy p c
AsksBy p (ends e) = EndsAsking p e

-- the label has a block, which stands at the world
pub record HasBlockAt (B : Blocks) (w : World) (i : ℕ) : Type 0 where
  pub block : Block
  pub there : slice_get B.table i ≡ Some block
  pub at : is_at w block ≡ true

-- what the thread enters or calls has a label that stands at the world, or is a primitive of it
abbrev pub BeginsAt : Blocks → World → Thread → Type 0
BeginsAt B w (enter (closed (under i k) ρ) x) = HasBlockAt B w i
BeginsAt B w (call (closed (under i k) ρ) x j) = HasBlockAt B w i
BeginsAt B w (call (atom (leaf_form.Extern p)) x j) = primitive_world p ≡ w
BeginsAt B w _ = ⊥

-- a block that asks by a primitive, or is called as one, stands in the slice of the primitive's world alone; a typed site's
-- threads begin at its own world, and what it sends goes to another world and begins there
pub record IsApart (B : Blocks) (d : IsProgram B) (C : Blocks) (w : World) : Type 0 where
  pub primitives : (i : ℕ) (b : Block) (p : Primitive) → slice_get C.table i ≡ Some b → AsksBy p b.code → primitive_world p ≡ w
  pub named : Each (λ (a : Named). primitive_world a.primitive ≡ w) C.primitives
  pub begins : (s : Site) → IsTyped B d w s → Each (BeginsAt B w) s.threads
  pub sends : (s : Site) (v : World) (th : Thread) (resume : AnswerOf Item → Option Site) →
      IsTyped B d w s → site_next C w s ≡ asks (query.Send v (thread th)) resume → (v ≢ w) × BeginsAt B v th

abbrev pub SlicedAreApart : Type 0
SlicedAreApart = (B : Blocks) (d : IsProgram B) (w : World) → w ≢ Any → IsApart B d (cut w B) w
