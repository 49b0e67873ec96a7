-- Each straight form's instructions follow it.
use Rattle.std.proofs.Common.{◌≡◌, ◌||◌, ◌==◌, ℕ, Bool, true, false, if◌then◌else◌, IsTrue, List, length, refl, sym, ap, ◌∙◌, subst, arith, true≢false}
use Rattle.m5_terms.specs.declared.types.World.{World}
use Rattle.m5_terms.specs.TypeExpression.{same_world}
use Rattle.m5_terms.specs.declared.form.LeafForm.TheVariants as leaf_form
use Rattle.m5_terms.specs.declared.form.UnaryForm.{UnaryForm}
use Rattle.m5_terms.specs.declared.form.UnaryForm.TheVariants as unary_form
use Rattle.m5_terms.specs.declared.form.BinaryForm.{BinaryForm}
use Rattle.m5_terms.specs.declared.form.BinaryForm.TheVariants as binary_form
use Rattle.m5_region.specs.declared.value.Value.{Value}
use Rattle.m5_region.specs.declared.bench.Bench.{Bench}
use Rattle.m5_machine.specs.Blocks.{Flat}
use Rattle.m5_machine.specs.Block.{run_body}
use Rattle.m5_cps.specs.Blocks.{Straight, constant, one, two, unheld, unsham, spawn}
use Rattle.m5_cps.specs.Captured.{straight_uses}
use Rattle.m5_cps.specs.Values.{left, right, held, sham, atom, wrap}
use Rattle.m5_cps.specs.Made.{stores, fails, at_cell, made_by_one, made_by_two, one_units, two_units}
use Rattle.m5_cps.specs.Deeds.{Ran, did_taking, performed}
use Rattle.m5_cps.specs.Running.{last}
use Rattle.m5_flat.specs.Values.{Closure, Site}
use Rattle.m5_flat.specs.Values as flat
use Rattle.m5_emit.specs.Emit.{Dialect, Rest, one_body, two_body, straight_body}
use Rattle.m5_emit.specs.Follows.{Holds, IsSite, Follows}
use Rattle.m5_emit.specs.Laws.{marked, GoesOnWith, GoOn, MayRun, StraightsFollow}
use Rattle.m5_emit.proofs.Instructions.{Hands}
use Rattle.m5_emit.proofs.Straights.{constants, firsts, seconds, texts, injected, same_slot, unhelds, unshams, operations, pairs, conses}
use Rattle.m5_emit.proofs.Tables.{new_cells, loads_on, stores_on, spawns_on}
use Rattle.m5_emit.proofs.Divided.{divides}

pub itself : (x : ℕ) → IsTrue (x == x)
itself x = grind arith

pub or_left : (a b : Bool) → IsTrue a → IsTrue (a || b)
or_left true b h = refl
or_left false b h = absurd (true≢false (sym h))

pub or_right : (a b : Bool) → IsTrue b → IsTrue (a || b)
or_right true b h = refl
or_right false b h = h

-- a store makes no object
store_units : (u : World) (a b : flat.Value) → two_units binary_form.Store (at_cell u (λ n. stores n b) a) ≡ 0
store_units u (atom (leaf_form.CellAt w n)) b = by_world (same_world w u)
  where
    by_world : (t : Bool) → two_units binary_form.Store (if t then stores n b else fails) ≡ 0
    by_world true = refl
    by_world false = refl
store_units u _ b = refl

module _ (total : ℕ) (hs : List Value) (H : Site → flat.Value → Type 0) (code : Flat) (d : Dialect) (u : World) (bench : Bench) (s : Site) (rest : Rest) (go_on : Site → flat.Value → Ran Closure) (h : IsSite total hs bench s) (go : GoOn total hs H code bench rest go_on) where
  ones : (f : UnaryForm) (x : ℕ) (a : flat.Value) → Holds bench x a → Hands H (λ g. did_taking u s (one_units f (made_by_one u f a)) (made_by_one u f a) g) → Follows total hs (did_taking u s (one_units f (made_by_one u f a)) (made_by_one u f a) go_on) (run_body code (one_body d u f x (length bench.slots) rest) bench)
  ones unary_form.Fst x a k hd = firsts total hs H code d u bench s rest go_on h go x a k hd
  ones unary_form.Snd x a k hd = seconds total hs H code d u bench s rest go_on h go x a k hd
  ones unary_form.StrOf x a k hd = texts total hs H code d u bench s rest go_on h go x a k hd
  ones unary_form.Div x a k hd = divides total hs H code d u bench s rest go_on h go x a k hd
  ones unary_form.NewCell x a k hd = new_cells total hs H code u bench s rest go_on h go x a k hd
  ones unary_form.Load x a k hd = loads_on total hs H code u bench s rest go_on h go x a k hd
  ones unary_form.Hold x a k hd = same_slot total hs H code d u bench s rest go_on h go x a (wrap (held u) a) k (hd _ _ refl) (λ v i. i)
  ones unary_form.Sham x a k hd = same_slot total hs H code d u bench s rest go_on h go x a (wrap sham a) k (hd _ _ refl) (λ v i. i)
  ones (unary_form.Inl T) x a k hd = injected total hs H code d u bench s rest go_on h go x false (left T) a (λ os v z i r. (z, i, r)) k (hd _ _ refl)
  ones (unary_form.Inr T) x a k hd = injected total hs H code d u bench s rest go_on h go x true (right T) a (λ os v z i r. (z, i, r)) k (hd _ _ refl)
  ones _ x a k hd = tt

  twos : (f : BinaryForm) (x y : ℕ) (a b : flat.Value) → Holds bench x a → Holds bench y b → Hands H (λ g. did_taking u s (two_units f (made_by_two u f a b)) (made_by_two u f a b) g) → Follows total hs (did_taking u s (two_units f (made_by_two u f a b)) (made_by_two u f a b) go_on) (run_body code (two_body d u f x y (length bench.slots) rest) bench)
  twos binary_form.Pair x y a b p q hd = pairs total hs H code d u bench s rest go_on h go x y a b p q (hd _ _ refl)
  twos binary_form.Cons x y a b p q hd = conses total hs H code d u bench s rest go_on h go x y a b p q (hd _ _ refl)
  twos binary_form.Store x y a b p q hd =
      subst (λ c. Follows total hs (did_taking u s c (made_by_two u binary_form.Store a b) go_on) (run_body code (two_body d u binary_form.Store x y (length bench.slots) rest) bench)) (sym (store_units u a b))
      (stores_on total hs H code u bench s rest go_on h go x y a b p q (λ s1 a1 e. hd s1 a1 (ap (λ c. last (did_taking u s c (made_by_two u binary_form.Store a b) marked)) (store_units u a b) ∙ e)))
  twos (binary_form.Binary o) x y a b p q hd = operations total hs H code d u bench s rest go_on h go x y o a b p q hd
  twos _ x y a b p q hd = tt

  straights : (f : Straight) (at : ℕ → ℕ) (ρ : ℕ → flat.Value) → MayRun code ρ f → ((x : ℕ) → IsTrue (straight_uses f x) → Holds bench (at x) (ρ x)) → Hands H (λ g. performed u f ρ s g) → Follows total hs (performed u f ρ s go_on) (run_body code (straight_body d u f at (length bench.slots) rest) bench)
  straights (constant f) at ρ p v hd = constants total hs H code d u bench s rest go_on h go f ρ p hd
  straights (one f x) at ρ p v hd = ones f (at x) (ρ x) (v x (itself x)) hd
  straights (two f x y) at ρ p v hd = twos f (at x) (at y) (ρ x) (ρ y) (v x (or_left (x == x) (x == y) (itself x))) (v y (or_right (y == x) (y == y) (itself y))) hd
  straights (unheld x) at ρ p v hd = unhelds total hs H code d u bench s rest go_on h go (at x) (ρ x) (v x (itself x)) hd
  straights (unsham x) at ρ p v hd = unshams total hs H code d u bench s rest go_on h go (at x) (ρ x) (v x (itself x)) hd
  straights (spawn x) at ρ p v hd = spawns_on total hs H code u bench s rest go_on h go (at x) (ρ x) p (v x (itself x)) hd

pub straights_follow : StraightsFollow
straights_follow total hs code d u f at ρ s bench rest go_on p v h go = straights total hs (GoesOnWith u f ρ s) code d u bench s rest go_on h go f at ρ p v (λ s1 a e. e)
