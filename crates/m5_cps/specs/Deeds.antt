-- How a site takes the object, the cell or the thread that a straight form makes, and which way a test goes.
use Rattle.std.specs.Prelude.{ℕ, zero, suc, ◌+◌, true, false, nat_le, if◌then◌else◌, List, [], ◌∷◌, ◌++◌, length, slice_get, slice_set, Option, Some, None}
use Rattle.m5_terms.specs.TypeExpression.{same_world}
use Rattle.m5_terms.specs.Machine.{asks, wrong}
use Rattle.m5_terms.specs.declared.ask.AskOf.TheVariants as query
use Rattle.m5_terms.specs.declared.ask.AnswerOf.{AnswerOf}
use Rattle.m5_terms.specs.declared.ask.AnswerOf.TheVariants as answer
use Rattle.m5_terms.specs.declared.ask.Cause.TheVariants.{Table}
use Rattle.m5_terms.specs.declared.types.World.{World}
use Rattle.m5_terms.specs.declared.form.LeafForm.{LeafForm}
use Rattle.m5_terms.specs.declared.form.LeafForm.TheVariants as leaf_form
use Rattle.m5_meaning.specs.Step.{is_full}
use Rattle.m5_cps.specs.Blocks.{Straight, constant, one, two, unheld, unsham, spawn, Test, if_true, if_left, if_nil, if_here}
use Rattle.m5_cps.specs.Values.{left, right, held, sham, cons, Value, atom, wrap, join, enter, Item, Site, SiteNext, unit_value, text_value}
use Rattle.m5_cps.specs.Units.{leaf_units}
use Rattle.m5_cps.specs.Made.{Made, gives, makes_text, makes_cell, loads, stores, fails, made_by_one, made_by_two, one_units, two_units}

-- what stands where a block makes an object: the units with it, and the threads, cells and handlers
pub record Point : Type 0 where
  pub units : ℕ
  pub threads : ℕ
  pub cells : ℕ
  pub handlers : ℕ

-- the objects that a block makes, in their order, and what it ends in
pub data Ran (C : Type 0) : Type 0 where
  makes : Point → Ran C → Ran C
  ends : SiteNext C → Ran C

module _ {C : Type 0} where
  -- the block makes an object of so many units; its own thread is not among the site's
  abbrev pub taking : ℕ → Site C → (Site C → Ran C) → Ran C
  taking c s go_on =
      makes (record { units = s.units + c; threads = suc (length s.threads); cells = length s.cells; handlers = length s.handlers })
      (go_on (record s { units = s.units + c }))

  abbrev pub taking_some : ℕ → Site C → (Site C → Ran C) → Ran C
  taking_some zero s go_on = go_on s
  taking_some (suc c) s go_on = taking (suc c) s go_on

  abbrev pub after_stop : Site C → AnswerOf (Item C) → Option (Site C)
  after_stop s answer.Done = Some (record s { stopped = true })
  after_stop s _ = None

  -- in place of what would add to a full table
  abbrev pub stops_full : Site C → Ran C
  stops_full s = ends (asks (query.Stop Table) (after_stop s))

  abbrev pub constant_value : World → LeafForm → Value C
  constant_value u leaf_form.Here = atom (leaf_form.Addr u)
  constant_value u f = atom f

  abbrev pub loaded : Site C → (Site C → Value C → Ran C) → Option (Value C) → Ran C
  loaded s go_on None = ends wrong
  loaded s go_on (Some a) = go_on s a

  abbrev pub stored : Site C → (Site C → Value C → Ran C) → ℕ → Value C → Option (Value C) → Ran C
  stored s go_on n a None = ends wrong
  stored s go_on n a (Some old) = go_on (record s { cells = slice_set s.cells n a }) unit_value

  -- the deed of a form, after which its value fills a slot
  abbrev pub did : World → Site C → Made C → (Site C → Value C → Ran C) → Ran C
  did u s (gives a) go_on = go_on s a
  did u s (makes_text t) go_on = go_on s (text_value t)
  did u s (makes_cell a) go_on =
      if is_full s.cells then stops_full s
      else go_on (record s { cells = s.cells ++ a ∷ [] }) (atom (leaf_form.CellAt u (length s.cells)))
  did u s (loads n) go_on = loaded s go_on (slice_get s.cells n)
  did u s (stores n a) go_on = stored s go_on n a (slice_get s.cells n)
  did u s fails go_on = ends wrong

  abbrev pub did_taking : World → Site C → ℕ → Made C → (Site C → Value C → Ran C) → Ran C
  did_taking u s c m go_on = taking_some c s (λ s1. did u s1 m go_on)

  abbrev pub opened_held : Value C → (Value C → Ran C) → Ran C
  opened_held (wrap (held w) a) go_on = go_on a
  opened_held a go_on = ends wrong

  abbrev pub opened_sham : Value C → (Value C → Ran C) → Ran C
  opened_sham (wrap sham a) go_on = go_on a
  opened_sham a go_on = ends wrong

  -- the running thread is one of the site's 4,096
  abbrev pub spawned : Site C → Value C → (Site C → Value C → Ran C) → Ran C
  spawned s k go_on =
      if nat_le 4096 (suc (length s.threads)) then stops_full s
      else go_on (record s { threads = s.threads ++ enter k unit_value ∷ [] }) unit_value

  -- at the world u, with these slots, a straight form is done, and its value is gone on with
  abbrev pub performed : World → Straight → (ℕ → Value C) → Site C → (Site C → Value C → Ran C) → Ran C
  performed u (constant f) ρ s go_on = taking_some (leaf_units f) s (λ s1. go_on s1 (constant_value u f))
  performed u (one f x) ρ s go_on = let m = made_by_one u f (ρ x) in did_taking u s (one_units f m) m go_on
  performed u (two f x y) ρ s go_on = let m = made_by_two u f (ρ x) (ρ y) in did_taking u s (two_units f m) m go_on
  performed u (unheld x) ρ s go_on = opened_held (ρ x) (go_on s)
  performed u (unsham x) ρ s go_on = opened_sham (ρ x) (go_on s)
  performed u (spawn x) ρ s go_on = spawned s (ρ x) go_on

  -- the first way where the test holds, with the parts that fill slots
  abbrev pub tested : World → Test → Value C → (List (Value C) → Ran C) → (List (Value C) → Ran C) → Ran C
  tested u if_true (atom (leaf_form.Bool true)) this that = this []
  tested u if_true (atom (leaf_form.Bool false)) this that = that []
  tested u if_left (wrap (left T) a) this that = this (a ∷ [])
  tested u if_left (wrap (right T) a) this that = that (a ∷ [])
  tested u if_nil (atom (leaf_form.Nil A)) this that = this []
  tested u if_nil (join cons a b) this that = that (a ∷ b ∷ [])
  tested u if_here (atom (leaf_form.Addr v)) this that = if same_world v u then this [] else that []
  tested u t a this that = ends wrong
