-- What each kind of step tells the pass that takes it.
use Rattle.std.specs.Prelude.{◌≡◌, ◌≢◌, ℕ, ◌+◌, ◌-◌, ◌<◌, List, [], ◌∷◌, ◌++◌, length, drop, Option, Some, None, All}
use mathlib.Core.List.{IsPrefix}
use Rattle.atomic_table.specs.Table.{Me, Step}
use Rattle.m5_hall.specs.declared.views.View.{View}
use Rattle.m5_hall.specs.declared.views.Stage.{Stage}
use Rattle.m5_hall.specs.declared.views.Stage.TheVariants.{Resting, Waiting, Serving}

module _ {E : Type 0} where
  abbrev pub first_of : List (List E) → List E
  first_of [] = []
  first_of (x ∷ xs) = x

  -- more entries behind the first list, which is the pass's own
  abbrev pub with_more : List (ℕ × List E) → List E → List (ℕ × List E)
  with_more [] news = []
  with_more (x ∷ xs) news = (x.0, x.1 ++ news) ∷ xs

module _ {E O : Type 0} where
  -- the pass has drawn the ticket t
  abbrev pub drawing : ℕ → View E O → View E O
  drawing t v = record v { stage = Waiting t; enters = v.enters + 1 }

  -- the ticket t is served, and the history is h
  abbrev pub serving : ℕ → List E → View E O → View E O
  serving t h v = record v { stage = Serving t; seen = h ∷ [] }

  -- the turn is over, the history is h, and these entries are new in it
  abbrev pub resting : List E → List E → View E O → View E O
  resting h news v = record v { stage = Resting; seen = h ∷ []; own = with_more v.own news }

  -- one split is used up
  abbrev pub split_left : View E O → View E O
  split_left v = record v { splits_left = v.splits_left - 1 }

  -- a new pass, which has seen as much. Its number is how many were made before it
  abbrev pub split_right : View E O → View E O
  split_right v = record { origin = v.origin; seen = v.seen; own = (1048576 - v.splits_left, []) ∷ []; stage = Resting; enters = 0; splits_left = 0 }

  abbrev pub joined : View E O → View E O → View E O
  joined v w = record v { seen = v.seen ++ w.seen; own = v.own ++ w.own }

  -- what is left of a pass that was joined into another
  abbrev pub spent : View E O
  spent = record { origin = None; seen = []; own = []; stage = Resting; enters = 1099511627776; splits_left = 0 }

module _ {T E O : Type 0} (history : T → List E) (origin : T → O) where
  abbrev Sat : Type 0
  Sat = Me (Option T) (View E O)

  -- the pass has the slot with its value, whose history begins with all that the pass has seen
  abbrev pub Serves : ℕ → Sat → Sat → Type 0
  Serves t m m' = (x : T) × (m' ≡ (serving t (history x) m.0, (0, Some x) ∷ m.1)) × All (λ seen. IsPrefix seen (history x)) m.0.seen × ((o : O) → m.0.origin ≡ Some o → o ≡ origin x)

  -- where its own ticket is found the pass is served, and else nothing has changed
  abbrev pub LooksAt : Sat → ℕ → Sat → Stage → Type 0
  LooksAt m found m' Resting = Unit {0}
  LooksAt m found m' (Serving t) = Unit {0}
  LooksAt m found m' (Waiting t) = (found ≡ t → Serves t m m') × (found ≢ t → m' ≡ m)

  -- the pass has the slot with y in it, whose history is the one at entry and these entries
  pub record MayLeave (m : Sat) (y : T) (news : List E) : Type 0 where
    pub ticket : ℕ
    pub before : List E
    pub serves : m.0.stage ≡ Serving ticket
    pub saw : m.0.seen ≡ before ∷ []
    pub owns : 0 < length m.0.own
    pub holds : m.1 ≡ (0, Some y) ∷ []
    pub grown : history y ≡ before ++ news
    pub origin_is : m.0.origin ≡ Some (origin y)

  -- what the slot in hand holds is the history now, and what is new in it is the pass's own
  abbrev pub leaving : View E O → List (ℕ × Option T) → View E O
  leaving v [] = v
  leaving v ((k, None) ∷ cs) = v
  leaving v ((k, Some x) ∷ cs) = resting (history x) (drop (length (first_of v.seen)) (history x)) v

  abbrev pub Drew : Step (Option T) → Sat → ℕ → Sat → Type 0
  Drew st m found m' = m' ≡ (drawing found m.0, m.1)

  abbrev pub Looked : Step (Option T) → Sat → ℕ → Sat → Type 0
  Looked st m found m' = LooksAt m found m' m.0.stage

  abbrev pub LeftOne : Step (Option T) → Sat → ℕ → Sat → Type 0
  LeftOne st m found m' = m' ≡ (leaving m.0 m.1, [])

  abbrev pub LeftNone : Step (Option T) → Sat → ℕ → Sat → Type 0
  LeftNone st m found m' = m' ≡ (record m.0 { stage = Resting }, [])
