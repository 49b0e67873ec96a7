-- What contracts see of a pass, a turn and the entries that a hall gives back.
use Rattle.std.specs.Prelude.{◌≡◌, ℕ, ◌+◌, ◌-◌, List, [], ◌∷◌, ◌++◌, length, Option, Some}
use Rattle.atomic_table.specs.Seated.{TableId}
use Rattle.m5_hall.specs.declared.views.View.{View}

-- its hall, the origin of the hall's value, the histories that it has seen, and its own entries under its number, before those of each pass that was joined into it
pub record Known (E O : Type 0) : Type 0 where
  pub hall : TableId
  pub origin : Option O
  pub seen : List (List E)
  pub own : List (ℕ × List E)
  pub enters : ℕ
  pub splits_left : ℕ

-- the value as it is now, its history when the turn began, and the pass as it then was
pub record Entered (T E O : Type 0) : Type 0 where
  pub value : T
  pub history : List E
  pub pass : Known E O

module _ {E O : Type 0} where
  abbrev pub known : TableId → View E O → Known E O
  known hall v = record { hall = hall; origin = v.origin; seen = v.seen; own = v.own; enters = v.enters; splits_left = v.splits_left }

  -- the pass that comes with a hall
  abbrev pub first_pass : TableId → O → Known E O
  first_pass hall origin = record { hall = hall; origin = Some origin; seen = [] ∷ []; own = (0, []) ∷ []; enters = 0; splits_left = 1048575 }

  -- a pass after one was split off from it
  abbrev pub split_from : Known E O → Known E O
  split_from p = record p { splits_left = p.splits_left - 1 }

  -- the pass that was split off from p. Its number is how many were made before it
  abbrev pub split_off : Known E O → Known E O
  split_off p = record { hall = p.hall; origin = p.origin; seen = p.seen; own = (1048576 - p.splits_left, []) ∷ []; enters = 0; splits_left = 0 }

  -- p with what q has seen and made
  abbrev pub joined_with : Known E O → Known E O → Known E O
  joined_with p q = record p { seen = p.seen ++ q.seen; own = p.own ++ q.own }

  -- a pass in a turn: it has entered once more, and has seen this history
  abbrev pub entering : Known E O → List E → Known E O
  entering p history = record p { seen = history ∷ []; enters = p.enters + 1 }

  -- each pass that was made in the hall has been joined into p
  abbrev pub IsWhole : Known E O → Type 0
  IsWhole p = length p.own + p.splits_left ≡ 1048576

-- the turn with another value
abbrev pub with_value : {T E O : Type 0} → Entered T E O → T → Entered T E O
with_value t w = record t { value = w }
