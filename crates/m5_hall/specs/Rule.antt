-- The hall's rule: what its two words, its slot and what its passes know have to do with one history.
use Rattle.std.specs.Prelude.{◌≡◌, ◌⊎◌, ℕ, ◌+◌, ◌<◌, ◌≤◌, List, [], ◌∷◌, length, Option, Some, All}
use Rattle.std.specs.List.{sum_by}
use mathlib.Core.Option.{none, some}
use mathlib.Core.List.{IsPrefix}
use lib.ListN.{get_elem?}
use Rattle.atomic_table.specs.Table.{State}
use Rattle.m5_hall.specs.History.{entries, made_by, times}
use Rattle.m5_hall.specs.declared.views.View.{View}
use Rattle.m5_hall.specs.declared.views.Stage.{Stage}
use Rattle.m5_hall.specs.declared.views.Stage.TheVariants.{Resting, Waiting, Serving}

-- the pass has this ticket
abbrev pub HasTicket : ℕ → Stage → Type 0
HasTicket t Resting = ⊥
HasTicket t (Waiting u) = u ≡ t
HasTicket t (Serving u) = u ≡ t

abbrev pub tickets : Stage → ℕ
tickets Resting = 0
tickets (Waiting t) = 1
tickets (Serving t) = 1

-- a ticket lies between the two words. Who is served has the slot, and has seen the whole history
abbrev pub StageFits : ℕ → ℕ → Type 0 → Type 0 → Stage → Type 0
StageFits served drawn slot_is_out seen_whole Resting = Unit {0}
StageFits served drawn slot_is_out seen_whole (Waiting t) = (served ≤ t) × (t < drawn)
StageFits served drawn slot_is_out seen_whole (Serving t) = (t ≡ served) × (t < drawn) × slot_is_out × seen_whole

module _ {E O : Type 0} where
  -- what one pass knows is so
  pub record Fits (first : O) (served drawn passes : ℕ) (slot_is_out : Type 0) (log : List (ℕ × E)) (v : View E O) : Type 0 where
    pub stage_is : StageFits served drawn slot_is_out (v.seen ≡ entries log ∷ []) v.stage
    pub seen_is : All (λ seen. IsPrefix seen (entries log)) v.seen
    pub own_is : All (λ x. (made_by x.0 log ≡ x.1) × (x.0 < passes)) v.own
    pub ticket_owns : tickets v.stage ≤ length v.own
    pub few_enters : v.enters ≤ 1099511627776
    pub splits_are : 0 < v.splits_left → passes + v.splits_left ≡ 1048576
    pub origin_is : (o : O) → v.origin ≡ Some o → o ≡ first

  abbrev pub first_view : O → View E O
  first_view o = record { origin = Some o; seen = [] ∷ []; own = (0, []) ∷ []; stage = Resting; enters = 0; splits_left = 1048575 }

-- the slot has the value, which has the hall's history and origin
abbrev pub IsHome : {T E O : Type 0} → (T → List E) → (T → O) → O → List (ℕ × E) → State (Option T) (View E O) → Type 0
IsHome {T} history origin first log s = (x : T) × (s.homes ≡ some (Some x) ∷ []) × (history x ≡ entries log) × (origin x ≡ first)

-- a pass that is served has the slot
abbrev pub IsOut : {T E O : Type 0} → State (Option T) (View E O) → Type 0
IsOut {T} {E} {O} s = (s.homes ≡ none ∷ []) × ((i : ℕ) × (v : View E O) × (t : ℕ) × (get_elem? s.views i ≡ some v) × (v.stage ≡ Serving t))

pub record HallRule {T E O : Type 0} (history : T → List E) (origin : T → O) (first : O) (s : State (Option T) (View E O)) : Type 0 where
  pub drawn : ℕ
  pub served : ℕ
  pub log : List (ℕ × E)
  pub words_are : s.words ≡ drawn ∷ served ∷ []
  pub tickets_out : served + sum_by (λ v. tickets v.stage) s.views ≡ drawn
  pub tickets_differ : (t i j : ℕ) (v w : View E O) → get_elem? s.views i ≡ some v → get_elem? s.views j ≡ some w → HasTicket t v.stage → HasTicket t w.stage → i ≡ j
  pub slot_is : IsHome history origin first log s ⊎ IsOut s
  pub each_pass : (i : ℕ) (v : View E O) → get_elem? s.views i ≡ some v → Fits first served drawn (length s.views) (s.homes ≡ none ∷ []) log v
  pub numbers_made : All (λ x. x.0 < length s.views) log
  pub numbers_differ : (n : ℕ) → sum_by (λ v. times n v.own) s.views ≤ 1
  pub enters_cover : drawn ≤ sum_by (λ v. v.enters) s.views
  pub splits_cover : length s.views + sum_by (λ v. v.splits_left) s.views ≤ 1048576
  pub entries_served : length log ≤ served
