-- Values, threads and sites of blocks, whatever a closure has beside the values of its slots.
use Rattle.std.specs.Prelude.{ℕ, suc, ◌==◌, if◌then◌else◌, List, [], ◌∷◌, Bool}
use Rattle.m5_terms.specs.TypeExpression.{TypeExpression}
use Rattle.m5_terms.specs.Machine.{Next}
use Rattle.m5_terms.specs.declared.ask.AskOf.{AskOf}
use Rattle.m5_terms.specs.declared.ask.AnswerOf.{AnswerOf}
use Rattle.m5_terms.specs.declared.types.World.{World}
use Rattle.m5_terms.specs.declared.form.LeafForm.{LeafForm}
use Rattle.m5_terms.specs.declared.form.LeafForm.TheVariants as leaf_form

-- a wrapped value, and two joined ones
pub data Wrap : Type 0 where
  left right : TypeExpression → Wrap
  held : World → Wrap
  sham : Wrap

pub data Join : Type 0 where
  pair cons : Join

-- a closure has the values of slots, and C
pub data Value (C : Type 0) : Type 0 where
  atom : LeafForm → Value C
  wrap : Wrap → Value C → Value C
  join : Join → Value C → Value C → Value C
  closed : C → (ℕ → Value C) → Value C

-- what is about to run: a closure that is entered with a value, or a function that is called with a value and a continuation
pub data Thread (C : Type 0) : Type 0 where
  enter : Value C → Value C → Thread C
  call : Value C → Value C → Value C → Thread C

-- what goes along a link: a thread, or bytes that no site sealed
pub data Item (C : Type 0) : Type 0 where
  thread : Thread C → Item C
  raw : List ℕ → Item C

-- the front thread is the one that runs; blocks entered and units taken are those so far
pub record Site (C : Type 0) : Type 0 where
  pub threads : List (Thread C)
  pub cells : List (Value C)
  pub handlers : List (Value C)
  pub entered : ℕ
  pub units : ℕ
  pub stopped : Bool

abbrev pub SiteNext : Type 0 → Type 0
SiteNext C = Next (Site C) (AskOf (Item C)) (AnswerOf (Item C))

abbrev pub unit_value : {C : Type 0} → Value C
unit_value = atom leaf_form.Unit

abbrev pub text_value : {C : Type 0} → List ℕ → Value C
text_value t = atom (leaf_form.Str t)

-- f but at x
abbrev pub put : {A : Type 0} → ℕ → A → (ℕ → A) → ℕ → A
put x v f z = if z == x then v else f z

-- these fill the slots from n on
abbrev pub put_all : {A : Type 0} → ℕ → List A → (ℕ → A) → ℕ → A
put_all n [] ρ = ρ
put_all n (a ∷ rest) ρ = put_all (suc n) rest (put n a ρ)

abbrev pub filled_by : {A : Type 0} → List A → ℕ → ℕ
filled_by [] n = n
filled_by (a ∷ rest) n = filled_by rest (suc n)
