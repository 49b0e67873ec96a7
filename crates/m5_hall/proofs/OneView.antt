-- What one changed view does to what holds of all views.
use Rattle.std.proofs.Common.{◌≡◌, ◌≢◌, ⊎_elim, ℕ, zero, suc, ◌+◌, ◌%◌, ◌≤◌, ◌<◌, List, [], ◌∷◌, length, set, refl, sym, ◌∙◌, subst, arith}
use mathlib.Core.Option.{none, some, some-injective, some-ne-none}
use lib.ListN.{get_elem?}
use Rattle.atomic_table.proofs.Lists.{at_set}
use Rattle.m5_hall.specs.declared.views.Stage.{Stage}
use Rattle.m5_hall.specs.declared.views.Stage.TheVariants.{Resting, Waiting, Serving}
use Rattle.m5_hall.specs.Rule.{HasTicket, StageFits}

-- who rests is not served, and has no ticket
pub apart_stages : (t : ℕ) (st : Stage) → st ≡ Resting → st ≡ Serving t → ⊥
apart_stages t st a b = cc

pub waits_not_served : (t u : ℕ) (st : Stage) → st ≡ Waiting t → st ≡ Serving u → ⊥
waits_not_served t u st a b = cc

pub filled : {X : Type 0} {x : X} {xs ys : List (mathlib.Core.Option.Option X)} → some x ∷ xs ≡ none ∷ ys → ⊥
filled e = cc

pub there : {V : Type 0} (vs : List V) (id : ℕ) (v : V) → get_elem? vs id ≡ some v → id < length vs
there [] id v e = absurd (some-ne-none v (sym e))
there (x ∷ xs) zero v e = omega arith
there (x ∷ xs) (suc id) v e = let below = there xs id v e in omega arith

pub no_ticket : (t : ℕ) (st : Stage) → st ≡ Resting → HasTicket t st → ⊥
no_ticket t st rests has = subst (HasTicket t) rests has

pub served_has : (t : ℕ) (st : Stage) → st ≡ Serving t → HasTicket t st
served_has t st is = subst (HasTicket t) (sym is) refl

-- more tickets may be drawn
pub stage_more : (served drawn drawn' : ℕ) (out whole : Type 0) (st : Stage) → drawn ≤ drawn' → StageFits served drawn out whole st → StageFits served drawn' out whole st
stage_more served drawn drawn' out whole Resting more f = tt
stage_more served drawn drawn' out whole (Waiting t) more f = let a = f.0 in let b = f.1 in (omega arith, omega arith)
stage_more served drawn drawn' out whole (Serving t) more f = let b = f.1 in (f.0, omega arith, f.2, f.3)

-- the next ticket is nobody's yet
pub not_drawn : (served drawn : ℕ) (out whole : Type 0) (st : Stage) → StageFits served drawn out whole st → HasTicket drawn st → ⊥
not_drawn served drawn out whole Resting f has = has
not_drawn served drawn out whole (Waiting t) f has = let a = f.1 in absurd (omega arith)
not_drawn served drawn out whole (Serving t) f has = let a = f.1 in absurd (omega arith)

-- where the slot is at home nobody is served
pub stage_home : (served drawn : ℕ) (out out' whole : Type 0) (st : Stage) → (out → ⊥) → StageFits served drawn out whole st → StageFits served drawn out' whole st
stage_home served drawn out out' whole Resting home f = tt
stage_home served drawn out out' whole (Waiting t) home f = f
stage_home served drawn out out' whole (Serving t) home f = absurd (home f.2)

-- who does not have the ticket that was served
pub stage_next : (served drawn : ℕ) (out out' whole whole' : Type 0) (st : Stage) → (HasTicket served st → ⊥) → StageFits served drawn out whole st → StageFits (served + 1) drawn out' whole' st
stage_next served drawn out out' whole whole' Resting other f = tt
stage_next served drawn out out' whole whole' (Waiting t) other f = let a = f.0 in let b = f.1 in let c : t ≢ served = other in (omega arith, omega arith)
stage_next served drawn out out' whole whole' (Serving t) other f = absurd (other f.0)

pub small_mod : (n : ℕ) → n < 18446744073709551616 → n % 18446744073709551616 ≡ n
small_mod n small = omega arith

module _ {V : Type 0} where
  -- what holds of the view that was changed and of the others holds of all
  pub each_after : (P : V → Type 0) (vs : List V) (id : ℕ) (w : V) → P w → ((j : ℕ) (u : V) → j ≢ id → get_elem? vs j ≡ some u → P u) → (j : ℕ) (u : V) → get_elem? (set vs id w) j ≡ some u → P u
  each_after P vs id w mine others j u e = ⊎_elim
      (λ (t : (j ≡ id) × (w ≡ u)). subst P t.1 mine)
      (λ (t : (j ≢ id) × (get_elem? vs j ≡ some u)). others j u t.0 t.1)
      (at_set vs id j w u e)

  -- tickets still differ where the changed view has none of another's
  pub differ_after : (Has : ℕ → V → Type 0) (vs : List V) (id : ℕ) (w : V)
      → ((t i j : ℕ) (a b : V) → get_elem? vs i ≡ some a → get_elem? vs j ≡ some b → Has t a → Has t b → i ≡ j)
      → ((t j : ℕ) (b : V) → j ≢ id → get_elem? vs j ≡ some b → Has t w → Has t b → ⊥)
      → (t i j : ℕ) (a b : V) → get_elem? (set vs id w) i ≡ some a → get_elem? (set vs id w) j ≡ some b → Has t a → Has t b → i ≡ j
  differ_after Has vs id w old new t i j a b ea eb ha hb = ⊎_elim
      (λ (p : (i ≡ id) × (w ≡ a)). ⊎_elim
      (λ (q : (j ≡ id) × (w ≡ b)). p.0 ∙ sym q.0)
      (λ (q : (j ≢ id) × (get_elem? vs j ≡ some b)). absurd (new t j b q.0 q.1 (subst (Has t) (sym p.1) ha) hb))
      (at_set vs id j w b eb))
      (λ (p : (i ≢ id) × (get_elem? vs i ≡ some a)). ⊎_elim
      (λ (q : (j ≡ id) × (w ≡ b)). absurd (new t i a p.0 p.1 (subst (Has t) (sym q.1) hb) ha))
      (λ (q : (j ≢ id) × (get_elem? vs j ≡ some b)). old t i j a b p.1 q.1 ha hb)
      (at_set vs id j w b eb))
      (at_set vs id i w a ea)

  pub same_there : (vs : List V) (i : ℕ) (a b : V) → get_elem? vs i ≡ some a → get_elem? vs i ≡ some b → a ≡ b
  same_there vs i a b ea eb = some-injective a b (sym ea ∙ eb)
