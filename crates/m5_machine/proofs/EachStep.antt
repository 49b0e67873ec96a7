-- What holds of each step holds of the bodies that they spell.
use Rattle.std.proofs.Common.{◌≡◌, ℕ, zero, suc, ◌+◌, ◌<◌, List, [], ◌∷◌, ◌++◌, length, drop, refl, ap, sym, subst, arith, ◌∙◌, Some, slice_get, Bool, true, inl, inr, All}
use Rattle.std.specs.List.{list_all, flat_map}
use Rattle.std.proofs.lemmas.Bool.{cases_eq}
use Rattle.m5_machine.specs.declared.step.Step.{Step}
use Rattle.m5_machine.specs.declared.step.Step.TheVariants as steps
use Rattle.m5_machine.specs.Body.{Body, Then, If, Go, Ask, Send, Done, bodies, onto}
use Rattle.m5_machine.specs.Blocks.{Flat, IsFlat, HasBody, body_at, first_or_done, start_in}
use Rattle.m5_machine.specs.Labelled.{Labelled, blocks_from, blocks_of}
use Rattle.m5_machine.specs.code.Flattened.{EachStep, EachBlock, flattened, laid}
use Rattle.m5_machine.proofs.Places.{some_start}
use Rattle.m5_machine.proofs.Linking.{and_first, and_second}
use Rattle.m5_machine.proofs.Laying.{blocks_none, blocks_some}

abbrev pub Each : {X : Type 0} → (X → Type 0) → List X → Type 0
Each P [] = Unit {0}
Each P (x ∷ xs) = P x × Each P xs

pub each_test : {X : Type 0} (p : X → Bool) (xs : List X) → list_all p xs ≡ true → Each (λ x. p x ≡ true) xs
each_test p [] e = tt
each_test p (x ∷ xs) e = (and_first (p x) (list_all p xs) e, each_test p xs (and_second (p x) (list_all p xs) e))

pub each_all : {X : Type 0} (P : X → Type 0) (xs : List X) → All P xs → Each P xs
each_all P [] a = tt
each_all P (x ∷ xs) a = (a 0 x (omega arith), each_all P xs (λ k d h. a (suc k) d (omega arith)))

-- an `If` is looked at whatever its place is
pub record ForgetsPlace (P : Step → Type 0) : Type 0 where
  pub any : (slot place : ℕ) → P (steps.If slot place) → P (steps.If slot 0)

onto_each : (P : Step → Type 0) (s : Step) (bs : List Body) → ForgetsPlace P → P s → Each (EachStep P) bs → Each (EachStep P) (onto s bs)
unfolding EachStep
onto_each P (steps.Fill i) [] f h e = tt
onto_each P (steps.Fill i) (b ∷ bs) f h e = ((h, e.0), e.1)
onto_each P (steps.If slot place) [] f h e = tt
onto_each P (steps.If slot place) (a ∷ []) f h e = tt
onto_each P (steps.If slot place) (a ∷ b ∷ bs) f h e = ((f.any slot place h, e.0, e.1.0), e.1.1)
onto_each P (steps.Go c v) bs f h e = (h, e)
onto_each P (steps.Ask p a n) bs f h e = (h, e)
onto_each P (steps.Send w c v) bs f h e = (h, e)
onto_each P steps.Done bs f h e = (h, e)

bodies_each : (P : Step → Type 0) (ss : List Step) → ForgetsPlace P → Each P ss → Each (EachStep P) (bodies ss)
bodies_each P [] f e = tt
bodies_each P (s ∷ ss) f e = onto_each P s (bodies ss) f e.0 (bodies_each P ss f e.1)

drop_each : (P : Step → Type 0) (n : ℕ) (ss : List Step) → Each P ss → Each P (drop n ss)
drop_each P zero ss e = e
drop_each P (suc n) [] e = tt
drop_each P (suc n) (s ∷ ss) e = drop_each P n ss e.1

first_each : (P : Body → Type 0) (bs : List Body) → 0 < length bs → Each P bs → P (first_or_done bs)
first_each P [] h e = absurd (omega arith)
first_each P (b ∷ bs) h e = e.0

each_from : (P : Step → Type 0) (code : Flat) (n : ℕ) (xs : List ℕ) → ((i s : ℕ) → slice_get xs i ≡ Some s → (s ≡ 4294967295 → ⊥) → EachStep P (body_at code s)) → EachBlock P (blocks_from code n xs)
each_from P code n [] h = tt
each_from P code n (x ∷ xs) h =
    let next = each_from P code (n + 1) xs (λ i s e k. h (suc i) s e k) in
    elim (cases_eq x 4294967295) [
      | inl e ↦ subst (EachBlock P) (sym (blocks_none code n x xs e)) next
      | inr k ↦ subst (EachBlock P) (sym (blocks_some code n x xs k)) (h 0 x refl k, next)
    ]

pub each_block : (P : Step → Type 0) (code : Flat) → IsFlat code → ForgetsPlace P → Each P code.steps → EachBlock P (blocks_of code)
unfolding HasBody body_at
each_block P code flat f e =
    each_from P code 0 code.starts (λ i s g k.
    first_each (EachStep P) (bodies (drop s code.steps)) (flat.starts i s (ap start_in g ∙ some_start s k)).body (bodies_each P (drop s code.steps) f (drop_each P s code.steps e)))

each_append : (P : Step → Type 0) (xs ys : List Step) → Each P xs → Each P ys → Each P (xs ++ ys)
each_append P [] ys a b = b
each_append P (x ∷ xs) ys a b = (a.0, each_append P xs ys a.1 b)

each_flat : (P : Step → Type 0) (b : Body) → EachStep P b → Each P (flattened b)
unfolding EachStep flattened
each_flat P (Then i b) e = (e.0, each_flat P b e.1)
each_flat P (If s a b) e = (e.0, each_append P (flattened a) (flattened b) (each_flat P a e.1) (each_flat P b e.2))
each_flat P (Go c v) e = (e, tt)
each_flat P (Ask p a n) e = (e, tt)
each_flat P (Send w c v) e = (e, tt)
each_flat P Done e = (e, tt)

-- what holds of each step of blocks holds of the steps that they are laid out as
pub each_laid : (P : Step → Type 0) (bs : List Labelled) → EachBlock P bs → Each P (flat_map laid bs)
each_laid P [] e = tt
each_laid P (b ∷ bs) e = each_append P (flattened b.body) (flat_map laid bs) (each_flat P b.body e.0) (each_laid P bs e.1)
