-- What stands at a place of a code.
use Rattle.std.proofs.Common.{◌≡◌, ℕ, zero, suc, ◌<◌, ◌≤◌, ◌∙◌, List, [], ◌∷◌, length, drop, get_or, refl, ap, sym, subst, arith, Some, None, slice_get, add-one}
use Rattle.std.proofs.lemmas.Bool.{ne_eqb}
use Rattle.m5_machine.specs.declared.step.Step.{Step}
use Rattle.m5_machine.specs.declared.step.Step.TheVariants as steps
use Rattle.m5_machine.specs.Body.{Body, Then, If, bodies, one, two}
use Rattle.m5_machine.specs.Blocks.{Flat, IsFlat, HasBody, body_at, Shows, start_in, first_or_done, all_but_first}

drop_there : (ss : List Step) (at : ℕ) (s : Step) → slice_get ss at ≡ Some s → drop at ss ≡ s ∷ drop (suc at) ss
drop_there [] at s e = absurd (let none : None ≡ Some s = e in cc)
drop_there (t ∷ ss) zero s e = let same : t ≡ s = cc in ap (λ (x : Step). x ∷ ss) same
drop_there (t ∷ ss) (suc at) s e = drop_there ss at s e

first_one : (f : Body → Body) (bs : List Body) → 0 < length bs → first_or_done (one f bs) ≡ f (first_or_done bs)
first_one f [] h = absurd (omega arith)
first_one f (b ∷ bs) h = refl

first_two : (f : Body → Body → Body) (bs : List Body) → 1 < length bs → first_or_done (two f bs) ≡ f (first_or_done bs) (first_or_done (all_but_first bs))
first_two f [] h = absurd (omega arith)
first_two f (a ∷ []) h = absurd (omega arith)
first_two f (a ∷ b ∷ bs) h = refl

rest_length : (bs : List Body) → 1 < length bs → 0 < length (all_but_first bs)
rest_length [] h = absurd (omega arith)
rest_length (b ∷ bs) h = omega arith

-- a body begins at steps alone
pub past : (ss : List Step) (at : ℕ) → 0 < length (bodies (drop at ss)) → at < length ss
past [] zero h = absurd (omega arith)
past [] (suc at) h = absurd (omega arith)
past (s ∷ ss) zero h = omega arith
past (s ∷ ss) (suc at) h = omega (arith, past ss at h)

pub within : (code : Flat) (at : ℕ) → HasBody code at → at < length code.steps
unfolding HasBody
within code at h = past code.steps at h

pub shows : (code : Flat) (at : ℕ) (s : Step) → IsFlat code → slice_get code.steps at ≡ Some s → Shows code at s
unfolding HasBody body_at
shows code at (steps.Fill i) w e =
    let behind : 0 < length (bodies (drop (suc at) code.steps)) = w.steps at (steps.Fill i) e in
    let here : first_or_done (bodies (drop at code.steps)) ≡ Then i (first_or_done (bodies (drop (suc at) code.steps))) =
    ap (λ (x : List Step). first_or_done (bodies x)) (drop_there code.steps at (steps.Fill i) e) ∙ first_one (Then i) (bodies (drop (suc at) code.steps)) behind in
    rw add-one (here, behind, omega (arith, past code.steps (suc at) behind, w.small))
shows code at (steps.If slot place) w e =
    let behind = w.steps at (steps.If slot place) e in
    let here : first_or_done (bodies (drop at code.steps)) ≡ If slot (first_or_done (bodies (drop (suc at) code.steps))) (first_or_done (bodies (drop place code.steps))) =
    ap (λ (x : List Step). first_or_done (bodies x)) (drop_there code.steps at (steps.If slot place) e) ∙ first_two (If slot) (bodies (drop (suc at) code.steps)) behind.0
    ∙ ap (λ (x : List Body). If slot (first_or_done (bodies (drop (suc at) code.steps))) (first_or_done x)) (sym behind.1) in
    let second : 0 < length (bodies (drop place code.steps)) = subst (λ (x : List Body). 0 < length x) (sym behind.1) (rest_length _ behind.0) in
    let first : 0 < length (bodies (drop (suc at) code.steps)) = omega (arith, behind.0) in
    rw add-one (here, first, second, omega (arith, past code.steps (suc at) first, w.small))
shows code at (steps.Go closure value) w e = ap (λ (x : List Step). first_or_done (bodies x)) (drop_there code.steps at (steps.Go closure value) e)
shows code at (steps.Ask primitive argument next) w e = ap (λ (x : List Step). first_or_done (bodies x)) (drop_there code.steps at (steps.Ask primitive argument next) e)
shows code at (steps.Send world closure value) w e = ap (λ (x : List Step). first_or_done (bodies x)) (drop_there code.steps at (steps.Send world closure value) e)
shows code at steps.Done w e = ap (λ (x : List Step). first_or_done (bodies x)) (drop_there code.steps at steps.Done e)

pub item_there : {X : Type 0} (xs : List X) (i : ℕ) (x : X) → i < length xs → x ≡ get_or xs i x → slice_get xs i ≡ Some x
item_there [] i x h e = absurd (omega arith)
item_there (y ∷ xs) zero x h e = ap Some (sym e)
item_there (y ∷ xs) (suc i) x h e = item_there xs i x (omega arith) e

pub no_item : {X : Type 0} (xs : List X) (i : ℕ) → length xs ≤ i → slice_get xs i ≡ None
no_item [] i h = refl
no_item (y ∷ xs) zero h = absurd (omega arith)
no_item (y ∷ xs) (suc i) h = no_item xs i (omega arith)

pub none_start : (s : ℕ) → s ≡ 4294967295 → start_in (Some s) ≡ None
none_start s e = rw e refl

pub some_start : (s : ℕ) → (s ≡ 4294967295 → ⊥) → start_in (Some s) ≡ Some s
some_start s h = rw (ne_eqb s 4294967295 h) refl
