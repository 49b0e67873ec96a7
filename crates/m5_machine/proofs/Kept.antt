-- What linking keeps of the steps.
use Rattle.std.proofs.Common.{◌≡◌, ℕ, zero, suc, ◌+◌, ◌<◌, ◌^◌, ◌∙◌, List, [], ◌∷◌, length, map, refl, ap, sym, subst, arith, Some, None, slice_get, slice_index_or, Bool, ◌&&◌, All}
use Rattle.std.specs.List.{list_all, sum_by}
use Rattle.std.proofs.lemmas.List.Sums.{sum_by-cons}
use Rattle.m5_machine.specs.declared.step.Step.{Step}
use Rattle.m5_machine.specs.declared.step.Step.TheVariants as steps
use Rattle.m5_machine.specs.Body.{Body}
use Rattle.m5_machine.specs.Blocks.{Flat, IsFlat, all_but_first}
use Rattle.m5_machine.specs.Linked.{erased, IsLinked}
use Rattle.m5_machine.specs.Numbers.{IsStep}
use Rattle.m5_machine.proofs.Places.{past}
use Rattle.m5_machine.proofs.EachStep.{Each}

-- a test that does not look at the place of a second body
all_erased : (p : Step → Bool) (ss : List Step) → ((s : Step) → p (erased s) ≡ p s) → list_all p (map erased ss) ≡ list_all p ss
all_erased p [] h = refl
all_erased p (s ∷ ss) h = ap (λ (t : Bool). t && list_all p (map erased ss)) (h s) ∙ ap (λ (t : Bool). p s && t) (all_erased p ss h)

pub linked_all : (p : Step → Bool) (starts : List ℕ) (ss : List Step) (code : Flat) → ((s : Step) → p (erased s) ≡ p s) → IsLinked starts ss code → list_all p code.steps ≡ list_all p ss
linked_all p starts ss code h l = sym (all_erased p code.steps h) ∙ ap (list_all p) l.steps_are ∙ all_erased p ss h

-- a count that does not look at it
sum_erased : (f : Step → ℕ) (ss : List Step) → ((s : Step) → f (erased s) ≡ f s) → sum_by f (map erased ss) ≡ sum_by f ss
sum_erased f [] h = refl
sum_erased f (s ∷ ss) h =
    sum_by-cons f (erased s) (map erased ss) ∙ ap (λ (n : ℕ). n + sum_by f (map erased ss)) (h s) ∙ ap (λ (n : ℕ). f s + n) (sum_erased f ss h) ∙ sym (sum_by-cons f s ss)

pub linked_sum : (f : Step → ℕ) (starts : List ℕ) (ss : List Step) (code : Flat) → ((s : Step) → f (erased s) ≡ f s) → IsLinked starts ss code → sum_by f code.steps ≡ sum_by f ss
linked_sum f starts ss code h l = sym (sum_erased f code.steps h) ∙ ap (sum_by f) l.steps_are ∙ sum_erased f ss h

rest_some : (bs : List Body) → 1 < length bs → 0 < length (all_but_first bs)
rest_some [] h = absurd (omega arith)
rest_some (b ∷ bs) h = omega arith

-- the place of a second body is that of a step
place_small : (code : Flat) (at slot place : ℕ) → IsFlat code → slice_get code.steps at ≡ Some (steps.If slot place) → place < 2 ^ 32
place_small code at slot place f e =
    let s = f.steps at (steps.If slot place) e in
    let there = past code.steps place (subst (λ (bs : List Body). 0 < length bs) (sym s.1) (rest_some _ s.0)) in
    let small = f.small in
    omega arith

each_map : (ss : List Step) → Each IsStep ss → Each IsStep (map erased ss)
each_map [] e = tt
each_map (steps.Fill i ∷ ss) e = (e.0, each_map ss e.1)
each_map (steps.If slot place ∷ ss) e = ((e.0.0, omega arith), each_map ss e.1)
each_map (steps.Go c v ∷ ss) e = (e.0, each_map ss e.1)
each_map (steps.Ask p a n ∷ ss) e = (e.0, each_map ss e.1)
each_map (steps.Send w c v ∷ ss) e = (e.0, each_map ss e.1)
each_map (steps.Done ∷ ss) e = (e.0, each_map ss e.1)

one_of : (ss : List Step) (at : ℕ) (s : Step) → Each IsStep (map erased ss) → slice_get ss at ≡ Some s → IsStep (erased s)
one_of [] at s e f = absurd (let none : None ≡ Some s = f in cc)
one_of (t ∷ ss) zero s e f = let same : t ≡ s = cc in subst (λ (x : Step). IsStep (erased x)) same e.0
one_of (t ∷ ss) (suc at) s e f = one_of ss at s e.1 f

item_of : (ss : List Step) (at : ℕ) (d : Step) → at < length ss → slice_get ss at ≡ Some (slice_index_or ss at d)
item_of [] at d h = absurd (omega arith)
item_of (s ∷ ss) zero d h = refl
item_of (s ∷ ss) (suc at) d h = item_of ss at d (omega arith)

placed : (code : Flat) (at : ℕ) (s : Step) → IsFlat code → slice_get code.steps at ≡ Some s → IsStep (erased s) → IsStep s
placed code at (steps.Fill i) f e h = h
placed code at (steps.If slot place) f e h = (h.0, place_small code at slot place f e)
placed code at (steps.Go c v) f e h = h
placed code at (steps.Ask p a n) f e h = h
placed code at (steps.Send w c v) f e h = h
placed code at steps.Done f e h = h

-- the numbers of linked steps are ones that the types hold
pub linked_numbers : (starts : List ℕ) (ss : List Step) (code : Flat) → IsFlat code → IsLinked starts ss code → Each IsStep ss → All IsStep code.steps
linked_numbers starts ss code f l e = λ at d h.
    let there = item_of code.steps at d h in
    placed code at (slice_index_or code.steps at d) f there
    (one_of code.steps at (slice_index_or code.steps at d) (subst (Each IsStep) (sym l.steps_are) (each_map ss e)) there)
