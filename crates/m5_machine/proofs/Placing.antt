-- The places of second bodies, set one after the other.
use Rattle.std.proofs.Common.{◌≡◌, ℕ, zero, suc, ◌+◌, ◌-◌, ◌<◌, ◌∙◌, List, [], ◌∷◌, length, map, drop, refl, ap, sym, arith, Some, slice_get, slice_set, ◌⊎◌, inl, inr, eq-zero-or-pos}
use Rattle.m5_machine.specs.declared.link.Shape.{Shape}
use Rattle.m5_machine.specs.declared.step.Step.{Step}
use Rattle.m5_machine.specs.declared.step.Step.TheVariants as steps
use Rattle.m5_machine.specs.Body.{Body, bodies, onto}
use Rattle.m5_machine.specs.Blocks.{all_but_first}
use Rattle.m5_machine.specs.Linked.{erased}
use Rattle.m5_machine.specs.code.Shapes.{IsShape, SetsPlace, with_place}

-- places do not say which bodies there are
onto_erased : (s : Step) (bs : List Body) → onto (erased s) bs ≡ onto s bs
onto_erased (steps.Fill i) bs = refl
onto_erased (steps.If slot place) bs = refl
onto_erased (steps.Go c v) bs = refl
onto_erased (steps.Ask p a n) bs = refl
onto_erased (steps.Send w c v) bs = refl
onto_erased steps.Done bs = refl

bodies_erased : (ss : List Step) → bodies (map erased ss) ≡ bodies ss
bodies_erased [] = refl
bodies_erased (s ∷ ss) = onto_erased s (bodies (map erased ss)) ∙ ap (onto s) (bodies_erased ss)

drop_map : (n : ℕ) (ss : List Step) → map erased (drop n ss) ≡ drop n (map erased ss)
drop_map zero ss = refl
drop_map (suc n) [] = refl
drop_map (suc n) (s ∷ ss) = drop_map n ss

-- steps that are the same but for places have the same bodies from each place on
pub same_bodies : (old new : List Step) (n : ℕ) → map erased new ≡ map erased old → bodies (drop n new) ≡ bodies (drop n old)
same_bodies old new n e =
    sym (bodies_erased (drop n new)) ∙ ap bodies (drop_map n new ∙ ap (drop n) e ∙ sym (drop_map n old)) ∙ bodies_erased (drop n old)

erased_place : (s : Step) (place : ℕ) → erased (with_place s place) ≡ erased s
erased_place (steps.Fill i) place = refl
erased_place (steps.If slot old) place = refl
erased_place (steps.Go c v) place = refl
erased_place (steps.Ask p a n) place = refl
erased_place (steps.Send w c v) place = refl
erased_place steps.Done place = refl

pub step_there : (ss : List Step) (at : ℕ) → at < length ss → (s : Step) × (slice_get ss at ≡ Some s)
step_there [] at h = absurd (omega arith)
step_there (s ∷ ss) zero h = (s, refl)
step_there (s ∷ ss) (suc at) h = step_there ss at (omega arith)

same_set : (ss : List Step) (at : ℕ) (s t : Step) → slice_get ss at ≡ Some s → erased t ≡ erased s → map erased (slice_set ss at t) ≡ map erased ss
same_set [] at s t e f = refl
same_set (x ∷ ss) zero s t e f = let same : x ≡ s = cc in ap (λ (y : Step). y ∷ map erased ss) (f ∙ ap erased (sym same))
same_set (x ∷ ss) (suc at) s t e f = ap (λ (y : List Step). erased x ∷ y) (same_set ss at s t e f)

pub same_after : (old new : List Step) (at place : ℕ) → at < length old → SetsPlace old at place new → map erased new ≡ map erased old
same_after old new at place h x =
    let s = step_there old at h in
    ap (map erased) (x s.0 s.1) ∙ same_set old at s.0 (with_place s.0 place) s.1 (erased_place s.0 place)

set_length : (ss : List Step) (at : ℕ) (t : Step) → length (slice_set ss at t) ≡ length ss
set_length [] at t = refl
set_length (s ∷ ss) zero t = refl
set_length (s ∷ ss) (suc at) t = ap suc (set_length ss at t)

pub length_after : (old new : List Step) (at place : ℕ) → at < length old → SetsPlace old at place new → length new ≡ length old
length_after old new at place h x = let s = step_there old at h in ap length (x s.0 s.1) ∙ set_length old at (with_place s.0 place)

-- each `If` before a place names the place of its second body
pub record PlacesBelow (old new : List Step) (below : ℕ) : Type 0 where
  pub second : (at slot place : ℕ) → at < below → at + 1 < length old → slice_get new at ≡ Some (steps.If slot place) → bodies (drop place old) ≡ all_but_first (bodies (drop (at + 1) old))

pub none_below : (old new : List Step) → PlacesBelow old new 0
none_below old new = record { second = λ at slot place h l e. absurd (omega arith) }

other_item : (ss : List Step) (at n : ℕ) (t : Step) → (n ≡ at → ⊥) → slice_get (slice_set ss at t) n ≡ slice_get ss n
other_item [] at n t h = refl
other_item (s ∷ ss) zero zero t h = absurd (h refl)
other_item (s ∷ ss) zero (suc n) t h = refl
other_item (s ∷ ss) (suc at) zero t h = refl
other_item (s ∷ ss) (suc at) (suc n) t h = other_item ss at n t (λ e. h (ap suc e))

this_item : (ss : List Step) (at : ℕ) (t : Step) → at < length ss → slice_get (slice_set ss at t) at ≡ Some t
this_item [] at t h = absurd (omega arith)
this_item (s ∷ ss) zero t h = refl
this_item (s ∷ ss) (suc at) t h = this_item ss at t (omega arith)

place_is : (s : Step) (place slot p : ℕ) → Some (with_place s place) ≡ Some (steps.If slot p) → p ≡ place
place_is (steps.Fill i) place slot p e = cc
place_is (steps.If old q) place slot p e = cc
place_is (steps.Go c v) place slot p e = cc
place_is (steps.Ask q a n) place slot p e = cc
place_is (steps.Send w c v) place slot p e = cc
place_is steps.Done place slot p e = cc

below_or_at : (at below : ℕ) → at < below + 1 → (at < below) ⊎ (at ≡ below)
below_or_at at below h =
    elim (eq-zero-or-pos (below - at)) [
      | inl z ↦ inr (omega arith)
      | inr g ↦ inl (omega arith)
    ]

-- one place more is set
pub next_place : (old now new : List Step) (at place : ℕ) (shape : Shape) → PlacesBelow old now at → at < length now → SetsPlace now at place new → IsShape old (at + 1) shape → place ≡ shape.after → PlacesBelow old new (at + 1)
next_place old now new at place shape h l x s e =
    let t = step_there now at l in
    let new_is = x t.0 t.1 in
    record {
      second = λ n slot p m k f.
          elim (below_or_at n at m) [
            | inl b ↦ h.second n slot p b k (sym (other_item now at n (with_place t.0 place) (λ q. omega arith)) ∙ ap (λ (y : List Step). slice_get y n) (sym new_is) ∙ f)
            | inr b ↦
                let this : p ≡ place = place_is t.0 place slot p (sym (this_item now at (with_place t.0 place) l) ∙ ap (slice_get (slice_set now at (with_place t.0 place))) (sym b) ∙ ap (λ (y : List Step). slice_get y n) (sym new_is) ∙ f) in
                ap (λ (q : ℕ). bodies (drop q old)) (this ∙ e) ∙ s.rest ∙ ap (λ (q : ℕ). all_but_first (bodies (drop (q + 1) old))) (sym b)
          ];
    }

-- the last step has no second body
pub last_place : (old now : List Step) (at : ℕ) → PlacesBelow old now at → at + 1 ≡ length old → PlacesBelow old now (at + 1)
last_place old now at h e = record {
  second = λ n slot p m k f.
      elim (below_or_at n at m) [
        | inl b ↦ h.second n slot p b k f
        | inr b ↦ absurd (omega arith)
      ];
}
