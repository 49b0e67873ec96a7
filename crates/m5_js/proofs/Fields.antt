-- Slots with commas between them, one after the other.
use Rattle.std.proofs.Common.{◌≡◌, ℕ, zero, suc, ◌∙◌, List, [], ◌∷◌, ◌++◌, drop, refl, ap, sym, arith, append_assoc, Option, Some, None, Bool, ◌==◌, if◌then◌else◌, slice_index, All}
use Rattle.std.proofs.lemmas.Bool.{ne_eqb, eq-eqb}
use Rattle.std.proofs.lemmas.List.Elements.{All-append}
use Rattle.m5_machine.specs.Numbers.{IsSlot}
use Rattle.m5_js.specs.code.Guess.{and_read, slot_in, fields_in, in_front, behind}

pub behind_none : (o : Option (List ℕ)) → behind [] o ≡ o
behind_none None = refl
behind_none (Some ts) = refl

behind_one : (ss : List ℕ) (s : ℕ) (o : Option (List ℕ)) → behind ss (in_front s o) ≡ behind (ss ++ s ∷ []) o
behind_one ss s None = refl
behind_one ss s (Some ts) = ap Some (sym (append_assoc ss (s ∷ []) ts))

abbrev pub after_field : ℕ → ℕ → List ℕ → Option (List ℕ)
after_field n s rest = if slice_index rest 0 == 44 then in_front s (fields_in n (drop 2 rest)) else Some (s ∷ [])

abbrev pub slot_read : ℕ → List ℕ → Option (ℕ × List ℕ)
slot_read s rest = Some (s, rest)

first_field : (n k : ℕ) (bytes : List ℕ) → n ≡ suc k → fields_in n bytes ≡ and_read (slot_in bytes) (after_field k)
first_field n k bytes e = ap (λ (m : ℕ). fields_in m bytes) e

pub no_field : (n k : ℕ) (ss bytes : List ℕ) (whole : Option (List ℕ)) → n ≡ suc k → slot_in bytes ≡ None → whole ≡ behind ss (fields_in n bytes) → whole ≡ None
no_field n k ss bytes whole e f w = w ∙ ap (behind ss) (first_field n k bytes e ∙ ap (λ (o : Option (ℕ × List ℕ)). and_read o (after_field k)) f)

pub last_field : (n k s : ℕ) (ss bytes rest : List ℕ) (whole : Option (List ℕ)) → n ≡ suc k → slot_in bytes ≡ slot_read s rest → (slice_index rest 0 ≡ 44 → ⊥) → whole ≡ behind ss (fields_in n bytes) → whole ≡ Some (ss ++ s ∷ [])
last_field n k s ss bytes rest whole e f h w =
    w ∙ ap (behind ss) (first_field n k bytes e ∙ ap (λ (o : Option (ℕ × List ℕ)). and_read o (after_field k)) f
    ∙ ap (λ (t : Bool). if t then in_front s (fields_in k (drop 2 rest)) else Some (s ∷ [])) (ne_eqb (slice_index rest 0) 44 h))

pub more_fields : (n k s : ℕ) (ss bytes rest : List ℕ) (whole : Option (List ℕ)) → n ≡ suc k → slot_in bytes ≡ slot_read s rest → slice_index rest 0 ≡ 44 → whole ≡ behind ss (fields_in n bytes) → whole ≡ behind (ss ++ s ∷ []) (fields_in k (drop 2 rest))
more_fields n k s ss bytes rest whole e f h w =
    w ∙ ap (behind ss) (first_field n k bytes e ∙ ap (λ (o : Option (ℕ × List ℕ)). and_read o (after_field k)) f
    ∙ ap (λ (t : Bool). if t then in_front s (fields_in k (drop 2 rest)) else Some (s ∷ [])) (eq-eqb (slice_index rest 0) 44 h))
    ∙ behind_one ss s (fields_in k (drop 2 rest))

one_slot : (s : ℕ) → IsSlot s → All IsSlot (s ∷ [])
one_slot s h zero d l = h
one_slot s h (suc k) d l = absurd (omega arith)

pub all_push : (ss : List ℕ) (s : ℕ) → All IsSlot ss → IsSlot s → All IsSlot (ss ++ s ∷ [])
all_push ss s a h = All-append IsSlot ss (s ∷ []) a (one_slot s h)
