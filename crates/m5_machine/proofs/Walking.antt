-- A walk over the labels of a code: what is written of the blocks from a label on.
use Rattle.std.proofs.Common.{◌≡◌, ℕ, zero, suc, ◌+◌, ◌<◌, ◌≤◌, ◌∙◌, List, [], ◌∷◌, ◌++◌, length, drop, refl, ap, sym, arith, append_assoc, append-nil, get_or, drop-cons, Some, slice_get}
use Rattle.std.specs.List.{flat_map}
use Rattle.m5_machine.specs.Blocks.{Flat, IsFlat, BeginsBlock, body_at, start_in}
use Rattle.m5_machine.specs.Labelled.{Labelled, blocks_from}
use Rattle.m5_machine.proofs.Places.{some_start}
use Rattle.m5_machine.proofs.Laying.{blocks_none, blocks_some}

pub drop_here : (xs : List ℕ) (i : ℕ) → i < length xs → drop i xs ≡ get_or xs i 0 ∷ drop (i + 1) xs
drop_here xs i h = drop-cons xs i 0 h ∙ ap (λ (n : ℕ). get_or xs i 0 ∷ drop n xs) (let e : suc i ≡ i + 1 = omega arith in e)

drop_past : (xs : List ℕ) (i : ℕ) → length xs ≤ i → drop i xs ≡ []
drop_past [] zero h = refl
drop_past [] (suc i) h = refl
drop_past (x ∷ xs) zero h = absurd (omega arith)
drop_past (x ∷ xs) (suc i) h = drop_past xs i (omega arith)

-- nothing is left behind the last label
pub all_walked : (f : Labelled → List ℕ) (code : Flat) (out : List ℕ) (n i : ℕ) (starts whole : List ℕ) → length starts ≤ i → out ++ flat_map f (blocks_from code n (drop i starts)) ≡ whole → out ≡ whole
all_walked f code out n i starts whole h e =
    sym (append-nil out) ∙ ap (λ (xs : List ℕ). out ++ flat_map f (blocks_from code n xs)) (sym (drop_past starts i h)) ∙ e

-- a label with a block, and one without
pub block_walked : (f : Labelled → List ℕ) (code : Flat) (o0 o1 : List ℕ) (starts : List ℕ) (i s : ℕ) → i < length starts → s ≡ get_or starts i 0 → (s ≡ 4294967295 → ⊥) → o1 ≡ o0 ++ f (record { label = i; body = body_at code s }) → o1 ++ flat_map f (blocks_from code (i + 1) (drop (i + 1) starts)) ≡ o0 ++ flat_map f (blocks_from code i (drop i starts))
block_walked f code o0 o1 starts i s h e n g =
    let rest = flat_map f (blocks_from code (i + 1) (drop (i + 1) starts)) in
    let here : blocks_from code i (drop i starts) ≡ record { label = i; body = body_at code s } ∷ blocks_from code (i + 1) (drop (i + 1) starts) =
    ap (blocks_from code i) (drop_here starts i h ∙ ap (λ (k : ℕ). k ∷ drop (i + 1) starts) (sym e)) ∙ blocks_some code i s (drop (i + 1) starts) n in
    ap (λ (x : List ℕ). x ++ rest) g ∙ append_assoc o0 (f (record { label = i; body = body_at code s })) rest ∙ ap (λ (bs : List Labelled). o0 ++ flat_map f bs) (sym here)

pub none_walked : (f : Labelled → List ℕ) (code : Flat) (o0 : List ℕ) (starts : List ℕ) (i s : ℕ) → i < length starts → s ≡ get_or starts i 0 → s ≡ 4294967295 → o0 ++ flat_map f (blocks_from code (i + 1) (drop (i + 1) starts)) ≡ o0 ++ flat_map f (blocks_from code i (drop i starts))
none_walked f code o0 starts i s h e n =
    ap (λ (bs : List Labelled). o0 ++ flat_map f bs) (sym (ap (blocks_from code i) (drop_here starts i h ∙ ap (λ (k : ℕ). k ∷ drop (i + 1) starts) (sym e)) ∙ blocks_none code i s (drop (i + 1) starts) n))

start_item : (xs : List ℕ) (i : ℕ) → i < length xs → slice_get xs i ≡ Some (get_or xs i 0)
start_item [] i h = absurd (omega arith)
start_item (x ∷ xs) zero h = refl
start_item (x ∷ xs) (suc i) h = start_item xs i (omega arith)

-- where a label's block begins
pub block_begins : (code : Flat) (starts : List ℕ) (i s : ℕ) → IsFlat code → starts ≡ code.starts → i < length starts → s ≡ get_or starts i 0 → (s ≡ 4294967295 → ⊥) → BeginsBlock code s
block_begins code starts i s f e h g n =
    let at : slice_get code.starts i ≡ Some s = ap (λ (x : List ℕ). slice_get x i) (sym e) ∙ start_item starts i h ∙ ap Some (sym g) in
    f.starts i s (ap start_in at ∙ some_start s n)
