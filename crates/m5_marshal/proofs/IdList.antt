-- Type ids read one after the other.
use Rattle.std.proofs.Common.{◌≡◌, ℕ, zero, suc, ◌+◌, ◌-◌, ◌*◌, ◌<◌, ◌≤◌, Bool, true, false, cond, ltb, List, [], ◌∷◌, ◌++◌, length, take, drop, Option, Some, None, Ok, Err, slice_get, refl, sym, ap, ◌∙◌, append_assoc, append-nil, arith, length-drop}
use Rattle.std.specs.Int.{w32, from_be_bytes}
use Rattle.std.proofs.lemmas.Bool.{ltb-false}
use Rattle.std.proofs.lemmas.List.{length-take, drop-drop}
use Rattle.m5_dictionary.specs.Dictionaries.{Dictionaries}
use Rattle.m5_message.specs.Numbers.{Read, ◌>>=◌, where_ok, wide}
use Rattle.m5_message.specs.Reading.{id_at, ids_at, is_object_line}
use Rattle.m5_marshal.specs.code.Ids.{words}
use Rattle.m5_marshal.proofs.Passing.{onto_ids}

words_append : (k : ℕ) (a b : List ℕ) → length a ≡ 4 * k → words (a ++ b) ≡ words a ++ words b
unfolding words
words_append k [] b h = refl
words_append k (x ∷ []) b h = absurd (omega arith)
words_append k (x ∷ y ∷ []) b h = absurd (omega arith)
words_append k (x ∷ y ∷ z ∷ []) b h = absurd (omega arith)
words_append zero (x ∷ y ∷ z ∷ w ∷ rest) b h = absurd (omega arith)
words_append (suc k) (x ∷ y ∷ z ∷ w ∷ rest) b h = ap (λ (l : List ℕ). from_be_bytes w32 (x ∷ y ∷ z ∷ w ∷ []) ∷ l) (words_append k rest b (omega arith))

words_four : (a : List ℕ) → 4 ≤ length a → words (take 4 a) ≡ from_be_bytes w32 (take 4 a) ∷ []
unfolding words
words_four [] h = absurd (omega arith)
words_four (x ∷ []) h = absurd (omega arith)
words_four (x ∷ y ∷ []) h = absurd (omega arith)
words_four (x ∷ y ∷ z ∷ []) h = absurd (omega arith)
words_four (x ∷ y ∷ z ∷ w ∷ rest) h = refl

abbrev nothing : List ℕ
nothing = []

take_nothing : (m : ℕ) → nothing ≡ take m nothing
take_nothing zero = refl
take_nothing (suc m) = refl

take_sum : (n m : ℕ) (a : List ℕ) → take (n + m) a ≡ take n a ++ take m (drop n a)
take_sum zero m a = ap (λ (k : ℕ). take k a) (let e : 0 + m ≡ m = omega arith in e)
take_sum (suc n) m [] = ap (λ (k : ℕ). take k []) (let e : suc n + m ≡ suc (n + m) = omega arith in e) ∙ take_nothing m
take_sum (suc n) m (x ∷ a) = ap (λ (k : ℕ). take k (x ∷ a)) (let e : suc n + m ≡ suc (n + m) = omega arith in e) ∙ ap (λ (l : List ℕ). x ∷ l) (take_sum n m a)

record IsFour (rest : List ℕ) (x : ℕ × List ℕ) : Type 0 where
  long : 4 ≤ length rest
  value : from_be_bytes w32 (take 4 rest) ≡ x.0
  after : drop 4 rest ≡ x.1

some_is : {A : Type 0} (x y : A) → Some x ≡ Some y → x ≡ y
some_is x y e = cc

wide_four : (rest : List ℕ) (x : ℕ × List ℕ) → wide w32 rest ≡ Some x → IsFour rest x
wide_four rest x e = by_test (ltb (length rest) 4) refl e
  where
    by_test : (b : Bool) → ltb (length rest) 4 ≡ b → cond b None (Some (from_be_bytes w32 (take 4 rest), drop 4 rest)) ≡ Some x → IsFour rest x
    by_test true h k = absurd (let none : None ≡ Some x = k in cc)
    by_test false h k = let same = some_is (from_be_bytes w32 (take 4 rest), drop 4 rest) x k in
        record { long = ltb-false (length rest) 4 h; value = ap (λ (y : ℕ × List ℕ). y.0) same; after = ap (λ (y : ℕ × List ℕ). y.1) same }

id_four : (d : Dictionaries) (rest : List ℕ) (x : ℕ × List ℕ) → id_at d rest ≡ Some x → IsFour rest x
id_four d rest x e = by_found (wide w32 rest) refl e
  where
    by_test : (b : Bool) (y : ℕ × List ℕ) → wide w32 rest ≡ Some y → cond b (Some y) None ≡ Some x → IsFour rest x
    by_test true y w k = wide_four rest x (w ∙ k)
    by_test false y w k = absurd (let none : None ≡ Some x = k in cc)

    by_found : (o : Option (ℕ × List ℕ)) → wide w32 rest ≡ o → where_ok (λ id. is_object_line (slice_get d.types id)) o ≡ Some x → IsFour rest x
    by_found None w k = absurd (let none : None ≡ Some x = k in cc)
    by_found (Some y) w k = by_test (is_object_line (slice_get d.types y.0)) y w k

onto_more : (front : List ℕ) (id : ℕ) (r : Read (List ℕ)) → onto_ids front (r >>= λ x. Ok (id ∷ x.0, x.1)) ≡ onto_ids (front ++ id ∷ []) r
unfolding onto_ids
onto_more front id (Ok x) = ap (λ (l : List ℕ). Ok (l, x.1)) (sym (append_assoc front (id ∷ []) x.0))
onto_more front id (Err e) = refl

abbrev pub IsAt : Dictionaries → ℕ → List ℕ → ℕ → List ℕ → Type 0
IsAt d count bytes k rest = (rest ≡ drop (4 * k) bytes) × (4 * k ≤ length bytes) × (ids_at d count bytes ≡ onto_ids (words (take (4 * k) bytes)) (ids_at d (count - k) rest))

pub ids_next : (d : Dictionaries) (count k : ℕ) (bytes rest : List ℕ) (x : ℕ × List ℕ) → k < count → IsAt d count bytes k rest → id_at d rest ≡ Some x → IsAt d count bytes (k + 1) x.1
unfolding ids_at
ids_next d count k bytes rest x lt h e =
    let f = id_four d rest x e in
    let n : 4 * (k + 1) ≡ 4 * k + 4 = omega arith in
    let after : x.1 ≡ drop (4 * (k + 1)) bytes = sym f.after ∙ ap (drop 4) h.0 ∙ drop-drop 4 (4 * k) bytes ∙ ap (λ (m : ℕ). drop m bytes) (let m : 4 * k + 4 ≡ 4 * (k + 1) = omega arith in m) in
    let long : 4 * (k + 1) ≤ length bytes = omega (arith, f.long, ap (λ (l : List ℕ). length l) h.0, length-drop (4 * k) bytes) in
    let split : words (take (4 * (k + 1)) bytes) ≡ words (take (4 * k) bytes) ++ x.0 ∷ [] =
    ap (λ (m : ℕ). words (take m bytes)) n ∙ ap words (take_sum (4 * k) 4 bytes)
    ∙ words_append k (take (4 * k) bytes) (take 4 (drop (4 * k) bytes)) (omega (arith, length-take (4 * k) bytes, h.1))
    ∙ ap (λ (l : List ℕ). words (take (4 * k) bytes) ++ words (take 4 l)) (sym h.0)
    ∙ ap (λ (l : List ℕ). words (take (4 * k) bytes) ++ l) (words_four rest f.long ∙ ap (λ (m : ℕ). m ∷ []) f.value) in
    let c : count - k ≡ suc (count - (k + 1)) = omega arith in
    let step : ids_at d (count - k) rest ≡ (ids_at d (count - (k + 1)) x.1 >>= λ y. Ok (x.0 ∷ y.0, y.1)) = rw (c, e) refl in
    (after, long, h.2 ∙ ap (onto_ids (words (take (4 * k) bytes))) step ∙ onto_more (words (take (4 * k) bytes)) x.0 (ids_at d (count - (k + 1)) x.1) ∙ ap (λ (l : List ℕ). onto_ids l (ids_at d (count - (k + 1)) x.1)) (sym split))

pub ids_none : (d : Dictionaries) (count k : ℕ) (bytes rest : List ℕ) → k < count → IsAt d count bytes k rest → id_at d rest ≡ None → ids_at d count bytes ≡ Err (length rest)
unfolding ids_at onto_ids
ids_none d count k bytes rest lt h e =
    let c : count - k ≡ suc (count - (k + 1)) = omega arith in
    let step : ids_at d (count - k) rest ≡ Err (length rest) = rw (c, e) refl in
    h.2 ∙ ap (onto_ids (words (take (4 * k) bytes))) step

pub ids_done : (d : Dictionaries) (count k : ℕ) (bytes rest : List ℕ) → count ≤ k → IsAt d count bytes k rest → ids_at d count bytes ≡ Ok (words (take (4 * k) bytes), rest)
unfolding ids_at onto_ids
ids_done d count k bytes rest le h =
    let c : count - k ≡ 0 = omega arith in
    let step : ids_at d (count - k) rest ≡ Ok ([], rest) = rw c refl in
    h.2 ∙ ap (onto_ids (words (take (4 * k) bytes))) step ∙ ap (λ (l : List ℕ). Ok (l, rest)) (append-nil (words (take (4 * k) bytes)))

pub ids_start : (d : Dictionaries) (count : ℕ) (bytes : List ℕ) → IsAt d count bytes 0 bytes
unfolding onto_ids words
ids_start d count bytes = (refl, omega arith, whole (ids_at d count bytes) ∙ ap (λ (n : ℕ). onto_ids [] (ids_at d n bytes)) (let e : count ≡ count - 0 = omega arith in e))
  where
    whole : (r : Read (List ℕ)) → r ≡ onto_ids [] r
    whole (Ok x) = refl
    whole (Err k) = refl
