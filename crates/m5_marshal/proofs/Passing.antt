-- Values read one after the other.
use Rattle.std.proofs.Common.{◌≡◌, ℕ, zero, suc, List, [], ◌∷◌, ◌++◌, length, drop, Some, None, Ok, Err, slice_get, refl, arith}
use Rattle.m5_region.specs.declared.value.Value.{Value}
use Rattle.m5_region.specs.Region.{Object, ArrayOf, TextOf}
use Rattle.m5_message.specs.declared.format.Format.{Format}
use Rattle.m5_dictionary.specs.Dictionaries.{Dictionaries}
use Rattle.m5_message.specs.Numbers.{Read, ◌>>=◌}
use Rattle.m5_message.specs.Reading.{value_at, values_at, Whole, Parts, opening_at, content_at}
use Rattle.m5_marshal.specs.code.Adding.{rest_of}

unfoldable pub onto_value : Value → Read (List Value) → Read (List Value)
onto_value v r = r >>= λ x. Ok (v ∷ x.0, x.1)

pub rest_onto : (v : Value) (r : Read (List Value)) → rest_of (onto_value v r) ≡ rest_of r
unfolding onto_value
rest_onto v (Ok x) = refl
rest_onto v (Err e) = refl

pub values_err : (d : Dictionaries) (f : Format) (ids : List ℕ) (own : ℕ) (others : List ℕ) (place id : ℕ) (bytes : List ℕ) (e : ℕ) → slice_get others place ≡ Some id → value_at d f ids own id bytes ≡ Err e → values_at d f ids own (drop place others) bytes ≡ Err e
unfolding values_at
values_err d f ids own [] place id bytes e there h = absurd (let none : None ≡ Some id = there in cc)
values_err d f ids own (i ∷ others) zero id bytes e there h =
    let is : i ≡ id = cc in rw (is, h) refl
values_err d f ids own (i ∷ others) (suc place) id bytes e there h = values_err d f ids own others place id bytes e there h

pub values_ok : (d : Dictionaries) (f : Format) (ids : List ℕ) (own : ℕ) (others : List ℕ) (place id : ℕ) (bytes : List ℕ) (x : Value × List ℕ) → slice_get others place ≡ Some id → value_at d f ids own id bytes ≡ Ok x → values_at d f ids own (drop place others) bytes ≡ onto_value x.0 (values_at d f ids own (drop (suc place) others) x.1)
unfolding values_at onto_value
values_ok d f ids own [] place id bytes x there h = absurd (let none : None ≡ Some id = there in cc)
values_ok d f ids own (i ∷ others) zero id bytes x there h =
    let is : i ≡ id = cc in rw (is, h) refl
values_ok d f ids own (i ∷ others) (suc place) id bytes x there h = values_ok d f ids own others place id bytes x there h

pub values_done : (d : Dictionaries) (f : Format) (ids : List ℕ) (own : ℕ) (others : List ℕ) (place : ℕ) (bytes : List ℕ) → place ≡ length others → values_at d f ids own (drop place others) bytes ≡ Ok ([], bytes)
unfolding values_at
values_done d f ids own [] zero bytes e = refl
values_done d f ids own [] (suc place) bytes e = absurd (omega arith)
values_done d f ids own (i ∷ others) zero bytes e = absurd (omega arith)
values_done d f ids own (i ∷ others) (suc place) bytes e = values_done d f ids own others place bytes (omega arith)

-- what stands behind an array's content is what stands behind its last fields
pub rest_parts : (d : Dictionaries) (f : Format) (ids : List ℕ) (own id : ℕ) (bytes rest : List ℕ) (first : List Value) (others : List ℕ) → opening_at d f id bytes ≡ Ok (Parts first others, rest) → rest_of (content_at d f ids own id bytes) ≡ rest_of (values_at d f ids own others rest)
unfolding content_at
rest_parts d f ids own id bytes rest first others e = rw e (same (values_at d f ids own others rest))
  where
    same : (r : Read (List Value)) → rest_of (r >>= λ vs. Ok (ArrayOf (first ++ vs.0), vs.1)) ≡ rest_of r
    same (Ok x) = refl
    same (Err k) = refl

pub values_next : (d : Dictionaries) (f : Format) (ids : List ℕ) (own : ℕ) (others : List ℕ) (place next id : ℕ) (bytes : List ℕ) (x : Value × List ℕ) → next ≡ suc place → slice_get others place ≡ Some id → value_at d f ids own id bytes ≡ Ok x → values_at d f ids own (drop place others) bytes ≡ onto_value x.0 (values_at d f ids own (drop next others) x.1)
values_next d f ids own others place next id bytes x e there h = rw e (values_ok d f ids own others place id bytes x there h)

-- ---- contents

unfoldable pub onto_object : Object → Read (List Object) → Read (List Object)
onto_object o r = r >>= λ x. Ok (o ∷ x.0, x.1)

pub rest_object : (o : Object) (r : Read (List Object)) → rest_of (onto_object o r) ≡ rest_of r
unfolding onto_object
rest_object o (Ok x) = refl
rest_object o (Err e) = refl

-- ---- type ids

unfoldable pub onto_ids : List ℕ → Read (List ℕ) → Read (List ℕ)
onto_ids front r = r >>= λ x. Ok (front ++ x.0, x.1)

pub rest_whole : (d : Dictionaries) (f : Format) (ids : List ℕ) (own id : ℕ) (bytes rest letters : List ℕ) → opening_at d f id bytes ≡ Ok (Whole letters, rest) → content_at d f ids own id bytes ≡ Ok (TextOf letters, rest)
unfolding content_at
rest_whole d f ids own id bytes rest letters e = rw e refl

pub content_parts : (d : Dictionaries) (f : Format) (ids : List ℕ) (own id : ℕ) (bytes rest : List ℕ) (first : List Value) (others : List ℕ) → opening_at d f id bytes ≡ Ok (Parts first others, rest) → content_at d f ids own id bytes ≡ (values_at d f ids own others rest >>= λ vs. Ok (ArrayOf (first ++ vs.0), vs.1))
unfolding content_at
content_parts d f ids own id bytes rest first others e = rw e refl
