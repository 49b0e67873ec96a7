-- References stay good where objects are added.
use Rattle.std.proofs.Common.{◌≡◌, ℕ, zero, suc, List, [], ◌∷◌, ◌++◌, length, refl, sym, subst, Some, slice_get, take, IsSomeAnd}
use Rattle.std.specs.List.{All}
use Rattle.std.proofs.lemmas.List.Elements.{All-weaker}
use Rattle.m5_region.specs.declared.value.Value.{Value}
use Rattle.m5_region.specs.declared.value.Value.TheVariants.{Null, Bool as Truth, Int, Text, Array}
use Rattle.m5_region.specs.Region.{Object, ArrayOf, TextOf, Refers, IsArray, IsText}

front_there : (P : Object → Type 0) (n : ℕ) (os : List Object) (i : ℕ) → IsSomeAnd (slice_get (take n os) i) P → IsSomeAnd (slice_get os i) P
front_there P zero os i h = absurd h
front_there P (suc n) [] i h = absurd h
front_there P (suc n) (o ∷ os) zero h = h
front_there P (suc n) (o ∷ os) (suc i) h = front_there P n os i h

-- a reference to one of the first objects is one to an object
pub refers_front : (n : ℕ) (os : List Object) (v : Value) → Refers (take n os) v → Refers os v
refers_front n os Null h = tt
refers_front n os (Truth b) h = tt
refers_front n os (Int i) h = tt
refers_front n os (Text r) h = front_there IsText n os r.0 h
refers_front n os (Array r) h = front_there IsArray n os r.0 h

there_more : (P : Object → Type 0) (os : List Object) (o : Object) (n : ℕ) → IsSomeAnd (slice_get os n) P → IsSomeAnd (slice_get (os ++ o ∷ []) n) P
there_more P [] o n h = absurd h
there_more P (p ∷ os) o zero h = h
there_more P (p ∷ os) o (suc n) h = there_more P os o n h

-- a reference to an object still is one where an object is added
pub refers_more : (os : List Object) (o : Object) (v : Value) → Refers os v → Refers (os ++ o ∷ []) v
refers_more os o Null h = tt
refers_more os o (Truth b) h = tt
refers_more os o (Int n) h = tt
refers_more os o (Text r) h = there_more IsText os o r.0 h
refers_more os o (Array r) h = there_more IsArray os o r.0 h

pub refers_after : (os os' : List Object) (o : Object) (v : Value) → os' ≡ os ++ o ∷ [] → Refers os v → Refers os' v
refers_after os os' o v e h = subst (λ (x : List Object). Refers x v) (sym e) (refers_more os o v h)

pub all_after : (os os' : List Object) (o : Object) (vs : List Value) → os' ≡ os ++ o ∷ [] → All (Refers os) vs → All (Refers os') vs
all_after os os' o vs e h = subst (λ (x : List Object). All (Refers x) vs) (sym e) (All-weaker (Refers os) (Refers (os ++ o ∷ [])) (refers_more os o) vs h)

-- the newest object is there
pub newest : (os : List Object) (o : Object) → slice_get (os ++ o ∷ []) (length os) ≡ Some o
newest [] o = refl
newest (p ∷ os) o = newest os o

pub text_newest : (os os' : List Object) (bytes : List ℕ) (at : ℕ) → os' ≡ os ++ TextOf bytes ∷ [] → at ≡ length os → IsSomeAnd (slice_get os' at) IsText
text_newest os os' bytes at e n = rw (e, n, newest os (TextOf bytes)) tt

pub array_newest : (os os' : List Object) (vs : List Value) (at : ℕ) → os' ≡ os ++ ArrayOf vs ∷ [] → at ≡ length os → IsSomeAnd (slice_get os' at) IsArray
array_newest os os' vs at e n = rw (e, n, newest os (ArrayOf vs)) tt
