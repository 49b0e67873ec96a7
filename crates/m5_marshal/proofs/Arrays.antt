-- An array of nulls whose fields are set is the array of these fields.
use Rattle.std.proofs.Common.{◌≡◌, ℕ, zero, suc, ◌+◌, ◌-◌, ◌≤◌, List, [], ◌∷◌, ◌++◌, length, map, take, replicate, Some, Ok, Err, refl, sym, ap, subst, ◌∙◌, append_assoc, length-append, arith}
use Rattle.std.specs.Prelude.{slice_set}
use Rattle.std.proofs.lemmas.List.{length-map, length-replicate, take_at}
use Rattle.m5_marshal.proofs.Filling.{set_front, set_count, set_room, HasRoom}
use Rattle.m5_region.specs.declared.value.Value.{Value}
use Rattle.m5_region.specs.declared.value.Value.TheVariants as values
use Rattle.m5_region.specs.Region.{Object, ArrayOf, TextOf, Contents, units_of, units_in, fields_of, objects_with_field, object_with_field}
use Rattle.m5_message.specs.declared.format.Format.{Format}
use Rattle.m5_dictionary.specs.Dictionaries.{Dictionaries}
use Rattle.m5_message.specs.Numbers.{Read, ◌>>=◌}
use Rattle.m5_message.specs.Reading.{value_at, values_at}
use Rattle.m5_marshal.specs.code.Adding.{set_fields, FillsTo, rest_of}
use Rattle.m5_message.specs.Sharing.{shifted, shifted_object}

at_end : (os : List Object) (o : Object) (place : ℕ) (v : Value) → objects_with_field (os ++ o ∷ []) (length os) place v ≡ os ++ object_with_field o place v ∷ []
at_end [] o place v = refl
at_end (p ∷ os) o place v = ap (λ (x : List Object). p ∷ x) (at_end os o place v)

set_null : (done : List Value) (n : ℕ) (v : Value) → slice_set (done ++ replicate (suc n) values.Null) (length done) v ≡ (done ++ v ∷ []) ++ replicate n values.Null
set_null [] n v = refl
set_null (w ∷ done) n v = ap (λ (x : List Value). w ∷ x) (set_null done n v)

-- all the fields behind some
pub set_all : (os : List Object) (done vs : List Value) → set_fields (os ++ ArrayOf (done ++ replicate (length vs) values.Null) ∷ []) (length os) (length done) vs ≡ os ++ ArrayOf (done ++ vs) ∷ []
unfolding set_fields
set_all os done [] = refl
set_all os done (v ∷ vs) =
    let once : objects_with_field (os ++ ArrayOf (done ++ replicate (suc (length vs)) values.Null) ∷ []) (length os) (length done) v ≡ os ++ ArrayOf ((done ++ v ∷ []) ++ replicate (length vs) values.Null) ∷ [] =
    at_end os (ArrayOf (done ++ replicate (suc (length vs)) values.Null)) (length done) v ∙ ap (λ (x : List Value). os ++ ArrayOf x ∷ []) (set_null done (length vs) v) in
    let len : suc (length done) ≡ length (done ++ v ∷ []) = omega (arith, length-append done (v ∷ [])) in
    ap (λ (x : List Object). set_fields x (length os) (suc (length done)) vs) once
    ∙ ap (λ (n : ℕ). set_fields (os ++ ArrayOf ((done ++ v ∷ []) ++ replicate (length vs) values.Null) ∷ []) (length os) n vs) len
    ∙ set_all os (done ++ v ∷ []) vs
    ∙ ap (λ (x : List Value). os ++ ArrayOf x ∷ []) (append_assoc done (v ∷ []) vs)

pub set_append : (os : List Object) (at from : ℕ) (vs ws : List Value) → set_fields (set_fields os at from vs) at (from + length vs) ws ≡ set_fields os at from (vs ++ ws)
unfolding set_fields
set_append os at from [] ws = ap (λ (n : ℕ). set_fields os at n ws) (omega arith)
set_append os at from (v ∷ vs) ws =
    ap (λ (n : ℕ). set_fields (set_fields (objects_with_field os at from v) at (suc from) vs) at n ws) (let e : from + suc (length vs) ≡ suc from + length vs = omega arith in e) ∙ set_append (objects_with_field os at from v) at (suc from) vs ws

same_units : (o : Object) (place : ℕ) (v : Value) → units_of (object_with_field o place v) ≡ units_of o
same_units (TextOf bytes) place v = refl
same_units (ArrayOf vs) place v = ap (λ (n : ℕ). n + 1) (set_length vs place v)
  where
    set_length : (vs : List Value) (place : ℕ) (v : Value) → length (slice_set vs place v) ≡ length vs
    set_length [] place v = refl
    set_length (w ∷ vs) zero v = refl
    set_length (w ∷ vs) (suc place) v = ap suc (set_length vs place v)

-- the newest object with fields set is one of the same units
pub set_last : (os : List Object) (o : Object) (from : ℕ) (vs : List Value) → (p : Object) × (set_fields (os ++ o ∷ []) (length os) from vs ≡ os ++ p ∷ []) × (units_of p ≡ units_of o)
unfolding set_fields
set_last os o from [] = (o, refl, refl)
set_last os o from (v ∷ vs) =
    let r = set_last os (object_with_field o from v) (suc from) vs in
    (r.0, ap (λ (x : List Object). set_fields x (length os) (suc from) vs) (at_end os o from v) ∙ r.1, r.2 ∙ same_units o from v)

pub values_count : (d : Dictionaries) (f : Format) (ids : List ℕ) (own : ℕ) (others bytes : List ℕ) (x : List Value × List ℕ) → values_at d f ids own others bytes ≡ Ok x → length x.0 ≡ length others
unfolding values_at
values_count d f ids own [] bytes x e = ap (λ (y : List Value × List ℕ). length y.0) (let same : x ≡ ([], bytes) = cc in same)
values_count d f ids own (id ∷ others) bytes x e = by_value (value_at d f ids own id bytes) (λ b y. values_count d f ids own others b y) e
  where
    by_rest : (v : Value) (r : Read (List Value)) → ((y : List Value × List ℕ) → r ≡ Ok y → length y.0 ≡ length others) → (r >>= λ vs. Ok (v ∷ vs.0, vs.1)) ≡ Ok x → length x.0 ≡ suc (length others)
    by_rest v (Ok y) go h = ap (λ (z : List Value × List ℕ). length z.0) (let same : x ≡ (v ∷ y.0, y.1) = cc in same) ∙ ap suc (go y refl)
    by_rest v (Err k) go h = absurd cc

    by_value : (r : Read Value) → ((b : List ℕ) (y : List Value × List ℕ) → values_at d f ids own others b ≡ Ok y → length y.0 ≡ length others) → (r >>= λ v. values_at d f ids own others v.1 >>= λ vs. Ok (v.0 ∷ vs.0, vs.1)) ≡ Ok x → length x.0 ≡ suc (length others)
    by_value (Ok v) go h = by_rest v.0 (values_at d f ids own others v.1) (go v.1) h
    by_value (Err k) go h = absurd cc

pub record Newest (old s1 : Contents) (at n : ℕ) (first : List Value) : Type 0 where
  pub at_is : at ≡ length old.objects
  pub objects : s1.objects ≡ set_fields (old.objects ++ ArrayOf (replicate n values.Null) ∷ []) at 0 first
  pub left : s1.left + (n + 1) ≡ old.left

pub newest : (old s0 s1 : Contents) (at n : ℕ) (first : List Value) → at ≡ length old.objects → s0.objects ≡ old.objects ++ ArrayOf (replicate n values.Null) ∷ [] → s0.left + (length (replicate n values.Null) + 1) ≡ old.left → FillsTo s0 at 0 first s1 → Newest old s1 at n first
newest old s0 s1 at n first e o l h = record {
  at_is = e;
  objects = ap (λ (x : Contents). x.objects) h ∙ ap (λ (x : List Object). set_fields x at 0 first) o;
  left = omega (arith, l, ap (λ (x : Contents). x.left) h, length-replicate n values.Null);
}

pub array_ok : (old s1 s2 : Contents) (at n from : ℕ) (first vs : List Value) → Newest old s1 at n first → from ≡ length first → n ≡ length first + length vs → FillsTo s1 at from vs s2 → (s2.objects ≡ old.objects ++ ArrayOf (first ++ vs) ∷ []) × (s2.left + (length (first ++ vs) + 1) ≡ old.left)
array_ok old s1 s2 at n from first vs new f len h =
    let nulls = old.objects ++ ArrayOf (replicate n values.Null) ∷ [] in
    let all : length (first ++ vs) ≡ n = omega (arith, length-append first vs) in
    let objects : s2.objects ≡ old.objects ++ ArrayOf (first ++ vs) ∷ [] =
    ap (λ (x : Contents). x.objects) h
    ∙ ap (λ (x : List Object). set_fields x at from vs) new.objects
    ∙ ap (λ (k : ℕ). set_fields (set_fields nulls at 0 first) at k vs) (let e : from ≡ 0 + length first = omega arith in e)
    ∙ set_append nulls at 0 first vs
    ∙ ap (λ (k : ℕ). set_fields nulls k 0 (first ++ vs)) new.at_is
    ∙ ap (λ (k : ℕ). set_fields (old.objects ++ ArrayOf (replicate k values.Null) ∷ []) (length old.objects) 0 (first ++ vs)) (sym all)
    ∙ set_all old.objects [] (first ++ vs) in
    (objects, omega (arith, all, new.left, ap (λ (x : Contents). x.left) h))

pub array_err : (old s1 s2 : Contents) (at n from : ℕ) (first vs : List Value) → Newest old s1 at n first → from ≡ length first → FillsTo s1 at from vs s2 → (more : List Object) × (s2.objects ≡ old.objects ++ more) × (s2.left + units_in more ≡ old.left)
array_err old s1 s2 at n from first vs new f h =
    let nulls = old.objects ++ ArrayOf (replicate n values.Null) ∷ [] in
    let r = set_last old.objects (ArrayOf (replicate n values.Null)) 0 (first ++ vs) in
    let objects : s2.objects ≡ old.objects ++ r.0 ∷ [] =
    ap (λ (x : Contents). x.objects) h
    ∙ ap (λ (x : List Object). set_fields x at from vs) new.objects
    ∙ ap (λ (k : ℕ). set_fields (set_fields nulls at 0 first) at k vs) (let e : from ≡ 0 + length first = omega arith in e)
    ∙ set_append nulls at 0 first vs
    ∙ ap (λ (k : ℕ). set_fields nulls k 0 (first ++ vs)) new.at_is
    ∙ r.1 in
    (r.0 ∷ [], objects, omega (arith, r.2, new.left, ap (λ (x : Contents). x.left) h, length-replicate n values.Null))

pub rest_ok : {A : Type 0} (r : Read A) (rest : List ℕ) → rest_of r ≡ Ok rest → (x : A) × (r ≡ Ok (x, rest))
rest_ok (Ok y) rest e = (y.0, ap (λ (b : List ℕ). Ok (y.0, b)) (let same : y.1 ≡ rest = cc in same))
rest_ok (Err k) rest e = absurd cc

pub array_added : (old s1 s2 : Contents) (at own n from : ℕ) (first vs : List Value) → Newest old s1 at n first → from ≡ length first → n ≡ length first + length vs → FillsTo s1 at from (map (shifted (at - own)) vs) s2 → map (shifted (length old.objects - own)) first ≡ first → (s2.objects ≡ old.objects ++ shifted_object (length old.objects - own) (ArrayOf (first ++ vs)) ∷ []) × (s2.left + units_of (ArrayOf (first ++ vs)) ≡ old.left)
array_added old s1 s2 at own n from first vs new f len h still =
    let ws = map (shifted (at - own)) vs in
    let r = array_ok old s1 s2 at n from first ws new f (omega (arith, len, length-map vs (shifted (at - own)))) h in
    let same : first ++ ws ≡ map (shifted (length old.objects - own)) (first ++ vs) =
    ap (λ (k : ℕ). first ++ map (shifted (k - own)) vs) new.at_is
    ∙ ap (λ (x : List Value). x ++ map (shifted (length old.objects - own)) vs) (sym still)
    ∙ sym (map_append (shifted (length old.objects - own)) first vs) in
    (r.0 ∙ ap (λ (x : List Value). old.objects ++ ArrayOf x ∷ []) same, omega (arith, r.1, length-append first ws, length-append first vs, length-map vs (shifted (at - own))))
  where
    map_append : (f : Value → Value) (a b : List Value) → map f (a ++ b) ≡ map f a ++ map f b
    map_append f [] b = refl
    map_append f (v ∷ a) b = ap (λ (x : List Value). f v ∷ x) (map_append f a b)

fields_end : (os : List Object) (fs : List Value) → fields_of (os ++ ArrayOf fs ∷ []) (length os) ≡ Some fs
fields_end [] fs = refl
fields_end (o ∷ os) fs = fields_end os fs

pub newest_count : (old s1 : Contents) (at n : ℕ) (first : List Value) → Newest old s1 at n first → at + 1 ≡ length s1.objects
newest_count old s1 at n first new = omega (arith, new.at_is, ap (λ (x : List Object). length x) new.objects, set_count (old.objects ++ ArrayOf (replicate n values.Null) ∷ []) at 0 first, length-append old.objects (ArrayOf (replicate n values.Null) ∷ []))

pub newest_room : (old s1 : Contents) (at n m : ℕ) (first : List Value) → Newest old s1 at n first → m ≤ n → HasRoom s1.objects at m
newest_room old s1 at n m first new le =
    let nulls = old.objects ++ ArrayOf (replicate n values.Null) ∷ [] in
    let there : HasRoom nulls at m = rw (new.at_is, fields_end old.objects (replicate n values.Null)) (omega (arith, length-replicate n values.Null)) in
    subst (λ (x : List Object). HasRoom x at m) (sym new.objects) (set_room nulls at 0 m first there)

pub newest_front : (old s1 : Contents) (at n : ℕ) (first : List Value) → Newest old s1 at n first → take at s1.objects ≡ old.objects
newest_front old s1 at n first new =
    ap (take at) new.objects ∙ set_front (old.objects ++ ArrayOf (replicate n values.Null) ∷ []) at 0 first ∙ take_at old.objects (ArrayOf (replicate n values.Null) ∷ []) at (sym new.at_is)
