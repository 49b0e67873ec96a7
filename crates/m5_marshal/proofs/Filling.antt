-- ArrayOf that are read into the newest array of a region.
use Rattle.std.proofs.Common.{◌≡◌, ℕ, zero, suc, ◌+◌, ◌-◌, ◌<◌, ◌≤◌, Bool, true, false, cond, ltb, List, [], ◌∷◌, ◌++◌, length, map, take, Option, Some, None, Ok, Err, slice_get, refl, sym, ap, subst, ◌∙◌, append_assoc, append-nil, arith, IsSome, IsSomeAnd, pos}
use Rattle.std.specs.Prelude.{slice_set, nat_lt}
use Rattle.std.specs.Int.{w32, w64, cast_signed}
use Rattle.std.proofs.lemmas.Bool.{ltb-true, ltb-false, eqb-true}
use Rattle.std.proofs.lemmas.List.{map_push, length-map}
use Rattle.m5_region.specs.declared.value.Value.{Value}
use Rattle.m5_region.specs.declared.value.Value.TheVariants as values
use Rattle.m5_region.specs.Region.{Object, ArrayOf, TextOf, Contents, Refers, fields_of, field_of, place_in, objects_with_field}
use Rattle.m5_dictionary.specs.declared.line.TypeLine.{TypeLine}
use Rattle.m5_dictionary.specs.declared.line.TypeLine.TheVariants as lines
use Rattle.m5_message.specs.declared.format.Format.{Format}
use Rattle.m5_message.specs.declared.format.Format.TheVariants.{First, Second}
use Rattle.m5_dictionary.specs.Dictionaries.{Dictionaries, code_of_world}
use Rattle.m5_message.specs.Numbers.{Read, ◌>>=◌, field, where_ok, back_from, wide, short, number, older}
use Rattle.m5_message.specs.Packing.{target}
use Rattle.m5_message.specs.Reading.{flag, seen, reference, has_id, reference_at, value_of_line, value_at}
use Rattle.m5_marshal.specs.code.Adding.{IsKind, Kinds, set_fields, FillsTo}
use Rattle.m5_message.specs.Sharing.{shifted}
use Rattle.m5_marshal.proofs.Passing.{onto_value}

-- ---- a value that was read can be placed

some_is : {A : Type 0} (x y : A) → Some x ≡ Some y → x ≡ y
some_is x y e = cc

field_ok : {A : Type 0} (bytes : List ℕ) (o : Option (A × List ℕ)) (x : A × List ℕ) → field bytes o ≡ Ok x → o ≡ Some x
field_ok bytes None x e = absurd cc
field_ok bytes (Some y) x e = let same : y ≡ x = cc in ap Some same

seen_ok : {A B : Type 0} (g : A → B) (o : Option (A × List ℕ)) (x : B × List ℕ) → seen g o ≡ Some x → (a : A) × (o ≡ Some (a, x.1)) × (x.0 ≡ g a)
seen_ok g None x e = absurd (let none : None ≡ Some x = e in cc)
seen_ok g (Some y) x e = let same : (g y.0, y.1) ≡ x = some_is _ _ e in (y.0, ap (λ (r : List ℕ). Some (y.0, r)) (ap (λ p. p.1) same), sym (ap (λ p. p.0) same))

where_ok_ok : (p : ℕ → Bool) (o : Option (ℕ × List ℕ)) (x : ℕ × List ℕ) → where_ok p o ≡ Some x → (o ≡ Some x) × (p x.0 ≡ true)
where_ok_ok p None x e = absurd (let none : None ≡ Some x = e in cc)
where_ok_ok p (Some y) x e = by_test (p y.0) refl e
  where
    by_test : (b : Bool) → p y.0 ≡ b → cond b (Some y) None ≡ Some x → (Some y ≡ Some x) × (p x.0 ≡ true)
    by_test true h k = (k, subst (λ z. p z.0 ≡ true) (some_is y x k) h)
    by_test false h k = absurd (let none : None ≡ Some x = k in cc)

has_id_is : (o : Option ℕ) (id : ℕ) → has_id o id ≡ true → o ≡ Some id
has_id_is None id e = absurd cc
has_id_is (Some i) id e = ap Some (eqb-true i id e)

back_below : (own : ℕ) (o : Option (ℕ × List ℕ)) (x : ℕ × List ℕ) → back_from own o ≡ Some x → x.0 < own
back_below own None x e = absurd (let none : None ≡ Some x = e in cc)
back_below own (Some y) x e = by_tests (ltb y.0 1) refl (ltb own y.0) refl e
  where
    by_tests : (a : Bool) → ltb y.0 1 ≡ a → (b : Bool) → ltb own y.0 ≡ b → cond a None (cond b None (Some (own - y.0, y.1))) ≡ Some x → x.0 < own
    by_tests true p b q k = absurd (let none : None ≡ Some x = k in cc)
    by_tests false p true q k = absurd (let none : None ≡ Some x = k in cc)
    by_tests false p false q k =
        let is : own - y.0 ≡ x.0 = ap (λ z. z.0) (some_is (own - y.0, y.1) x k) in
        let some = ltb-false y.0 1 p in let within = ltb-false own y.0 q in
        omega arith

pub older_below : (f : Format) (own : ℕ) (bytes : List ℕ) (x : ℕ × List ℕ) → older f own bytes ≡ Some x → x.0 < own
older_below First own bytes x e = ltb-true x.0 own (where_ok_ok (λ j. nat_lt j own) (wide w32 bytes) x e).1
older_below Second own bytes x e = back_below own (short bytes) x e

pub record Placed (base : ℕ) (front : List Object) (v : Value) : Type 0 where
  pub refers : Refers front (shifted base v)
  pub within : base + target v ≤ length front

plain_placed : (base : ℕ) (front : List Object) (v w : Value) → v ≡ w → Placed base front w → Placed base front v
plain_placed base front v w e p = subst (Placed base front) (sym e) p

abbrev InKind : Dictionaries → ℕ → ℕ → List Object → TypeLine → Type 0
InKind d base j front line = IsSomeAnd (slice_get front (base + j)) (IsKind (Some line))

reference_found : (d : Dictionaries) (f : Format) (ids : List ℕ) (own id base : ℕ) (front : List Object) (line : TypeLine) (bytes : List ℕ) (x : Value × List ℕ) → Kinds d ids base own front → slice_get d.types id ≡ Some line → reference_at f ids own id line bytes ≡ Some x → (j : ℕ) × (x.0 ≡ reference line j) × (base + j ≤ length front) × InKind d base j front line
reference_found d f ids own id base front line bytes x k is e =
    let s = seen_ok (reference line) (where_ok (λ j. has_id (slice_get ids j) id) (older f own bytes)) x e in
    let w = where_ok_ok (λ j. has_id (slice_get ids j) id) (older f own bytes) (s.0, x.1) s.1 in
    let below = older_below f own bytes (s.0, x.1) w.0 in
    let there = has_id_is (slice_get ids s.0) id w.1 in
    (s.0, s.2, omega (arith, k.count), subst (λ (l : Option TypeLine). IsSomeAnd (slice_get front (base + s.0)) (IsKind l)) is (k.kinds s.0 id below there))

line_placed : (d : Dictionaries) (f : Format) (ids : List ℕ) (own id base : ℕ) (front : List Object) (line : Option TypeLine) (bytes : List ℕ) (x : Value × List ℕ) → Kinds d ids base own front → slice_get d.types id ≡ line → value_of_line f ids own id line bytes ≡ Some x → Placed base front x.0
line_placed d f ids own id base front None bytes x k is e = absurd (let none : None ≡ Some x = e in cc)
line_placed d f ids own id base front (Some lines.Unit) bytes x k is e = plain_placed base front x.0 _ (sym (ap (λ y. y.0) (some_is (values.Null, bytes) x e))) (record { refers = tt; within = omega (arith, k.count) })
line_placed d f ids own id base front (Some lines.Bool) bytes x k is e = plain_placed base front x.0 _ (seen_ok values.Bool (flag bytes) x e).2 (record { refers = tt; within = omega (arith, k.count) })
line_placed d f ids own id base front (Some lines.Int) bytes x k is e = plain_placed base front x.0 _ (seen_ok (λ n. values.Int (cast_signed w64 n)) (wide w64 bytes) x e).2 (record { refers = tt; within = omega (arith, k.count) })
line_placed d f ids own id base front (Some lines.Cell) bytes x k is e = plain_placed base front x.0 _ (seen_ok (λ n. values.Int (pos n)) (where_ok (λ n. nat_lt n 4096) (number f bytes)) x e).2 (record { refers = tt; within = omega (arith, k.count) })
line_placed d f ids own id base front (Some (lines.Addr w)) bytes x k is e = plain_placed base front x.0 _ (sym (ap (λ y. y.0) (some_is (values.Int (pos (code_of_world w)), bytes) x e))) (record { refers = tt; within = omega (arith, k.count) })
line_placed d f ids own id base front (Some lines.Text) bytes x k is e =
    let r = reference_found d f ids own id base front lines.Text bytes x k is e in plain_placed base front x.0 _ r.1 (record { refers = r.3; within = r.2 })
line_placed d f ids own id base front (Some (lines.Pair i j)) bytes x k is e =
    let r = reference_found d f ids own id base front (lines.Pair i j) bytes x k is e in plain_placed base front x.0 _ r.1 (record { refers = r.3; within = r.2 })
line_placed d f ids own id base front (Some (lines.Sum i j)) bytes x k is e =
    let r = reference_found d f ids own id base front (lines.Sum i j) bytes x k is e in plain_placed base front x.0 _ r.1 (record { refers = r.3; within = r.2 })
line_placed d f ids own id base front (Some (lines.List i)) bytes x k is e =
    let r = reference_found d f ids own id base front (lines.List i) bytes x k is e in plain_placed base front x.0 _ r.1 (record { refers = r.3; within = r.2 })
line_placed d f ids own id base front (Some (lines.Fun i)) bytes x k is e =
    let r = reference_found d f ids own id base front (lines.Fun i) bytes x k is e in plain_placed base front x.0 _ r.1 (record { refers = r.3; within = r.2 })

pub value_placed : (d : Dictionaries) (f : Format) (ids : List ℕ) (own id base : ℕ) (front : List Object) (bytes : List ℕ) (x : Value × List ℕ) → Kinds d ids base own front → value_at d f ids own id bytes ≡ Ok x → Placed base front x.0
unfolding value_at
value_placed d f ids own id base front bytes x k e = line_placed d f ids own id base front (slice_get d.types id) bytes x k refl (field_ok bytes (value_of_line f ids own id (slice_get d.types id) bytes) x e)

-- ---- fields that are set

filled_front : (os : List Object) (at place : ℕ) (v : Value) → take at (objects_with_field os at place v) ≡ take at os
filled_front [] at place v = refl
filled_front (o ∷ os) zero place v = refl
filled_front (o ∷ os) (suc at) place v = ap (λ (x : List Object). o ∷ x) (filled_front os at place v)

filled_length : (os : List Object) (at place : ℕ) (v : Value) → length (objects_with_field os at place v) ≡ length os
filled_length [] at place v = refl
filled_length (o ∷ os) zero place v = refl
filled_length (o ∷ os) (suc at) place v = ap suc (filled_length os at place v)

set_length : (vs : List Value) (place : ℕ) (v : Value) → length (slice_set vs place v) ≡ length vs
set_length [] place v = refl
set_length (w ∷ vs) zero v = refl
set_length (w ∷ vs) (suc place) v = ap suc (set_length vs place v)

abbrev pub HasRoom : List Object → ℕ → ℕ → Type 0
HasRoom os at n = IsSomeAnd (fields_of os at) (λ fs. n ≤ length fs)

filled_room : (os : List Object) (at place n : ℕ) (v : Value) → HasRoom os at n → HasRoom (objects_with_field os at place v) at n
filled_room [] at place n v h = absurd h
filled_room (ArrayOf vs ∷ os) zero place n v h = rw (set_length vs place v) h
filled_room (TextOf bytes ∷ os) zero place n v h = absurd h
filled_room (o ∷ os) (suc at) place n v h = filled_room os at place n v h

pub set_front : (os : List Object) (at from : ℕ) (vs : List Value) → take at (set_fields os at from vs) ≡ take at os
unfolding set_fields
set_front os at from [] = refl
set_front os at from (v ∷ vs) = set_front (objects_with_field os at from v) at (suc from) vs ∙ filled_front os at from v

pub set_count : (os : List Object) (at from : ℕ) (vs : List Value) → length (set_fields os at from vs) ≡ length os
unfolding set_fields
set_count os at from [] = refl
set_count os at from (v ∷ vs) = set_count (objects_with_field os at from v) at (suc from) vs ∙ filled_length os at from v

pub set_room : (os : List Object) (at from n : ℕ) (vs : List Value) → HasRoom os at n → HasRoom (set_fields os at from vs) at n
unfolding set_fields
set_room os at from n [] h = h
set_room os at from n (v ∷ vs) h = set_room (objects_with_field os at from v) at (suc from) n vs (filled_room os at from n v h)

pub set_more : (os : List Object) (at from : ℕ) (vs : List Value) (v : Value) → set_fields os at from (vs ++ v ∷ []) ≡ objects_with_field (set_fields os at from vs) at (from + length vs) v
unfolding set_fields
set_more os at from [] v = ap (λ (n : ℕ). objects_with_field os at n v) (omega arith)
set_more os at from (w ∷ vs) v = set_more (objects_with_field os at from w) at (suc from) vs v ∙ ap (λ (n : ℕ). objects_with_field (set_fields (objects_with_field os at from w) at (suc from) vs) at n v) (omega arith)

within_some : (vs : List Value) (place : ℕ) → place < length vs → IsSome (slice_get vs place)
within_some [] place h = absurd (omega arith)
within_some (v ∷ vs) zero h = refl
within_some (v ∷ vs) (suc place) h = within_some vs place (omega arith)

pub room_there : (os : List Object) (at n place : ℕ) → HasRoom os at n → place < n → IsSome (field_of os at place)
room_there os at n place h lt = by_fields (fields_of os at) h
  where
    by_fields : (o : Option (List Value)) → IsSomeAnd o (λ fs. n ≤ length fs) → IsSome (place_in o place)
    by_fields None k = absurd k
    by_fields (Some fs) k = within_some fs place (omega arith)

-- what was read before, and what is still read
unfoldable pub onto_all : List Value → Read (List Value) → Read (List Value)
onto_all front r = r >>= λ x. Ok (front ++ x.0, x.1)

pub onto_more : (front : List Value) (v : Value) (r : Read (List Value)) → onto_all front (onto_value v r) ≡ onto_all (front ++ v ∷ []) r
unfolding onto_all onto_value
onto_more front v (Ok x) = ap (λ (vs : List Value). Ok (vs, x.1)) (sym (append_assoc front (v ∷ []) x.0))
onto_more front v (Err e) = refl

pub onto_none : (r : Read (List Value)) → onto_all [] r ≡ r
unfolding onto_all
onto_none (Ok x) = refl
onto_none (Err e) = refl

pub onto_err : (front : List Value) (r : Read (List Value)) (e : ℕ) → r ≡ Err e → onto_all front r ≡ Err e
unfolding onto_all
onto_err front r e h = rw h refl

pub onto_end : (front : List Value) (r : Read (List Value)) (rest : List ℕ) → r ≡ Ok ([], rest) → onto_all front r ≡ Ok (front, rest)
unfolding onto_all
onto_end front r rest h = rw h (ap (λ (vs : List Value). Ok (vs, rest)) (append-nil front))

-- what a loop over the fields keeps
pub record Filling (old new : Contents) (at from base place : ℕ) (whole : Read (List Value)) (left : Read (List Value)) : Type 0 where
  pub got : List Value
  pub count : length got ≡ place
  pub reads : whole ≡ onto_all got left
  pub region : FillsTo old at from (map (shifted base) got) new

pub fills_more : (old mid : Contents) (at from base place : ℕ) (got : List Value) (v w : Value) → FillsTo old at from (map (shifted base) got) mid → length got ≡ place → w ≡ shifted base v → FillsTo old at from (map (shifted base) (got ++ v ∷ [])) (record { objects = objects_with_field mid.objects at (from + place) w; left = mid.left })
fills_more old mid at from base place got v w h len is =
    let all = map (shifted base) got in
    let objects : objects_with_field mid.objects at (from + place) w ≡ set_fields old.objects at from (map (shifted base) (got ++ v ∷ [])) =
    ap (λ (x : Contents). objects_with_field x.objects at (from + place) w) h
    ∙ ap (λ (x : Value). objects_with_field (set_fields old.objects at from all) at (from + place) x) is
    ∙ ap (λ (n : ℕ). objects_with_field (set_fields old.objects at from all) at n (shifted base v)) (omega (arith, len, length-map got (shifted base)))
    ∙ sym (set_more old.objects at from all (shifted base v))
    ∙ ap (set_fields old.objects at from) (sym (map_push (shifted base) got v)) in
    ap (λ (os : List Object). record { objects = os; left = mid.left }) objects ∙ ap (λ (n : ℕ). record { objects = set_fields old.objects at from (map (shifted base) (got ++ v ∷ [])); left = n }) (ap (λ (x : Contents). x.left) h)

pub filled_refers : (old mid : Contents) (at from base : ℕ) (vs : List Value) (v w : Value) → FillsTo old at from vs mid → w ≡ shifted base v → Refers (take at old.objects) (shifted base v) → Refers (take at mid.objects) w
filled_refers old mid at from base vs v w h is r =
    let front : take at mid.objects ≡ take at old.objects = ap (λ (x : Contents). take at x.objects) h ∙ set_front old.objects at from vs in
    rw (front, is) r

pub filled_is : (mid new : Contents) (at place : ℕ) (v : Value) → new.objects ≡ objects_with_field mid.objects at place v → new.left ≡ mid.left → new ≡ record { objects = objects_with_field mid.objects at place v; left = mid.left }
filled_is mid new at place v objects left =
    ap (λ (os : List Object). record { objects = os; left = new.left }) objects ∙ ap (λ (n : ℕ). record { objects = objects_with_field mid.objects at place v; left = n }) left
