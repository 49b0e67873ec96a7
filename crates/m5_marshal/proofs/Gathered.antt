-- Contents read one after the other.
use Rattle.std.proofs.Common.{◌≡◌, ℕ, zero, suc, ◌+◌, ◌-◌, ◌<◌, ◌≤◌, Bool, true, false, cond, eqb, List, [], ◌∷◌, ◌++◌, length, map, take, drop, Option, Some, None, Result, Ok, Err, slice_get, refl, sym, ap, subst, ◌∙◌, append_assoc, append-nil, length-append, arith, inl, inr, pos, IsSomeAnd, IfOk}
use Rattle.std.proofs.lemmas.Bool.{cases_lt}
use Rattle.m5_region.specs.declared.value.Value.{Value}
use Rattle.m5_region.specs.declared.value.Value.TheVariants as values
use Rattle.m5_region.specs.Region.{Object, ArrayOf, TextOf, Contents, units_of, units_in, IsArray, IsText}
use Rattle.m5_dictionary.specs.declared.line.TypeLine.{TypeLine}
use Rattle.m5_dictionary.specs.declared.line.TypeLine.TheVariants as lines
use Rattle.m5_message.specs.declared.format.Format.{Format}
use Rattle.m5_dictionary.specs.Dictionaries.{Dictionaries, Entrance}
use Rattle.m5_message.specs.Numbers.{Read, ◌>>=◌, Gives, field, number, small_number}
use Rattle.m5_message.specs.Reading.{flag, seen, letters, values_at, Opening, Whole, Parts, side, cell_of_list, entered, with_rest, label_at, opening_of, opening_at, closing_at, content_at, contents_at}
use Rattle.m5_message.specs.Sharing.{shifted, shifted_object}
use Rattle.m5_marshal.specs.code.Adding.{rest_of, span, IsKind, Kinds, Extends, Added, AddedAll}
use Rattle.m5_marshal.proofs.Passing.{onto_object, rest_object}
use Rattle.m5_marshal.proofs.Arrays.{rest_ok}

some_is : {A : Type 0} (x y : A) → Some x ≡ Some y → x ≡ y
some_is x y e = cc

rest_err : {A : Type 0} (r : Read A) (e : ℕ) → rest_of r ≡ Err e → r ≡ Err e
rest_err (Ok y) e h = absurd (let bad : Ok y.1 ≡ Err e = h in cc)
rest_err (Err k) e h = let same : k ≡ e = cc in ap Err same

-- ---- spans

span_at : (ids : List ℕ) (own id k : ℕ) → slice_get ids own ≡ Some id → take (suc k) (drop own ids) ≡ id ∷ take k (drop (suc own) ids)
span_at [] own id k e = absurd (let none : None ≡ Some id = e in cc)
span_at (x ∷ ids) zero id k e = ap (λ (y : ℕ). y ∷ take k ids) (some_is x id e)
span_at (x ∷ ids) (suc own) id k e = span_at ids own id k e

pub span_next : (ids : List ℕ) (own until id : ℕ) → own < until → slice_get ids own ≡ Some id → span own until ids ≡ id ∷ span (own + 1) until ids
span_next ids own until id lt e =
    let n : until - own ≡ suc (until - suc own) = omega arith in
    ap (λ (k : ℕ). take k (drop own ids)) n
    ∙ span_at ids own id (until - suc own) e
    ∙ ap (λ (m : ℕ). id ∷ take (until - m) (drop m ids)) (let next : suc own ≡ own + 1 = omega arith in next)

nothing_taken : (xs : List ℕ) → take 0 xs ≡ []
nothing_taken xs = refl

pub span_end : (ids : List ℕ) (own until : ℕ) → until ≤ own → span own until ids ≡ []
span_end ids own until le = ap (λ (k : ℕ). take k (drop own ids)) (let n : until - own ≡ 0 = omega arith in n)

pub take_whole : (xs : List ℕ) (n : ℕ) → n ≡ length xs → take n xs ≡ xs
take_whole [] zero e = refl
take_whole [] (suc n) e = absurd (omega arith)
take_whole (x ∷ xs) zero e = absurd (omega arith)
take_whole (x ∷ xs) (suc n) e = ap (λ (l : List ℕ). x ∷ l) (take_whole xs n (omega arith))

pub span_whole : (ids : List ℕ) (count : ℕ) → count ≡ length ids → span 0 count ids ≡ ids
span_whole ids count e = take_whole ids (count - 0) (omega arith)

-- ---- one content and the others

pub contents_ok : (d : Dictionaries) (f : Format) (ids : List ℕ) (own id : ℕ) (others bytes : List ℕ) (o : Object) (after : List ℕ) → content_at d f ids own id bytes ≡ Ok (o, after) → contents_at d f ids own (id ∷ others) bytes ≡ onto_object o (contents_at d f ids (suc own) others after)
unfolding contents_at onto_object
contents_ok d f ids own id others bytes o after e = rw e refl

pub contents_err : (d : Dictionaries) (f : Format) (ids : List ℕ) (own id : ℕ) (others bytes : List ℕ) (k : ℕ) → content_at d f ids own id bytes ≡ Err k → contents_at d f ids own (id ∷ others) bytes ≡ Err k
unfolding contents_at
contents_err d f ids own id others bytes k e = rw e refl

pub contents_none : (d : Dictionaries) (f : Format) (ids : List ℕ) (own : ℕ) (others bytes : List ℕ) → others ≡ [] → contents_at d f ids own others bytes ≡ Ok ([], bytes)
unfolding contents_at
contents_none d f ids own others bytes e = rw e refl

pub span_ok : (d : Dictionaries) (f : Format) (ids : List ℕ) (own until id : ℕ) (bytes : List ℕ) (o : Object) (after : List ℕ) → own < until → slice_get ids own ≡ Some id → content_at d f ids own id bytes ≡ Ok (o, after) → contents_at d f ids own (span own until ids) bytes ≡ onto_object o (contents_at d f ids (own + 1) (span (own + 1) until ids) after)
span_ok d f ids own until id bytes o after lt there e =
    ap (λ (l : List ℕ). contents_at d f ids own l bytes) (span_next ids own until id lt there)
    ∙ contents_ok d f ids own id (span (own + 1) until ids) bytes o after e
    ∙ ap (λ (n : ℕ). onto_object o (contents_at d f ids n (span (own + 1) until ids) after)) (let next : suc own ≡ own + 1 = omega arith in next)

pub span_err : (d : Dictionaries) (f : Format) (ids : List ℕ) (own until id : ℕ) (bytes : List ℕ) (k : ℕ) → own < until → slice_get ids own ≡ Some id → content_at d f ids own id bytes ≡ Err k → contents_at d f ids own (span own until ids) bytes ≡ Err k
span_err d f ids own until id bytes k lt there e =
    ap (λ (l : List ℕ). contents_at d f ids own l bytes) (span_next ids own until id lt there) ∙ contents_err d f ids own id (span (own + 1) until ids) bytes k e

-- ---- passing

pub pass_next : (d : Dictionaries) (f : Format) (ids : List ℕ) (own until id : ℕ) (bytes after : List ℕ) → own < until → slice_get ids own ≡ Some id → rest_of (content_at d f ids own id bytes) ≡ Ok after → rest_of (contents_at d f ids own (span own until ids) bytes) ≡ rest_of (contents_at d f ids (own + 1) (span (own + 1) until ids) after)
pass_next d f ids own until id bytes after lt there e =
    let r = rest_ok (content_at d f ids own id bytes) after e in
    ap rest_of (span_ok d f ids own until id bytes r.0 after lt there r.1) ∙ rest_object r.0 (contents_at d f ids (own + 1) (span (own + 1) until ids) after)

pub pass_err : (d : Dictionaries) (f : Format) (ids : List ℕ) (own until id : ℕ) (bytes : List ℕ) (k : ℕ) → own < until → slice_get ids own ≡ Some id → rest_of (content_at d f ids own id bytes) ≡ Err k → rest_of (contents_at d f ids own (span own until ids) bytes) ≡ Err k
pass_err d f ids own until id bytes k lt there e = ap rest_of (span_err d f ids own until id bytes k lt there (rest_err (content_at d f ids own id bytes) k e))

pub pass_done : (d : Dictionaries) (f : Format) (ids : List ℕ) (own until : ℕ) (bytes : List ℕ) → until ≤ own → rest_of (contents_at d f ids own (span own until ids) bytes) ≡ Ok bytes
pass_done d f ids own until bytes le = ap rest_of (contents_none d f ids own (span own until ids) bytes (span_end ids own until le))

-- ---- an object that was read is of the kind of its type

abbrev HasParts : Opening → Type 0
HasParts (Whole bytes) = ⊥
HasParts (Parts first others) = Unit {0}

abbrev IsParts : Read Opening → Type 0
IsParts (Err k) = Unit {0}
IsParts (Ok x) = HasParts x.0

closing_array : (d : Dictionaries) (f : Format) (ids : List ℕ) (own base : ℕ) (p : Opening) (r : List ℕ) (x : Object × List ℕ) → HasParts p → closing_at d f ids own p r ≡ Ok x → IsArray (shifted_object base x.0)
closing_array d f ids own base (Whole bytes) r x h e = absurd h
closing_array d f ids own base (Parts first others) r x h e = by_values (values_at d f ids own others r) e
  where
    by_values : (vs : Read (List Value)) → (vs >>= λ y. Ok (ArrayOf (first ++ y.0), y.1)) ≡ Ok x → IsArray (shifted_object base x.0)
    by_values (Ok y) k = subst (λ (z : Object × List ℕ). IsArray (shifted_object base z.0)) (let same : (ArrayOf (first ++ y.0), y.1) ≡ x = cc in same) tt
    by_values (Err n) k = absurd (let bad : Err n ≡ Ok x = k in cc)

opened_array : (d : Dictionaries) (f : Format) (ids : List ℕ) (own base : ℕ) (o : Read Opening) (x : Object × List ℕ) → IsParts o → (o >>= λ p. closing_at d f ids own p.0 p.1) ≡ Ok x → IsArray (shifted_object base x.0)
opened_array d f ids own base (Ok p) x h e = closing_array d f ids own base p.0 p.1 x h e
opened_array d f ids own base (Err k) x h e = absurd (let bad : Err k ≡ Ok x = e in cc)

flag_parts : (g : Bool → Opening) (bytes : List ℕ) (m : Option (Bool × List ℕ)) → HasParts (g false) → HasParts (g true) → IsParts (field bytes (seen g m))
flag_parts g bytes None left right = tt
flag_parts g bytes (Some x) left right = by_flag x.0
  where
    by_flag : (b : Bool) → HasParts (g b)
    by_flag false = left
    by_flag true = right

label_parts : (d : Dictionaries) (i : ℕ) (bytes : List ℕ) (m : Option (ℕ × List ℕ)) → IsParts (field bytes (label_at d i m))
label_parts d i bytes None = tt
label_parts d i bytes (Some x) = by_label (slice_get d.labels x.0)
  where
    by_test : (b : Bool) (env : List ℕ) → IsParts (field bytes (with_rest (cond b (Some (Parts (values.Int (pos x.0) ∷ []) env)) None) x.1))
    by_test true env = tt
    by_test false env = tt

    by_label : (m : Option Entrance) → IsParts (field bytes (with_rest (entered i x.0 m) x.1))
    by_label None = tt
    by_label (Some e) = by_test (eqb e.argument i) e.environment

text_kind : (f : Format) (bytes : List ℕ) (d : Dictionaries) (ids : List ℕ) (own base : ℕ) (m : Option (ℕ × List ℕ)) (x : Object × List ℕ) → ((field bytes m >>= λ n. field n.1 (seen Whole (letters n.0 n.1))) >>= λ p. closing_at d f ids own p.0 p.1) ≡ Ok x → IsText (shifted_object base x.0)
text_kind f bytes d ids own base None x e = absurd (let bad : Err (length bytes) ≡ Ok x = e in cc)
text_kind f bytes d ids own base (Some n) x e = by_letters (letters n.0 n.1) e
  where
    by_letters : (m : Option (List ℕ × List ℕ)) → (field n.1 (seen Whole m) >>= λ p. closing_at d f ids own p.0 p.1) ≡ Ok x → IsText (shifted_object base x.0)
    by_letters None k = absurd (let bad : Err (length n.1) ≡ Ok x = k in cc)
    by_letters (Some y) k = subst (λ (z : Object × List ℕ). IsText (shifted_object base z.0)) (let same : (TextOf y.0, y.1) ≡ x = cc in same) tt

none_read : {A : Type 0} (k : ℕ) (x : A) → Err k ≡ Ok x → ⊥
none_read k x e = cc

line_kind : (d : Dictionaries) (f : Format) (ids : List ℕ) (own id base : ℕ) (line : Option TypeLine) (bytes : List ℕ) (x : Object × List ℕ) → (opening_of d f id line bytes >>= λ p. closing_at d f ids own p.0 p.1) ≡ Ok x → IsKind line (shifted_object base x.0)
line_kind d f ids own id base None bytes x e = none_read (length bytes) x e
line_kind d f ids own id base (Some lines.Unit) bytes x e = none_read (length bytes) x e
line_kind d f ids own id base (Some lines.Bool) bytes x e = none_read (length bytes) x e
line_kind d f ids own id base (Some lines.Int) bytes x e = none_read (length bytes) x e
line_kind d f ids own id base (Some lines.Cell) bytes x e = none_read (length bytes) x e
line_kind d f ids own id base (Some (lines.Addr w)) bytes x e = none_read (length bytes) x e
line_kind d f ids own id base (Some lines.Text) bytes x e = text_kind f bytes d ids own base (number f bytes) x e
line_kind d f ids own id base (Some (lines.Pair i j)) bytes x e = opened_array d f ids own base (opening_of d f id (Some (lines.Pair i j)) bytes) x tt e
line_kind d f ids own id base (Some (lines.Sum i j)) bytes x e = opened_array d f ids own base (opening_of d f id (Some (lines.Sum i j)) bytes) x (flag_parts (side i j) bytes (flag bytes) tt tt) e
line_kind d f ids own id base (Some (lines.List i)) bytes x e = opened_array d f ids own base (opening_of d f id (Some (lines.List i)) bytes) x (flag_parts (cell_of_list i id) bytes (flag bytes) tt tt) e
line_kind d f ids own id base (Some (lines.Fun i)) bytes x e = opened_array d f ids own base (opening_of d f id (Some (lines.Fun i)) bytes) x (label_parts d i bytes (small_number f bytes)) e

pub content_kind : (d : Dictionaries) (f : Format) (ids : List ℕ) (own id base : ℕ) (bytes : List ℕ) (x : Object × List ℕ) → content_at d f ids own id bytes ≡ Ok x → IsKind (slice_get d.types id) (shifted_object base x.0)
unfolding content_at opening_at
content_kind d f ids own id base bytes x e = line_kind d f ids own id base (slice_get d.types id) bytes x e

-- ---- kinds of one object more

front_get : {A : Type 0} (a b : List A) (k : ℕ) → k < length a → slice_get (a ++ b) k ≡ slice_get a k
front_get [] b k h = absurd (omega arith)
front_get (y ∷ a) b zero h = refl
front_get (y ∷ a) b (suc k) h = front_get a b k (omega arith)

end_get : {A : Type 0} (a : List A) (x : A) (k : ℕ) → k ≡ length a → slice_get (a ++ x ∷ []) k ≡ Some x
end_get [] x zero h = refl
end_get [] x (suc k) h = absurd (omega arith)
end_get (y ∷ a) x zero h = absurd (omega arith)
end_get (y ∷ a) x (suc k) h = end_get a x k (omega arith)

pub kinds_more : (d : Dictionaries) (ids : List ℕ) (base own id : ℕ) (os : List Object) (o : Object) → Kinds d ids base own os → slice_get ids own ≡ Some id → IsKind (slice_get d.types id) o → Kinds d ids base (own + 1) (os ++ o ∷ [])
kinds_more d ids base own id os o k there kind = record {
  count = omega (arith, length-append os (o ∷ []), k.count);
  kinds = λ j i lt e. elim (cases_lt j own) [
    | inl below ↦ subst (λ (m : Option Object). IsSomeAnd m (IsKind (slice_get d.types i))) (sym (front_get os (o ∷ []) (base + j) (omega (arith, k.count)))) (k.kinds j i below e)
    | inr le ↦ last j i (omega arith) e
  ];
}
  where
    last : (j i : ℕ) → j ≡ own → slice_get ids j ≡ Some i → IsSomeAnd (slice_get (os ++ o ∷ []) (base + j)) (IsKind (slice_get d.types i))
    last j i same e =
        let at_end : slice_get (os ++ o ∷ []) (base + j) ≡ Some o = end_get os o (base + j) (omega (arith, k.count)) in
        let is : id ≡ i = some_is id i (sym there ∙ ap (slice_get ids) (sym same) ∙ e) in
        subst (λ (m : Option Object). IsSomeAnd m (IsKind (slice_get d.types i))) (sym at_end) (subst (λ (n : ℕ). IsKind (slice_get d.types n) o) is kind)

-- ---- what the loop that adds keeps

unfoldable pub onto_objects : List Object → Read (List Object) → Read (List Object)
onto_objects front r = r >>= λ x. Ok (front ++ x.0, x.1)

onto_one : (front : List Object) (o : Object) (r : Read (List Object)) → onto_objects front (onto_object o r) ≡ onto_objects (front ++ o ∷ []) r
unfolding onto_objects onto_object
onto_one front o (Ok x) = ap (λ (os : List Object). Ok (os, x.1)) (sym (append_assoc front (o ∷ []) x.0))
onto_one front o (Err e) = refl

onto_nothing : (r : Read (List Object)) → r ≡ onto_objects [] r
unfolding onto_objects
onto_nothing (Ok x) = refl
onto_nothing (Err e) = refl

pub record Gathering (d : Dictionaries) (f : Format) (ids : List ℕ) (count : ℕ) (bytes : List ℕ) (old new : Contents) (own : ℕ) (rest : List ℕ) : Type 0 where
  pub got : List Object
  pub reads : contents_at d f ids 0 ids bytes ≡ onto_objects got (contents_at d f ids own (span own count ids) rest)
  pub objects : new.objects ≡ old.objects ++ map (shifted_object (length old.objects)) got
  pub left : new.left + units_in got ≡ old.left
  pub kinds : Kinds d ids (length old.objects) own new.objects

pub units_append : (a b : List Object) → units_in (a ++ b) ≡ units_in a + units_in b
units_append [] b = omega arith
units_append (o ∷ a) b = omega (arith, units_append a b)

pub shifted_units : (n : ℕ) (os : List Object) → units_in (map (shifted_object n) os) ≡ units_in os
shifted_units n [] = refl
shifted_units n (o ∷ os) = omega (arith, one o, shifted_units n os)
  where
    fields : (vs : List Value) → length (map (shifted n) vs) ≡ length vs
    fields [] = refl
    fields (v ∷ vs) = ap suc (fields vs)

    one : (o : Object) → units_of (shifted_object n o) ≡ units_of o
    one (ArrayOf vs) = ap (λ (k : ℕ). k + 1) (fields vs)
    one (TextOf bytes) = refl

map_end : (f : Object → Object) (a : List Object) (x : Object) → map f (a ++ x ∷ []) ≡ map f a ++ f x ∷ []
map_end f [] x = refl
map_end f (y ∷ a) x = ap (λ (t : List Object). f y ∷ t) (map_end f a x)

pub gather_none : (d : Dictionaries) (f : Format) (ids : List ℕ) (count : ℕ) (bytes : List ℕ) (old : Contents) → count ≡ length ids → Gathering d f ids count bytes old old 0 bytes
gather_none d f ids count bytes old e = record {
  got = [];
  reads = ap (λ (l : List ℕ). contents_at d f ids 0 l bytes) (sym (span_whole ids count e)) ∙ onto_nothing (contents_at d f ids 0 (span 0 count ids) bytes);
  objects = sym (append-nil old.objects);
  left = omega arith;
  kinds = record { count = omega arith; kinds = λ j i lt e. absurd (omega arith) };
}

-- the numbers of a message's objects begin behind the older objects
pub gather_base : (d : Dictionaries) (f : Format) (ids : List ℕ) (count : ℕ) (bytes : List ℕ) (old mid : Contents) (own : ℕ) (rest : List ℕ) → Gathering d f ids count bytes old mid own rest → length mid.objects - own ≡ length old.objects
gather_base d f ids count bytes old mid own rest g = omega (arith, g.kinds.count)

pub gather_more : (d : Dictionaries) (f : Format) (ids : List ℕ) (count : ℕ) (bytes : List ℕ) (old mid new : Contents) (own id : ℕ) (rest after : List ℕ) (o : Object) → Gathering d f ids count bytes old mid own rest → own < count → slice_get ids own ≡ Some id → content_at d f ids own id rest ≡ Ok (o, after) → new.objects ≡ mid.objects ++ shifted_object (length mid.objects - own) o ∷ [] → new.left + units_of o ≡ mid.left → Gathering d f ids count bytes old new (own + 1) after
gather_more d f ids count bytes old mid new own id rest after o g lt there read added units =
    let base = length old.objects in
    let here : new.objects ≡ mid.objects ++ shifted_object base o ∷ [] = added ∙ ap (λ (n : ℕ). mid.objects ++ shifted_object n o ∷ []) (gather_base d f ids count bytes old mid own rest g) in
    record {
      got = g.got ++ o ∷ [];
      reads = g.reads ∙ ap (onto_objects g.got) (span_ok d f ids own count id rest o after lt there read) ∙ onto_one g.got o (contents_at d f ids (own + 1) (span (own + 1) count ids) after);
      objects = here
          ∙ ap (λ (os : List Object). os ++ shifted_object base o ∷ []) g.objects
          ∙ append_assoc old.objects (map (shifted_object base) g.got) (shifted_object base o ∷ [])
          ∙ ap (λ (os : List Object). old.objects ++ os) (sym (map_end (shifted_object base) g.got o));
      left = omega (arith, units_append g.got (o ∷ []), g.left);
      kinds = subst (Kinds d ids base (own + 1)) (sym here) (kinds_more d ids base own id mid.objects (shifted_object base o) g.kinds there (content_kind d f ids own id base rest (o, after) read));
    }

pub gather_all : (d : Dictionaries) (f : Format) (ids : List ℕ) (count : ℕ) (bytes : List ℕ) (old new : Contents) (own : ℕ) (rest : List ℕ) → (g : Gathering d f ids count bytes old new own rest) → count ≤ own → contents_at d f ids 0 ids bytes ≡ Ok (g.got, rest)
unfolding onto_objects
gather_all d f ids count bytes old new own rest g le =
    g.reads ∙ ap (onto_objects g.got) (contents_none d f ids own (span own count ids) rest (span_end ids own count le)) ∙ ap (λ (os : List Object). Ok (os, rest)) (append-nil g.got)

pub gather_err : (d : Dictionaries) (f : Format) (ids : List ℕ) (count : ℕ) (bytes : List ℕ) (old new : Contents) (own : ℕ) (rest : List ℕ) (k : ℕ) → Gathering d f ids count bytes old new own rest → contents_at d f ids own (span own count ids) rest ≡ Err k → contents_at d f ids 0 ids bytes ≡ Err k
unfolding onto_objects
gather_err d f ids count bytes old new own rest k g e = g.reads ∙ ap (onto_objects g.got) e

-- some were added, and some more at the bad field
pub gather_extends : (d : Dictionaries) (f : Format) (ids : List ℕ) (count : ℕ) (bytes : List ℕ) (old mid new : Contents) (own : ℕ) (rest : List ℕ) (more : List Object) → Gathering d f ids count bytes old mid own rest → new.objects ≡ mid.objects ++ more → new.left + units_in more ≡ mid.left → Extends old new
gather_extends d f ids count bytes old mid new own rest more g added units =
    let front = map (shifted_object (length old.objects)) g.got in (
      front ++ more,
      added ∙ ap (λ (os : List Object). os ++ more) g.objects ∙ append_assoc old.objects front more,
      omega (arith, units_append front more, shifted_units (length old.objects) g.got, g.left),
    )

-- the object does not fit: the others were passed
pub record Full (d : Dictionaries) (f : Format) (ids bytes rest : List ℕ) (old : Contents) : Type 0 where
  pub objects : List Object
  pub read : contents_at d f ids 0 ids bytes ≡ Ok (objects, rest)
  pub full : old.left < units_in objects

pub gather_full : (d : Dictionaries) (f : Format) (ids : List ℕ) (count : ℕ) (bytes : List ℕ) (old mid : Contents) (own id : ℕ) (rest after end : List ℕ) (o : Object) → Gathering d f ids count bytes old mid own rest → own < count → slice_get ids own ≡ Some id → content_at d f ids own id rest ≡ Ok (o, after) → mid.left < units_of o → rest_of (contents_at d f ids (own + 1) (span (own + 1) count ids) after) ≡ Ok end → Full d f ids bytes end old
unfolding onto_objects onto_object
gather_full d f ids count bytes old mid own id rest after end o g lt there read units others =
    let r = rest_ok (contents_at d f ids (own + 1) (span (own + 1) count ids) after) end others in
    record {
      objects = g.got ++ o ∷ r.0;
      read = g.reads ∙ ap (onto_objects g.got) (span_ok d f ids own count id rest o after lt there read ∙ ap (onto_object o) r.1);
      full = omega (arith, units_append g.got (o ∷ r.0), g.left);
    }

pub gather_full_err : (d : Dictionaries) (f : Format) (ids : List ℕ) (count : ℕ) (bytes : List ℕ) (old mid : Contents) (own id : ℕ) (rest after : List ℕ) (o : Object) (k : ℕ) → Gathering d f ids count bytes old mid own rest → own < count → slice_get ids own ≡ Some id → content_at d f ids own id rest ≡ Ok (o, after) → rest_of (contents_at d f ids (own + 1) (span (own + 1) count ids) after) ≡ Err k → contents_at d f ids 0 ids bytes ≡ Err k
unfolding onto_object
gather_full_err d f ids count bytes old mid own id rest after o k g lt there read others =
    gather_err d f ids count bytes old mid own rest k g (span_ok d f ids own count id rest o after lt there read ∙ ap (onto_object o) (rest_err (contents_at d f ids (own + 1) (span (own + 1) count ids) after) k others))

-- behind an object that does not fit
pub others_passed : {R : Type 0} (view : R → List ℕ) (d : Dictionaries) (ids : List ℕ) (old new : Contents) (read : Read (List Object)) (others : Result (List ℕ) ℕ) (result : Result (R × Bool) ℕ) → Gives (λ x. view x.0) result others → IfOk result (λ x. x.1 ≡ false) → ((end : List ℕ) → others ≡ Ok end → (os : List Object) × (read ≡ Ok (os, end)) × (old.left < units_in os)) → ((k : ℕ) → others ≡ Err k → read ≡ Err k) → Extends old new → AddedAll view d ids old read result new
others_passed view d ids old new read others (Ok (r, true)) g f full bad some = absurd (let no_way : true ≡ false = f in cc)
others_passed view d ids old new read others (Ok (r, false)) g f full bad some = let x = full (view r) g in (x.0, x.1, x.2, some)
others_passed view d ids old new read others (Err k) g f full bad some = (bad k g, some)

-- what add_contents answers behind the first object that does not fit
pub gather_others : {R : Type 0} (view : R → List ℕ) (d : Dictionaries) (f : Format) (ids : List ℕ) (count : ℕ) (bytes : List ℕ) (old mid new : Contents) (own id : ℕ) (rest after : List ℕ) (o : Object) (result : Result (R × Bool) ℕ) → Gathering d f ids count bytes old mid own rest → own < count → slice_get ids own ≡ Some id → content_at d f ids own id rest ≡ Ok (o, after) → mid.left < units_of o → new ≡ mid →
    Gives (λ x. view x.0) result (rest_of (contents_at d f ids (own + 1) (span (own + 1) count ids) after)) → IfOk result (λ x. x.1 ≡ false) → AddedAll view d ids old (contents_at d f ids 0 ids bytes) result new
gather_others view d f ids count bytes old mid new own id rest after o result g lt there read units same is full =
    others_passed view d ids old new (contents_at d f ids 0 ids bytes) (rest_of (contents_at d f ids (own + 1) (span (own + 1) count ids) after)) result is full
    (λ end e. let x = gather_full d f ids count bytes old mid own id rest after end o g lt there read units e in (x.objects, x.read, x.full))
    (λ k e. gather_full_err d f ids count bytes old mid own id rest after o k g lt there read e)
    (gather_extends d f ids count bytes old mid new own rest [] g (ap (λ (c : Contents). c.objects) same ∙ sym (append-nil mid.objects)) (omega (arith, ap (λ (c : Contents). c.left) same)))

-- what is said of an answer whose truth value is known
pub added_when : {R : Type 0} (rest : R) (view : R → List ℕ) (old : Contents) (base : ℕ) (read : Read Object) (b t : Bool) (new : Contents) → b ≡ t → Added view old base read (Ok (rest, b)) new → Added view old base read (Ok (rest, t)) new
added_when rest view old base read b t new e h = subst (λ (x : Bool). Added view old base read (Ok (rest, x)) new) e h

pub all_when : {R : Type 0} (rest : R) (view : R → List ℕ) (d : Dictionaries) (ids : List ℕ) (old : Contents) (read : Read (List Object)) (b t : Bool) (new : Contents) → b ≡ t → AddedAll view d ids old read (Ok (rest, b)) new → AddedAll view d ids old read (Ok (rest, t)) new
all_when rest view d ids old read b t new e h = subst (λ (x : Bool). AddedAll view d ids old read (Ok (rest, x)) new) e h
