-- What is spelled is read again, whatever follows it.
use Rattle.std.proofs.Common.{◌≡◌, ℕ, zero, suc, ◌+◌, ◌-◌, ◌*◌, ◌/◌, ◌%◌, ◌<◌, ◌≤◌, ◌^◌, Bool, true, false, cond, ltb, eqb, List, [], ◌∷◌, ◌++◌, length, Option, Some, None, Ok, slice_get, refl, sym, ap, subst, ◌∙◌, append_assoc, append-nil, length-append, arith, inl, inr, ℤ, pos}
use Rattle.std.specs.Prelude.{IsTrue, FitsSigned, nat_eq}
use Rattle.std.specs.List.{list_all, starts_with}
use Rattle.std.specs.Int.{w32, w64, to_be_bytes, cast_signed, cast_unsigned}
use Rattle.std.proofs.lemmas.Bool.{cases_lt, lt-ltb, le-ltb, eq-eqb, ne_eqb}
use Rattle.std.proofs.lemmas.Nat.{from_be_bytes-to_be_bytes_4, from_be_bytes-to_be_bytes_8}
use Rattle.std.proofs.lemmas.Int.{to_z-of_z, ints}
use Rattle.std.proofs.lemmas.List.{take_at, drop_at}
use Rattle.std.proofs.lemmas.Option.{slice_get_within}
use Rattle.m5_region.specs.declared.value.Value.{Value}
use Rattle.m5_region.specs.declared.value.Value.TheVariants as values
use Rattle.m5_region.specs.Units.{number_of}
use Rattle.m5_region.specs.Region.{Object, ArrayOf, TextOf}
use Rattle.m5_terms.specs.declared.types.World.{World}
use Rattle.m5_dictionary.specs.declared.line.TypeLine.{TypeLine}
use Rattle.m5_dictionary.specs.declared.line.TypeLine.TheVariants as lines
use Rattle.m5_message.specs.declared.format.Format.TheVariants.{Second}
use Rattle.m5_terms.specs.Text.{text_byte}
use Rattle.m5_dictionary.specs.Dictionaries.{Dictionaries, Entrance}
use Rattle.m5_message.specs.Numbers.{field, where_ok, wide, onto, groups, short, older}
use Rattle.m5_message.specs.Reading.{seen, reference, has_id, reference_at, value_of_line, value_at, values_at, Opening, Whole, Parts, side, cell_of_list, entered, opening_of, opening_at, closing_at, content_at, contents_at, is_object_line, ids_at}
use Rattle.m5_message.specs.Message.{Message, body_at, version_at, message_at}
use Rattle.m5_message.specs.Spelling.{groups_of, short_of, value_bytes, values_bytes, opening_bytes, opening_in, closing_bytes, opened_bytes, content_bytes, contents_bytes, ids_bytes, body_bytes, message_bytes, Older, IsOf, AreOf, Closes, IsObjectOf, AreObjectsOf, AreIds, IsMessage}

-- ---- numbers

pow : ℕ → ℕ
pow zero = 1
pow (suc k) = 128 * pow k

one_group : (n : ℕ) (x y : List ℕ) → n < 128 → cond (ltb n 128) x y ≡ x
one_group n x y h = rw (lt-ltb n 128 h) refl

more_groups : (n : ℕ) (x y : List ℕ) → 128 ≤ n → cond (ltb n 128) x y ≡ y
more_groups n x y h = rw (le-ltb n 128 h) refl

onto_again : (n : ℕ) (rest : List ℕ) → 128 ≤ n → n < 2 ^ 32 → onto (n % 128 + 128) (Some (n / 128, rest)) ≡ Some (n, rest)
onto_again n rest h small =
    let some : eqb (n / 128) 0 ≡ false = ne_eqb (n / 128) 0 (λ (e : n / 128 ≡ 0). omega arith) in
    let below : ltb (n / 128) (2 ^ 25) ≡ true = lt-ltb (n / 128) (2 ^ 25) (omega arith) in
    let whole : n % 128 + 128 - 128 + 128 * (n / 128) ≡ n = omega arith in
    rw (some, below, whole) refl

groups_again : (k n : ℕ) (rest : List ℕ) → n < 128 * pow k → n < 2 ^ 32 → groups (suc k) (groups_of (suc k) n ++ rest) ≡ Some (n, rest)
unfolding groups groups_of pow
groups_again zero n rest h small = rw (lt-ltb n 128 (omega arith), lt-ltb n 128 (omega arith)) refl
groups_again (suc k) n rest h small =
    elim (cases_lt n 128) [
      | inl lt ↦ rw (lt-ltb n 128 lt, lt-ltb n 128 lt) refl
      | inr le ↦
          let again = groups_again k (n / 128) rest (omega arith) (omega arith) in
          let high : ltb (n % 128 + 128) 128 ≡ false = le-ltb (n % 128 + 128) 128 (omega arith) in
          rw (le-ltb n 128 le, high) (ap (onto (n % 128 + 128)) again ∙ onto_again n rest le small)
    ]

pub short_again : (n : ℕ) (rest : List ℕ) → n < 2 ^ 32 → short (short_of n ++ rest) ≡ Some (n, rest)
unfolding short short_of pow
short_again n rest h = groups_again 4 n rest (omega arith) h

pub older_again : (own j : ℕ) (rest : List ℕ) → j < own → own < 2 ^ 32 → older Second own (short_of (own - j) ++ rest) ≡ Some (j, rest)
older_again own j rest h small =
    let again = short_again (own - j) rest (omega arith) in
    let some : ltb (own - j) 1 ≡ false = le-ltb (own - j) 1 (omega arith) in
    let within : ltb own (own - j) ≡ false = le-ltb own (own - j) (omega arith) in
    let back : own - (own - j) ≡ j = omega arith in
    rw (again, some, within, back) refl

pub wide64_again : (n : ℕ) (rest : List ℕ) → n < 2 ^ 64 → wide w64 (to_be_bytes w64 n ++ rest) ≡ Some (n, rest)
wide64_again n rest h =
    let long : ltb (length (to_be_bytes w64 n ++ rest)) 8 ≡ false = le-ltb _ _ (omega (arith, length-append (to_be_bytes w64 n) rest)) in
    rw long (ap (λ (k : ℕ). Some (k, rest)) (from_be_bytes-to_be_bytes_8 n h))

pub wide32_again : (n : ℕ) (rest : List ℕ) → n < 2 ^ 32 → wide w32 (to_be_bytes w32 n ++ rest) ≡ Some (n, rest)
wide32_again n rest h =
    let long : ltb (length (to_be_bytes w32 n ++ rest)) 4 ≡ false = le-ltb _ _ (omega (arith, length-append (to_be_bytes w32 n) rest)) in
    rw long (ap (λ (k : ℕ). Some (k, rest)) (from_be_bytes-to_be_bytes_4 n h))

-- ---- values

abbrev ValueAgain : List ℕ → ℕ → ℕ → Option TypeLine → Value → List ℕ → Type 0
ValueAgain ids own id line v rest = value_of_line Second ids own id line (value_bytes own line v ++ rest) ≡ Some (v, rest)

reference_again : (ids : List ℕ) (own id : ℕ) (line : TypeLine) (j : ℕ) (rest : List ℕ) → own < 2 ^ 32 → j < own → slice_get ids j ≡ Some id → reference_at Second ids own id line (short_of (own - j) ++ rest) ≡ Some (reference line j, rest)
reference_again ids own id line j rest small h there =
    ap (λ (x : Option (ℕ × List ℕ)). seen (reference line) (where_ok (λ j. has_id (slice_get ids j) id) x)) (older_again own j rest h small)
    ∙ rw (there, eq-eqb id id refl) refl

int_again : (ids : List ℕ) (own id : ℕ) (n : ℤ) (rest : List ℕ) → FitsSigned w64 n → ValueAgain ids own id (Some lines.Int) (values.Int n) rest
int_again ids own id n rest fits =
    ap (seen (λ m. values.Int (cast_signed w64 m))) (wide64_again (cast_unsigned w64 n) rest (omega (arith, ints)))
    ∙ ap (λ (z : ℤ). Some (values.Int z, rest)) (to_z-of_z w64 n fits)

cell_again : (ids : List ℕ) (own id n : ℕ) (rest : List ℕ) → n < 4096 → ValueAgain ids own id (Some lines.Cell) (values.Int (pos n)) rest
cell_again ids own id n rest small =
    let is : number_of (values.Int (pos n)) ≡ n = omega (arith, ints) in
    ap (λ (k : ℕ). value_of_line Second ids own id (Some lines.Cell) (short_of k ++ rest)) is
    ∙ rw (short_again n rest (omega arith), lt-ltb n 4096 small) refl

bool_again : (ids : List ℕ) (own id : ℕ) (b : Bool) (rest : List ℕ) → ValueAgain ids own id (Some lines.Bool) (values.Bool b) rest
bool_again ids own id false rest = refl
bool_again ids own id true rest = refl

value_again : (ids : List ℕ) (own id : ℕ) (line : Option TypeLine) (v : Value) (rest : List ℕ) → own < 2 ^ 32 → IsOf (Older ids own) id line v → ValueAgain ids own id line v rest
value_again ids own id None v rest small h = absurd h
value_again ids own id (Some lines.Unit) v rest small h = ap (λ (w : Value). Some (w, rest)) (sym h)
value_again ids own id (Some lines.Bool) v rest small h = subst (λ (w : Value). ValueAgain ids own id (Some lines.Bool) w rest) (sym h.1) (bool_again ids own id h.0 rest)
value_again ids own id (Some lines.Int) v rest small h = subst (λ (w : Value). ValueAgain ids own id (Some lines.Int) w rest) (sym h.2) (int_again ids own id h.0 rest h.1)
value_again ids own id (Some lines.Cell) v rest small h = subst (λ (w : Value). ValueAgain ids own id (Some lines.Cell) w rest) (sym h.2) (cell_again ids own id h.0 rest h.1)
value_again ids own id (Some (lines.Addr a)) v rest small h = ap (λ (w : Value). Some (w, rest)) (sym h)
value_again ids own id (Some lines.Text) v rest small h = subst (λ (w : Value). ValueAgain ids own id (Some lines.Text) w rest) (sym h.2) (reference_again ids own id lines.Text h.0 rest small h.1.0 h.1.1)
value_again ids own id (Some (lines.Pair i j)) v rest small h = subst (λ (w : Value). ValueAgain ids own id (Some (lines.Pair i j)) w rest) (sym h.2) (reference_again ids own id (lines.Pair i j) h.0 rest small h.1.0 h.1.1)
value_again ids own id (Some (lines.Sum i j)) v rest small h = subst (λ (w : Value). ValueAgain ids own id (Some (lines.Sum i j)) w rest) (sym h.2) (reference_again ids own id (lines.Sum i j) h.0 rest small h.1.0 h.1.1)
value_again ids own id (Some (lines.List i)) v rest small h = subst (λ (w : Value). ValueAgain ids own id (Some (lines.List i)) w rest) (sym h.2) (reference_again ids own id (lines.List i) h.0 rest small h.1.0 h.1.1)
value_again ids own id (Some (lines.Fun i)) v rest small h = subst (λ (w : Value). ValueAgain ids own id (Some (lines.Fun i)) w rest) (sym h.2) (reference_again ids own id (lines.Fun i) h.0 rest small h.1.0 h.1.1)

pub value_at_again : (d : Dictionaries) (ids : List ℕ) (own id : ℕ) (v : Value) (rest : List ℕ) → own < 2 ^ 32 → IsOf (Older ids own) id (slice_get d.types id) v → value_at d Second ids own id (value_bytes own (slice_get d.types id) v ++ rest) ≡ Ok (v, rest)
unfolding value_at
value_at_again d ids own id v rest small h = ap (field (value_bytes own (slice_get d.types id) v ++ rest)) (value_again ids own id (slice_get d.types id) v rest small h)

pub values_again : (d : Dictionaries) (ids : List ℕ) (own : ℕ) (others : List ℕ) (vs : List Value) (rest : List ℕ) → own < 2 ^ 32 → AreOf d (Older ids own) others vs → values_at d Second ids own others (values_bytes d own others vs ++ rest) ≡ Ok (vs, rest)
unfolding values_at values_bytes AreOf
values_again d ids own [] [] rest small h = refl
values_again d ids own [] (v ∷ vs) rest small h = absurd h
values_again d ids own (id ∷ others) [] rest small h = absurd h
values_again d ids own (id ∷ others) (v ∷ vs) rest small h =
    ap (values_at d Second ids own (id ∷ others)) (append_assoc (value_bytes own (slice_get d.types id) v) (values_bytes d own others vs) rest)
    ∙ rw (value_at_again d ids own id v (values_bytes d own others vs ++ rest) small h.0, values_again d ids own others vs rest small h.1) refl

-- ---- contents

entered_first : (i l : ℕ) (m : Option Entrance) (p : Opening) → entered i l m ≡ Some p → opening_bytes p ≡ short_of (number_of (values.Int (pos l)))
entered_first i l None p e = absurd (let none : None ≡ Some p = e in cc)
entered_first i l (Some ent) p e = chosen (eqb ent.argument i) e
  where
    chosen : (b : Bool) → cond b (Some (Parts (values.Int (pos l) ∷ []) ent.environment)) None ≡ Some p → opening_bytes p ≡ short_of (number_of (values.Int (pos l)))
    chosen false q = absurd (let none : None ≡ Some p = q in cc)
    chosen true q = let same : Parts (values.Int (pos l) ∷ []) ent.environment ≡ p = cc in subst (λ (x : Opening). opening_bytes x ≡ short_of (number_of (values.Int (pos l)))) same refl

entered_within : (labels : List Entrance) (i l : ℕ) (m : Option Entrance) (p : Opening) → slice_get labels l ≡ m → entered i l m ≡ Some p → l < length labels
entered_within labels i l None p e q = absurd (let none : None ≡ Some p = q in cc)
entered_within labels i l (Some ent) p e q = slice_get_within labels l ent e

abbrev OpeningAgain : Dictionaries → ℕ → Option TypeLine → Opening → List ℕ → Type 0
OpeningAgain d id line p rest = opening_of d Second id line (opening_bytes p ++ rest) ≡ Ok (p, rest)

text_again : (d : Dictionaries) (id : ℕ) (bytes rest : List ℕ) → length bytes < 2 ^ 32 → IsTrue (list_all text_byte bytes) → OpeningAgain d id (Some lines.Text) (Whole bytes) rest
text_again d id bytes rest small good =
    let long : ltb (length (bytes ++ rest)) (length bytes) ≡ false = le-ltb _ _ (omega (arith, length-append bytes rest)) in
    let all : list_all text_byte bytes ≡ true = good in
    ap (opening_of d Second id (Some lines.Text)) (append_assoc (short_of (length bytes)) bytes rest)
    ∙ rw (short_again (length bytes) (bytes ++ rest) small, long, take_at bytes rest (length bytes) refl, drop_at bytes rest (length bytes) refl, all) refl

side_again : (d : Dictionaries) (id i j : ℕ) (b : Bool) (rest : List ℕ) → OpeningAgain d id (Some (lines.Sum i j)) (side i j b) rest
side_again d id i j false rest = refl
side_again d id i j true rest = refl

cell_of_list_again : (d : Dictionaries) (id i : ℕ) (b : Bool) (rest : List ℕ) → OpeningAgain d id (Some (lines.List i)) (cell_of_list i id b) rest
cell_of_list_again d id i false rest = refl
cell_of_list_again d id i true rest = refl

fun_again : (d : Dictionaries) (id i l : ℕ) (p : Opening) (rest : List ℕ) → length d.labels ≤ 65535 → entered i l (slice_get d.labels l) ≡ Some p → OpeningAgain d id (Some (lines.Fun i)) p rest
fun_again d id i l p rest few e =
    let within : l < length d.labels = entered_within d.labels i l (slice_get d.labels l) p refl e in
    let is : number_of (values.Int (pos l)) ≡ l = omega (arith, ints) in
    ap (λ (x : List ℕ). opening_of d Second id (Some (lines.Fun i)) (x ++ rest)) (entered_first i l (slice_get d.labels l) p e ∙ ap short_of is)
    ∙ rw (short_again l rest (omega arith), lt-ltb l 65536 (omega arith), e) refl

some_is : {A : Type 0} (x y : A) → Some x ≡ Some y → x ≡ y
some_is x y e = cc

opening_again : (d : Dictionaries) (ids : List ℕ) (own id : ℕ) (line : Option TypeLine) (o : Object) (p : Opening) (rest : List ℕ) → length d.labels ≤ 65535 → opening_in d id line o ≡ Some p → Closes d (Older ids own) p o → OpeningAgain d id line p rest
opening_again d ids own id (Some lines.Text) (TextOf bytes) p rest few e h =
    subst (λ (x : Opening). Closes d (Older ids own) x (TextOf bytes) → OpeningAgain d id (Some lines.Text) x rest) (some_is _ _ e) (λ (c : Closes d (Older ids own) (Whole bytes) (TextOf bytes)). text_again d id bytes rest c.1 c.2) h
opening_again d ids own id (Some (lines.Pair i j)) (ArrayOf vs) p rest few e h =
    subst (λ (x : Opening). OpeningAgain d id (Some (lines.Pair i j)) x rest) (some_is _ _ e) refl
opening_again d ids own id (Some (lines.Sum i j)) (ArrayOf (values.Bool b ∷ vs)) p rest few e h =
    subst (λ (x : Opening). OpeningAgain d id (Some (lines.Sum i j)) x rest) (some_is _ _ e) (side_again d id i j b rest)
opening_again d ids own id (Some (lines.List i)) (ArrayOf (values.Bool b ∷ vs)) p rest few e h =
    subst (λ (x : Opening). OpeningAgain d id (Some (lines.List i)) x rest) (some_is _ _ e) (cell_of_list_again d id i b rest)
opening_again d ids own id (Some (lines.Fun i)) (ArrayOf (values.Int (pos l) ∷ vs)) p rest few e h = fun_again d id i l p rest few e
opening_again d ids own id line o p rest few e h = absurd (let none : None ≡ Some p = e in cc)

closing_again : (d : Dictionaries) (ids : List ℕ) (own : ℕ) (p : Opening) (o : Object) (rest : List ℕ) → own < 2 ^ 32 → Closes d (Older ids own) p o → closing_at d Second ids own p (closing_bytes d own p o ++ rest) ≡ Ok (o, rest)
closing_again d ids own (Whole bytes) o rest small h = ap (λ (x : Object). Ok (x, rest)) (sym h.0)
closing_again d ids own (Parts first others) o rest small h =
    subst (λ (x : Object). closing_at d Second ids own (Parts first others) (closing_bytes d own (Parts first others) x ++ rest) ≡ Ok (x, rest)) (sym h.1)
    (rw (drop_at first h.0 (length first) refl, values_again d ids own others h.0 rest small h.2) refl)

pub content_again : (d : Dictionaries) (ids : List ℕ) (own id : ℕ) (o : Object) (rest : List ℕ) → length d.labels ≤ 65535 → own < 2 ^ 32 → IsObjectOf d (Older ids own) id o → content_at d Second ids own id (content_bytes d own id o ++ rest) ≡ Ok (o, rest)
unfolding content_at opening_at
content_again d ids own id o rest few small h =
    let p = h.0 in
    let regrouped : content_bytes d own id o ++ rest ≡ opening_bytes p ++ (closing_bytes d own p o ++ rest) = ap (λ (x : Option Opening). opened_bytes d own o x ++ rest) h.1 ∙ append_assoc (opening_bytes p) (closing_bytes d own p o) rest in
    ap (content_at d Second ids own id) regrouped
    ∙ rw (opening_again d ids own id (slice_get d.types id) o p (closing_bytes d own p o ++ rest) few h.1 h.2) (closing_again d ids own p o rest small h.2)

pub contents_again : (d : Dictionaries) (ids : List ℕ) (own : ℕ) (others : List ℕ) (os : List Object) (rest : List ℕ) → length d.labels ≤ 65535 → own + length others < 2 ^ 32 → AreObjectsOf d ids own others os → contents_at d Second ids own others (contents_bytes d own others os ++ rest) ≡ Ok (os, rest)
unfolding contents_at contents_bytes AreObjectsOf
contents_again d ids own [] [] rest few small h = refl
contents_again d ids own [] (o ∷ os) rest few small h = absurd h
contents_again d ids own (id ∷ others) [] rest few small h = absurd h
contents_again d ids own (id ∷ others) (o ∷ os) rest few small h =
    ap (contents_at d Second ids own (id ∷ others)) (append_assoc (content_bytes d own id o) (contents_bytes d (suc own) others os) rest)
    ∙ rw (content_again d ids own id o (contents_bytes d (suc own) others os ++ rest) few (omega arith) h.0, contents_again d ids (suc own) others os rest few (omega arith) h.1) refl

-- ---- the whole

pub ids_again : (d : Dictionaries) (ids rest : List ℕ) → AreIds d ids → ids_at d (length ids) (ids_bytes ids ++ rest) ≡ Ok (ids, rest)
unfolding ids_at AreIds
ids_again d [] rest h = refl
ids_again d (id ∷ ids) rest h =
    let good : is_object_line (slice_get d.types id) ≡ true = h.1 in
    ap (ids_at d (suc (length ids))) (append_assoc (to_be_bytes w32 id) (ids_bytes ids) rest)
    ∙ rw (wide32_again id (ids_bytes ids ++ rest) h.0, good, ids_again d ids rest h.2) refl

pub body_again : (d : Dictionaries) (w : World) (m : Message) → length d.labels ≤ 65535 → IsMessage d w m → body_at d w Second (body_bytes d w m) ≡ Ok m
unfolding body_at body_bytes
body_again d w m few h =
    let n = length m.ids in
    let id = h.root.0 in
    let last : value_at d Second m.ids n id (value_bytes n (slice_get d.types id) m.argument) ≡ Ok (m.argument, []) =
    ap (value_at d Second m.ids n id) (sym (append-nil (value_bytes n (slice_get d.types id) m.argument)))
    ∙ value_at_again d m.ids n id m.argument [] h.few h.root.2 in
    rw (short_again n _ h.few, ids_again d m.ids _ h.ids, contents_again d m.ids 0 m.ids m.objects _ few (omega (arith, h.few)) h.objects, older_again n m.root _ h.there h.few, h.root.1, last) refl

sealed_front : (seal rest : List ℕ) → starts_with nat_eq (seal ++ rest) seal ≡ true
sealed_front [] rest = refl
sealed_front (b ∷ seal) rest = rw (eq-eqb b b refl) (sealed_front seal rest)

-- what is spelled at a world is read there
pub message_again : (d : Dictionaries) (w : World) (seal : List ℕ) (m : Message) → length d.labels ≤ 65535 → length seal ≡ 8 → IsMessage d w m → message_at d w seal (message_bytes d w seal m) ≡ Ok m
unfolding message_at version_at
message_again d w seal m few eight h =
    rw (sealed_front seal (2 ∷ body_bytes d w m), drop_at seal (2 ∷ body_bytes d w m) 8 eight, body_again d w m few h) refl
