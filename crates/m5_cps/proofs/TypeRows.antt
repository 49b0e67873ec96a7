-- Types for which rows stand keep their numbers as rows are added.
use Rattle.std.proofs.Common.{◌≡◌, ℕ, zero, suc, ◌+◌, ◌<◌, ◌≤◌, List, [], ◌∷◌, ◌++◌, length, Option, Some, None, slice_get, refl, sym, ap, subst, ◌∙◌, arith, length-append, append_assoc}
use Rattle.std.proofs.lemmas.Option.{slice_get_within}
use Rattle.m5_terms.specs.TypeExpression as type
use Rattle.m5_terms.specs.TypeExpression.{TypeExpression}
use Rattle.m5_cps.specs.declared.types.TypeRow.{TypeRow}
use Rattle.m5_cps.specs.declared.types.TypeRow.TheVariants as row
use Rattle.m5_cps.specs.TypesByNumber.{or_unit, type_in, row_type}
use Rattle.m5_cps.specs.code.Rows.{IsRow, types_after, types_of, AreRowsAfter, AreRows, AreTypes, IsSettledPart, IsSettled}
use Rattle.m5_cps.proofs.Lists.{get_before, get_last, get_past, length_push}

pub count_after : (known : List TypeExpression) (rows : List TypeRow) → length (types_after known rows) ≡ length known + length rows
count_after known [] = omega arith
count_after known (r ∷ rows) = omega (arith, count_after (known ++ row_type known r ∷ []) rows, length_push known (row_type known r))

pub count : (rows : List TypeRow) → length (types_of rows) ≡ length rows
count rows = omega (arith, count_after [] rows)

pub push_after : (known : List TypeExpression) (rows : List TypeRow) (r : TypeRow) → types_after known (rows ++ r ∷ []) ≡ types_after known rows ++ row_type (types_after known rows) r ∷ []
push_after known [] r = refl
push_after known (q ∷ rows) r = push_after (known ++ row_type known q ∷ []) rows r

pub push : (rows : List TypeRow) (r : TypeRow) → types_of (rows ++ r ∷ []) ≡ types_of rows ++ row_type (types_of rows) r ∷ []
push rows r = push_after [] rows r

rows_after : (n : ℕ) (rows : List TypeRow) (r : TypeRow) → AreRowsAfter n rows → IsRow (n + length rows) r → AreRowsAfter n (rows ++ r ∷ [])
rows_after n [] r h i = (subst (λ k. IsRow k r) (let e : n + 0 ≡ n = omega arith in e) i, tt)
rows_after n (q ∷ rows) r h i = (h.0, rows_after (suc n) rows r h.1 (subst (λ k. IsRow k r) (let e : n + suc (length rows) ≡ suc n + length rows = omega arith in e) i))

pub rows_pushed : (rows : List TypeRow) (r : TypeRow) → AreRows rows → IsRow (length (types_of rows)) r → AreRows (rows ++ r ∷ [])
rows_pushed rows r h i = rows_after 0 rows r h (subst (λ k. IsRow k r) (let e : length (types_of rows) ≡ 0 + length rows = omega (arith, count rows) in e) i)

part_stays : (known more : List TypeExpression) (a : ℕ) → a < length known → type_in known a ≡ type_in (known ++ more) a
part_stays known more a h = ap or_unit (sym (get_before known more a h))

-- a row's type stays as types are added
pub row_stays : (known more : List TypeExpression) (r : TypeRow) → IsRow (length known) r → row_type known r ≡ row_type (known ++ more) r
row_stays known more (row.Product a b) h = λ i. type.product (part_stays known more a h.0 i) (part_stays known more b h.1 i)
row_stays known more (row.Sum a b) h = λ i. type.sum (part_stays known more a h.0 i) (part_stays known more b h.1 i)
row_stays known more (row.Function a b) h = λ i. type.function (part_stays known more a h.0 i) (part_stays known more b h.1 i)
row_stays known more (row.List a) h = ap type.list (part_stays known more a h)
row_stays known more (row.Cell a) h = ap type.cell (part_stays known more a h)
row_stays known more (row.Sham a) h = ap type.sham (part_stays known more a h)
row_stays known more (row.At a w) h = ap (λ A. type.at A w) (part_stays known more a h)
row_stays known more row.Unit h = refl
row_stays known more row.Bool h = refl
row_stays known more row.Int h = refl
row_stays known more row.Str h = refl
row_stays known more (row.Address w) h = refl

extends : (known : List TypeExpression) (rows : List TypeRow) → (more : List TypeExpression) × (types_after known rows ≡ known ++ more)
extends known [] = ([], sym (nothing known))
  where
    nothing : (xs : List TypeExpression) → xs ++ [] ≡ xs
    nothing [] = refl
    nothing (x ∷ xs) = ap (λ l. x ∷ l) (nothing xs)
extends known (r ∷ rows) =
    let d = extends (known ++ row_type known r ∷ []) rows in
    (row_type known r ∷ d.0, d.1 ∙ append_assoc known (row_type known r ∷ []) d.0)

pub record RowAt (n : ℕ) (types : List TypeExpression) (r : TypeRow) : Type 0 where
  pub parts : IsRow n r
  pub is : slice_get types n ≡ Some (row_type types r)

at_after : (known : List TypeExpression) (rows : List TypeRow) (k : ℕ) (r : TypeRow) → AreRowsAfter (length known) rows → slice_get rows k ≡ Some r → RowAt (length known + k) (types_after known rows) r
at_after known [] k r h e = absurd (cc)
at_after known (q ∷ rows) zero r h e =
    let same : q ≡ r = cc in
    let d = extends (known ++ row_type known q ∷ []) rows in
    let more : types_after known (q ∷ rows) ≡ known ++ (row_type known q ∷ d.0) = d.1 ∙ append_assoc known (row_type known q ∷ []) d.0 in
    subst (λ x. RowAt (length known + 0) (types_after known (q ∷ rows)) x) same
    (record {
      parts = subst (λ n. IsRow n q) (let z : length known ≡ length known + 0 = omega arith in z) h.0;
      is = ap (λ n. slice_get (types_after known (q ∷ rows)) n) (let z : length known + 0 ≡ length known = omega arith in z) ∙ ap (λ l. slice_get l (length known)) more ∙ get_last known (row_type known q) d.0
          ∙ ap Some (row_stays known (row_type known q ∷ d.0) q h.0) ∙ ap (λ l. Some (row_type l q)) (sym more);
    })
at_after known (q ∷ rows) (suc k) r h e =
    let grown = known ++ row_type known q ∷ [] in
    let one_more : length grown ≡ suc (length known) = length_push known (row_type known q) in
    subst (λ n. RowAt n (types_after grown rows) r) (let z : length grown + k ≡ length known + suc k = omega (arith, one_more) in z)
    (at_after grown rows k r (subst (λ n. AreRowsAfter n rows) (sym one_more) h.1) e)

pub row_at : (rows : List TypeRow) (k : ℕ) (r : TypeRow) → AreRows rows → slice_get rows k ≡ Some r → RowAt k (types_of rows) r
row_at rows k r h e = subst (λ n. RowAt n (types_of rows) r) (let z : 0 + k ≡ k = omega arith in z) (at_after [] rows k r h e)

-- a row stays one where more types are
wider : (n m : ℕ) (r : TypeRow) → n ≤ m → IsRow n r → IsRow m r
wider n m (row.Product a b) l h = (omega (arith, l, h.0), omega (arith, l, h.1))
wider n m (row.Sum a b) l h = (omega (arith, l, h.0), omega (arith, l, h.1))
wider n m (row.Function a b) l h = (omega (arith, l, h.0), omega (arith, l, h.1))
wider n m (row.List a) l h = omega (arith, l, h)
wider n m (row.Cell a) l h = omega (arith, l, h)
wider n m (row.Sham a) l h = omega (arith, l, h)
wider n m (row.At a w) l h = omega (arith, l, h)
wider n m row.Unit l h = tt
wider n m row.Bool l h = tt
wider n m row.Int l h = tt
wider n m row.Str l h = tt
wider n m (row.Address w) l h = tt

-- the row that was read at a number
pub row_read : (rows : List TypeRow) (types : List TypeExpression) (n : ℕ) (r : TypeRow) → AreTypes rows → types_of rows ≡ types → slice_get rows n ≡ Some r
    → (row_type types r ≡ type_in types n) × IsRow (length types) r
row_read rows types n r h v e =
    let a : RowAt n types r = subst (λ (t : List TypeExpression). RowAt n t r) v (row_at rows n r h.parts e) in
    (sym (ap or_unit a.is), wider n (length types) r (let z : n ≤ length types = omega (arith, within n types r a) in z) a.parts)
  where
    within : (n : ℕ) (types : List TypeExpression) (r : TypeRow) → RowAt n types r → n < length types
    within n types r a = slice_get_within types n (row_type types r) a.is

pub none_read : (rows : List TypeRow) (types : List TypeExpression) (n : ℕ) → types_of rows ≡ types → length rows ≤ n → type.unit ≡ type_in types n
none_read rows types n v l = sym (ap or_unit (get_past types n (let z : length types ≤ n = omega (arith, ap length v, count rows, l) in z)))

unit_first : (rows : List TypeRow) (types : List TypeExpression) → AreTypes rows → types_of rows ≡ types → type_in types 0 ≡ type.unit
unit_first rows types h v = sym (row_read rows types 0 row.Unit h v h.first).0

pub settled_same : (rows : List TypeRow) (types : List TypeExpression) (r q : TypeRow) → AreTypes rows → types_of rows ≡ types → IsSettled r (length rows) q → row_type types q ≡ row_type types r
settled_same rows types r q h v s = s.same types (omega (arith, ap length v, count rows)) (unit_first rows types h v)

pub types_pushed : (rows more : List TypeRow) (r q : TypeRow) → AreTypes rows → IsSettled r (length rows) q → more ≡ rows ++ q ∷ [] → AreTypes more
types_pushed rows more r q h s e =
    subst AreTypes (sym e)
    (record { parts = rows_pushed rows q h.parts (subst (λ n. IsRow n q) (sym (count rows)) s.parts); first = get_before rows (q ∷ []) 0 (some_there rows h.first) ∙ h.first })
  where
    some_there : (rows : List TypeRow) → slice_get rows 0 ≡ Some row.Unit → 0 < length rows
    some_there [] e = absurd (cc)
    some_there (r ∷ rows) e = omega arith

pub some_type : (rows : List TypeRow) → AreTypes rows → 0 < length rows
some_type [] h = absurd (let e = h.first in cc)
some_type (r ∷ rows) h = omega arith

pub unit_there : (rows : List TypeRow) (types : List TypeExpression) → AreTypes rows → types_of rows ≡ types → slice_get types 0 ≡ Some type.unit
unit_there rows types h v =
    let a : RowAt 0 types row.Unit = subst (λ (t : List TypeExpression). RowAt 0 t row.Unit) v (row_at rows 0 row.Unit h.parts h.first) in
    a.is
