-- What one more byte does to a text between quotes that is being read, and that it is read back as it was written.
use Rattle.std.proofs.Common.{◌≡◌, ◌≢◌, ℕ, ◌+◌, ◌≤◌, ◌<◌, ◌&&◌, Bool, true, false, cond, eqb, List, [], ◌∷◌, ◌++◌, length, drop, get_or, Option, Some, None, refl, ap, sym, subst, ◌∙◌, arith, inl, inr, add-zero, append_assoc, add_assoc, length-append}
use Rattle.std.specs.Prelude.{IfSome}
use Rattle.std.specs.List.{flat_map, list_all}
use Rattle.std.proofs.lemmas.List.{drop_all, get_or_past, append-nil}
use Rattle.std.proofs.lemmas.List.Folds.{list_all-append}
use Rattle.std.proofs.lemmas.Bool.{cases_lt}
use Rattle.std.proofs.lemmas.Bool.Decides.{nat_tests, eqb_tells}
use Rattle.m5_terms.specs.Text.{text_byte, IsText}
use Rattle.m5_terms.specs.declared.quoted.Quoted.{Quoted}
use Rattle.m5_terms.specs.declared.quoted.Quoted.TheVariants.{Closed, Broken}
use Rattle.m5_terms.specs.Quoted.{is_plain, escape, escaping, joined, quoted_by, quoted}
use Rattle.m5_terms.proofs.Rests.{one_at, two_at, last_at}

-- ---- the bytes of a text

pub text_push : (v w : List ℕ) (x : ℕ) → IsText v → text_byte x ≡ true → w ≡ v ++ x ∷ [] → IsText w
text_push v w x h t e = rw (e, list_all-append text_byte v (x ∷ []), h, t) refl

both : (a b : Bool) → (a && b) ≡ true → (a ≡ true) × (b ≡ true)
both true b h = (refl, h)
both false b h = absurd cc

text_first : (x : ℕ) (text : List ℕ) → IsText (x ∷ text) → (text_byte x ≡ true) × IsText text
text_first x text h = both (text_byte x) (list_all text_byte text) h

pub plain_text : (x : ℕ) → is_plain x ≡ true → text_byte x ≡ true
plain_text x h = grind (arith, nat_tests)

abbrev GivesText : Option ℕ → Type 0
GivesText o = IfSome o (λ x. text_byte x ≡ true)

either_text : (b : Bool) (x : ℕ) (o : Option ℕ) → text_byte x ≡ true → GivesText o → GivesText (cond b (Some x) o)
either_text true x o h k = h
either_text false x o h k = k

escape_gives : (x : ℕ) → GivesText (escape x)
escape_gives x = either_text (eqb x 34) 34 _ refl (either_text (eqb x 92) 92 _ refl (either_text (eqb x 110) 10 _ refl (either_text (eqb x 116) 9 None refl tt)))

pub escape_text : (x y : ℕ) → escape x ≡ Some y → text_byte y ≡ true
escape_text x y h = subst GivesText h (escape_gives x)

-- ---- one more byte

joined-joined : (a b : List ℕ) (m n : ℕ) (q : Quoted) → joined a m (joined b n q) ≡ joined (a ++ b) (m + n) q
joined-joined a b m n (Closed v k) = rw (append_assoc, add_assoc) refl
joined-joined a b m n (Broken k) = rw add_assoc refl

quoted_at : (s : List ℕ) (i : ℕ) → i < length s → quoted (drop i s) ≡ quoted_by (get_or s i 0) (get_or s (i + 1) 0) (quoted (drop (i + 2) s)) (quoted (drop (i + 1) s))
quoted_at s i h = elim (cases_lt (i + 1) (length s)) [
  | inl lt ↦
      let next : drop (i + 1) s ≡ get_or s (i + 1) 0 ∷ drop (i + 2) s = one_at s (i + 1) lt ∙ ap (λ (k : ℕ). get_or s (i + 1) 0 ∷ drop k s) (omega arith) in
      rw (two_at s i lt, next) refl
  | inr le ↦ rw (last_at s i h le, get_or_past s (i + 1) 0 le, drop_all (i + 1) s le) refl
]

pub quoted_closes : (v : List ℕ) (i : ℕ) (s : List ℕ) → i < length s → get_or s i 0 ≡ 34 → joined v i (quoted (drop i s)) ≡ Closed v (i + 1)
quoted_closes v i s h x = rw (quoted_at s i h, x) (ap (λ (w : List ℕ). Closed w (i + 1)) (append-nil v))

pub quoted_escapes : (v : List ℕ) (i c : ℕ) (s : List ℕ) → i < length s → get_or s i 0 ≡ 92 → escape (get_or s (i + 1) 0) ≡ Some c
    → joined v i (quoted (drop i s)) ≡ joined (v ++ c ∷ []) (i + 2) (quoted (drop (i + 2) s))
quoted_escapes v i c s h x e = rw (quoted_at s i h, x, e) (joined-joined v (c ∷ []) i 2 (quoted (drop (i + 2) s)))

pub quoted_stops : (v : List ℕ) (i : ℕ) (s : List ℕ) → i < length s → get_or s i 0 ≡ 92 → escape (get_or s (i + 1) 0) ≡ None
    → joined v i (quoted (drop i s)) ≡ Broken i
quoted_stops v i s h x e = rw (quoted_at s i h, x, e, add-zero) refl

pub quoted_goes : (v : List ℕ) (i : ℕ) (s : List ℕ) → i < length s → is_plain (get_or s i 0) ≡ true
    → joined v i (quoted (drop i s)) ≡ joined (v ++ get_or s i 0 ∷ []) (i + 1) (quoted (drop (i + 1) s))
quoted_goes v i s h p =
    let x : eqb (get_or s i 0) 34 ≡ false = grind (arith, nat_tests) in
    let y : eqb (get_or s i 0) 92 ≡ false = grind (arith, nat_tests) in
    let q = rw (x, y) at p in
    rw (quoted_at s i h, x, y, q) (joined-joined v (get_or s i 0 ∷ []) i 1 (quoted (drop (i + 1) s)))

pub quoted_breaks : (v : List ℕ) (i : ℕ) (s : List ℕ) → i < length s → get_or s i 0 ≢ 34 → get_or s i 0 ≢ 92 → is_plain (get_or s i 0) ≡ false
    → joined v i (quoted (drop i s)) ≡ Broken i
quoted_breaks v i s h a b p =
    let x : eqb (get_or s i 0) 34 ≡ false = grind (arith, nat_tests) in
    let y : eqb (get_or s i 0) 92 ≡ false = grind (arith, nat_tests) in
    let q = rw (x, y) at p in
    rw (quoted_at s i h, x, y, q, add-zero) refl

pub quoted_cut : (v : List ℕ) (i : ℕ) (s : List ℕ) → length s ≤ i → joined v i (quoted (drop i s)) ≡ Broken i
quoted_cut v i s h = rw (drop_all i s h, add-zero) refl

escape_within : (s : List ℕ) (i c : ℕ) → escape (get_or s i 0) ≡ Some c → i < length s
escape_within s i c e = elim (cases_lt i (length s)) [
  | inl lt ↦ lt
  | inr le ↦ absurd (let f = rw (get_or_past s i 0 le) at e in cc)
]

-- the same at a value that has one byte more
pub quoted_more : (v w : List ℕ) (i c : ℕ) (s : List ℕ) (total : Quoted) → i < length s → get_or s i 0 ≡ 92 → escape (get_or s (i + 1) 0) ≡ Some c → w ≡ v ++ c ∷ []
    → joined v i (quoted (drop i s)) ≡ total → (joined w (i + 2) (quoted (drop (i + 2) s)) ≡ total) × (i + 2 ≤ length s)
quoted_more v w i c s total h x e more so_far =
    let room = escape_within s (i + 1) c e in
    (rw more (sym (quoted_escapes v i c s h x e) ∙ so_far), omega arith)

-- ---- what was written

quoted_plain : (x : ℕ) (r : List ℕ) → is_plain x ≡ true → quoted (x ∷ r) ≡ joined (x ∷ []) 1 (quoted r)
quoted_plain x [] p =
    let a : eqb x 34 ≡ false = grind (arith, nat_tests) in
    let b : eqb x 92 ≡ false = grind (arith, nat_tests) in
    let q = rw (a, b) at p in
    rw (a, b, q) refl
quoted_plain x (y ∷ r) p =
    let a : eqb x 34 ≡ false = grind (arith, nat_tests) in
    let b : eqb x 92 ≡ false = grind (arith, nat_tests) in
    let q = rw (a, b) at p in
    rw (a, b, q) refl

-- a byte is read back from what it is shown as
abbrev ReadsBack : List ℕ → ℕ → Type 0
ReadsBack r x = quoted (escaping x ++ r) ≡ joined (x ∷ []) (length (escaping x)) (quoted r)

plain_shown : (x : ℕ) (r : List ℕ) → text_byte x ≡ true → eqb x 34 ≡ false → eqb x 92 ≡ false → eqb x 10 ≡ false → eqb x 9 ≡ false → ReadsBack r x
plain_shown x r h a b c d =
    let plain : is_plain x ≡ true = grind (arith, nat_tests) in
    rw (a, b, c, d) (quoted_plain x r plain)

byte_shown : (x : ℕ) (r : List ℕ) → text_byte x ≡ true → ReadsBack r x
byte_shown x r h = elim (eqb_tells x 34) [
  | inl a ↦ subst (ReadsBack r) (sym a.1) refl
  | inr a ↦ elim (eqb_tells x 92) [
    | inl b ↦ subst (ReadsBack r) (sym b.1) refl
    | inr b ↦ elim (eqb_tells x 10) [
      | inl c ↦ subst (ReadsBack r) (sym c.1) refl
      | inr c ↦ elim (eqb_tells x 9) [
        | inl d ↦ subst (ReadsBack r) (sym d.1) refl
        | inr d ↦ plain_shown x r h a.0 b.0 c.0 d.0
      ]
    ]
  ]
]

-- a text is read back from between its quotes
pub quoted_shown : (text s : List ℕ) → IsText text → quoted (flat_map escaping text ++ 34 ∷ s) ≡ Closed text (length (flat_map escaping text) + 1)
quoted_shown [] [] h = refl
quoted_shown [] (y ∷ s) h = refl
quoted_shown (x ∷ text) s h =
    ap quoted (append_assoc (escaping x) (flat_map escaping text) (34 ∷ s))
    ∙ byte_shown x (flat_map escaping text ++ 34 ∷ s) (text_first x text h).0
    ∙ ap (joined (x ∷ []) (length (escaping x))) (quoted_shown text s (text_first x text h).1)
    ∙ ap (λ (n : ℕ). Closed (x ∷ text) n) (omega (arith, length-append (escaping x) (flat_map escaping text)))
