-- A shown text before the rest of an input: the program text of both is the shown text.
use Rattle.std.proofs.Common.{◌≡◌, ℕ, Bool, true, false, ◌&&◌, eqb, if◌then◌else◌, List, [], ◌∷◌, ◌++◌, length, drop, get_or, refl, ap, sym, ◌∙◌, append_assoc, append-nil}
use Rattle.std.specs.Prelude.{nat_lt}
use Rattle.std.specs.List.{flat_map, list_all}
use Rattle.m5_lex.specs.declared.token.Token.{Token}
use Rattle.m5_lex.specs.Shown.{spelling, begins_line, parted, shown, LexesBack}
use Rattle.m5_cli.specs.Expanding.{from_divider}
use Rattle.m5_cli.specs.Input.{Parts, divider, after_program, parts_from, parts_of}
use Rattle.m5_cli.proofs.ShownLines.{both, denied, is_inner, IsInLine, ArePlain, lexes_plain, token_in_line}

-- the program text of a rest that stands at the start of a line or within one
abbrev front : Bool → List ℕ → List ℕ
front at_start rest = (parts_from at_start rest).program

then_first : {A : Type 0} (b : Bool) (x y : A) → b ≡ true → (if b then x else y) ≡ x
then_first true x y h = refl
then_first false x y h = absurd cc

else_second : {A : Type 0} (b : Bool) (x y : A) → b ≡ false → (if b then x else y) ≡ y
else_second true x y h = absurd cc
else_second false x y h = refl

both_false : (a b : Bool) → a ≡ false → (a && b) ≡ false
both_false true b h = absurd cc
both_false false b h = refl

no_divider : (x : ℕ) (rest : List ℕ) → eqb x 37 ≡ false → divider (x ∷ rest) ≡ 0
no_divider x rest h = else_second (eqb x 37 && eqb (get_or (x ∷ rest) 1 0) 37) _ _ (both_false (eqb x 37) (eqb (get_or (x ∷ rest) 1 0) 37) h)

passed : (s : Bool) (x : ℕ) (rest : List ℕ) → eqb x 37 ≡ false → front s (x ∷ rest) ≡ x ∷ front (eqb x 10) rest
passed true x rest h =
    ap (λ (p : Parts). p.program) (else_second (nat_lt 0 (divider (x ∷ rest))) _ (after_program (x ∷ []) (parts_from (eqb x 10) rest))
    (ap (λ n. nat_lt 0 n) (no_divider x rest h)))
passed false x rest h = refl

within_line : (w rest : List ℕ) → list_all is_inner w ≡ true → front false (w ++ rest) ≡ w ++ front false rest
within_line [] rest h = refl
within_line (x ∷ w) rest h =
    let parts = both (is_inner x) (list_all is_inner w) h in
    rw (denied (eqb x 10) parts.0) (ap (λ l. x ∷ l) (within_line w rest parts.1))

spelled : (s : Bool) (w rest next : List ℕ) → IsInLine w → ((r : Bool) → front r rest ≡ next) → front s (w ++ rest) ≡ w ++ next
spelled s [] rest next h k = k s
spelled s (x ∷ w) rest next h k =
    let parts = both (is_inner x) (list_all is_inner w) h.inner in
    let after : front (eqb x 10) (w ++ rest) ≡ w ++ next =
    rw (denied (eqb x 10) parts.0) (within_line w rest parts.1 ∙ ap (λ l. w ++ l) (k false)) in
    passed s x (w ++ rest) h.head ∙ ap (λ l. x ∷ l) after

abbrev part_of : Bool → ℕ
part_of b = if b then 10 else 32

no_mark : (b : Bool) → eqb (part_of b) 37 ≡ false
no_mark true = refl
no_mark false = refl

-- what follows the first token's spelling
abbrev following : List Token → List ℕ
following ts = flat_map parted ts ++ 10 ∷ []

nested : (w ps rest : List ℕ) → ((w ++ ps) ++ 10 ∷ []) ++ rest ≡ w ++ ((ps ++ 10 ∷ []) ++ rest)
nested w ps rest = ap (λ l. l ++ rest) (append_assoc w ps (10 ∷ [])) ∙ append_assoc w (ps ++ 10 ∷ []) rest

following_front : (s : Bool) (ts : List Token) (rest : List ℕ) → ArePlain ts → front s (following ts ++ rest) ≡ following ts ++ front true rest
following_front s [] rest h = passed s 10 rest refl
following_front s (t ∷ ts) rest h =
    let b : ℕ = part_of (begins_line t) in
    let inside : List ℕ = ((spelling t ++ flat_map parted ts) ++ 10 ∷ []) ++ rest in
    passed s b inside (no_mark (begins_line t))
    ∙ ap (λ l. b ∷ l)
    (ap (λ l. front (eqb b 10) l) (nested (spelling t) (flat_map parted ts) rest)
    ∙ spelled (eqb b 10) (spelling t) (following ts ++ rest) (following ts ++ front true rest) (token_in_line t h.0) (λ r. following_front r ts rest h.1)
    ∙ sym (nested (spelling t) (flat_map parted ts) (front true rest)))

shown_front : (ts : List Token) (rest : List ℕ) → ArePlain ts → front true rest ≡ [] → front true (shown ts ++ rest) ≡ shown ts
shown_front [] rest h k = k
shown_front (t ∷ ts) rest h k =
    ap (λ l. front true l) (nested (spelling t) (flat_map parted ts) rest)
    ∙ spelled true (spelling t) (following ts ++ rest) (following ts) (token_in_line t h.0)
    (λ r. following_front r ts rest h.1 ∙ (ap (λ l. following ts ++ l) k ∙ append-nil (following ts)))
    ∙ sym (append_assoc (spelling t) (flat_map parted ts) (10 ∷ []))

-- ---- the rest of an input begins with a dividing line, or is empty

at_divider : (rest : List ℕ) (x : ℕ) → nat_lt 0 (divider (x ∷ rest)) ≡ true → front true (x ∷ rest) ≡ []
at_divider rest x h =
    let script : List ℕ = drop (divider (x ∷ rest)) (x ∷ rest) in
    ap (λ (p : Parts). p.program) (then_first (nat_lt 0 (divider (x ∷ rest))) (record { program = []; script = script }) (after_program (x ∷ []) (parts_from (eqb x 10) rest)) h)

cut : (c : Bool) (x : ℕ) (rest script : List ℕ) (p : Parts) → (c ≡ true → front true (x ∷ rest) ≡ []) → front true (drop (length p.program) rest) ≡ []
    → front true (drop (length (if c then record { program = []; script = script } else after_program (x ∷ []) p).program) (x ∷ rest)) ≡ []
cut true x rest script p h k = h refl
cut false x rest script p h k = k

divided : (s : Bool) (input : List ℕ) → front true (drop (length (front s input)) input) ≡ []
divided s [] = refl
divided s (x ∷ rest) =
    cut (s && nat_lt 0 (divider (x ∷ rest))) x rest (drop (divider (x ∷ rest)) (x ∷ rest)) (parts_from (eqb x 10) rest)
    (λ e. at_divider rest x (both s (nat_lt 0 (divider (x ∷ rest))) e).1) (divided (eqb x 10) rest)

-- the program text of what `expand` writes is the shown text
pub shown_part : (input : List ℕ) (ts : List Token) → LexesBack (shown ts) ts → (parts_of (shown ts ++ from_divider input)).program ≡ shown ts
shown_part input ts h = shown_front ts (from_divider input) (lexes_plain (shown ts) ts h) (divided true input)
