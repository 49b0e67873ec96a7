-- Places move with the bytes that are passed.
use Rattle.std.proofs.Common.{◌≡◌, ℕ, ◌+◌, ◌≤◌, ◌<◌, true, false, cond, eqb, List, [], ◌∷◌, ◌++◌, length, take, get_or, refl, arith}
use Rattle.std.proofs.lemmas.List.{take_more}
use Rattle.m5_lex.specs.declared.place.Place.{Place}
use Rattle.m5_lex.specs.Place.{after, after_byte}

pub after-append : (p : Place) (xs ys : List ℕ) → after p (xs ++ ys) ≡ after (after p xs) ys
after-append p [] ys = refl
after-append p (x ∷ xs) ys = after-append (after_byte p x) xs ys

line_byte : (p : Place) (x : ℕ) → (after_byte p x).line ≤ p.line + 1
line_byte p x = elim (eqb x 10) as (λ b. (cond {A = Place} b (record { line = p.line + 1; column = 1 }) (record { line = p.line; column = p.column + 1 })).line ≤ p.line + 1) [ true ↦ omega arith | false ↦ omega arith ]

column_byte : (p : Place) (x : ℕ) → (after_byte p x).column ≤ p.column + 1
column_byte p x = elim (eqb x 10) as (λ b. (cond {A = Place} b (record { line = p.line + 1; column = 1 }) (record { line = p.line; column = p.column + 1 })).column ≤ p.column + 1) [ true ↦ omega arith | false ↦ omega arith ]

pub line-after : (p : Place) (xs : List ℕ) → (after p xs).line ≤ p.line + length xs
line-after p [] = omega arith
line-after p (x ∷ xs) = omega (arith, line_byte p x, line-after (after_byte p x) xs)

pub column-after : (p : Place) (xs : List ℕ) → (after p xs).column ≤ p.column + length xs
column-after p [] = omega arith
column-after p (x ∷ xs) = omega (arith, column_byte p x, column-after (after_byte p x) xs)

-- one byte more
pub after_next : (p : Place) (xs : List ℕ) (i : ℕ) → i < length xs → after p (take (i + 1) xs) ≡ after_byte (after p (take i xs)) (get_or xs i 0)
after_next p xs i h = rw (take_more xs i 0 h) (after-append p (take i xs) (get_or xs i 0 ∷ []))

-- the lines and columns stay below what was passed
pub record Passed (from to : Place) (n : ℕ) : Type 0 where
  pub line : to.line ≤ from.line + n
  pub column : to.column ≤ from.column + n

pub passed_next : (p q : Place) (n x : ℕ) → Passed p q n → Passed p (after_byte q x) (n + 1)
passed_next p q n x h = record { line = omega (arith, line_byte q x, h.line); column = omega (arith, column_byte q x, h.column) }
