-- Lines that were looked at one after the other.
use Rattle.std.proofs.Common.{◌≡◌, ℕ, ◌+◌, ◌^◌, ◌<◌, List, [], ◌∷◌, zero, suc, length, take, Some, None, slice_get, sym, ap, subst, ◌∙◌, arith, inl, inr}
use Rattle.std.proofs.lemmas.Bool.{cases_lt}
use Rattle.std.proofs.lemmas.Option.{slice_get_within}
use Rattle.m5_dictionary.specs.declared.line.TypeLine.{TypeLine}
use Rattle.m5_dictionary.specs.Dictionaries.{IsLine, IsTypeTable}

-- the lines before a number are those of a type table
pub record AreSoFar (types : List TypeLine) (own : ℕ) : Type 0 where
  pub lines : (n : ℕ) (line : TypeLine) → n < own → slice_get types n ≡ Some line → IsLine n line
  pub once : (m n : ℕ) (line : TypeLine) → m < n → n < own → slice_get types m ≡ Some line → slice_get types n ≡ Some line → ⊥

pub none_so_far : (types : List TypeLine) → AreSoFar types 0
none_so_far types = record { lines = λ n line h e. absurd (omega arith); once = λ m n line lt h d e. absurd (omega arith) }

some_is : {A : Type 0} (x y : A) → Some x ≡ Some y → x ≡ y
some_is x y e = cc

take_get : {A : Type 0} (xs : List A) (n k : ℕ) (x : A) → k < n → slice_get xs k ≡ Some x → slice_get (take n xs) k ≡ Some x
take_get [] n k x h e = absurd (let none : None ≡ Some x = e in cc)
take_get (y ∷ xs) zero k x h e = absurd (omega arith)
take_get (y ∷ xs) (suc n) zero x h e = e
take_get (y ∷ xs) (suc n) (suc k) x h e = take_get xs n k x (omega arith) e

take_back : {A : Type 0} (xs : List A) (n k : ℕ) (x : A) → slice_get (take n xs) k ≡ Some x → (k < n) × (slice_get xs k ≡ Some x)
take_back [] zero k x e = absurd (let none : None ≡ Some x = e in cc)
take_back [] (suc n) k x e = absurd (let none : None ≡ Some x = e in cc)
take_back (y ∷ xs) zero k x e = absurd (let none : None ≡ Some x = e in cc)
take_back (y ∷ xs) (suc n) zero x e = (omega arith, e)
take_back (y ∷ xs) (suc n) (suc k) x e = let h = take_back xs n k x e in (omega (arith, h.0), h.1)

-- one line more, whose parts are earlier and which does not stand among the earlier ones
pub one_more : (types : List TypeLine) (own : ℕ) (line : TypeLine) → AreSoFar types own → slice_get types own ≡ Some line → IsLine own line → (((n : ℕ) × (slice_get (take own types) n ≡ Some line)) → ⊥) → AreSoFar types (own + 1)
one_more types own line h is good new = record {
  lines = λ n other lt e. elim (cases_lt n own) [
    | inl below ↦ h.lines n other below e
    | inr le ↦ last n other (omega arith) e
  ];
  once = λ m n other less lt d e. elim (cases_lt n own) [
    | inl below ↦ h.once m n other less below d e
    | inr le ↦ new (m, twice m n other (omega arith) less d e)
  ];
}
  where
    last : (n : ℕ) (other : TypeLine) → n ≡ own → slice_get types n ≡ Some other → IsLine n other
    last n other s e =
        let same : line ≡ other = some_is line other (sym is ∙ ap (slice_get types) (sym s) ∙ e) in
        subst (λ (k : ℕ). IsLine k other) (sym s) (subst (IsLine own) same good)

    twice : (m n : ℕ) (other : TypeLine) → n ≡ own → m < n → slice_get types m ≡ Some other → slice_get types n ≡ Some other → slice_get (take own types) m ≡ Some line
    twice m n other s less d e =
        let same : other ≡ line = some_is other line (sym e ∙ ap (slice_get types) s ∙ is) in
        take_get types own m line (omega arith) (d ∙ ap Some same)

-- all were looked at
pub all_so_far : (types : List TypeLine) → length types < 2 ^ 32 → AreSoFar types (length types) → IsTypeTable types
all_so_far types few h = record {
  few = few;
  lines = λ n line e. let lt = slice_get_within types n line e in h.lines n line lt e;
  once = λ m n line d e. let lm = slice_get_within types m line d in let ln = slice_get_within types n line e in either m n line lm ln d e;
}
  where
    either : (m n : ℕ) (line : TypeLine) → m < length types → n < length types → slice_get types m ≡ Some line → slice_get types n ≡ Some line → m ≡ n
    either m n line lm ln d e = elim (cases_lt m n) [
      | inl less ↦ absurd (h.once m n line less ln d e)
      | inr le ↦ elim (cases_lt n m) [
        | inl more ↦ absurd (h.once n m line more lm e d)
        | inr same ↦ omega arith
      ]
    ]

-- a line that stands among the earlier ones stands twice
pub stands_twice : (types : List TypeLine) (own : ℕ) (line : TypeLine) → slice_get types own ≡ Some line → ((n : ℕ) × (slice_get (take own types) n ≡ Some line)) → IsTypeTable types → ⊥
stands_twice types own line is h t =
    let back = take_back types own h.0 line h.1 in
    let same = t.once h.0 own line back.1 is in
    omega (arith, same, back.0)
