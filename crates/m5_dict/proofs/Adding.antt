-- A line more, where it is not among the others.
use Rattle.std.proofs.Common.{◌≡◌, ◌∙◌, ℕ, zero, suc, ◌<◌, ◌^◌, Bool, true, false, ◌||◌, List, [], ◌∷◌, ◌++◌, length, map, if◌then◌else◌, Some, slice_get, sym, ap, subst, refl, arith, inl, inr}
use Rattle.std.specs.List.{list_any}
use Rattle.std.proofs.lemmas.List.{map-append}
use Rattle.indexmap.specs.IndexSet.{insert_key}
use Rattle.m5_dictionary.specs.declared.line.TypeLine.{TypeLine}
use Rattle.m5_dictionary.specs.Dictionaries.{IsLine, IsTypeTable}
use Rattle.m5_dict.specs.Lines.{line_of, Grows}
use Rattle.m5_dict.proofs.Growing.{grows_not, none_is, behind}
use Rattle.m5_dict.specs.declared.target.Target.{Target}
use Rattle.m5_dict.specs.declared.target.Target.TheVariants as targets
use Rattle.m5_dict.specs.contracts.target.TargetPartialEq as equality

abbrev pub eq : Target → Target → Bool
eq = equality.TheImpl.ghosts.eq

pub itself : (a : Target) → eq a a ≡ true
itself targets.Unit = refl
itself targets.Bool = refl
itself targets.Int = refl
itself targets.Text = refl
itself (targets.Pair i j) = grind arith
itself (targets.Sum i j) = grind arith
itself (targets.List i) = grind arith
itself (targets.Fun i) = grind arith
itself targets.Cell = refl
itself targets.AddrHome = refl
itself targets.AddrServer = refl
itself targets.AddrPanel = refl

equal : (a b : Target) → eq a b ≡ true → a ≡ b
equal a b e = grind arith

one_line : (a b : Target) → line_of a ≡ line_of b → a ≡ b
one_line a b e = grind arith

unlisted : (ks : List Target) (k : Target) (n : ℕ) → slice_get ks n ≡ Some k → list_any (eq k) ks ≡ false → ⊥
unlisted [] k n e f = none_is k e
unlisted (t ∷ ks) k zero e f = (let same : t ≡ k = (cc) in let yes : eq k t ≡ true = subst (λ u. eq k u ≡ true) (sym same) (itself k) in clash (eq k t) (list_any (eq k) ks) yes f)
  where
    clash : (b c : Bool) → b ≡ true → (b || c) ≡ false → ⊥
    clash true c e f = absurd (cc)
    clash false c e f = absurd (cc)
unlisted (t ∷ ks) k (suc n) e f = unlisted ks k n e (rest (eq k t) (list_any (eq k) ks) f)
  where
    rest : (b c : Bool) → (b || c) ≡ false → c ≡ false
    rest true c f = absurd (cc)
    rest false c f = f

line_back : (ks : List Target) (n : ℕ) (x : TypeLine) → slice_get (map line_of ks) n ≡ Some x → (t : Target) × (slice_get ks n ≡ Some t) × (line_of t ≡ x)
line_back [] n x e = absurd (none_is x e)
line_back (t ∷ ks) zero x e = (t, refl, (cc))
line_back (t ∷ ks) (suc n) x e = line_back ks n x e

pub line_forth : (ks : List Target) (n : ℕ) (t : Target) → slice_get ks n ≡ Some t → slice_get (map line_of ks) n ≡ Some (line_of t)
line_forth [] n t e = absurd (none_is t e)
line_forth (u ∷ ks) zero t e = ap Some (ap line_of (let same : u ≡ t = (cc) in same))
line_forth (u ∷ ks) (suc n) t e = line_forth ks n t e

table_more : (L : List TypeLine) (x : TypeLine) → IsTypeTable L → IsLine (length L) x → length (L ++ x ∷ []) < 2 ^ 32 → ((n : ℕ) → slice_get L n ≡ Some x → ⊥) → IsTypeTable (L ++ x ∷ [])
table_more L x h good few new = record {
  few = few;
  lines = λ n y e. elim (behind L x y n e) [ inl old ↦ h.lines n y old | inr last ↦ subst (λ k. IsLine k y) (sym last.0) (subst (IsLine (length L)) (sym last.1) good) ];
  once = λ m n y d e. elim (behind L x y m d) [
    | inl a ↦ elim (behind L x y n e) [ inl b ↦ h.once m n y a b | inr b ↦ absurd (new m (subst (λ z. slice_get L m ≡ Some z) b.1 a)) ]
    | inr a ↦ elim (behind L x y n e) [ inl b ↦ absurd (new n (subst (λ z. slice_get L n ≡ Some z) a.1 b)) | inr b ↦ a.0 ∙ sym b.0 ]
  ];
}

longer : (xs : List Target) (k : Target) → length (map line_of xs ++ line_of k ∷ []) ≡ suc (length xs)
longer [] k = refl
longer (x ∷ xs) k = ap suc (longer xs k)

room : (xs : List Target) (k : Target) → length xs < 4294967295 → length (map line_of xs ++ line_of k ∷ []) < 2 ^ 32
room xs k h = let e : length (map line_of xs ++ line_of k ∷ []) ≡ suc (length xs) = longer xs k in omega (arith, e)

pub added : (ks : List Target) (k : Target) → IsTypeTable (map line_of ks) → IsLine (length (map line_of ks)) (line_of k) → length ks < 4294967295 → IsTypeTable (map line_of (insert_key eq ks k))
added ks k h good few = go (list_any (eq k) ks) refl
  where
    go : (b : Bool) → list_any (eq k) ks ≡ b → IsTypeTable (map line_of (if b then ks else ks ++ k ∷ []))
    go true e = h
    go false e = rw (map-append line_of ks (k ∷ [])) (table_more (map line_of ks) (line_of k) h good (room ks k few)
        (λ n is. let t = line_back ks n (line_of k) is in unlisted ks k n (t.1 ∙ ap Some (one_line t.0 k t.2)) e))

pub grown : (ks : List Target) (k : Target) → Grows (map line_of ks) (map line_of (insert_key eq ks k))
grown ks k = go (list_any (eq k) ks)
  where
    go : (b : Bool) → Grows (map line_of ks) (map line_of (if b then ks else ks ++ k ∷ []))
    go true = grows_not (map line_of ks) (map line_of ks) refl
    go false = record { more = line_of k ∷ []; is = map-append line_of ks (k ∷ []) }

pub stored : (ks : List Target) (k t : Target) (n : ℕ) → slice_get ks n ≡ Some t → eq k t ≡ true → slice_get (map line_of ks) n ≡ Some (line_of k)
stored ks k t n e f = line_forth ks n t e ∙ ap Some (ap line_of (sym (equal k t f)))
