-- The number of a name among those before it and one more.
use Rattle.std.proofs.Common.{◌≡◌, ◌∙◌, ℕ, suc, ◌+◌, Bool, true, false, cond, not, ◌||◌, List, [], ◌∷◌, ◌++◌, length, if◌then◌else◌, map, refl, sym, ap, subst, arith, eqb}
use Rattle.std.specs.Prelude.{Option, Some, None}
use Rattle.std.specs.List.{list_any, position_or_len}
use Rattle.std.specs.Global.{Vec}
use Rattle.std.specs.Ordering.{is_eq, nat_cmp}
use Rattle.std.specs.Cmp.Lexicographic.{slice_cmp}
use Rattle.std.proofs.lemmas.Map.Text.{is_eq-slice_cmp}
use Rattle.std.specs.Str.{bytes_eq}
use Rattle.std.proofs.lemmas.List.{map-append}
use Rattle.std.proofs.lemmas.List.Folds.{list_any-append, position_or_len_push}
use Rattle.std.proofs.lemmas.Slice.Eq.{bytes_eq-Decides}
use Rattle.m5_tree.specs.Names.{number_of}
use Rattle.m5_tree.specs.code.Named.{found}

module _ {X : Type 0} (p : X → Bool) where
  absent_cons : (b c : Bool) (n m : ℕ) → (b || c) ≡ false → (c ≡ false → n ≡ m) → cond (not b) (1 + n) 0 ≡ suc m
  absent_cons true c n m e h = absurd (cc)
  absent_cons false c n m e h = omega (arith, h e)

  -- where none passes, the first place that passes is the length
  pub absent : (xs : List X) → list_any p xs ≡ false → position_or_len p xs ≡ length xs
  absent [] e = refl
  absent (x ∷ xs) e = absent_cons (p x) (list_any p xs) (position_or_len p xs) (length xs) e (absent xs)

  kept_cons : (b c : Bool) (n m : ℕ) → (b || c) ≡ true → (c ≡ true → n ≡ m) → cond (not b) (1 + n) 0 ≡ cond (not b) (1 + m) 0
  kept_cons true c n m e h = refl
  kept_cons false c n m e h = ap (λ k. 1 + k) (h e)

  -- one more behind does not change the first that passes
  pub kept : (xs : List X) (y : X) → list_any p xs ≡ true → position_or_len p (xs ++ y ∷ []) ≡ position_or_len p xs
  kept [] y e = absurd (cc)
  kept (x ∷ xs) y e = kept_cons (p x) (list_any p xs) (position_or_len p (xs ++ y ∷ [])) (position_or_len p xs) e (kept xs y)

missing : (b : Bool) (n : ℕ) → (if b then Some n else None) ≡ None → b ≡ false
missing true n e = absurd (cc)
missing false n e = refl

pub new_number : (xs : List (List ℕ)) (x : List ℕ) → found xs x ≡ None → length xs ≡ number_of xs x
new_number xs x e = sym (absent (bytes_eq x) xs (missing (list_any (bytes_eq x) xs) (number_of xs x) e))

apart : (k x : List ℕ) → (bytes_eq k x ≡ true → ⊥) → bytes_eq k x ≡ false
apart k x h = elim (bytes_eq k x) as (λ b. (b ≡ true → ⊥) → b ≡ false) [ true ↦ (λ g. absurd (g refl)) | false ↦ (λ g. refl) ] h

or_false : (b c : Bool) → c ≡ false → (b || (c || false)) ≡ b
or_false true c e = refl
or_false false c e = rw e refl

either : (b : Bool) (j k m : ℕ) → j ≡ m → k ≡ m → cond b j k ≡ m
either true j k m e f = e
either false j k m e f = f

behind : (n m : ℕ) (b : Bool) → n ≡ m → b ≡ true → cond (eqb n m) (m + cond b 0 1) n ≡ m
behind n m b e f = either (eqb n m) (m + cond b 0 1) n m (rw f (omega arith)) e

of_any : (b c : Bool) (n m k : ℕ) → (b ≡ true → n ≡ k) → b ≡ c → (if b then Some n else None) ≡ (if c then Some k else None)
of_any true true n m k h e = ap Some (h refl)
of_any false false n m k h e = refl
of_any true false n m k h e = absurd (cc)
of_any false true n m k h e = absurd (cc)

-- with one more behind, its number is the length, and others keep theirs
pub found_push : (xs : List (List ℕ)) (x k : List ℕ) (b : Bool) → bytes_eq x k ≡ b → list_any (bytes_eq x) xs ≡ false → found (xs ++ x ∷ []) k ≡ cond b (Some (length xs)) (found xs k)
found_push xs x k true e f =
    let same : x ≡ k = (bytes_eq-Decides x k).0 e in
    subst (λ y. found (xs ++ x ∷ []) y ≡ Some (length xs)) same
    (let has : list_any (bytes_eq x) (xs ++ x ∷ []) ≡ true = list_any-append (bytes_eq x) xs (x ∷ []) ∙ rw (f, (bytes_eq-Decides x x).1 refl) refl in
    let n : number_of (xs ++ x ∷ []) x ≡ length xs = position_or_len_push (bytes_eq x) xs x ∙ behind (number_of xs x) (length xs) (bytes_eq x x) (absent (bytes_eq x) xs f) ((bytes_eq-Decides x x).1 refl) in
    rw (has, n) refl)
found_push xs x k false e f =
    let other : bytes_eq k x ≡ false = apart k x (λ g. absurd (let e2 : bytes_eq x k ≡ true = (bytes_eq-Decides x k).1 (sym ((bytes_eq-Decides k x).0 g)) in cc)) in
    let has : list_any (bytes_eq k) (xs ++ x ∷ []) ≡ list_any (bytes_eq k) xs = list_any-append (bytes_eq k) xs (x ∷ []) ∙ or_false (list_any (bytes_eq k) xs) (bytes_eq k x) other in
    sym (of_any (list_any (bytes_eq k) xs) (list_any (bytes_eq k) (xs ++ x ∷ [])) (number_of xs k) 0 (number_of (xs ++ x ∷ []) k) (λ h. sym (kept (bytes_eq k) xs x h)) (sym has))

abbrev pub spelled : List (Vec ℕ) → List (List ℕ)
spelled vs = map (λ v. v.items) vs

-- what the map finds once a new name has its number
pub pushed : (vs : List (Vec ℕ)) (v key k : Vec ℕ) (n : ℕ) (before after : Option ℕ) → v.items ≡ key.items → n ≡ length (spelled vs) → found (spelled vs) key.items ≡ None
    → before ≡ found (spelled vs) k.items → after ≡ cond (is_eq (slice_cmp nat_cmp key.items k.items)) (Some n) before → after ≡ found (spelled (vs ++ v ∷ [])) k.items
pushed vs v key k n before after same count none old new =
    new ∙ rw (is_eq-slice_cmp key.items k.items, old, count)
    (sym (rw (map-append (λ (w : Vec ℕ). w.items) vs (v ∷ []), same) (found_push (spelled vs) key.items k.items (bytes_eq key.items k.items) refl (missing (list_any (bytes_eq key.items) (spelled vs)) (number_of (spelled vs) key.items) none))))
