-- What stands still stands where lines are added behind.
use Rattle.std.proofs.Common.{◌≡◌, ◌∙◌, ℕ, zero, suc, ◌<◌, ◌+◌, List, [], ◌∷◌, ◌++◌, length, Some, None, slice_get, sym, ap, subst, refl, arith, inl, inr, ◌⊎◌}
use Rattle.std.specs.List.{AllZip}
use Rattle.std.proofs.lemmas.Option.{slice_get_within}
use Rattle.m5_terms.specs.TypeExpression.{TypeExpression}
use Rattle.m5_cps.specs.TypesByNumber.{type_in}
use Rattle.m5_dictionary.specs.declared.line.TypeLine.{TypeLine}
use Rattle.m5_dict.specs.Lines.{Grows}
use Rattle.m5_dict.specs.Standing.{Sent, unit, bool, int, text, pair, sum, list, fun, cell, address, Stands, type_target}
use Rattle.m5_dict.specs.Known.{Knows}

pub before : {A : Type 0} (xs ys : List A) (n : ℕ) (x : A) → slice_get xs n ≡ Some x → slice_get (xs ++ ys) n ≡ Some x
before [] ys n x e = absurd (let none : None ≡ Some x = e in cc)
before (y ∷ xs) ys zero x e = e
before (y ∷ xs) ys (suc n) x e = before xs ys n x e

pub still : (L M : List TypeLine) (n : ℕ) (x : TypeLine) → Grows L M → slice_get L n ≡ Some x → slice_get M n ≡ Some x
still L M n x g e = ap (λ K. slice_get K n) g.is ∙ before L g.more n x e

pub stay : (T : Sent) (L M : List TypeLine) (i : ℕ) → Grows L M → Stands L i T → Stands M i T
stay unit L M i g h = still L M i _ g h
stay bool L M i g h = still L M i _ g h
stay int L M i g h = still L M i _ g h
stay text L M i g h = still L M i _ g h
stay (pair S T) L M i g h = record { first = h.first; second = h.second; is = still L M i _ g h.is; first_stands = stay S L M h.first g h.first_stands; second_stands = stay T L M h.second g h.second_stands }
stay (sum S T) L M i g h = record { first = h.first; second = h.second; is = still L M i _ g h.is; first_stands = stay S L M h.first g h.first_stands; second_stands = stay T L M h.second g h.second_stands }
stay (list T) L M i g h = record { part = h.part; is = still L M i _ g h.is; stands = stay T L M h.part g h.stands }
stay (fun T) L M i g h = record { part = h.part; is = still L M i _ g h.is; stands = stay T L M h.part g h.stands }
stay cell L M i g h = still L M i _ g h
stay (address w) L M i g h = still L M i _ g h

pub stay_all : (L M : List TypeLine) (is : List ℕ) (Ts : List Sent) → Grows L M → AllZip (Stands L) is Ts → AllZip (Stands M) is Ts
stay_all L M [] [] g h = h
stay_all L M [] (T ∷ Ts) g h = absurd h
stay_all L M (i ∷ is) [] g h = absurd h
stay_all L M (i ∷ is) (T ∷ Ts) g h = (stay T L M i g h.0, stay_all L M is Ts g h.1)

pub within : (T : Sent) (L : List TypeLine) (i : ℕ) → Stands L i T → i < length L
within unit L i h = slice_get_within L i _ h
within bool L i h = slice_get_within L i _ h
within int L i h = slice_get_within L i _ h
within text L i h = slice_get_within L i _ h
within (pair S T) L i h = slice_get_within L i _ h.is
within (sum S T) L i h = slice_get_within L i _ h.is
within (list T) L i h = slice_get_within L i _ h.is
within (fun T) L i h = slice_get_within L i _ h.is
within cell L i h = slice_get_within L i _ h
within (address w) L i h = slice_get_within L i _ h

append_nil : {A : Type 0} (xs : List A) → xs ≡ xs ++ []
append_nil [] = refl
append_nil (x ∷ xs) = ap (λ ys. x ∷ ys) (append_nil xs)

append_twice : {A : Type 0} (xs ys zs : List A) → (xs ++ ys) ++ zs ≡ xs ++ (ys ++ zs)
append_twice [] ys zs = refl
append_twice (x ∷ xs) ys zs = ap (λ ws. x ∷ ws) (append_twice xs ys zs)

pub grows_not : (L M : List TypeLine) → M ≡ L → Grows L M
grows_not L M e = record { more = []; is = e ∙ append_nil L }

pub grows_on : (L M N : List TypeLine) → Grows L M → Grows M N → Grows L N
grows_on L M N g h = record { more = g.more ++ h.more; is = h.is ∙ ap (λ K. K ++ h.more) g.is ∙ append_twice L g.more h.more }

pub none_is : {A : Type 0} (x : A) → None ≡ Some x → ⊥
none_is x e = cc

-- where an item of a list with one more is
pub behind : {A : Type 0} (xs : List A) (x y : A) (n : ℕ) → slice_get (xs ++ x ∷ []) n ≡ Some y → (slice_get xs n ≡ Some y) ⊎ ((n ≡ length xs) × (y ≡ x))
behind [] x y zero e = inr (refl, (cc))
behind [] x y (suc n) e = absurd (none_is y e)
behind (z ∷ xs) x y zero e = inl e
behind (z ∷ xs) x y (suc n) e = elim (behind xs x y n e) [ inl h ↦ inl h | inr h ↦ inr (ap suc h.0, h.1) ]

-- what is known stays known
pub know_on : (ts : List TypeExpression) (L M : List TypeLine) (is : List ℕ) → Grows L M → Knows ts L is → Knows ts M is
know_on ts L M is g k = record { each = λ n i e. stay (type_target (type_in ts n)) L M i g (k.each n i e) }

pub know_none : (ts : List TypeExpression) (L : List TypeLine) → Knows ts L []
know_none ts L = record { each = λ n i e. absurd (none_is i e) }

-- and the next type
pub know_more : (ts : List TypeExpression) (L M : List TypeLine) (is : List ℕ) (i n : ℕ) → Grows L M → Knows ts L is → length is ≡ n → Stands M i (type_target (type_in ts n)) → Knows ts M (is ++ i ∷ [])
know_more ts L M is i n g k long s = record {
  each = λ m j e. elim (behind is i j m e) [
    | inl h ↦ stay (type_target (type_in ts m)) L M j g (k.each m j h)
    | inr h ↦ subst (λ l. Stands M j (type_target (type_in ts l))) (sym (h.0 ∙ long)) (subst (λ v. Stands M v (type_target (type_in ts n))) (sym h.1) s)
  ];
}

pub one_longer : {A : Type 0} (xs : List A) (x : A) (n : ℕ) → length xs ≡ n → length (xs ++ x ∷ []) ≡ n + 1
one_longer {A = A} xs x n e = let more : length (xs ++ x ∷ []) ≡ suc (length xs) = last xs in omega (arith, more, e)
  where
    last : (ys : List A) → length (ys ++ x ∷ []) ≡ suc (length ys)
    last [] = refl
    last (y ∷ ys) = ap suc (last ys)
