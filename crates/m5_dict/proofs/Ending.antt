-- What stands once a line is added, where that did not fail.
use Rattle.std.proofs.Common.{◌+◌, ◌<◌, zero, suc, [], ◌∷◌, ◌++◌, map, take, length, get_or, subst, refl, ap, arith, ◌≡◌, ℕ, List, Ok, Err, Result, Some, slice_get}
use Rattle.std.specs.Prelude.{IfOk, OnOk}
use Rattle.std.specs.List.{AllZip}
use Rattle.m5_dictionary.specs.declared.line.TypeLine.{TypeLine}
use Rattle.m5_dictionary.specs.declared.line.TypeLine.TheVariants as lines
use Rattle.m5_dict.specs.Lines.{Grows, IsCallLine}
use Rattle.m5_dict.specs.Standing.{Sent, pair, sum, list, fun, Stands}
use Rattle.m5_dict.proofs.Growing.{stay, grows_on}

-- a function's pair stands
pub called : (S T : Sent) (L M N : List TypeLine) (j k i : ℕ) → Stands L j S → Grows L M → Stands M k T → IsCallLine N i j k → Grows M N → Stands N i (pair S (fun T))
called S T L M N j k i s g t e h = record { first = j; second = e.continuation; is = e.pair; first_stands = stay S L N j (grows_on L M N g h) s; second_stands = record { part = k; is = e.fun; stands = stay T M N k h t } }

module _ {E : Type 0} (S T : Sent) (L M N : List TypeLine) (j k : ℕ) where
  pub ok_pair : (r : Result ℕ E) → Stands L j S → Grows L M → Stands M k T → IfOk r (λ i. slice_get N i ≡ Some (lines.Pair j k)) → OnOk r (Grows M N) → IfOk r (λ i. Stands N i (pair S T))
  ok_pair (Ok i) s g t e h = record { first = j; second = k; is = e; first_stands = stay S L N j (grows_on L M N g h) s; second_stands = stay T M N k h t }
  ok_pair (Err x) s g t e h = e

  pub ok_sum : (r : Result ℕ E) → Stands L j S → Grows L M → Stands M k T → IfOk r (λ i. slice_get N i ≡ Some (lines.Sum j k)) → OnOk r (Grows M N) → IfOk r (λ i. Stands N i (sum S T))
  ok_sum (Ok i) s g t e h = record { first = j; second = k; is = e; first_stands = stay S L N j (grows_on L M N g h) s; second_stands = stay T M N k h t }
  ok_sum (Err x) s g t e h = e

  pub ok_call : (r : Result ℕ E) → Stands L j S → Grows L M → Stands M k T → IfOk r (λ i. IsCallLine N i j k) → OnOk r (Grows M N) → IfOk r (λ i. Stands N i (pair S (fun T)))
  ok_call (Ok i) s g t e h = called S T L M N j k i s g t e h
  ok_call (Err x) s g t e h = e

module _ {E : Type 0} (S : Sent) (L N : List TypeLine) (j : ℕ) where
  pub ok_list : (r : Result ℕ E) → Stands L j S → IfOk r (λ i. slice_get N i ≡ Some (lines.List j)) → OnOk r (Grows L N) → IfOk r (λ i. Stands N i (list S))
  ok_list (Ok i) s e h = record { part = j; is = e; stands = stay S L N j h s }
  ok_list (Err x) s e h = e

  pub ok_fun : (r : Result ℕ E) → Stands L j S → IfOk r (λ i. slice_get N i ≡ Some (lines.Fun j)) → OnOk r (Grows L N) → IfOk r (λ i. Stands N i (fun S))
  ok_fun (Ok i) s e h = record { part = j; is = e; stands = stay S L N j h s }
  ok_fun (Err x) s e h = e

-- one id more, for one thing more
pub zip_more : {A : Type 0} (f : A → Sent) (L M : List TypeLine) (is : List ℕ) (j : ℕ) (xs : List A) (n : ℕ) (d : A) → AllZip (Stands L) is (map f (take n xs)) → Grows L M → n < length xs → Stands M j (f (get_or xs n d)) → AllZip (Stands M) (is ++ j ∷ []) (map f (take (suc n) xs))
zip_more f L M is j [] n d z g lt s = absurd (omega arith)
zip_more f L M [] j (x ∷ xs) zero d z g lt s = (s, tt)
zip_more f L M [] j (x ∷ xs) (suc n) d z g lt s = absurd z
zip_more f L M (i ∷ is) j (x ∷ xs) zero d z g lt s = absurd z
zip_more f L M (i ∷ is) j (x ∷ xs) (suc n) d z g lt s = (stay (f x) L M i g z.0, zip_more f L M is j xs n d z.1 g (omega (arith, lt)) s)

pub zip_next : {A : Type 0} (f : A → Sent) (L M : List TypeLine) (is : List ℕ) (j : ℕ) (xs : List A) (n : ℕ) (d : A) → AllZip (Stands L) is (map f (take n xs)) → Grows L M → n < length xs → Stands M j (f (get_or xs n d)) → AllZip (Stands M) (is ++ j ∷ []) (map f (take (n + 1) xs))
zip_next f L M is j xs n d z g lt s =
    let e : suc n ≡ n + 1 = omega arith in
    subst (λ k. AllZip (Stands M) (is ++ j ∷ []) (map f (take k xs))) e (zip_more f L M is j xs n d z g lt s)

pub map_twice : {A B C : Type 0} (f : B → C) (g : A → B) (xs : List A) → map (λ x. f (g x)) xs ≡ map f (map g xs)
map_twice f g [] = refl
map_twice f g (x ∷ xs) = ap (λ ys. f (g x) ∷ ys) (map_twice f g xs)
