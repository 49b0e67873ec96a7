-- One value more in lists that spell an array's fields.
use Rattle.std.proofs.Common.{◌≡◌, ℕ, zero, suc, ◌+◌, ◌*◌, ◌<◌, replicate, arith, ◌∙◌, List, [], ◌∷◌, ◌++◌, length, map, take, refl, ap, sym, append_assoc, append-nil, get_or}
use Rattle.std.specs.List.{flat_map}
use Rattle.std.proofs.lemmas.List.{take_more, map_more}
use Rattle.std.proofs.lemmas.List.Concat.{flat_map-append}
use Rattle.m5_region.specs.declared.value.Value.{Value}
use Rattle.m5_region.specs.declared.value.Value.TheVariants.{Null}
use Rattle.m5_region.specs.Units.{kind_of}
use Rattle.m5_region.specs.Layout.{word_of}

pub kinds_more : (front now new : List ℕ) (vs : List Value) (i k : ℕ) → i < length vs → now ≡ front ++ (5 ∷ map kind_of (take i vs)) → new ≡ now ++ k ∷ [] → k ≡ kind_of (get_or vs i Null) → new ≡ front ++ (5 ∷ map kind_of (take (i + 1) vs))
kinds_more front now new vs i k h now_is new_is k_is =
    new_is ∙ ap (λ (x : List ℕ). x ++ k ∷ []) now_is ∙ append_assoc front (5 ∷ map kind_of (take i vs)) (k ∷ [])
    ∙ ap (λ (x : List ℕ). front ++ (5 ∷ x)) (ap (λ (j : ℕ). map kind_of (take i vs) ++ j ∷ []) k_is ∙ sym (map_more kind_of vs i Null h))

spelled_more : (f : Value → List ℕ) (vs : List Value) (i : ℕ) → i < length vs → flat_map f (take i vs) ++ f (get_or vs i Null) ≡ flat_map f (take (i + 1) vs)
spelled_more f vs i h =
    ap (λ (x : List ℕ). flat_map f (take i vs) ++ x) (sym (append-nil (f (get_or vs i Null))))
    ∙ sym (flat_map-append f (take i vs) (get_or vs i Null ∷ []))
    ∙ ap (flat_map f) (sym (take_more vs i Null h))

pub content_more : (f : Value → List ℕ) (front head now new more : List ℕ) (vs : List Value) (i : ℕ) → i < length vs → now ≡ front ++ (head ++ flat_map f (take i vs)) → new ≡ now ++ more → more ≡ f (get_or vs i Null) → new ≡ front ++ (head ++ flat_map f (take (i + 1) vs))
content_more f front head now new more vs i h now_is new_is more_is =
    new_is ∙ ap (λ (x : List ℕ). x ++ more) now_is ∙ append_assoc front (head ++ flat_map f (take i vs)) more
    ∙ ap (λ (x : List ℕ). front ++ x) (append_assoc head (flat_map f (take i vs)) more ∙ ap (λ (x : List ℕ). head ++ x) (ap (λ (x : List ℕ). flat_map f (take i vs) ++ x) more_is ∙ spelled_more f vs i h))

pub null_kinds : (n : ℕ) → map kind_of (replicate n Null) ≡ replicate n 0
null_kinds zero = refl
null_kinds (suc n) = ap (λ (x : List ℕ). 0 ∷ x) (null_kinds n)

eight : (n : ℕ) → suc (suc (suc (suc (suc (suc (suc (suc (8 * n)))))))) ≡ 8 * suc n
eight n = omega arith

pub null_words : (n : ℕ) → flat_map word_of (replicate n Null) ≡ replicate (8 * n) 0
null_words zero = refl
null_words (suc n) = ap (λ (x : List ℕ). 0 ∷ 0 ∷ 0 ∷ 0 ∷ 0 ∷ 0 ∷ 0 ∷ 0 ∷ x) (null_words n) ∙ ap (λ (m : ℕ). replicate m 0) (eight n)

-- what two calls in turn add
pub two_more : (old now new a b c : List ℕ) → now ≡ old ++ a → new ≡ now ++ b → a ++ b ≡ c → new ≡ old ++ c
two_more old now new a b c p q e = q ∙ ap (λ (x : List ℕ). x ++ b) p ∙ append_assoc old a b ∙ ap (λ (x : List ℕ). old ++ x) e
