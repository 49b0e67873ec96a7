-- Tests of items, said of what the items hold.
use Rattle.std.proofs.Common.{◌≡◌, ◌+◌, ◌<◌, ◌^◌, eqb, get_or, arith, Bool, true, false, cond, not, ◌||◌, List, [], ◌∷◌, ◌++◌, if◌then◌else◌, map, None, ℕ, refl, ap, ◌∙◌}
use Rattle.std.specs.List.{list_any, prefix_len, position, position_from, AllPass}
use Rattle.std.specs.Fmt.{decimal}
use Rattle.std.specs.Str.{bytes_eq}
use Rattle.std.specs.Str.Parse.{AllDigits}
use Rattle.std.proofs.lemmas.Bool.Decides.{nat_tests}
use Rattle.std.proofs.lemmas.Fmt.{decimal_is_IsNumeral}
use Rattle.std.proofs.lemmas.List.Elements.{All-cons, All-append}
use Rattle.std.proofs.lemmas.List.Folds.{list_any-append}
use Rattle.std.proofs.lemmas.Slice.Eq.{bytes_eq-Decides}
use Rattle.std.proofs.lemmas.Str.Parse.{digit_from_value}
use Rattle.m5_lex.specs.Alphabet.{is_letter, is_name_byte, keywords}
use Rattle.m5_lex.specs.Token.{IsName}
use Rattle.m5_poly.specs.Expansion.{instance_name}
use Rattle.std.proofs.lemmas.List.{map-append, length-map}

pub any_map : {X Y : Type 0} (f : X → Y) (p : Y → Bool) (xs : List X) → list_any p (map f xs) ≡ list_any (λ x. p (f x)) xs
any_map f p [] = refl
any_map f p (x ∷ xs) = ap (λ b. p (f x) || b) (any_map f p xs)

prefix_map : {X Y : Type 0} (f : X → Y) (p : Y → Bool) (xs : List X) → prefix_len p (map f xs) ≡ prefix_len (λ x. p (f x)) xs
prefix_map f p [] = refl
prefix_map f p (x ∷ xs) = ap (λ n. cond (p (f x)) (1 + n) 0) (prefix_map f p xs)

pub place_map : {X Y : Type 0} (f : X → Y) (p : Y → Bool) (xs : List X) → position p (map f xs) ≡ position (λ x. p (f x)) xs
place_map f p xs = rw (prefix_map f (λ y. not (p y)) xs, length-map xs f) refl

pub insert_map : {X Y : Type 0} (f : X → Y) (b : Bool) (xs : List X) (x : X) → map f (if b then xs else xs ++ x ∷ []) ≡ (if b then map f xs else map f xs ++ f x ∷ [])
insert_map f b xs x = elim b as (λ v. map f (if v then xs else xs ++ x ∷ []) ≡ (if v then map f xs else map f xs ++ f x ∷ [])) [ true ↦ refl | false ↦ map-append f xs (x ∷ []) ]

-- ---- names of instances

abbrev is_quote : ℕ → Bool
is_quote x = eqb x 39

both_quoted : (w text : List ℕ) → list_any is_quote w ≡ false → list_any is_quote text ≡ true → bytes_eq w text ≡ false
both_quoted w text plain quoted = at (bytes_eq w text) refl
  where
    at : (b : Bool) → bytes_eq w text ≡ b → b ≡ false
    at true h = absurd (let same : w ≡ text = (bytes_eq-Decides w text).0 h in let both = rw same at plain in cc)
    at false h = refl

no_quotes_from : (text : List ℕ) (words : List (List ℕ)) (i : ℕ) → list_any is_quote text ≡ true → list_any (λ w. list_any is_quote w) words ≡ false
    → position_from (λ w. bytes_eq w text) i words ≡ None
no_quotes_from text [] i quoted plain = refl
no_quotes_from text (w ∷ ws) i quoted plain =
    let parts = neither (list_any is_quote w) (list_any (λ v. list_any is_quote v) ws) plain in
    rw (both_quoted w text parts.0 quoted) (no_quotes_from text ws (i + 1) quoted parts.1)
  where
    neither : (a b : Bool) → a || b ≡ false → (a ≡ false) × (b ≡ false)
    neither true b h = absurd cc
    neither false b h = (refl, h)

keywords_unquoted : list_any (λ w. list_any is_quote w) keywords ≡ false
unfolding keywords
keywords_unquoted = refl

digits_pass : (ds : List ℕ) → AllDigits 10 ds → AllPass is_name_byte ds
digits_pass [] h = λ k d l. absurd (omega arith)
digits_pass (x ∷ ds) h = All-cons (λ y. is_name_byte y ≡ true) x ds (let within = digit_from_value x h.0 in grind (arith, nat_tests)) (digits_pass ds h.1)

quotes_pass : AllPass is_name_byte (39 ∷ 39 ∷ [])
quotes_pass = All-cons (λ y. is_name_byte y ≡ true) 39 (39 ∷ []) refl (All-cons (λ y. is_name_byte y ≡ true) 39 [] refl (λ k d l. absurd (omega arith)))

first_of : (name more : List ℕ) → is_letter (get_or name 0 0) ≡ true → is_letter (get_or (name ++ more) 0 0) ≡ true
first_of [] more h = absurd cc
first_of (x ∷ name) more h = h

true-right : (b : Bool) → b || true ≡ true
true-right true = refl
true-right false = refl

-- a name, two quotes and a number are a name
pub instance_is_name : (name : List ℕ) (k : ℕ) → IsName name → k < 2 ^ 64 → IsName (instance_name name k)
instance_is_name name k h few = record {
  first = first_of (name ++ 39 ∷ 39 ∷ []) (decimal k) (first_of name (39 ∷ 39 ∷ []) h.first);
  all = All-append (λ y. is_name_byte y ≡ true) (name ++ 39 ∷ 39 ∷ []) (decimal k)
      (All-append (λ y. is_name_byte y ≡ true) name (39 ∷ 39 ∷ []) h.all quotes_pass) (digits_pass (decimal k) (decimal_is_IsNumeral k few).0.1);
  free = no_quotes_from (instance_name name k) keywords 0
      (list_any-append is_quote (name ++ 39 ∷ 39 ∷ []) (decimal k)
      ∙ ap (λ b. b || list_any is_quote (decimal k)) (list_any-append is_quote name (39 ∷ 39 ∷ []) ∙ true-right (list_any is_quote name)))
      keywords_unquoted;
}
