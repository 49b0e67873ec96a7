-- How a walk goes on.
use Rattle.std.proofs.Common.{◌≡◌, ℕ, zero, suc, ◌+◌, ◌<◌, Bool, true, false, eqb, ◌||◌, List, [], ◌∷◌, ◌++◌, length, take, drop, Option, Some, None, slice_get, if◌then◌else◌, refl, ap, sym, arith}
use Rattle.std.proofs.lemmas.Bool.Decides.{nat_tests}
use Rattle.std.specs.Prelude.{nat_lt}
use Rattle.std.specs.List.{list_any}
use Rattle.std.specs.Str.{bytes_eq}
use Rattle.m5_lex.specs.declared.tokens.Placed.{Placed}
use Rattle.m5_terms.specs.Outcome.{Outcome, found, fault, and_then, IsFault}
use Rattle.m5_poly.specs.declared.end.PolyEnd.{PolyEnd}
use Rattle.m5_poly.specs.declared.end.PolyEnd.TheVariants as end
use Rattle.m5_poly.specs.Survey.{Generic}
use Rattle.m5_poly.specs.Uses.{Scope, Bracketed, use_at, is_own, may_use, outside, key_of}
use Rattle.m5_poly.specs.Walk.{State, Use, Walk, counted, all_counted, walked, made_by, making, asked, Made, head, inside_of, sections_walked}
use Rattle.m5_poly.specs.code.Walking.{walk_of, walked_here, used_here, made_here, instance_here}

-- ---- counting

pub counted_after : (s : Scope) (xs ys : List Placed) (st a : State) → all_counted s xs st ≡ found a → all_counted s (xs ++ ys) st ≡ all_counted s ys a
counted_after s [] ys st a h = let same : st ≡ a = cc in ap (all_counted s ys) same
counted_after s (x ∷ xs) ys st a h = at (λ b. counted_after s xs ys b a) (counted s x st) h
  where
    at : ((b : State) → all_counted s xs b ≡ found a → all_counted s (xs ++ ys) b ≡ all_counted s ys a)
        → (o : Outcome State PolyEnd) → and_then o (all_counted s xs) ≡ found a → and_then o (all_counted s (xs ++ ys)) ≡ all_counted s ys a
    at later (found b) k = later b k
    at later (fault e) k = absurd cc

pub counted_not : (s : Scope) (xs ys : List Placed) (st : State) (e : PolyEnd) → all_counted s xs st ≡ fault e → all_counted s (xs ++ ys) st ≡ fault e
counted_not s [] ys st e h = absurd cc
counted_not s (x ∷ xs) ys st e h = at (λ b. counted_not s xs ys b e) (counted s x st) h
  where
    at : ((b : State) → all_counted s xs b ≡ fault e → all_counted s (xs ++ ys) b ≡ fault e)
        → (o : Outcome State PolyEnd) → and_then o (all_counted s xs) ≡ fault e → and_then o (all_counted s (xs ++ ys)) ≡ fault e
    at later (found b) k = later b k
    at later (fault f) k = k

pub counted_last : (s : Scope) (p : Placed) (st : State) → all_counted s (p ∷ []) st ≡ counted s p st
counted_last s p st = at (counted s p st)
  where
    at : (o : Outcome State PolyEnd) → and_then o found ≡ o
    at (found a) = refl
    at (fault e) = refl

-- ---- uses

at_number : (b : Bool) (gs : List Generic) (n : ℕ) (u : Use) (st : State) → (b ≡ true → u.generic ≡ n) → (b ≡ false → making gs n u st ≡ made_here gs u st)
    → (if b then made_by gs n (making gs n) u st else making gs n u st) ≡ made_here gs u st
at_number true gs n u st same other = let e : n ≡ u.generic = sym (same refl) in rw e refl
at_number false gs n u st same other = other refl

-- a use of an earlier declaration is made by its number
pub making_at : (gs : List Generic) (k : ℕ) (u : Use) (st : State) → u.generic < k → making gs k u st ≡ made_here gs u st
making_at gs zero u st h = absurd (omega arith)
making_at gs (suc n) u st h =
    at_number (eqb u.generic n) gs n u st (λ e. grind (arith, nat_tests)) (λ e. let less : u.generic < n = grind (arith, nat_tests) in making_at gs n u st less)

-- ---- tokens

pub walked_skip : (w : Walk) (n : ℕ) (ps : List Placed) (st : State) → walked w n ps st ≡ walked w 0 (drop n ps) st
walked_skip w zero [] st = refl
walked_skip w zero (p ∷ ps) st = refl
walked_skip w (suc n) [] st = refl
walked_skip w (suc n) (p ∷ ps) st = walked_skip w n ps st

drop_one : (n : ℕ) (p : Placed) (ps : List Placed) → drop (1 + n) (p ∷ ps) ≡ drop n ps
drop_one n p ps = let e : 1 + n ≡ suc n = omega arith in rw e refl

-- a token that is no use's
pub first_plain : (gs : List Generic) (s : Scope) (ts more : List Placed) (p : Placed) (st a : State) → ts ≡ p ∷ more → counted s p st ≡ found a → use_at s p more ≡ None
    → walked_here gs s ts st ≡ walked_here gs s (drop 1 ts) a
first_plain gs s ts more p st a is h k = rw (is, h, k) refl

pub first_use : (gs : List Generic) (s : Scope) (ts more : List Placed) (p : Placed) (u : Bracketed) (st a b : State) → ts ≡ p ∷ more → counted s p st ≡ found a
    → use_at s p more ≡ Some u → used_here gs s p u (take (length u.content + 2) more) a ≡ found b
    → walked_here gs s ts st ≡ walked_here gs s (drop (1 + (length u.content + 2)) ts) b
first_use gs s ts more p u st a b is h k made =
    rw (is, drop_one (length u.content + 2) p more, h, k, made) (walked_skip (walk_of gs s) (length u.content + 2) more b)

pub first_long : (gs : List Generic) (s : Scope) (ts more : List Placed) (p : Placed) (st : State) (e : PolyEnd) → ts ≡ p ∷ more → counted s p st ≡ fault e
    → IsFault end.Memory (walked_here gs s ts st) e
first_long gs s ts more p st e is h n = rw (is, h) refl

pub first_refused : (gs : List Generic) (s : Scope) (ts more : List Placed) (p : Placed) (u : Bracketed) (st a : State) (e : PolyEnd) → ts ≡ p ∷ more → counted s p st ≡ found a
    → use_at s p more ≡ Some u → IsFault end.Memory (used_here gs s p u (take (length u.content + 2) more) a) e
    → IsFault end.Memory (walked_here gs s ts st) e
first_refused gs s ts more p u st a e is h k made n = rw (is, h, k, made n) refl

-- ---- uses and instances, by what the code finds

earlier : (a b : Bool) → a || b ≡ true → b ≡ false → a ≡ true
earlier true b h k = refl
earlier false b h k = absurd cc

-- a use of another declaration than the surrounding one is of an earlier one
pub asked_earlier : (gs : List Generic) (s : Scope) (u : Use) (st : State) → may_use s u.generic ≡ true → is_own s u.generic ≡ false
    → asked (walk_of gs s) u st ≡ made_here gs u st
asked_earlier gs s u st may other =
    let test : nat_lt u.generic s.before ≡ true = earlier _ _ may other in
    let less : u.generic < s.before = grind (arith, nat_tests) in
    rw other (making_at gs s.before u st less)

-- a new instance is walked
pub made_walked : (gs : List Generic) (u : Use) (st new : State) (key : List ℕ) → key ≡ key_of u.name u.arguments
    → list_any (λ (m : Made). bytes_eq key m.key) st.made ≡ false → length st.made < 256
    → new ≡ record { read = st.read; made = st.made ++ record { key = key; generic = u.generic; arguments = u.arguments } ∷ [] }
    → made_here gs u st ≡ instance_here gs u new
made_walked gs u st new key same none few is =
    let test : nat_lt (length st.made) 256 ≡ true = grind (arith, nat_tests) in
    rw (← same, none, test, is) refl

pub instance_walks : (gs : List Generic) (u : Use) (g : Generic) (st a : State) → slice_get gs u.generic ≡ Some g → all_counted (outside u.generic) (head g) st ≡ found a
    → instance_here gs u st ≡ walked_here gs (inside_of u.generic g u.arguments) g.rest a
instance_walks gs u g st a h k = rw (h, k) refl

-- ---- sections

pub section_walked : (gs : List Generic) (n : ℕ) (s : Scope) (ts : List Placed) (st a : State) → s ≡ outside n → walked_here gs s ts st ≡ found a
    → (ss : List (Option (List Placed))) → sections_walked gs n (Some ts ∷ ss) st ≡ sections_walked gs n ss a
section_walked gs n s ts st a is h ss = let k = rw is at h in rw k refl

pub section_refused : (gs : List Generic) (n : ℕ) (s : Scope) (ts : List Placed) (st : State) (e : PolyEnd) → s ≡ outside n → IsFault end.Memory (walked_here gs s ts st) e
    → (ss : List (Option (List Placed))) → IsFault end.Memory (sections_walked gs n (Some ts ∷ ss) st) e
section_refused gs n s ts st e is h ss m = let k = rw is at (h m) in rw k refl
