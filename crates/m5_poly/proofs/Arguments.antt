-- The arguments of a use, read from left to right.
use Rattle.std.proofs.Common.{◌≡◌, ℕ, ◌+◌, ◌<◌, true, false, Bool, List, [], ◌∷◌, ◌++◌, map, length, drop, get_or, refl, ap, sym, ◌∙◌, arith, append_assoc}
use Rattle.std.proofs.lemmas.List.{drop_more, append-nil, length-map}
use Rattle.std.proofs.lemmas.List.Sums.{sum_by-cons}
use Rattle.std.specs.Prelude.{count_by, if◌then◌else◌}
use Rattle.m5_lex.specs.declared.tokens.Placed.{Placed}
use Rattle.m5_poly.specs.Roles.{is_sign}
use Rattle.m5_poly.specs.Uses.{Scope, in_front, parts, read_as, stripped}

nothing_before : (b : Bool) (codes : List ℕ) (xs : List (List ℕ)) → in_front [] xs ≡ xs
    → in_front [] (if b then [] ∷ xs else in_front codes xs) ≡ (if b then [] ∷ xs else in_front codes xs)
nothing_before true codes xs h = refl
nothing_before false codes [] h = refl
nothing_before false codes (x ∷ xs) h = refl

-- there is always a part
pub front_nothing : (s : Scope) (ps : List Placed) → in_front [] (parts s ps) ≡ parts s ps
front_nothing s [] = refl
front_nothing s (p ∷ ps) = nothing_before (is_sign 4 p.token) (read_as s p) (parts s ps) (front_nothing s ps)

front_twice : (a b : List ℕ) (xs : List (List ℕ)) → in_front a (in_front b xs) ≡ in_front (a ++ b) xs
front_twice a b [] = refl
front_twice a b (x ∷ xs) = ap (λ (y : List ℕ). y ∷ xs) (sym (append_assoc a b x))

-- a comma ends the part
pub comma_next : (s : Scope) (content : List Placed) (i : ℕ) (p : Placed) (part : List ℕ) (done : List (List ℕ)) → i < length content → p ≡ get_or content i p
    → is_sign 4 p.token ≡ true
    → done ++ map stripped (in_front part (parts s (drop i content))) ≡ (done ++ stripped part ∷ []) ++ map stripped (in_front [] (parts s (drop (i + 1) content)))
comma_next s content i p part done h is comma =
    rw (drop_more content i p h, ← is, comma, front_nothing s (drop (i + 1) content), append-nil part) (sym (append_assoc done (stripped part ∷ []) (map stripped (parts s (drop (i + 1) content)))))

-- another token goes on with the part
pub code_next : (s : Scope) (content : List Placed) (i : ℕ) (p : Placed) (part : List ℕ) → i < length content → p ≡ get_or content i p
    → is_sign 4 p.token ≡ false
    → in_front part (parts s (drop i content)) ≡ in_front (part ++ read_as s p) (parts s (drop (i + 1) content))
code_next s content i p part h is other =
    rw (drop_more content i p h, ← is, other) (front_twice part (read_as s p) (parts s (drop (i + 1) content)))

counted : (b : Bool) (codes : List ℕ) (xs : List (List ℕ)) (n : ℕ) → length xs ≡ 1 + n
    → length (if b then [] ∷ xs else in_front codes xs) ≡ 1 + ((if b then 1 else 0) + n)
counted true codes xs n h = omega arith
counted false codes [] n h = omega arith
counted false codes (x ∷ xs) n h = omega arith

parts_counted : (s : Scope) (ps : List Placed) → length (parts s ps) ≡ 1 + count_by (λ (p : Placed). is_sign 4 p.token) ps
parts_counted s [] = refl
parts_counted s (p ∷ ps) = counted (is_sign 4 p.token) (read_as s p) (parts s ps) (count_by (λ (q : Placed). is_sign 4 q.token) ps) (parts_counted s ps)
    ∙ ap (λ n. 1 + n) (sym (sum_by-cons (λ (q : Placed). if is_sign 4 q.token then 1 else 0) p ps))

-- there is one argument more than there are commas
pub count_parts : (s : Scope) (ps : List Placed) → length (map stripped (parts s ps)) ≡ 1 + count_by (λ (p : Placed). is_sign 4 p.token) ps
count_parts s ps = length-map (parts s ps) stripped ∙ parts_counted s ps
