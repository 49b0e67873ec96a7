-- What a map's entries say of the instances for which they stand.
use Rattle.std.proofs.Common.{◌≡◌, ℕ, zero, suc, ltb, arith, add-one, add_assoc, ◌+◌, ◌<◌, Bool, true, false, cond, not, ◌||◌, List, [], ◌∷◌, ◌++◌, length, take, get_or, Some, None, if◌then◌else◌, refl, ap, sym, ◌∙◌}
use Rattle.std.proofs.lemmas.List.{take_more}
use Rattle.std.proofs.lemmas.List.Sums.{sum_by-cons, prefix_len-le-length}
use Rattle.std.proofs.lemmas.Bool.Decides.{nat_tests}
use Rattle.std.specs.Prelude.{count_by, slice_get, ◌==◌}
use Rattle.std.proofs.lemmas.Map.Made.{is_some-lookup}
use Rattle.std.specs.Prelude.{is_some}
use Rattle.std.specs.List.{list_any, position_or_len, position, HoldsAt}
use Rattle.std.specs.Map.{keys_of, lookup}
use Rattle.std.specs.Str.{bytes_eq}
use Rattle.std.specs.Global.{Vec}
use Rattle.indexmap.specs.IndexMap.{insert_entry}
use Rattle.m5_lex.specs.declared.place.Place.{Place}
use Rattle.m5_lex.specs.declared.token.Token.{Token}
use Rattle.m5_lex.specs.declared.tokens.Placed.{Placed}
use Rattle.m5_poly.specs.declared.instances.Instance.{Instance}
use Rattle.m5_poly.specs.Walk.{Made}
use Rattle.m5_poly.specs.code.Made.{made_from, made_of, is_of}

any_key : (key : List ℕ) (es : List (Vec ℕ × Instance)) → list_any (λ (k : Vec ℕ). bytes_eq key k.items) (keys_of es) ≡ list_any (λ (m : Made). bytes_eq key m.key) (made_of es)
any_key key [] = refl
any_key key (e ∷ es) = ap (λ b. bytes_eq key e.0.items || b) (any_key key es)

pub has_key : (key : List ℕ) (es : List (Vec ℕ × Instance)) → is_some (lookup (λ (k : Vec ℕ). bytes_eq key k.items) es) ≡ list_any (λ (m : Made). bytes_eq key m.key) (made_of es)
has_key key es = is_some-lookup (λ (k : Vec ℕ). bytes_eq key k.items) es ∙ any_key key es

pub key_place : (key : List ℕ) (es : List (Vec ℕ × Instance)) → position_or_len (λ (k : Vec ℕ). bytes_eq key k.items) (keys_of es) ≡ position_or_len (λ (m : Made). bytes_eq key m.key) (made_of es)
key_place key [] = refl
key_place key (e ∷ es) = ap (λ n. cond (not (bytes_eq key e.0.items)) (1 + n) 0) (key_place key es)

put_at : (b c : Bool) (e : Vec ℕ × Instance) (k : Vec ℕ) (v : Instance) (es : List (Vec ℕ × Instance)) (ms : List (Vec ℕ × Instance)) → b || c ≡ false
    → (c ≡ false → made_of ms ≡ made_of es ++ made_from k.items v ∷ [])
    → made_of (if b then (e.0, v) ∷ es else e ∷ ms) ≡ made_of (e ∷ es) ++ made_from k.items v ∷ []
put_at true c e k v es ms h f = absurd cc
put_at false c e k v es ms h f = ap (λ (xs : List Made). made_from e.0.items e.1 ∷ xs) (f h)

-- an instance of a new key goes last
pub put_behind : (k : Vec ℕ) (v : Instance) (es : List (Vec ℕ × Instance)) → list_any (λ (m : Made). bytes_eq k.items m.key) (made_of es) ≡ false
    → made_of (insert_entry (λ (a b : Vec ℕ). bytes_eq a.items b.items) es k v) ≡ made_of es ++ made_from k.items v ∷ []
put_behind k v [] h = refl
put_behind k v (e ∷ es) h = put_at (bytes_eq k.items e.0.items) (list_any (λ (m : Made). bytes_eq k.items m.key) (made_of es)) e k v es _ h (put_behind k v es)

some_at : (b : Bool) (n i : ℕ) → Some i ≡ cond b (Some n) None → i ≡ n
some_at true n i h = cc
some_at false n i h = absurd cc

none_at : (b : Bool) (n : ℕ) → None ≡ cond b (Some n) None → b ≡ false
none_at true n h = absurd cc
none_at false n h = refl

keys_counted : (es : List (Vec ℕ × Instance)) → length (keys_of es) ≡ length es
keys_counted [] = refl
keys_counted (e ∷ es) = ap suc (keys_counted es)

pub place_some : (key : List ℕ) (es : List (Vec ℕ × Instance)) (i : ℕ) → Some i ≡ position (λ (k : Vec ℕ). bytes_eq key k.items) (keys_of es)
    → i ≡ position_or_len (λ (m : Made). bytes_eq key m.key) (made_of es)
place_some key es i h = some_at _ _ i h ∙ key_place key es

pub place_none : (key : List ℕ) (es : List (Vec ℕ × Instance)) → None ≡ position (λ (k : Vec ℕ). bytes_eq key k.items) (keys_of es)
    → length es ≡ position_or_len (λ (m : Made). bytes_eq key m.key) (made_of es)
place_none key es h =
    let past : ltb (position_or_len (λ (k : Vec ℕ). bytes_eq key k.items) (keys_of es)) (length (keys_of es)) ≡ false = none_at _ _ h in
    let most = prefix_len-le-length (λ (k : Vec ℕ). not (bytes_eq key k.items)) (keys_of es) in
    let at : length es ≡ position_or_len (λ (k : Vec ℕ). bytes_eq key k.items) (keys_of es) = grind (arith, nat_tests, keys_counted es) in
    at ∙ key_place key es

add_nothing : (n : ℕ) → n + 0 ≡ 0 + n
add_nothing n = omega arith

-- one instance more
pub count_next : (generic : ℕ) (ms : List Made) (i : ℕ) (b : Bool) → b ≡ is_of generic (slice_get ms i)
    → count_by (λ (m : Made). m.generic == generic) (take (i + 1) ms) ≡ count_by (λ (m : Made). m.generic == generic) (take i ms) + (if b then 1 else 0)
count_next generic ms i b h = rw (add-one, h) (at ms i)
  where
    at : (ms : List Made) (i : ℕ) → count_by (λ (m : Made). m.generic == generic) (take (suc i) ms)
        ≡ count_by (λ (m : Made). m.generic == generic) (take i ms) + (if is_of generic (slice_get ms i) then 1 else 0)
    at [] zero = refl
    at [] (suc i) = refl
    at (m ∷ ms) zero = sum_by-cons (λ (x : Made). if x.generic == generic then 1 else 0) m [] ∙ add_nothing _
    at (m ∷ ms) (suc i) =
        sum_by-cons (λ (x : Made). if x.generic == generic then 1 else 0) m (take (suc i) ms)
        ∙ ap (λ n. (if m.generic == generic then 1 else 0) + n) (at ms i)
        ∙ sym (add_assoc _ _ _)
        ∙ ap (λ n. n + (if is_of generic (slice_get ms i) then 1 else 0)) (sym (sum_by-cons (λ (x : Made). if x.generic == generic then 1 else 0) m (take i ms)))

-- one token more
pub item_next : (ts : List Placed) (i : ℕ) (t : Token) (at : Place) → i < length ts → HoldsAt (λ (p : Placed). p.token ≡ t) ts i → HoldsAt (λ (p : Placed). p.place ≡ at) ts i
    → take (i + 1) ts ≡ take i ts ++ record { token = t; place = at } ∷ []
item_next ts i t at h token place =
    let p : Placed = record { token = t; place = at } in
    take_more ts i p h ∙ ap (λ (q : Placed). take i ts ++ q ∷ []) (same (get_or ts i p) t at (token p) (place p))
  where
    same : (p : Placed) (t : Token) (at : Place) → p.token ≡ t → p.place ≡ at → p ≡ record { token = t; place = at }
    same p t at h k i = record { token = h i; place = k i }
