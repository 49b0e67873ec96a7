-- Sets of keys, as lists of pairs.
use Rattle.std.proofs.Common.{◌≡◌, ℕ, suc, ◌<◌, ◌≤◌, ◌^◌, true, false, List, [], ◌∷◌, ◌++◌, length, refl, sym, ap, subst, ◌∙◌, arith, inl, inr}
use Rattle.std.proofs.Common.{Ordering}
use Rattle.std.specs.declared.cmp.Ordering.TheVariants.{Less, Equal, Greater}
use Rattle.std.specs.Ordering.{is_lt, nat_cmp, ordering_then, match_ordering}
use Rattle.std.specs.BTreeSet.{insert_key}
use Rattle.std.specs.List.{All}
use Rattle.std.proofs.lemmas.Cmp.{ranked}
use Rattle.m5_message.specs.Packing.{Reached, has}
use Rattle.m5_message.proofs.Marks.{has_left, has_right, has_head, has_tail}
use Rattle.m5_marshal.specs.declared.key.Key.{Key}
use Rattle.m5_marshal.specs.code.Keys.{reached, marks, HasMore, rank, IsNarrow}
use Rattle.m5_marshal.proofs.Marked.{has_cases, head_cases}

abbrev pub key_cmp : Key → Key → Ordering
key_cmp a b = ordering_then (nat_cmp a.at b.at) (nat_cmp a.id b.id)

key_equal : (a b : Key) → key_cmp a b ≡ Equal → reached a ≡ reached b
key_equal a b e = by_at (nat_cmp a.at b.at) refl e
  where
    by_id : (o : Ordering) → o ≡ nat_cmp a.id b.id → o ≡ Equal → a.at ≡ b.at → reached a ≡ reached b
    by_id Equal is h at = ap (λ (n : ℕ). record { at = n; id = a.id }) at ∙ ap (λ (n : ℕ). record { at = b.at; id = n }) (ranked a.id b.id Equal is)
    by_id Less is h at = absurd cc
    by_id Greater is h at = absurd cc

    by_at : (o : Ordering) → o ≡ nat_cmp a.at b.at → ordering_then o (nat_cmp a.id b.id) ≡ Equal → reached a ≡ reached b
    by_at Equal is h = by_id (nat_cmp a.id b.id) refl h (ranked a.at b.at Equal is)
    by_at Less is h = absurd (let no : Less ≡ Equal = h in cc)
    by_at Greater is h = absurd (let no : Greater ≡ Equal = h in cc)

pub key_less : (a b : Key) → a.id < 2 ^ 32 → key_cmp a b ≡ Less → rank (reached a) < rank (reached b)
key_less a b small e = by_at (nat_cmp a.at b.at) refl e
  where
    by_id : (o : Ordering) → o ≡ nat_cmp a.id b.id → o ≡ Less → a.at ≡ b.at → rank (reached a) < rank (reached b)
    by_id Less is h at = let lt = ranked a.id b.id Less is in omega (arith, lt, at)
    by_id Equal is h at = absurd cc
    by_id Greater is h at = absurd cc

    by_at : (o : Ordering) → o ≡ nat_cmp a.at b.at → ordering_then o (nat_cmp a.id b.id) ≡ Less → rank (reached a) < rank (reached b)
    by_at Less is h = let lt = ranked a.at b.at Less is in omega (arith, lt, small)
    by_at Equal is h = by_id (nat_cmp a.id b.id) refl h (ranked a.at b.at Equal is)
    by_at Greater is h = absurd (let no : Greater ≡ Less = h in cc)

pub key_greater : (a b : Key) → b.id < 2 ^ 32 → key_cmp a b ≡ Greater → rank (reached b) < rank (reached a)
key_greater a b small e = by_at (nat_cmp a.at b.at) refl e
  where
    by_id : (o : Ordering) → o ≡ nat_cmp a.id b.id → o ≡ Greater → a.at ≡ b.at → rank (reached b) < rank (reached a)
    by_id Greater is h at = let lt = ranked a.id b.id Greater is in omega (arith, lt, at)
    by_id Equal is h at = absurd cc
    by_id Less is h at = absurd cc

    by_at : (o : Ordering) → o ≡ nat_cmp a.at b.at → ordering_then o (nat_cmp a.id b.id) ≡ Greater → rank (reached b) < rank (reached a)
    by_at Greater is h = let lt = ranked a.at b.at Greater is in omega (arith, lt, small)
    by_at Equal is h = by_id (nat_cmp a.id b.id) refl h (ranked a.at b.at Equal is)
    by_at Less is h = absurd (let wrong : Less ≡ Greater = h in cc)

pub key_lt : (a b : Key) → a.id < 2 ^ 32 → is_lt (key_cmp a b) ≡ true → rank (reached a) < rank (reached b)
key_lt a b small e = by_order (key_cmp a b) refl e
  where
    by_order : (o : Ordering) → key_cmp a b ≡ o → is_lt o ≡ true → rank (reached a) < rank (reached b)
    by_order Less is h = key_less a b small is
    by_order Equal is h = absurd (let wrong : false ≡ true = h in cc)
    by_order Greater is h = absurd (let wrong : false ≡ true = h in cc)

pub key_not_lt : (a b : Key) → b.id < 2 ^ 32 → is_lt (key_cmp a b) ≡ false → rank (reached b) ≤ rank (reached a)
key_not_lt a b small e = by_order (key_cmp a b) refl e
  where
    by_order : (o : Ordering) → key_cmp a b ≡ o → is_lt o ≡ false → rank (reached b) ≤ rank (reached a)
    by_order Less is h = absurd (let wrong : true ≡ false = h in cc)
    by_order Equal is h = subst (λ (r : Reached). rank r ≤ rank (reached a)) (key_equal a b is) (omega arith)
    by_order Greater is h = let lt = key_greater a b small is in omega (arith, lt)

pub insert_more : (ks : List Key) (k : Key) → HasMore (marks ks) (reached k ∷ []) (marks (insert_key key_cmp ks k))
insert_more [] k = record { kept = λ (q : Reached) e. absurd (let no : false ≡ true = e in cc); added = λ (q : Reached) e. e; only = λ (q : Reached) e. e }
insert_more (x ∷ xs) k = by_order (key_cmp k x) refl (insert_more xs k)
  where
    by_order : (o : Ordering) → key_cmp k x ≡ o → HasMore (marks xs) (reached k ∷ []) (marks (insert_key key_cmp xs k)) → HasMore (marks (x ∷ xs)) (reached k ∷ []) (marks (match_ordering o (k ∷ x ∷ xs) (x ∷ xs) (x ∷ insert_key key_cmp xs k)))
    by_order Less is go = record {
      kept = λ (q : Reached) e. has_tail (reached k) (marks (x ∷ xs)) q e;
      added = λ (q : Reached) e. has_left (reached k ∷ []) (marks (x ∷ xs)) q e;
      only = λ (q : Reached) e. elim (head_cases (reached k) (marks (x ∷ xs)) q e) [
        | inl same ↦ has_right (marks (x ∷ xs)) (reached k ∷ []) q (subst (λ (r : Reached). has (reached k ∷ []) r ≡ true) same (has_head (reached k) []))
        | inr h ↦ has_left (marks (x ∷ xs)) (reached k ∷ []) q h
      ];
    }
    by_order Equal is go = record {
      kept = λ (q : Reached) e. e;
      added = λ (q : Reached) e. elim (head_cases (reached k) [] q e) [
        | inl same ↦ subst (λ (r : Reached). has (marks (x ∷ xs)) r ≡ true) (sym (key_equal k x is) ∙ same) (has_head (reached x) (marks xs))
        | inr z ↦ absurd (let wrong : false ≡ true = z in cc)
      ];
      only = λ (q : Reached) e. has_left (marks (x ∷ xs)) (reached k ∷ []) q e;
    }
    by_order Greater is go = record {
      kept = λ (q : Reached) e. elim (head_cases (reached x) (marks xs) q e) [
        | inl same ↦ subst (λ (r : Reached). has (marks (x ∷ insert_key key_cmp xs k)) r ≡ true) same (has_head (reached x) (marks (insert_key key_cmp xs k)))
        | inr h ↦ has_tail (reached x) (marks (insert_key key_cmp xs k)) q (go.kept q h)
      ];
      added = λ (q : Reached) e. has_tail (reached x) (marks (insert_key key_cmp xs k)) q (go.added q e);
      only = λ (q : Reached) e. elim (head_cases (reached x) (marks (insert_key key_cmp xs k)) q e) [
        | inl same ↦ subst (λ (r : Reached). has (marks (x ∷ xs) ++ reached k ∷ []) r ≡ true) same (has_head (reached x) (marks xs ++ reached k ∷ []))
        | inr h ↦ has_tail (reached x) (marks xs ++ reached k ∷ []) q (go.only q h)
      ];
    }

-- ---- more, and then more

pub more_none : (old : List Reached) → HasMore old [] old
more_none old = record { kept = λ (q : Reached) e. e; added = λ (q : Reached) e. absurd (let no : false ≡ true = e in cc); only = λ (q : Reached) e. has_left old [] q e }

pub more_more : (old mid new a b : List Reached) → HasMore old a mid → HasMore mid b new → HasMore old (a ++ b) new
more_more old mid new a b h k = record {
  kept = λ (q : Reached) e. k.kept q (h.kept q e);
  added = λ (q : Reached) e. elim (has_cases a b q e) [ inl s ↦ k.kept q (h.added q s) | inr s ↦ k.added q s ];
  only = λ (q : Reached) e. elim (has_cases mid b q (k.only q e)) [
    | inl s ↦ elim (has_cases old a q (h.only q s)) [
      | inl t ↦ has_left old (a ++ b) q t
      | inr t ↦ has_right old (a ++ b) q (has_left a b q t)
    ]
    | inr s ↦ has_right old (a ++ b) q (has_right a b q s)
  ];
}

-- ---- the greatest of a set

pub marks_end : (ks : List Key) (k : Key) → marks (ks ++ k ∷ []) ≡ marks ks ++ reached k ∷ []
marks_end [] k = refl
marks_end (x ∷ ks) k = ap (λ (r : List Reached). reached x ∷ r) (marks_end ks k)

pub keys_below : (ks : List Key) (k : Key) → All (λ q. key_cmp q k ≡ Less) ks → ((q : Reached) → has (marks ks) q ≡ true → IsNarrow q) → (q : Reached) → has (marks ks) q ≡ true → rank q < rank (reached k)
keys_below [] k h narrow q e = absurd (let wrong : false ≡ true = e in cc)
keys_below (x ∷ ks) k h narrow q e = elim (head_cases (reached x) (marks ks) q e) [
  | inl same ↦ subst (λ (r : Reached). rank r < rank (reached k)) same (key_less x k (narrow (reached x) (has_head (reached x) (marks ks))) (h 0 x (omega arith)))
  | inr s ↦ keys_below ks k (λ (n : ℕ) (d : Key) lt. h (suc n) d (omega (arith, lt))) (λ (r : Reached) i. narrow r (has_tail (reached x) (marks ks) r i)) q s
]

pub no_keys : (ks : List Key) → (0 < length ks → ⊥) → ks ≡ []
no_keys [] h = refl
no_keys (x ∷ ks) h = absurd (h (omega arith))
