-- Going down from the greatest of what is to be marked gives what is marked.
use Rattle.std.proofs.Common.{◌≡◌, ◌⊎◌, ◌<◌, ◌≤◌, true, false, List, [], ◌∷◌, ◌++◌, length, refl, sym, ap, subst, ◌∙◌, append_assoc, append-nil, length-append, arith, inl, inr}
use Rattle.std.specs.List.{flat_map}
use Rattle.m5_region.specs.Region.{Object}
use Rattle.m5_dictionary.specs.Dictionaries.{Dictionaries}
use Rattle.m5_message.specs.Packing.{Reached, has, reaches}
use Rattle.m5_message.proofs.Marks.{has_left, has_right, has_head}
use Rattle.m5_marshal.specs.code.Keys.{HasMore, rank, Rising, IsWhole}
use Rattle.m5_marshal.proofs.Marked.{has_cases, head_cases, One, from_one, to_one, rising_across}

data Ends (xs : List Reached) : Type 0 where
  Empty : xs ≡ [] → Ends xs
  Last : (front : List Reached) (last : Reached) → xs ≡ front ++ last ∷ [] → Ends xs

ends : (xs : List Reached) → Ends xs
ends [] = Empty refl
ends (x ∷ xs) = elim (ends xs) [
  | Empty e ↦ Last [] x (ap (λ (y : List Reached). x ∷ y) e)
  | Last f l e ↦ Last (x ∷ f) l (ap (λ (y : List Reached). x ∷ y) e)
]

-- What is marked so far stands last; of what stands before it, what is wanted or was reached is to be marked.
pub record Walk (d : Dictionaries) (os : List Object) (w m todo after : List Reached) : Type 0 where
  pub front : List Reached
  pub whole : m ≡ front ++ after
  pub among : (q : Reached) → has todo q ≡ true → has front q ≡ true
  pub all : (q : Reached) → has front q ≡ true → has (w ++ flat_map (reaches d os) after) q ≡ true → has todo q ≡ true

pub walk_begins : (d : Dictionaries) (os : List Object) (w m todo : List Reached) → HasMore [] w todo → ((q : Reached) → has w q ≡ true → has m q ≡ true) → Walk d os w m todo []
walk_begins d os w m todo h inside = record {
  front = m;
  whole = sym (append-nil m);
  among = λ (q : Reached) e. inside q (h.only q e);
  all = λ (q : Reached) e f. elim (has_cases w [] q f) [ inl s ↦ h.added q s | inr s ↦ absurd (let no : false ≡ true = s in cc) ];
}

-- the last of what is not marked is to be marked
last_wanted : (d : Dictionaries) (os : List Object) (w m todo after f : List Reached) (l : Reached) → IsWhole d os w m → (walk : Walk d os w m todo after) → walk.front ≡ f ++ l ∷ [] → has todo l ≡ true
last_wanted d os w m todo after f l is walk e =
    let whole : m ≡ (f ++ l ∷ []) ++ after = walk.whole ∙ ap (λ (x : List Reached). x ++ after) e in
    let in_front : has walk.front l ≡ true = subst (λ (x : List Reached). has x l ≡ true) (sym e) (has_right f (l ∷ []) l (has_head l [])) in
    let in_m : has m l ≡ true = subst (λ (x : List Reached). has x l ≡ true) (sym walk.whole) (has_left walk.front after l in_front) in
    walk.all l in_front (elim (has_cases w (flat_map (reaches d os) m) l (is.from l in_m)) [
      | inl s ↦ has_left w (flat_map (reaches d os) after) l s
      | inr s ↦ elim (from_one (reaches d os) m l s) [
        | One p i r ↦
            elim (has_cases (f ++ l ∷ []) after p (subst (λ (x : List Reached). has x p ≡ true) whole i)) [
              | inr k ↦ has_right w (flat_map (reaches d os) after) l (to_one (reaches d os) after p l k r)
              | inl k ↦ absurd (not_above p (is.falls p l i r) k whole)
            ]
      ]
    ])
  where
    not_above : (p : Reached) → rank l < rank p → has (f ++ l ∷ []) p ≡ true → m ≡ (f ++ l ∷ []) ++ after → ⊥
    not_above p lt k whole = elim (has_cases f (l ∷ []) p k) [
      | inl s ↦ (
          let rises = subst Rising (whole ∙ append_assoc f (l ∷ []) after) is.rises in
          let below : rank p < rank l = rising_across f (l ∷ after) p l rises s (has_head l after) in
          omega arith
          )
      | inr s ↦ elim (head_cases l [] p s) [
        | inl same ↦ (let no : rank l < rank l = subst (λ (x : Reached). rank l < rank x) (sym same) lt in omega arith)
        | inr z ↦ absurd (let wrong : false ≡ true = z in cc)
      ]
    ]

pub walk_goes_on : (d : Dictionaries) (os : List Object) (w m todo after us next : List Reached) (k : Reached) → IsWhole d os w m → Walk d os w m todo after → todo ≡ us ++ k ∷ [] → ((q : Reached) → has us q ≡ true → rank q < rank k) → HasMore us (reaches d os k) next → Walk d os w m next (k ∷ after)
walk_goes_on d os w m todo after us next k is walk split below more = by_end (ends walk.front)
  where
    k_todo : has todo k ≡ true
    k_todo = subst (λ (x : List Reached). has x k ≡ true) (sym split) (has_right us (k ∷ []) k (has_head k []))

    k_front : has walk.front k ≡ true
    k_front = walk.among k k_todo

    k_m : has m k ≡ true
    k_m = subst (λ (x : List Reached). has x k ≡ true) (sym walk.whole) (has_left walk.front after k k_front)

    in_m : (q : Reached) → has walk.front q ≡ true → has m q ≡ true
    in_m q e = subst (λ (x : List Reached). has x q ≡ true) (sym walk.whole) (has_left walk.front after q e)

    -- not above the last of what is to be marked
    most : (q : Reached) → has todo q ≡ true → rank q ≤ rank k
    most q e = elim (has_cases us (k ∷ []) q (subst (λ (x : List Reached). has x q ≡ true) split e)) [
      | inl s ↦ omega (arith, below q s)
      | inr s ↦ elim (head_cases k [] q s) [
        | inl same ↦ subst (λ (x : Reached). rank x ≤ rank k) same (omega arith)
        | inr z ↦ absurd (let wrong : false ≡ true = z in cc)
      ]
    ]

    same_last : (f : List Reached) (l : Reached) → walk.front ≡ f ++ l ∷ [] → l ≡ k
    same_last f l e =
        let l_todo = last_wanted d os w m todo after f l is walk e in
        let up : rank l ≤ rank k = most l l_todo in
        let l_front = walk.among l l_todo in
        elim (has_cases f (l ∷ []) k (subst (λ (x : List Reached). has x k ≡ true) e k_front)) [
          | inl s ↦ (
              let rises = subst Rising (walk.whole ∙ ap (λ (x : List Reached). x ++ after) e ∙ append_assoc f (l ∷ []) after) is.rises in
              let lt : rank k < rank l = rising_across f (l ∷ after) k l rises s (has_head l after) in
              absurd (omega arith)
              )
          | inr s ↦ elim (head_cases l [] k s) [
            | inl same ↦ same
            | inr z ↦ absurd (let wrong : false ≡ true = z in cc)
          ]
        ]

    by_want : (q : Reached) → has (w ++ flat_map (reaches d os) (k ∷ after)) q ≡ true → (has (w ++ flat_map (reaches d os) after) q ≡ true) ⊎ (has (reaches d os k) q ≡ true)
    by_want q h = elim (has_cases w (flat_map (reaches d os) (k ∷ after)) q h) [
      | inl s ↦ inl (has_left w (flat_map (reaches d os) after) q s)
      | inr s ↦ elim (has_cases (reaches d os k) (flat_map (reaches d os) after) q s) [
        | inl t ↦ inr t
        | inr t ↦ inl (has_right w (flat_map (reaches d os) after) q t)
      ]
    ]

    gone : (f : List Reached) → walk.front ≡ f ++ k ∷ [] → Walk d os w m next (k ∷ after)
    gone f e =
        let whole : m ≡ f ++ (k ∷ after) = walk.whole ∙ ap (λ (x : List Reached). x ++ after) e ∙ append_assoc f (k ∷ []) after in
        let rises = subst Rising whole is.rises in
        record {
          front = f;
          whole = whole;
          among = λ (q : Reached) h. elim (has_cases us (reaches d os k) q (more.only q h)) [
            | inl s ↦ elim (has_cases f (k ∷ []) q (subst (λ (x : List Reached). has x q ≡ true) e (walk.among q (subst (λ (x : List Reached). has x q ≡ true) (sym split) (has_left us (k ∷ []) q s))))) [
              | inl t ↦ t
              | inr t ↦ elim (head_cases k [] q t) [
                | inl same ↦ (let no : rank k < rank k = subst (λ (x : Reached). rank x < rank k) (sym same) (below q s) in absurd (omega arith))
                | inr z ↦ absurd (let wrong : false ≡ true = z in cc)
              ]
            ]
            | inr s ↦ (
                let lower : rank q < rank k = is.falls k q k_m s in
                elim (has_cases f (k ∷ after) q (subst (λ (x : List Reached). has x q ≡ true) whole (is.reached k q k_m s))) [
                  | inl t ↦ t
                  | inr t ↦ elim (head_cases k after q t) [
                    | inl same ↦ (let no : rank k < rank k = subst (λ (x : Reached). rank x < rank k) (sym same) lower in absurd (omega arith))
                    | inr u ↦ (
                        let rises_again = subst Rising (whole ∙ sym (append_assoc f (k ∷ []) after)) is.rises in
                        let higher : rank k < rank q = rising_across (f ++ k ∷ []) after k q rises_again (has_right f (k ∷ []) k (has_head k [])) u in
                        absurd (omega arith)
                        )
                  ]
                ]
                )
          ];
          all = λ (q : Reached) h wanted.
              let lower : rank q < rank k = rising_across f (k ∷ after) q k rises h (has_head k after) in
              let q_front : has walk.front q ≡ true = subst (λ (x : List Reached). has x q ≡ true) (sym e) (has_left f (k ∷ []) q h) in
              elim (by_want q wanted) [
                | inr s ↦ more.added q s
                | inl s ↦ elim (has_cases us (k ∷ []) q (subst (λ (x : List Reached). has x q ≡ true) split (walk.all q q_front s))) [
                  | inl t ↦ more.kept q t
                  | inr t ↦ elim (head_cases k [] q t) [
                    | inl same ↦ (let no : rank k < rank k = subst (λ (x : Reached). rank x < rank k) (sym same) lower in absurd (omega arith))
                    | inr z ↦ absurd (let wrong : false ≡ true = z in cc)
                  ]
                ]
              ];
        }

    by_end : Ends walk.front → Walk d os w m next (k ∷ after)
    by_end (Empty e) = absurd (let no : has [] k ≡ true = subst (λ (x : List Reached). has x k ≡ true) e k_front in let wrong : false ≡ true = no in cc)
    by_end (Last f l e) = gone f (e ∙ ap (λ (x : Reached). f ++ x ∷ []) (same_last f l e))

-- one more is to be marked
pub walk_more : (d : Dictionaries) (os : List Object) (w m todo after : List Reached) (k : Reached) → Walk d os w m todo after → has todo k ≡ true → length after < length m
walk_more d os w m todo after k walk h = by_front walk.front walk.whole (walk.among k h)
  where
    by_front : (f : List Reached) → m ≡ f ++ after → has f k ≡ true → length after < length m
    by_front [] e z = absurd (let wrong : false ≡ true = z in cc)
    by_front (x ∷ f) e s = omega (arith, ap (λ (y : List Reached). length y) e, length-append (x ∷ f) after)

pub walk_ends : (d : Dictionaries) (os : List Object) (w m after : List Reached) → IsWhole d os w m → Walk d os w m [] after → m ≡ after
walk_ends d os w m after is walk = by_end (ends walk.front)
  where
    by_end : Ends walk.front → m ≡ after
    by_end (Empty e) = walk.whole ∙ ap (λ (x : List Reached). x ++ after) e
    by_end (Last f l e) = absurd (let no : has [] l ≡ true = last_wanted d os w m [] after f l is walk e in let wrong : false ≡ true = no in cc)

-- what is to be marked is of what is marked
pub walk_in : (d : Dictionaries) (os : List Object) (w m todo after : List Reached) (q : Reached) → Walk d os w m todo after → has todo q ≡ true → has m q ≡ true
walk_in d os w m todo after q walk h = subst (λ (x : List Reached). has x q ≡ true) (sym walk.whole) (has_left walk.front after q (walk.among q h))
