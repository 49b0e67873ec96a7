-- A node makes at most three blocks and fills at most three slots on a path, besides those of an ending; no block's endings nest deep.
use Rattle.std.proofs.Common.{◌≡◌, ℕ, zero, suc, ◌+◌, ◌*◌, ◌≤◌, ◌<◌, max, Option, Some, None, Bool, true, false, refl, sym, subst, arith, if◌then◌else◌, nat_lt}
use Rattle.std.proofs.Math.Nat.{max-le}
use Rattle.m5_terms.specs.TypeExpression.{TypeExpression}
use Rattle.m5_terms.specs.Expression.{Expression, leaf, unary, binary, ternary}
use Rattle.m5_terms.specs.declared.types.World.{World}
use Rattle.m5_terms.specs.declared.types.Primitive.{Primitive}
use Rattle.m5_terms.specs.declared.form.LeafForm.{LeafForm}
use Rattle.m5_terms.specs.declared.form.LeafForm.TheVariants as leaf_form
use Rattle.m5_terms.specs.declared.form.UnaryForm.{UnaryForm}
use Rattle.m5_terms.specs.declared.form.UnaryForm.TheVariants as unary_form
use Rattle.m5_terms.specs.declared.form.BinaryForm.{BinaryForm}
use Rattle.m5_terms.specs.declared.form.BinaryForm.TheVariants as binary_form
use Rattle.m5_terms.specs.declared.form.TernaryForm.{TernaryForm}
use Rattle.m5_terms.specs.declared.form.TernaryForm.TheVariants as ternary_form
use Rattle.m5_cps.specs.Entries.{of, takes, only, Entry, by_value, world_of}
use Rattle.m5_cps.specs.Blocks.{Code, straight, closure, test, Straight, Test, if_here, Ending, go, call, ask, send}
use Rattle.m5_cps.specs.Blocks as block
use Rattle.m5_cps_convert.specs.Scopes.{Scope, bind, in_block, in_arm, in_sham, fn_scope, rec_scope}
use Rattle.m5_cps_convert.specs.Continuations.{Tail, Then, apply, reify, variable_code, body_code, goal_code, start_code}
use Rattle.m5_cps_convert.specs.Convert.{cps}
use Rattle.m5_terms.specs.Expression.{node_count}
use Rattle.m5_typing.specs.Context.{Setting}
use Rattle.m5_cps.specs.TypeParts.{place_of}
use Rattle.m5_cps.specs.Limits.{parts_then, parts_else, straight_slots, test_slots, ending_slots, path, ending_depth, straight_depth, depth}
use Rattle.m5_cps_convert.specs.Counted.{blocks_in}
use Rattle.m5_cps_convert.specs.Continuations.{Continuation, constant_code, arm_code, thread_end}
use Rattle.m5_cps_convert.specs.Forms.{unary_rest, homeward, get_away, get_value, get_variable, get_code, variable_of}
use Rattle.m5_cps_convert.specs.Convert.{called_directly, is_plain, asks_at_once, away_to, binary_rest, get_apart, get_parts, binary_code, ternary_rest}
use Rattle.m5_cps_convert.proofs.Leaving.{IsAway, away_is, asks_unnamed}

-- each closure's block has at most 510 endings open at once, and fills at most L slots on a path besides those of an ending
abbrev pub Inner : ℕ → Code → Type 0
Inner L (straight f c) = Inner L c
Inner L (closure y b c) = (depth b ≤ 510) × (path b ≤ L + 24) × Inner L b × Inner L c
Inner L (test t x b c) = Inner L b × Inner L c
Inner L (block.ends e) = Unit {0}

-- such code: blocks, slots along a path without an ending's, and how many tests nest
pub record Small (L : ℕ) (c : Code) (a p d : ℕ) : Type 0 where
  pub blocks : blocks_in c ≤ a
  pub path : path c ≤ p + 24
  pub depth : depth c ≤ d + 9
  pub inner : Inner L c

node_least : (e : Expression) → 1 ≤ node_count e
node_least (leaf f) = omega arith
node_least (unary f a) = omega arith
node_least (binary f a b) = omega arith
node_least (ternary f a b c) = omega arith

then_few : (t : Test) → test_slots t + parts_then t ≤ 3
then_few block.if_true = omega arith
then_few block.if_left = omega arith
then_few block.if_nil = omega arith
then_few if_here = omega arith

else_few : (t : Test) → test_slots t + parts_else t ≤ 3
else_few block.if_true = omega arith
else_few block.if_left = omega arith
else_few block.if_nil = omega arith
else_few if_here = omega arith

ending_few : (e : Ending) → ending_slots e ≤ 24
ending_few (go k x) = omega arith
ending_few (call f x k) = omega arith
ending_few (ask p x k) = omega arith
ending_few (send a k x) = omega arith
ending_few block.done = omega arith

ending_shallow : (e : Ending) → ending_depth e ≤ 9
ending_shallow (go k x) = omega arith
ending_shallow (call f x k) = omega arith
ending_shallow (ask p x k) = omega arith
ending_shallow (send a k x) = omega arith
ending_shallow block.done = omega arith

sum_max : (k m n j : ℕ) → k + m ≤ j → k + n ≤ j → k + max m n ≤ j
sum_max zero m n j h g = omega (arith, max-le {a = m} {b = n} {k = j} (omega (arith, h)) (omega (arith, g)))
sum_max (suc k) m n zero h g = absurd (omega (arith, h))
sum_max (suc k) m n (suc j) h g = omega (arith, sum_max k m n j (omega (arith, h)) (omega (arith, g)))

-- a form of few slots and no test
abbrev pub Plain : Straight → Type 0
Plain f = (straight_slots f ≤ 2) × (straight_depth f ≡ 0)

less_than : (n m : ℕ) → nat_lt n m ≡ true → n < m
less_than n m e = grind (arith, e)

module _ (L : ℕ) where
  abbrev S : Code → ℕ → ℕ → ℕ → Type 0
  S = Small L

  abbrev pub KSmall : Continuation → ℕ → ℕ → ℕ → Type 0
  KSmall κ a p d = (x m : ℕ) → Small L (apply κ x m) a p d

  at_most : {c : Code} {a p d : ℕ} (a1 p1 d1 : ℕ) → S c a p d → a ≤ a1 → p ≤ p1 → d ≤ d1 → S c a1 p1 d1
  at_most a1 p1 d1 s h g k = record { blocks = omega (arith, s.blocks, h); path = omega (arith, s.path, g); depth = omega (arith, s.depth, k); inner = s.inner }

  an_end : (e : Ending) (d : ℕ) → S (block.ends e) 0 0 d
  an_end e d = record { blocks = omega arith; path = omega (arith, ending_few e); depth = omega (arith, ending_shallow e); inner = tt }

  -- code that ends without going on fills no more than an ending may
  ended : {c : Code} {a p d : ℕ} → path c ≤ 24 → S c a p d → S c a 0 d
  ended h s = record { blocks = s.blocks; path = omega (arith, h); depth = s.depth; inner = s.inner }

  pub tail_small : (k d : ℕ) → KSmall (Tail k) 0 0 d
  tail_small k d x m = an_end (go k x) d

  filled : {f : Straight} {c : Code} {a p d : ℕ} → Plain f → S c a p d → S (straight f c) a (2 + p) d
  filled h s = record { blocks = s.blocks; path = omega (arith, h.0, s.path); depth = omega (arith, h.1, s.depth); inner = s.inner }

  divided : (x k n d : ℕ) → S (straight (block.one unary_form.Div x) (block.ends (go k n))) 0 0 d
  divided x k n d = record { blocks = omega arith; path = omega arith; depth = omega arith; inner = tt }

  closed_over : {y : Entry} {b c : Code} {a p a1 p1 d d1 : ℕ} → S b a p d1 → d1 ≤ 501 → p ≤ L → S c a1 p1 d → S (closure y b c) (suc (a + a1)) (2 + p1) d
  closed_over s h g t = record { blocks = omega (arith, s.blocks, t.blocks); path = omega (arith, t.path); depth = t.depth; inner = (omega (arith, s.depth, h), omega (arith, s.path, g), s.inner, t.inner) }

  two_ways : {t : Test} {x : ℕ} {b c : Code} {a a1 p d : ℕ} → S b a p d → S c a1 p d → S (test t x b c) (a + a1) (3 + p) (suc d)
  two_ways {t} {x} {b} {c} {a} {a1} {p} {d} s r = record { blocks = omega (arith, s.blocks, r.blocks); path = sum_max (test_slots t) (parts_then t + path b) (parts_else t + path c) (3 + p + 24) (omega (arith, then_few t, s.path)) (omega (arith, else_few t, r.path)); depth = deeper (depth b) (depth c) s.depth r.depth; inner = (s.inner, r.inner) }
    where
      deeper : (m n : ℕ) → m ≤ d + 9 → n ≤ d + 9 → suc (max m n) ≤ suc d + 9
      deeper m n h g = omega (arith, max-le {a = m} {b = n} {k = d + 9} h g)

  reified : (y : Entry) (κ : Continuation) (n : ℕ) (g : ℕ → ℕ → Code) (a p b q d : ℕ) → KSmall κ a p d → d ≤ 501 → p ≤ L → ((k m : ℕ) → S (g k m) b q d) → S (reify y κ n g) (suc (a + b)) (2 + q) d
  reified y (Tail k) n g a p b q d h le i f = at_most (suc (a + b)) (2 + q) d (f k n) (omega arith) (omega arith) (omega arith)
  reified y (Then c) n g a p b q d h le i f = closed_over (h (suc n) (suc (suc n))) le i (f n (suc n))

  module _ (E : Setting) where
    abbrev pub SmallAt : Expression → Type 0
    SmallAt e = (Γ : Scope) (n : ℕ) (κ : Continuation) (a p d : ℕ) → KSmall κ a p d → 1 ≤ d → d ≤ 501 → 501 ≤ d + Γ.arms → p + 3 * node_count e ≤ L → Small L (cps E e Γ n κ) (3 * node_count e + a) (3 * node_count e + p) d

    -- blocks of their own
    body_small : (e : Expression) → SmallAt e → (Γ : Scope) (n : ℕ) → Γ.arms ≡ 0 → 3 * node_count e ≤ L → S (body_code (cps E e) Γ n) (3 * node_count e) (3 * node_count e) 501
    body_small e s Γ n z h = at_most (3 * node_count e) (3 * node_count e) 501 (s Γ (suc (suc (suc n))) (Tail (suc (suc n))) 0 0 501 (tail_small (suc (suc n)) 501) (omega arith) (omega arith) (omega arith) (omega (arith, h))) (omega arith) (omega arith) (omega arith)

    goal_small : (e : Expression) → SmallAt e → (Γ : Scope) (n : ℕ) → Γ.arms ≡ 0 → 3 * node_count e ≤ L → S (goal_code (cps E e) Γ n) (3 * node_count e) (3 * node_count e) 501
    goal_small e s Γ n z h = at_most (3 * node_count e) (3 * node_count e) 501 (s Γ (suc (suc n)) (Tail (suc n)) 0 0 501 (tail_small (suc n) 501) (omega arith) (omega arith) (omega arith) (omega (arith, h))) (omega arith) (omega arith) (omega arith)

    pub start_small : (e : Expression) → SmallAt e → (Γ : Scope) (n : ℕ) → Γ.arms ≡ 0 → 3 * node_count e ≤ L → S (start_code (cps E e) Γ n) (3 * node_count e) (3 * node_count e) 501
    start_small e s Γ n z h = at_most (3 * node_count e) (3 * node_count e) 501 (s Γ (suc (suc n)) thread_end 0 0 501 (λ x m. an_end block.done 501) (omega arith) (omega arith) (omega arith) (omega (arith, h))) (omega arith) (omega arith) (omega arith)

    pub called_small : (e : Expression) → SmallAt e → (Γ : Scope) (n : ℕ) → Γ.arms ≡ 0 → 3 * node_count e ≤ L → S (body_code (cps E e) Γ n) (3 * node_count e) (3 * node_count e) 501
    called_small e s Γ n z h = body_small e s Γ n z h

    constant_small : (f : LeafForm) → ((Γ : Scope) (n : ℕ) (κ : Continuation) → cps E (leaf f) Γ n κ ≡ constant_code f n κ) → SmallAt (leaf f)
    constant_small f same Γ n κ a p d k one le ar h = subst (λ c. S c (3 * node_count (leaf f) + a) (3 * node_count (leaf f) + p) d) (sym (same Γ n κ)) (at_most (3 * node_count (leaf f) + a) (3 * node_count (leaf f) + p) d (filled (omega arith, refl) (k n (suc n))) (omega arith) (omega arith) (omega arith))

    variable_small : (o : Option ℕ) (n : ℕ) (κ : Continuation) (a p d : ℕ) → KSmall κ a p d → S (variable_code o n κ) (3 + a) (3 + p) d
    variable_small None n κ a p d k = at_most (3 + a) (3 + p) d (filled (omega arith, refl) (k n (suc n))) (omega arith) (omega arith) (omega arith)
    variable_small (Some l) n κ a p d k = at_most (3 + a) (3 + p) d (k l n) (omega arith) (omega arith) (omega arith)

    leaf_small : (f : LeafForm) → SmallAt (leaf f)
    leaf_small (leaf_form.Var x) = λ Γ n κ a p d k one le ar h. variable_small (Γ.slots x) n κ a p d k
    leaf_small (leaf_form.Valid x) = λ Γ n κ a p d k one le ar h. variable_small (Γ.slots x) n κ a p d k
    leaf_small f = constant_small f (λ Γ n κ. refl)

    -- straight forms
    straight_small : (f : UnaryForm) → ((x : ℕ) → Plain (block.one f x)) → (a : Expression) (e : SmallAt a) (Γ : Scope) (n : ℕ) (κ : Continuation) (b p d : ℕ) → KSmall κ b p d → 1 ≤ d → d ≤ 501 → 501 ≤ d + Γ.arms → 2 + p + 3 * node_count a ≤ L → S (cps E a Γ n (Then (λ x m. unary_rest f x m κ))) (3 * node_count a + b) (3 * node_count a + (2 + p)) d
    straight_small f plain a e Γ n κ b p d k one le ar h = e Γ n _ b (2 + p) d (λ x m. filled (plain x) (k m (suc m))) one le ar h

    unary_small : (f : UnaryForm) (a : Expression) → SmallAt a → SmallAt (unary f a)
    unary_small (unary_form.Fn x A) a e Γ n κ b p d k one le ar h = at_most _ _ d (closed_over (body_small a e (fn_scope x A n Γ) n refl (omega (arith, h))) (omega arith) (omega (arith, h)) (k n (suc n))) (omega arith) (omega arith) (omega arith)
    unary_small (unary_form.Rec g x A B) a e Γ n κ b p d k one le ar h = at_most _ _ d (closed_over (body_small a e (rec_scope g x A B n Γ) n refl (omega (arith, h))) (omega arith) (omega (arith, h)) (k n (suc n))) (omega arith) (omega arith) (omega arith)
    unary_small unary_form.Spawn a e Γ n κ b p d k one le ar h = at_most _ _ d (closed_over (start_small a e (in_block Γ.mode Γ) n refl (omega (arith, h))) (omega arith) (omega (arith, h)) (filled (omega arith, refl) (k (suc n) (suc (suc n))))) (omega arith) (omega (arith, node_least a)) (omega arith)
    unary_small unary_form.Div a e Γ n κ b p d k one le ar h = at_most _ _ d (reified _ κ n _ b p (3 * node_count a + 0) (3 * node_count a + 0) d k le (omega (arith, h)) (λ l m. e Γ m _ 0 0 d (λ x q. divided x l q d) one le ar (omega (arith, h)))) (omega arith) (omega arith) (omega arith)
    unary_small unary_form.Sham a e Γ n κ b p d k one le ar h = at_most _ _ d (straight_small unary_form.Sham (λ x. (omega arith, refl)) a e (in_sham Γ) n κ b p d k one le ar (omega (arith, h))) (omega arith) (omega arith) (omega arith)
    unary_small unary_form.Fst a e Γ n κ b p d k one le ar h = at_most _ _ d (straight_small unary_form.Fst (λ x. (omega arith, refl)) a e Γ n κ b p d k one le ar (omega (arith, h))) (omega arith) (omega arith) (omega arith)
    unary_small unary_form.Snd a e Γ n κ b p d k one le ar h = at_most _ _ d (straight_small unary_form.Snd (λ x. (omega arith, refl)) a e Γ n κ b p d k one le ar (omega (arith, h))) (omega arith) (omega arith) (omega arith)
    unary_small unary_form.StrOf a e Γ n κ b p d k one le ar h = at_most _ _ d (straight_small unary_form.StrOf (λ x. (omega arith, refl)) a e Γ n κ b p d k one le ar (omega (arith, h))) (omega arith) (omega arith) (omega arith)
    unary_small unary_form.NewCell a e Γ n κ b p d k one le ar h = at_most _ _ d (straight_small unary_form.NewCell (λ x. (omega arith, refl)) a e Γ n κ b p d k one le ar (omega (arith, h))) (omega arith) (omega arith) (omega arith)
    unary_small unary_form.Load a e Γ n κ b p d k one le ar h = at_most _ _ d (straight_small unary_form.Load (λ x. (omega arith, refl)) a e Γ n κ b p d k one le ar (omega (arith, h))) (omega arith) (omega arith) (omega arith)
    unary_small unary_form.Hold a e Γ n κ b p d k one le ar h = at_most _ _ d (straight_small unary_form.Hold (λ x. (omega arith, refl)) a e Γ n κ b p d k one le ar (omega (arith, h))) (omega arith) (omega arith) (omega arith)
    unary_small (unary_form.Inl T) a e Γ n κ b p d k one le ar h = at_most _ _ d (straight_small (unary_form.Inl T) (λ x. (omega arith, refl)) a e Γ n κ b p d k one le ar (omega (arith, h))) (omega arith) (omega arith) (omega arith)
    unary_small (unary_form.Inr T) a e Γ n κ b p d k one le ar h = at_most _ _ d (straight_small (unary_form.Inr T) (λ x. (omega arith, refl)) a e Γ n κ b p d k one le ar (omega (arith, h))) (omega arith) (omega arith) (omega arith)
    unary_small (unary_form.Held v) a e Γ n κ b p d k one le ar h = at_most _ _ d (straight_small (unary_form.Held v) (λ x. (omega arith, refl)) a e Γ n κ b p d k one le ar (omega (arith, h))) (omega arith) (omega arith) (omega arith)

    -- a get's ways
    value_small : (T : TypeExpression) (v : World) (x l k n d : ℕ) → 1 ≤ d → S (get_value T v x l k n) 1 7 d
    value_small T v x l k n d one = at_most 1 7 d (two_ways {a = 0} {a1 = 1} {p = 4} {d = 0} (at_most 0 4 0 (an_end (go k l) 0) (omega arith) (omega arith) (omega arith)) (filled (omega arith, refl) (closed_over (an_end (send n k (suc (suc n))) 0) (omega arith) (omega arith) (an_end (send x (suc n) l) 0)))) (omega arith) (omega arith) (omega (arith, one))

    get_small : (T : TypeExpression) (v : World) (x : ℕ) (b : Expression) (e : SmallAt b) (Γ : Scope) (k n d : ℕ) → 1 ≤ d → 3 * node_count b ≤ L → S (get_code T v x (variable_of b) (cps E b) Γ k n) (2 + 3 * node_count b) 0 d
    get_small T v x b e Γ k n d one h = at (variable_of b)
      where
        by_slot : (o : Option ℕ) → S (get_variable T v x o k n) (2 + 3 * node_count b) 0 d
        by_slot None = ended (omega arith) (at_most _ 9 d (filled (omega arith, refl) (value_small T v x n k (suc n) d one)) (omega arith) (omega arith) (omega arith))
        by_slot (Some l) = ended (omega arith) (at_most _ 7 d (value_small T v x l k n d one) (omega arith) (omega arith) (omega arith))

        at : (o : Option ℕ) → S (get_code T v x o (cps E b) Γ k n) (2 + 3 * node_count b) 0 d
        at None = ended (omega arith) (at_most _ 9 d (closed_over (goal_small b e (in_block (only v) Γ) n refl h) (omega arith) h (two_ways {a = 0} {a1 = 1} {p = 4} {d = 0} (at_most 0 4 0 (an_end (go n k) 0) (omega arith) (omega arith) (omega arith)) (filled (omega arith, refl) (closed_over (an_end (send (suc n) k (suc (suc (suc n)))) 0) (omega arith) (omega arith) (an_end (send x n (suc (suc n))) 0))))) (omega arith) (omega arith) (omega (arith, one)))
        at (Some z) = by_slot (Γ.slots z)

    -- what asks at once makes one block, beside those of what follows
    abbrev KFew : Continuation → ℕ → Type 0
    KFew κ a = (x m : ℕ) → blocks_in (apply κ x m) ≤ a

    variable_few : (o : Option ℕ) (n : ℕ) (κ : Continuation) (a : ℕ) → KFew κ a → blocks_in (variable_code o n κ) ≤ a
    variable_few None n κ a h = h n (suc n)
    variable_few (Some l) n κ a h = h l n

    leaf_few : (f : LeafForm) (Γ : Scope) (n : ℕ) (κ : Continuation) (a : ℕ) → KFew κ a → blocks_in (cps E (leaf f) Γ n κ) ≤ a
    leaf_few (leaf_form.Var x) Γ n κ a h = variable_few (Γ.slots x) n κ a h
    leaf_few (leaf_form.Valid x) Γ n κ a h = variable_few (Γ.slots x) n κ a h
    leaf_few _ Γ n κ a h = h n (suc n)

    plain_few : (c : Expression) → is_plain c ≡ true → (Γ : Scope) (n : ℕ) (κ : Continuation) (a : ℕ) → KFew κ a → blocks_in (cps E c Γ n κ) ≤ a
    plain_few (leaf f) e Γ n κ a h = leaf_few f Γ n κ a h
    plain_few (binary binary_form.Pair (leaf f) (leaf g)) e Γ n κ a h = leaf_few f Γ n _ a (λ x m. leaf_few g Γ m _ a (λ y q. h q (suc q)))
    plain_few _ e Γ n κ a h = absurd (cc)

    reified_few : (y : Entry) (κ : Continuation) (n : ℕ) (e : ℕ → Ending) (a : ℕ) → KFew κ a → blocks_in (reify y κ n (λ k m. block.ends (e k))) ≤ suc a
    reified_few y (Tail k) n e a h = omega arith
    reified_few y (Then f) n e a h = omega (arith, h (suc n) (suc (suc n)))

    asks_few : (b : Expression) → asks_at_once b ≡ true → (Γ : Scope) (n : ℕ) (κ : Continuation) (a : ℕ) → KFew κ a → blocks_in (cps E b Γ n κ) ≤ suc a
    asks_few (binary binary_form.Call (leaf (leaf_form.Extern p)) c) e Γ n κ a h = plain_few c e Γ n _ (suc a) (λ y m. reified_few _ κ m (λ k. ask p y k) a h)
    asks_few _ e Γ n κ a h = absurd (cc)

    -- a get whose block may go, with its other form
    home_small : (e : Expression) → SmallAt e → (Γ : Scope) (n : ℕ) (w : World) (k : ℕ) → Γ.arms ≡ 0 → 3 * node_count e ≤ L → S (cps E e Γ n (homeward w k)) (3 * node_count e) (3 * node_count e) 501
    home_small e s Γ n w k z h = at_most (3 * node_count e) (3 * node_count e) 501 (s Γ n (homeward w k) 0 0 501 (λ x m. record { blocks = omega arith; path = omega arith; depth = omega arith; inner = tt }) (omega arith) (omega arith) (omega (arith, z)) (omega (arith, h))) (omega arith) (omega arith) (omega arith)

    away_small : (T A : TypeExpression) (v w : World) (b : Expression) → SmallAt b → asks_at_once b ≡ true → (z : Option ℕ) → z ≡ None → (Γ : Scope) (k n d : ℕ) → 3 * node_count b ≤ L → S (get_away w v (cps E b) Γ k n (get_apart T A z (cps E (leaf (leaf_form.Addr v))) (cps E b) Γ k (suc n))) 5 0 d
    away_small T A v w b e asks (Some z) q Γ k n d h = absurd (cc)
    away_small T A v w b e asks None q Γ k n d h =
        let j = home_small b e (in_block (only v) Γ) (suc (suc (suc (suc n)))) w k refl h in
        let g = goal_small b e (in_block (only (place_of A)) Γ) (suc (suc n)) refl h in
        record {
          blocks = omega (arith, asks_few b asks (in_block (only v) Γ) (suc (suc (suc (suc n)))) (homeward w k) 0 (λ x m. omega arith), asks_few b asks (in_block (only (place_of A)) Γ) (suc (suc (suc (suc n)))) (Tail (suc (suc (suc n)))) 0 (λ x m. omega arith));
          path = omega arith;
          depth = omega arith;
          inner = ((omega (arith, j.depth), omega (arith, j.path, h), j.inner, tt), ((omega (arith, g.depth), omega (arith, g.path, h), g.inner, (tt, (omega arith, omega arith, tt, tt)))));
        }

    -- what follows the first part of a node of two, but for a get
    abbrev RestSmall : BinaryForm → Type 0
    RestSmall f = (T A : TypeExpression) (b : Expression) (e : SmallAt b) (Γ : Scope) (x n : ℕ) (κ : Continuation) (a p d : ℕ) → KSmall κ a p d → 1 ≤ d → d ≤ 501 → 501 ≤ d + Γ.arms → 3 + p + 3 * node_count b ≤ L → S (binary_rest f T A (variable_of b) (cps E b) Γ x n κ) (3 * node_count b + suc a) (3 * node_count b + (3 + p)) d

    two_small : (f : BinaryForm) (b : Expression) (e : SmallAt b) (Γ : Scope) (x n : ℕ) (κ : Continuation) (a p d : ℕ) → KSmall κ a p d → 1 ≤ d → d ≤ 501 → 501 ≤ d + Γ.arms → 3 + p + 3 * node_count b ≤ L → S (cps E b Γ n (Then (λ y m. straight (block.two f x y) (apply κ m (suc m))))) (3 * node_count b + suc a) (3 * node_count b + (3 + p)) d
    two_small f b e Γ x n κ a p d k one le ar h = at_most (3 * node_count b + suc a) (3 * node_count b + (3 + p)) d (e Γ n _ a (2 + p) d (λ y m. filled (omega arith, refl) (k m (suc m))) one le ar (omega (arith, h))) (omega arith) (omega arith) (omega arith)

    bound_small : (b : Expression) (e : SmallAt b) (Γ : Scope) (n : ℕ) (κ : Continuation) (a p d : ℕ) → KSmall κ a p d → 1 ≤ d → d ≤ 501 → 501 ≤ d + Γ.arms → 3 + p + 3 * node_count b ≤ L → S (cps E b Γ n κ) (3 * node_count b + suc a) (3 * node_count b + p) d
    bound_small b e Γ n κ a p d k one le ar h = at_most (3 * node_count b + suc a) (3 * node_count b + p) d (e Γ n κ a p d k one le ar (omega (arith, h))) (omega arith) (omega arith) (omega arith)

    call_small : (T : TypeExpression) (b : Expression) (e : SmallAt b) (Γ : Scope) (n : ℕ) (κ : Continuation) (ending : ℕ → ℕ → block.Ending) (a p d : ℕ) → KSmall κ a p d → 1 ≤ d → d ≤ 501 → 501 ≤ d + Γ.arms → 3 + p + 3 * node_count b ≤ L → S (cps E b Γ n (Then (λ y m. reify (by_value Γ.mode (of T)) κ m (λ k q. block.ends (ending y k))))) (3 * node_count b + suc a) (3 * node_count b + (3 + p)) d
    call_small T b e Γ n κ ending a p d k one le ar h = at_most (3 * node_count b + suc a) (3 * node_count b + (3 + p)) d
        (e Γ n _ (suc (a + 0)) 2 d (λ y m. reified _ κ m _ a p 0 0 d k le (omega (arith, h)) (λ l q. an_end (ending y l) d)) one le ar (omega (arith, h))) (omega arith) (omega arith) (omega arith)

    do_small : RestSmall binary_form.Do
    do_small T A b e Γ x n κ a p d k one le ar h = at_most _ _ d (bound_small b e Γ n κ a p d k one le ar h) (omega arith) (omega arith) (omega arith)

    val_small : (y : ℕ) → RestSmall (binary_form.Val y)
    val_small y T A b e Γ x n κ a p d k one le ar h = at_most _ _ d (bound_small b e (bind y _ x Γ) n κ a p d k one le ar h) (omega arith) (omega arith) (omega arith)

    put_small : (y : ℕ) → RestSmall (binary_form.Put y)
    put_small y T A b e Γ x n κ a p d k one le ar h = at_most _ _ d (bound_small b e (bind y _ x Γ) n κ a p d k one le ar h) (omega arith) (omega arith) (omega arith)

    leta_small : (y : ℕ) → RestSmall (binary_form.Leta y)
    leta_small y T A b e Γ x n κ a p d k one le ar h = at_most _ _ d (filled (omega arith, refl) (bound_small b e (bind y _ n Γ) (suc n) κ a p d k one le ar h)) (omega arith) (omega arith) (omega arith)

    lets_small : (y : ℕ) → RestSmall (binary_form.Lets y)
    lets_small y T A b e Γ x n κ a p d k one le ar h = at_most _ _ d (filled (omega arith, refl) (bound_small b e (bind y _ n Γ) (suc n) κ a p d k one le ar h)) (omega arith) (omega arith) (omega arith)

    -- the first part, and then such code
    first_small : (a : Expression) (e : SmallAt a) (Γ : Scope) (n : ℕ) (f : ℕ → ℕ → Code) (c p d : ℕ) → KSmall (Then f) c p d → 1 ≤ d → d ≤ 501 → 501 ≤ d + Γ.arms → p + 3 * node_count a ≤ L → S (cps E a Γ n (Then f)) (3 * node_count a + c) (3 * node_count a + p) d
    first_small a e Γ n f c p d k one le ar h = e Γ n (Then f) c p d k one le ar h

    part_small : (f : BinaryForm) → RestSmall f → (T A : TypeExpression) (a b : Expression) → SmallAt a → SmallAt b → (Γ : Scope) (n : ℕ) (κ : Continuation) (c p d : ℕ) → KSmall κ c p d → 1 ≤ d → d ≤ 501 → 501 ≤ d + Γ.arms → p + 3 * node_count (binary f a b) ≤ L → S (cps E a Γ n (Then (λ x m. binary_rest f T A (variable_of b) (cps E b) Γ x m κ))) (3 * node_count (binary f a b) + c) (3 * node_count (binary f a b) + p) d
    part_small f r T A a b ea eb Γ n κ c p d k one le ar h = at_most _ _ d (first_small a ea Γ n _ (3 * node_count b + suc c) (3 * node_count b + (3 + p)) d (λ x m. r T A b eb Γ x m κ c p d k one le ar (omega (arith, h))) one le ar (omega (arith, h))) (omega arith) (omega arith) (omega arith)

    parts_small : (o : Option World) (w : World) (T A : TypeExpression) (a b : Expression) → ((v : World) → o ≡ Some v → IsAway a b w v) → SmallAt a → SmallAt b → (Γ : Scope) (k n d : ℕ) → 1 ≤ d → d ≤ 501 → 501 ≤ d + Γ.arms → 3 * node_count a + 3 * node_count b ≤ L → S (get_parts o T A (variable_of b) (cps E a) (cps E b) Γ k n) (3 * node_count a + (2 + 3 * node_count b)) (3 * node_count a + 0) d
    parts_small None w T A a b is ea eb Γ k n d one le ar h = first_small a ea Γ n _ (2 + 3 * node_count b) 0 d (λ x q. get_small T _ x b eb Γ k q d one (omega (arith, h))) one le ar (omega (arith, h))
    parts_small (Some v) w T A a b is ea eb Γ k n d one le ar h =
        let i = is v refl in
        subst (λ c. S (get_parts (Some v) T A (variable_of b) (cps E c) (cps E b) Γ k n) (3 * node_count a + (2 + 3 * node_count b)) (3 * node_count a + 0) d) (sym i.address)
        (at_most _ _ d (away_small T A v _ b eb i.asks (variable_of b) (asks_unnamed b i.asks) Γ k n d (omega (arith, h))) (omega (arith, node_least a, node_least b)) (omega arith) (omega arith))

    get_all_small : (o : Option World) (w : World) (T A : TypeExpression) (a b : Expression) → ((v : World) → o ≡ Some v → IsAway a b w v) → SmallAt a → SmallAt b → (Γ : Scope) (n : ℕ) (κ : Continuation) (c p d : ℕ) → KSmall κ c p d → 1 ≤ d → d ≤ 501 → 501 ≤ d + Γ.arms → p + 3 * node_count (binary binary_form.Get a b) ≤ L → S (binary_code None o binary_form.Get T A (variable_of b) (cps E a) (cps E b) Γ n κ) (3 * node_count (binary binary_form.Get a b) + c) (3 * node_count (binary binary_form.Get a b) + p) d
    get_all_small o w T A a b is ea eb Γ n κ c p d k one le ar h = at_most _ _ d (reified _ κ n _ c p (3 * node_count a + (2 + 3 * node_count b)) (3 * node_count a + 0) d k le (omega (arith, h))
        (λ l m. parts_small o w T A a b is ea eb Γ l m d one le ar (omega (arith, h)))) (omega arith) (omega (arith, node_least b)) (omega arith)

    binary_small : (o : Option Primitive) (r : Option World) (w : World) (f : BinaryForm) (T A : TypeExpression) (a b : Expression) → ((v : World) → r ≡ Some v → IsAway a b w v) → SmallAt a → SmallAt b → (Γ : Scope) (n : ℕ) (κ : Continuation) (c p d : ℕ) → KSmall κ c p d → 1 ≤ d → d ≤ 501 → 501 ≤ d + Γ.arms → p + 3 * node_count (binary f a b) ≤ L → S (binary_code o r f T A (variable_of b) (cps E a) (cps E b) Γ n κ) (3 * node_count (binary f a b) + c) (3 * node_count (binary f a b) + p) d
    binary_small (Some q) r w f T A a b is ea eb Γ n κ c p d k one le ar h = at_most _ _ d (call_small T b eb Γ n κ (λ y l. ask q y l) c p d k one le ar (omega (arith, h))) (omega arith) (omega arith) (omega arith)
    binary_small None r w binary_form.Get T A a b is ea eb Γ n κ c p d k one le ar h = get_all_small r w T A a b is ea eb Γ n κ c p d k one le ar h
    binary_small None r w binary_form.Do T A a b is ea eb Γ n κ c p d k one le ar h = part_small binary_form.Do do_small T A a b ea eb Γ n κ c p d k one le ar h
    binary_small None r w (binary_form.Val y) T A a b is ea eb Γ n κ c p d k one le ar h = part_small (binary_form.Val y) (val_small y) T A a b ea eb Γ n κ c p d k one le ar h
    binary_small None r w (binary_form.Put y) T A a b is ea eb Γ n κ c p d k one le ar h = part_small (binary_form.Put y) (put_small y) T A a b ea eb Γ n κ c p d k one le ar h
    binary_small None r w (binary_form.Leta y) T A a b is ea eb Γ n κ c p d k one le ar h = part_small (binary_form.Leta y) (leta_small y) T A a b ea eb Γ n κ c p d k one le ar h
    binary_small None r w (binary_form.Lets y) T A a b is ea eb Γ n κ c p d k one le ar h = part_small (binary_form.Lets y) (lets_small y) T A a b ea eb Γ n κ c p d k one le ar h
    binary_small None r w binary_form.Call T A a b is ea eb Γ n κ c p d k one le ar h = part_small binary_form.Call (λ T1 A1 b1 e1 Γ1 x1 n1 κ1 a1 p1 d1 k1 one1 le1 ar1 h1. call_small T1 b1 e1 Γ1 n1 κ1 (λ y l. call x1 y l) a1 p1 d1 k1 one1 le1 ar1 h1) T A a b ea eb Γ n κ c p d k one le ar h
    binary_small None r w binary_form.Pair T A a b is ea eb Γ n κ c p d k one le ar h = part_small binary_form.Pair (λ T1 A1 b1 e1 Γ1 x1 n1 κ1 a1 p1 d1 k1 one1 le1 ar1 h1. two_small binary_form.Pair b1 e1 Γ1 x1 n1 κ1 a1 p1 d1 k1 one1 le1 ar1 h1) T A a b ea eb Γ n κ c p d k one le ar h
    binary_small None r w binary_form.Cons T A a b is ea eb Γ n κ c p d k one le ar h = part_small binary_form.Cons (λ T1 A1 b1 e1 Γ1 x1 n1 κ1 a1 p1 d1 k1 one1 le1 ar1 h1. two_small binary_form.Cons b1 e1 Γ1 x1 n1 κ1 a1 p1 d1 k1 one1 le1 ar1 h1) T A a b ea eb Γ n κ c p d k one le ar h
    binary_small None r w binary_form.Store T A a b is ea eb Γ n κ c p d k one le ar h = part_small binary_form.Store (λ T1 A1 b1 e1 Γ1 x1 n1 κ1 a1 p1 d1 k1 one1 le1 ar1 h1. two_small binary_form.Store b1 e1 Γ1 x1 n1 κ1 a1 p1 d1 k1 one1 le1 ar1 h1) T A a b ea eb Γ n κ c p d k one le ar h
    binary_small None r w (binary_form.Binary o) T A a b is ea eb Γ n κ c p d k one le ar h = part_small (binary_form.Binary o) (λ T1 A1 b1 e1 Γ1 x1 n1 κ1 a1 p1 d1 k1 one1 le1 ar1 h1. two_small (binary_form.Binary o) b1 e1 Γ1 x1 n1 κ1 a1 p1 d1 k1 one1 le1 ar1 h1) T A a b ea eb Γ n κ c p d k one le ar h

    -- arms: one in the block nests a test less, and one in a block of its own none
    arm_small : (T : TypeExpression) (e : Expression) (s : SmallAt e) (Γ : Scope) (n k d : ℕ) → suc d ≤ 501 → 501 ≤ suc d + Γ.arms → 3 * node_count e ≤ L → S (arm_code T (cps E e) Γ n k) (suc (3 * node_count e)) (3 * node_count e) d
    arm_small T e s Γ n k d le ar h = at (nat_lt Γ.arms 500) refl
      where
        at : (t : Bool) → nat_lt Γ.arms 500 ≡ t → S (if t then cps E e (in_arm Γ) n (Tail k) else closure (by_value Γ.mode (takes (of T))) (goal_code (cps E e) (in_block Γ.mode Γ) n) (block.ends (go n k))) (suc (3 * node_count e)) (3 * node_count e) d
        at true q = at_most _ _ d (s (in_arm Γ) n (Tail k) 0 0 d (tail_small k d) (omega (arith, ar, less_than Γ.arms 500 q)) (omega (arith, le)) (omega (arith, ar)) (omega (arith, h))) (omega arith) (omega arith) (omega arith)
        at false q = at_most _ _ d (closed_over (goal_small e s (in_block Γ.mode Γ) n refl h) (omega arith) h (an_end (go n k) d)) (omega arith) (omega (arith, node_least e)) (omega arith)

    -- both arms of a test: the longer path leaves out the other arm, which has a node at least
    arms_small : (t : Test) (x : ℕ) (c e : Code) (b q d : ℕ) → S c (suc (3 * b)) (3 * b) d → S e (suc (3 * q)) (3 * q) d → 1 ≤ b → 1 ≤ q → S (test t x c e) (2 + (3 * b + 3 * q)) (3 * b + 3 * q) (suc d)
    arms_small t x c e zero q d s r hb hq = absurd (omega (arith, hb))
    arms_small t x c e (suc b) zero d s r hb hq = absurd (omega (arith, hq))
    arms_small t x c e (suc b) (suc q) d s r hb hq = at_most _ _ (suc d) (two_ways {a = suc (3 * suc b)} {a1 = suc (3 * suc q)} {p = 3 * b + (3 * q + 3)} {d = d} (at_most (suc (3 * suc b)) (3 * b + (3 * q + 3)) d s (omega arith) (omega arith) (omega arith)) (at_most (suc (3 * suc q)) (3 * b + (3 * q + 3)) d r (omega arith) (omega arith) (omega arith))) (omega arith) (omega arith) (omega arith)

    rest_of_three_small : (f : TernaryForm) (T A : TypeExpression) (b c : Expression) → SmallAt b → SmallAt c → (Γ : Scope) (x n : ℕ) (κ : Continuation) (a p d : ℕ) → KSmall κ a p d → 1 ≤ d → d ≤ 501 → 501 ≤ d + Γ.arms → p + (3 * node_count b + 3 * node_count c) ≤ L → S (ternary_rest f T A (cps E b) (cps E c) Γ x n κ) (3 + (3 * node_count b + 3 * node_count c) + a) (2 + (3 * node_count b + 3 * node_count c)) d
    rest_of_three_small f T A b c eb ec Γ x n κ a p zero k one le ar h = absurd (omega (arith, one))
    rest_of_three_small ternary_form.If T A b c eb ec Γ x n κ a p (suc d) k one le ar h = at_most _ _ (suc d) (reified _ κ n _ a p _ _ (suc d) k le (omega (arith, h)) (λ l m. arms_small _ x _ _ (node_count b) (node_count c) d (arm_small T b eb Γ m l d le ar (omega (arith, h))) (arm_small T c ec Γ m l d le ar (omega (arith, h))) (node_least b) (node_least c))) (omega arith) (omega arith) (omega arith)
    rest_of_three_small (ternary_form.CaseSum y z) T A b c eb ec Γ x n κ a p (suc d) k one le ar h = at_most _ _ (suc d) (reified _ κ n _ a p _ _ (suc d) k le (omega (arith, h)) (λ l m. arms_small _ x _ _ (node_count b) (node_count c) d (arm_small T b eb (bind y _ m Γ) (suc m) l d le ar (omega (arith, h))) (arm_small T c ec (bind z _ m Γ) (suc m) l d le ar (omega (arith, h))) (node_least b) (node_least c))) (omega arith) (omega arith) (omega arith)
    rest_of_three_small (ternary_form.CaseList y z) T A b c eb ec Γ x n κ a p (suc d) k one le ar h = at_most _ _ (suc d) (reified _ κ n _ a p _ _ (suc d) k le (omega (arith, h)) (λ l m. arms_small _ x _ _ (node_count b) (node_count c) d (arm_small T b eb Γ m l d le ar (omega (arith, h))) (arm_small T c ec (bind z _ (suc m) (bind y _ m Γ)) (suc (suc m)) l d le ar (omega (arith, h))) (node_least b) (node_least c))) (omega arith) (omega arith) (omega arith)

    ternary_small : (f : TernaryForm) (a b c : Expression) → SmallAt a → SmallAt b → SmallAt c → SmallAt (ternary f a b c)
    ternary_small f a b c ea eb ec Γ n κ q p d k one le ar h = at_most _ _ d (first_small a ea Γ n _ (3 + (3 * node_count b + 3 * node_count c) + q) (2 + (3 * node_count b + 3 * node_count c)) d (λ x m. rest_of_three_small f _ _ b c eb ec Γ x m κ q p d k one le ar (omega (arith, h))) one le ar (omega (arith, h, node_least a))) (omega arith) (omega arith) (omega arith)

    pub small_at : (e : Expression) → SmallAt e
    small_at (leaf f) = leaf_small f
    small_at (unary f a) = unary_small f a (small_at a)
    small_at (binary f a b) = λ Γ n κ c p d k one le ar h. binary_small (called_directly f a) (away_to (world_of Γ.mode) a b) _ f _ _ a b (away_is a b (world_of Γ.mode)) (small_at a) (small_at b) Γ n κ c p d k one le ar h
    small_at (ternary f a b c) = ternary_small f a b c (small_at a) (small_at b) (small_at c)
