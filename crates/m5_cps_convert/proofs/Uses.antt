-- Which slots a node's code uses of those before a number: those of its free variables, and what follows uses.
use Rattle.std.proofs.Common.{◌≡◌, ℕ, suc, ◌≤◌, ◌<◌, ◌⊎◌, inl, inr, List, [], ◌∷◌, Option, Some, None, Bool, true, false, IsTrue, refl, sym, ap, ◌∙◌, subst, ⊎_elim, arith, if◌then◌else◌, ◌==◌, ◌||◌, nat_lt, true≢false}
use Rattle.m5_terms.specs.TypeExpression.{TypeExpression, address}
use Rattle.m5_terms.specs.Expression.{Expression, leaf, unary, binary, ternary}
use Rattle.m5_terms.specs.declared.types.World.{World}
use Rattle.m5_terms.specs.declared.types.Primitive.{Primitive}
use Rattle.m5_terms.specs.declared.form.LeafForm.{LeafForm}
use Rattle.m5_terms.specs.declared.form.LeafForm.TheVariants as leaf_form
use Rattle.m5_terms.specs.declared.form.UnaryForm.{UnaryForm}
use Rattle.m5_terms.specs.declared.form.UnaryForm.TheVariants as unary_form
use Rattle.m5_terms.specs.declared.form.BinaryForm.{BinaryForm}
use Rattle.m5_terms.specs.declared.form.BinaryForm.TheVariants as binary_form
use Rattle.m5_terms.specs.declared.form.TernaryForm.{TernaryForm}
use Rattle.m5_terms.specs.declared.form.TernaryForm.TheVariants as ternary_form
use Rattle.m5_cps.specs.Entries.{of, takes, only, Entry, by_value, world_of}
use Rattle.m5_cps.specs.Blocks.{Code, straight, closure, test, Straight, constant, Test, if_here, go, call, ask, send, done}
use Rattle.m5_cps.specs.Blocks as block
use Rattle.m5_cps.specs.Values.{put}
use Rattle.m5_cps.specs.Captured.{uses, straight_uses}
use Rattle.m5_cps_convert.specs.Scopes.{VariableSlots, Scope, bind, in_block, in_arm, in_sham, fn_scope, rec_scope}
use Rattle.m5_cps_convert.specs.Continuations.{Tail, Then, apply, reify, variable_code, body_code, goal_code, start_code}
use Rattle.m5_cps_convert.specs.Convert.{cps}
use Rattle.m5_terms.specs.Substitution.{among, unary_binders, binary_binders, second_binders, third_binders}
use Rattle.m5_typing.specs.Context.{Setting}
use Rattle.m5_cps_convert.specs.Continuations.{Continuation, constant_code, arm_code, thread_end}
use Rattle.m5_cps_convert.specs.Forms.{unary_rest, homeward, away_with_goal, away_with_value, get_value, get_variable, get_code, variable_of}
use Rattle.m5_cps_convert.specs.Convert.{called_directly, away_to, binary_rest, get_parts, binary_code, ternary_rest}

abbrev pub OccursLeaf : ℕ → LeafForm → Type 0
OccursLeaf z (leaf_form.Var x) = z ≡ x
OccursLeaf z (leaf_form.Valid x) = z ≡ x
OccursLeaf z f = ⊥

-- the variable is free in the node
abbrev pub Occurs : ℕ → Expression → Type 0
Occurs z (leaf f) = OccursLeaf z f
Occurs z (unary f a) = (among z (unary_binders f) ≡ false) × Occurs z a
Occurs z (binary f a b) = Occurs z a ⊎ ((among z (binary_binders f) ≡ false) × Occurs z b)
Occurs z (ternary f a b c) = Occurs z a ⊎ ((among z (second_binders f) ≡ false) × Occurs z b) ⊎ ((among z (third_binders f) ≡ false) × Occurs z c)

either : {X : Type 0} (a b : Bool) → (IsTrue a → X) → (IsTrue b → X) → IsTrue (a || b) → X
either true b f g h = f refl
either false b f g h = g h

pub same_slot : (l x : ℕ) → IsTrue (l == x) → l ≡ x
same_slot l x h = grind (arith, h)

pub own_slot : (k : ℕ) → IsTrue (k == k)
own_slot k = grind arith

pub first_true : (a b : Bool) → IsTrue a → IsTrue (a || b)
first_true true b h = refl
first_true false b h = absurd (cc)

module _ (n : ℕ) (Ok : ℕ → Type 0) where
  -- a slot from n on, or one that is allowed
  abbrev pub Fine : ℕ → Type 0
  Fine x = x < n → Ok x

  -- the code uses none but such
  pub record Safe (c : Code) : Type 0 where
    pub by : (l : ℕ) → l < n → IsTrue (uses c l) → Ok l

  abbrev pub KSafe : Continuation → Type 0
  KSafe κ = (x p : ℕ) → n ≤ p → Fine x → Safe (apply κ x p)

  pub fresh : (p : ℕ) → n ≤ p → Fine p
  fresh p h i = absurd (omega (arith, h, i))

  pub is_fine : (x : ℕ) → Fine x → (l : ℕ) → l < n → IsTrue (l == x) → Ok l
  is_fine x f l h e = subst Ok (sym (same_slot l x e)) (f (subst (λ y. y < n) (same_slot l x e) h))

  abbrev pub StraightSafe : Straight → Type 0
  StraightSafe f = (l : ℕ) → l < n → IsTrue (straight_uses f l) → Ok l

  pub safe_straight : (f : Straight) (c : Code) → StraightSafe f → Safe c → Safe (straight f c)
  safe_straight f c h g = record { by = λ l i. either (straight_uses f l) (uses c l) (h l i) (g.by l i) }

  pub no_use : (l : ℕ) → l < n → IsTrue false → Ok l
  no_use l i u = absurd (true≢false (sym u))

  pub safe_closure : (y : Entry) (b c : Code) → Safe b → Safe c → Safe (closure y b c)
  safe_closure y b c h g = record { by = λ l i. either (uses b l) (uses c l) (h.by l i) (g.by l i) }

  pub safe_test : (t : Test) (x : ℕ) (b c : Code) → Fine x → Safe b → Safe c → Safe (test t x b c)
  safe_test t x b c f h g = record { by = λ l i. either (l == x) (uses b l || uses c l) (is_fine x f l i) (either (uses b l) (uses c l) (h.by l i) (g.by l i)) }

  pub safe_two : (x y : ℕ) → Fine x → Fine y → (l : ℕ) → l < n → IsTrue (l == x || l == y) → Ok l
  safe_two x y f g l i = either (l == x) (l == y) (is_fine x f l i) (is_fine y g l i)

  pub safe_three : (x y z : ℕ) → Fine x → Fine y → Fine z → (l : ℕ) → l < n → IsTrue (l == x || (l == y || l == z)) → Ok l
  safe_three x y z f g k l i = either (l == x) (l == y || l == z) (is_fine x f l i) (safe_two y z g k l i)

  pub safe_go : (k x : ℕ) → Fine k → Fine x → Safe (block.ends (go k x))
  safe_go k x f g = record { by = safe_two k x f g }

  pub tail_safe : (k : ℕ) → Fine k → KSafe (Tail k)
  tail_safe k f x p h g = safe_go k x f g

  pub end_safe : KSafe thread_end
  end_safe x p h g = record { by = λ l i u. absurd (true≢false (sym u)) }

  pub slot_fine : (k : ℕ) → KSafe (Tail k) → Fine k
  slot_fine k h i = (h n n (omega arith) (fresh n (omega arith))).by k i (first_true (k == k) (k == n) (own_slot k))

  pub safe_reify : (y : Entry) (κ : Continuation) (p : ℕ) (g : ℕ → ℕ → Code) → n ≤ p → KSafe κ → ((k m : ℕ) → n ≤ m → Fine k → Safe (g k m)) → Safe (reify y κ p g)
  safe_reify y (Tail k) p g i h f = f k p i (slot_fine k h)
  safe_reify y (Then c) p g i h f = safe_closure y _ _ (h (suc p) (suc (suc p)) (omega (arith, i)) (fresh (suc p) (omega (arith, i)))) (f p (suc p) (omega (arith, i)) (fresh p i))

  module _ (E : Setting) where
    -- the slots of the node's free variables are fine
    abbrev pub KnownIn : Expression → VariableSlots → Type 0
    KnownIn e slots = (z l : ℕ) → Occurs z e → slots z ≡ Some l → Fine l

    abbrev pub Known : Expression → Scope → Type 0
    Known e Γ = KnownIn e Γ.slots

    abbrev pub Uses : Expression → Type 0
    Uses e = (Γ : Scope) (p : ℕ) (κ : Continuation) → n ≤ p → Known e Γ → KSafe κ → Safe (cps E e Γ p κ)

    -- all but these binders
    abbrev pub KnownBut : List ℕ → Expression → VariableSlots → Type 0
    KnownBut bs e slots = (z l : ℕ) → among z bs ≡ false → Occurs z e → slots z ≡ Some l → Fine l

    pub one_known : (y x : ℕ) (e : Expression) (slots : VariableSlots) → KnownBut (y ∷ []) e slots → Fine x → KnownIn e (put y (Some x) slots)
    one_known y x e slots h f z l o = at (z == y) refl
      where
        at : (t : Bool) → (z == y) ≡ t → (if t then Some x else slots z) ≡ Some l → Fine l
        at true q s = let r : x ≡ l = cc in subst Fine r f
        at false q s = h z l (ap (λ t. t || false) q) o s

    pub two_known : (y x y1 x1 : ℕ) (e : Expression) (slots : VariableSlots) → KnownBut (y ∷ y1 ∷ []) e slots → Fine x → Fine x1 → KnownIn e (put y (Some x) (put y1 (Some x1) slots))
    two_known y x y1 x1 e slots h f g z l o = at (z == y) refl
      where
        inner : (t : Bool) → (z == y1) ≡ t → (z == y) ≡ false → (if t then Some x1 else slots z) ≡ Some l → Fine l
        inner true q r s = let w : x1 ≡ l = cc in subst Fine w g
        inner false q r s = h z l (ap (λ t. t || (z == y1 || false)) r ∙ ap (λ t. t || false) q) o s

        at : (t : Bool) → (z == y) ≡ t → (if t then Some x else put y1 (Some x1) slots z) ≡ Some l → Fine l
        at true q s = let r : x ≡ l = cc in subst Fine r f
        at false q s = inner (z == y1) refl q s

    variable_safe : (o : Option ℕ) (p : ℕ) (κ : Continuation) → n ≤ p → ((l : ℕ) → o ≡ Some l → Fine l) → KSafe κ → Safe (variable_code o p κ)
    variable_safe None p κ i k h = safe_straight _ _ no_use (h p (suc p) (omega (arith, i)) (fresh p i))
    variable_safe (Some l) p κ i k h = h l p i (k l refl)

    constant_safe : (f : LeafForm) (p : ℕ) (κ : Continuation) → n ≤ p → KSafe κ → Safe (constant_code f p κ)
    constant_safe f p κ i h = safe_straight _ _ no_use (h p (suc p) (omega (arith, i)) (fresh p i))

    leaf_used : (f : LeafForm) → Uses (leaf f)
    leaf_used (leaf_form.Var x) Γ p κ i k h = variable_safe (Γ.slots x) p κ i (λ l e. k x l refl e) h
    leaf_used (leaf_form.Valid x) Γ p κ i k h = variable_safe (Γ.slots x) p κ i (λ l e. k x l refl e) h
    leaf_used (leaf_form.Glob g) Γ p κ i k h = constant_safe (leaf_form.Glob g) p κ i h
    leaf_used (leaf_form.Extern g) Γ p κ i k h = constant_safe (leaf_form.Extern g) p κ i h
    leaf_used leaf_form.Unit Γ p κ i k h = constant_safe leaf_form.Unit p κ i h
    leaf_used (leaf_form.Bool g) Γ p κ i k h = constant_safe (leaf_form.Bool g) p κ i h
    leaf_used (leaf_form.Int g) Γ p κ i k h = constant_safe (leaf_form.Int g) p κ i h
    leaf_used (leaf_form.Str g) Γ p κ i k h = constant_safe (leaf_form.Str g) p κ i h
    leaf_used (leaf_form.Addr g) Γ p κ i k h = constant_safe (leaf_form.Addr g) p κ i h
    leaf_used leaf_form.Here Γ p κ i k h = constant_safe leaf_form.Here p κ i h
    leaf_used (leaf_form.Nil g) Γ p κ i k h = constant_safe (leaf_form.Nil g) p κ i h
    leaf_used (leaf_form.CellAt g j) Γ p κ i k h = constant_safe (leaf_form.CellAt g j) p κ i h

    -- blocks of their own
    pub body_safe : (e : Expression) (Γ : Scope) (p : ℕ) → n ≤ p → Uses e → Known e Γ → Safe (body_code (cps E e) Γ p)
    body_safe e Γ p i u k = u Γ (suc (suc (suc p))) (Tail (suc (suc p))) (omega (arith, i)) k (tail_safe (suc (suc p)) (fresh (suc (suc p)) (omega (arith, i))))

    pub goal_safe : (e : Expression) (Γ : Scope) (p : ℕ) → n ≤ p → Uses e → Known e Γ → Safe (goal_code (cps E e) Γ p)
    goal_safe e Γ p i u k = u Γ (suc (suc p)) (Tail (suc p)) (omega (arith, i)) k (tail_safe (suc p) (fresh (suc p) (omega (arith, i))))

    pub start_safe : (e : Expression) (Γ : Scope) (p : ℕ) → n ≤ p → Uses e → Known e Γ → Safe (start_code (cps E e) Γ p)
    start_safe e Γ p i u k = u Γ (suc (suc p)) thread_end (omega (arith, i)) k end_safe

    pub home_safe : (w : World) (k : ℕ) → Fine k → KSafe (homeward w k)
    home_safe w k fk x q i f = safe_straight _ _ no_use (record { by = safe_three q k x (fresh q i) fk f })

    pub rest_safe : (f : UnaryForm) (κ : Continuation) → KSafe κ → KSafe (Then (λ x m. unary_rest f x m κ))
    rest_safe f κ h x q i g = safe_straight _ _ (λ l j u. is_fine x g l j u) (h q (suc q) (omega (arith, i)) (fresh q i))

    straight_used : (f : UnaryForm) (a : Expression) (Γ Δ : Scope) (p : ℕ) (κ : Continuation) → Uses a → Δ.slots ≡ Γ.slots → n ≤ p → ((z l : ℕ) → Occurs z a → Γ.slots z ≡ Some l → Fine l) → KSafe κ → Safe (cps E a Δ p (Then (λ x m. unary_rest f x m κ)))
    straight_used f a Γ Δ p κ u same i k h = u Δ p _ i (λ z l o e. k z l o (ap (λ s. s z) (sym same) ∙ e)) (rest_safe f κ h)

    unary_used : (f : UnaryForm) (a : Expression) → Uses a → Uses (unary f a)
    unary_used (unary_form.Fn x A) a u Γ p κ i k h = safe_closure _ _ _ (body_safe a (fn_scope x A p Γ) p i u (one_known x (suc p) a Γ.slots (λ z l b o e. k z l (b, o) e) (fresh (suc p) (omega (arith, i))))) (h p (suc p) (omega (arith, i)) (fresh p i))
    unary_used (unary_form.Rec f x A B) a u Γ p κ i k h = safe_closure _ _ _ (body_safe a (rec_scope f x A B p Γ) p i u (two_known x (suc p) f p a Γ.slots (λ z l b o e. k z l (b, o) e) (fresh (suc p) (omega (arith, i))) (fresh p i))) (h p (suc p) (omega (arith, i)) (fresh p i))
    unary_used unary_form.Spawn a u Γ p κ i k h = safe_closure _ _ _ (start_safe a (in_block Γ.mode Γ) p i u (λ z l o e. k z l (refl, o) e)) (safe_straight _ _ (λ l j w. is_fine p (fresh p i) l j w) (h (suc p) (suc (suc p)) (omega (arith, i)) (fresh (suc p) (omega (arith, i)))))
    unary_used unary_form.Div a u Γ p κ i k h = safe_reify _ κ p _ i h (λ l m j g. straight_used unary_form.Div a Γ Γ m (Tail l) u refl j (λ z q o e. k z q (refl, o) e) (tail_safe l g))
    unary_used unary_form.Sham a u Γ p κ i k h = straight_used unary_form.Sham a Γ (in_sham Γ) p κ u refl i (λ z q o e. k z q (refl, o) e) h
    unary_used unary_form.Fst a u Γ p κ i k h = straight_used unary_form.Fst a Γ Γ p κ u refl i (λ z q o e. k z q (refl, o) e) h
    unary_used unary_form.Snd a u Γ p κ i k h = straight_used unary_form.Snd a Γ Γ p κ u refl i (λ z q o e. k z q (refl, o) e) h
    unary_used unary_form.StrOf a u Γ p κ i k h = straight_used unary_form.StrOf a Γ Γ p κ u refl i (λ z q o e. k z q (refl, o) e) h
    unary_used unary_form.NewCell a u Γ p κ i k h = straight_used unary_form.NewCell a Γ Γ p κ u refl i (λ z q o e. k z q (refl, o) e) h
    unary_used unary_form.Load a u Γ p κ i k h = straight_used unary_form.Load a Γ Γ p κ u refl i (λ z q o e. k z q (refl, o) e) h
    unary_used unary_form.Hold a u Γ p κ i k h = straight_used unary_form.Hold a Γ Γ p κ u refl i (λ z q o e. k z q (refl, o) e) h
    unary_used (unary_form.Inl T) a u Γ p κ i k h = straight_used (unary_form.Inl T) a Γ Γ p κ u refl i (λ z q o e. k z q (refl, o) e) h
    unary_used (unary_form.Inr T) a u Γ p κ i k h = straight_used (unary_form.Inr T) a Γ Γ p κ u refl i (λ z q o e. k z q (refl, o) e) h
    unary_used (unary_form.Held v) a u Γ p κ i k h = straight_used (unary_form.Held v) a Γ Γ p κ u refl i (λ z q o e. k z q (refl, o) e) h

    -- a get's ways
    pub away_goal_safe : (T : TypeExpression) (v : World) (x g k p : ℕ) → n ≤ p → Fine x → Fine g → Fine k → Safe (away_with_goal T v x g k p)
    away_goal_safe T v x g k p i fx fg fk = safe_straight _ _ no_use (safe_closure _ _ _ (record { by = safe_three p k (suc (suc p)) (fresh p i) fk (fresh (suc (suc p)) (omega (arith, i))) }) (record { by = safe_three x g (suc p) fx fg (fresh (suc p) (omega (arith, i))) }))

    pub away_value_safe : (T : TypeExpression) (v : World) (x y k p : ℕ) → n ≤ p → Fine x → Fine y → Fine k → Safe (away_with_value T v x y k p)
    away_value_safe T v x y k p i fx fy fk = safe_straight _ _ no_use (safe_closure _ _ _ (record { by = safe_three p k (suc (suc p)) (fresh p i) fk (fresh (suc (suc p)) (omega (arith, i))) }) (record { by = safe_three x (suc p) y fx (fresh (suc p) (omega (arith, i))) fy }))

    pub value_safe : (T : TypeExpression) (v : World) (x y k p : ℕ) → n ≤ p → Fine x → Fine y → Fine k → Safe (get_value T v x y k p)
    value_safe T v x y k p i fx fy fk = safe_test if_here x _ _ fx (safe_go k y fk fy) (away_value_safe T v x y k p i fx fy fk)

    pub get_variable_safe : (T : TypeExpression) (v : World) (x k p : ℕ) (o : Option ℕ) → n ≤ p → Fine x → ((l : ℕ) → o ≡ Some l → Fine l) → Fine k → Safe (get_variable T v x o k p)
    get_variable_safe T v x k p None i fx fo fk = safe_straight _ _ no_use (value_safe T v x p k (suc p) (omega (arith, i)) fx (fresh p i) fk)
    get_variable_safe T v x k p (Some l) i fx fo fk = value_safe T v x l k p i fx (fo l refl) fk

    pub named_occurs : (b : Expression) (z : ℕ) → variable_of b ≡ Some z → Occurs z b
    named_occurs (leaf (leaf_form.Var x)) z e = cc
    named_occurs (leaf (leaf_form.Valid x)) z e = cc
    named_occurs _ z e = absurd (cc)

    pub get_safe : (T : TypeExpression) (v : World) (x : ℕ) (b : Expression) (Γ : Scope) (k p : ℕ) → n ≤ p → Uses b → Known b Γ → Fine x → Fine k → Safe (get_code T v x (variable_of b) (cps E b) Γ k p)
    get_safe T v x b Γ k p i u known fx fk = at (variable_of b) refl
      where
        at : (o : Option ℕ) → variable_of b ≡ o → Safe (get_code T v x o (cps E b) Γ k p)
        at None e = safe_closure _ _ _ (goal_safe b (in_block (only v) Γ) p i u known) (safe_test if_here x _ _ fx (safe_go p k (fresh p i) fk) (away_goal_safe T v x p k (suc p) (omega (arith, i)) fx (fresh p i) fk))
        at (Some z) e = get_variable_safe T v x k p (Γ.slots z) i fx (λ l s. known z l (named_occurs b z e) s) fk

    -- what follows the first part
    pub two_safe : (f : BinaryForm) (b : Expression) (Γ : Scope) (x m : ℕ) (κ : Continuation) → Uses b → n ≤ m → Known b Γ → Fine x → KSafe κ → Safe (cps E b Γ m (Then (λ y q. straight (block.two f x y) (apply κ q (suc q)))))
    two_safe f b Γ x m κ u i known fx h = u Γ m _ i known (λ y q j fy. safe_straight _ _ (safe_two x y fx fy) (h q (suc q) (omega (arith, j)) (fresh q j)))

    pub rest_of_two_safe : (f : BinaryForm) (T A : TypeExpression) (a b : Expression) (Γ : Scope) (x m : ℕ) (κ : Continuation) → Uses b → n ≤ m → ((z l : ℕ) → among z (binary_binders f) ≡ false → Occurs z b → Γ.slots z ≡ Some l → Fine l) → Fine x → KSafe κ → Safe (binary_rest f T A (variable_of b) (cps E b) Γ x m κ)
    rest_of_two_safe binary_form.Do T A a b Γ x m κ u i k fx h = u Γ m κ i (λ z l o e. k z l refl o e) h
    rest_of_two_safe binary_form.Get T A a b Γ x m κ u i k fx h = safe_reify _ κ m _ i h (λ l q j fl. get_safe T _ x b Γ l q j u (λ z r o e. k z r refl o e) fx fl)
    rest_of_two_safe (binary_form.Val y) T A a b Γ x m κ u i k fx h = u (bind y _ x Γ) m κ i (one_known y x b Γ.slots k fx) h
    rest_of_two_safe (binary_form.Put y) T A a b Γ x m κ u i k fx h = u (bind y _ x Γ) m κ i (one_known y x b Γ.slots k fx) h
    rest_of_two_safe (binary_form.Leta y) T A a b Γ x m κ u i k fx h = safe_straight _ _ (λ l j w. is_fine x fx l j w) (u (bind y _ m Γ) (suc m) κ (omega (arith, i)) (one_known y m b Γ.slots k (fresh m i)) h)
    rest_of_two_safe (binary_form.Lets y) T A a b Γ x m κ u i k fx h = safe_straight _ _ (λ l j w. is_fine x fx l j w) (u (bind y _ m Γ) (suc m) κ (omega (arith, i)) (one_known y m b Γ.slots k (fresh m i)) h)
    rest_of_two_safe binary_form.Call T A a b Γ x m κ u i k fx h = u Γ m _ i (λ z l o e. k z l refl o e) (λ y q j fy. safe_reify _ κ q _ j h (λ l r jj fl. record { by = safe_three x y l fx fy fl }))
    rest_of_two_safe binary_form.Pair T A a b Γ x m κ u i k fx h = two_safe binary_form.Pair b Γ x m κ u i (λ z l o e. k z l refl o e) fx h
    rest_of_two_safe binary_form.Cons T A a b Γ x m κ u i k fx h = two_safe binary_form.Cons b Γ x m κ u i (λ z l o e. k z l refl o e) fx h
    rest_of_two_safe binary_form.Store T A a b Γ x m κ u i k fx h = two_safe binary_form.Store b Γ x m κ u i (λ z l o e. k z l refl o e) fx h
    rest_of_two_safe (binary_form.Binary o) T A a b Γ x m κ u i k fx h = two_safe (binary_form.Binary o) b Γ x m κ u i (λ z l o e. k z l refl o e) fx h

    -- the first part, and then the rest
    pub first_used : (f : BinaryForm) (T A : TypeExpression) (a b : Expression) (Γ : Scope) (p : ℕ) (κ : Continuation) → Uses a → Uses b → n ≤ p → Known (binary f a b) Γ → KSafe κ → Safe (cps E a Γ p (Then (λ x m. binary_rest f T A (variable_of b) (cps E b) Γ x m κ)))
    first_used f T A a b Γ p κ ua ub i k h = ua Γ p _ i (λ z l o e. k z l (inl o) e) (λ x m j fx. rest_of_two_safe f T A a b Γ x m κ ub j (λ z l q o e. k z l (inr (q, o)) e) fx h)

    -- a get's parts
    pub goer_safe : (v w : World) (b : Expression) (Γ : Scope) (k p : ℕ) → Uses b → n ≤ suc p → Known b Γ → Fine p → Fine k → Safe (straight (constant (leaf_form.Addr v)) (closure (by_value (only v) (of (address w))) (cps E b (in_block (only v) Γ) (suc (suc (suc (suc p)))) (homeward w k)) (block.ends (send (suc p) (suc (suc p)) p))))
    goer_safe v w b Γ k p ub i known fp fk = safe_straight _ _ no_use (safe_closure _ _ _ (ub (in_block (only v) Γ) (suc (suc (suc (suc p)))) _ (omega (arith, i)) known (home_safe w k fk))
        (record { by = safe_three (suc p) (suc (suc p)) p (fresh (suc p) (omega (arith, i))) (fresh (suc (suc p)) (omega (arith, i))) fp }))

    pub parts_safe : (o : Option World) (T A : TypeExpression) (a b : Expression) (Γ : Scope) (k p : ℕ) → Uses a → Uses b → n ≤ p → Known (binary binary_form.Get a b) Γ → Fine k → Safe (get_parts o T A (variable_of b) (cps E a) (cps E b) Γ k p)
    parts_safe None T A a b Γ k p ua ub i known fk = first_used binary_form.Get T A a b Γ p (Tail k) ua ub i known (tail_safe k fk)
    parts_safe (Some v) T A a b Γ k p ua ub i known fk =
        safe_straight _ _ no_use (safe_test if_here p _ _ (fresh p i)
        (goer_safe v _ b Γ k p ub (omega (arith, i)) (λ z l o e. known z l (inr (refl, o)) e) (fresh p i) fk)
        (first_used binary_form.Get T A a b Γ (suc p) (Tail k) ua ub (omega (arith, i)) known (tail_safe k fk)))

    pub binary_used : (f : BinaryForm) (T A : TypeExpression) (a b : Expression) (Γ : Scope) (p : ℕ) (κ : Continuation) (d : Option Primitive) (o : Option World) → Uses a → Uses b → n ≤ p → Known (binary f a b) Γ → ((z l : ℕ) → d ≡ None ⊎ (among z (binary_binders f) ≡ false)) → KSafe κ → Safe (binary_code d o f T A (variable_of b) (cps E a) (cps E b) Γ p κ)
    binary_used f T A a b Γ p κ (Some q) o ua ub i k bare h = ub Γ p _ i (λ z l o e. k z l (inr (⊎_elim (λ w. absurd (cc)) (λ w. w) (bare z l), o)) e) (λ y m j fy. safe_reify _ κ m _ j h (λ l r jj fl. record { by = safe_two y l fy fl }))
    binary_used binary_form.Get T A a b Γ p κ None o ua ub i k bare h = safe_reify _ κ p _ i h (λ l m j fl. parts_safe o T A a b Γ l m ua ub j k fl)
    binary_used f T A a b Γ p κ None o ua ub i k bare h = first_used f T A a b Γ p κ ua ub i k h

    pub direct_bare : (f : BinaryForm) (a : Expression) (z : ℕ) → (called_directly f a ≡ None) ⊎ (among z (binary_binders f) ≡ false)
    direct_bare binary_form.Call a z = inr refl
    direct_bare _ a z = inl refl

    -- arms
    pub arm_safe : (T : TypeExpression) (e : Expression) (Γ : Scope) (m k : ℕ) → n ≤ m → Uses e → Known e Γ → Fine k → Safe (arm_code T (cps E e) Γ m k)
    arm_safe T e Γ m k i u known fk = at (nat_lt Γ.arms 500)
      where
        at : (t : Bool) → Safe (if t then cps E e (in_arm Γ) m (Tail k) else closure (by_value Γ.mode (takes (of T))) (goal_code (cps E e) (in_block Γ.mode Γ) m) (block.ends (go m k)))
        at true = u (in_arm Γ) m (Tail k) i known (tail_safe k fk)
        at false = safe_closure _ _ _ (goal_safe e (in_block Γ.mode Γ) m i u known) (safe_go m k (fresh m i) fk)

    pub rest_of_three_safe : (f : TernaryForm) (T A : TypeExpression) (b c : Expression) (Γ : Scope) (x m : ℕ) (κ : Continuation) → Uses b → Uses c → n ≤ m → ((z l : ℕ) → among z (second_binders f) ≡ false → Occurs z b → Γ.slots z ≡ Some l → Fine l) → ((z l : ℕ) → among z (third_binders f) ≡ false → Occurs z c → Γ.slots z ≡ Some l → Fine l) → Fine x → KSafe κ → Safe (ternary_rest f T A (cps E b) (cps E c) Γ x m κ)
    rest_of_three_safe ternary_form.If T A b c Γ x m κ ub uc i kb kc fx h = safe_reify _ κ m _ i h (λ l q j fl. safe_test _ x _ _ fx (arm_safe T b Γ q l j ub (λ z r o e. kb z r refl o e) fl) (arm_safe T c Γ q l j uc (λ z r o e. kc z r refl o e) fl))
    rest_of_three_safe (ternary_form.CaseSum y z) T A b c Γ x m κ ub uc i kb kc fx h = safe_reify _ κ m _ i h (λ l q j fl. safe_test _ x _ _ fx (arm_safe T b (bind y _ q Γ) (suc q) l (omega (arith, j)) ub (one_known y q b Γ.slots kb (fresh q j)) fl) (arm_safe T c (bind z _ q Γ) (suc q) l (omega (arith, j)) uc (one_known z q c Γ.slots kc (fresh q j)) fl))
    rest_of_three_safe (ternary_form.CaseList y z) T A b c Γ x m κ ub uc i kb kc fx h = safe_reify _ κ m _ i h (λ l q j fl. safe_test _ x _ _ fx (arm_safe T b Γ q l j ub (λ z r o e. kb z r refl o e) fl) (arm_safe T c (bind z _ (suc q) (bind y _ q Γ)) (suc (suc q)) l (omega (arith, j)) uc (two_known z (suc q) y q c Γ.slots kc (fresh (suc q) (omega (arith, j))) (fresh q j)) fl))

    pub used : (e : Expression) → Uses e
    used (leaf f) Γ p κ i k h = leaf_used f Γ p κ i k h
    used (unary f a) Γ p κ i k h = unary_used f a (used a) Γ p κ i k h
    used (binary f a b) Γ p κ i k h = binary_used f _ _ a b Γ p κ (called_directly f a) (away_to (world_of Γ.mode) a b) (used a) (used b) i k (λ z l. direct_bare f a z) h
    used (ternary f a b c) Γ p κ i k h = used a Γ p _ i (λ z l o e. k z l (inl o) e) (λ x m j fx. rest_of_three_safe f _ _ b c Γ x m κ (used b) (used c) j (λ z l q o e. k z l (inr (inl (q, o))) e) (λ z l q o e. k z l (inr (inr (q, o))) e) fx h)
