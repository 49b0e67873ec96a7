-- Each block takes no more slots with it than the program's width and one.
use Rattle.std.proofs.Common.{◌≡◌, ℕ, suc, ◌+◌, ◌≤◌, ◌<◌, ◌⊎◌, inl, inr, List, [], ◌∷◌, ◌++◌, length, max, Option, Some, None, Bool, true, false, IsTrue, refl, sym, subst, ⊎_elim, arith, if◌then◌else◌, ◌==◌, ◌||◌, nat_lt}
use Rattle.std.proofs.Math.Nat.{le-max_left, le-max_right}
use Rattle.m5_terms.specs.TypeExpression.{TypeExpression}
use Rattle.m5_terms.specs.Expression.{Expression, leaf, unary, binary, ternary}
use Rattle.m5_terms.specs.declared.types.World.{World}
use Rattle.m5_terms.specs.declared.types.Primitive.{Primitive}
use Rattle.m5_terms.specs.declared.form.LeafForm.{LeafForm}
use Rattle.m5_terms.specs.declared.form.LeafForm.TheVariants as leaf_form
use Rattle.m5_terms.specs.declared.form.UnaryForm.{UnaryForm}
use Rattle.m5_terms.specs.declared.form.UnaryForm.TheVariants as unary_form
use Rattle.m5_terms.specs.declared.form.BinaryForm.{BinaryForm}
use Rattle.m5_terms.specs.declared.form.BinaryForm.TheVariants as binary_form
use Rattle.m5_terms.specs.declared.form.TernaryForm.{TernaryForm}
use Rattle.m5_terms.specs.declared.form.TernaryForm.TheVariants as ternary_form
use Rattle.m5_meaning.specs.Site.{Program}
use Rattle.m5_cps.specs.Entries.{SlotType, of, takes, Mode, only, world_of, by_value}
use Rattle.m5_cps.specs.Blocks.{Code, straight, closure, test, Test, if_here, constant, go, call, ask, send}
use Rattle.m5_cps.specs.Blocks as block
use Rattle.m5_cps.specs.Values.{put}
use Rattle.m5_cps.specs.Captured.{captured}
use Rattle.m5_cps_convert.specs.Scopes.{Scope, bind, in_block, in_arm, in_sham, fn_scope, rec_scope}
use Rattle.m5_cps_convert.specs.Continuations.{Tail, Then, apply, reify, variable_code, body_code, goal_code, start_code}
use Rattle.m5_cps_convert.specs.Convert.{cps}
use Rattle.m5_cps_convert.specs.Narrow.{widest, Narrow}
use Rattle.m5_cps_convert.specs.Reading.{setting}
use Rattle.m5_terms.specs.Substitution.{among, binary_binders, second_binders, third_binders}
use Rattle.m5_typing.specs.Context.{Setting, local, valid}
use Rattle.m5_typing.specs.Width.{term_width}
use Rattle.m5_cps.specs.TypeParts.{first_of, second_of, content_of, place_of}
use Rattle.m5_cps_convert.specs.Scopes.{VariableSlots}
use Rattle.m5_cps_convert.specs.Continuations.{Continuation, arm_code, thread_end}
use Rattle.m5_cps_convert.specs.Forms.{unary_rest, binary_end, homeward, back_code, get_value, get_variable, get_code, variable_of}
use Rattle.m5_cps_convert.specs.Convert.{called_directly, away_to, binary_rest, get_parts, binary_code, ternary_rest}
use Rattle.m5_cps_convert.proofs.Sums.{captured_by}
use Rattle.m5_cps_convert.proofs.Occurrences.{among_left, among_right}
use Rattle.m5_cps_convert.proofs.Uses.{Fine, Safe, KSafe, fresh, used, home_safe, body_safe, goal_safe, start_safe, tail_safe, end_safe, slot_fine, safe_straight, safe_two, safe_three, safe_reify, is_fine, rest_of_two_safe, rest_of_three_safe, one_known, two_known, first_true, own_slot}

length_append : (xs ys : List ℕ) → length (xs ++ ys) ≡ length xs + length ys
length_append [] ys = omega arith
length_append (x ∷ xs) ys = let e : length (xs ++ ys) ≡ length xs + length ys = length_append xs ys in omega (arith, e)

abbrev pub Covers : VariableSlots → List ℕ → Type 0
Covers s vs = (z l : ℕ) → s z ≡ Some l → IsTrue (among l vs)

-- one of these, or that slot
abbrev pub Here : List ℕ → ℕ → ℕ → Type 0
Here ls x l = IsTrue (among l ls) ⊎ (l ≡ x)

-- what follows a value in slot x uses that slot, and these
abbrev pub KUses : Continuation → ℕ → List ℕ → Type 0
KUses κ n ls = (m x p : ℕ) → n ≤ m → m ≤ p → Safe m (Here ls x) (apply κ x p)

more_or : (t a b : Bool) → (IsTrue a → IsTrue b) → IsTrue (t || a) → IsTrue (t || b)
more_or true a b f h = refl
more_or false a b f h = f h

among_more : (l x : ℕ) (ls : List ℕ) → IsTrue (among l ls) → IsTrue (among l (x ∷ ls))
among_more l x ls h = among_right l (x ∷ []) ls h

among_first : (l : ℕ) (ls : List ℕ) → IsTrue (among l (l ∷ ls))
among_first l ls = first_true _ _ (own_slot l)

covers_put : (s : VariableSlots) (vs : List ℕ) (y x : ℕ) → Covers s vs → Covers (put y (Some x) s) (x ∷ vs)
covers_put s vs y x h z l = at (z == y)
  where
    at : (b : Bool) → (if b then Some x else s z) ≡ Some l → IsTrue (among l (x ∷ vs))
    at true e = let q : x ≡ l = cc in subst (λ y. IsTrue (among l (y ∷ vs))) (sym q) (among_first l vs)
    at false e = among_more l x vs (h z l e)

module _ (P : Program) where
  abbrev W : ℕ
  W = widest P

  abbrev E : Setting
  E = setting P

  abbrev pub KNarrow : Continuation → ℕ → Type 0
  KNarrow κ n = (x m : ℕ) → n ≤ m → Narrow W (apply κ x m) m

  -- the variables' slots, and those of the values and the continuation that wait
  pub record Around (s : VariableSlots) (n : ℕ) (κ : Continuation) (vs ks : List ℕ) (i j : ℕ) : Type 0 where
    pub covers : Covers s vs
    pub variables : length vs ≤ i
    pub others : length ks ≤ j
    pub some : 1 ≤ j
    pub uses : KUses κ n (vs ++ ks)
    pub narrow : KNarrow κ n

  abbrev pub NarrowAt : Expression → Type 0
  NarrowAt e = (Γ : Scope) (n : ℕ) (κ : Continuation) (vs ks : List ℕ) (i j : ℕ) → Around Γ.slots n κ vs ks i j → i + j + term_width e ≤ W → Narrow W (cps E e Γ n κ) n

  -- slots that are allowed where some list has them
  k_safe : (κ : Continuation) (n m : ℕ) (ls : List ℕ) (Ok : ℕ → Type 0) → KUses κ n ls → n ≤ m → ((l : ℕ) → IsTrue (among l ls) → Ok l) → KSafe m Ok κ
  k_safe κ n m ls Ok h i f x p j g = record { by = λ l q u. ⊎_elim (λ a. f l a) (λ e. subst Ok (sym e) (g (subst (λ y. y < m) e q))) ((h m x p i j).by l q u) }

  later : (s : VariableSlots) (n m : ℕ) (κ : Continuation) (vs ks : List ℕ) (i j : ℕ) → n ≤ m → Around s n κ vs ks i j → Around s m κ vs ks i j
  later s n m κ vs ks i j h a = record { covers = a.covers; variables = a.variables; others = a.others; some = a.some; uses = λ q x p g. a.uses q x p (omega (arith, h, g)); narrow = λ x p g. a.narrow x p (omega (arith, h, g)) }

  -- one variable more, and one value more that waits
  bound_more : (s : VariableSlots) (n : ℕ) (κ : Continuation) (vs ks : List ℕ) (i j y x : ℕ) → Around s n κ vs ks i j → Around (put y (Some x) s) n κ (x ∷ vs) ks (suc i) j
  bound_more s n κ vs ks i j y x a = record { covers = covers_put s vs y x a.covers; variables = omega (arith, a.variables); others = a.others; some = a.some; uses = λ m z p g h. record { by = λ l q u. ⊎_elim (λ b. inl (among_more l x (vs ++ ks) b)) inr ((a.uses m z p g h).by l q u) }; narrow = a.narrow }

  waits_among : (l x : ℕ) (vs ks : List ℕ) → IsTrue (among l (vs ++ ks)) → IsTrue (among l (vs ++ (x ∷ ks)))
  waits_among l x [] ks h = among_more l x ks h
  waits_among l x (v ∷ vs) ks h = more_or (l == v) (among l (vs ++ ks)) (among l (vs ++ (x ∷ ks))) (waits_among l x vs ks) h

  waits_itself : (x : ℕ) (vs ks : List ℕ) → IsTrue (among x (vs ++ (x ∷ ks)))
  waits_itself x vs ks = among_right x vs (x ∷ ks) (among_first x ks)

  variable_among : (s : VariableSlots) (vs ks : List ℕ) → Covers s vs → (z l : ℕ) → s z ≡ Some l → IsTrue (among l (vs ++ ks))
  variable_among s vs ks h z l e = among_left l vs ks (h z l e)

  -- what is captured of such slots
  few : (c : Code) (n : ℕ) (vs ks : List ℕ) (i j : ℕ) → length vs ≤ i → length ks ≤ j → i + j ≤ W → Safe n (λ l. IsTrue (among l (vs ++ ks))) c → captured n c ≤ W
  few c n vs ks i j a b h s = omega (arith, captured_by c n (vs ++ ks) s.by, length_append vs ks, a, b, h)

  few_variables : (c : Code) (n : ℕ) (vs : List ℕ) (i j : ℕ) → length vs ≤ i → i + j ≤ W → Safe n (λ l. IsTrue (among l vs)) c → captured n c ≤ W
  few_variables c n vs i j a h s = omega (arith, captured_by c n vs s.by, a, h)

  -- where only a continuation in slot k waits
  pub in_slot : (s : VariableSlots) (n k : ℕ) (vs : List ℕ) (i j : ℕ) → Covers s vs → length vs ≤ i → 1 ≤ j → Around s n (Tail k) vs (k ∷ []) i j
  in_slot s n k vs i j c a b = record { covers = c; variables = a; others = b; some = b; uses = λ m x p g h. tail_safe m (Here (vs ++ (k ∷ [])) x) k (λ q. inl (among_right k vs (k ∷ []) (among_first k []))) x p h (λ q. inr refl); narrow = λ x m g. tt }

  -- a continuation gets a slot, and then it alone waits beside the variables
  abbrev Slotted : VariableSlots → ℕ → List ℕ → List ℕ → ℕ → ℕ → (ℕ → ℕ → Code) → Type 0
  Slotted s n vs ks i j g = (k m : ℕ) (ms : List ℕ) → n ≤ m → Around s m (Tail k) vs ms i j → Narrow W (g k m) m

  reified : (m : Mode) (T : SlotType) (s : VariableSlots) (n : ℕ) (κ : Continuation) (vs ks : List ℕ) (i j : ℕ) (g : ℕ → ℕ → Code) → Around s n κ vs ks i j → i + j ≤ W → Slotted s n vs ks i j g → Narrow W (reify (by_value m T) κ n g) n
  reified m T s n (Tail k) vs ks i j g a h f = f k n ks (omega arith) a
  reified m T s n (Then c) vs ks i j g a h f = (
    few (c (suc n) (suc (suc n))) n vs ks i j a.variables a.others h (k_safe (Then c) n n (vs ++ ks) (λ l. IsTrue (among l (vs ++ ks))) a.uses (omega arith) (λ l b. b) (suc n) (suc (suc n)) (omega arith) (fresh n (λ l. IsTrue (among l (vs ++ ks))) (suc n) (omega arith))),
    a.narrow (suc n) (suc (suc n)) (omega arith),
    f n (suc n) (n ∷ []) (omega arith) (in_slot s (suc n) n vs i j a.covers a.variables a.some),
  )

  -- the slot in which a continuation is
  slot_among : (s : VariableSlots) (m k : ℕ) (vs ks : List ℕ) (i j : ℕ) → Around s m (Tail k) vs ks i j → IsTrue (among k (vs ++ ks))
  slot_among s m k vs ks i j a = slot_fine (m + suc k) (λ l. IsTrue (among l (vs ++ ks))) k (k_safe (Tail k) m (m + suc k) (vs ++ ks) (λ l. IsTrue (among l (vs ++ ks))) a.uses (omega arith) (λ l b. b)) (omega arith)

  -- blocks of their own
  goal_narrow : (e : Expression) → NarrowAt e → (Γ : Scope) (n : ℕ) (vs : List ℕ) (i j : ℕ) → Covers Γ.slots vs → length vs ≤ i → 1 ≤ j → i + j + term_width e ≤ W → (captured n (goal_code (cps E e) Γ n) ≤ W) × Narrow W (goal_code (cps E e) Γ n) (suc (suc n))
  goal_narrow e ne Γ n vs i j c a b h = (
    few_variables (goal_code (cps E e) Γ n) n vs i j a (omega (arith, h)) (goal_safe n (λ l. IsTrue (among l vs)) E e Γ n (omega arith) (used n (λ l. IsTrue (among l vs)) E e) (λ z l o q r. c z l q)),
    ne Γ (suc (suc n)) (Tail (suc n)) vs (suc n ∷ []) i j (in_slot Γ.slots (suc (suc n)) (suc n) vs i j c a b) h,
  )

  start_narrow : (e : Expression) → NarrowAt e → (Γ : Scope) (n : ℕ) (vs : List ℕ) (i j : ℕ) → Covers Γ.slots vs → length vs ≤ i → 1 ≤ j → i + j + term_width e ≤ W → (captured n (start_code (cps E e) Γ n) ≤ W) × Narrow W (start_code (cps E e) Γ n) (suc (suc n))
  start_narrow e ne Γ n vs i j c a b h = (
    few_variables (start_code (cps E e) Γ n) n vs i j a (omega (arith, h)) (start_safe n (λ l. IsTrue (among l vs)) E e Γ n (omega arith) (used n (λ l. IsTrue (among l vs)) E e) (λ z l o q r. c z l q)),
    ne Γ (suc (suc n)) thread_end vs [] i j (record { covers = c; variables = a; others = omega arith; some = b; uses = λ m x p g q. end_safe m (Here (vs ++ []) x) x p q (λ r. inr refl); narrow = λ x m g. tt }) h,
  )

  body_narrow : (e : Expression) → NarrowAt e → (Γ : Scope) (n : ℕ) (vs : List ℕ) (i j : ℕ) → Covers Γ.slots vs → length vs ≤ i → 1 ≤ j → i + j + term_width e ≤ W → Narrow W (body_code (cps E e) Γ n) (suc (suc (suc n)))
  body_narrow e ne Γ n vs i j c a b h = ne Γ (suc (suc (suc n))) (Tail (suc (suc n))) vs (suc (suc n) ∷ []) i j (in_slot Γ.slots (suc (suc (suc n))) (suc (suc n)) vs i j c a b) h

  -- straight forms
  rest_uses : (f : UnaryForm) (s : VariableSlots) (n : ℕ) (κ : Continuation) (vs ks : List ℕ) (i j : ℕ) → Around s n κ vs ks i j → Around s n (Then (λ x m. unary_rest f x m κ)) vs ks i j
  rest_uses f s n κ vs ks i j a = record {
    covers = a.covers;
    variables = a.variables;
    others = a.others;
    some = a.some;
    uses = λ m x p g h. safe_straight m (Here (vs ++ ks) x) _ _ (λ l q u. is_fine m (Here (vs ++ ks) x) x (λ r. inr refl) l q u) (k_safe κ n m (vs ++ ks) (Here (vs ++ ks) x) a.uses g (λ l b. inl b) p (suc p) (omega (arith, h)) (fresh m (Here (vs ++ ks) x) p h));
    narrow = λ x m g. a.narrow m (suc m) (omega (arith, g));
  }

  straight_narrow : (f : UnaryForm) (a : Expression) → NarrowAt a → (Γ : Scope) (n : ℕ) (κ : Continuation) (vs ks : List ℕ) (i j : ℕ) → Around Γ.slots n κ vs ks i j → i + j + term_width a ≤ W → Narrow W (cps E a Γ n (Then (λ x m. unary_rest f x m κ))) n
  straight_narrow f a na Γ n κ vs ks i j r h = na Γ n _ vs ks i j (rest_uses f Γ.slots n κ vs ks i j r) h

  unary_narrow : (f : UnaryForm) (a : Expression) → NarrowAt a → NarrowAt (unary f a)
  unary_narrow (unary_form.Fn x A) a na Γ n κ vs ks i j r h = (
    few_variables (body_code (cps E a) (fn_scope x A n Γ) n) n vs i j r.variables (omega (arith, h)) (body_safe n (λ l. IsTrue (among l vs)) E a (fn_scope x A n Γ) n (omega arith) (used n (λ l. IsTrue (among l vs)) E a) (one_known n (λ l. IsTrue (among l vs)) E x (suc n) a Γ.slots (λ z l b o e q. r.covers z l e) (fresh n (λ l. IsTrue (among l vs)) (suc n) (omega arith)))),
    body_narrow a na (fn_scope x A n Γ) n (suc n ∷ vs) (suc i) j (covers_put Γ.slots vs x (suc n) r.covers) (omega (arith, r.variables)) r.some (omega (arith, h)),
    r.narrow n (suc n) (omega arith),
  )
  unary_narrow (unary_form.Rec g x A B) a na Γ n κ vs ks i j r h = (
    few_variables (body_code (cps E a) (rec_scope g x A B n Γ) n) n vs i j r.variables (omega (arith, h)) (body_safe n (λ l. IsTrue (among l vs)) E a (rec_scope g x A B n Γ) n (omega arith) (used n (λ l. IsTrue (among l vs)) E a) (two_known n (λ l. IsTrue (among l vs)) E x (suc n) g n a Γ.slots (λ z l b o e q. r.covers z l e) (fresh n (λ l. IsTrue (among l vs)) (suc n) (omega arith)) (fresh n (λ l. IsTrue (among l vs)) n (omega arith)))),
    body_narrow a na (rec_scope g x A B n Γ) n (suc n ∷ n ∷ vs) (suc (suc i)) j (covers_put (put g (Some n) Γ.slots) (n ∷ vs) x (suc n) (covers_put Γ.slots vs g n r.covers)) (omega (arith, r.variables)) r.some (omega (arith, h)),
    r.narrow n (suc n) (omega arith),
  )
  unary_narrow unary_form.Spawn a na Γ n κ vs ks i j r h = let s = start_narrow a na (in_block Γ.mode Γ) n vs i j r.covers r.variables r.some (omega (arith, h)) in (s.0, s.1, r.narrow (suc n) (suc (suc n)) (omega arith))
  unary_narrow unary_form.Div a na Γ n κ vs ks i j r h = reified Γ.mode (of _) Γ.slots n κ vs ks i j _ r (omega (arith, h)) (λ k m ms g q. straight_narrow unary_form.Div a na Γ m (Tail k) vs ms i j q (omega (arith, h)))
  unary_narrow unary_form.Sham a na Γ n κ vs ks i j r h = straight_narrow unary_form.Sham a na (in_sham Γ) n κ vs ks i j r (omega (arith, h))
  unary_narrow unary_form.Fst a na Γ n κ vs ks i j r h = straight_narrow unary_form.Fst a na Γ n κ vs ks i j r (omega (arith, h))
  unary_narrow unary_form.Snd a na Γ n κ vs ks i j r h = straight_narrow unary_form.Snd a na Γ n κ vs ks i j r (omega (arith, h))
  unary_narrow unary_form.StrOf a na Γ n κ vs ks i j r h = straight_narrow unary_form.StrOf a na Γ n κ vs ks i j r (omega (arith, h))
  unary_narrow unary_form.NewCell a na Γ n κ vs ks i j r h = straight_narrow unary_form.NewCell a na Γ n κ vs ks i j r (omega (arith, h))
  unary_narrow unary_form.Load a na Γ n κ vs ks i j r h = straight_narrow unary_form.Load a na Γ n κ vs ks i j r (omega (arith, h))
  unary_narrow unary_form.Hold a na Γ n κ vs ks i j r h = straight_narrow unary_form.Hold a na Γ n κ vs ks i j r (omega (arith, h))
  unary_narrow (unary_form.Inl T) a na Γ n κ vs ks i j r h = straight_narrow (unary_form.Inl T) a na Γ n κ vs ks i j r (omega (arith, h))
  unary_narrow (unary_form.Inr T) a na Γ n κ vs ks i j r h = straight_narrow (unary_form.Inr T) a na Γ n κ vs ks i j r (omega (arith, h))
  unary_narrow (unary_form.Held v) a na Γ n κ vs ks i j r h = straight_narrow (unary_form.Held v) a na Γ n κ vs ks i j r (omega (arith, h))

  leaf_narrow : (f : LeafForm) → NarrowAt (leaf f)
  leaf_narrow (leaf_form.Var x) Γ n κ vs ks i j r h = variable_narrow (Γ.slots x) n κ r.narrow
    where
      variable_narrow : (o : Option ℕ) (n : ℕ) (κ : Continuation) → KNarrow κ n → Narrow W (variable_code o n κ) n
      variable_narrow None n κ k = k n (suc n) (omega arith)
      variable_narrow (Some l) n κ k = k l n (omega arith)
  leaf_narrow (leaf_form.Valid x) Γ n κ vs ks i j r h = variable_narrow (Γ.slots x) n κ r.narrow
    where
      variable_narrow : (o : Option ℕ) (n : ℕ) (κ : Continuation) → KNarrow κ n → Narrow W (variable_code o n κ) n
      variable_narrow None n κ k = k n (suc n) (omega arith)
      variable_narrow (Some l) n κ k = k l n (omega arith)
  leaf_narrow (leaf_form.Glob g) Γ n κ vs ks i j r h = r.narrow n (suc n) (omega arith)
  leaf_narrow (leaf_form.Extern g) Γ n κ vs ks i j r h = r.narrow n (suc n) (omega arith)
  leaf_narrow leaf_form.Unit Γ n κ vs ks i j r h = r.narrow n (suc n) (omega arith)
  leaf_narrow (leaf_form.Bool g) Γ n κ vs ks i j r h = r.narrow n (suc n) (omega arith)
  leaf_narrow (leaf_form.Int g) Γ n κ vs ks i j r h = r.narrow n (suc n) (omega arith)
  leaf_narrow (leaf_form.Str g) Γ n κ vs ks i j r h = r.narrow n (suc n) (omega arith)
  leaf_narrow (leaf_form.Addr g) Γ n κ vs ks i j r h = r.narrow n (suc n) (omega arith)
  leaf_narrow leaf_form.Here Γ n κ vs ks i j r h = r.narrow n (suc n) (omega arith)
  leaf_narrow (leaf_form.Nil g) Γ n κ vs ks i j r h = r.narrow n (suc n) (omega arith)
  leaf_narrow (leaf_form.CellAt g q) Γ n κ vs ks i j r h = r.narrow n (suc n) (omega arith)

  -- a get's ways
  back_narrow : (n k : ℕ) → 2 ≤ W → captured (suc n) (back_code n k (suc n)) ≤ W
  back_narrow n k wide = omega (arith, wide, captured_by (back_code n k (suc n)) (suc n) (n ∷ k ∷ []) (safe_three (suc n) (λ l. IsTrue (among l (n ∷ k ∷ []))) n k (suc (suc n)) (λ q. among_first n (k ∷ [])) (λ q. among_more k n (k ∷ []) (among_first k [])) (fresh (suc n) (λ l. IsTrue (among l (n ∷ k ∷ []))) (suc (suc n)) (omega arith))))

  value_narrow : (T : TypeExpression) (v : World) (x l k n : ℕ) → 2 ≤ W → Narrow W (get_value T v x l k n) n
  value_narrow T v x l k n wide = (wide, tt, (back_narrow n k wide, wide, wide))

  get_narrow : (T : TypeExpression) (v : World) (x : ℕ) (b : Expression) (nb : NarrowAt b) (Γ : Scope) (k n : ℕ) (vs : List ℕ) (i j : ℕ) → Covers Γ.slots vs → length vs ≤ i → 1 ≤ j → suc (i + j) + term_width b ≤ W → Narrow W (get_code T v x (variable_of b) (cps E b) Γ k n) n
  get_narrow T v x b nb Γ k n vs i j c a s h = at (variable_of b)
    where
      by_slot : (o : Option ℕ) → Narrow W (get_variable T v x o k n) n
      by_slot None = value_narrow T v x n k (suc n) (omega (arith, h, s))
      by_slot (Some l) = value_narrow T v x l k n (omega (arith, h, s))

      at : (o : Option ℕ) → Narrow W (get_code T v x o (cps E b) Γ k n) n
      at None = let g = goal_narrow b nb (in_block (only v) Γ) n vs i j c a s (omega (arith, h)) in (g.0, g.1, (omega (arith, h, s), tt, (back_narrow (suc n) k (omega (arith, h, s)), omega (arith, h, s), omega (arith, h, s))))
      at (Some z) = by_slot (Γ.slots z)

  -- what follows the first part of a node of two
  second_waits : (s : VariableSlots) (n : ℕ) (κ : Continuation) (vs ks : List ℕ) (i j x : ℕ) (f : ℕ → ℕ → Code) → Around s n κ vs ks i j → ((m y p : ℕ) → n ≤ m → m ≤ p → (Ok : ℕ → Type 0) → ((l : ℕ) → IsTrue (among l (vs ++ ks)) → Ok l) → Fine m Ok x → Fine m Ok y → Safe m Ok (f y p)) → ((y m : ℕ) → n ≤ m → Narrow W (f y m) m) → Around s n (Then f) vs (x ∷ ks) i (suc j)
  second_waits s n κ vs ks i j x f a u k = record {
    covers = a.covers;
    variables = a.variables;
    others = omega (arith, a.others);
    some = omega arith;
    uses = λ m y p g h. u m y p g h (Here (vs ++ (x ∷ ks)) y) (λ l b. inl (waits_among l x vs ks b)) (λ q. inl (waits_itself x vs ks)) (λ q. inr refl);
    narrow = k;
  }

  two_narrow : (f : BinaryForm) (b : Expression) (nb : NarrowAt b) (Γ : Scope) (n x : ℕ) (κ : Continuation) (vs ks : List ℕ) (i j : ℕ) → Around Γ.slots n κ vs ks i j → suc (i + j) + term_width b ≤ W → Narrow W (cps E b Γ n (Then (λ y q. straight (block.two f x y) (apply κ q (suc q))))) n
  two_narrow f b nb Γ n x κ vs ks i j r h = nb Γ n _ vs (x ∷ ks) i (suc j) (second_waits Γ.slots n κ vs ks i j x (λ y q. straight (block.two f x y) (apply κ q (suc q))) r
      (λ m y p g q Ok in_ fx fy. safe_straight m Ok _ _ (safe_two m Ok x y fx fy) (k_safe κ n m (vs ++ ks) Ok r.uses g in_ p (suc p) (omega (arith, q)) (fresh m Ok p q)))
      (λ y m g. r.narrow m (suc m) (omega (arith, g)))) (omega (arith, h))

  call_narrow : (T : TypeExpression) (b : Expression) (nb : NarrowAt b) (Γ : Scope) (n x : ℕ) (κ : Continuation) (vs ks : List ℕ) (i j : ℕ) → Around Γ.slots n κ vs ks i j → suc (i + j) + term_width b ≤ W → Narrow W (cps E b Γ n (Then (λ y q. binary_end binary_form.Call T Γ x y q κ))) n
  call_narrow T b nb Γ n x κ vs ks i j r h = nb Γ n _ vs (x ∷ ks) i (suc j) (second_waits Γ.slots n κ vs ks i j x (λ y q. binary_end binary_form.Call T Γ x y q κ) r
      (λ m y p g q Ok in_ fx fy. safe_reify m Ok _ κ p _ q (k_safe κ n m (vs ++ ks) Ok r.uses g in_) (λ l o jj fl. record { by = safe_three m Ok x y l fx fy fl }))
      (λ y m g. reified Γ.mode (of T) Γ.slots m κ vs ks i j _ (later Γ.slots n m κ vs ks i j g r) (omega (arith, h)) (λ k o ms gg q. omega (arith, h, r.some)))) (omega (arith, h))

  rest_of_two_narrow : (f : BinaryForm) (T A : TypeExpression) (b : Expression) (nb : NarrowAt b) (Γ : Scope) (n x : ℕ) (κ : Continuation) (vs ks : List ℕ) (i j : ℕ) → Around Γ.slots n κ vs ks i j → suc (i + j) + (length (binary_binders f) + term_width b) ≤ W → Narrow W (binary_rest f T A (variable_of b) (cps E b) Γ x n κ) n
  rest_of_two_narrow binary_form.Do T A b nb Γ n x κ vs ks i j r h = nb Γ n κ vs ks i j r (omega (arith, h))
  rest_of_two_narrow binary_form.Get T A b nb Γ n x κ vs ks i j r h = reified Γ.mode (of T) Γ.slots n κ vs ks i j _ r (omega (arith, h)) (λ k m ms g q. get_narrow T (place_of A) x b nb Γ k m vs i j q.covers q.variables r.some (omega (arith, h)))
  rest_of_two_narrow (binary_form.Val y) T A b nb Γ n x κ vs ks i j r h = nb (bind y (local (world_of Γ.mode) A) x Γ) n κ (x ∷ vs) ks (suc i) j (bound_more Γ.slots n κ vs ks i j y x r) (omega (arith, h))
  rest_of_two_narrow (binary_form.Put y) T A b nb Γ n x κ vs ks i j r h = nb (bind y (valid A) x Γ) n κ (x ∷ vs) ks (suc i) j (bound_more Γ.slots n κ vs ks i j y x r) (omega (arith, h))
  rest_of_two_narrow (binary_form.Leta y) T A b nb Γ n x κ vs ks i j r h = nb (bind y (local (place_of A) (content_of A)) n Γ) (suc n) κ (n ∷ vs) ks (suc i) j (bound_more Γ.slots (suc n) κ vs ks i j y n (later Γ.slots n (suc n) κ vs ks i j (omega arith) r)) (omega (arith, h))
  rest_of_two_narrow (binary_form.Lets y) T A b nb Γ n x κ vs ks i j r h = nb (bind y (valid (content_of A)) n Γ) (suc n) κ (n ∷ vs) ks (suc i) j (bound_more Γ.slots (suc n) κ vs ks i j y n (later Γ.slots n (suc n) κ vs ks i j (omega arith) r)) (omega (arith, h))
  rest_of_two_narrow binary_form.Call T A b nb Γ n x κ vs ks i j r h = call_narrow T b nb Γ n x κ vs ks i j r (omega (arith, h))
  rest_of_two_narrow binary_form.Pair T A b nb Γ n x κ vs ks i j r h = two_narrow binary_form.Pair b nb Γ n x κ vs ks i j r (omega (arith, h))
  rest_of_two_narrow binary_form.Cons T A b nb Γ n x κ vs ks i j r h = two_narrow binary_form.Cons b nb Γ n x κ vs ks i j r (omega (arith, h))
  rest_of_two_narrow binary_form.Store T A b nb Γ n x κ vs ks i j r h = two_narrow binary_form.Store b nb Γ n x κ vs ks i j r (omega (arith, h))
  rest_of_two_narrow (binary_form.Binary o) T A b nb Γ n x κ vs ks i j r h = two_narrow (binary_form.Binary o) b nb Γ n x κ vs ks i j r (omega (arith, h))

  -- a node's first part, after which such code comes
  first_narrow : (a : Expression) (na : NarrowAt a) (Γ : Scope) (n : ℕ) (κ : Continuation) (vs ks : List ℕ) (i j : ℕ) (f : ℕ → ℕ → Code) → Around Γ.slots n κ vs ks i j → i + j + term_width a ≤ W → ((m x p : ℕ) → n ≤ m → m ≤ p → (Ok : ℕ → Type 0) → ((l : ℕ) → IsTrue (among l (vs ++ ks)) → Ok l) → Fine m Ok x → Safe m Ok (f x p)) → ((x m : ℕ) → n ≤ m → Narrow W (f x m) m) → Narrow W (cps E a Γ n (Then f)) n
  first_narrow a na Γ n κ vs ks i j f r h u k = na Γ n (Then f) vs ks i j (record { covers = r.covers; variables = r.variables; others = r.others; some = r.some; uses = λ m x p g q. u m x p g q (Here (vs ++ ks) x) (λ l b. inl b) (λ w. inr refl); narrow = k }) h

  part_narrow : (f : BinaryForm) (T A : TypeExpression) (a b : Expression) → NarrowAt a → NarrowAt b → (Γ : Scope) (n : ℕ) (κ : Continuation) (vs ks : List ℕ) (i j : ℕ) → Around Γ.slots n κ vs ks i j → i + j + term_width (binary f a b) ≤ W → Narrow W (cps E a Γ n (Then (λ x m. binary_rest f T A (variable_of b) (cps E b) Γ x m κ))) n
  part_narrow f T A a b na nb Γ n κ vs ks i j r h = first_narrow a na Γ n κ vs ks i j _ r (omega (arith, h, le-max_left (term_width a) (1 + (length (binary_binders f) + term_width b))))
      (λ m x p g q Ok in_ fx. rest_of_two_safe m Ok E f T A a b Γ x p κ (used m Ok E b) q (λ z l w o e v. in_ l (variable_among Γ.slots vs ks r.covers z l e)) fx (k_safe κ n m (vs ++ ks) Ok r.uses g in_))
      (λ x m g. rest_of_two_narrow f T A b nb Γ m x κ vs ks i j (later Γ.slots n m κ vs ks i j g r) (omega (arith, h, le-max_right (term_width a) (1 + (length (binary_binders f) + term_width b)))))

  -- a get's parts
  home_narrow : (b : Expression) → NarrowAt b → (Γ : Scope) (n : ℕ) (w : World) (k : ℕ) (vs : List ℕ) (i j : ℕ) → Covers Γ.slots vs → length vs ≤ i → 1 ≤ j → suc (i + j) + term_width b ≤ W → (captured n (cps E b Γ (suc (suc n)) (homeward w k)) ≤ W) × Narrow W (cps E b Γ (suc (suc n)) (homeward w k)) (suc (suc n))
  home_narrow b nb Γ n w k vs i j c a s h =
      let in_ : IsTrue (among k (vs ++ (k ∷ []))) = waits_itself k vs [] in (
        few (cps E b Γ (suc (suc n)) (homeward w k)) n vs (k ∷ []) i j a s (omega (arith, h)) (used n (λ l. IsTrue (among l (vs ++ (k ∷ [])))) E b Γ (suc (suc n)) (homeward w k) (omega arith) (λ z l o e q. variable_among Γ.slots vs (k ∷ []) c z l e) (home_safe n (λ l. IsTrue (among l (vs ++ (k ∷ [])))) E w k (λ q. in_))),
        nb Γ (suc (suc n)) (homeward w k) vs (k ∷ []) i j (record {
          covers = c;
          variables = a;
          others = s;
          some = s;
          uses = λ m x p g q. home_safe m (Here (vs ++ (k ∷ [])) x) E w k (λ r. inl in_) x p q (λ r. inr refl);
          narrow = λ x m g. omega (arith, h, s);
        }) (omega (arith, h)),
      )

  parts_narrow : (o : Option World) (T A : TypeExpression) (a b : Expression) → NarrowAt a → NarrowAt b → (Γ : Scope) (k n : ℕ) (vs ks : List ℕ) (i j : ℕ) → Around Γ.slots n (Tail k) vs ks i j → i + j + term_width (binary binary_form.Get a b) ≤ W → Narrow W (get_parts o T A (variable_of b) (cps E a) (cps E b) Γ k n) n
  parts_narrow None T A a b na nb Γ k n vs ks i j r h = part_narrow binary_form.Get T A a b na nb Γ n (Tail k) vs ks i j r h
  parts_narrow (Some v) T A a b na nb Γ k n vs ks i j r h =
      let wide : suc (i + j) + term_width b ≤ W = omega (arith, h, le-max_right (term_width a) (1 + (length (binary_binders binary_form.Get) + term_width b))) in
      let g = home_narrow b nb (in_block (only v) Γ) (suc (suc n)) _ k vs i j r.covers r.variables r.some wide in
      (omega (arith, wide, r.some), (g.0, g.1, omega (arith, wide, r.some)), part_narrow binary_form.Get T A a b na nb Γ (suc n) (Tail k) vs ks i j (later Γ.slots n (suc n) (Tail k) vs ks i j (omega arith) r) h)

  binary_narrow : (d : Option Primitive) (o : Option World) (f : BinaryForm) (T A : TypeExpression) (a b : Expression) → NarrowAt a → NarrowAt b → (Γ : Scope) (n : ℕ) (κ : Continuation) (vs ks : List ℕ) (i j : ℕ) → Around Γ.slots n κ vs ks i j → i + j + term_width (binary f a b) ≤ W → Narrow W (binary_code d o f T A (variable_of b) (cps E a) (cps E b) Γ n κ) n
  binary_narrow (Some p) o f T A a b na nb Γ n κ vs ks i j r h = first_narrow b nb Γ n κ vs ks i j _ r (omega (arith, h, le-max_right (term_width a) (1 + (length (binary_binders f) + term_width b))))
      (λ m y q g gg Ok in_ fy. safe_reify m Ok _ κ q _ gg (k_safe κ n m (vs ++ ks) Ok r.uses g in_) (λ l o jj fl. record { by = safe_two m Ok y l fy fl }))
      (λ y m g. reified Γ.mode (of T) Γ.slots m κ vs ks i j _ (later Γ.slots n m κ vs ks i j g r) (omega (arith, h)) (λ k o ms gg q. omega (arith, h, r.some, le-max_right (term_width a) (1 + (length (binary_binders f) + term_width b)))))
  binary_narrow None o binary_form.Get T A a b na nb Γ n κ vs ks i j r h = reified Γ.mode (of T) Γ.slots n κ vs ks i j _ r (omega (arith, h)) (λ k m ms g q. parts_narrow o T A a b na nb Γ k m vs ms i j q h)
  binary_narrow None o f T A a b na nb Γ n κ vs ks i j r h = part_narrow f T A a b na nb Γ n κ vs ks i j r h

  -- arms
  arm_narrow : (T : TypeExpression) (e : Expression) (ne : NarrowAt e) (Γ : Scope) (n k : ℕ) (vs ks : List ℕ) (i j : ℕ) → Around Γ.slots n (Tail k) vs ks i j → i + j + term_width e ≤ W → Narrow W (arm_code T (cps E e) Γ n k) n
  arm_narrow T e ne Γ n k vs ks i j r h = at (nat_lt Γ.arms 500)
    where
      at : (t : Bool) → Narrow W (if t then cps E e (in_arm Γ) n (Tail k) else closure (by_value Γ.mode (takes (of T))) (goal_code (cps E e) (in_block Γ.mode Γ) n) (block.ends (go n k))) n
      at true = ne (in_arm Γ) n (Tail k) vs ks i j r h
      at false = let g = goal_narrow e ne (in_block Γ.mode Γ) n vs i j r.covers r.variables r.some h in (g.0, g.1, tt)

  rest_of_three_narrow : (f : TernaryForm) (T A : TypeExpression) (b c : Expression) → NarrowAt b → NarrowAt c → (Γ : Scope) (n x : ℕ) (κ : Continuation) (vs ks : List ℕ) (i j : ℕ) → Around Γ.slots n κ vs ks i j → suc (i + j) + (length (second_binders f) + term_width b) ≤ W → suc (i + j) + (length (third_binders f) + term_width c) ≤ W → Narrow W (ternary_rest f T A (cps E b) (cps E c) Γ x n κ) n
  rest_of_three_narrow ternary_form.If T A b c nb nc Γ n x κ vs ks i j r h g = reified Γ.mode (of T) Γ.slots n κ vs ks i j _ r (omega (arith, h)) (λ k m ms gg q. (omega (arith, h, r.some), arm_narrow T b nb Γ m k vs ms i j q (omega (arith, h)), arm_narrow T c nc Γ m k vs ms i j q (omega (arith, g))))
  rest_of_three_narrow (ternary_form.CaseSum y z) T A b c nb nc Γ n x κ vs ks i j r h g = reified Γ.mode (of T) Γ.slots n κ vs ks i j _ r (omega (arith, h)) (λ k m ms gg q. (
    omega (arith, h, r.some),
    arm_narrow T b nb (bind y (local (world_of Γ.mode) (first_of A)) m Γ) (suc m) k (m ∷ vs) ms (suc i) j (bound_more Γ.slots (suc m) (Tail k) vs ms i j y m (later Γ.slots m (suc m) (Tail k) vs ms i j (omega arith) q)) (omega (arith, h)),
    arm_narrow T c nc (bind z (local (world_of Γ.mode) (second_of A)) m Γ) (suc m) k (m ∷ vs) ms (suc i) j (bound_more Γ.slots (suc m) (Tail k) vs ms i j z m (later Γ.slots m (suc m) (Tail k) vs ms i j (omega arith) q)) (omega (arith, g)),
  ))
  rest_of_three_narrow (ternary_form.CaseList y z) T A b c nb nc Γ n x κ vs ks i j r h g = reified Γ.mode (of T) Γ.slots n κ vs ks i j _ r (omega (arith, h)) (λ k m ms gg q. (
    omega (arith, h, r.some),
    arm_narrow T b nb Γ m k vs ms i j q (omega (arith, h)),
    arm_narrow T c nc (bind z (local (world_of Γ.mode) A) (suc m) (bind y (local (world_of Γ.mode) (content_of A)) m Γ)) (suc (suc m)) k (suc m ∷ m ∷ vs) ms (suc (suc i)) j
        (bound_more (put y (Some m) Γ.slots) (suc (suc m)) (Tail k) (m ∷ vs) ms (suc i) j z (suc m) (bound_more Γ.slots (suc (suc m)) (Tail k) vs ms i j y m (later Γ.slots m (suc (suc m)) (Tail k) vs ms i j (omega arith) q))) (omega (arith, g)),
  ))

  ternary_narrow : (f : TernaryForm) (a b c : Expression) → NarrowAt a → NarrowAt b → NarrowAt c → NarrowAt (ternary f a b c)
  ternary_narrow f a b c na nb nc Γ n κ vs ks i j r h =
      let left = le-max_left (term_width a) (max (1 + (length (second_binders f) + term_width b)) (1 + (length (third_binders f) + term_width c))) in
      let right = le-max_right (term_width a) (max (1 + (length (second_binders f) + term_width b)) (1 + (length (third_binders f) + term_width c))) in
      let second = le-max_left (1 + (length (second_binders f) + term_width b)) (1 + (length (third_binders f) + term_width c)) in
      let third = le-max_right (1 + (length (second_binders f) + term_width b)) (1 + (length (third_binders f) + term_width c)) in
      first_narrow a na Γ n κ vs ks i j _ r (omega (arith, h, left))
      (λ m x p g q Ok in_ fx. rest_of_three_safe m Ok E f _ _ b c Γ x p κ (used m Ok E b) (used m Ok E c) q (λ z l w o e v. in_ l (variable_among Γ.slots vs ks r.covers z l e)) (λ z l w o e v. in_ l (variable_among Γ.slots vs ks r.covers z l e)) fx (k_safe κ n m (vs ++ ks) Ok r.uses g in_))
      (λ x m g. rest_of_three_narrow f _ _ b c nb nc Γ m x κ vs ks i j (later Γ.slots n m κ vs ks i j g r) (omega (arith, h, right, second)) (omega (arith, h, right, third)))

  pub narrow_at : (e : Expression) → NarrowAt e
  narrow_at (leaf f) = leaf_narrow f
  narrow_at (unary f a) = unary_narrow f a (narrow_at a)
  narrow_at (binary f a b) = λ Γ n κ vs ks i j r h. binary_narrow (called_directly f a) (away_to (world_of Γ.mode) a b) f _ _ a b (narrow_at a) (narrow_at b) Γ n κ vs ks i j r h
  narrow_at (ternary f a b c) = ternary_narrow f a b c (narrow_at a) (narrow_at b) (narrow_at c)
