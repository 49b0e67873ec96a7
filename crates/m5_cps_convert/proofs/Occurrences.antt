-- The slots of a node's variables, once for each use, and what they weigh together.
use Rattle.std.proofs.Common.{◌≡◌, ℕ, ◌+◌, ◌*◌, ◌≤◌, inl, inr, List, [], ◌∷◌, ◌++◌, Option, Some, None, Bool, true, false, IsTrue, refl, sym, ap, ◌∙◌, subst, arith, if◌then◌else◌, ◌==◌, ◌||◌, true≢false}
use Rattle.m5_terms.specs.Expression.{Expression, leaf, unary, binary, ternary}
use Rattle.m5_terms.specs.declared.form.LeafForm.{LeafForm}
use Rattle.m5_terms.specs.declared.form.LeafForm.TheVariants as leaf_form
use Rattle.m5_cps.specs.Captured.{Value, value_units}
use Rattle.m5_cps_convert.specs.Closing.{Values, hide, value_or, close}
use Rattle.m5_terms.specs.Size.{node_size}
use Rattle.m5_terms.specs.Substitution.{among, unary_binders, binary_binders, second_binders, third_binders}
use Rattle.m5_cps_convert.specs.Forms.{variable_of}
use Rattle.m5_cps_convert.specs.Scopes.{VariableSlots}
use Rattle.m5_cps_convert.proofs.Sums.{total, total_append}
use Rattle.m5_cps_convert.proofs.Uses.{Occurs, own_slot, first_true}

abbrev pub hidden : List ℕ → VariableSlots → VariableSlots
hidden bs s z = if among z bs then None else s z

abbrev slot_list : Option ℕ → List ℕ
slot_list None = []
slot_list (Some l) = l ∷ []

abbrev leaf_slots : LeafForm → VariableSlots → List ℕ
leaf_slots (leaf_form.Var x) s = slot_list (s x)
leaf_slots (leaf_form.Valid x) s = slot_list (s x)
leaf_slots f s = []

abbrev pub slots_of : Expression → VariableSlots → List ℕ
slots_of (leaf f) s = leaf_slots f s
slots_of (unary f a) s = slots_of a (hidden (unary_binders f) s)
slots_of (binary f a b) s = slots_of a s ++ slots_of b (hidden (binary_binders f) s)
slots_of (ternary f a b c) s = slots_of a s ++ (slots_of b (hidden (second_binders f) s) ++ slots_of c (hidden (third_binders f) s))

or_more : (t a b : Bool) → (IsTrue a → IsTrue b) → IsTrue (t || a) → IsTrue (t || b)
or_more true a b f h = refl
or_more false a b f h = f h

or_true : (t a : Bool) → IsTrue a → IsTrue (t || a)
or_true true a h = refl
or_true false a h = h

pub among_left : (l : ℕ) (xs ys : List ℕ) → IsTrue (among l xs) → IsTrue (among l (xs ++ ys))
among_left l [] ys h = absurd (true≢false (sym h))
among_left l (x ∷ xs) ys h = or_more (l == x) (among l xs) (among l (xs ++ ys)) (among_left l xs ys) h

pub among_right : (l : ℕ) (xs ys : List ℕ) → IsTrue (among l ys) → IsTrue (among l (xs ++ ys))
among_right l [] ys h = h
among_right l (x ∷ xs) ys h = or_true (l == x) (among l (xs ++ ys)) (among_right l xs ys h)

pub shown : (bs : List ℕ) (s : VariableSlots) (z l : ℕ) → among z bs ≡ false → s z ≡ Some l → hidden bs s z ≡ Some l
shown bs s z l q e = ap (λ b. if b then None else s z) q ∙ e

one_among : (o : Option ℕ) (l : ℕ) → o ≡ Some l → IsTrue (among l (slot_list o))
one_among None l e = absurd (cc)
one_among (Some m) l e = let q : m ≡ l = cc in subst (λ y. IsTrue (among l (y ∷ []))) (sym q) (first_true (l == l) false (own_slot l))

leaf_among : (f : LeafForm) (s : VariableSlots) (z l : ℕ) → Occurs z (leaf f) → s z ≡ Some l → IsTrue (among l (leaf_slots f s))
leaf_among (leaf_form.Var x) s z l o e = one_among (s x) l (ap s (sym o) ∙ e)
leaf_among (leaf_form.Valid x) s z l o e = one_among (s x) l (ap s (sym o) ∙ e)
leaf_among _ s z l o e = absurd o

-- the slot of a free variable is one of them
pub is_among : (e : Expression) (s : VariableSlots) (z l : ℕ) → Occurs z e → s z ≡ Some l → IsTrue (among l (slots_of e s))
is_among (leaf f) s z l o e = leaf_among f s z l o e
is_among (unary f a) s z l o e = is_among a (hidden (unary_binders f) s) z l o.1 (shown (unary_binders f) s z l o.0 e)
is_among (binary f a b) s z l (inl o) e = among_left l (slots_of a s) _ (is_among a s z l o e)
is_among (binary f a b) s z l (inr o) e = among_right l (slots_of a s) _ (is_among b (hidden (binary_binders f) s) z l o.1 (shown (binary_binders f) s z l o.0 e))
is_among (ternary f a b c) s z l (inl o) e = among_left l (slots_of a s) _ (is_among a s z l o e)
is_among (ternary f a b c) s z l (inr (inl o)) e = among_right l (slots_of a s) _ (among_left l (slots_of b (hidden (second_binders f) s)) _ (is_among b (hidden (second_binders f) s) z l o.1 (shown (second_binders f) s z l o.0 e)))
is_among (ternary f a b c) s z l (inr (inr o)) e = among_right l (slots_of a s) _ (among_right l (slots_of b (hidden (second_binders f) s)) _ (is_among c (hidden (third_binders f) s) z l o.1 (shown (third_binders f) s z l o.0 e)))

pub size_least : (e : Expression) → 1 ≤ node_size e
size_least (leaf f) = omega arith
size_least (unary f a) = omega arith
size_least (binary f a b) = omega arith
size_least (ternary f a b c) = omega arith

-- what a closure takes for a slot
abbrev pub cost : (ℕ → Value) → ℕ → ℕ
cost ρ l = 1 + value_units (ρ l)

-- each variable's value is light
abbrev pub AreLight : (ℕ → Value) → VariableSlots → Values → Type 0
AreLight ρ s γ = (z l : ℕ) → s z ≡ Some l → (v : Expression) × (γ z ≡ Some v) × (value_units (ρ l) + 2 ≤ 4 * node_size v)

pub hidden_light : (ρ : ℕ → Value) (bs : List ℕ) (s : VariableSlots) (γ : Values) → AreLight ρ s γ → AreLight ρ (hidden bs s) (hide bs γ)
hidden_light ρ bs s γ h z l = at (among z bs)
  where
    at : (b : Bool) → (if b then None else s z) ≡ Some l → (v : Expression) × ((if b then None else γ z) ≡ Some v) × (value_units (ρ l) + 2 ≤ 4 * node_size v)
    at true e = absurd (cc)
    at false e = h z l e

variable_total : (ρ : ℕ → Value) (s : VariableSlots) (γ : Values) (x : ℕ) (f : LeafForm) → AreLight ρ s γ → (o : Option ℕ) → s x ≡ o → total (cost ρ) (slot_list o) + 1 ≤ 4 * node_size (value_or (γ x) f)
variable_total ρ s γ x f h None e = omega (arith, size_least (value_or (γ x) f))
variable_total ρ s γ x f h (Some l) e = let d = h x l e in subst (λ o. (cost ρ l + 0) + 1 ≤ 4 * node_size (value_or o f)) (sym d.1) (omega (arith, d.2))

leaf_total : (ρ : ℕ → Value) (s : VariableSlots) (γ : Values) (f : LeafForm) → AreLight ρ s γ → total (cost ρ) (leaf_slots f s) + 1 ≤ 4 * node_size (close γ (leaf f))
leaf_total ρ s γ (leaf_form.Var x) h = variable_total ρ s γ x (leaf_form.Var x) h (s x) refl
leaf_total ρ s γ (leaf_form.Valid x) h = variable_total ρ s γ x (leaf_form.Valid x) h (s x) refl
leaf_total ρ s γ _ h = omega arith

pub all_total : (ρ : ℕ → Value) (e : Expression) (s : VariableSlots) (γ : Values) → AreLight ρ s γ → total (cost ρ) (slots_of e s) + 1 ≤ 4 * node_size (close γ e)
all_total ρ (leaf f) s γ h = leaf_total ρ s γ f h
all_total ρ (unary f a) s γ h = omega (arith, all_total ρ a (hidden (unary_binders f) s) (hide (unary_binders f) γ) (hidden_light ρ (unary_binders f) s γ h))
all_total ρ (binary f a b) s γ h = omega (arith, all_total ρ a s γ h, all_total ρ b (hidden (binary_binders f) s) (hide (binary_binders f) γ) (hidden_light ρ (binary_binders f) s γ h), total_append (cost ρ) (slots_of a s) (slots_of b (hidden (binary_binders f) s)))
all_total ρ (ternary f a b c) s γ h = omega (arith, all_total ρ a s γ h, all_total ρ b (hidden (second_binders f) s) (hide (second_binders f) γ) (hidden_light ρ (second_binders f) s γ h), all_total ρ c (hidden (third_binders f) s) (hide (third_binders f) γ) (hidden_light ρ (third_binders f) s γ h), total_append (cost ρ) (slots_of a s) (slots_of b (hidden (second_binders f) s) ++ slots_of c (hidden (third_binders f) s)), total_append (cost ρ) (slots_of b (hidden (second_binders f) s)) (slots_of c (hidden (third_binders f) s)))

leaf_spare : (ρ : ℕ → Value) (s : VariableSlots) (γ : Values) (f : LeafForm) → variable_of (leaf f) ≡ None → total (cost ρ) (leaf_slots f s) + 4 ≤ 4 * node_size (close γ (leaf f))
leaf_spare ρ s γ (leaf_form.Var x) q = absurd (cc)
leaf_spare ρ s γ (leaf_form.Valid x) q = absurd (cc)
leaf_spare ρ s γ _ q = omega arith

-- a node that is no variable weighs for itself too
pub spare_total : (ρ : ℕ → Value) (e : Expression) (s : VariableSlots) (γ : Values) → AreLight ρ s γ → variable_of e ≡ None → total (cost ρ) (slots_of e s) + 4 ≤ 4 * node_size (close γ e)
spare_total ρ (leaf f) s γ h q = leaf_spare ρ s γ f q
spare_total ρ (unary f a) s γ h q = omega (arith, all_total ρ a (hidden (unary_binders f) s) (hide (unary_binders f) γ) (hidden_light ρ (unary_binders f) s γ h))
spare_total ρ (binary f a b) s γ h q = omega (arith, all_total ρ a s γ h, all_total ρ b (hidden (binary_binders f) s) (hide (binary_binders f) γ) (hidden_light ρ (binary_binders f) s γ h), total_append (cost ρ) (slots_of a s) (slots_of b (hidden (binary_binders f) s)))
spare_total ρ (ternary f a b c) s γ h q = omega (arith, all_total ρ (ternary f a b c) s γ h, all_total ρ a s γ h, all_total ρ b (hidden (second_binders f) s) (hide (second_binders f) γ) (hidden_light ρ (second_binders f) s γ h), all_total ρ c (hidden (third_binders f) s) (hide (third_binders f) γ) (hidden_light ρ (third_binders f) s γ h), total_append (cost ρ) (slots_of a s) (slots_of b (hidden (second_binders f) s) ++ slots_of c (hidden (third_binders f) s)), total_append (cost ρ) (slots_of b (hidden (second_binders f) s)) (slots_of c (hidden (third_binders f) s)))
