-- Which slots the code of a continuation uses: those of its frames' variables and values, and the one in which it ends.
use Rattle.std.proofs.Common.{ℕ, suc, ◌≤◌, inl, inr, List, [], ◌∷◌, ◌++◌, IsTrue, arith, true≢false, sym}
use Rattle.m5_terms.specs.TypeExpression.{TypeExpression}
use Rattle.m5_terms.specs.Expression.{leaf, unary, binary, ternary}
use Rattle.m5_terms.specs.declared.form.BinaryForm.{BinaryForm}
use Rattle.m5_terms.specs.declared.form.BinaryForm.TheVariants as binary_form
use Rattle.m5_cps_convert.specs.Scopes.{Scope}
use Rattle.m5_cps_convert.specs.Statics.{Static, STop, STail, SBack, SHome, SFirst, SSecond, SArgument, kont}
use Rattle.m5_terms.specs.Substitution.{among}
use Rattle.m5_typing.specs.Context.{Setting}
use Rattle.m5_cps_convert.specs.Forms.{binary_end}
use Rattle.m5_cps_convert.specs.Continuations.{Continuation}
use Rattle.m5_cps_convert.proofs.Occurrences.{slots_of, among_left, among_right, is_among}
use Rattle.m5_cps_convert.proofs.Uses.{Fine, Safe, KSafe, safe_straight, safe_two, safe_three, safe_reify, fresh, tail_safe, end_safe, home_safe, rest_safe, rest_of_two_safe, rest_of_three_safe, used, first_true, own_slot}

abbrev pub static_slots : Static → List ℕ
static_slots STop = []
static_slots (STail k) = k ∷ []
static_slots (SBack h k) = h ∷ k ∷ []
static_slots (SHome w k) = k ∷ []
static_slots (SFirst Γ e K) = slots_of e Γ.slots ++ static_slots K
static_slots (SSecond Γ e x K) = x ∷ static_slots K
static_slots (SArgument Γ p b K) = static_slots K

pub first_among : (l : ℕ) (ls : List ℕ) → IsTrue (among l (l ∷ ls))
first_among l ls = first_true _ _ (own_slot l)

next_among : (l x : ℕ) (ls : List ℕ) → IsTrue (among l ls) → IsTrue (among l (x ∷ ls))
next_among l x ls h = among_right l (x ∷ []) ls h

module _ (E : Setting) (n : ℕ) (ls : List ℕ) where
  abbrev Ok : ℕ → Type 0
  Ok l = IsTrue (among l ls)

  second_safe : (f : BinaryForm) (T : TypeExpression) (Γ : Scope) (x y m : ℕ) (κ : Continuation) → n ≤ m → Fine n Ok x → Fine n Ok y → KSafe n Ok κ → Safe n Ok (binary_end f T Γ x y m κ)
  second_safe binary_form.Call T Γ x y m κ i fx fy h = safe_reify n Ok _ κ m _ i h (λ l r jj fl. record { by = safe_three n Ok x y l fx fy fl })
  second_safe _ T Γ x y m κ i fx fy h = safe_straight n Ok _ _ (safe_two n Ok x y fx fy) (h m (suc m) (omega (arith, i)) (fresh n Ok m i))

  pub static_safe : (K : Static) → ((l : ℕ) → IsTrue (among l (static_slots K)) → Ok l) → KSafe n Ok (kont E K)
  static_safe STop h = end_safe n Ok
  static_safe (STail k) h = tail_safe n Ok k (λ i. h k (first_among k []))
  static_safe (SBack a k) h = λ x p i f. record { by = safe_three n Ok a k x (λ j. h a (first_among a (k ∷ []))) (λ j. h k (next_among k a (k ∷ []) (first_among k []))) f }
  static_safe (SHome w k) h = home_safe n Ok E w k (λ i. h k (first_among k []))
  static_safe (SFirst Γ (leaf f) K) h = λ x p i g. record { by = λ l j u. absurd (true≢false (sym u)) }
  static_safe (SFirst Γ (unary f a) K) h = rest_safe n Ok E f (kont E K) (static_safe K (λ l m. h l (among_right l (slots_of (unary f a) Γ.slots) (static_slots K) m)))
  static_safe (SFirst Γ (binary f a b) K) h = λ x p i g. rest_of_two_safe n Ok E f _ _ a b Γ x p (kont E K) (used n Ok E b) i (λ z l q o e j. h l (among_left l (slots_of (binary f a b) Γ.slots) (static_slots K) (is_among (binary f a b) Γ.slots z l (inr (q, o)) e))) g (static_safe K (λ l m. h l (among_right l (slots_of (binary f a b) Γ.slots) (static_slots K) m)))
  static_safe (SFirst Γ (ternary f a b c) K) h = λ x p i g. rest_of_three_safe n Ok E f _ _ b c Γ x p (kont E K) (used n Ok E b) (used n Ok E c) i (λ z l q o e j. h l (among_left l (slots_of (ternary f a b c) Γ.slots) (static_slots K) (is_among (ternary f a b c) Γ.slots z l (inr (inl (q, o))) e))) (λ z l q o e j. h l (among_left l (slots_of (ternary f a b c) Γ.slots) (static_slots K) (is_among (ternary f a b c) Γ.slots z l (inr (inr (q, o))) e))) g (static_safe K (λ l m. h l (among_right l (slots_of (ternary f a b c) Γ.slots) (static_slots K) m)))
  static_safe (SSecond Γ (binary f a b) x K) h = λ y p i g. second_safe f _ Γ x y p (kont E K) i (λ j. h x (first_among x (static_slots K))) g (static_safe K (λ l m. h l (next_among l x (static_slots K) m)))
  static_safe (SSecond Γ (leaf f) x K) h = λ y p i g. record { by = λ l j u. absurd (true≢false (sym u)) }
  static_safe (SSecond Γ (unary f a) x K) h = λ y p i g. record { by = λ l j u. absurd (true≢false (sym u)) }
  static_safe (SSecond Γ (ternary f a b c) x K) h = λ y p i g. record { by = λ l j u. absurd (true≢false (sym u)) }
  static_safe (SArgument Γ p b K) h = λ y q i g. safe_reify n Ok _ (kont E K) q _ i (static_safe K h) (λ l r jj fl. record { by = safe_two n Ok y l g fl })
