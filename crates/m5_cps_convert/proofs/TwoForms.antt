-- The straight forms of two parts: pairs, lists, stores and operators.
use Rattle.std.proofs.Common.{inl, inr, ℕ, ◌*◌, ◌≤◌, List, Bool, true, false, ◌&&◌, IsTrue, refl, arith}
use Rattle.std.specs.Prelude.{ℤ}
use Rattle.m5_terms.specs.Expression.{Expression, leaf, binary}
use Rattle.m5_terms.specs.Worlds.{IsSiteWorld}
use Rattle.m5_terms.specs.declared.types.World.{World}
use Rattle.m5_terms.specs.declared.form.LeafForm.TheVariants as leaf_form
use Rattle.m5_terms.specs.declared.form.BinaryForm.TheVariants as binary_form
use Rattle.m5_meaning.specs.Site.{Program}
use Rattle.m5_meaning.specs.Step.{step_weight}
use Rattle.m5_meaning.specs.Reduction as reduction
use Rattle.m5_cps.specs.Values.{atom}
use Rattle.m5_cps.specs.Captured.{Closure, Value}
use Rattle.m5_cps_convert.specs.Scopes.{Scope}
use Rattle.m5_cps_convert.specs.Proper.{StandsAt}
use Rattle.m5_cps_convert.specs.Statics.{Static, SFirst}
use Rattle.m5_terms.specs.TypeExpression.{same_world}
use Rattle.m5_terms.specs.declared.types.Op.{Op}
use Rattle.m5_terms.specs.declared.types.Op.TheVariants as op
use Rattle.m5_typing.specs.Value.{IsValueForm}
use Rattle.m5_meaning.specs.Reduction.{reduced_binary}
use Rattle.m5_cps.specs.Made.{Made, makes_text, operated, made_by_two, two_units}
use Rattle.m5_cps_convert.proofs.Meets.{Evals, Resumes}
use Rattle.m5_cps_convert.proofs.Heads.{Head, atoms, reads_of}
use Rattle.m5_cps_convert.proofs.Parts.{begins, goes_second, stands_here}
use Rattle.m5_cps_convert.proofs.Made.{Agree, bytes_made, IsTwo, two_done}
use Rattle.m5_cps_convert.proofs.OneForms.{either}

module _ (P : Program) (u : World) (site : IsSiteWorld u) where
  store_agree : {c d : Value} {v w : Expression} → Head P c v → Head P d w → Agree P (made_by_two u binary_form.Store c d) (reduced_binary P u binary_form.Store v w)
  store_agree (atoms (leaf_form.CellAt x n) i) k = either P (same_world x u) _ _ _ _ (refl, reads_of k) tt
  store_agree _ k = tt

  add_second : (m : ℤ) {d : Value} {w : Expression} → Head P d w → Agree P (operated op.Add (atom (leaf_form.Int m)) d) (reduction.operated op.Add (leaf (leaf_form.Int m)) w)
  add_second m (atoms (leaf_form.Int n) i) = (refl, tt)
  add_second m _ = tt

  add_agree : {c d : Value} {v w : Expression} → Head P c v → Head P d w → Agree P (operated op.Add c d) (reduction.operated op.Add v w)
  add_agree (atoms (leaf_form.Int m) i) k = add_second m k
  add_agree _ k = tt

  sub_second : (m : ℤ) {d : Value} {w : Expression} → Head P d w → Agree P (operated op.Sub (atom (leaf_form.Int m)) d) (reduction.operated op.Sub (leaf (leaf_form.Int m)) w)
  sub_second m (atoms (leaf_form.Int n) i) = (refl, tt)
  sub_second m _ = tt

  sub_agree : {c d : Value} {v w : Expression} → Head P c v → Head P d w → Agree P (operated op.Sub c d) (reduction.operated op.Sub v w)
  sub_agree (atoms (leaf_form.Int m) i) k = sub_second m k
  sub_agree _ k = tt

  mul_second : (m : ℤ) {d : Value} {w : Expression} → Head P d w → Agree P (operated op.Mul (atom (leaf_form.Int m)) d) (reduction.operated op.Mul (leaf (leaf_form.Int m)) w)
  mul_second m (atoms (leaf_form.Int n) i) = (refl, tt)
  mul_second m _ = tt

  mul_agree : {c d : Value} {v w : Expression} → Head P c v → Head P d w → Agree P (operated op.Mul c d) (reduction.operated op.Mul v w)
  mul_agree (atoms (leaf_form.Int m) i) k = mul_second m k
  mul_agree _ k = tt

  eqint_second : (m : ℤ) {d : Value} {w : Expression} → Head P d w → Agree P (operated op.EqInt (atom (leaf_form.Int m)) d) (reduction.operated op.EqInt (leaf (leaf_form.Int m)) w)
  eqint_second m (atoms (leaf_form.Int n) i) = (refl, tt)
  eqint_second m _ = tt

  eqint_agree : {c d : Value} {v w : Expression} → Head P c v → Head P d w → Agree P (operated op.EqInt c d) (reduction.operated op.EqInt v w)
  eqint_agree (atoms (leaf_form.Int m) i) k = eqint_second m k
  eqint_agree _ k = tt

  less_second : (m : ℤ) {d : Value} {w : Expression} → Head P d w → Agree P (operated op.Less (atom (leaf_form.Int m)) d) (reduction.operated op.Less (leaf (leaf_form.Int m)) w)
  less_second m (atoms (leaf_form.Int n) i) = (refl, tt)
  less_second m _ = tt

  less_agree : {c d : Value} {v w : Expression} → Head P c v → Head P d w → Agree P (operated op.Less c d) (reduction.operated op.Less v w)
  less_agree (atoms (leaf_form.Int m) i) k = less_second m k
  less_agree _ k = tt

  cat_second : (m : List ℕ) {d : Value} {w : Expression} → Head P d w → Agree P (operated op.Cat (atom (leaf_form.Str m)) d) (reduction.operated op.Cat (leaf (leaf_form.Str m)) w)
  cat_second m (atoms (leaf_form.Str n) i) = refl
  cat_second m _ = tt

  cat_agree : {c d : Value} {v w : Expression} → Head P c v → Head P d w → Agree P (operated op.Cat c d) (reduction.operated op.Cat v w)
  cat_agree (atoms (leaf_form.Str m) i) k = cat_second m k
  cat_agree _ k = tt

  eqstr_second : (m : List ℕ) {d : Value} {w : Expression} → Head P d w → Agree P (operated op.EqStr (atom (leaf_form.Str m)) d) (reduction.operated op.EqStr (leaf (leaf_form.Str m)) w)
  eqstr_second m (atoms (leaf_form.Str n) i) = (refl, tt)
  eqstr_second m _ = tt

  eqstr_agree : {c d : Value} {v w : Expression} → Head P c v → Head P d w → Agree P (operated op.EqStr c d) (reduction.operated op.EqStr v w)
  eqstr_agree (atoms (leaf_form.Str m) i) k = eqstr_second m k
  eqstr_agree _ k = tt

  operator_agree : (o : Op) {c d : Value} {v w : Expression} → Head P c v → Head P d w → Agree P (operated o c d) (reduction.operated o v w)
  operator_agree op.Add h k = add_agree h k
  operator_agree op.Sub h k = sub_agree h k
  operator_agree op.Mul h k = mul_agree h k
  operator_agree op.EqInt h k = eqint_agree h k
  operator_agree op.Less h k = less_agree h k
  operator_agree op.Cat h k = cat_agree h k
  operator_agree op.EqStr h k = eqstr_agree h k

  operator_units : (o : Op) (m : Made Closure) → two_units (binary_form.Binary o) m ≤ 4 * step_weight P (bytes_made m)
  operator_units o (makes_text t) = omega arith
  operator_units o _ = omega arith

  store_units : (m : Made Closure) → two_units binary_form.Store m ≤ 4 * step_weight P (bytes_made m)
  store_units (makes_text t) = omega arith
  store_units _ = omega arith

  pub pair_two : IsTwo P u site binary_form.Pair
  pair_two = record { code = λ T Γ x y n K. refl; reduces = λ s fs x w a b v. refl; agree = λ {c} {d} {v} {w} h k. (v, w, refl, reads_of h, reads_of k); units = λ c d. omega arith }

  pub cons_two : IsTwo P u site binary_form.Cons
  cons_two = record { code = λ T Γ x y n K. refl; reduces = λ s fs x w a b v. refl; agree = λ {c} {d} {v} {w} h k. (v, w, refl, reads_of h, reads_of k); units = λ c d. omega arith }

  pub store_two : IsTwo P u site binary_form.Store
  store_two = record { code = λ T Γ x y n K. refl; reduces = λ s fs x w a b v. refl; agree = store_agree; units = λ c d. store_units (made_by_two u binary_form.Store c d) }

  pub operator_two : (o : Op) → IsTwo P u site (binary_form.Binary o)
  operator_two o = record { code = λ T Γ x y n K. refl; reduces = λ s fs x w a b v. refl; agree = operator_agree o; units = λ c d. operator_units o (made_by_two u (binary_form.Binary o) c d) }

  first_stands : (w : World) (e a : Expression) → StandsAt u w e → (IsValueForm e → IsValueForm a) → StandsAt u w a
  first_stands w e a (inl p) g = inl p
  first_stands w e a (inr p) g = inr (g p)

  both_first : (a b : Bool) → IsTrue (a && b) → IsTrue a
  both_first true b h = refl
  both_first false b h = h

  both_second : (a b : Bool) → IsTrue (a && b) → IsTrue b
  both_second true b h = h
  both_second false b h = absurd (cc)

  pub pair_first : (a b : Expression) → Evals P u b → (K : Static) → Resumes P u K → (Γ : Scope) → Resumes P u (SFirst Γ (binary binary_form.Pair a b) K)
  pair_first a b eb = goes_second P u site binary_form.Pair a b eb (λ Γ x n K. refl) (λ s fs x w c d v. refl) refl (λ γ. refl) (λ w st. first_stands w (binary binary_form.Pair a b) b st (both_second _ _)) (two_done P u site binary_form.Pair pair_two a b)

  pub pair_evals : (a b : Expression) → Evals P u a → Evals P u b → Evals P u (binary binary_form.Pair a b)
  pair_evals a b ea eb = begins P u site (binary binary_form.Pair a b) a (λ w. w) (λ Γ. Γ) (λ Γ. refl) ea (λ Γ n K. refl) (λ s fs w γ. refl) (omega arith) (λ K. tt) (λ p. p.0) (λ w p st. first_stands w (binary binary_form.Pair a b) a st (both_first _ _)) (pair_first a b eb)

  pub cons_first : (a b : Expression) → Evals P u b → (K : Static) → Resumes P u K → (Γ : Scope) → Resumes P u (SFirst Γ (binary binary_form.Cons a b) K)
  cons_first a b eb = goes_second P u site binary_form.Cons a b eb (λ Γ x n K. refl) (λ s fs x w c d v. refl) refl (λ γ. refl) (λ w st. first_stands w (binary binary_form.Cons a b) b st (both_second _ _)) (two_done P u site binary_form.Cons cons_two a b)

  pub cons_evals : (a b : Expression) → Evals P u a → Evals P u b → Evals P u (binary binary_form.Cons a b)
  cons_evals a b ea eb = begins P u site (binary binary_form.Cons a b) a (λ w. w) (λ Γ. Γ) (λ Γ. refl) ea (λ Γ n K. refl) (λ s fs w γ. refl) (omega arith) (λ K. tt) (λ p. p.0) (λ w p st. first_stands w (binary binary_form.Cons a b) a st (both_first _ _)) (cons_first a b eb)

  pub store_first : (a b : Expression) → Evals P u b → (K : Static) → Resumes P u K → (Γ : Scope) → Resumes P u (SFirst Γ (binary binary_form.Store a b) K)
  store_first a b eb = goes_second P u site binary_form.Store a b eb (λ Γ x n K. refl) (λ s fs x w c d v. refl) refl (λ γ. refl) (λ w st. inl (stands_here u w (binary binary_form.Store a b) refl st)) (two_done P u site binary_form.Store store_two a b)

  pub store_evals : (a b : Expression) → Evals P u a → Evals P u b → Evals P u (binary binary_form.Store a b)
  store_evals a b ea eb = begins P u site (binary binary_form.Store a b) a (λ w. w) (λ Γ. Γ) (λ Γ. refl) ea (λ Γ n K. refl) (λ s fs w γ. refl) (omega arith) (λ K. tt) (λ p. p.0) (λ w p st. inl (stands_here u w (binary binary_form.Store a b) refl st)) (store_first a b eb)

  pub operator_first : (o : Op) (a b : Expression) → Evals P u b → (K : Static) → Resumes P u K → (Γ : Scope) → Resumes P u (SFirst Γ (binary (binary_form.Binary o) a b) K)
  operator_first o a b eb = goes_second P u site (binary_form.Binary o) a b eb (λ Γ x n K. refl) (λ s fs x w c d v. refl) refl (λ γ. refl) (λ w st. inl (stands_here u w (binary (binary_form.Binary o) a b) refl st)) (two_done P u site (binary_form.Binary o) (operator_two o) a b)

  pub operator_evals : (o : Op) (a b : Expression) → Evals P u a → Evals P u b → Evals P u (binary (binary_form.Binary o) a b)
  operator_evals o a b ea eb = begins P u site (binary (binary_form.Binary o) a b) a (λ w. w) (λ Γ. Γ) (λ Γ. refl) ea (λ Γ n K. refl) (λ s fs w γ. refl) (omega arith) (λ K. tt) (λ p. p.0) (λ w p st. inl (stands_here u w (binary (binary_form.Binary o) a b) refl st)) (operator_first o a b eb)
