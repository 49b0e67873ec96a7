-- The straight forms of one part, and division, whose continuation has a slot before.
use Rattle.std.proofs.Common.{inl, inr, ◌≡◌, ◌*◌, ◌≤◌, ◌∷◌, Bool, true, false, refl, arith, if◌then◌else◌, pos}
use Rattle.std.specs.Prelude.{ℤ}
use Rattle.std.specs.Ordering.{int_eq}
use Rattle.m5_terms.specs.TypeExpression.{TypeExpression}
use Rattle.m5_terms.specs.Expression.{Expression, leaf, unary, binary}
use Rattle.m5_terms.specs.Worlds.{IsSiteWorld}
use Rattle.m5_terms.specs.declared.types.World.{World}
use Rattle.m5_terms.specs.declared.types.World.TheVariants.{Any}
use Rattle.m5_terms.specs.declared.thread.Frame.TheVariants as frame
use Rattle.m5_terms.specs.declared.thread.Focus.TheVariants.{Eval}
use Rattle.m5_terms.specs.declared.form.LeafForm.TheVariants as leaf_form
use Rattle.m5_terms.specs.declared.form.UnaryForm.TheVariants as unary_form
use Rattle.m5_terms.specs.declared.form.BinaryForm.TheVariants as binary_form
use Rattle.m5_meaning.specs.Site.{Program}
use Rattle.m5_meaning.specs.Step.{step_weight}
use Rattle.m5_meaning.specs.Reduction as reduction
use Rattle.m5_cps.specs.Values.{Wrap, Join, atom, wrap, join, closed, enter, put}
use Rattle.m5_cps.specs.Values as value
use Rattle.m5_cps.specs.Captured.{Closure, Value}
use Rattle.m5_cps_convert.specs.Scopes.{in_sham}
use Rattle.m5_cps_convert.specs.Closing.{close}
use Rattle.m5_cps_convert.specs.Proper.{StandsAt}
use Rattle.m5_cps_convert.specs.Statics.{STail, SFirst}
use Rattle.m5_terms.specs.TypeExpression.{same_world}
use Rattle.m5_meaning.specs.Numbers.{quotient}
use Rattle.m5_meaning.specs.Reduction.{reduced_unary, unit_or}
use Rattle.m5_cps.specs.Made.{Made, makes_text, divided, made_by_one, one_units}
use Rattle.m5_cps_convert.proofs.Slots.{fits_on}
use Rattle.m5_cps_convert.proofs.Meets.{src, ticked, step_pays, behind, back, Evals}
use Rattle.m5_cps_convert.proofs.Heads.{Head, atoms, pairs, head_of, reads_of}
use Rattle.m5_cps_convert.proofs.Parts.{begins, stands_here}
use Rattle.m5_cps_convert.proofs.Calls.{reified}
use Rattle.m5_cps_convert.proofs.Ends.{tail_resumes}
use Rattle.m5_cps_convert.proofs.Made.{Agree, bytes_made, IsOne, one_first}

-- a truth value on both sides
pub either : (P : Program) (b : Bool) (m k : Made Closure) (r q : reduction.Reduced) → Agree P m r → Agree P k q → Agree P (if b then m else k) (if b then r else q)
either P true m k r q h g = h
either P false m k r q h g = g

module _ (P : Program) (u : World) (site : IsSiteWorld u) where
  fst_agree : {c : Value} {v : Expression} → Head P c v → Agree P (made_by_one u unary_form.Fst c) (reduced_unary u unary_form.Fst v)
  fst_agree (pairs a b x y ra rb) = ra
  fst_agree _ = tt

  snd_agree : {c : Value} {v : Expression} → Head P c v → Agree P (made_by_one u unary_form.Snd c) (reduced_unary u unary_form.Snd v)
  snd_agree (pairs a b x y ra rb) = rb
  snd_agree _ = tt

  text_agree : {c : Value} {v : Expression} → Head P c v → Agree P (made_by_one u unary_form.StrOf c) (reduced_unary u unary_form.StrOf v)
  text_agree (atoms (leaf_form.Int n) i) = refl
  text_agree _ = tt

  text_units_paid : (m : Made Closure) → one_units unary_form.StrOf m ≤ 4 * step_weight P (bytes_made m)
  text_units_paid (makes_text t) = omega arith
  text_units_paid _ = omega arith

  by_number : (n m : ℤ) → Agree P (divided (join value.pair (atom (leaf_form.Int m)) (atom (leaf_form.Int n)))) (reduction.divided (binary binary_form.Pair (leaf (leaf_form.Int m)) (leaf (leaf_form.Int n))))
  by_number n m = either P (int_eq n (pos 0)) _ _ _ _ (leaf leaf_form.Unit, refl, (refl, tt)) (leaf (leaf_form.Int (quotient m n)), refl, (refl, tt))

  by_second : (m : ℤ) {b : Value} {y : Expression} → Head P b y → Agree P (divided (join value.pair (atom (leaf_form.Int m)) b)) (reduction.divided (binary binary_form.Pair (leaf (leaf_form.Int m)) y))
  by_second m (atoms (leaf_form.Int n) i) = by_number n m
  by_second m _ = tt

  by_first : {a b : Value} {x y : Expression} → Head P a x → Head P b y → Agree P (divided (join value.pair a b)) (reduction.divided (binary binary_form.Pair x y))
  by_first (atoms (leaf_form.Int m) i) k = by_second m k
  by_first _ k = tt

  div_agree : {c : Value} {v : Expression} → Head P c v → Agree P (made_by_one u unary_form.Div c) (reduced_unary u unary_form.Div v)
  div_agree (pairs a b x y ra rb) = by_first (head_of P a x ra) (head_of P b y rb)
  div_agree _ = tt

  load_agree : {c : Value} {v : Expression} → Head P c v → Agree P (made_by_one u unary_form.Load c) (reduced_unary u unary_form.Load v)
  load_agree (atoms (leaf_form.CellAt w n) i) = either P (same_world w u) _ _ _ _ refl tt
  load_agree _ = tt

  pub fst_one : IsOne P u site unary_form.Fst
  fst_one = record { reduces = λ s fs x w a v. refl; agree = fst_agree; units = λ c. omega arith }

  pub snd_one : IsOne P u site unary_form.Snd
  snd_one = record { reduces = λ s fs x w a v. refl; agree = snd_agree; units = λ c. omega arith }

  pub text_one : IsOne P u site unary_form.StrOf
  text_one = record { reduces = λ s fs x w a v. refl; agree = text_agree; units = λ c. text_units_paid (made_by_one u unary_form.StrOf c) }

  pub div_one : IsOne P u site unary_form.Div
  div_one = record { reduces = λ s fs x w a v. refl; agree = div_agree; units = λ c. omega arith }

  pub new_one : IsOne P u site unary_form.NewCell
  new_one = record { reduces = λ s fs x w a v. refl; agree = λ h. reads_of h; units = λ c. omega arith }

  pub load_one : IsOne P u site unary_form.Load
  load_one = record { reduces = λ s fs x w a v. refl; agree = load_agree; units = λ c. omega arith }

  pub hold_one : IsOne P u site unary_form.Hold
  hold_one = record { reduces = λ s fs x w a v. refl; agree = λ {c} {v} h. (v, refl, reads_of h); units = λ c. omega arith }

  pub sham_one : IsOne P u site unary_form.Sham
  sham_one = record { reduces = λ s fs x w a v. refl; agree = λ {c} {v} h. (v, refl, reads_of h); units = λ c. omega arith }

  pub inl_one : (T : TypeExpression) → IsOne P u site (unary_form.Inl T)
  inl_one T = record { reduces = λ s fs x w a v. refl; agree = λ {c} {v} h. (v, refl, reads_of h); units = λ c. omega arith }

  pub inr_one : (T : TypeExpression) → IsOne P u site (unary_form.Inr T)
  inr_one T = record { reduces = λ s fs x w a v. refl; agree = λ {c} {v} h. (v, refl, reads_of h); units = λ c. omega arith }

  part_stands : (w : World) (e a : Expression) → StandsAt u w e → (w ≡ u → StandsAt u w a) → (Rattle.m5_typing.specs.Value.IsValueForm e → Rattle.m5_typing.specs.Value.IsValueForm a) → StandsAt u w a
  part_stands w e a (inl p) h g = h p
  part_stands w e a (inr p) h g = inr (g p)

  pub fst_evals : (a : Expression) → Evals P u a → Evals P u (unary unary_form.Fst a)
  fst_evals a ea = begins P u site (unary unary_form.Fst a) a (λ w. w) (λ Γ. Γ) (λ Γ. refl) ea (λ Γ n K. refl) (λ s fs w γ. refl) (omega arith) (λ K. tt) (λ p. p.1) (λ w p st. inl (stands_here u w (unary unary_form.Fst a) refl st)) (one_first P u site unary_form.Fst fst_one a)

  pub snd_evals : (a : Expression) → Evals P u a → Evals P u (unary unary_form.Snd a)
  snd_evals a ea = begins P u site (unary unary_form.Snd a) a (λ w. w) (λ Γ. Γ) (λ Γ. refl) ea (λ Γ n K. refl) (λ s fs w γ. refl) (omega arith) (λ K. tt) (λ p. p.1) (λ w p st. inl (stands_here u w (unary unary_form.Snd a) refl st)) (one_first P u site unary_form.Snd snd_one a)

  pub text_evals : (a : Expression) → Evals P u a → Evals P u (unary unary_form.StrOf a)
  text_evals a ea = begins P u site (unary unary_form.StrOf a) a (λ w. w) (λ Γ. Γ) (λ Γ. refl) ea (λ Γ n K. refl) (λ s fs w γ. refl) (omega arith) (λ K. tt) (λ p. p.1) (λ w p st. inl (stands_here u w (unary unary_form.StrOf a) refl st)) (one_first P u site unary_form.StrOf text_one a)

  pub new_evals : (a : Expression) → Evals P u a → Evals P u (unary unary_form.NewCell a)
  new_evals a ea = begins P u site (unary unary_form.NewCell a) a (λ w. w) (λ Γ. Γ) (λ Γ. refl) ea (λ Γ n K. refl) (λ s fs w γ. refl) (omega arith) (λ K. tt) (λ p. p.1) (λ w p st. inl (stands_here u w (unary unary_form.NewCell a) refl st)) (one_first P u site unary_form.NewCell new_one a)

  pub load_evals : (a : Expression) → Evals P u a → Evals P u (unary unary_form.Load a)
  load_evals a ea = begins P u site (unary unary_form.Load a) a (λ w. w) (λ Γ. Γ) (λ Γ. refl) ea (λ Γ n K. refl) (λ s fs w γ. refl) (omega arith) (λ K. tt) (λ p. p.1) (λ w p st. inl (stands_here u w (unary unary_form.Load a) refl st)) (one_first P u site unary_form.Load load_one a)

  pub hold_evals : (a : Expression) → Evals P u a → Evals P u (unary unary_form.Hold a)
  hold_evals a ea = begins P u site (unary unary_form.Hold a) a (λ w. w) (λ Γ. Γ) (λ Γ. refl) ea (λ Γ n K. refl) (λ s fs w γ. refl) (omega arith) (λ K. tt) (λ p. p.1) (λ w p st. inl (stands_here u w (unary unary_form.Hold a) refl st)) (one_first P u site unary_form.Hold hold_one a)

  pub sham_evals : (a : Expression) → Evals P u a → Evals P u (unary unary_form.Sham a)
  sham_evals a ea = begins P u site (unary unary_form.Sham a) a (λ w. Any) in_sham (λ Γ. refl) ea (λ Γ n K. refl) (λ s fs w γ. refl) (omega arith) (λ K. tt) (λ p. p.1) (λ w p st. inr p.0) (one_first P u site unary_form.Sham sham_one a)

  pub inl_evals : (T : TypeExpression) (a : Expression) → Evals P u a → Evals P u (unary (unary_form.Inl T) a)
  inl_evals T a ea = begins P u site (unary (unary_form.Inl T) a) a (λ w. w) (λ Γ. Γ) (λ Γ. refl) ea (λ Γ n K. refl) (λ s fs w γ. refl) (omega arith) (λ K. tt) (λ p. p.1) (λ w p st. part_stands w (unary (unary_form.Inl T) a) a st inl (λ h. h)) (one_first P u site (unary_form.Inl T) (inl_one T) a)

  pub inr_evals : (T : TypeExpression) (a : Expression) → Evals P u a → Evals P u (unary (unary_form.Inr T) a)
  inr_evals T a ea = begins P u site (unary (unary_form.Inr T) a) a (λ w. w) (λ Γ. Γ) (λ Γ. refl) ea (λ Γ n K. refl) (λ s fs w γ. refl) (omega arith) (λ K. tt) (λ p. p.1) (λ w p st. part_stands w (unary (unary_form.Inr T) a) a st inl (λ h. h)) (one_first P u site (unary_form.Inr T) (inr_one T) a)

  pub div_evals : (a : Expression) → Evals P u a → Evals P u (unary unary_form.Div a)
  div_evals a ea = record {
    by = λ K rs t s n ρ Γ γ fs w p st f fr h nr.
        let e1 : Expression = close γ (unary unary_form.Div a) in
        let we : w ≡ u = stands_here u w (unary unary_form.Div a) refl st in
        reified P u site _ _ K n ρ fs _ t s fs (Eval w e1) h fr nr (λ l m σ t1 gr hl h1 n1.
        back P u _ _ (src (ticked P 0 s) (frame.Part w e1 0 ∷ fs) (Eval w (close γ a))) refl
        (ea.by (SFirst Γ (unary unary_form.Div a) (STail l)) (one_first P u site unary_form.Div div_one a (STail l) (tail_resumes P u site l) Γ) t1 (ticked P 0 s) m σ Γ γ (frame.Part w e1 0 ∷ fs) w p.1 (inl we) (fits_on Γ γ gr f) (record { world = w; values = γ; below = fs; has_part = omega arith; slotted = tt; proper = p; stands = inl we; fits = fits_on Γ γ gr f; is = refl; rest = hl }) (behind 0 1 (step_pays 0 h1 (omega arith)) (omega arith)) n1));
  }
