-- Choices: both arms go on with one continuation, and an arm may get a block of its own.
use Rattle.std.proofs.Common.{◌≡◌, ℕ, suc, ◌≤◌, inl, inr, List, [], ◌∷◌, Some, Bool, true, false, nat_lt, if◌then◌else◌, refl, sym, ap, subst, arith}
use Rattle.m5_terms.specs.Machine.{goes}
use Rattle.m5_terms.specs.TypeExpression.{TypeExpression}
use Rattle.m5_terms.specs.Expression.{Expression, leaf, unary, binary, ternary}
use Rattle.m5_terms.specs.Worlds.{IsSiteWorld}
use Rattle.m5_terms.specs.declared.types.World.{World}
use Rattle.m5_terms.specs.declared.thread.Frame.{Frame}
use Rattle.m5_terms.specs.declared.thread.Frame.TheVariants as frame
use Rattle.m5_terms.specs.declared.thread.Focus.{Focus}
use Rattle.m5_terms.specs.declared.thread.Focus.TheVariants.{Eval, Returned}
use Rattle.m5_terms.specs.declared.form.LeafForm.TheVariants as leaf_form
use Rattle.m5_terms.specs.declared.form.UnaryForm.TheVariants as unary_form
use Rattle.m5_terms.specs.declared.form.BinaryForm.TheVariants as binary_form
use Rattle.m5_terms.specs.declared.form.TernaryForm.TheVariants as ternary_form
use Rattle.m5_meaning.specs.Site.{Program}
use Rattle.m5_meaning.specs.Site as meaning
use Rattle.m5_meaning.specs.Step.{step_weight, thread_of, outcome}
use Rattle.m5_meaning.specs.Step as meaning_step
use Rattle.m5_cps.specs.Entries.{of, takes, world_of, by_value}
use Rattle.m5_cps.specs.Blocks.{Code, straight, closure, test, if_true, if_left, if_nil}
use Rattle.m5_cps.specs.Blocks as block
use Rattle.m5_cps.specs.Values.{closed, enter, put, put_all, filled_by}
use Rattle.m5_cps.specs.Units.{closure_units}
use Rattle.m5_cps.specs.Deeds.{Ran, ends, tested}
use Rattle.m5_cps.specs.Captured.{Closure, over, Value, Site, captured}
use Rattle.m5_cps.specs.Running.{run}
use Rattle.m5_cps_convert.specs.Scopes.{Scope, bind, in_block, in_arm}
use Rattle.m5_cps_convert.specs.Continuations.{Tail, goal_code}
use Rattle.m5_cps_convert.specs.Convert.{cps}
use Rattle.m5_cps_convert.specs.Closing.{Values, hide, close}
use Rattle.m5_cps_convert.specs.Proper.{Proper}
use Rattle.m5_cps_convert.specs.Statics.{Static, STail, SFirst}
use Rattle.m5_cps_convert.specs.Slots.{SVal, SKont, SGoal, Has, Fits}
use Rattle.m5_cps_convert.specs.Narrow.{Narrow}
use Rattle.m5_cps_convert.specs.Reading.{setting}
use Rattle.m5_typing.specs.Context.{local}
use Rattle.m5_cps.specs.TypeParts.{first_of, second_of, content_of}
use Rattle.m5_cps_convert.specs.Continuations.{arm_code}
use Rattle.m5_cps_convert.specs.Convert.{type_in}
use Rattle.m5_cps_convert.proofs.Substitutions.{body_put}
use Rattle.m5_cps_convert.proofs.Slots.{In, Grows, grows_on, put_grows, put_has, has_on, fits_on, fits_put, fits_fixed}
use Rattle.m5_cps_convert.proofs.Meets.{W, rest, src, ticked, Tied, step_pays, behind, Meets, back, Resumes, Evals}
use Rattle.m5_cps_convert.proofs.Weights.{least}
use Rattle.m5_cps_convert.proofs.Straight.{object_made}
use Rattle.m5_cps_convert.proofs.Heads.{Head, atoms, lefts, rights, conses, head_of}
use Rattle.m5_cps_convert.proofs.Parts.{begins, stands_here}
use Rattle.m5_cps_convert.proofs.Calls.{closure_room, reified, front_reads}
use Rattle.m5_cps_convert.proofs.Ends.{tail_resumes}
use Rattle.m5_cps_convert.proofs.Twice.{cons_put}

module _ (P : Program) (u : World) (site : IsSiteWorld u) where
  -- an arm, where the source is about to go on with it
  module _ (T : TypeExpression) (e : Expression) (ee : Evals P u e) (Δ : Scope) (δ : Values) (m k : ℕ) (σ : ℕ → Value) (t : Site) (s : meaning.Site) (fs : List Frame) (w : World) (fs0 : List Frame) (f0 : Focus) (we : w ≡ u) (p : Proper e) (f : Fits (In P σ) m Δ δ) (hk : Has (In P σ) m k (SKont u fs)) (h : Tied P u 1 (closure_room P u site) t s) (wide : 2 ≤ W P)
      (step : meaning_step.site_next P u (src s fs0 f0) ≡ goes (src (ticked P 0 s) fs (Eval w (close δ e)))) where
    abbrev Goal : Code
    Goal = goal_code (cps (setting P) e) (in_block Δ.mode Δ) m

    abbrev goes_to : Site → Ran Closure
    goes_to t1 = ends (goes t1)

    in_its_block : (b : Bool) → Narrow (W P) (if b then cps (setting P) e (in_arm Δ) m (Tail k) else closure (by_value Δ.mode (takes (of T))) Goal (block.ends (block.go m k))) m → Meets P u (run u (if b then cps (setting P) e (in_arm Δ) m (Tail k) else closure (by_value Δ.mode (takes (of T))) Goal (block.ends (block.go m k))) m σ t) (src s fs0 f0)
    in_its_block true nr = back P u _ (src s fs0 f0) (src (ticked P 0 s) fs (Eval w (close δ e))) step (ee.by (STail k) (tail_resumes P u site k) t (ticked P 0 s) m σ (in_arm Δ) δ fs w p (inl we) f hk (behind 0 1 (step_pays 0 h (omega (arith, wide))) (omega arith)) nr)
    in_its_block false nr =
        let c : Value = closed (over (by_value Δ.mode (takes (of T))) m Goal) σ in
        let goal : Has (In P (put m c σ)) (suc m) m (SGoal (close δ e)) = put_has P σ m c (SGoal (close δ e)) (record { narrow = nr.1; scope = in_block Δ.mode Δ; values = δ; node = e; proper = p; fits = f; code = refl; is = refl }) in
        object_made P u site 1 (closure_room P u site) 0 (closure_units (captured m Goal)) t s fs0 f0 (λ t1. goes_to (record t1 { threads = enter (put m c σ m) (put m c σ k) ∷ t1.threads })) h (least P u (src s fs0 f0)) (omega (arith, nr.0, wide))
        (λ t1 h1. inr (record { steps = 1; at = src (ticked P 0 s) fs (Eval w (close δ e)); comes = (src (ticked P 0 s) fs (Eval w (close δ e)), step, refl); reads = front_reads P u site (enter (put m c σ m) (put m c σ k)) t1 (ticked P 0 s) fs (Eval w (close δ e)) (step_pays 0 h1 (omega (arith, nr.0, wide))) (inr (inr (inl (record { frames = fs; node = close δ e; goal = goal.1; continuation = (has_on k (SKont u fs) (put_grows P σ m c) hk).1; is = ap (λ y. thread_of fs (Eval y (close δ e))) we })))) }))

    pub arm_meets : Narrow (W P) (arm_code T (cps (setting P) e) Δ m k) m → Meets P u (run u (arm_code T (cps (setting P) e) Δ m k) m σ t) (src s fs0 f0)
    arm_meets nr = in_its_block (nat_lt Δ.arms 500) nr

  module _ (b c : Expression) (eb : Evals P u b) (ec : Evals P u c) (T A : TypeExpression) (a1 : Expression) (l m : ℕ) (ρ : ℕ → Value) (Γ : Scope) (γ : Values) (t : Site) (s : meaning.Site) (fs : List Frame) (x w : World) (xe : x ≡ u) (pb : Proper b) (pc : Proper c) (f : Fits (In P ρ) m Γ γ) (hk : Has (In P ρ) m l (SKont u fs)) (h : Tied P u 1 (closure_room P u site) t s) where
    abbrev block_world : World
    block_world = world_of Γ.mode

    abbrev Wrong : List Frame → Expression → Ran Closure → Type 0
    Wrong gs v r = Meets P u r (src s gs (Returned w v))

    -- of a truth value
    abbrev If1 : List Frame
    If1 = frame.Part x (ternary ternary_form.If a1 (close γ b) (close γ c)) 0 ∷ fs

    abbrev if_code : Code
    if_code = arm_code T (cps (setting P) b) Γ m l

    abbrev else_code : Code
    else_code = arm_code T (cps (setting P) c) Γ m l

    pub if_head : (2 ≤ W P) × Narrow (W P) if_code m × Narrow (W P) else_code m → {d : Value} {v : Expression} → Head P d v → Meets P u (tested u if_true d (λ parts. run u if_code (filled_by parts m) (put_all m parts ρ) t) (λ parts. run u else_code (filled_by parts m) (put_all m parts ρ) t)) (src s If1 (Returned w v))
    if_head nr (atoms (leaf_form.Bool true) i) = arm_meets T b eb Γ γ m l ρ t s fs x If1 (Returned w (leaf (leaf_form.Bool true))) xe pb f hk h nr.0 refl nr.1
    if_head nr (atoms (leaf_form.Bool false) i) = arm_meets T c ec Γ γ m l ρ t s fs x If1 (Returned w (leaf (leaf_form.Bool false))) xe pc f hk h nr.0 refl nr.2
    if_head nr _ = record { steps = 0; at = src s If1 (Returned w _); comes = refl; stuck = refl }

    module _ (y z : ℕ) where
      -- of a sum
      abbrev Sum1 : List Frame
      Sum1 = frame.Part x (ternary (ternary_form.CaseSum y z) a1 (close (hide (y ∷ []) γ) b) (close (hide (z ∷ []) γ) c)) 0 ∷ fs

      abbrev left_scope : Scope
      left_scope = bind y (local block_world (first_of A)) m Γ

      abbrev right_scope : Scope
      right_scope = bind z (local block_world (second_of A)) m Γ

      abbrev left_code : Code
      left_code = arm_code T (cps (setting P) b) left_scope (suc m) l

      abbrev right_code : Code
      right_code = arm_code T (cps (setting P) c) right_scope (suc m) l

      pub sum_head : (2 ≤ W P) × Narrow (W P) left_code (suc m) × Narrow (W P) right_code (suc m) → {d : Value} {v : Expression} → Head P d v → Meets P u (tested u if_left d (λ parts. run u left_code (filled_by parts m) (put_all m parts ρ) t) (λ parts. run u right_code (filled_by parts m) (put_all m parts ρ) t)) (src s Sum1 (Returned w v))
      sum_head nr (lefts X d v r) = let g : Grows (In P ρ) m (In P (put m d ρ)) (suc m) = put_grows P ρ m d in
          arm_meets T b eb left_scope (put y (Some v) γ) (suc m) l (put m d ρ) t s fs x Sum1 (Returned w (unary (unary_form.Inl X) v)) xe pb (fits_put (In P (put m d ρ)) (suc m) Γ γ y m (local block_world (first_of A)) v (fits_on Γ γ g f) (put_has P ρ m d (SVal v) r)) (has_on l (SKont u fs) g hk) h nr.0 (ap (λ o. goes (src (ticked P 0 s) fs (Eval x o))) (body_put b y v γ (fits_fixed P ρ m Γ γ f))) nr.1
      sum_head nr (rights X d v r) = let g : Grows (In P ρ) m (In P (put m d ρ)) (suc m) = put_grows P ρ m d in
          arm_meets T c ec right_scope (put z (Some v) γ) (suc m) l (put m d ρ) t s fs x Sum1 (Returned w (unary (unary_form.Inr X) v)) xe pc (fits_put (In P (put m d ρ)) (suc m) Γ γ z m (local block_world (second_of A)) v (fits_on Γ γ g f) (put_has P ρ m d (SVal v) r)) (has_on l (SKont u fs) g hk) h nr.0 (ap (λ o. goes (src (ticked P 0 s) fs (Eval x o))) (body_put c z v γ (fits_fixed P ρ m Γ γ f))) nr.2
      sum_head nr _ = record { steps = 0; at = src s Sum1 (Returned w _); comes = refl; stuck = refl }

      -- of a list, whose tail is the inner binder of its second arm
      abbrev List1 : List Frame
      List1 = frame.Part x (ternary (ternary_form.CaseList y z) a1 (close γ b) (close (hide (z ∷ y ∷ []) γ) c)) 0 ∷ fs

      abbrev cons_scope : Scope
      cons_scope = bind z (local block_world A) (suc m) (bind y (local block_world (content_of A)) m Γ)

      abbrev cons_code : Code
      cons_code = arm_code T (cps (setting P) c) cons_scope (suc (suc m)) l

      pub list_head : (2 ≤ W P) × Narrow (W P) if_code m × Narrow (W P) cons_code (suc (suc m)) → {d : Value} {v : Expression} → Head P d v → Meets P u (tested u if_nil d (λ parts. run u if_code (filled_by parts m) (put_all m parts ρ) t) (λ parts. run u cons_code (filled_by parts m) (put_all m parts ρ) t)) (src s List1 (Returned w v))
      list_head nr (atoms (leaf_form.Nil X) i) = arm_meets T b eb Γ γ m l ρ t s fs x List1 (Returned w (leaf (leaf_form.Nil X))) xe pb f hk h nr.0 refl nr.1
      list_head nr (conses d1 d2 v1 v2 r1 r2) =
          let ρ1 : ℕ → Value = put m d1 ρ in
          let ρ2 : ℕ → Value = put (suc m) d2 ρ1 in
          let g1 : Grows (In P ρ) m (In P ρ1) (suc m) = put_grows P ρ m d1 in
          let g2 : Grows (In P ρ1) (suc m) (In P ρ2) (suc (suc m)) = put_grows P ρ1 (suc m) d2 in
          let fits1 : Fits (In P ρ2) (suc (suc m)) (bind y (local block_world (content_of A)) m Γ) (put y (Some v1) γ) = fits_put (In P ρ2) (suc (suc m)) Γ γ y m (local block_world (content_of A)) v1 (fits_on Γ γ (grows_on g1 g2) f) (has_on m (SVal v1) g2 (put_has P ρ m d1 (SVal v1) r1)) in
          let fits2 : Fits (In P ρ2) (suc (suc m)) cons_scope (put z (Some v2) (put y (Some v1) γ)) = fits_put (In P ρ2) (suc (suc m)) (bind y (local block_world (content_of A)) m Γ) (put y (Some v1) γ) z (suc m) (local block_world A) v2 fits1 (put_has P ρ1 (suc m) d2 (SVal v2) r2) in
          arm_meets T c ec cons_scope (put z (Some v2) (put y (Some v1) γ)) (suc (suc m)) l ρ2 t s fs x List1 (Returned w (binary binary_form.Cons v1 v2)) xe pc fits2 (has_on l (SKont u fs) (grows_on g1 g2) hk) h nr.0 (ap (λ o. goes (src (ticked P 0 s) fs (Eval x o))) (cons_put P c y z d1 d2 v1 v2 γ r1 r2 (fits_fixed P ρ m Γ γ f))) nr.2
      list_head nr _ = record { steps = 0; at = src s List1 (Returned w _); comes = refl; stuck = refl }

  pub if_first : (a b c : Expression) → Evals P u b → Evals P u c → (K : Static) → Resumes P u K → (Γ : Scope) → Resumes P u (SFirst Γ (ternary ternary_form.If a b c) K)
  if_first a b c eb ec K rs Γ = record {
    by = λ t s n ρ fs w x v fr has h nr.
        subst (λ o. Meets P u (run u (rest P (SFirst Γ (ternary ternary_form.If a b c) K) x n) n ρ t) (src s o (Returned w v))) (sym fr.is)
        (reified P u site _ _ K n ρ fr.below _ t s _ (Returned w v) h fr.rest nr (λ l m σ t1 gr hl h1 n1.
        if_head b c eb ec (type_in (setting P) (ternary ternary_form.If a b c) Γ) (type_in (setting P) a Γ) (close fr.values a) l m σ Γ fr.values t1 s fr.below fr.world w (stands_here u fr.world (ternary ternary_form.If a b c) refl fr.stands) fr.proper.1 fr.proper.2 (fits_on Γ fr.values gr fr.fits) hl h1 n1 (head_of P (σ x) v (has_on x (SVal v) gr has).1)));
  }

  pub if_evals : (a b c : Expression) → Evals P u a → Evals P u b → Evals P u c → Evals P u (ternary ternary_form.If a b c)
  if_evals a b c ea eb ec = begins P u site (ternary ternary_form.If a b c) a (λ w. w) (λ Γ. Γ) (λ Γ. refl) ea (λ Γ n K. refl) (λ s fs w γ. refl) (omega arith) (λ K. tt) (λ p. p.0) (λ w p st. inl (stands_here u w (ternary ternary_form.If a b c) refl st)) (if_first a b c eb ec)

  pub sum_first : (y z : ℕ) (a b c : Expression) → Evals P u b → Evals P u c → (K : Static) → Resumes P u K → (Γ : Scope) → Resumes P u (SFirst Γ (ternary (ternary_form.CaseSum y z) a b c) K)
  sum_first y z a b c eb ec K rs Γ = record {
    by = λ t s n ρ fs w x v fr has h nr.
        subst (λ o. Meets P u (run u (rest P (SFirst Γ (ternary (ternary_form.CaseSum y z) a b c) K) x n) n ρ t) (src s o (Returned w v))) (sym fr.is)
        (reified P u site _ _ K n ρ fr.below _ t s _ (Returned w v) h fr.rest nr (λ l m σ t1 gr hl h1 n1.
        sum_head b c eb ec (type_in (setting P) (ternary (ternary_form.CaseSum y z) a b c) Γ) (type_in (setting P) a Γ) (close fr.values a) l m σ Γ fr.values t1 s fr.below fr.world w (stands_here u fr.world (ternary (ternary_form.CaseSum y z) a b c) refl fr.stands) fr.proper.1 fr.proper.2 (fits_on Γ fr.values gr fr.fits) hl h1 y z n1 (head_of P (σ x) v (has_on x (SVal v) gr has).1)));
  }

  pub sum_evals : (y z : ℕ) (a b c : Expression) → Evals P u a → Evals P u b → Evals P u c → Evals P u (ternary (ternary_form.CaseSum y z) a b c)
  sum_evals y z a b c ea eb ec = begins P u site (ternary (ternary_form.CaseSum y z) a b c) a (λ w. w) (λ Γ. Γ) (λ Γ. refl) ea (λ Γ n K. refl) (λ s fs w γ. refl) (omega arith) (λ K. tt) (λ p. p.0) (λ w p st. inl (stands_here u w (ternary (ternary_form.CaseSum y z) a b c) refl st)) (sum_first y z a b c eb ec)

  pub list_first : (y z : ℕ) (a b c : Expression) → Evals P u b → Evals P u c → (K : Static) → Resumes P u K → (Γ : Scope) → Resumes P u (SFirst Γ (ternary (ternary_form.CaseList y z) a b c) K)
  list_first y z a b c eb ec K rs Γ = record {
    by = λ t s n ρ fs w x v fr has h nr.
        subst (λ o. Meets P u (run u (rest P (SFirst Γ (ternary (ternary_form.CaseList y z) a b c) K) x n) n ρ t) (src s o (Returned w v))) (sym fr.is)
        (reified P u site _ _ K n ρ fr.below _ t s _ (Returned w v) h fr.rest nr (λ l m σ t1 gr hl h1 n1.
        list_head b c eb ec (type_in (setting P) (ternary (ternary_form.CaseList y z) a b c) Γ) (type_in (setting P) a Γ) (close fr.values a) l m σ Γ fr.values t1 s fr.below fr.world w (stands_here u fr.world (ternary (ternary_form.CaseList y z) a b c) refl fr.stands) fr.proper.1 fr.proper.2 (fits_on Γ fr.values gr fr.fits) hl h1 y z n1 (head_of P (σ x) v (has_on x (SVal v) gr has).1)));
  }

  pub list_evals : (y z : ℕ) (a b c : Expression) → Evals P u a → Evals P u b → Evals P u c → Evals P u (ternary (ternary_form.CaseList y z) a b c)
  list_evals y z a b c ea eb ec = begins P u site (ternary (ternary_form.CaseList y z) a b c) a (λ w. w) (λ Γ. Γ) (λ Γ. refl) ea (λ Γ n K. refl) (λ s fs w γ. refl) (omega arith) (λ K. tt) (λ p. p.0) (λ w p st. inl (stands_here u w (ternary (ternary_form.CaseList y z) a b c) refl st)) (list_first y z a b c eb ec)
