-- A thread's block begins: a function's, a continuation's, a goal's, a spawned thread's.
use Rattle.std.proofs.Common.{◌≡◌, ℕ, zero, suc, inl, inr, List, [], ◌∷◌, map, Option, Some, None, refl, sym, ap, ◌∙◌, subst, arith, slice_get}
use Rattle.m5_terms.specs.TypeExpression.{TypeExpression}
use Rattle.m5_terms.specs.TypeExpression as type
use Rattle.m5_terms.specs.Expression.{Expression, unary}
use Rattle.m5_terms.specs.Worlds.{IsSiteWorld}
use Rattle.m5_terms.specs.Substitution.{substituted}
use Rattle.m5_terms.specs.declared.types.World.{World}
use Rattle.m5_terms.specs.declared.thread.Frame.{Frame}
use Rattle.m5_terms.specs.declared.thread.Focus.TheVariants.{Eval, Returned}
use Rattle.m5_terms.specs.declared.form.LeafForm.TheVariants as leaf_form
use Rattle.m5_terms.specs.declared.form.UnaryForm.TheVariants as unary_form
use Rattle.m5_typing.specs.declared.functions.Function.{Function}
use Rattle.m5_meaning.specs.Site.{Program}
use Rattle.m5_meaning.specs.Site as meaning
use Rattle.m5_meaning.specs.Reduction as reduction
use Rattle.m5_cps.specs.Entries.{Mode, only, world_of, by_value, by_call}
use Rattle.m5_cps.specs.Blocks.{Code}
use Rattle.m5_cps.specs.Values.{atom, wrap, join, closed, put}
use Rattle.m5_cps.specs.Captured.{over, Value, Site}
use Rattle.m5_cps.specs.Running.{run, entered_by, called_by, declared_block, started, no_values}
use Rattle.m5_cps_convert.specs.Scopes.{Scope, bind, in_block, fn_scope, rec_scope}
use Rattle.m5_cps_convert.specs.Closing.{Values, hide, close}
use Rattle.m5_cps_convert.specs.Proper.{Proper}
use Rattle.m5_cps_convert.specs.Statics.{Static, STop, STail, SBack, SHome, SFirst, SSecond, SArgument, Works}
use Rattle.m5_cps_convert.specs.Slots.{SVal, SKont, SGoal, SStart}
use Rattle.m5_cps_convert.specs.Narrow.{Narrow}
use Rattle.m5_cps_convert.specs.Reading.{setting, Reads}
use Rattle.m5_cps_convert.specs.Threads.{IsEntered}
use Rattle.m5_typing.specs.Context.{local}
use Rattle.m5_meaning.specs.Reduction.{called, called_function}
use Rattle.m5_cps_convert.specs.Slots.{unit_term}
use Rattle.m5_cps_convert.specs.Scopes.{empty_scope}
use Rattle.m5_cps_convert.specs.Convert.{function_block, function_code, program_blocks}
use Rattle.m5_cps_convert.proofs.Substitutions.{IsFixed, AllFixed, body_put}
use Rattle.m5_cps_convert.proofs.Twice.{rec_put}
use Rattle.m5_cps_convert.proofs.Slots.{In, Grows, grows_on, put_grows, put_has, has_on, fits_on, fits_put, fits_fixed, reads_fixed, frames_on}
use Rattle.m5_cps_convert.proofs.Meets.{W, src, timed, Tied, tied_by, behind, Meets, bonus, Resumes, Evals}
use Rattle.m5_cps_convert.proofs.Heads.{Head, atoms, fns, recs, head_of}
use Rattle.m5_cps_convert.proofs.Straight.{value_back}
use Rattle.m5_cps_convert.proofs.Ends.{tail_resumes}

abbrev pub units_everywhere : Values
units_everywhere z = Some unit_term

units_fixed : AllFixed units_everywhere
units_fixed z v e = let e1 : unit_term ≡ v = cc in subst IsFixed e1 (λ x w. refl)

pub block_of : (P : Program) (xs : List Function) (i : ℕ) (g : Function) → slice_get xs i ≡ Some g → slice_get (map (function_block (setting P)) xs) i ≡ Some (function_block (setting P) g)
block_of P [] i g e = absurd (cc)
block_of P (x ∷ xs) zero g e = let e1 : x ≡ g = cc in ap (λ y. Some (function_block (setting P) y)) e1
block_of P (x ∷ xs) (suc i) g e = block_of P xs i g e

-- what is asked of a program: its functions' bodies are proper and closed, and their blocks are narrow
pub record Good (P : Program) : Type 0 where
  pub proper : (i : ℕ) (g : Function) → slice_get P.functions i ≡ Some g → Proper g.body
  pub closed_ : (i : ℕ) (g : Function) → slice_get P.functions i ≡ Some g → close (hide (g.parameter ∷ []) units_everywhere) g.body ≡ g.body
  pub narrow : (i : ℕ) (g : Function) → slice_get P.functions i ≡ Some g → Narrow (W P) (function_code (setting P) g) 3

module _ (P : Program) (u : World) (site : IsSiteWorld u) (good : Good P) (evals : (e : Expression) → Evals P u e) where
  -- the site whose thread enters a block
  abbrev pub entering : Site → Site
  entering t = record t { entered = suc t.entered }

  module _ (x k : Value) (v body : Expression) (fs : List Frame) (t : Site) (s : meaning.Site) (rx : Reads P x (SVal v)) (rk : Reads P k (SKont u fs)) (h : Tied P u 1 0 (entering t) s) where
    closure_entered : (m : Mode) (A B : TypeExpression) (n : ℕ) (ρ : ℕ → Value) (c : Code) (f : Expression) → called P f v ≡ reduction.goes_on body → Reads P (closed (over (by_call m A B) n c) ρ) (SVal f) → Meets P u (started u t (called_by (program_blocks P) (closed (over (by_call m A B) n c) ρ) x k)) (src s fs (Eval u body))
    closure_entered m A B n ρ c f q (inl r) =
        let self : Value = closed (over (by_call m A B) n c) ρ in
        let ρ1 : ℕ → Value = put n self ρ in
        let ρ2 : ℕ → Value = put (suc n) x ρ1 in
        let ρ3 : ℕ → Value = put (suc (suc n)) k ρ2 in
        let g : Grows (In P ρ) n (In P ρ3) (suc (suc (suc n))) = grows_on (put_grows P ρ n self) (grows_on (put_grows P ρ1 (suc n) x) (put_grows P ρ2 (suc (suc n)) k)) in
        let q1 : reduction.goes_on (substituted r.x v (close (hide (r.x ∷ []) r.values) r.body)) ≡ reduction.goes_on body = sym (ap (λ y. called P y v) r.is) ∙ q in
        let q2 : substituted r.x v (close (hide (r.x ∷ []) r.values) r.body) ≡ body = cc in
        subst (λ y. Meets P u (run u c (suc (suc (suc n))) ρ3 (entering t)) (src s fs (Eval u y))) (sym (body_put r.body r.x v r.values (fits_fixed P ρ n r.scope r.values r.fits)) ∙ q2)
        (subst (λ y. Meets P u (run u y (suc (suc (suc n))) ρ3 (entering t)) (src s fs (Eval u (close (put r.x (Some v) r.values) r.body)))) (sym r.code)
        ((evals r.body).by (STail (suc (suc n))) (tail_resumes P u site (suc (suc n))) (entering t) s (suc (suc (suc n))) ρ3 (fn_scope r.x r.parameter n r.scope) (put r.x (Some v) r.values) fs u r.proper (inl refl)
        (fits_put (In P ρ3) (suc (suc (suc n))) r.scope r.values r.x (suc n) (local (world_of r.scope.mode) r.parameter) v (fits_on r.scope r.values g r.fits) (has_on (suc n) (SVal v) (put_grows P ρ2 (suc (suc n)) k) (put_has P ρ1 (suc n) x (SVal v) rx))) (put_has P ρ2 (suc (suc n)) k (SKont u fs) rk) h (subst (λ y. Narrow (W P) y (suc (suc (suc n)))) r.code r.narrow)))
    closure_entered m A B n ρ c f q (inr r) =
        let self : Value = closed (over (by_call m A B) n c) ρ in
        let me : Expression = unary (unary_form.Rec r.f r.x r.parameter r.result) (close (hide (r.x ∷ r.f ∷ []) r.values) r.body) in
        let ρ1 : ℕ → Value = put n self ρ in
        let ρ2 : ℕ → Value = put (suc n) x ρ1 in
        let ρ3 : ℕ → Value = put (suc (suc n)) k ρ2 in
        let Δ : Scope = bind r.f (local (world_of r.scope.mode) (type.function r.parameter r.result)) n (in_block (only (world_of r.scope.mode)) r.scope) in
        let g23 : Grows (In P ρ1) (suc n) (In P ρ3) (suc (suc (suc n))) = grows_on (put_grows P ρ1 (suc n) x) (put_grows P ρ2 (suc (suc n)) k) in
        let g : Grows (In P ρ) n (In P ρ3) (suc (suc (suc n))) = grows_on (put_grows P ρ n self) g23 in
        let q1 : reduction.goes_on (substituted r.f me (substituted r.x v (close (hide (r.x ∷ r.f ∷ []) r.values) r.body))) ≡ reduction.goes_on body = sym (ap (λ y. called P y v) r.is) ∙ q in
        let q2 : substituted r.f me (substituted r.x v (close (hide (r.x ∷ r.f ∷ []) r.values) r.body)) ≡ body = cc in
        let rself : Reads P self (SVal me) = inr (record { narrow = r.narrow; scope = r.scope; values = r.values; f = r.f; x = r.x; parameter = r.parameter; result = r.result; body = r.body; proper = r.proper; fits = r.fits; code = r.code; is = refl }) in
        subst (λ y. Meets P u (run u c (suc (suc (suc n))) ρ3 (entering t)) (src s fs (Eval u y))) (sym (rec_put r.body r.x r.f v me r.values (reads_fixed P x v rx) (fits_fixed P ρ n r.scope r.values r.fits)) ∙ q2)
        (subst (λ y. Meets P u (run u y (suc (suc (suc n))) ρ3 (entering t)) (src s fs (Eval u (close (put r.x (Some v) (put r.f (Some me) r.values)) r.body)))) (sym r.code)
        ((evals r.body).by (STail (suc (suc n))) (tail_resumes P u site (suc (suc n))) (entering t) s (suc (suc (suc n))) ρ3 (rec_scope r.f r.x r.parameter r.result n r.scope) (put r.x (Some v) (put r.f (Some me) r.values)) fs u r.proper (inl refl)
        (fits_put (In P ρ3) (suc (suc (suc n))) Δ (put r.f (Some me) r.values) r.x (suc n) (local (world_of r.scope.mode) r.parameter) v (fits_put (In P ρ3) (suc (suc (suc n))) r.scope r.values r.f n (local (world_of r.scope.mode) (type.function r.parameter r.result)) me (fits_on r.scope r.values g r.fits) (has_on n (SVal me) g23 (put_has P ρ n self (SVal me) rself))) (has_on (suc n) (SVal v) (put_grows P ρ2 (suc (suc n)) k) (put_has P ρ1 (suc n) x (SVal v) rx)))
        (put_has P ρ2 (suc (suc n)) k (SKont u fs) rk) h (subst (λ y. Narrow (W P) y (suc (suc (suc n)))) r.code r.narrow)))

    declared_entered : (i : ℕ) (o : Option Function) → slice_get P.functions i ≡ o → called_function o v ≡ reduction.goes_on body → Meets P u (started u t (called_by (program_blocks P) (atom (leaf_form.Glob i)) x k)) (src s fs (Eval u body))
    declared_entered i None e e1 = absurd (cc)
    declared_entered i (Some g) e e1 =
        let self : Value = atom (leaf_form.Glob i) in
        let ρ1 : ℕ → Value = put 0 self no_values in
        let ρ2 : ℕ → Value = put 1 x ρ1 in
        let ρ3 : ℕ → Value = put 2 k ρ2 in
        let e2 : substituted g.parameter v g.body ≡ body = cc in
        let e3 : close (put g.parameter (Some v) units_everywhere) g.body ≡ body = sym (body_put g.body g.parameter v units_everywhere units_fixed) ∙ ap (substituted g.parameter v) (good.closed_ i g e) ∙ e2 in
        subst (λ o. Meets P u (started u t (declared_block i x k o)) (src s fs (Eval u body))) (sym (block_of P P.functions i g e))
        (subst (λ y. Meets P u (run u (function_code (setting P) g) 3 ρ3 (entering t)) (src s fs (Eval u y))) e3
        ((evals g.body).by (STail 2) (tail_resumes P u site 2) (entering t) s 3 ρ3 (fn_scope g.parameter g.ty 0 (empty_scope (only g.world))) (put g.parameter (Some v) units_everywhere) fs u (good.proper i g e) (inl refl)
        (fits_put (In P ρ3) 3 (empty_scope (only g.world)) units_everywhere g.parameter 1 (local g.world g.ty) v (λ z. refl) (has_on 1 (SVal v) (put_grows P ρ2 2 k) (put_has P ρ1 1 x (SVal v) rx)))
        (put_has P ρ2 2 k (SKont u fs) rk) h (good.narrow i g e)))

    head_entered : {c : Value} {f : Expression} → Head P c f → Reads P c (SVal f) → called P f v ≡ reduction.goes_on body → IsEntered c → Meets P u (started u t (called_by (program_blocks P) c x k)) (src s fs (Eval u body))
    head_entered (fns m A B n c ρ y T e i) r q ent = closure_entered m A B n ρ c _ q r
    head_entered (recs m A B n c ρ g y T R e i) r q ent = closure_entered m A B n ρ c _ q r
    head_entered (atoms (leaf_form.Glob i) a) r q ent = declared_entered i (slice_get P.functions i) refl q
    head_entered (atoms (leaf_form.Extern p) a) r q ent = absurd ent
    head_entered _ r q ent = absurd (cc)

    pub function_entered : (c : Value) (f : Expression) → called P f v ≡ reduction.goes_on body → IsEntered c → Reads P c (SVal f) → Meets P u (started u t (called_by (program_blocks P) c x k)) (src s fs (Eval u body))
    function_entered c f q ent r = head_entered (head_of P c f r) r q ent

  works_bonus : (K : Static) → Works K → bonus K ≡ 1
  works_bonus (STail k) h = absurd h
  works_bonus STop h = refl
  works_bonus (SBack a k) h = refl
  works_bonus (SHome w k) h = refl
  works_bonus (SFirst Γ e K) h = refl
  works_bonus (SSecond Γ e x K) h = refl
  works_bonus (SArgument Γ p b K) h = refl

  module _ (resumes : (K : Static) → Resumes P u K) where
    pub kont_entered : (k x : Value) (v : Expression) (fs : List Frame) (w : World) (t : Site) (s : meaning.Site) → Reads P k (SKont u fs) → Reads P x (SVal v) → Tied P u 1 0 (entering t) s → Meets P u (started u t (entered_by k x)) (src s fs (Returned w v))
    kont_entered (atom f) x v fs w t s r rx h = absurd r
    kont_entered (wrap f d) x v fs w t s r rx h = absurd r
    kont_entered (join f d d2) x v fs w t s r rx h = absurd r
    kont_entered (closed (over (by_call m A B) n c) ρ) x v fs w t s r rx h = absurd r
    kont_entered (closed (over (by_value m T) n c) ρ) x v fs w t s r rx h =
        let self : Value = closed (over (by_value m T) n c) ρ in
        let ρ1 : ℕ → Value = put n self ρ in
        let ρ2 : ℕ → Value = put (suc n) x ρ1 in
        let g : Grows (In P ρ) n (In P ρ2) (suc (suc n)) = grows_on (put_grows P ρ n self) (put_grows P ρ1 (suc n) x) in
        subst (λ y. Meets P u (run u y (suc (suc n)) ρ2 (entering t)) (src s fs (Returned w v))) (sym r.code)
        ((resumes r.static).by (entering t) s (suc (suc n)) ρ2 fs w (suc n) v (frames_on u r.static fs g r.frames) (put_has P ρ1 (suc n) x (SVal v) rx) (subst (λ b. Tied P u b 0 (entering t) s) (sym (works_bonus r.static r.works)) h) (subst (λ y. Narrow (W P) y (suc (suc n))) r.code r.narrow))

    -- with a value that is still to be evaluated
    pub value_entered : (k x : Value) (v : Expression) (fs : List Frame) (w : World) (t : Site) (s : meaning.Site) → Reads P k (SKont u fs) → Reads P x (SVal v) → Tied P u 1 0 (entering t) s → Meets P u (started u t (entered_by k x)) (src s fs (Eval w v))
    value_entered k x v fs w t s r rx h = value_back P u site x v rx _ s fs w (λ i j p q. kont_entered k x v fs w t (timed s i j) r rx (behind 0 1 (tied_by 0 0 t.units i j h (omega (arith, h.entered, p)) (omega (arith, h.units, q))) (omega arith)))

    pub goal_entered : (k x : Value) (e : Expression) (fs : List Frame) (t : Site) (s : meaning.Site) → Reads P k (SGoal e) → Reads P x (SKont u fs) → Tied P u 1 0 (entering t) s → Meets P u (started u t (entered_by k x)) (src s fs (Eval u e))
    goal_entered (atom f) x e fs t s r rx h = absurd r
    goal_entered (wrap f d) x e fs t s r rx h = absurd r
    goal_entered (join f d d2) x e fs t s r rx h = absurd r
    goal_entered (closed (over (by_call m A B) n c) ρ) x e fs t s r rx h = absurd r
    goal_entered (closed (over (by_value m T) n c) ρ) x e fs t s r rx h =
        let self : Value = closed (over (by_value m T) n c) ρ in
        let ρ1 : ℕ → Value = put n self ρ in
        let ρ2 : ℕ → Value = put (suc n) x ρ1 in
        let g : Grows (In P ρ) n (In P ρ2) (suc (suc n)) = grows_on (put_grows P ρ n self) (put_grows P ρ1 (suc n) x) in
        subst (λ y. Meets P u (run u c (suc (suc n)) ρ2 (entering t)) (src s fs (Eval u y))) (sym r.is)
        (subst (λ y. Meets P u (run u y (suc (suc n)) ρ2 (entering t)) (src s fs (Eval u (close r.values r.node)))) (sym r.code)
        ((evals r.node).by (STail (suc n)) (tail_resumes P u site (suc n)) (entering t) s (suc (suc n)) ρ2 r.scope r.values fs u r.proper (inl refl) (fits_on r.scope r.values g r.fits) (put_has P ρ1 (suc n) x (SKont u fs) rx) h (subst (λ y. Narrow (W P) y (suc (suc n))) r.code r.narrow)))

    pub start_entered : (k x : Value) (e : Expression) (fs : List Frame) (t : Site) (s : meaning.Site) → Reads P k (SStart u fs e) → Tied P u 1 0 (entering t) s → Meets P u (started u t (entered_by k x)) (src s fs (Eval u e))
    start_entered (atom f) x e fs t s r h = absurd r
    start_entered (wrap f d) x e fs t s r h = absurd r
    start_entered (join f d d2) x e fs t s r h = absurd r
    start_entered (closed (over (by_call m A B) n c) ρ) x e fs t s r h = absurd r
    start_entered (closed (over (by_value m T) n c) ρ) x e fs t s r h =
        let self : Value = closed (over (by_value m T) n c) ρ in
        let ρ1 : ℕ → Value = put n self ρ in
        let ρ2 : ℕ → Value = put (suc n) x ρ1 in
        let g : Grows (In P ρ) n (In P ρ2) (suc (suc n)) = grows_on (put_grows P ρ n self) (put_grows P ρ1 (suc n) x) in
        subst (λ y. Meets P u (run u c (suc (suc n)) ρ2 (entering t)) (src s fs (Eval u y))) (sym r.is)
        (subst (λ y. Meets P u (run u y (suc (suc n)) ρ2 (entering t)) (src s fs (Eval u (close r.values r.node)))) (sym r.code)
        ((evals r.node).by r.static (resumes r.static) (entering t) s (suc (suc n)) ρ2 r.scope r.values fs u r.proper (inl refl) (fits_on r.scope r.values g r.fits) (frames_on u r.static fs g r.frames) h (subst (λ y. Narrow (W P) y (suc (suc n))) r.code r.narrow)))
