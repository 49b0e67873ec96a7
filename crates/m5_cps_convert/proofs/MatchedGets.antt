-- A get's code, from where its address comes.
use Rattle.std.proofs.Common.{◌≡◌, ℕ, suc, ◌+◌, ◌*◌, ◌≤◌, inl, List, ◌∷◌, Option, Some, None, Bool, true, false, refl, sym, ap, ◌∙◌, subst, arith, if◌then◌else◌}
use Rattle.m5_terms.specs.TypeExpression.{TypeExpression, same_world}
use Rattle.m5_terms.specs.Expression.{Expression, leaf, binary}
use Rattle.m5_terms.specs.Worlds.{IsSiteWorld}
use Rattle.m5_terms.specs.declared.types.World.{World}
use Rattle.m5_terms.specs.declared.thread.Frame.{Frame}
use Rattle.m5_terms.specs.declared.thread.Frame.TheVariants as frame
use Rattle.m5_terms.specs.declared.thread.Focus.TheVariants.{Eval, Returned}
use Rattle.m5_terms.specs.declared.form.LeafForm.{LeafForm}
use Rattle.m5_terms.specs.declared.form.LeafForm.TheVariants as leaf_form
use Rattle.m5_terms.specs.declared.form.BinaryForm.TheVariants as binary_form
use Rattle.m5_meaning.specs.Site.{Program}
use Rattle.m5_meaning.specs.Site as meaning
use Rattle.m5_cps.specs.Entries.{of, takes, only, world_of, by_value}
use Rattle.m5_cps.specs.Blocks.{Code, if_here}
use Rattle.m5_cps.specs.Values.{atom, closed, put, put_all, filled_by}
use Rattle.m5_cps.specs.Deeds.{tested}
use Rattle.m5_cps.specs.Units.{closure_units}
use Rattle.m5_terms.specs.Size.{text_size}
use Rattle.m5_cps.specs.Captured.{over, Value, Site, captured}
use Rattle.m5_cps.specs.Running.{run}
use Rattle.m5_cps_convert.specs.Scopes.{Scope, in_block}
use Rattle.m5_cps_convert.specs.Continuations.{goal_code}
use Rattle.m5_cps_convert.specs.Convert.{cps}
use Rattle.m5_cps_convert.specs.Closing.{Values, value_or, close}
use Rattle.m5_cps_convert.specs.Statics.{STail, SFirst}
use Rattle.m5_cps_convert.specs.Slots.{SVal, SKont, SGoal, Has, FitsAt, Fits}
use Rattle.m5_cps_convert.specs.Narrow.{Narrow}
use Rattle.m5_cps_convert.specs.Reading.{setting, Reads}
use Rattle.m5_cps.specs.TypeParts.{place_of}
use Rattle.m5_cps_convert.specs.Forms.{get_value, get_goal, get_variable, variable_of}
use Rattle.m5_cps_convert.specs.Convert.{type_in, away_to, get_parts}
use Rattle.m5_cps_convert.specs.Proper.{Proper}
use Rattle.m5_terms.proofs.SiteWorlds.{same-true}
use Rattle.m5_cps_convert.proofs.Substitutions.{put_same, put_other}
use Rattle.m5_cps_convert.proofs.Slots.{In, Grows, put_grows, put_has, has_on, fits_on}
use Rattle.m5_cps_convert.proofs.Meets.{W, rest, src, ticked, Tied, step_pays, behind, lent, Meets, back, Resumes, Evals}
use Rattle.m5_cps_convert.proofs.Weights.{least}
use Rattle.m5_cps_convert.proofs.Straight.{object_made}
use Rattle.m5_cps_convert.proofs.Heads.{head_of}
use Rattle.m5_cps_convert.proofs.Parts.{stands_here}
use Rattle.m5_cps_convert.proofs.Calls.{closure_room, reified}
use Rattle.m5_cps_convert.proofs.Light.{goal_light}
use Rattle.m5_cps_convert.proofs.Moves.{value_head, goal_head}
use Rattle.m5_cps_convert.proofs.Leaving.{IsAway, away_is, asks_unnamed}
use Rattle.m5_cps_convert.proofs.Homeward.{home_code, home_meets}

module _ (P : Program) (u : World) (site : IsSiteWorld u) where
  abbrev T1 : Expression → Expression → Scope → TypeExpression
  T1 a b Γ = type_in (setting P) (binary binary_form.Get a b) Γ

  abbrev V1 : Expression → Scope → World
  V1 a Γ = place_of (type_in (setting P) a Γ)

  -- a get's parts, where its continuation is in slot l
  abbrev parts : Expression → Expression → Scope → Option World → ℕ → ℕ → Code
  parts a b Γ o l m = get_parts o (T1 a b Γ) (type_in (setting P) a Γ) (variable_of b) (cps (setting P) a) (cps (setting P) b) Γ l m

  -- the body is a block
  goal_rest : (a b : Expression) → Evals P u b → variable_of b ≡ None → ((Γ : Scope) (x n k : ℕ) → rest P (SFirst Γ (binary binary_form.Get a b) (STail k)) x n ≡ get_goal (T1 a b Γ) (V1 a Γ) x (cps (setting P) b) Γ k n) → (k : ℕ) (Γ : Scope) → Resumes P u (SFirst Γ (binary binary_form.Get a b) (STail k))
  goal_rest a b eb no_name same k Γ = record {
    by = λ t s n ρ fs w x v fr has h nr.
        let g : Code = goal_code (cps (setting P) b) (in_block (only (V1 a Γ)) Γ) n in
        let c : Value = closed (over (by_value (only (V1 a Γ)) (takes (of (T1 a b Γ)))) n g) ρ in
        let ρ1 : ℕ → Value = put n c ρ in
        let b1 : Expression = close fr.values b in
        let nr1 : Narrow (W P) (get_goal (T1 a b Γ) (V1 a Γ) x (cps (setting P) b) Γ k n) n = subst (λ y. Narrow (W P) y n) (same Γ x n k) nr in
        let rg : Reads P c (SGoal b1) = record { narrow = nr1.1; scope = in_block (only (V1 a Γ)) Γ; values = fr.values; node = b; proper = fr.proper.1; fits = fr.fits; code = refl; is = refl } in
        let other : put n c ρ x ≡ ρ x = put_other n x c ρ (omega (arith, has.0)) in
        let fs0 : List Frame = frame.Part fr.world (binary binary_form.Get (close fr.values a) b1) 0 ∷ fr.below in
        subst (λ y. Meets P u (run u y n ρ t) (src s fs (Returned w v))) (sym (same Γ x n k))
        (subst (λ y. Meets P u (run u (get_goal (T1 a b Γ) (V1 a Γ) x (cps (setting P) b) Γ k n) n ρ t) (src s y (Returned w v))) (sym fr.is)
        (object_made P u site 1 0 0 (closure_units (captured n g)) t s fs0 (Returned w v) _ h (least P u (src s fs0 (Returned w v))) (omega (arith, nr1.0)) (λ t1 h1.
        goal_head P u site (T1 a b Γ) (V1 a Γ) k t1 s fr.below fr.world w (close fr.values a) b1 (stands_here u fr.world (binary binary_form.Get a b) refl fr.stands) n n ρ1 (has_on k (SKont u fr.below) (put_grows P ρ n c) fr.rest) (put_has P ρ n c (SGoal b1) rg)
        (subst (λ d. Rattle.m5_cps.specs.Captured.value_units d + 2 ≤ 4 * Rattle.m5_terms.specs.Size.node_size b1) (sym (put_same n c ρ)) (goal_light P n (only (V1 a Γ)) (takes (of (T1 a b Γ))) ρ (in_block (only (V1 a Γ)) Γ) fr.values b fr.fits no_name)) x (omega (arith, has.0)) (lent (closure_room P u site) h1 (omega (arith, nr1.0))) nr1.2.2 (head_of P (put n c ρ x) v (subst (λ d. Reads P d (SVal v)) (sym other) has.1)) refl)));
  }

  -- the body's value is in a slot
  value_rest : (a b : Expression) (z : ℕ) (leaf1 : LeafForm) → ((γ : Values) → close γ b ≡ value_or (γ z) leaf1) → ((Γ : Scope) (x n k : ℕ) → rest P (SFirst Γ (binary binary_form.Get a b) (STail k)) x n ≡ get_variable (T1 a b Γ) (V1 a Γ) x (Γ.slots z) k n) → (k : ℕ) (Γ : Scope) → Resumes P u (SFirst Γ (binary binary_form.Get a b) (STail k))
  value_rest a b z leaf1 named same k Γ = record {
    by = λ t s n ρ fs w x v fr has h nr.
        subst (λ y. Meets P u (run u y n ρ t) (src s fs (Returned w v))) (sym (same Γ x n k))
        (subst (λ y. Meets P u (run u (get_variable (T1 a b Γ) (V1 a Γ) x (Γ.slots z) k n) n ρ t) (src s y (Returned w v))) (sym fr.is)
        (by_slot t s n ρ fr.below fr.world w x v (close fr.values a) (close fr.values b) fr.rest has h (stands_here u fr.world (binary binary_form.Get a b) refl fr.stands) (Γ.slots z) (fr.values z) (named fr.values) (fr.fits z) (subst (λ y. Narrow (W P) y n) (same Γ x n k) nr)));
  }
    where
      by_slot : (t : Site) (s : meaning.Site) (n : ℕ) (ρ : ℕ → Value) (fs : List Frame) (y w : World) (x : ℕ) (v a1 b1 : Expression) → Has (In P ρ) n k (SKont u fs) → Has (In P ρ) n x (SVal v) → Tied P u 1 0 t s → y ≡ u → (o : Option ℕ) (v1 : Option Expression) → b1 ≡ value_or v1 leaf1 → FitsAt (In P ρ) n o v1 → Narrow (W P) (get_variable (T1 a b Γ) (V1 a Γ) x o k n) n → Meets P u (run u (get_variable (T1 a b Γ) (V1 a Γ) x o k n) n ρ t) (src s (frame.Part y (binary binary_form.Get a1 b1) 0 ∷ fs) (Returned w v))
      by_slot t s n ρ fs y w x v a1 b1 hk has h ye None v1 q f nr =
          let unit : b1 ≡ leaf leaf_form.Unit = q ∙ ap (λ o. value_or o leaf1) f in
          let c : Value = atom leaf_form.Unit in
          let gr : Grows (In P ρ) n (In P (put n c ρ)) (suc n) = put_grows P ρ n c in
          let has1 : Has (In P (put n c ρ)) (suc n) x (SVal v) = has_on x (SVal v) gr has in
          subst (λ o. Meets P u (run u (get_value (T1 a b Γ) (V1 a Γ) x n k (suc n)) (suc n) (put n c ρ) t) (src s (frame.Part y (binary binary_form.Get a1 o) 0 ∷ fs) (Returned w v))) (sym unit)
          (value_head P u site (T1 a b Γ) (V1 a Γ) k t s fs y w a1 (leaf leaf_form.Unit) ye n (suc n) (put n c ρ) (has_on k (SKont u fs) gr hk) (put_has P ρ n c (SVal (leaf leaf_form.Unit)) (refl, tt)) x (omega (arith, has.0)) (lent (closure_room P u site) h (omega arith)) nr.2 (head_of P (put n c ρ x) v has1.1) refl (omega (arith, has.0)))
      by_slot t s n ρ fs y w x v a1 b1 hk has h ye (Some l) None q f nr = absurd f
      by_slot t s n ρ fs y w x v a1 b1 hk has h ye (Some l) (Some v1) q f nr =
          value_head P u site (T1 a b Γ) (V1 a Γ) k t s fs y w a1 b1 ye l n ρ hk (subst (λ o. Has (In P ρ) n l (SVal o)) (sym q) f) x (omega (arith, has.0)) (lent (closure_room P u site) h (omega arith)) nr.2 (head_of P (ρ x) v has.1) refl (omega (arith, has.0))

  pub get_rest : (a b : Expression) → Evals P u b → (k : ℕ) (Γ : Scope) → Resumes P u (SFirst Γ (binary binary_form.Get a b) (STail k))
  get_rest a (leaf (leaf_form.Var z)) eb = value_rest a (leaf (leaf_form.Var z)) z (leaf_form.Var z) (λ γ. refl) (λ Γ x n k. refl)
  get_rest a (leaf (leaf_form.Valid z)) eb = value_rest a (leaf (leaf_form.Valid z)) z (leaf_form.Valid z) (λ γ. refl) (λ Γ x n k. refl)
  get_rest a b eb = goal_rest a b eb refl (λ Γ x n k. refl)

  -- the address is evaluated first
  apart_meets : (a b : Expression) → Evals P u a → Evals P u b → (Γ : Scope) (γ : Values) (l m : ℕ) (σ : ℕ → Value) (t : Site) (s : meaning.Site) (fs : List Frame) (w : World) → Proper (binary binary_form.Get a b) → w ≡ u → Fits (In P σ) m Γ γ → Has (In P σ) m l (SKont u fs) → Tied P u 1 (closure_room P u site) t s → Narrow (W P) (parts a b Γ None l m) m →
      Meets P u (run u (parts a b Γ None l m) m σ t) (src s fs (Eval w (close γ (binary binary_form.Get a b))))
  apart_meets a b ea eb Γ γ l m σ t s fs w p we f hl h nr =
      let e1 : Expression = close γ (binary binary_form.Get a b) in
      back P u _ _ (src (ticked P 0 s) (frame.Part w e1 0 ∷ fs) (Eval w (close γ a))) refl
      (ea.by (SFirst Γ (binary binary_form.Get a b) (STail l)) (get_rest a b eb l Γ) t (ticked P 0 s) m σ Γ γ (frame.Part w e1 0 ∷ fs) w p.0 (inl we) f (record { world = w; values = γ; below = fs; has_part = omega arith; slotted = tt; proper = p; stands = inl we; fits = f; is = refl; rest = hl }) (behind 0 1 (step_pays 0 h (omega arith)) (omega arith)) nr)

  -- or it is written, and this site may be at the world of the block
  away_meets : (b : Expression) (v : World) → Evals P u (leaf (leaf_form.Addr v)) → Evals P u b → (Γ : Scope) (γ : Values) (l m : ℕ) (σ : ℕ → Value) (t : Site) (s : meaning.Site) (fs : List Frame) (w : World) → IsAway (leaf (leaf_form.Addr v)) b (world_of Γ.mode) v → Proper (binary binary_form.Get (leaf (leaf_form.Addr v)) b) → w ≡ u → Fits (In P σ) m Γ γ → Has (In P σ) m l (SKont u fs) → Tied P u 1 (closure_room P u site) t s → Narrow (W P) (parts (leaf (leaf_form.Addr v)) b Γ (Some v) l m) m →
      Meets P u (run u (parts (leaf (leaf_form.Addr v)) b Γ (Some v) l m) m σ t) (src s fs (Eval w (close γ (binary binary_form.Get (leaf (leaf_form.Addr v)) b))))
  away_meets b v ea eb Γ γ l m σ t s fs w is p we f hl h nr =
      subst (λ d. Meets P u (tested u if_here d (λ ps. run u (home y) (filled_by ps (suc m)) (put_all (suc m) ps (own y)) t) (λ ps. run u general (filled_by ps (suc m)) (put_all (suc m) ps (own y)) t)) at) (sym (put_same m (atom (leaf_form.Addr y)) σ)) (by (same_world y u) refl)
    where
      y : World
      y = world_of Γ.mode

      own : World → ℕ → Value
      own x = put m (atom (leaf_form.Addr x)) σ

      home : World → Code
      home x = home_code P v b Γ l m x

      general : Code
      general = parts (leaf (leaf_form.Addr v)) b Γ None l (suc m)

      at : meaning.Site
      at = src s fs (Eval w (close γ (binary binary_form.Get (leaf (leaf_form.Addr v)) b)))

      by : (c : Bool) → same_world y u ≡ c → Meets P u (if c then run u (home y) (suc m) (own y) t else run u general (suc m) (own y) t) at
      by true i =
          let same : u ≡ y = sym (same-true y u i) in
          let s1 : meaning.Site = ticked P 0 s in
          let e1 : Expression = close γ (binary binary_form.Get (leaf (leaf_form.Addr v)) b) in
          let other : same_world v u ≡ false = subst (λ x. same_world v x ≡ false) (sym same) is.other in
          let nh : Narrow (W P) (home u) (suc m) = subst (λ x. Narrow (W P) (home x) (suc m)) (sym same) nr.1 in
          subst (λ x. Meets P u (run u (home x) (suc m) (own x) t) at) same
          (back P u (run u (home u) (suc m) (own u) t) at (src s1 (frame.Part w e1 0 ∷ fs) (Eval w (leaf (leaf_form.Addr v)))) refl
          (back P u (run u (home u) (suc m) (own u) t) (src s1 (frame.Part w e1 0 ∷ fs) (Eval w (leaf (leaf_form.Addr v)))) (src (ticked P 0 s1) (frame.Part w e1 0 ∷ fs) (Returned w (leaf (leaf_form.Addr v)))) refl
          (home_meets P u site v b Γ γ l m σ fs (asks_unnamed b is.asks) p.1 other f hl (ticked P 0 s1) w w we t (behind 0 1 (step_pays 0 (behind 0 1 (step_pays 0 h (omega arith)) (omega arith)) (omega arith)) (omega arith)) nh)))
      by false i =
          let g : Grows (In P σ) m (In P (own y)) (suc m) = put_grows P σ m (atom (leaf_form.Addr y)) in
          apart_meets (leaf (leaf_form.Addr v)) b ea eb Γ γ l (suc m) (own y) t s fs w p we (fits_on Γ γ g f) (has_on l (SKont u fs) g hl) h nr.2

  parts_meet : (a b : Expression) → Evals P u a → Evals P u b → (Γ : Scope) (γ : Values) (l m : ℕ) (σ : ℕ → Value) (t : Site) (s : meaning.Site) (fs : List Frame) (w : World) → Proper (binary binary_form.Get a b) → w ≡ u → Fits (In P σ) m Γ γ → Has (In P σ) m l (SKont u fs) → Tied P u 1 (closure_room P u site) t s → (o : Option World) → away_to (world_of Γ.mode) a b ≡ o → Narrow (W P) (parts a b Γ o l m) m →
      Meets P u (run u (parts a b Γ o l m) m σ t) (src s fs (Eval w (close γ (binary binary_form.Get a b))))
  parts_meet a b ea eb Γ γ l m σ t s fs w p we f hl h None e nr = apart_meets a b ea eb Γ γ l m σ t s fs w p we f hl h nr
  parts_meet a b ea eb Γ γ l m σ t s fs w p we f hl h (Some v) e nr = at a (away_is a b (world_of Γ.mode) v e).address (away_is a b (world_of Γ.mode) v e) ea p nr
    where
      at : (c : Expression) → c ≡ leaf (leaf_form.Addr v) → IsAway c b (world_of Γ.mode) v → Evals P u c → Proper (binary binary_form.Get c b) → Narrow (W P) (parts c b Γ (Some v) l m) m → Meets P u (run u (parts c b Γ (Some v) l m) m σ t) (src s fs (Eval w (close γ (binary binary_form.Get c b))))
      at c q = subst (λ c. IsAway c b (world_of Γ.mode) v → Evals P u c → Proper (binary binary_form.Get c b) → Narrow (W P) (parts c b Γ (Some v) l m) m → Meets P u (run u (parts c b Γ (Some v) l m) m σ t) (src s fs (Eval w (close γ (binary binary_form.Get c b))))) (sym q)
          (λ is ec pc nc. away_meets b v ec eb Γ γ l m σ t s fs w is pc we f hl h nc)

  pub get_evals : (a b : Expression) → Evals P u a → Evals P u b → Evals P u (binary binary_form.Get a b)
  get_evals a b ea eb = record {
    by = λ K rs t s n ρ Γ γ fs w p st f fr h nr.
        reified P u site _ _ K n ρ fs _ t s fs (Eval w (close γ (binary binary_form.Get a b))) h fr nr (λ l m σ t1 gr hl h1 n1.
        parts_meet a b ea eb Γ γ l m σ t1 s fs w p (stands_here u w (binary binary_form.Get a b) refl st) (fits_on Γ γ gr f) hl h1 (away_to (world_of Γ.mode) a b) refl n1);
  }
