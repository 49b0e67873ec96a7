-- A straight form that fits gives what it says, and a site goes on typed after it.
use Rattle.std.proofs.Common.{◌≡◌, ◌≢◌, ◌⊎◌, inl, inr, ℕ, zero, suc, ◌+◌, nat_le, Bool, true, false, if◌then◌else◌, [], ◌∷◌, ◌++◌, length, Some, refl, sym, ap, subst, ◌∙◌}
use Rattle.m5_terms.specs.Expression.{leaf}
use Rattle.m5_terms.specs.TypeExpression.{TypeExpression, unit, address, sham, at}
use Rattle.m5_terms.specs.declared.types.World.{World}
use Rattle.m5_terms.specs.declared.types.World.TheVariants.{Home, Server, Panel, Any}
use Rattle.m5_terms.specs.declared.form.LeafForm.{LeafForm}
use Rattle.m5_terms.specs.declared.form.LeafForm.TheVariants as leaf_form
use Rattle.m5_terms.proofs.Lists.{each-append}
use Rattle.m5_typing.specs.Value.{leaf_is_value}
use Rattle.m5_typing.specs.Context.{Setting, CellTypes, nothing, type_at}
use Rattle.m5_typing.specs.Rules.{LeafRule, unary_rule, binary_rule}
use Rattle.m5_typing.specs.Typing.{Typed}
use Rattle.m5_typing.proofs.Everywhere.{anywhere}
use Rattle.m5_site_sound.proofs.Growth.{own-self}
use Rattle.m5_cps.specs.Entries.{SlotType, of, takes, Mode, only, everywhere, world_of}
use Rattle.m5_cps.specs.Blocks.{Straight, constant, one, two, unheld, unsham, spawn}
use Rattle.m5_cps.specs.Values.{Value, enter, Site, unit_value}
use Rattle.m5_cps.specs.Units.{leaf_units}
use Rattle.m5_cps.specs.Made.{made_by_one, made_by_two, one_units, two_units}
use Rattle.m5_cps.specs.Deeds.{Ran, taking_some, stops_full, constant_value, did, opened_held, opened_sham, performed}
use Rattle.m5_cps.specs.Slots.{Slots, Allowed}
use Rattle.m5_cps.specs.Fits.{part_mode, StraightFits}
use Rattle.m5_cps_typing.specs.States.{at_site, Holds, SlotsFit, Stands, ClosureTyping, ValueFits, ThreadFits, SiteFits, RanFits}
use Rattle.m5_cps_typing.proofs.Worlds.{ClosureLaws, stands_at, real_stays, Env, needed, needed_here}
use Rattle.m5_cps_typing.proofs.Shapes.{shape}
use Rattle.m5_cps_typing.proofs.Deeds.{GoesOn, did_fits, stop_fits}
use Rattle.m5_cps_typing.proofs.Made.{one_made, two_made}

-- what a block makes for its own world is for the site's
mode_at : (u b : World) (m : Mode) → Stands u b → Allowed m b → at_site u (world_of m) ≡ u
mode_at u b (only v) st a = ap (at_site u) a ∙ stands_at u b st
mode_at u b everywhere st a = refl

not_here : (F : Setting) (f : LeafForm) (A : TypeExpression) → LeafRule F nothing Any f A → leaf_is_value f ≡ true
not_here F (leaf_form.Var x) A d = absurd (cc)
not_here F (leaf_form.Valid x) A d = absurd (cc)
not_here F leaf_form.Here A d = absurd (d.0 refl)
not_here F (leaf_form.Glob f) A d = refl
not_here F (leaf_form.Extern f) A d = refl
not_here F leaf_form.Unit A d = refl
not_here F (leaf_form.Bool f) A d = refl
not_here F (leaf_form.Int f) A d = refl
not_here F (leaf_form.Str f) A d = refl
not_here F (leaf_form.Addr f) A d = refl
not_here F (leaf_form.Nil f) A d = refl
not_here F (leaf_form.CellAt w n) A d = refl

-- at the world where the block runs
typed_at : (F : Setting) (u v : World) (f : LeafForm) (A : TypeExpression) → Typed F nothing v (leaf f) A → Typed F nothing (at_site u v) (leaf f) A
typed_at F u Home f A d = d
typed_at F u Server f A d = d
typed_at F u Panel f A d = d
typed_at F u Any f A d = anywhere F (leaf f) u A d

module _ {C : Type 0} (K : ClosureTyping C) (laws : ClosureLaws K) (F : Setting) (u : World) (site : u ≢ Any) (bare : (w : World) → F.cells w ≡ []) where
  -- a constant's value
  constant_at : (L : CellTypes) (v : World) (f : LeafForm) (A : TypeExpression) → LeafRule F nothing v f A → (v ≡ u) ⊎ (leaf_is_value f ≡ true) → ValueFits K F L (constant_value u f) v (of A)
  constant_at L v (leaf_form.Var x) A d i = absurd (cc)
  constant_at L v (leaf_form.Valid x) A d i = absurd (cc)
  constant_at L v leaf_form.Here A d (inl e) = (address u, ap of (d.1 ∙ ap address e), refl, (site, refl))
  constant_at L v leaf_form.Here A d (inr e) = absurd (cc)
  constant_at L v (leaf_form.Glob f) A d i = (A, refl, refl, d)
  constant_at L v (leaf_form.Extern f) A d i = (A, refl, refl, d)
  constant_at L v leaf_form.Unit A d i = (A, refl, refl, d)
  constant_at L v (leaf_form.Bool f) A d i = (A, refl, refl, d)
  constant_at L v (leaf_form.Int f) A d i = (A, refl, refl, d)
  constant_at L v (leaf_form.Str f) A d i = (A, refl, refl, d)
  constant_at L v (leaf_form.Addr f) A d i = (A, refl, refl, d)
  constant_at L v (leaf_form.Nil f) A d i = (A, refl, refl, d)
  constant_at L v (leaf_form.CellAt w n) A d i = let q : type_at [] n ≡ Some d.0 = subst (λ l. type_at l n ≡ Some d.0) (bare w) d.3 in absurd (cc)

  constant_holds : (L : CellTypes) (b : World) (m : Mode) (f : LeafForm) (A : TypeExpression) → Stands u b → Allowed m b → Typed F nothing (world_of m) (leaf f) A → Holds (ValueFits K F L (constant_value u f)) u m (of A)
  constant_holds L b (only v) f A st a d = constant_at L (at_site u v) f A (typed_at F u v f A d).0 (inl (mode_at u b (only v) st a))
  constant_holds L b everywhere f A st a d = λ v r. constant_at L v f A (anywhere F (leaf f) v A d).0 (inr (not_here F f A d.0))

  takes_fit : (L : CellTypes) (c : ℕ) (s : Site C) (go_on : Site C → Ran C) → SiteFits K F L u s → ((t : Site C) → SiteFits K F L u t → RanFits K F L u (go_on t)) → RanFits K F L u (taking_some c s go_on)
  takes_fit L zero s go_on h k = k s h
  takes_fit L (suc c) s go_on h k = k (record s { units = s.units + suc c }) h

  -- a straight form runs well, where what goes on with its value does
  abbrev pub StraightRuns : Straight → Type 1
  StraightRuns f = (L : CellTypes) (b : World) (S : Slots) (ρ : ℕ → Value C) (s : Site C) (Next : Mode → SlotType → Type 0) (go_on : Site C → Value C → Ran C) → Stands u b → StraightFits F b S f Next → SlotsFit (Env K laws F L ρ) u S → SiteFits K F L u s →
      ((m : Mode) (T : SlotType) → Next m T → GoesOn K laws F u L m T go_on) → RanFits K F L u (performed u f ρ s go_on)

  spawn_runs : (x : ℕ) → StraightRuns (spawn x)
  spawn_runs x L b S ρ s Next go_on st d h t k = full (nat_le 4096 (suc (length s.threads)))
    where
      full : (q : Bool) → RanFits K F L u (if q then stops_full s else go_on (record s { threads = s.threads ++ enter (ρ x) unit_value ∷ [] }) unit_value)
      full true = stop_fits K laws F u L s t
      full false = k everywhere (of unit) d.1 L (record s { threads = s.threads ++ enter (ρ x) unit_value ∷ [] }) unit_value (own-self u L)
          (each-append (ThreadFits K F L u) s.threads (enter (ρ x) unit_value ∷ []) t.0 ((of unit, needed_here K laws F L ρ u b S x (takes (of unit)) site st h d.0, (unit, refl, refl, refl)), tt), t.1, t.2)
          (λ v r. (unit, refl, refl, refl))

  pub performed_fits : (f : Straight) → StraightRuns f
  performed_fits (constant f) L b S ρ s Next go_on st d h t k =
      takes_fit L (leaf_units f) s (λ s1. go_on s1 (constant_value u f)) t
      (λ s1 t1. k d.0 (of d.1) d.4 L s1 (constant_value u f) (own-self u L) t1 (constant_holds L b d.0 f d.1 st d.2 d.3))
  performed_fits (one f x) L b S ρ s Next go_on st d h t k =
      let T = of (unary_rule f (world_of d.0) d.1).whole in
      takes_fit L (one_units f (made_by_one u f (ρ x))) s (λ s1. did u s1 (made_by_one u f (ρ x)) go_on) t
      (λ s1 t1. did_fits K laws F u L d.0 T (made_by_one u f (ρ x)) s1 go_on
      (one_made K laws F L u site d.0 f d.1 (ρ x) (mode_at u b d.0 st d.2) d.3 d.5 (needed K laws F L ρ u S x (part_mode f d.0) (of (unary_rule f (world_of d.0) d.1).part) site h d.4)) t1
      (k d.0 T d.6))
  performed_fits (two f x y) L b S ρ s Next go_on st d h t k =
      let T = of (binary_rule f (world_of d.0) d.1).whole in
      takes_fit L (two_units f (made_by_two u f (ρ x) (ρ y))) s (λ s1. did u s1 (made_by_two u f (ρ x) (ρ y)) go_on) t
      (λ s1 t1. did_fits K laws F u L d.0 T (made_by_two u f (ρ x) (ρ y)) s1 go_on
      (two_made K laws F L u site d.0 f d.1 (ρ x) (ρ y) (mode_at u b d.0 st d.2) d.3 (needed K laws F L ρ u S x d.0 (of (binary_rule f (world_of d.0) d.1).first) site h d.4) (needed K laws F L ρ u S y d.0 (of (binary_rule f (world_of d.0) d.1).second) site h d.5)) t1
      (k d.0 T d.6))
  performed_fits (unheld x) L b S ρ s Next go_on st d h t k =
      let q = shape K laws F L u (ρ x) (at d.0 d.1) (needed_here K laws F L ρ u b S x (of (at d.0 d.1)) site st h d.3) in
      subst (λ y. RanFits K F L u (opened_held y (go_on s))) (sym q.1)
      (k (only d.1) (of d.0) d.4 L s q.0 (own-self u L) t (subst (λ w. ValueFits K F L q.0 w (of d.0)) (sym (real_stays u d.1 d.2)) q.3))
  performed_fits (unsham x) L b S ρ s Next go_on st d h t k =
      let q = shape K laws F L u (ρ x) (sham d.0) (needed_here K laws F L ρ u b S x (of (sham d.0)) site st h d.1) in
      subst (λ y. RanFits K F L u (opened_sham y (go_on s))) (sym q.1) (k everywhere (of d.0) d.2 L s q.0 (own-self u L) t q.2)
  performed_fits (spawn x) L b S ρ s Next go_on st d h t k = spawn_runs x L b S ρ s Next go_on st d h t k
