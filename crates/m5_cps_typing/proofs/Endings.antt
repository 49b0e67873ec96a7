-- How a typed block ends: a site goes on typed, or asks a typed ask.
use Rattle.std.proofs.Common.{◌≡◌, ◌≢◌, inl, inr, ℕ, ◌+◌, ◌∷◌, refl, sym, subst, ◌∙◌}
use Rattle.m5_terms.specs.TypeExpression.{TypeExpression, address, function}
use Rattle.m5_terms.specs.Primitives.{primitive_world}
use Rattle.m5_terms.specs.Machine.{goes, asks}
use Rattle.m5_terms.specs.declared.ask.AskOf.TheVariants as query
use Rattle.m5_terms.specs.declared.types.World.{World}
use Rattle.m5_terms.specs.declared.types.World.TheVariants.{Any}
use Rattle.m5_terms.specs.declared.types.Primitive.{Primitive}
use Rattle.m5_terms.specs.declared.types.Primitive.TheVariants as primitive
use Rattle.m5_terms.specs.declared.form.LeafForm.TheVariants as leaf_form
use Rattle.m5_typing.specs.Context.{Setting, CellTypes}
use Rattle.m5_cps.specs.Entries.{SlotType, of, takes, only}
use Rattle.m5_cps.specs.Blocks.{Straight, constant, one, two, unheld, unsham, spawn, if_true, if_left, if_nil, if_here, Ending, go, ask, Code, straight, closure, test, Block, Blocks}
use Rattle.m5_cps.specs.Blocks as block
use Rattle.m5_cps.specs.Values.{Value, atom, wrap, join, closed, enter, call, thread, Site}
use Rattle.m5_cps.specs.Units.{array_units}
use Rattle.m5_cps.specs.Deeds.{taking}
use Rattle.m5_cps.specs.Asks.{after_sent, sent, goes_on, calls, ended}
use Rattle.m5_cps.specs.Slots.{Slots, Needs}
use Rattle.m5_cps.specs.Fits.{EndingFits}
use Rattle.m5_cps_typing.specs.States.{SlotsFit, Stands, ClosureTyping, ValueFits, SiteFits, RanFits}
use Rattle.m5_cps_typing.proofs.Worlds.{ClosureLaws, real_stays, Env, needed, needed_here}
use Rattle.m5_cps_typing.proofs.Shapes.{shape}
use Rattle.m5_cps_typing.proofs.Deeds.{at_once, told_fits}
use Rattle.m5_cps_typing.proofs.Asked.{asked_fits}

pub stands_real : (u b : World) → Stands u b → b ≢ Any → b ≡ u
stands_real u b (inl e) r = e
stands_real u b (inr e) r = absurd (r e)

at_primitive : (u : World) (p : Primitive) (b : World) → Stands u b → b ≡ primitive_world p → u ≡ primitive_world p
at_primitive u p b (inl e) q = sym e ∙ q
at_primitive u primitive.Say b (inr e) q = absurd (cc)
at_primitive u primitive.SetText b (inr e) q = absurd (cc)
at_primitive u primitive.GetText b (inr e) q = absurd (cc)
at_primitive u primitive.On b (inr e) q = absurd (cc)
at_primitive u primitive.Read b (inr e) q = absurd (cc)
at_primitive u primitive.Write b (inr e) q = absurd (cc)
at_primitive u primitive.Watch b (inr e) q = absurd (cc)
at_primitive u primitive.Show b (inr e) q = absurd (cc)

module _ {C : Type 0} (K : ClosureTyping C) (laws : ClosureLaws K) (F : Setting) (u : World) (site : u ≢ Any) where
  -- a call makes its array, or asks
  calls_fit : (L : CellTypes) (f x k : Value C) (A B : TypeExpression) (s : Site C) → ValueFits K F L f u (of (function A B)) → ValueFits K F L x u (of A) → ValueFits K F L k u (takes (of B)) → SiteFits K F L u s → RanFits K F L u (calls f x k s)
  calls_fit L f x k A B s df dx dk t = by f df
    where
      later : (f : Value C) → ValueFits K F L f u (of (function A B)) → RanFits K F L u (taking array_units s (λ s1. goes_on s1 (call f x k)))
      later f df = at_once K laws F u L (goes (record s { threads = call f x k ∷ s.threads; units = s.units + 3 })) (((A, B, df, dx, dk), t.0), t.1, t.2)

      by : (f : Value C) → ValueFits K F L f u (of (function A B)) → RanFits K F L u (calls f x k s)
      by (atom (leaf_form.Extern p)) d = asked_fits K laws F L u p A B s k x d.3.0 (sym d.3.1 ∙ of_inj d.0 (function A B) (sym d.1)) dx dk t
        where
          of_inj : (A B : TypeExpression) → of A ≡ of B → A ≡ B
          of_inj A B e = cc
      by (atom (leaf_form.Var y)) d = later (atom (leaf_form.Var y)) d
      by (atom (leaf_form.Valid y)) d = later (atom (leaf_form.Valid y)) d
      by (atom (leaf_form.Glob y)) d = later (atom (leaf_form.Glob y)) d
      by (atom leaf_form.Unit) d = later (atom leaf_form.Unit) d
      by (atom (leaf_form.Bool y)) d = later (atom (leaf_form.Bool y)) d
      by (atom (leaf_form.Int y)) d = later (atom (leaf_form.Int y)) d
      by (atom (leaf_form.Str y)) d = later (atom (leaf_form.Str y)) d
      by (atom (leaf_form.Addr y)) d = later (atom (leaf_form.Addr y)) d
      by (atom leaf_form.Here) d = later (atom leaf_form.Here) d
      by (atom (leaf_form.Nil y)) d = later (atom (leaf_form.Nil y)) d
      by (atom (leaf_form.CellAt y z)) d = later (atom (leaf_form.CellAt y z)) d
      by (wrap y a) d = later (wrap y a) d
      by (join y a b) d = later (join y a b) d
      by (closed c ρ) d = later (closed c ρ) d

  abbrev pub EndingRuns : Ending → Type 0
  EndingRuns e = (L : CellTypes) (b : World) (S : Slots) (ρ : ℕ → Value C) (s : Site C) → Stands u b → EndingFits b S e → SlotsFit (Env K laws F L ρ) u S → SiteFits K F L u s → RanFits K F L u (ended e ρ s)

  send_runs : (a k x : ℕ) → EndingRuns (block.send a k x)
  send_runs a k x L b S ρ s st d h t =
      let q = shape K laws F L u (ρ a) (address d.0) (needed_here K laws F L ρ u b S a (of (address d.0)) site st h d.5) in
      let away : d.0 ≢ u = (λ e. d.4 (e ∙ sym (stands_real u b st d.3))) in
      let to = (λ (y : ℕ) (T : SlotType) (z : Needs S y (only d.0) T). subst (λ w. ValueFits K F L (ρ y) w T) (real_stays u d.0 d.2) (needed K laws F L ρ u S y (only d.0) T site h z)) in
      subst (λ y. RanFits K F L u (sent s y (enter (ρ k) (ρ x)))) (sym q.1)
      (at_once K laws F u L (asks (query.Send d.0 (thread (enter (ρ k) (ρ x)))) (after_sent s)) ((away, d.2, (d.1, to k (takes d.1) d.6, to x d.1 d.7)), told_fits K laws F u L (query.Send d.0 (thread (enter (ρ k) (ρ x)))) (after_sent s) s tt refl t))

  pub ended_fits : (e : Ending) → EndingRuns e
  ended_fits (go k x) L b S ρ s st d h t =
      at_once K laws F u L (goes (record s { threads = enter (ρ k) (ρ x) ∷ s.threads })) (((d.0, needed_here K laws F L ρ u b S k (takes d.0) site st h d.1, needed_here K laws F L ρ u b S x d.0 site st h d.2), t.0), t.1, t.2)
  ended_fits (block.call f x k) L b S ρ s st d h t =
      calls_fit L (ρ f) (ρ x) (ρ k) d.0 d.1 s (needed_here K laws F L ρ u b S f (of (function d.0 d.1)) site st h d.2) (needed_here K laws F L ρ u b S x (of d.0) site st h d.3) (needed_here K laws F L ρ u b S k (takes (of d.1)) site st h d.4) t
  ended_fits (ask p x k) L b S ρ s st d h t =
      asked_fits K laws F L u p d.1.0 d.1.1 s (ρ k) (ρ x) (at_primitive u p b st d.0) d.1.2 (needed_here K laws F L ρ u b S x (of d.1.0) site st h d.1.3) (needed_here K laws F L ρ u b S k (takes (of d.1.1)) site st h d.1.4) t
  ended_fits (block.send a k x) L b S ρ s st d h t = send_runs a k x L b S ρ s st d h t
  ended_fits block.done L b S ρ s st d h t = at_once K laws F u L (goes s) t
