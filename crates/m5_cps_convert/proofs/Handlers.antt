-- A handler is called with an event's text.
use Rattle.std.proofs.Common.{◌≡◌, ℕ, zero, suc, List, [], ◌∷◌, map, Option, Some, None, refl, sym, ap, subst, arith, slice_get}
use Rattle.m5_terms.specs.Expression.{Expression, leaf, unary, binary}
use Rattle.m5_terms.specs.Worlds.{IsSiteWorld}
use Rattle.m5_terms.specs.Substitution.{substituted}
use Rattle.m5_terms.specs.declared.types.World.{World}
use Rattle.m5_terms.specs.declared.types.Primitive.{Primitive}
use Rattle.m5_terms.specs.declared.thread.Frame.{Frame}
use Rattle.m5_terms.specs.declared.thread.Frame.TheVariants as frame
use Rattle.m5_terms.specs.declared.thread.Focus.TheVariants.{Eval}
use Rattle.m5_terms.specs.declared.form.LeafForm.TheVariants as leaf_form
use Rattle.m5_terms.specs.declared.form.UnaryForm.TheVariants as unary_form
use Rattle.m5_terms.specs.declared.form.BinaryForm.TheVariants as binary_form
use Rattle.m5_typing.specs.declared.functions.Function.{Function}
use Rattle.m5_meaning.specs.Site.{Program}
use Rattle.m5_meaning.specs.Site as meaning
use Rattle.m5_meaning.specs.Step.{outcome}
use Rattle.m5_meaning.specs.Reduction as reduction
use Rattle.m5_cps.specs.Entries.{by_call}
use Rattle.m5_cps.specs.Values.{atom, closed}
use Rattle.m5_cps.specs.Captured.{over, Value, Site}
use Rattle.m5_cps.specs.Running.{called_by, declared_block, started}
use Rattle.m5_cps_convert.specs.Slots.{SVal, SKont}
use Rattle.m5_cps_convert.specs.Reading.{setting, Reads}
use Rattle.m5_cps_convert.specs.Threads.{IsEntered}
use Rattle.m5_meaning.specs.Reduction.{called, called_function}
use Rattle.m5_cps_convert.specs.Convert.{function_block, program_blocks}
use Rattle.m5_cps_convert.specs.Threads.{Handling}
use Rattle.m5_cps_convert.proofs.Meets.{timed, src, ticked, Tied, tied_by, step_pays, behind, Meets, back, Evals}
use Rattle.m5_cps_convert.proofs.Straight.{value_back}
use Rattle.m5_cps_convert.proofs.Heads.{Head, atoms, fns, recs, head_of}
use Rattle.m5_cps_convert.proofs.Calls.{AsksMeet, Before}
use Rattle.m5_cps_convert.proofs.Entering.{Good, entering, function_entered}

no_block : (P : Program) (xs : List Function) (i : ℕ) → slice_get xs i ≡ None → slice_get (map (function_block (setting P)) xs) i ≡ None
no_block P [] i e = refl
no_block P (x ∷ xs) zero e = absurd (cc)
no_block P (x ∷ xs) (suc i) e = no_block P xs i e

module _ (P : Program) (u : World) (site : IsSiteWorld u) (good : Good P) (evals : (e : Expression) → Evals P u e) (ps : (p : Primitive) → AsksMeet P u site p) where
  module _ (x k : Value) (b v : Expression) (fs : List Frame) (w : World) (rx : Reads P x (SVal v)) (rk : Reads P k (SKont u fs)) (t : Site) (s : meaning.Site) (h : Tied P u 1 0 (entering P u site good evals t) s) where
    put_in : (c : Value) (f body : Expression) → called P f v ≡ reduction.goes_on body → IsEntered c → Reads P c (SVal f) → Meets P u (started u t (called_by (program_blocks P) c x k)) (Before P u site s fs u f b w v)
    put_in c f body q ent r = back P u _ (Before P u site s fs u f b w v) (src (ticked P 0 s) fs (Eval u body)) (ap (outcome P u (Before P u site s fs u f b w v) s.threads fs u) q) (function_entered P u site good evals x k v body fs t (ticked P 0 s) rx rk (behind 0 1 (step_pays 0 h (omega arith)) (omega arith)) c f q ent r)

    declared : (i : ℕ) (o : Option Function) → slice_get P.functions i ≡ o → Reads P (atom (leaf_form.Glob i)) (SVal (leaf (leaf_form.Glob i))) → Meets P u (started u t (called_by (program_blocks P) (atom (leaf_form.Glob i)) x k)) (Before P u site s fs u (leaf (leaf_form.Glob i)) b w v)
    declared i None e r = subst (λ o. Meets P u (started u t (declared_block i x k o)) (Before P u site s fs u (leaf (leaf_form.Glob i)) b w v)) (sym (no_block P P.functions i e)) (record { steps = 0; at = Before P u site s fs u (leaf (leaf_form.Glob i)) b w v; comes = refl; stuck = ap (λ o. outcome P u (Before P u site s fs u (leaf (leaf_form.Glob i)) b w v) s.threads fs u (called_function o v)) e })
    declared i (Some g) e r = put_in (atom (leaf_form.Glob i)) (leaf (leaf_form.Glob i)) _ (ap (λ o. called_function o v) e) tt r

    handler_called : {c : Value} {f : Expression} → Head P c f → Reads P c (SVal f) → Meets P u (started u t (called_by (program_blocks P) c x k)) (Before P u site s fs u f b w v)
    handler_called (fns m A B n c ρ y T e i) r = put_in (closed (over (by_call m A B) n c) ρ) (unary (unary_form.Fn y T) e) (substituted y v e) refl (record {}) r
    handler_called (recs m A B n c ρ g y T R e i) r = put_in (closed (over (by_call m A B) n c) ρ) (unary (unary_form.Rec g y T R) e) (substituted g (unary (unary_form.Rec g y T R) e) (substituted y v e)) refl (record {}) r
    handler_called (atoms (leaf_form.Extern p) i) r = ps p x k b v (entering P u site good evals t) s fs u w rx rk refl 0 (omega arith) h
    handler_called (atoms (leaf_form.Glob i) a) r = declared i (slice_get P.functions i) refl r
    handler_called {c} {f} _ r = record { steps = 0; at = Before P u site s fs u f b w v; comes = refl; stuck = refl }

  pub handled : (f x k : Value) (th : meaning.Thread) (t : Site) (s : meaning.Site) → Handling P u f x k th → Tied P u 1 0 (entering P u site good evals t) s → Meets P u (started u t (called_by (program_blocks P) f x k)) (record s { threads = th ∷ s.threads })
  handled f x k th t s h d =
      let e : Expression = binary binary_form.Call h.handler h.argument in
      subst (λ y. Meets P u (started u t (called_by (program_blocks P) f x k)) (record s { threads = y ∷ s.threads })) (sym h.is)
      (back P u _ (src s [] (Eval u e)) (src (ticked P 0 s) (frame.Part u e 0 ∷ []) (Eval u h.handler)) refl
      (value_back P u site f h.handler h.called _ (ticked P 0 s) (frame.Part u e 0 ∷ []) u (λ i j p q.
      back P u _ _ (src (ticked P 0 (timed s i j)) (frame.Part u e 1 ∷ []) (Eval u h.argument)) refl
      (value_back P u site x h.argument h.text _ (ticked P 0 (timed s i j)) (frame.Part u e 1 ∷ []) u (λ i1 j1 p1 q1.
      handler_called x k h.argument h.argument [] u h.text h.continuation t (timed s i1 j1) (tied_by 1 0 t.units i1 j1 d (omega (arith, d.entered, p, p1)) (omega (arith, d.units, q, q1))) (head_of P f h.handler h.called) h.called)))))
