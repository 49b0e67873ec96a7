-- Values that come back, objects that are made, and nodes without parts.
use Rattle.std.proofs.Common.{◌≡◌, ℕ, zero, suc, ◌+◌, ◌*◌, ◌≤◌, inl, inr, List, [], ◌∷◌, length, Option, Some, None, refl, sym, ap, subst, ⊎_elim, arith}
use Rattle.m5_terms.specs.Machine.{goes}
use Rattle.m5_terms.specs.Expression.{Expression, leaf, unary, binary}
use Rattle.m5_terms.specs.Worlds.{IsSiteWorld}
use Rattle.m5_terms.specs.declared.types.World.{World}
use Rattle.m5_terms.specs.declared.types.World.TheVariants.{Any}
use Rattle.m5_terms.specs.declared.thread.Frame.{Frame}
use Rattle.m5_terms.specs.declared.thread.Frame.TheVariants as frame
use Rattle.m5_terms.specs.declared.thread.Focus.{Focus}
use Rattle.m5_terms.specs.declared.thread.Focus.TheVariants.{Eval, Returned}
use Rattle.m5_terms.specs.declared.form.LeafForm.{LeafForm}
use Rattle.m5_terms.specs.declared.form.LeafForm.TheVariants as leaf_form
use Rattle.m5_terms.specs.declared.form.UnaryForm.TheVariants as unary_form
use Rattle.m5_terms.specs.declared.form.BinaryForm.TheVariants as binary_form
use Rattle.m5_meaning.specs.Site.{Program}
use Rattle.m5_meaning.specs.Site as meaning
use Rattle.m5_meaning.specs.Step.{step_weight, thread_of, outcome}
use Rattle.m5_meaning.specs.Step as meaning_step
use Rattle.m5_cps.specs.Entries.{Entry, by_value, by_call}
use Rattle.m5_cps.specs.Blocks.{Code, closure}
use Rattle.m5_cps.specs.Values.{Wrap, Join, atom, wrap, join, closed, enter, put}
use Rattle.m5_cps.specs.Values as value
use Rattle.m5_cps.specs.Units.{leaf_units, closure_units}
use Rattle.m5_terms.specs.Size.{text_size}
use Rattle.m5_cps.specs.Deeds.{Ran, taking, taking_some}
use Rattle.m5_cps.specs.Captured.{Closure, over, Value, Thread, Site, captured}
use Rattle.m5_cps.specs.Running.{run}
use Rattle.m5_cps_convert.specs.Continuations.{variable_code}
use Rattle.m5_cps_convert.specs.Closing.{value_or}
use Rattle.m5_cps_convert.specs.Statics.{Static, STop, STail, SBack, SHome, SFirst, SSecond, SArgument, kont}
use Rattle.m5_cps_convert.specs.Slots.{SVal, FitsAt, Frames}
use Rattle.m5_cps_convert.specs.Narrow.{Narrow}
use Rattle.m5_cps_convert.specs.Reading.{setting, wrapped, joined, IsAtom, Reads}
use Rattle.m5_cps_convert.specs.Threads.{ReadsThreads, ReadsValues}
use Rattle.m5_cps_convert.proofs.Slots.{In, frames_on, put_grows, put_has}
use Rattle.m5_cps_convert.proofs.Meets.{W, rest, timed, src, ticked, Tied, tied_by, step_pays, take_more, behind, lent, Weighs, Meets, back, bonus, Resumes, Evals}

pub threads_long : (P : Program) (u : World) (ts : List Thread) (ss : List meaning.Thread) → ReadsThreads P u ts ss → length ts ≡ length ss
threads_long P u [] [] h = refl
threads_long P u [] (s ∷ ss) h = absurd h
threads_long P u (t ∷ ts) [] h = absurd h
threads_long P u (t ∷ ts) (s ∷ ss) h = ap suc (threads_long P u ts ss h.1)

pub values_long : (P : Program) (cs : List Value) (vs : List Expression) → ReadsValues P cs vs → length cs ≡ length vs
values_long P [] [] h = refl
values_long P [] (v ∷ vs) h = absurd h
values_long P (c ∷ cs) [] h = absurd h
values_long P (c ∷ cs) (v ∷ vs) h = ap suc (values_long P cs vs h.1)

module _ (P : Program) (u : World) (site : IsSiteWorld u) where
  abbrev pub Goes : meaning.Site → meaning.Site → Type 0
  Goes s t = meaning_step.site_next P u s ≡ goes t

  -- an object is made before the step that pays for it
  pub object_made : (b d m : ℕ) (c : ℕ) (t : Site) (s : meaning.Site) (fs : List Frame) (f : Focus) (go_on : Site → (Ran Closure)) → Tied P u b d t s → Weighs P (meaning_step.site_next P u (src s fs f)) (src s fs f) m → d + c ≤ 4 * step_weight P m → ((t1 : Site) → Tied P u b (d + c) t1 s → Meets P u (go_on t1) (src s fs f)) → Meets P u (taking c t go_on) (src s fs f)
  object_made b d m c t s fs f go_on h wg le k = (record { steps = 0; at = src s fs f; comes = refl; point = record { made = m; weighs = wg; units = omega (arith, h.units, le); threads = ap suc (threads_long P u t.threads s.threads h.threads); cells = values_long P t.cells s.cells h.cells; handlers = values_long P t.handlers s.handlers h.handlers } }, k (record t { units = t.units + c }) (take_more c h))

  pub objects_made : (b m : ℕ) (c : ℕ) (t : Site) (s : meaning.Site) (fs : List Frame) (f : Focus) (go_on : Site → (Ran Closure)) → Tied P u b 0 t s → Weighs P (meaning_step.site_next P u (src s fs f)) (src s fs f) m → c ≤ 4 * step_weight P m → ((t1 : Site) → Tied P u b c t1 s → Meets P u (go_on t1) (src s fs f)) → Meets P u (taking_some c t go_on) (src s fs f)
  objects_made b m zero t s fs f go_on h wg le k = k t h
  objects_made b m (suc c) t s fs f go_on h wg le k = object_made b 0 m (suc c) t s fs f go_on h wg (omega (arith, le)) (λ t1 h1. k t1 (lent (suc c) h1 (omega arith)))

  -- what is evaluated comes back, in a step or more
  abbrev pub Returns : Expression → Type 0
  Returns v = (r : (Ran Closure)) (s : meaning.Site) (fs : List Frame) (w : World) → ((i j : ℕ) → suc s.steps ≤ i → s.weight ≤ j → Meets P u r (src (timed s i j) fs (Returned w v))) → Meets P u r (src s fs (Eval w v))

  atom_step : (f : LeafForm) → IsAtom f → (s : meaning.Site) (fs : List Frame) (w : World) → Goes (src s fs (Eval w (leaf f))) (src (ticked P (text_size f) s) fs (Returned w (leaf f)))
  atom_step (leaf_form.Var x) h s fs w = absurd h
  atom_step (leaf_form.Valid x) h s fs w = absurd h
  atom_step (leaf_form.Extern p) h s fs w = refl
  atom_step leaf_form.Here h s fs w = absurd h
  atom_step (leaf_form.Glob f) h s fs w = refl
  atom_step leaf_form.Unit h s fs w = refl
  atom_step (leaf_form.Bool b) h s fs w = refl
  atom_step (leaf_form.Int n) h s fs w = refl
  atom_step (leaf_form.Str t) h s fs w = refl
  atom_step (leaf_form.Addr v) h s fs w = refl
  atom_step (leaf_form.Nil A) h s fs w = refl
  atom_step (leaf_form.CellAt v n) h s fs w = refl

  wrapped_back : (f : Wrap) (x : Expression) → Returns x → Returns (wrapped f x)
  wrapped_back (value.left T) x h r s fs w k = back P u r _ (src (ticked P 0 s) (frame.Part w (unary (unary_form.Inl T) x) 0 ∷ fs) (Eval w x)) refl (h r (ticked P 0 s) _ w (λ i j p q. back P u r _ (src (ticked P 0 (timed s i j)) fs (Returned w (unary (unary_form.Inl T) x))) refl (k _ _ (omega (arith, p)) (omega (arith, q)))))
  wrapped_back (value.right T) x h r s fs w k = back P u r _ (src (ticked P 0 s) (frame.Part w (unary (unary_form.Inr T) x) 0 ∷ fs) (Eval w x)) refl (h r (ticked P 0 s) _ w (λ i j p q. back P u r _ (src (ticked P 0 (timed s i j)) fs (Returned w (unary (unary_form.Inr T) x))) refl (k _ _ (omega (arith, p)) (omega (arith, q)))))
  wrapped_back (value.held v) x h r s fs w k = back P u r _ (src (ticked P 0 s) fs (Returned w (unary (unary_form.Held v) x))) refl (k _ _ (omega arith) (omega arith))
  wrapped_back value.sham x h r s fs w k = back P u r _ (src (ticked P 0 s) (frame.Part w (unary unary_form.Sham x) 0 ∷ fs) (Eval Any x)) refl (h r (ticked P 0 s) _ Any (λ i j p q. back P u r _ (src (ticked P 0 (timed s i j)) fs (Returned w (unary unary_form.Sham x))) refl (k _ _ (omega (arith, p)) (omega (arith, q)))))

  joined_back : (f : Join) (x y : Expression) → Returns x → Returns y → Returns (joined f x y)
  joined_back value.pair x y h g r s fs w k = back P u r _ (src (ticked P 0 s) (frame.Part w (binary binary_form.Pair x y) 0 ∷ fs) (Eval w x)) refl (h r (ticked P 0 s) _ w (λ i j p q. back P u r _ (src (ticked P 0 (timed s i j)) (frame.Part w (binary binary_form.Pair x y) 1 ∷ fs) (Eval w y)) refl (g r (ticked P 0 (timed s i j)) _ w (λ i1 j1 p1 q1. back P u r _ (src (ticked P 0 (timed s i1 j1)) fs (Returned w (binary binary_form.Pair x y))) refl (k _ _ (omega (arith, p, p1)) (omega (arith, q, q1)))))))
  joined_back value.cons x y h g r s fs w k = back P u r _ (src (ticked P 0 s) (frame.Part w (binary binary_form.Cons x y) 0 ∷ fs) (Eval w x)) refl (h r (ticked P 0 s) _ w (λ i j p q. back P u r _ (src (ticked P 0 (timed s i j)) (frame.Part w (binary binary_form.Cons x y) 1 ∷ fs) (Eval w y)) refl (g r (ticked P 0 (timed s i j)) _ w (λ i1 j1 p1 q1. back P u r _ (src (ticked P 0 (timed s i1 j1)) fs (Returned w (binary binary_form.Cons x y))) refl (k _ _ (omega (arith, p, p1)) (omega (arith, q, q1)))))))

  -- a value that was put in is evaluated to itself
  pub value_back : (c : Value) (v : Expression) → Reads P c (SVal v) → Returns v
  value_back (atom f) v e = subst Returns (sym e.0) (λ r s fs w k. back P u r _ (src (ticked P (text_size f) s) fs (Returned w (leaf f))) (atom_step f e.1 s fs w) (k _ _ (omega arith) (omega arith)))
  value_back (wrap f a) v e = subst Returns (sym e.1) (wrapped_back f e.0 (value_back a e.0 e.2))
  value_back (join f a b) v e = subst Returns (sym e.2) (joined_back f e.0 e.1 (value_back a e.0 e.3) (value_back b e.1 e.4))
  value_back (closed (over (by_value mo ty) n c) ρ) v e = absurd e
  value_back (closed (over (by_call mo ty re) n c) ρ) v (inl e) = subst Returns (sym e.is) (λ r s fs w k. back P u r _ (src (ticked P 0 s) fs (Returned w _)) refl (k _ _ (omega arith) (omega arith)))
  value_back (closed (over (by_call mo ty re) n c) ρ) v (inr e) = subst Returns (sym e.is) (λ r s fs w k. back P u r _ (src (ticked P 0 s) fs (Returned w _)) refl (k _ _ (omega arith) (omega arith)))

  pub bonus_least : (K : Static) → bonus K ≤ 1
  bonus_least STop = omega arith
  bonus_least (STail k) = omega arith
  bonus_least (SBack h k) = omega arith
  bonus_least (SHome w k) = omega arith
  bonus_least (SFirst Γ e K) = omega arith
  bonus_least (SSecond Γ e x K) = omega arith
  bonus_least (SArgument Γ p b K) = omega arith

  -- a value fills the next slot
  pub fills : (K : Static) → Resumes P u K → (c : Value) (v : Expression) (t : Site) (s : meaning.Site) (n : ℕ) (ρ : ℕ → Value) (fs : List Frame) (w : World) → Reads P c (SVal v) → Frames u (In P ρ) n K fs → Tied P u 0 0 t s → Narrow (W P) (rest P K n (suc n)) (suc n) → Meets P u (run u (rest P K n (suc n)) (suc n) (put n c ρ) t) (src s fs (Returned w v))
  fills K rs c v t s n ρ fs w r fr h nr = rs.by t s (suc n) (put n c ρ) fs w n v (frames_on u K fs (put_grows P ρ n c) fr) (put_has P ρ n c (SVal v) r) (behind 0 (bonus K) h (omega arith)) nr

  variable_evals : (K : Static) → Resumes P u K → (t : Site) (s : meaning.Site) (n : ℕ) (ρ : ℕ → Value) (fs : List Frame) (w : World) (f : LeafForm) → Frames u (In P ρ) n K fs → Tied P u 1 0 t s → (l : Option ℕ) (v : Option Expression) → FitsAt (In P ρ) n l v → Narrow (W P) (variable_code l n (kont (setting P) K)) n → Meets P u (run u (variable_code l n (kont (setting P) K)) n ρ t) (src s fs (Eval w (value_or v f)))
  variable_evals K rs t s n ρ fs w f fr h None v e nr = subst (λ o. Meets P u (run u (variable_code None n (kont (setting P) K)) n ρ t) (src s fs (Eval w (value_or o f)))) (sym e) (back P u _ _ (src (ticked P 0 s) fs (Returned w (leaf leaf_form.Unit))) refl (fills K rs (atom leaf_form.Unit) (leaf leaf_form.Unit) t (ticked P 0 s) n ρ fs w (refl, record {}) fr (step_pays 0 h (omega arith)) nr))
  variable_evals K rs t s n ρ fs w f fr h (Some l) None e nr = absurd e
  variable_evals K rs t s n ρ fs w f fr h (Some l) (Some v) e nr = value_back (ρ l) v e.1 _ s fs w (λ i j p q. rs.by t (timed s i j) n ρ fs w l v fr e (behind 0 (bonus K) (tied_by 0 0 t.units i j h (omega (arith, h.entered, p)) (omega (arith, h.units, q))) (omega arith)) nr)

  -- a constant is made
  constant_evals : (f : LeafForm) → IsAtom f → leaf_units f ≤ 4 * step_weight P (text_size f) → (K : Static) → Resumes P u K → (t : Site) (s : meaning.Site) (n : ℕ) (ρ : ℕ → Value) (fs : List Frame) (w : World) → Frames u (In P ρ) n K fs → Tied P u 1 0 t s → Narrow (W P) (rest P K n (suc n)) (suc n) → Meets P u (taking_some (leaf_units f) t (run u (rest P K n (suc n)) (suc n) (put n (atom f) ρ))) (src s fs (Eval w (leaf f)))
  constant_evals f a le K rs t s n ρ fs w fr h nr =
      let step : Goes (src s fs (Eval w (leaf f))) (src (ticked P (text_size f) s) fs (Returned w (leaf f))) = atom_step f a s fs w in
      objects_made 1 (text_size f) (leaf_units f) t s fs (Eval w (leaf f)) _ h (subst (λ x. Weighs P x (src s fs (Eval w (leaf f))) (text_size f)) (sym step) (omega arith)) le (λ t1 h1. back P u _ _ (src (ticked P (text_size f) s) fs (Returned w (leaf f))) step (fills K rs (atom f) (leaf f) t1 (ticked P (text_size f) s) n ρ fs w (refl, a) fr (step_pays (text_size f) h1 le) nr))

  -- a closure that is a value
  pub closure_evals : (y : Entry) (b : Code) (v : Expression) (K : Static) → Resumes P u K → (t : Site) (s : meaning.Site) (n : ℕ) (ρ : ℕ → Value) (fs : List Frame) (w : World) → Goes (src s fs (Eval w v)) (src (ticked P 0 s) fs (Returned w v)) → Reads P (closed (over y n b) ρ) (SVal v) → Frames u (In P ρ) n K fs → Tied P u 1 0 t s → Narrow (W P) (closure y b (rest P K n (suc n))) n → Meets P u (run u (closure y b (rest P K n (suc n))) n ρ t) (src s fs (Eval w v))
  closure_evals y b v K rs t s n ρ fs w step r fr h nr =
      object_made 1 0 0 (closure_units (captured n b)) t s fs (Eval w v) _ h (subst (λ x. Weighs P x (src s fs (Eval w v)) 0) (sym step) (omega arith)) (omega (arith, nr.0)) (λ t1 h1. back P u _ _ (src (ticked P 0 s) fs (Returned w v)) step (fills K rs (closed (over y n b) ρ) v t1 (ticked P 0 s) n ρ fs w r fr (step_pays 0 h1 (omega (arith, nr.0))) nr.2))

  here_evals : (K : Static) → Resumes P u K → (t : Site) (s : meaning.Site) (n : ℕ) (ρ : ℕ → Value) (fs : List Frame) (w : World) → w ≡ u → Frames u (In P ρ) n K fs → Tied P u 1 0 t s → Narrow (W P) (rest P K n (suc n)) (suc n) → Meets P u (run u (rest P K n (suc n)) (suc n) (put n (atom (leaf_form.Addr u)) ρ) t) (src s fs (Eval w (leaf leaf_form.Here)))
  here_evals K rs t s n ρ fs w e fr h nr = back P u _ _ (src (ticked P 0 s) fs (Returned w (leaf (leaf_form.Addr w)))) refl (fills K rs (atom (leaf_form.Addr u)) (leaf (leaf_form.Addr w)) t (ticked P 0 s) n ρ fs w (ap (λ x. leaf (leaf_form.Addr x)) e, site) fr (step_pays 0 h (omega arith)) nr)

  pub leaf_evals : (f : LeafForm) → Evals P u (leaf f)
  leaf_evals (leaf_form.Var x) = record { by = λ K rs t s n ρ Γ γ fs w p st f fr h nr. variable_evals K rs t s n ρ fs w (leaf_form.Var x) fr h (Γ.slots x) (γ x) (f x) nr }
  leaf_evals (leaf_form.Valid x) = record { by = λ K rs t s n ρ Γ γ fs w p st f fr h nr. variable_evals K rs t s n ρ fs w (leaf_form.Valid x) fr h (Γ.slots x) (γ x) (f x) nr }
  leaf_evals leaf_form.Unit = record { by = λ K rs t s n ρ Γ γ fs w p st f fr h nr. constant_evals leaf_form.Unit (record {}) (omega arith) K rs t s n ρ fs w fr h nr }
  leaf_evals (leaf_form.Bool b) = record { by = λ K rs t s n ρ Γ γ fs w p st f fr h nr. constant_evals (leaf_form.Bool b) (record {}) (omega arith) K rs t s n ρ fs w fr h nr }
  leaf_evals (leaf_form.Int b) = record { by = λ K rs t s n ρ Γ γ fs w p st f fr h nr. constant_evals (leaf_form.Int b) (record {}) (omega arith) K rs t s n ρ fs w fr h nr }
  leaf_evals (leaf_form.Str b) = record { by = λ K rs t s n ρ Γ γ fs w p st f fr h nr. constant_evals (leaf_form.Str b) (record {}) (omega arith) K rs t s n ρ fs w fr h nr }
  leaf_evals (leaf_form.Nil A) = record { by = λ K rs t s n ρ Γ γ fs w p st f fr h nr. constant_evals (leaf_form.Nil A) (record {}) (omega arith) K rs t s n ρ fs w fr h nr }
  leaf_evals (leaf_form.Glob g) = record { by = λ K rs t s n ρ Γ γ fs w p st f fr h nr. constant_evals (leaf_form.Glob g) (record {}) (omega arith) K rs t s n ρ fs w fr h nr }
  leaf_evals (leaf_form.Addr v) = record { by = λ K rs t s n ρ Γ γ fs w p st f fr h nr. constant_evals (leaf_form.Addr v) p (omega arith) K rs t s n ρ fs w fr h nr }
  leaf_evals (leaf_form.CellAt v b) = record { by = λ K rs t s n ρ Γ γ fs w p st f fr h nr. absurd p }
  leaf_evals leaf_form.Here = record { by = λ K rs t s n ρ Γ γ fs w p st f fr h nr. here_evals K rs t s n ρ fs w (⊎_elim (λ e. e) (λ e. absurd (cc)) st) fr h nr }
  leaf_evals (leaf_form.Extern q) = record { by = λ K rs t s n ρ Γ γ fs w p st f fr h nr. constant_evals (leaf_form.Extern q) (record {}) (omega arith) K rs t s n ρ fs w fr h nr }
