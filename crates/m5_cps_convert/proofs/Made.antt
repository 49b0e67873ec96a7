-- Straight forms: what they make of values is what the source reduces to, and the step pays for it.
use Rattle.std.proofs.Common.{◌≡◌, ℕ, suc, ◌*◌, ◌≤◌, List, [], ◌∷◌, ◌++◌, length, Option, Some, None, Bool, true, false, refl, sym, ap, ◌∙◌, subst, arith, if◌then◌else◌, nat_le, slice_get, slice_set}
use Rattle.m5_terms.specs.Machine.{goes}
use Rattle.m5_terms.specs.TypeExpression.{TypeExpression}
use Rattle.m5_terms.specs.Expression.{Expression, leaf, unary, binary}
use Rattle.m5_terms.specs.Worlds.{IsSiteWorld}
use Rattle.m5_terms.specs.declared.types.World.{World}
use Rattle.m5_terms.specs.declared.thread.Frame.{Frame}
use Rattle.m5_terms.specs.declared.thread.Frame.TheVariants as frame
use Rattle.m5_terms.specs.declared.thread.Focus.{Focus}
use Rattle.m5_terms.specs.declared.thread.Focus.TheVariants.{Returned}
use Rattle.m5_terms.specs.declared.form.LeafForm.TheVariants as leaf_form
use Rattle.m5_terms.specs.declared.form.UnaryForm.{UnaryForm}
use Rattle.m5_terms.specs.declared.form.BinaryForm.{BinaryForm}
use Rattle.m5_meaning.specs.Site.{Program}
use Rattle.m5_meaning.specs.Site as meaning
use Rattle.m5_meaning.specs.Step.{step_weight, thread_of, outcome}
use Rattle.m5_meaning.specs.Step as meaning_step
use Rattle.m5_meaning.specs.Reduction as reduction
use Rattle.m5_cps.specs.Blocks.{Code, straight, closure, test}
use Rattle.m5_cps.specs.Blocks as block
use Rattle.m5_cps.specs.Values.{atom, put}
use Rattle.m5_cps.specs.Deeds.{Ran, did, did_taking, stops_full, loaded, stored}
use Rattle.m5_cps.specs.Captured.{Closure, Value, Site}
use Rattle.m5_cps.specs.Running.{run}
use Rattle.m5_cps_convert.specs.Scopes.{Scope}
use Rattle.m5_cps_convert.specs.Statics.{Static, SFirst, SSecond, kont}
use Rattle.m5_cps_convert.specs.Slots.{SVal, Frames}
use Rattle.m5_cps_convert.specs.Narrow.{Narrow}
use Rattle.m5_cps_convert.specs.Reading.{setting, Reads}
use Rattle.m5_meaning.specs.Reduction.{Reduced, reduced, reduced_unary, reduced_binary, text_value, unit_value}
use Rattle.m5_cps.specs.Made.{Made, gives, makes_text, makes_cell, loads, stores, fails, made_by_one, made_by_two, one_units, two_units}
use Rattle.m5_cps_convert.specs.Forms.{binary_end}
use Rattle.m5_cps_convert.proofs.Slots.{In}
use Rattle.m5_cps_convert.proofs.Meets.{W, rest, src, ticked, Tied, step_pays, Weighs, Meets, back, Resumes}
use Rattle.m5_cps_convert.proofs.Weights.{least}
use Rattle.m5_cps_convert.proofs.Heads.{Head, head_of}
use Rattle.m5_cps_convert.proofs.Straight.{objects_made, fills, values_long}
use Rattle.m5_cps_convert.proofs.Stops.{stops_meet, values_snoc, set_reads, AtPlace, at_place}

-- the blocks make what the source reduces to
abbrev pub Agree : Program → Made Closure → Reduced → Type 0
Agree P (gives c) (reduction.gives v) = Reads P c (SVal v)
Agree P (makes_text t) (reduction.makes_text t1) = t ≡ t1
Agree P (makes_cell c) (reduction.makes_cell v) = Reads P c (SVal v)
Agree P (loads n) (reduction.loads m) = n ≡ m
Agree P (stores n c) (reduction.stores m v) = (n ≡ m) × Reads P c (SVal v)
Agree P fails reduction.wrong = Unit {0}
Agree P _ _ = ⊥

abbrev pub bytes_made : Made Closure → ℕ
bytes_made (makes_text t) = length t
bytes_made _ = 0

module _ (P : Program) (u : World) (site : IsSiteWorld u) where
  module _ (K : Static) (rs : Resumes P u K) (n : ℕ) (ρ : ℕ → Value) (fs : List Frame) (x : World) (fr : Frames u (In P ρ) n K fs) (nr : Narrow (W P) (rest P K n (suc n)) (suc n)) where
    abbrev next : Site → Value → Ran Closure
    next t a = run u (rest P K n (suc n)) (suc n) (put n a ρ) t

    -- the source's state, about to reduce, and what is lent
    module _ (fs0 : List Frame) (f0 : Focus) (c : ℕ) (s : meaning.Site) where
      abbrev Reduces : Reduced → Type 0
      Reduces r = (b : Bool) → meaning_step.site_next P u (src (record s { stopped = b }) fs0 f0) ≡ outcome P u (src (record s { stopped = b }) fs0 f0) s.threads fs x r

      loads_meet : (t : Site) (i : ℕ) → c ≤ 4 * step_weight P 0 → Reduces (reduction.loads i) → Tied P u 1 c t s → (a : Option Value) (v : Option Expression) → slice_get s.cells i ≡ v → AtPlace P a v → Meets P u (loaded t next a) (src s fs0 f0)
      loads_meet t i le q h None None e r = record { steps = 0; at = src s fs0 f0; comes = refl; stuck = q s.stopped ∙ ap (meaning_step.loaded P (src s fs0 f0) s.threads fs x) e }
      loads_meet t i le q h None (Some v) e r = absurd r
      loads_meet t i le q h (Some a) None e r = absurd r
      loads_meet t i le q h (Some a) (Some v) e r = back P u _ _ (src (ticked P 0 s) fs (Returned x v)) (q s.stopped ∙ ap (meaning_step.loaded P (src s fs0 f0) s.threads fs x) e) (fills P u site K rs a v t (ticked P 0 s) n ρ fs x r fr (step_pays 0 h le) nr)

      stores_meet : (t : Site) (i : ℕ) (a : Value) (w : Expression) → c ≤ 4 * step_weight P 0 → Reduces (reduction.stores i w) → Tied P u 1 c t s → Reads P a (SVal w) → (o : Option Value) (v : Option Expression) → slice_get s.cells i ≡ v → AtPlace P o v → Meets P u (stored t next i a o) (src s fs0 f0)
      stores_meet t i a w le q h ra None None e r = record { steps = 0; at = src s fs0 f0; comes = refl; stuck = q s.stopped ∙ ap (meaning_step.stored P (src s fs0 f0) s.threads fs x i w) e }
      stores_meet t i a w le q h ra None (Some v) e r = absurd r
      stores_meet t i a w le q h ra (Some o) None e r = absurd r
      stores_meet t i a w le q h ra (Some o) (Some v) e r =
          let s1 : meaning.Site = record s { cells = slice_set s.cells i w } in
          let t1 : Site = record t { cells = slice_set t.cells i a } in
          let h1 : Tied P u 1 c t1 s1 = record { runs = h.runs; source_runs = h.source_runs; threads = h.threads; cells = set_reads P t.cells s.cells i a w h.cells ra; handlers = h.handlers; entered = h.entered; units = h.units } in
          back P u _ (src s fs0 f0) (src (ticked P 0 s1) fs (Returned x unit_value)) (q s.stopped ∙ ap (meaning_step.stored P (src s fs0 f0) s.threads fs x i w) e) (fills P u site K rs (atom leaf_form.Unit) unit_value t1 (ticked P 0 s1) n ρ fs x (refl, record {}) fr (step_pays 0 h1 le) nr)

      cell_meets : (t : Site) (a : Value) (w : Expression) → c ≤ 4 * step_weight P 0 → Reduces (reduction.makes_cell w) → Tied P u 1 c t s → Reads P a (SVal w) → (b : Bool) → nat_le 4096 (length s.cells) ≡ b → Meets P u (did u t (makes_cell a) next) (src s fs0 f0)
      cell_meets t a w le q h ra true e = subst (λ o. Meets P u (if o then stops_full t else next (record t { cells = t.cells ++ a ∷ [] }) (atom (leaf_form.CellAt u (length t.cells)))) (src s fs0 f0)) (sym (ap (nat_le 4096) (values_long P t.cells s.cells h.cells) ∙ e)) (stops_meet P u site t (src s fs0 f0) (λ b. q b ∙ ap (λ o. if o then meaning_step.stops_full (src (record s { stopped = b }) fs0 f0) else goes (record (meaning_step.stepped P 0 (src (record s { stopped = b }) fs0 f0) (thread_of fs (Returned x (leaf (leaf_form.CellAt u (length s.cells)))) ∷ s.threads)) { cells = s.cells ++ w ∷ [] })) e))
      cell_meets t a w le q h ra false e =
          let s1 : meaning.Site = record s { cells = s.cells ++ w ∷ [] } in
          let t1 : Site = record t { cells = t.cells ++ a ∷ [] } in
          let h1 : Tied P u 1 c t1 s1 = record { runs = h.runs; source_runs = h.source_runs; threads = h.threads; cells = values_snoc P t.cells s.cells a w h.cells ra; handlers = h.handlers; entered = h.entered; units = h.units } in
          subst (λ o. Meets P u (if o then stops_full t else next t1 (atom (leaf_form.CellAt u (length t.cells)))) (src s fs0 f0)) (sym (ap (nat_le 4096) (values_long P t.cells s.cells h.cells) ∙ e))
          (back P u _ (src s fs0 f0) (src (ticked P 0 s1) fs (Returned x (leaf (leaf_form.CellAt u (length s.cells))))) (q s.stopped ∙ ap (λ o. if o then meaning_step.stops_full (src s fs0 f0) else goes (record (meaning_step.stepped P 0 (src s fs0 f0) (thread_of fs (Returned x (leaf (leaf_form.CellAt u (length s.cells)))) ∷ s.threads)) { cells = s.cells ++ w ∷ [] })) e)
          (fills P u site K rs (atom (leaf_form.CellAt u (length t.cells))) (leaf (leaf_form.CellAt u (length s.cells))) t1 (ticked P 0 s1) n ρ fs x (ap (λ l. leaf (leaf_form.CellAt u l)) (sym (values_long P t.cells s.cells h.cells)), record {}) fr (step_pays 0 h1 le) nr))

      -- whatever is made
      made_meets : (t : Site) (m : Made Closure) (r : Reduced) → Agree P m r → c ≤ 4 * step_weight P (bytes_made m) → Reduces r → Tied P u 1 c t s → Meets P u (did u t m next) (src s fs0 f0)
      made_meets t (gives a) (reduction.gives v) ra le q h = back P u _ _ (src (ticked P 0 s) fs (Returned x v)) (q s.stopped) (fills P u site K rs a v t (ticked P 0 s) n ρ fs x ra fr (step_pays 0 h le) nr)
      made_meets t (makes_text y) (reduction.makes_text z) ra le q h = back P u _ _ (src (ticked P (length y) s) fs (Returned x (text_value y))) (q s.stopped ∙ ap (λ o. outcome P u (src s fs0 f0) s.threads fs x (reduction.makes_text o)) (sym ra)) (fills P u site K rs (atom (leaf_form.Str y)) (text_value y) t (ticked P (length y) s) n ρ fs x (refl, record {}) fr (step_pays (length y) h le) nr)
      made_meets t (makes_cell a) (reduction.makes_cell v) ra le q h = cell_meets t a v le q h ra (nat_le 4096 (length s.cells)) refl
      made_meets t (loads i) (reduction.loads j) ra le q h = loads_meet t i le (subst (λ o. Reduces (reduction.loads o)) (sym ra) q) h (slice_get t.cells i) (slice_get s.cells i) refl (at_place P t.cells s.cells i h.cells)
      made_meets t (stores i a) (reduction.stores j v) ra le q h = stores_meet t i a v le (subst (λ o. Reduces (reduction.stores o v)) (sym ra.0) q) h ra.1 (slice_get t.cells i) (slice_get s.cells i) refl (at_place P t.cells s.cells i h.cells)
      made_meets t fails reduction.wrong ra le q h = record { steps = 0; at = src s fs0 f0; comes = refl; stuck = q s.stopped }
      made_meets t _ _ ra le q h = absurd ra

      weighs : (m : Made Closure) (r : Reduced) → Agree P m r → Reduces r → Weighs P (meaning_step.site_next P u (src s fs0 f0)) (src s fs0 f0) (bytes_made m)
      weighs (makes_text y) (reduction.makes_text z) ra q = subst (λ o. Weighs P o (src s fs0 f0) (length y)) (sym (q s.stopped ∙ ap (λ o. outcome P u (src s fs0 f0) s.threads fs x (reduction.makes_text o)) (sym ra))) (omega arith)
      weighs (makes_text y) _ ra q = absurd ra
      weighs _ r ra q = least P u (src s fs0 f0)

    -- the object is made, and then its deed done
    pub does : (fs0 : List Frame) (f0 : Focus) (c : ℕ) (m : Made Closure) (r : Reduced) (t : Site) (s : meaning.Site) → Agree P m r → c ≤ 4 * step_weight P (bytes_made m) → ((b : Bool) → meaning_step.site_next P u (src (record s { stopped = b }) fs0 f0) ≡ outcome P u (src (record s { stopped = b }) fs0 f0) s.threads fs x r) → Tied P u 1 0 t s → Meets P u (did_taking u t c m next) (src s fs0 f0)
    does fs0 f0 c m r t s a le q h = objects_made P u site 1 (bytes_made m) c t s fs0 f0 (λ t1. did u t1 m next) h (weighs fs0 f0 c s m r a q) le (λ t1 h1. made_meets fs0 f0 c s t1 m r a le q h1)

  -- a straight form of one part
  pub record IsOne (f : UnaryForm) : Type 0 where
    pub reduces : (s : meaning.Site) (fs : List Frame) (x w : World) (a v : Expression) → meaning_step.site_next P u (src s (frame.Part x (unary f a) 0 ∷ fs) (Returned w v)) ≡ outcome P u (src s (frame.Part x (unary f a) 0 ∷ fs) (Returned w v)) s.threads fs x (reduced_unary u f v)
    pub agree : {c : Value} {v : Expression} → Head P c v → Agree P (made_by_one u f c) (reduced_unary u f v)
    pub units : (c : Value) → one_units f (made_by_one u f c) ≤ 4 * step_weight P (bytes_made (made_by_one u f c))

  pub one_first : (f : UnaryForm) → IsOne f → (a : Expression) (K : Static) → Resumes P u K → (Γ : Scope) → Resumes P u (SFirst Γ (unary f a) K)
  one_first f d a K rs Γ = record {
    by = λ t s n ρ fs w y v fr has h nr.
        subst (λ z. Meets P u (run u (rest P (SFirst Γ (unary f a) K) y n) n ρ t) (src s z (Returned w v))) (sym fr.is)
        (does K rs n ρ fr.below fr.world fr.rest nr _ (Returned w v) (one_units f (made_by_one u f (ρ y))) (made_by_one u f (ρ y)) (reduced_unary u f v) t s (d.agree (head_of P (ρ y) v has.1)) (d.units (ρ y)) (λ b. d.reduces (record s { stopped = b }) fr.below fr.world w _ v) h);
  }

  -- a straight form of two parts
  pub record IsTwo (f : BinaryForm) : Type 0 where
    pub code : (T : TypeExpression) (Γ : Scope) (x y n : ℕ) (K : Static) → binary_end f T Γ x y n (kont (setting P) K) ≡ straight (block.two f x y) (rest P K n (suc n))
    pub reduces : (s : meaning.Site) (fs : List Frame) (x w : World) (a b v : Expression) → meaning_step.site_next P u (src s (frame.Part x (binary f a b) 1 ∷ fs) (Returned w v)) ≡ outcome P u (src s (frame.Part x (binary f a b) 1 ∷ fs) (Returned w v)) s.threads fs x (reduced_binary P u f a v)
    pub agree : {c d : Value} {v w : Expression} → Head P c v → Head P d w → Agree P (made_by_two u f c d) (reduced_binary P u f v w)
    pub units : (c d : Value) → two_units f (made_by_two u f c d) ≤ 4 * step_weight P (bytes_made (made_by_two u f c d))

  pub two_done : (f : BinaryForm) → IsTwo f → (a b : Expression) (K : Static) → Resumes P u K → (Γ : Scope) (x : ℕ) → Resumes P u (SSecond Γ (binary f a b) x K)
  two_done f d a b K rs Γ x = record {
    by = λ t s n ρ fs w y v fr has h nr.
        let q : rest P (SSecond Γ (binary f a b) x K) y n ≡ straight (block.two f x y) (rest P K n (suc n)) = d.code _ Γ x y n K in
        subst (λ c. Meets P u (run u c n ρ t) (src s fs (Returned w v))) (sym q)
        (subst (λ z. Meets P u (run u (straight (block.two f x y) (rest P K n (suc n))) n ρ t) (src s z (Returned w v))) (sym fr.is)
        (does K rs n ρ fr.below fr.world fr.rest (subst (λ c. Narrow (W P) c n) q nr) _ (Returned w v) (two_units f (made_by_two u f (ρ x) (ρ y))) (made_by_two u f (ρ x) (ρ y)) (reduced_binary P u f fr.first v) t s (d.agree (head_of P (ρ x) fr.first fr.has.1) (head_of P (ρ y) v has.1)) (d.units (ρ x) (ρ y)) (λ b. d.reduces (record s { stopped = b }) fr.below fr.world w fr.first _ v) h));
  }
