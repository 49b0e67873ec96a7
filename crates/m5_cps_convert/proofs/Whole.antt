-- The whole pass: whatever a site of blocks does, the source's does too, and has paid for it.
use Rattle.std.proofs.Common.{◌≡◌, ℕ, suc, inl, inr, List, [], ◌∷◌, refl, sym, ap, subst, arith, if◌then◌else◌}
use Rattle.m5_terms.specs.Expression.{Expression, leaf, unary, binary, ternary}
use Rattle.m5_terms.specs.Worlds.{IsSiteWorld}
use Rattle.m5_terms.specs.declared.types.World.{World}
use Rattle.m5_terms.specs.declared.form.UnaryForm.{UnaryForm}
use Rattle.m5_terms.specs.declared.form.UnaryForm.TheVariants as unary_form
use Rattle.m5_terms.specs.declared.form.BinaryForm.{BinaryForm}
use Rattle.m5_terms.specs.declared.form.BinaryForm.TheVariants as binary_form
use Rattle.m5_terms.specs.declared.form.TernaryForm.{TernaryForm}
use Rattle.m5_terms.specs.declared.form.TernaryForm.TheVariants as ternary_form
use Rattle.m5_meaning.specs.Site.{Program}
use Rattle.m5_meaning.specs.Site as meaning
use Rattle.m5_cps.specs.Values.{Wrap, Join, atom, wrap, join, closed, enter, put, SiteNext}
use Rattle.m5_cps.specs.Values as value
use Rattle.m5_cps.specs.Deeds.{Ran, ends, makes, stops_full}
use Rattle.m5_cps.specs.Captured.{Closure, Thread, Site}
use Rattle.m5_cps.specs.Running.{entered_by, called_by, resolved, started, front, ran, last, site_next}
use Rattle.m5_cps_convert.specs.Scopes.{Scope}
use Rattle.m5_cps_convert.specs.Statics.{Static, STop, STail, SBack, SHome, SFirst, SSecond, SArgument}
use Rattle.m5_cps_convert.specs.Threads.{ReadsThread, ReadsThreads, ReadsState}
use Rattle.m5_cps_convert.specs.Convert.{program_blocks}
use Rattle.m5_cps_convert.specs.Threads.{ReadsSite}
use Rattle.m5_cps_convert.proofs.Meets.{Tied, NextMet, Meets, Resumes, Evals}
use Rattle.m5_cps_convert.proofs.Straight.{leaf_evals}
use Rattle.m5_cps_convert.proofs.Stops.{stops_meet}
use Rattle.m5_cps_convert.proofs.Ends.{top_resumes, tail_resumes, back_resumes, home_resumes}
use Rattle.m5_cps_convert.proofs.Made.{one_first, two_done}
use Rattle.m5_cps_convert.proofs.OneForms.{fst_one, snd_one, text_one, div_one, new_one, load_one, hold_one, sham_one, inl_one, inr_one, fst_evals, snd_evals, text_evals, div_evals, new_evals, load_evals, hold_evals, sham_evals, inl_evals, inr_evals}
use Rattle.m5_cps_convert.proofs.TwoForms.{pair_two, cons_two, store_two, operator_two, pair_first, cons_first, store_first, operator_first, pair_evals, cons_evals, store_evals, operator_evals}
use Rattle.m5_cps_convert.proofs.Calls.{call_done}
use Rattle.m5_cps_convert.proofs.CallForms.{call_first, argument_done, call_evals}
use Rattle.m5_cps_convert.proofs.Binding.{fn_evals, rec_evals, val_first, val_evals, put_first, put_evals, do_first, do_evals, leta_first, leta_evals, lets_first, lets_evals}
use Rattle.m5_cps_convert.proofs.MatchedChoices.{if_first, if_evals, sum_first, sum_evals, list_first, list_evals}
use Rattle.m5_cps_convert.proofs.MatchedGets.{get_rest, get_evals}
use Rattle.m5_cps_convert.proofs.Asked.{asks_meet}
use Rattle.m5_cps_convert.proofs.Beginning.{spawn_evals, looks_up}
use Rattle.m5_cps_convert.proofs.Entering.{Good, kont_entered, value_entered, goal_entered, start_entered, function_entered}
use Rattle.m5_cps_convert.proofs.Handlers.{handled}

module _ (P : Program) (u : World) (site : IsSiteWorld u) where
  held_evals : (v : World) (a : Expression) → Evals P u (unary (unary_form.Held v) a)
  held_evals v a = record { by = λ K rs t s n ρ Γ γ fs w p st f fr h nr. absurd p.0 }

  unary_evals : (f : UnaryForm) (a : Expression) → Evals P u a → Evals P u (unary f a)
  unary_evals (unary_form.Fn x A) a ea = fn_evals P u site x A a
  unary_evals (unary_form.Rec g x A R) a ea = rec_evals P u site g x A R a
  unary_evals unary_form.Spawn a ea = spawn_evals P u site a
  unary_evals unary_form.Fst a ea = fst_evals P u site a ea
  unary_evals unary_form.Snd a ea = snd_evals P u site a ea
  unary_evals unary_form.StrOf a ea = text_evals P u site a ea
  unary_evals unary_form.Div a ea = div_evals P u site a ea
  unary_evals unary_form.NewCell a ea = new_evals P u site a ea
  unary_evals unary_form.Load a ea = load_evals P u site a ea
  unary_evals unary_form.Hold a ea = hold_evals P u site a ea
  unary_evals unary_form.Sham a ea = sham_evals P u site a ea
  unary_evals (unary_form.Inl A) a ea = inl_evals P u site A a ea
  unary_evals (unary_form.Inr A) a ea = inr_evals P u site A a ea
  unary_evals (unary_form.Held v) a ea = held_evals v a

  binary_evals : (f : BinaryForm) (a b : Expression) → Evals P u a → Evals P u b → Evals P u (binary f a b)
  binary_evals binary_form.Pair a b ea eb = pair_evals P u site a b ea eb
  binary_evals binary_form.Cons a b ea eb = cons_evals P u site a b ea eb
  binary_evals binary_form.Store a b ea eb = store_evals P u site a b ea eb
  binary_evals (binary_form.Binary o) a b ea eb = operator_evals P u site o a b ea eb
  binary_evals binary_form.Call a b ea eb = call_evals P u site (asks_meet P u site) a b ea eb
  binary_evals binary_form.Get a b ea eb = get_evals P u site a b ea eb
  binary_evals binary_form.Do a b ea eb = do_evals P u site a b ea eb
  binary_evals (binary_form.Val x) a b ea eb = val_evals P u site x a b ea eb
  binary_evals (binary_form.Put x) a b ea eb = put_evals P u site x a b ea eb
  binary_evals (binary_form.Leta x) a b ea eb = leta_evals P u site x a b ea eb
  binary_evals (binary_form.Lets x) a b ea eb = lets_evals P u site x a b ea eb

  ternary_evals : (f : TernaryForm) (a b c : Expression) → Evals P u a → Evals P u b → Evals P u c → Evals P u (ternary f a b c)
  ternary_evals ternary_form.If a b c ea eb ec = if_evals P u site a b c ea eb ec
  ternary_evals (ternary_form.CaseSum y z) a b c ea eb ec = sum_evals P u site y z a b c ea eb ec
  ternary_evals (ternary_form.CaseList y z) a b c ea eb ec = list_evals P u site y z a b c ea eb ec

  -- every node's code does what the node does
  pub evals : (e : Expression) → Evals P u e
  evals (leaf f) = leaf_evals P u site f
  evals (unary f a) = unary_evals f a (evals a)
  evals (binary f a b) = binary_evals f a b (evals a) (evals b)
  evals (ternary f a b c) = ternary_evals f a b c (evals a) (evals b) (evals c)

  get_first : (a b : Expression) (Γ : Scope) (K : Static) → Resumes P u (SFirst Γ (binary binary_form.Get a b) K)
  get_first a b Γ (STail k) = get_rest P u site a b (evals b) k Γ
  get_first a b Γ _ = record { by = λ t s n ρ fs w x v fr has h nr. absurd fr.slotted }

  first_resumes : (e : Expression) (Γ : Scope) (K : Static) → Resumes P u K → Resumes P u (SFirst Γ e K)
  first_resumes (unary unary_form.Fst a) Γ K rs = one_first P u site unary_form.Fst (fst_one P u site) a K rs Γ
  first_resumes (unary unary_form.Snd a) Γ K rs = one_first P u site unary_form.Snd (snd_one P u site) a K rs Γ
  first_resumes (unary unary_form.StrOf a) Γ K rs = one_first P u site unary_form.StrOf (text_one P u site) a K rs Γ
  first_resumes (unary unary_form.Div a) Γ K rs = one_first P u site unary_form.Div (div_one P u site) a K rs Γ
  first_resumes (unary unary_form.NewCell a) Γ K rs = one_first P u site unary_form.NewCell (new_one P u site) a K rs Γ
  first_resumes (unary unary_form.Load a) Γ K rs = one_first P u site unary_form.Load (load_one P u site) a K rs Γ
  first_resumes (unary unary_form.Hold a) Γ K rs = one_first P u site unary_form.Hold (hold_one P u site) a K rs Γ
  first_resumes (unary unary_form.Sham a) Γ K rs = one_first P u site unary_form.Sham (sham_one P u site) a K rs Γ
  first_resumes (unary (unary_form.Inl A) a) Γ K rs = one_first P u site (unary_form.Inl A) (inl_one P u site A) a K rs Γ
  first_resumes (unary (unary_form.Inr A) a) Γ K rs = one_first P u site (unary_form.Inr A) (inr_one P u site A) a K rs Γ
  first_resumes (binary binary_form.Pair a b) Γ K rs = pair_first P u site a b (evals b) K rs Γ
  first_resumes (binary binary_form.Cons a b) Γ K rs = cons_first P u site a b (evals b) K rs Γ
  first_resumes (binary binary_form.Store a b) Γ K rs = store_first P u site a b (evals b) K rs Γ
  first_resumes (binary (binary_form.Binary o) a b) Γ K rs = operator_first P u site o a b (evals b) K rs Γ
  first_resumes (binary binary_form.Call a b) Γ K rs = call_first P u site (asks_meet P u site) a b (evals b) K rs Γ
  first_resumes (binary binary_form.Get a b) Γ K rs = get_first a b Γ K
  first_resumes (binary binary_form.Do a b) Γ K rs = do_first P u site a b (evals b) K rs Γ
  first_resumes (binary (binary_form.Val x) a b) Γ K rs = val_first P u site x a b (evals b) K rs Γ
  first_resumes (binary (binary_form.Put x) a b) Γ K rs = put_first P u site x a b (evals b) K rs Γ
  first_resumes (binary (binary_form.Leta x) a b) Γ K rs = leta_first P u site x a b (evals b) K rs Γ
  first_resumes (binary (binary_form.Lets x) a b) Γ K rs = lets_first P u site x a b (evals b) K rs Γ
  first_resumes (ternary ternary_form.If a b c) Γ K rs = if_first P u site a b c (evals b) (evals c) K rs Γ
  first_resumes (ternary (ternary_form.CaseSum y z) a b c) Γ K rs = sum_first P u site y z a b c (evals b) (evals c) K rs Γ
  first_resumes (ternary (ternary_form.CaseList y z) a b c) Γ K rs = list_first P u site y z a b c (evals b) (evals c) K rs Γ
  -- the others have no part that is evaluated
  first_resumes _ Γ K rs = record { by = λ t s n ρ fs w x v fr has h nr. absurd (omega (arith, fr.has_part)) }

  second_resumes : (e : Expression) (Γ : Scope) (x : ℕ) (K : Static) → Resumes P u K → Resumes P u (SSecond Γ e x K)
  second_resumes (binary binary_form.Pair a b) Γ x K rs = two_done P u site binary_form.Pair (pair_two P u site) a b K rs Γ x
  second_resumes (binary binary_form.Cons a b) Γ x K rs = two_done P u site binary_form.Cons (cons_two P u site) a b K rs Γ x
  second_resumes (binary binary_form.Store a b) Γ x K rs = two_done P u site binary_form.Store (store_two P u site) a b K rs Γ x
  second_resumes (binary (binary_form.Binary o) a b) Γ x K rs = two_done P u site (binary_form.Binary o) (operator_two P u site o) a b K rs Γ x
  second_resumes (binary binary_form.Call a b) Γ x K rs = call_done P u site (asks_meet P u site) a b K rs Γ x
  second_resumes (unary f a) Γ x K rs = record { by = λ t s n ρ fs w y v fr has h nr. absurd (one_part f fr.has_parts) }
    where
      one_part : (f : UnaryForm) → Rattle.m5_meaning.specs.Parts.unary_parts f ≡ 2 → ⊥
      one_part unary_form.Fst e = omega (arith, e)
      one_part _ e = omega (arith, e)
  second_resumes _ Γ x K rs = record { by = λ t s n ρ fs w y v fr has h nr. absurd (omega (arith, fr.has_parts)) }

  -- and every continuation's code what the frames do
  pub resumes : (K : Static) → Resumes P u K
  resumes STop = top_resumes P u site
  resumes (STail k) = tail_resumes P u site k
  resumes (SBack a k) = back_resumes P u site a k
  resumes (SHome w k) = home_resumes P u site w k
  resumes (SFirst Γ e K) = first_resumes e Γ K (resumes K)
  resumes (SSecond Γ e x K) = second_resumes e Γ x K (resumes K)
  resumes (SArgument Γ p b K) = argument_done P u site (asks_meet P u site) p b K (resumes K) Γ

  module _ (good : Good P) where
    -- the site with that thread in front
    abbrev with_front : meaning.Site → meaning.Thread → meaning.Site
    with_front s th = record s { threads = th ∷ s.threads }

    thread_runs : (th : Thread) (r : meaning.Thread) (t : Site) (s : meaning.Site) → ReadsThread P u th r → Tied P u 1 0 (record t { entered = suc t.entered }) s → Meets P u (started u t (resolved (program_blocks P) th)) (with_front s r)
    thread_runs (enter k x) r t s (inl h) d = subst (λ y. Meets P u (started u t (entered_by k x)) (with_front s y)) (sym h.is) (kont_entered P u site good evals resumes k x h.result h.frames h.world t s h.continuation h.argument d)
    thread_runs (enter k x) r t s (inr (inl h)) d = subst (λ y. Meets P u (started u t (entered_by k x)) (with_front s y)) (sym h.is) (value_entered P u site good evals resumes k x h.result h.frames h.world t s h.continuation h.argument d)
    thread_runs (enter k x) r t s (inr (inr (inl h))) d = subst (λ y. Meets P u (started u t (entered_by k x)) (with_front s y)) (sym h.is) (goal_entered P u site good evals resumes k x h.node h.frames t s h.goal h.continuation d)
    thread_runs (enter k x) r t s (inr (inr (inr h))) d = subst (λ y. Meets P u (started u t (entered_by k x)) (with_front s y)) (sym h.is) (start_entered P u site good evals resumes k x h.node h.frames t s h.start d)
    thread_runs (value.call f x k) r t s (inl h) d = subst (λ y. Meets P u (started u t (called_by (program_blocks P) f x k)) (with_front s y)) (sym h.is) (function_entered P u site good evals x k h.result h.body h.frames t s h.argument h.continuation d f h.function h.put_in h.entered h.called)
    thread_runs (value.call f x k) r t s (inr h) d = handled P u site good evals (asks_meet P u site) f x k r t s h d

    module _ (t : Site) (s : meaning.Site) (r : ReadsSite P u t s) where
      front_runs : (ts : List Thread) (ss : List meaning.Thread) → ReadsThreads P u ts ss → s.threads ≡ ss → Meets P u (front (program_blocks P) u t ts) s
      front_runs [] [] h q = looks_up P u site t s q (record { runs = r.runs; source_runs = r.source_runs; threads = r.threads; cells = r.cells; handlers = r.handlers; entered = omega (arith, r.steps); units = omega (arith, r.units) })
      front_runs [] (x ∷ ss) h q = absurd h
      front_runs (x ∷ ts) [] h q = absurd h
      front_runs (x ∷ ts) (y ∷ ss) h q =
          let t1 : Site = record t { threads = ts } in
          let s1 : meaning.Site = record s { threads = ss } in
          let at : with_front s1 y ≡ s = ap (λ z. record s { threads = z }) (sym q) in
          subst (Meets P u (started u t1 (resolved (program_blocks P) x))) at (thread_runs x y t1 s1 h.0 (record { runs = r.runs; source_runs = r.source_runs; threads = h.1; cells = r.cells; handlers = r.handlers; entered = omega (arith, r.steps); units = omega (arith, r.units) }))

    -- whatever a site does next
    pub owes : (t : Site) (s : meaning.Site) → ReadsState P u t s → Meets P u (ran (program_blocks P) u t) s
    owes t s (inl r) = subst (λ b. Meets P u (if b then stops_full t else front (program_blocks P) u t t.threads) s) (sym r.runs) (front_runs t s r t.threads s.threads r.threads refl)
    owes t s (inr r) = subst (λ b. Meets P u (if b then stops_full t else front (program_blocks P) u t t.threads) s) (sym r.stopped) (stops_meet P u site t s r.stops)

    next_met : (x : Ran Closure) (s : meaning.Site) → Meets P u x s → NextMet P u (last x) s
    next_met (makes p x) s h = next_met x s h.1
    next_met (ends x) s h = h

    pub next_owes : (t : Site) (s : meaning.Site) → ReadsState P u t s → NextMet P u (site_next (program_blocks P) u t) s
    next_owes t s r = next_met (ran (program_blocks P) u t) s (owes t s r)
