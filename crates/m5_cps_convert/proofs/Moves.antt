-- A get, here or at another world: the body is a block that waits for its continuation, or a variable's value.
use Rattle.std.proofs.Common.{◌≡◌, ◌≢◌, ℕ, suc, ◌+◌, ◌*◌, ◌≤◌, ◌<◌, inl, inr, List, ◌∷◌, Bool, true, false, refl, sym, ap, ◌∙◌, subst, arith, if◌then◌else◌}
use Rattle.m5_terms.specs.Machine.{asks, wrong}
use Rattle.m5_terms.specs.TypeExpression.{TypeExpression}
use Rattle.m5_terms.specs.Expression.{Expression, leaf, binary}
use Rattle.m5_terms.specs.Worlds.{IsSiteWorld}
use Rattle.m5_terms.specs.declared.ask.AskOf.TheVariants as query
use Rattle.m5_terms.specs.declared.types.World.{World}
use Rattle.m5_terms.specs.declared.thread.Frame.{Frame}
use Rattle.m5_terms.specs.declared.thread.Frame.TheVariants as frame
use Rattle.m5_terms.specs.declared.thread.Focus.TheVariants.{Eval, Returned}
use Rattle.m5_terms.specs.declared.form.LeafForm.TheVariants as leaf_form
use Rattle.m5_terms.specs.declared.form.BinaryForm.TheVariants as binary_form
use Rattle.m5_meaning.specs.Site.{Program}
use Rattle.m5_meaning.specs.Site as meaning
use Rattle.m5_meaning.specs.Step.{step_weight, thread_of, outcome}
use Rattle.m5_meaning.specs.Step as meaning_step
use Rattle.m5_meaning.specs.Reduction as reduction
use Rattle.m5_cps.specs.Entries.{of, only, by_value}
use Rattle.m5_cps.specs.Blocks.{Code, straight, closure, test, constant, go, if_here}
use Rattle.m5_cps.specs.Blocks as block
use Rattle.m5_cps.specs.Values.{Wrap, Join, atom, wrap, join, closed, enter, put, put_all, filled_by}
use Rattle.m5_cps.specs.Values as value
use Rattle.m5_cps.specs.Units.{closure_units}
use Rattle.m5_cps.specs.Deeds.{ends, tested}
use Rattle.m5_cps.specs.Captured.{over, Value, Site, captured, value_units}
use Rattle.m5_cps.specs.Running.{run}
use Rattle.m5_cps_convert.specs.Statics.{SBack}
use Rattle.m5_cps_convert.specs.Slots.{SVal, SKont, SGoal, Has}
use Rattle.m5_cps_convert.specs.Narrow.{Narrow}
use Rattle.m5_cps_convert.specs.Reading.{Reads}
use Rattle.m5_cps_convert.specs.Threads.{ReadsItem}
use Rattle.m5_terms.specs.TypeExpression.{same_world}
use Rattle.m5_terms.specs.Size.{node_size}
use Rattle.m5_meaning.specs.Reduction.{got}
use Rattle.m5_cps.specs.Asks.{sent}
use Rattle.m5_cps_convert.specs.Forms.{back_code, away_with_goal, away_with_value}
use Rattle.m5_cps_convert.proofs.Substitutions.{put_other}
use Rattle.m5_cps_convert.proofs.Slots.{In, Grows, grows_on, put_grows, put_has, has_on}
use Rattle.m5_cps_convert.proofs.Meets.{W, src, ticked, Tied, step_pays, lent, Meets}
use Rattle.m5_cps_convert.proofs.Weights.{least}
use Rattle.m5_cps_convert.proofs.Straight.{object_made}
use Rattle.m5_cps_convert.proofs.Heads.{Head, atoms}
use Rattle.m5_cps_convert.proofs.Calls.{closure_room, front_reads}
use Rattle.m5_cps_convert.proofs.Ends.{after_sent_reads}
use Rattle.m5_cps_convert.proofs.Light.{value_light, kont_light}

module _ (P : Program) (u : World) (site : IsSiteWorld u) (T : TypeExpression) (va : World) (k : ℕ) (t : Site) (s : meaning.Site) (fs : List Frame) (x w : World) (a1 b1 : Expression) (xe : x ≡ u) (l : ℕ) where
  -- where the source stands before it moves, with an address or another value
  abbrev before : List Frame
  before = frame.Part x (binary binary_form.Get a1 b1) 0 ∷ fs

  abbrev at : Expression → meaning.Site
  at v = src s before (Returned w v)

  -- its next step, by whether the address is of the site's world
  next_is : (v1 : World) (c : Bool) → same_world v1 u ≡ c → meaning_step.site_next P u (at (leaf (leaf_form.Addr v1))) ≡ outcome P u (at (leaf (leaf_form.Addr v1))) s.threads fs x (if c then reduction.goes_on b1 else reduction.leaves v1 b1)
  next_is v1 c i = ap (λ y. outcome P u (at (leaf (leaf_form.Addr v1))) s.threads fs x (if y then reduction.goes_on b1 else reduction.leaves v1 b1)) i

  -- what sends a value back to the continuation in slot k
  module _ (n : ℕ) (ρ : ℕ → Value) (hk : Has (In P ρ) n k (SKont u fs)) where
    abbrev ρh : ℕ → Value
    ρh = put n (atom (leaf_form.Addr u)) ρ

    abbrev back_to : Value
    back_to = closed (over (by_value (only va) (of T)) (suc n) (back_code n k (suc n))) ρh

    abbrev ρb : ℕ → Value
    ρb = put (suc n) back_to ρh

    gh : Grows (In P ρ) n (In P ρh) (suc n)
    gh = put_grows P ρ n (atom (leaf_form.Addr u))

    gb : Grows (In P ρh) (suc n) (In P ρb) (suc (suc n))
    gb = put_grows P ρh (suc n) back_to

    pub back_reads : Narrow (W P) (back_code n k (suc n)) (suc (suc (suc n))) → (v1 : World) → Reads P back_to (SKont v1 (frame.Return u ∷ fs))
    back_reads na v1 = record { narrow = na; static = SBack n k; works = tt; code = refl; frames = record { world = u; below = fs; address = put_has P ρ n (atom (leaf_form.Addr u)) (SVal (leaf (leaf_form.Addr u))) (refl, site); continuation = has_on k (SKont u fs) gh hk; is = refl } }

    -- the thread that is sent, where an item is read back to it at the address
    sends : (g y : ℕ) (v1 : World) (t1 : Site) → Tied P u 1 (closure_room P u site + closure_room P u site) t1 s → 2 ≤ W P → meaning_step.site_next P u (at (leaf (leaf_form.Addr v1))) ≡ asks (query.Send v1 (meaning.thread (thread_of (frame.Return x ∷ fs) (Eval v1 b1)))) (meaning_step.after_done P (at (leaf (leaf_form.Addr v1))) s.threads) →
        ReadsItem P v1 (value.thread (enter (ρb g) (ρb y))) (meaning.thread (thread_of (frame.Return u ∷ fs) (Eval v1 b1))) → Meets P u (sent t1 (atom (leaf_form.Addr v1)) (enter (ρb g) (ρb y))) (at (leaf (leaf_form.Addr v1)))
    sends g y v1 t1 h1 wide step item = record { steps = 0; waiting = at (leaf (leaf_form.Addr v1)); comes = refl; ask = query.Send v1 (meaning.thread (thread_of (frame.Return x ∷ fs) (Eval v1 b1))); resume_ = meaning_step.after_done P (at (leaf (leaf_form.Addr v1))) s.threads; asking = step; reads = (meaning.thread (thread_of (frame.Return x ∷ fs) (Eval v1 b1)), subst (λ o. ReadsItem P v1 (value.thread (enter (ρb g) (ρb y))) (meaning.thread (thread_of (frame.Return o ∷ fs) (Eval v1 b1)))) (sym xe) item, refl); after = λ r to c e ra. after_sent_reads P u site t1 s (at (leaf (leaf_form.Addr v1))) (step_pays 0 h1 (omega (arith, wide))) refl r to c e ra }

    -- the closure that sends back is made, and the thread sent
    away : (g y xa : ℕ) (v1 : World) (t1 : Site) → Tied P u 1 (closure_room P u site) t1 s → Narrow (W P) (closure (by_value (only va) (of T)) (back_code n k (suc n)) (block.ends (block.send xa g y))) (suc n) → ρb xa ≡ atom (leaf_form.Addr v1) → same_world v1 u ≡ false →
        ReadsItem P v1 (value.thread (enter (ρb g) (ρb y))) (meaning.thread (thread_of (frame.Return u ∷ fs) (Eval v1 b1))) → Meets P u (run u (closure (by_value (only va) (of T)) (back_code n k (suc n)) (block.ends (block.send xa g y))) (suc n) ρh t1) (at (leaf (leaf_form.Addr v1)))
    away g y xa v1 t1 h1 nr slot i item =
        object_made P u site 1 (closure_room P u site) 0 (closure_units (captured (suc n) (back_code n k (suc n)))) t1 s before (Returned w (leaf (leaf_form.Addr v1))) (λ t2. sent t2 (ρb xa) (enter (ρb g) (ρb y))) h1 (least P u (at (leaf (leaf_form.Addr v1)))) (omega (arith, nr.0, nr.2))
        (λ t2 h2. subst (λ d. Meets P u (sent t2 d (enter (ρb g) (ρb y))) (at (leaf (leaf_form.Addr v1)))) (sym slot) (sends g y v1 t2 (lent (closure_room P u site + closure_room P u site) h2 (omega (arith, nr.0))) nr.2 (next_is v1 false i) item))

  no_address : (d : Value) (v : Expression) (c e : Code) (n : ℕ) (ρ : ℕ → Value) → got u v b1 ≡ reduction.wrong → tested u if_here d (λ parts. run u c (filled_by parts n) (put_all n parts ρ) t) (λ parts. run u e (filled_by parts n) (put_all n parts ρ) t) ≡ ends wrong →
      Meets P u (tested u if_here d (λ parts. run u c (filled_by parts n) (put_all n parts ρ) t) (λ parts. run u e (filled_by parts n) (put_all n parts ρ) t)) (at v)
  no_address d v c e n ρ q r = subst (λ o. Meets P u o (at v)) (sym r) (record { steps = 0; at = at v; comes = refl; stuck = ap (outcome P u (at v) s.threads fs x) q })

  -- the body's value is in slot l
  module _ (n : ℕ) (ρ : ℕ → Value) (hk : Has (In P ρ) n k (SKont u fs)) (hl : Has (In P ρ) n l (SVal b1)) (xa : ℕ) (small : xa ≤ n) (h : Tied P u 1 (closure_room P u site) t s) (nr : Narrow (W P) (away_with_value T va xa l k n) n) where
    value_here : (v1 : World) → same_world v1 u ≡ true → Meets P u (run u (block.ends (go k l)) n ρ t) (at (leaf (leaf_form.Addr v1)))
    value_here v1 i = inr (record { steps = 1; at = src (ticked P 0 s) fs (Eval x b1); comes = (src (ticked P 0 s) fs (Eval x b1), next_is v1 true i, refl); reads = front_reads P u site (enter (ρ k) (ρ l)) t (ticked P 0 s) fs (Eval x b1) (step_pays 0 h (omega (arith, nr.2))) (inr (inl (record { frames = fs; world = x; result = b1; continuation = hk.1; argument = hl.1; is = refl }))) })

    value_away : (v1 : World) → ρ xa ≡ atom (leaf_form.Addr v1) → xa ≢ n → same_world v1 u ≡ false → Meets P u (run u (away_with_value T va xa l k n) n ρ t) (at (leaf (leaf_form.Addr v1)))
    value_away v1 q ne i =
        let bk : Reads P (ρb n ρ hk (suc n)) (SKont v1 (frame.Return u ∷ fs)) = (put_has P (ρh n ρ hk) (suc n) (back_to n ρ hk) (SKont v1 (frame.Return u ∷ fs)) (back_reads n ρ hk nr.1 v1)).1 in
        let vl : Reads P (ρb n ρ hk l) (SVal b1) = (has_on l (SVal b1) (grows_on (gh n ρ hk) (gb n ρ hk)) hl).1 in
        let slot : ρb n ρ hk xa ≡ atom (leaf_form.Addr v1) = put_other (suc n) xa (back_to n ρ hk) (ρh n ρ hk) (omega (arith, small)) ∙ put_other n xa (atom (leaf_form.Addr u)) ρ ne ∙ q in
        away n ρ hk (suc n) l xa v1 t h nr slot i (inr (inl (record { frames = frame.Return u ∷ fs; world = v1; result = b1; continuation = bk; argument = vl; is = refl })), omega (arith, kont_light P (ρb n ρ hk (suc n)) v1 (frame.Return u ∷ fs) bk, value_light P (ρb n ρ hk l) b1 vl))

    value_by : (v1 : World) (c : Bool) → same_world v1 u ≡ c → ρ xa ≡ atom (leaf_form.Addr v1) → xa ≢ n → Meets P u (if c then run u (block.ends (go k l)) n ρ t else run u (away_with_value T va xa l k n) n ρ t) (at (leaf (leaf_form.Addr v1)))
    value_by v1 true i q ne = value_here v1 i
    value_by v1 false i q ne = value_away v1 q ne i

    pub value_head : {d : Value} {v : Expression} → Head P d v → ρ xa ≡ d → xa ≢ n → Meets P u (tested u if_here d (λ parts. run u (block.ends (go k l)) (filled_by parts n) (put_all n parts ρ) t) (λ parts. run u (away_with_value T va xa l k n) (filled_by parts n) (put_all n parts ρ) t)) (at v)
    value_head (atoms (leaf_form.Addr v1) i) q ne = value_by v1 (same_world v1 u) refl q ne
    value_head {d} {v} _ q ne = no_address d v (block.ends (go k l)) (away_with_value T va xa l k n) n ρ refl refl

  -- the body is a block, whose closure is in slot m, the last one
  module _ (m : ℕ) (ρ : ℕ → Value) (hk : Has (In P ρ) (suc m) k (SKont u fs)) (hg : Has (In P ρ) (suc m) m (SGoal b1)) (gl : value_units (ρ m) + 2 ≤ 4 * node_size b1) (xa : ℕ) (small : xa < suc m) (h : Tied P u 1 (closure_room P u site) t s) (nr : Narrow (W P) (away_with_goal T va xa m k (suc m)) (suc m)) where
    goal_here : (v1 : World) → same_world v1 u ≡ true → Meets P u (run u (block.ends (go m k)) (suc m) ρ t) (at (leaf (leaf_form.Addr v1)))
    goal_here v1 i = inr (record { steps = 1; at = src (ticked P 0 s) fs (Eval x b1); comes = (src (ticked P 0 s) fs (Eval x b1), next_is v1 true i, refl); reads = front_reads P u site (enter (ρ m) (ρ k)) t (ticked P 0 s) fs (Eval x b1) (step_pays 0 h (omega (arith, nr.2))) (inr (inr (inl (record { frames = fs; node = b1; goal = hg.1; continuation = hk.1; is = ap (λ y. thread_of fs (Eval y b1)) xe })))) })

    goal_away : (v1 : World) → ρ xa ≡ atom (leaf_form.Addr v1) → same_world v1 u ≡ false → Meets P u (run u (away_with_goal T va xa m k (suc m)) (suc m) ρ t) (at (leaf (leaf_form.Addr v1)))
    goal_away v1 q i =
        let n : ℕ = suc m in
        let bk : Reads P (ρb (suc m) ρ hk (suc (suc m))) (SKont v1 (frame.Return u ∷ fs)) = (put_has P (ρh (suc m) ρ hk) (suc (suc m)) (back_to (suc m) ρ hk) (SKont v1 (frame.Return u ∷ fs)) (back_reads (suc m) ρ hk nr.1 v1)).1 in
        let vg : Reads P (ρb (suc m) ρ hk m) (SGoal b1) = (has_on m (SGoal b1) (grows_on (gh (suc m) ρ hk) (gb (suc m) ρ hk)) hg).1 in
        let same : ρb (suc m) ρ hk m ≡ ρ m = put_other (suc (suc m)) m (back_to (suc m) ρ hk) (ρh (suc m) ρ hk) (omega arith) ∙ put_other (suc m) m (atom (leaf_form.Addr u)) ρ (omega arith) in
        let slot : ρb (suc m) ρ hk xa ≡ atom (leaf_form.Addr v1) = put_other (suc (suc m)) xa (back_to (suc m) ρ hk) (ρh (suc m) ρ hk) (omega (arith, small)) ∙ put_other (suc m) xa (atom (leaf_form.Addr u)) ρ (omega (arith, small)) ∙ q in
        let gl1 : value_units (ρb (suc m) ρ hk m) + 2 ≤ 4 * node_size b1 = subst (λ d. value_units d + 2 ≤ 4 * node_size b1) (sym same) gl in
        away (suc m) ρ hk m (suc (suc m)) xa v1 t h nr slot i (inr (inr (inl (record { frames = frame.Return u ∷ fs; node = b1; goal = vg; continuation = bk; is = refl }))), omega (arith, kont_light P (ρb (suc m) ρ hk (suc (suc m))) v1 (frame.Return u ∷ fs) bk, gl1))

    goal_by : (v1 : World) (c : Bool) → same_world v1 u ≡ c → ρ xa ≡ atom (leaf_form.Addr v1) → Meets P u (if c then run u (block.ends (go m k)) (suc m) ρ t else run u (away_with_goal T va xa m k (suc m)) (suc m) ρ t) (at (leaf (leaf_form.Addr v1)))
    goal_by v1 true i q = goal_here v1 i
    goal_by v1 false i q = goal_away v1 q i

    pub goal_head : {d : Value} {v : Expression} → Head P d v → ρ xa ≡ d → Meets P u (tested u if_here d (λ parts. run u (block.ends (go m k)) (filled_by parts (suc m)) (put_all (suc m) parts ρ) t) (λ parts. run u (away_with_goal T va xa m k (suc m)) (filled_by parts (suc m)) (put_all (suc m) parts ρ) t)) (at v)
    goal_head (atoms (leaf_form.Addr v1) i) q = goal_by v1 (same_world v1 u) refl q
    goal_head {d} {v} _ q = no_address d v (block.ends (go m k)) (away_with_goal T va xa m k (suc m)) (suc m) ρ refl refl
