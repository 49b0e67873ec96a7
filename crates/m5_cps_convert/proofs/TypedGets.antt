-- A get fits: its goal, its value and what sends the value back stand at the address alone.
use Rattle.std.proofs.Common.{◌≡◌, ◌≢◌, inl, inr, ℕ, suc, ◌<◌, Bool, true, false, ◌||◌, IsTrue, Option, Some, None, ⊎_elim, refl, sym, subst, ◌∙◌, arith}
use Rattle.m5_terms.specs.Expression.{Expression, leaf, binary}
use Rattle.m5_terms.specs.TypeExpression.{TypeExpression, address, mobile, same_world}
use Rattle.m5_terms.specs.declared.types.World.{World}
use Rattle.m5_terms.specs.declared.types.World.TheVariants.{Any}
use Rattle.m5_terms.specs.declared.form.LeafForm.{LeafForm}
use Rattle.m5_terms.specs.declared.form.LeafForm.TheVariants as leaf_form
use Rattle.m5_terms.specs.declared.form.BinaryForm.TheVariants as binary_form
use Rattle.m5_typing.specs.Context.{local, valid, Context, Setting}
use Rattle.m5_typing.specs.Rules.{LeafRule}
use Rattle.m5_typing.specs.Typing.{Typed}
use Rattle.m5_cps.specs.Entries.{SlotType, of, takes, Mode, only, everywhere, by_value}
use Rattle.m5_cps.specs.Blocks.{Code, straight, closure, test, constant, one, two, spawn, unheld, unsham, if_true, if_left, if_nil, if_here, go, call, ask}
use Rattle.m5_cps.specs.Blocks as block
use Rattle.m5_cps.specs.Slots.{Slots, fill, Needs, HasType, entered_at}
use Rattle.m5_cps.specs.Fits.{Chosen, Fits}
use Rattle.m5_cps.specs.TypeParts.{place_of}
use Rattle.m5_cps.specs.TypeOf.{type_of}
use Rattle.m5_cps_typing.proofs.Found.{found}
use Rattle.m5_cps_convert.specs.Scopes.{VariableSlots}
use Rattle.m5_cps_convert.specs.Continuations.{Tail, Then, reify}
use Rattle.m5_cps_convert.specs.Forms.{homeward, back_code, away_with_goal, away_with_value, get_value, get_goal, get_variable, get_code, variable_of}
use Rattle.m5_cps_convert.specs.Convert.{is_plain, asks_at_once, away_to, get_parts, cps}
use Rattle.m5_cps_convert.proofs.TypedSlots.{same_on, filled, needs_own, needs_on, needs_as, Vars, vars_on, taken, taken_captures, taken_vars, taken_needs}
use Rattle.m5_cps_convert.proofs.TypedKonts.{sc, node, entered_same, TakesAt, reified, Fit, here_fit}
use Rattle.m5_cps_convert.proofs.TypedForms.{not_form}
use Rattle.m5_terms.proofs.SiteWorlds.{same-true, same-false}
use Rattle.m5_cps.specs.Captured.{uses}
use Rattle.m5_cps_convert.proofs.Uses.{OccursLeaf, Occurs, Fine, Safe, safe_go, tail_safe, away_goal_safe, away_value_safe, goer_safe, first_used, used}
use Rattle.m5_cps_convert.proofs.Leaving.{IsAway, away_is}

either : {X : Type 0} (a b : Bool) → (IsTrue a → X) → (IsTrue b → X) → IsTrue (a || b) → X
either true b f g h = f refl
either false b f g h = g h

module _ (E : Setting) (w v : World) (B : TypeExpression) (here : w ≢ Any) (there : v ≢ Any) (mo : IsTrue (mobile B)) where
  has_type : (S : Slots) (l : ℕ) (m : Mode) (T : SlotType) → Needs S l m T → HasType S l
  has_type S l m T h = (h.0, T, h.1)

  -- a test of the address, where both ways use slots that have types
  tested : (S : Slots) (n x : ℕ) (c e : Code) → Needs S x (only w) (of (address v)) → Safe n (λ l. HasType S l) c → Safe n (λ l. HasType S l) e → (v ≡ w → Fits E w n S c) → (v ≢ w → Fits E w n S e) → Fits E w n S (test if_here x c e)
  tested S n x c e dx sc1 se f g = (v, there, here, dx, way (same_world v w) refl, λ l h q. either (uses c l) (uses e l) (sc1.by l h) (se.by l h) q)
    where
      way : (t : Bool) → same_world v w ≡ t → Chosen t (Fits E w n S c) (Fits E w n S e)
      way true q = f (same-true v w q)
      way false q = g (same-false v w q)

  -- where the address of this world fills slot n: what sends back is made, and then comes such an ending
  back_fits : (S : Slots) (n k : ℕ) → v ≢ w → k < n → Needs S k (only w) (takes (of B)) →
      Fits E v (suc (suc (suc n))) (entered_at v (suc n) (takes (of B)) (of B) (taken (fill n (only w) (of (address w)) S))) (back_code n k (suc n))
  back_fits S n k ne j d =
      let S2 = fill n (only w) (of (address w)) S in
      let S3 = entered_at v (suc n) (takes (of B)) (of B) (taken S2) in
      let on = entered_same v (suc n) (takes (of B)) (of B) (taken S2) in (
        w,
        of B,
        here,
        there,
        (λ e. ne (sym e)),
        needs_on (suc n) (taken S2) S3 n (only v) (of (address w)) (omega arith) on (needs_as (taken S2) n everywhere (only v) (of (address w)) tt (taken_needs S2 n everywhere (of (address w)) tt (needs_as S2 n (only w) everywhere (of (address w)) refl (needs_own n (only w) (of (address w)) S)))),
        needs_on (suc n) (taken S2) S3 k (only w) (takes (of B)) (omega (arith, j)) on (taken_needs S2 k (only w) (takes (of B)) here (needs_on n S S2 k (only w) (takes (of B)) j (filled n (only w) (of (address w)) S) d)),
        needs_as S3 (suc (suc n)) (only v) (only w) (of B) (inr mo) (needs_own (suc (suc n)) (only v) (of B) (fill (suc n) (only v) (takes (of B)) (taken S2))),
      )

  sends : (S : Slots) (n k : ℕ) (e : block.Ending) → v ≢ w → k < n → Needs S k (only w) (takes (of B)) → Fits E w (suc (suc n)) (fill (suc n) (only v) (takes (of B)) (fill n (only w) (of (address w)) S)) (block.ends e) →
      Fits E w n S (straight (constant leaf_form.Here) (closure (by_value (only v) (of B)) (back_code n k (suc n)) (block.ends e)))
  sends S n k e ne j d f = (only w, address w, refl, ((here, refl), omega arith), (taken (fill n (only w) (of (address w)) S), taken_captures w (only v) (fill n (only w) (of (address w)) S), back_fits S n k ne j d, f))

  -- after these two
  later : (S : Slots) (n l : ℕ) (m : Mode) (T : SlotType) → l < n → Needs S l m T → Needs (fill (suc n) (only v) (takes (of B)) (fill n (only w) (of (address w)) S)) l m T
  later S n l m T i d = needs_on (suc n) (fill n (only w) (of (address w)) S) _ l m T (omega (arith, i)) (filled (suc n) (only v) (takes (of B)) (fill n (only w) (of (address w)) S)) (needs_on n S _ l m T i (filled n (only w) (of (address w)) S) d)

  goal_away : (S : Slots) (n x g k : ℕ) → v ≢ w → x < n → g < n → k < n → Needs S x (only w) (of (address v)) → Needs S g (only v) (takes (takes (of B))) → Needs S k (only w) (takes (of B)) → Fits E w n S (away_with_goal B v x g k n)
  goal_away S n x g k ne i h j dx dg dk = sends S n k (block.send x g (suc n)) ne j dk (v, takes (of B), there, here, ne, later S n x _ _ i dx, later S n g _ _ h dg, needs_own (suc n) (only v) (takes (of B)) (fill n (only w) (of (address w)) S))

  value_away : (S : Slots) (n x l k : ℕ) → v ≢ w → x < n → l < n → k < n → Needs S x (only w) (of (address v)) → Needs S l (only v) (of B) → Needs S k (only w) (takes (of B)) → Fits E w n S (away_with_value B v x l k n)
  value_away S n x l k ne i h j dx dl dk = sends S n k (block.send x (suc n) l) ne j dk (v, of B, there, here, ne, later S n x _ _ i dx, needs_own (suc n) (only v) (takes (of B)) (fill n (only w) (of (address w)) S), later S n l _ _ h dl)

  value_fits : (S : Slots) (n x l k : ℕ) → x < n → l < n → k < n → Needs S x (only w) (of (address v)) → Needs S l (only v) (of B) → Needs S k (only w) (takes (of B)) → Fits E w n S (get_value B v x l k n)
  value_fits S n x l k i h j dx dl dk = tested S n x (block.ends (go k l)) (away_with_value B v x l k n) dx
      (safe_go n (λ y. HasType S y) k l (λ q. has_type S k _ _ dk) (λ q. has_type S l _ _ dl))
      (away_value_safe n (λ y. HasType S y) E B v x l k n (omega arith) (λ q. has_type S x _ _ dx) (λ q. has_type S l _ _ dl) (λ q. has_type S k _ _ dk))
      (λ e. (of B, dk, needs_as S l (only v) (only w) (of B) (inl e) dl))
      (λ ne. value_away S n x l k ne i h j dx dl dk)

  goal_fits : (c : Expression) (G : Context) (Γ : VariableSlots) (d : ℕ) (S : Slots) (n x k : ℕ) → Fit E c → Typed E G v c B → Vars w G Γ S n → x < n → k < n → Needs S x (only w) (of (address v)) → Needs S k (only w) (takes (of B)) → Fits E w n S (get_goal B v x (cps E c) (sc G Γ (only w) d) k n)
  goal_fits c G Γ d S n x k uc tc vs i j dx dk =
      let S1 = fill n (only v) (takes (takes (of B))) S in
      let o1 = filled n (only v) (takes (takes (of B))) S in
      let dx1 = needs_on n S S1 x (only w) (of (address v)) i o1 dx in
      let dk1 = needs_on n S S1 k (only w) (takes (of B)) j o1 dk in
      let dg1 = needs_own n (only v) (takes (takes (of B))) S in (
        taken S,
        taken_captures w (only v) S,
        uc (only v) v G B Γ 0 (entered_at v n (takes (takes (of B))) (takes (of B)) (taken S)) (suc (suc n)) (Tail (suc n)) refl tc (vars_on v G Γ (taken S) _ n (suc (suc n)) (omega arith) (entered_same v n (takes (takes (of B))) (takes (of B)) (taken S)) (taken_vars w v G Γ S n there vs)) (omega arith, needs_own (suc n) (only v) (takes (of B)) (fill n (only v) (takes (takes (of B))) (taken S))),
        tested S1 (suc n) x (block.ends (go n k)) (away_with_goal B v x n k (suc n)) dx1
            (safe_go (suc n) (λ y. HasType S1 y) n k (λ q. has_type S1 n _ _ dg1) (λ q. has_type S1 k _ _ dk1))
            (away_goal_safe (suc n) (λ y. HasType S1 y) E B v x n k (suc n) (omega arith) (λ q. has_type S1 x _ _ dx1) (λ q. has_type S1 n _ _ dg1) (λ q. has_type S1 k _ _ dk1))
            (λ e. (takes (of B), needs_as S1 n (only v) (only w) (takes (takes (of B))) (inl e) dg1, dk1))
            (λ ne. goal_away S1 (suc n) x n k ne (omega (arith, i)) (omega arith) (omega (arith, j)) dx1 dg1 dk1),
      )

  variable_fits : (S : Slots) (n x k l : ℕ) (o : Option ℕ) → o ≡ Some l → x < n → l < n → k < n → Needs S x (only w) (of (address v)) → Needs S l (only v) (of B) → Needs S k (only w) (takes (of B)) → Fits E w n S (get_variable B v x o k n)
  variable_fits S n x k l o e i h j dx dl dk = subst (λ p. Fits E w n S (get_variable B v x p k n)) (sym e) (value_fits S n x l k i h j dx dl dk)

  get_fits : (c : Expression) (G : Context) (Γ : VariableSlots) (d : ℕ) (S : Slots) (n x k : ℕ) → Fit E c → Typed E G v c B → Vars w G Γ S n → x < n → k < n → Needs S x (only w) (of (address v)) → Needs S k (only w) (takes (of B)) → Fits E w n S (get_code B v x (variable_of c) (cps E c) (sc G Γ (only w) d) k n)
  get_fits (leaf (leaf_form.Var z)) G Γ d S n x k uc tc vs i j dx dk = let q = vs z (local v B) tc.0 (λ e. absurd (there e)) in variable_fits S n x k q.0 (Γ z) q.1 i q.2 j dx q.3 dk
  get_fits (leaf (leaf_form.Valid z)) G Γ d S n x k uc tc vs i j dx dk = let q = vs z (valid B) tc.0 tt in variable_fits S n x k q.0 (Γ z) q.1 i q.2 j dx (needs_as S q.0 everywhere (only v) (of B) tt q.3) dk
  get_fits c G Γ d S n x k uc tc vs i j dx dk = goal_fits c G Γ d S n x k uc tc vs i j dx dk

  -- the variables of what asks at once have types
  leaf_has : (f : LeafForm) (A : TypeExpression) (G : Context) (Γ : VariableSlots) (S : Slots) (n : ℕ) → Typed E G v (leaf f) A → Vars w G Γ S n → (z l : ℕ) → OccursLeaf z f → Γ z ≡ Some l → HasType S l
  leaf_has (leaf_form.Var x) A G Γ S n t vs z l o e = let q = vs x (local v A) t.0 (λ e. absurd (there e)) in let same : q.0 ≡ l = cc in has_type S l _ _ (subst (λ y. Needs S y (only v) (of A)) same q.3)
  leaf_has (leaf_form.Valid x) A G Γ S n t vs z l o e = let q = vs x (valid A) t.0 tt in let same : q.0 ≡ l = cc in has_type S l _ _ (subst (λ y. Needs S y everywhere (of A)) same q.3)
  leaf_has _ A G Γ S n t vs z l o e = absurd o

  plain_has : (c : Expression) → is_plain c ≡ true → (A : TypeExpression) (G : Context) (Γ : VariableSlots) (S : Slots) (n : ℕ) → Typed E G v c A → Vars w G Γ S n → (z l : ℕ) → Occurs z c → Γ z ≡ Some l → HasType S l
  plain_has (leaf f) p A G Γ S n t vs z l o e = leaf_has f A G Γ S n t vs z l o e
  plain_has (binary binary_form.Pair (leaf f) (leaf g)) p A G Γ S n t vs z l (inl o) e = leaf_has f _ G Γ S n t.first vs z l o e
  plain_has (binary binary_form.Pair (leaf f) (leaf g)) p A G Γ S n t vs z l (inr o) e = leaf_has g _ G Γ S n t.second vs z l o.1 e
  plain_has _ p A G Γ S n t vs z l o e = absurd (cc)

  asks_has : (c : Expression) → asks_at_once c ≡ true → (G : Context) (Γ : VariableSlots) (S : Slots) (n : ℕ) → Typed E G v c B → Vars w G Γ S n → (z l : ℕ) → Occurs z c → Γ z ≡ Some l → HasType S l
  asks_has (binary binary_form.Call (leaf (leaf_form.Extern p)) b) q G Γ S n t vs z l (inl o) e = absurd o
  asks_has (binary binary_form.Call (leaf (leaf_form.Extern p)) b) q G Γ S n t vs z l (inr o) e = plain_has b q _ G Γ S n t.second vs z l o.1 e
  asks_has _ q G Γ S n t vs z l o e = absurd (cc)

  -- what sends a value home, from a block at v
  home_takes : (S : Slots) (n k : ℕ) → v ≢ w → k < n → Needs S k (only w) (takes (of B)) → TakesAt E v (only v) S n (homeward w k) B
  home_takes S n k ne j dk = λ R x p i h jx dx.
      let R1 = fill p (only v) (of (address w)) R in
      let on = filled p (only v) (of (address w)) R in
      (only v, address w, refl, ((here, refl), omega arith), (w, of B, here, there, (λ e. ne (sym e)), needs_own p (only v) (of (address w)) R, needs_on p R R1 k (only w) (takes (of B)) (omega (arith, j, i)) on (needs_on n S R k (only w) (takes (of B)) j h dk), needs_as R1 x (only v) (only w) (of B) (inr mo) (needs_on p R R1 x (only v) (of B) jx on dx)))

  -- a block for the body goes with the continuation
  goer_fits : (c : Expression) (G : Context) (Γ : VariableSlots) (d : ℕ) (S : Slots) (n k : ℕ) → v ≢ w → Fit E c → Typed E G v c B → Vars w G Γ S n → k < n → Needs S k (only w) (takes (of B)) → Fits E w (suc n) (fill n (only w) (of (address w)) S) (straight (constant (leaf_form.Addr v)) (closure (by_value (only v) (of (address w))) (cps E c (sc G Γ (only v) 0) (suc (suc (suc (suc n)))) (homeward w k)) (block.ends (block.send (suc n) (suc (suc n)) n))))
  goer_fits c G Γ d S n k ne uc tc vs j dk =
      let S1 = fill n (only w) (of (address w)) S in
      let S2 = fill (suc n) (only w) (of (address v)) S1 in
      let S3 = fill (suc (suc n)) (only v) (takes (of (address w))) S2 in
      let S4 = entered_at v (suc (suc n)) (takes (of (address w))) (of (address w)) (taken S2) in
      let o1 = filled n (only w) (of (address w)) S in
      let o2 = filled (suc n) (only w) (of (address v)) S1 in
      let o3 = filled (suc (suc n)) (only v) (takes (of (address w))) S2 in
      let o12 = same_on n (suc n) S S1 S2 (omega arith) o1 o2 in
      let on = entered_same v (suc (suc n)) (takes (of (address w))) (of (address w)) (taken S2) in
      let dk4 : Needs S4 k (only w) (takes (of B)) = needs_on (suc (suc n)) (taken S2) S4 k (only w) (takes (of B)) (omega (arith, j)) on (taken_needs S2 k (only w) (takes (of B)) here (needs_on n S S2 k (only w) (takes (of B)) j o12 dk)) in (
        only w,
        address v,
        refl,
        ((there, refl), omega arith),
        (
          taken S2,
          taken_captures w (only v) S2,
          uc (only v) v G B Γ 0 S4 (suc (suc (suc (suc n)))) (homeward w k) refl tc (vars_on v G Γ (taken S2) S4 (suc (suc n)) (suc (suc (suc (suc n)))) (omega arith) on (taken_vars w v G Γ S2 (suc (suc n)) there (vars_on w G Γ S S2 n (suc (suc n)) (omega arith) o12 vs))) (home_takes S4 (suc (suc (suc (suc n)))) k ne (omega (arith, j)) dk4),
          (
            v,
            of (address w),
            there,
            here,
            ne,
            needs_on (suc (suc n)) S2 S3 (suc n) (only w) (of (address v)) (omega arith) o3 (needs_own (suc n) (only w) (of (address v)) S1),
            needs_own (suc (suc n)) (only v) (takes (of (address w))) S2,
            needs_as S3 n (only w) (only v) (of (address w)) (inr refl) (needs_on (suc (suc n)) S2 S3 n (only w) (of (address w)) (omega arith) o3 (needs_on (suc n) S1 S2 n (only w) (of (address w)) (omega arith) o2 (needs_own n (only w) (of (address w)) S))),
          ),
        ),
      )

-- the world that is written is another, so that block goes there
away_fits : (E : Setting) (w v : World) (B A : TypeExpression) (here : w ≢ Any) (there : v ≢ Any) (mo : IsTrue (mobile B)) (c : Expression) (G : Context) (Γ : VariableSlots) (d : ℕ) (S : Slots) (n k : ℕ) → IsAway (leaf (leaf_form.Addr v)) c w v → Fit E c → Typed E G v c B → Vars w G Γ S n → k < n → Needs S k (only w) (takes (of B)) →
    Fits E w n S (get_parts (Some v) B A (variable_of c) (cps E (leaf (leaf_form.Addr v))) (cps E c) (sc G Γ (only w) d) k n)
away_fits E w v B A here there mo c G Γ d S n k is uc tc vs j dk =
    let S1 = fill n (only w) (of (address w)) S in
    let Ok : ℕ → Type 0 = λ l. HasType S1 l in
    let vs1 = vars_on w G Γ S S1 n (suc n) (omega arith) (filled n (only w) (of (address w)) S) vs in
    let fk : Fine (suc n) Ok k = λ q. has_type E w v B here there mo S1 k (only w) (takes (of B)) (needs_on n S S1 k (only w) (takes (of B)) j (filled n (only w) (of (address w)) S) dk) in
    let known : (z l : ℕ) → Occurs z c → Γ z ≡ Some l → Fine (suc n) Ok l = λ z l o e q. asks_has E w v B here there mo c is.asks G Γ S1 (suc n) tc vs1 z l o e in (
      only w,
      address w,
      refl,
      ((here, refl), omega arith),
      tested E w w B here here mo S1 (suc n) n _ _ (needs_own n (only w) (of (address w)) S)
          (goer_safe (suc n) Ok E v w c (sc G Γ (only w) d) k n (used (suc n) Ok E c) (omega arith) known (λ q. has_type E w v B here there mo S1 n (only w) (of (address w)) (needs_own n (only w) (of (address w)) S)) fk)
          (first_used (suc n) Ok E binary_form.Get B A (leaf (leaf_form.Addr v)) c (sc G Γ (only w) d) (suc n) (Tail k) (used (suc n) Ok E (leaf (leaf_form.Addr v))) (used (suc n) Ok E c) (omega arith) (λ z l o e. ⊎_elim (λ q. absurd q) (λ q. known z l q.1 e) o) (tail_safe (suc n) Ok k fk))
          (λ e. goer_fits E w v B here there mo c G Γ d S n k (same-false v w is.other) uc tc vs j dk)
          (λ ne. absurd (ne refl)),
    )

module _ (E : Setting) where
  -- the parts of a get whose continuation is in a slot
  parts_fit : (a c : Expression) → Fit E a → Fit E c → (w : World) (G : Context) (A : TypeExpression) (Γ : VariableSlots) (d : ℕ) (S : Slots) (n k : ℕ) (t : Typed E G w (binary binary_form.Get a c) A) → Vars w G Γ S n → k < n → Needs S k (only w) (takes (of t.pick.b)) → (o : Option World) → away_to w a c ≡ o →
      Fits E w n S (get_parts o t.pick.b (type_of E a G w) (variable_of c) (cps E a) (cps E c) (sc G Γ (only w) d) k n)
  parts_fit a c ua uc w G A Γ d S n k t v j dk None e =
      subst (λ T. Fits E w n S (node E a G (only w) Γ d n (Then (λ x q. get_code t.pick.b (place_of T) x (variable_of c) (cps E c) (sc G Γ (only w) d) k q)))) (sym (found E a G w _ t.first))
      (ua (only w) w G _ Γ d S n _ refl t.first v
      (λ Q x q i h j2 k2. get_fits E w t.pick.v t.pick.b t.side.0 t.side.1 t.side.2 c G Γ d Q q x k uc t.second (vars_on w G Γ S Q n q i h v) j2 (omega (arith, j, i)) k2 (needs_on n S Q k (only w) _ j h dk)))
  parts_fit a c ua uc w G A Γ d S n k t v j dk (Some y) e =
      let is = away_is a c w y e in
      let rule : LeafRule E G w (leaf_form.Addr y) (address t.pick.v) = (subst (λ b. Typed E G w b (address t.pick.v)) is.address t.first).0 in
      let same : t.pick.v ≡ y = cc in
      subst (λ b. Fits E w n S (get_parts (Some y) t.pick.b (type_of E a G w) (variable_of c) (cps E b) (cps E c) (sc G Γ (only w) d) k n)) (sym is.address)
      (away_fits E w y t.pick.b (type_of E a G w) t.side.0 rule.0 t.side.2 c G Γ d S n k (subst (λ b. IsAway b c w y) is.address is) uc (subst (λ z. Typed E G z c t.pick.b) same t.second) v j dk)

  pub get_fit : (a c : Expression) → Fit E a → Fit E c → Fit E (binary binary_form.Get a c)
  get_fit a c ua uc = here_fit E _ not_form (λ w G A Γ d S n κ t v k.
      subst (λ T. Fits E w n S (reify (by_value (only w) (of T)) κ n (λ l p. get_parts (away_to w a c) T (type_of E a G w) (variable_of c) (cps E a) (cps E c) (sc G Γ (only w) d) l p))) (sym (found E (binary binary_form.Get a c) G w A t ∙ t.is))
      (reified E w S n κ t.pick.b _ (subst (TakesAt E w (only w) S n κ) t.is k)
      (λ R l p i h j k1. parts_fit a c ua uc w G A Γ d R p l t (vars_on w G Γ S R n p i h v) j k1 (away_to w a c) refl)))
