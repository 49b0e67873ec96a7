-- A block under labels runs as the one of which it is made.
use Rattle.std.proofs.Common.{◌≡◌, ℕ, suc, ◌+◌, ◌-◌, ◌<◌, List, [], ◌∷◌, map, length, Bool, IsTrue, ◌==◌, ◌||◌, refl, sym, ap, ◌∙◌, subst, arith}
use Rattle.std.specs.List.{AllZip}
use Rattle.m5_terms.specs.Substitution.{among}
use Rattle.m5_terms.specs.declared.types.World.{World}
use Rattle.m5_terms.specs.declared.form.LeafForm.{LeafForm}
use Rattle.m5_terms.specs.declared.form.LeafForm.TheVariants as leaf_form
use Rattle.m5_typing.specs.Context.{Setting}
use Rattle.m5_cps_typing.specs.Rows.{Kinds, straight_type}
use Rattle.m5_cps.specs.Entries.{Entry, entry_type}
use Rattle.m5_cps.specs.Blocks.{Straight, constant, Test, Code, straight, closure, test, ends}
use Rattle.m5_cps.specs.Limits.{parts_then, parts_else}
use Rattle.m5_cps.specs.Values.{atom, closed, put, put_all, filled_by}
use Rattle.m5_cps.specs.Units.{closure_units}
use Rattle.m5_cps.specs.Deeds.{Ran, taking, performed}
use Rattle.m5_cps.specs.Captured.{over, uses, straight_uses, ending_uses, captured}
use Rattle.m5_cps.specs.Captured as cps
use Rattle.m5_cps.specs.Running as cps_running
use Rattle.m5_flat.specs.Blocks.{Blocks}
use Rattle.m5_flat.specs.Blocks as target
use Rattle.m5_flat.specs.Values.{under, taken}
use Rattle.m5_flat.specs.Values as flat
use Rattle.m5_flat.specs.Running.{run}
use Rattle.m5_close.specs.Close.{types_then, types_else, free, anew, IsFunction, IsFunctionMade, IsStraightMade, IsMade}
use Rattle.m5_close.specs.Reading.{Reads, ReadsSite}
use Rattle.m5_close.proofs.Slots.{Environment, slot, fill, or_left, or_right, itself, free_used, got_among, taken_at, taken_past, captured_length, map_long}
use Rattle.m5_close.proofs.Heads.{RanReads, taking_reads, same_length}
use Rattle.m5_close.proofs.Made.{GoesWith, performs}
use Rattle.m5_close.proofs.Asked.{Both, ended_reads, tests}

filled_count : {A : Type 0} (ys : List A) (n : ℕ) → filled_by ys n ≡ length ys + n
filled_count [] n = omega arith
filled_count (y ∷ ys) n = omega (arith, filled_count ys (suc n))

module _ (E : Setting) (B : Blocks) (L : List ℕ) (u : World) (n0 : ℕ) (ls : List ℕ) where
  -- what is used of the slots outside is taken
  abbrev pub Covers : (ℕ → Bool) → Type 0
  Covers p = (l : ℕ) → IsTrue (p l) → l < n0 → IsTrue (among l ls)

  right_of : (p q : ℕ → Bool) → Covers (λ l. p l || q l) → Covers q
  right_of p q h l e = h l (or_right (p l) (q l) e)

  left_of : (p q : ℕ → Bool) → Covers (λ l. p l || q l) → Covers p
  left_of p q h l e = h l (or_left (p l) (q l) e)

  -- slots that are used
  named : (p : ℕ → Bool) (n : ℕ) (σ : ℕ → flat.Value) (ρ : ℕ → cps.Value) → Environment E B L n0 ls n σ ρ → Covers p → (x : ℕ) → IsTrue (p x) → Reads E B L (σ (anew n0 ls x)) (ρ x)
  named p n σ ρ e cv x i = slot E B L n0 ls n σ ρ x e (cv x i)

  abbrev At : ℕ → ℕ → Type 0
  At m n = m ≡ length ls + (n - n0)

  next_at : (n m : ℕ) (σ : ℕ → flat.Value) (ρ : ℕ → cps.Value) → At m n → Environment E B L n0 ls n σ ρ → At (suc m) (suc n)
  next_at n m σ ρ q e = omega (arith, q, e.long)

  -- a test's parts fill slots
  fill_all : (xs : List flat.Value) (ys : List cps.Value) (n m : ℕ) (σ : ℕ → flat.Value) (ρ : ℕ → cps.Value) → At m n → Environment E B L n0 ls n σ ρ → AllZip (Reads E B L) xs ys → At (filled_by xs m) (filled_by ys n) × Environment E B L n0 ls (filled_by ys n) (put_all m xs σ) (put_all n ys ρ)
  fill_all [] [] n m σ ρ q e h = (q, e)
  fill_all [] (y ∷ ys) n m σ ρ q e h = absurd h
  fill_all (x ∷ xs) [] n m σ ρ q e h = absurd h
  fill_all (x ∷ xs) (y ∷ ys) n m σ ρ q e h = fill_all xs ys (suc n) (suc m) (put m x σ) (put n y ρ) (next_at n m σ ρ q e) (fill E B L n0 ls n m σ ρ x y q e h.0) h.1

  abbrev Runs : Code → Type 0
  Runs c = (b : World) (τ : Kinds) (n m : ℕ) (d : target.Code) (σ : ℕ → flat.Value) (ρ : ℕ → cps.Value) (t : flat.Site) (s : cps.Site) → At m n → IsMade E B L (anew n0 ls) b τ n c d → Covers (uses c) → Environment E B L n0 ls n σ ρ → ReadsSite E B L t s → RanReads E B L (run B u d m σ t) (cps_running.run u c n ρ s)

  -- a function's closure is made, which takes nothing
  module _ (m : ℕ) (d e : target.Code) (σ : ℕ → flat.Value) (t : flat.Site) (s : cps.Site) (g : cps.Site → cps.Value → Ran cps.Closure) (go : GoesWith E B L (λ t1 a. run B u e (suc m) (put m a σ) t1) g) (h : ReadsSite E B L t s) where
    function : (f : LeafForm) (ρ : ℕ → cps.Value) → IsFunctionMade E B L f d e → ((i : ℕ) → IsFunction E B L i f → Reads E B L (closed (under i 0) (taken [] σ)) (atom f)) →
        ((x : Ran flat.Closure) → RanReads E B L x (taking (closure_units 0) s (λ s1. g s1 (atom f))) → RanReads E B L x (performed u (constant f) ρ s g)) → RanReads E B L (run B u d m σ t) (performed u (constant f) ρ s g)
    function f ρ md r by = subst (λ z. RanReads E B L (run B u z m σ t) (performed u (constant f) ρ s g)) (sym md.1)
        (let f1 : flat.Site → Ran flat.Closure = λ t1. run B u e (suc m) (put m (closed (under md.0 0) (taken [] σ)) σ) t1 in
        by (taking (closure_units 0) t f1) (taking_reads E B L (closure_units 0) (closure_units 0) t s f1 (λ s1. g s1 (atom f)) refl h (λ t1 s1 h1. go t1 s1 (closed (under md.0 0) (taken [] σ)) (atom f) h1 (r md.0 md.2))))

    formed : (f : Straight) (ρ : ℕ → cps.Value) → IsStraightMade E B L (anew n0 ls) f d e → ((x : ℕ) → IsTrue (straight_uses f x) → Reads E B L (σ (anew n0 ls x)) (ρ x)) → RanReads E B L (run B u d m σ t) (performed u f ρ s g)
    formed (constant (leaf_form.Glob f)) ρ md v = function (leaf_form.Glob f) ρ md (λ i k. (k, refl, taken_past [] σ)) (λ x k. k)
    formed (constant (leaf_form.Extern f)) ρ md v = function (leaf_form.Extern f) ρ md (λ i k. (k, refl, taken_past [] σ)) (λ x k. k)
    formed f ρ md v = subst (λ z. RanReads E B L (run B u z m σ t) (performed u f ρ s g)) (sym md) (performs E B L u (λ t1 a. run B u e (suc m) (put m a σ) t1) g go (anew n0 ls) σ ρ t s f tt v h)

  straight_runs : (f : Straight) (c : Code) → Runs c → Runs (straight f c)
  straight_runs f c ih w τ n m d σ ρ t s q md cv e h =
      let go : GoesWith E B L (λ t1 a. run B u md.0 (suc m) (put m a σ) t1) (λ s1 b. cps_running.run u c (suc n) (put n b ρ) s1) = λ t1 s1 a b h1 r. ih w (put n (straight_type E w τ f) τ) (suc n) (suc m) md.0 (put m a σ) (put n b ρ) t1 s1 (next_at n m σ ρ q e) md.2 (right_of (straight_uses f) (uses c) cv) (fill E B L n0 ls n m σ ρ a b q e r) h1 in
      formed m d md.0 σ t s (λ s1 b. cps_running.run u c (suc n) (put n b ρ) s1) go h f ρ md.1 (named (straight_uses f) n σ ρ e (left_of (straight_uses f) (uses c) cv))

  closure_runs : (y : Entry) (b c : Code) → Runs c → Runs (closure y b c)
  closure_runs y b c ih w τ n m d σ ρ t s q md cv e h =
      let vs : List ℕ = map (anew n0 ls) (free n b) in
      let a : flat.Value = closed (under md.0 (length vs)) (taken vs σ) in
      let cvb = left_of (uses b) (uses c) cv in
      let r : Reads E B L a (closed (over y n b) ρ) = (
        (τ, md.3),
        map_long (anew n0 ls) (free n b),
        taken_past vs σ,
        e.empty,
        λ j l g. subst (λ z. Reads E B L z (ρ l)) (sym (taken_at (anew n0 ls) (free n b) σ j l g)) (slot E B L n0 ls n σ ρ l e (λ lt. cvb l (free_used n l b (got_among (free n b) j l g)).1 lt)),
      ) in
      subst (λ z. RanReads E B L (run B u z m σ t) (cps_running.run u (closure y b c) n ρ s)) (sym md.2)
      (taking_reads E B L (closure_units (length vs)) (closure_units (captured n b)) t s (λ t1. run B u md.1 (suc m) (put m a σ) t1) (λ s1. cps_running.run u c (suc n) (put n (closed (over y n b) ρ) ρ) s1) (ap closure_units (map_long (anew n0 ls) (free n b) ∙ sym (captured_length n b))) h
      (λ t1 s1 h1. ih w (put n (entry_type y) τ) (suc n) (suc m) md.1 (put m a σ) (put n (closed (over y n b) ρ) ρ) t1 s1 (next_at n m σ ρ q e) md.4 (right_of (uses b) (uses c) cv) (fill E B L n0 ls n m σ ρ a (closed (over y n b) ρ) q e r) h1))

  -- either way of a test goes on over the slots of its parts
  branch : (b : Code) (k : ℕ) → Runs b → (w : World) (τ : Kinds) (n m : ℕ) (d : target.Code) (σ : ℕ → flat.Value) (ρ : ℕ → cps.Value) (t : flat.Site) (s : cps.Site) → At m n → IsMade E B L (anew n0 ls) w τ (k + n) b d → Covers (uses b) → Environment E B L n0 ls n σ ρ → ReadsSite E B L t s →
      Both E B L k (λ xs. run B u d (filled_by xs m) (put_all m xs σ) t) (λ ys. cps_running.run u b (filled_by ys n) (put_all n ys ρ) s)
  branch b k ih w τ n m d σ ρ t s q md cv e h xs ys long r =
      let f = fill_all xs ys n m σ ρ q e r in
      ih w τ (filled_by ys n) (filled_by xs m) d (put_all m xs σ) (put_all n ys ρ) t s f.0 (subst (λ z. IsMade E B L (anew n0 ls) w τ z b d) (let q : k + n ≡ filled_by ys n = omega (arith, filled_count ys n, long, same_length (Reads E B L) xs ys r) in q) md) cv f.1 h

  test_runs : (k : Test) (x : ℕ) (b c : Code) → Runs b → Runs c → Runs (test k x b c)
  test_runs k x b c ihb ihc w τ n m d σ ρ t s q md cv e h =
      let cv1 = right_of (λ l. l == x) (λ l. uses b l || uses c l) cv in
      subst (λ z. RanReads E B L (run B u z m σ t) (cps_running.run u (test k x b c) n ρ s)) (sym md.2)
      (tests E B L u k _ _ _ _ (branch b (parts_then k) ihb w (put_all n (types_then k (τ x)) τ) n m md.0 σ ρ t s q md.3 (left_of (uses b) (uses c) cv1) e h) (branch c (parts_else k) ihc w (put_all n (types_else k (τ x)) τ) n m md.1 σ ρ t s q md.4 (right_of (uses b) (uses c) cv1) e h) (σ (anew n0 ls x)) (ρ x)
      (named (λ l. l == x) n σ ρ e (left_of (λ l. l == x) (λ l. uses b l || uses c l) cv) x (itself x)))

  pub runs : (c : Code) → Runs c
  runs (straight f c) = straight_runs f c (runs c)
  runs (closure y b c) = closure_runs y b c (runs c)
  runs (test k x b c) = test_runs k x b c (runs b) (runs c)
  runs (ends k) = λ w τ n m d σ ρ t s q md cv e h. subst (λ z. RanReads E B L (run B u z m σ t) (cps_running.run u (ends k) n ρ s)) (sym md) (ended_reads E B L (anew n0 ls) σ ρ t s k (named (ending_uses k) n σ ρ e cv) h)
