-- The code that begins at a place, from the step there and the code that it goes on to.
use Rattle.std.proofs.Common.{◌≡◌, ◌≢◌, ℕ, zero, suc, ◌+◌, ◌<◌, ◌≤◌, ◌==◌, true, false, if◌then◌else◌, List, [], ◌∷◌, length, Option, Some, None, slice_get, refl, sym, ap, ◌∙◌, subst, inl, inr, arith}
use Rattle.std.proofs.lemmas.Bool.Decides.{eqb_tells}
use Rattle.m5_terms.specs.TypeExpression.{TypeExpression}
use Rattle.std.proofs.lemmas.Bool.{cases_lt}
use Rattle.m5_flat.specs.Blocks.{Code, straight, closure, test, ends}
use Rattle.m5_cps.specs.declared.step.Straight.{Straight}
use Rattle.m5_cps.specs.declared.step.Test.{Test}
use Rattle.m5_cps.specs.declared.step.Ending.{Ending}
use Rattle.m5_flat.specs.declared.step.Step.{Step}
use Rattle.m5_flat.specs.declared.step.Step.TheVariants as steps
use Rattle.m5_flat.specs.Table.{Table, or_done, code_in, HasCode, Names, Shows}
use Rattle.m5_cps.specs.Steps.{straight_of, test_of, ending_of}
use Rattle.m5_flat.specs.Steps.{after, after_both, code_with, code_from, code_at}

same_place : (q p : ℕ) → q ≡ p → (q == p) ≡ true
same_place q p e = elim (eqb_tells q p) [ inl h ↦ h.0 | inr h ↦ absurd (h.1 e) ]

other_place : (q p : ℕ) → q ≢ p → (q == p) ≡ false
other_place q p n = elim (eqb_tells q p) [ inl h ↦ absurd (n h.1) | inr h ↦ h.0 ]

-- no code begins before the first place
before : (types : List TypeExpression) (p : ℕ) (ss : List Step) (r : ℕ) → r < p → code_from types p ss r ≡ None
unfolding code_from
before types p [] r l = refl
before types p (s ∷ ss) r l =
    ap (λ b. if b then code_with types s (suc p) (code_from types (suc p) ss) else code_from types (suc p) ss r) (other_place r p (λ d. absurd (omega (arith, l, d))))
    ∙ before types (suc p) ss r (omega (arith, l))

-- the code that begins with the step at q, over the code of the places behind it
record Begins (types : List TypeExpression) (p : ℕ) (ss : List Step) (s : Step) (q : ℕ) : Type 0 where
  later : ℕ → Option Code
  same : (r : ℕ) → q < r → later r ≡ code_from types p ss r
  none : (r : ℕ) → r ≤ q → later r ≡ None
  is : code_from types p ss q ≡ code_with types s (suc q) later

here : (types : List TypeExpression) (p : ℕ) (s : Step) (rest : List Step) (q : ℕ) → q ≡ p → Begins types p (s ∷ rest) s q
unfolding code_from
here types p s rest q e = record {
  later = code_from types (suc p) rest;
  same = λ r l. sym (ap (λ b. if b then code_with types s (suc p) (code_from types (suc p) rest) else code_from types (suc p) rest r) (other_place r p (λ d. absurd (omega (arith, l, e, d)))));
  none = λ r l. before types (suc p) rest r (omega (arith, l, e));
  is = ap (λ b. if b then code_with types s (suc p) (code_from types (suc p) rest) else code_from types (suc p) rest q) (same_place q p e)
      ∙ ap (λ n. code_with types s (suc n) (code_from types (suc p) rest)) (sym e);
}

further : (types : List TypeExpression) (p : ℕ) (t : Step) (rest : List Step) (s : Step) (q : ℕ) → p < q → Begins types (suc p) rest s q → Begins types p (t ∷ rest) s q
unfolding code_from
further types p t rest s q l b = record {
  later = b.later;
  same = λ r m. b.same r m ∙ sym (ap (λ c. if c then code_with types t (suc p) (code_from types (suc p) rest) else code_from types (suc p) rest r) (other_place r p (λ d. absurd (omega (arith, l, m, d)))));
  none = b.none;
  is = ap (λ c. if c then code_with types t (suc p) (code_from types (suc p) rest) else code_from types (suc p) rest q) (other_place q p (λ d. absurd (omega (arith, l, d)))) ∙ b.is;
}

begins : (types : List TypeExpression) (p : ℕ) (ss : List Step) (s : Step) (i q : ℕ) → q ≡ p + i → slice_get ss i ≡ Some s → Begins types p ss s q
begins types p [] s i q e g = absurd (cc)
begins types p (t ∷ rest) s zero q e g =
    let same : t ≡ s = cc in
    subst (λ u. Begins types p (t ∷ rest) u q) same (here types p t rest q (let z : q ≡ p = omega (arith, e) in z))
begins types p (t ∷ rest) s (suc i) q e g =
    further types p t rest s q (let z : p < q = omega (arith, e) in z) (begins types (suc p) rest s i q (let z : q ≡ suc p + i = omega (arith, e) in z) g)

-- a straight form, and what stands right behind it
pub straight_stands : (types : List TypeExpression) (ss : List Step) (p : ℕ) (f : Straight) (c : Code) → slice_get ss p ≡ Some (steps.Straight f)
    → code_at types ss (suc p) ≡ Some c → code_at types ss p ≡ Some (straight (straight_of types f) c)
straight_stands types ss p f c g h =
    let b = begins types 0 ss (steps.Straight f) p p (let z : p ≡ 0 + p = omega arith in z) g in
    b.is ∙ ap (after (straight (straight_of types f))) (b.same (suc p) (let z : p < suc p = omega arith in z) ∙ h)

-- a closure, and what goes on
pub closure_stands : (types : List TypeExpression) (ss : List Step) (p : ℕ) (ls : List ℕ) (i next : ℕ) (c : Code) → slice_get ss p ≡ Some (steps.Closure ls i next)
    → p < next → code_at types ss next ≡ Some c → code_at types ss p ≡ Some (closure ls i c)
closure_stands types ss p ls i next c g ln hn =
    let w = begins types 0 ss (steps.Closure ls i next) p p (let z : p ≡ 0 + p = omega arith in z) g in
    w.is ∙ ap (after (closure ls i)) (w.same next ln ∙ hn)

-- a test and both ways
pub test_stands : (types : List TypeExpression) (ss : List Step) (p : ℕ) (t : Test) (x second : ℕ) (b c : Code) → slice_get ss p ≡ Some (steps.Test t x second)
    → p < second → code_at types ss (suc p) ≡ Some b → code_at types ss second ≡ Some c → code_at types ss p ≡ Some (test (test_of t) x b c)
test_stands types ss p t x second b c g ls hb hc =
    let w = begins types 0 ss (steps.Test t x second) p p (let z : p ≡ 0 + p = omega arith in z) g in
    w.is ∙ ap (λ o. after_both (test (test_of t) x) o (w.later second)) (w.same (suc p) (let z : p < suc p = omega arith in z) ∙ hb) ∙ ap (after (test (test_of t) x b)) (w.same second ls ∙ hc)

pub ending_stands : (types : List TypeExpression) (ss : List Step) (p : ℕ) (e : Ending) → slice_get ss p ≡ Some (steps.Ends e) → code_at types ss p ≡ Some (ends (ending_of e))
ending_stands types ss p e g = (begins types 0 ss (steps.Ends e) p p (let z : p ≡ 0 + p = omega arith in z) g).is

-- code begins only where there is a step
pub step_there : (types : List TypeExpression) (p : ℕ) (ss : List Step) (q : ℕ) (c : Code) → code_from types p ss q ≡ Some c → q < p + length ss
unfolding code_from
step_there types p [] q c e = absurd (cc)
step_there types p (s ∷ ss) q c e = elim (eqb_tells q p) [
  | inl h ↦ (let same : q ≡ p = h.1 in omega (arith, same))
  | inr h ↦ (let f : code_from types (suc p) ss q ≡ Some c = sym (ap (λ b. if b then code_with types s (suc p) (code_from types (suc p) ss) else code_from types (suc p) ss q) h.0) ∙ e in
      let l : q < suc p + length ss = step_there types (suc p) ss q c f in omega (arith, l))
]

-- what was made of code is made of the code that is there
made_of : (f : Code → Code) (o : Option Code) (c : Code) → after f o ≡ Some c → (d : Code) × (o ≡ Some d) × (c ≡ f d)
made_of f None c e = absurd (cc)
made_of f (Some d) c e = (d, refl, cc)

made_of_both : (f : Code → Code → Code) (o p : Option Code) (c : Code) → after_both f o p ≡ Some c → (d : Code) × (o ≡ Some d) × ((x : Code) × (p ≡ Some x) × (c ≡ f d x))
made_of_both f None p c e = absurd (cc)
made_of_both f (Some d) p c e = let m = made_of (f d) p c e in (d, refl, m)

-- code of a later place begins there
named : (T : Table) (s : Step) (q r : ℕ) (w : Begins T.types 0 T.steps s q) (d : Code) → w.later r ≡ Some d → Names T q r × (code_in T r ≡ d)
named T s q r w d e = elim (cases_lt q r) [
  | inl l ↦ (let f : code_at T.types T.steps r ≡ Some d = sym (w.same r l) ∙ e in
      (record { behind = l; code = record { code = d; is = f } }, ap or_done f))
  | inr l ↦ absurd (let f : w.later r ≡ None = w.none r l in cc)
]

shown_by : (T : Table) (s : Step) (q : ℕ) (w : Begins T.types 0 T.steps s q) (c : Code) → code_with T.types s (suc q) w.later ≡ Some c → code_in T q ≡ c → Shows T q s
shown_by T (steps.Straight f) q w c e h =
    let m = made_of (straight (straight_of T.types f)) (w.later (suc q)) c e in
    let n = named T (steps.Straight f) q (suc q) w m.0 m.1 in
    (h ∙ m.2 ∙ ap (straight (straight_of T.types f)) (sym n.1), n.0)
shown_by T (steps.Closure ls i next) q w c e h =
    let m = made_of (closure ls i) (w.later next) c e in
    let n = named T (steps.Closure ls i next) q next w m.0 m.1 in
    (h ∙ m.2 ∙ ap (closure ls i) (sym n.1), n.0)
shown_by T (steps.Test t x second) q w c e h =
    let m = made_of_both (test (test_of t) x) (w.later (suc q)) (w.later second) c e in
    let n = named T (steps.Test t x second) q (suc q) w m.0 m.1 in
    let o = named T (steps.Test t x second) q second w m.2.0 m.2.1 in
    (h ∙ m.2.2 ∙ ap (λ d. test (test_of t) x d m.2.0) (sym n.1) ∙ ap (test (test_of t) x (code_in T (suc q))) (sym o.1), n.0, o.0)
shown_by T (steps.Ends y) q w c e h = h ∙ cc

pub shown : (T : Table) (q : ℕ) (s : Step) → HasCode T q → slice_get T.steps q ≡ Some s → Shows T q s
shown T q s h g =
    let w = begins T.types 0 T.steps s q q (omega arith) g in
    shown_by T s q w h.code (sym w.is ∙ h.is) (ap or_done h.is)
