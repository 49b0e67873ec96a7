-- Closures and tests whose places were set: what stands for a continuation, for a block of its own, and for a choice.
use Rattle.std.proofs.Common.{◌≡◌, ℕ, suc, ◌<◌, List, [], ◌∷◌, ◌++◌, length, Option, Some, None, slice_set, refl, sym, ap, ◌∙◌, subst, arith}
use Rattle.m5_terms.specs.TypeExpression.{TypeExpression}
use Rattle.m5_cps.specs.Entries as entries
use Rattle.m5_cps.specs.Blocks.{Code, closure, test, ends, done}
use Rattle.m5_cps.specs.declared.entry.Entry.{Entry}
use Rattle.m5_cps.specs.declared.step.Test.{Test}
use Rattle.m5_cps.specs.TypesByNumber.{or_unit}
use Rattle.m5_cps.specs.declared.entry.Entry.TheVariants as ways
use Rattle.m5_cps.specs.declared.entry.Argument.TheVariants as takings
use Rattle.m5_cps.specs.declared.step.Ending.{Ending}
use Rattle.m5_cps.specs.declared.step.Ending.TheVariants as endings
use Rattle.m5_cps.specs.declared.step.Step.{Step}
use Rattle.m5_cps.specs.declared.step.Step.TheVariants as steps
use Rattle.m5_cps.specs.Steps.{mode_of, entry_of, ending_of, test_of, code_at}
use Rattle.m5_cps.proofs.Standing.{closure_stands, test_stands}
use Rattle.m5_cps_convert.specs.Continuations.{Continuation, Tail, Then, reify, taking, thread_end}
use Rattle.m5_cps_convert.specs.Scopes.{Scope}
use Rattle.m5_cps_convert.specs.declared.walk.Around.{Around}
use Rattle.m5_cps_convert.specs.code.Types.{IsAt}
use Rattle.m5_cps_convert.specs.declared.walk.Walk.{Walk}
use Rattle.m5_cps_convert.specs.declared.walk.Goal.{Goal}
use Rattle.m5_cps_convert.specs.declared.walk.Goal.TheVariants as goals
use Rattle.m5_cps_convert.specs.declared.walk.Value.{Value}
use Rattle.m5_cps_convert.specs.declared.closing.Pending.{Pending}
use Rattle.m5_cps_convert.specs.declared.closing.Held.{Held}
use Rattle.m5_cps_convert.specs.code.Writing.{Keeps, Grows, Completes, Writes, Finishes, MeansEntry}
use Rattle.m5_cps_convert.specs.code.Closing.{Opens, Behind, Before, HoldsOpen, Holds, IsThere, HeldIsOpen, Continues, Resumes}
use Rattle.m5_cps_convert.proofs.Growing.{keeps_self, pushed_length, grows_self, grows_trans, grows_push}
use Rattle.m5_cps_convert.proofs.Written.{completes_rest, ended_stands}
use Rattle.m5_cps_convert.proofs.Patched.{Patched, behind, same_end, further_end, patched_grows, patched_there, completes_between}

-- what is written for a continuation in a slot, or at a thread's end, ends
pub tail_finishes : (u w : Walk) (k : ℕ) (v : Value) (c : Continuation → Code) → Writes u w (goals.Tail k) v c → Finishes u w (c (Tail k))
tail_finishes u w k v c h = record { grows = h.grows; stands = λ T S q. h.goes T S (Tail k) q refl }

pub end_finishes : (u w : Walk) (v : Value) (c : Continuation → Code) → Writes u w goals.End v c → Finishes u w (c thread_end)
end_finishes u w v c h = record { grows = h.grows; stands = λ T S q. h.goes T S thread_end q refl }

-- the continuation's block stands behind the code that goes on with its slot
pub before_patches : (u v w x : Walk) (o : Pending) (y : Entry) → Opens u v o → Grows v w → Before w x o y
    → Patched u v w x (steps.Closure y (length w.steps) (suc (length u.steps)))
before_patches u v w x o y p g b = record {
  first = p.step;
  opens = p.steps;
  between = g;
  sets = subst (λ k. x ≡ record w { steps = slice_set w.steps (length u.steps) (steps.Closure y (length w.steps) k) }) p.behind
      (subst (λ k. x ≡ record w { steps = slice_set w.steps k (steps.Closure y (length w.steps) o.behind) }) p.place b.steps);
}

pub behind_patches : (u v w x : Walk) (o : Pending) (y : Entry) → Opens u v o → Grows v w → Behind w x o y
    → Patched u v w x (steps.Closure y (suc (length u.steps)) (length w.steps))
behind_patches u v w x o y p g b = record {
  first = p.step;
  opens = p.steps;
  between = g;
  sets = subst (λ k. x ≡ record w { steps = slice_set w.steps (length u.steps) (steps.Closure y k (length w.steps)) }) p.behind
      (subst (λ k. x ≡ record w { steps = slice_set w.steps k (steps.Closure y o.behind (length w.steps)) }) p.place b.steps);
}

-- a continuation that was made here, between its closure and its block
reified : (u v w x : Walk) (y : Entry) (e : entries.Entry) (n : ℕ) (g : ℕ → ℕ → Code) (f : ℕ → ℕ → Code) (T : List TypeExpression) (S : List Step) (z : Walk)
    → Patched u v w x (steps.Closure y (length w.steps) (suc (length u.steps))) → Grows x z → MeansEntry w.types y e → Finishes v w (g n (suc n)) → Completes T S u z
    → code_at T S (length w.steps) ≡ Some (f (suc n) (suc (suc n))) → code_at T S (length u.steps) ≡ Some (reify e (Then f) n g)
reified u v w x y e n g f T S z p gz m fin c h =
    let between = completes_between T S p gz c in
    let next : code_at T S (suc (length u.steps)) ≡ Some (g n (suc n)) = ap (code_at T S) (sym (behind p)) ∙ fin.stands T S between in
    closure_stands T S (length u.steps) y (length w.steps) (suc (length u.steps)) (f (suc n) (suc (suc n))) (g n (suc n)) (patched_there T S p gz c)
    (further_end p) (omega arith) h next
    ∙ ap (λ i. Some (closure i (f (suc n) (suc (suc n))) (g n (suc n)))) (m.is T between.types)

slots_are : (v : Value) (h : Held) (n : ℕ) (f : ℕ → ℕ → Code) → v.slot ≡ h.filled → v.filled ≡ suc h.filled → h.filled ≡ suc n → f v.slot v.filled ≡ f (suc n) (suc (suc n))
slots_are v h n f a b d = ap (λ x. f x v.filled) (a ∙ d) ∙ ap (λ x. f (suc n) x) (b ∙ ap suc d)

held_open : (u v w : Walk) (goal : Goal) (n : ℕ) (h : Held) (y : Entry) (e : entries.Entry) (g : ℕ → ℕ → Code) → HoldsOpen u v n h → Finishes v w (g h.slot h.filled)
    → Finishes v w (g n (suc n))
held_open u v w goal n h y e g o fin = subst (λ m. Finishes v w (g n m)) o.filled (subst (λ m. Finishes v w (g m h.filled)) o.slot fin)

pub held_grows : (u v w x : Walk) (goal : Goal) (n ty : ℕ) (h : Held) (y : Entry) (val : Value) → Holds u v goal n h → Grows v w → Resumes w x h goal y ty val → Grows u x
held_grows u v w x (goals.Tail k) n ty h y val hd g r =
    let same : x ≡ w = subst (λ o. Continues w x (goals.Tail k) o y) hd.none r.continues in
    subst (λ (z : Walk). Grows u z) (sym same) (subst (λ (z : Walk). Grows z w) hd.same g)
held_grows u v w x goals.Then n ty h y val hd g r =
    let b : Before w x hd.made y = subst (λ o. Continues w x goals.Then o y) hd.some r.continues in
    patched_grows (before_patches u v w x hd.made y hd.opens g b)
held_grows u v w x goals.End n ty h y val hd g r =
    let k : Continues w x goals.End (Some hd.made) y = subst (λ o. Continues w x goals.End o y) hd.some r.continues in
    let more : Grows k.0 x = subst (λ (z : Walk). Grows k.0 z) (sym k.2) (grows_push k.0 (k.0.steps ++ steps.Ends endings.Done ∷ []) (steps.Ends endings.Done) refl) in
    grows_trans (patched_grows (before_patches u v w k.0 hd.made y hd.opens g k.1)) more

-- a slot has the continuation while code is written that ends
pub held_writes : (u v w x : Walk) (goal : Goal) (n ty : ℕ) (h : Held) (y : Entry) (e : entries.Entry) (val : Value) (g : ℕ → ℕ → Code)
    → Holds u v goal n h → Finishes v w (g h.slot h.filled) → Resumes w x h goal y ty val → MeansEntry w.types y e → Writes u x goal val (λ κ. reify e κ n g)
held_writes u v w x (goals.Tail k) n ty h y e val g hd fin r m =
    let same : x ≡ w = subst (λ o. Continues w x (goals.Tail k) o y) hd.none r.continues in
    record {
      grows = held_grows u v w x (goals.Tail k) n ty h y val hd fin.grows r;
      goes = λ T S κ c fo.
          let c2 : Completes T S v w = subst (λ (z : Walk). Completes T S z w) (sym hd.same) (subst (λ (z : Walk). Completes T S u z) same c) in
          ap (λ (z : Walk). code_at T S (length z.steps)) (sym hd.same) ∙ fin.stands T S c2
          ∙ ap (λ i. Some (g i h.filled)) hd.slot ∙ ap (λ i. Some (g k i)) hd.filled ∙ ap (λ κ. Some (reify e κ n g)) (sym fo);
    }
held_writes u v w x goals.Then n ty h y e val g hd fin r m =
    let b : Before w x hd.made y = subst (λ o. Continues w x goals.Then o y) hd.some r.continues in
    let p = before_patches u v w x hd.made y hd.opens fin.grows b in
    let fin2 = held_open u v w goals.Then n h y e g hd fin in
    record {
      grows = patched_grows p;
      goes = λ T S κ c fo.
          reified u v w x y e n g fo.0 T S x p (grows_self x) m fin2 c
          (ap (code_at T S) (sym (same_end p)) ∙ fo.2 ∙ ap Some (slots_are val h n fo.0 r.slot r.filled hd.filled))
          ∙ ap (λ κ. Some (reify e κ n g)) (sym fo.1);
    }
held_writes u v w x goals.End n ty h y e val g hd fin r m =
    let k : Continues w x goals.End (Some hd.made) y = subst (λ o. Continues w x goals.End o y) hd.some r.continues in
    let p = before_patches u v w k.0 hd.made y hd.opens fin.grows k.1 in
    let fin2 = held_open u v w goals.End n h y e g hd fin in
    let more : Grows k.0 x = subst (λ (z : Walk). Grows k.0 z) (sym k.2) (grows_push k.0 (k.0.steps ++ steps.Ends endings.Done ∷ []) (steps.Ends endings.Done) refl) in
    record {
      grows = grows_trans (patched_grows p) more;
      goes = λ T S κ c fo.
          let last : code_at T S (length k.0.steps) ≡ Some (ends done) =
          ended_stands T S k.0 x (k.0.steps ++ steps.Ends endings.Done ∷ []) endings.Done refl (subst (λ (z : Walk). Grows z x) k.2 (grows_self x)) (completes_rest T S u k.0 x (patched_grows p) c) in
          reified u v w k.0 y e n g (λ i j. ends done) T S x p more m fin2 c (ap (code_at T S) (sym (same_end p)) ∙ last)
          ∙ ap (λ κ. Some (reify e κ n g)) (sym fo);
    }

-- a block of its own, and what follows its closure
pub closed_writes : (u v w x z : Walk) (goal : Goal) (o : Pending) (y : Entry) (e : entries.Entry) (b : Code) (val : Value) (r : Continuation → Code)
    → Opens u v o → Finishes v w b → Behind w x o y → MeansEntry w.types y e → Writes x z goal val r → Writes u z goal val (λ κ. closure e b (r κ))
closed_writes u v w x z goal o y e b val r op fin bh m wr =
    let p = behind_patches u v w x o y op fin.grows bh in
    record {
      grows = grows_trans (patched_grows p) wr.grows;
      goes = λ T S κ c fo.
          let between = completes_between T S p wr.grows c in
          closure_stands T S (length u.steps) y (suc (length u.steps)) (length w.steps) b (r κ) (patched_there T S p wr.grows c) (omega arith) (further_end p)
          (ap (code_at T S) (sym (behind p)) ∙ fin.stands T S between)
          (ap (code_at T S) (sym (same_end p)) ∙ wr.goes T S κ (completes_rest T S u x z (patched_grows p) c) fo)
          ∙ ap (λ i. Some (closure i b (r κ))) (m.is T between.types);
    }

-- a test and both ways
pub tested : (u v w x z : Walk) (t : Test) (l : ℕ) (b c : Code) → Patched u v w x (steps.Test t l (length w.steps)) → Finishes v w b → Finishes x z c
    → Finishes u z (test (test_of t) l b c)
tested u v w x z t l b c p fb fc = record {
  grows = grows_trans (patched_grows p) fc.grows;
  stands = λ T S q.
      test_stands T S (length u.steps) t l (length w.steps) b c (patched_there T S p fc.grows q) (further_end p)
      (ap (code_at T S) (sym (behind p)) ∙ fb.stands T S (completes_between T S p fc.grows q))
      (ap (code_at T S) (sym (same_end p)) ∙ fc.stands T S (completes_rest T S u x z (patched_grows p) q));
}

-- an open closure is still there when more was written
pub still_pending : (u v w : Walk) (o : Pending) → Opens u v o → Grows v w → o.place < length w.steps
still_pending u v w o op g = omega (arith, op.place, g.longer, pushed_length u.steps v.steps op.step (ap (λ (z : Walk). z.steps) op.steps))

still_open : (u v w : Walk) (n : ℕ) (h : Held) → HoldsOpen u v n h → Grows v w → HeldIsOpen w h
still_open u v w n h hd g = subst (IsThere w) (sym hd.some) (still_pending u v w hd.made hd.opens g)

pub still_there : (u v w : Walk) (goal : Goal) (n : ℕ) (h : Held) → Holds u v goal n h → Grows v w → HeldIsOpen w h
still_there u v w (goals.Tail k) n h hd g = subst (IsThere w) (sym hd.none) tt
still_there u v w goals.Then n h hd g = still_open u v w n h hd g
still_there u v w goals.End n h hd g = still_open u v w n h hd g

pub continues_end : (w mid : Walk) (goal : Goal) (o : Option Pending) (p : Pending) (y : Entry) (ss : List Step) → o ≡ Some p → goal ≡ goals.End → Before w mid p y
    → ss ≡ mid.steps ++ steps.Ends endings.Done ∷ [] → Continues w (record mid { steps = ss }) goal o y
continues_end w mid goal o p y ss eo eg b q =
    subst (λ i. Continues w (record mid { steps = ss }) goal i y) (sym eo)
    (subst (λ i. Continues w (record mid { steps = ss }) i (Some p) y) (sym eg) (mid, b, ap (λ l. record mid { steps = l }) q))

-- an ending alone
pub ending_finishes : (v : Walk) (ss : List Step) (e : Ending) → ss ≡ v.steps ++ steps.Ends e ∷ [] → Finishes v (record v { steps = ss }) (ends (ending_of e))
ending_finishes v ss e q = record {
  grows = grows_push v ss (steps.Ends e) q;
  stands = λ T S c. ended_stands T S v (record v { steps = ss }) ss e q (grows_self (record v { steps = ss })) c;
}

-- the entry of a continuation that takes a value of a type by number
pub taking_means : (L : List TypeExpression) (at : Around) (y : Entry) (ty : ℕ) (A : TypeExpression) (Γ : Scope) → y ≡ ways.ByValue at.mode (takings.Value ty) → IsAt L ty A
    → Γ.mode ≡ mode_of at.mode → MeansEntry L y (taking A Γ)
taking_means L at y ty A Γ e a m = record {
  is = λ M k. ap (entry_of M) e ∙ ap (λ B. entries.by_value (mode_of at.mode) (entries.of (or_unit B))) (k.each ty A a.is) ∙ ap (λ i. entries.by_value i (entries.of A)) (sym m);
}

pub held_keeps : (u v : Walk) (goal : Goal) (n : ℕ) (h : Held) → Holds u v goal n h → Keeps u.types v.types
held_keeps u v (goals.Tail k) n h hd = subst (λ (z : Walk). Keeps u.types z.types) (sym hd.same) (keeps_self u.types)
held_keeps u v goals.Then n h hd = subst (λ (z : Walk). Keeps u.types z.types) (sym hd.opens.steps) (keeps_self u.types)
held_keeps u v goals.End n h hd = subst (λ (z : Walk). Keeps u.types z.types) (sym hd.opens.steps) (keeps_self u.types)

-- a continuation's end adds no types
pub continues_types : (w x : Walk) (goal : Goal) (o : Option Pending) (y : Entry) → Continues w x goal o y → x.types ≡ w.types
continues_types w x (goals.Tail k) None y c = ap (λ (z : Walk). z.types) c
continues_types w x goals.Then None y c = ap (λ (z : Walk). z.types) c
continues_types w x goals.End None y c = ap (λ (z : Walk). z.types) c
continues_types w x (goals.Tail k) (Some p) y c = ap (λ (z : Walk). z.types) c.steps
continues_types w x goals.Then (Some p) y c = ap (λ (z : Walk). z.types) c.steps
continues_types w x goals.End (Some p) y c = ap (λ (z : Walk). z.types) c.2 ∙ ap (λ (z : Walk). z.types) c.1.steps
