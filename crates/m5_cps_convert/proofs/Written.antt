-- Steps that stand for code: straight forms and endings.
use Rattle.std.proofs.Common.{◌≡◌, ℕ, suc, List, [], ◌∷◌, ◌++◌, length, Some, slice_get, sym, ap, ◌∙◌, subst, arith}
use Rattle.m5_terms.specs.TypeExpression.{TypeExpression}
use Rattle.m5_cps.specs.Blocks as blocks
use Rattle.m5_cps.specs.Blocks.{Code}
use Rattle.m5_cps.specs.declared.step.Straight.{Straight}
use Rattle.m5_cps.specs.declared.step.Ending.{Ending}
use Rattle.m5_cps.specs.declared.step.Ending.TheVariants as endings
use Rattle.m5_cps.specs.declared.step.Step.{Step}
use Rattle.m5_cps.specs.declared.step.Step.TheVariants as steps
use Rattle.m5_cps.specs.Steps.{ending_of, code_at}
use Rattle.m5_cps.proofs.Standing.{straight_stands, ending_stands}
use Rattle.m5_cps_convert.specs.Continuations.{Continuation, apply}
use Rattle.m5_cps_convert.specs.declared.walk.Walk.{Walk}
use Rattle.m5_cps_convert.specs.declared.walk.Goal.{Goal}
use Rattle.m5_cps_convert.specs.declared.walk.Goal.TheVariants as goals
use Rattle.m5_cps_convert.specs.declared.walk.Value.{Value}
use Rattle.m5_cps_convert.specs.code.Writing.{Grows, Completes, Writes, WritesValue, Means, Gives}
use Rattle.m5_cps_convert.proofs.Growing.{keeps_trans, pushed_there, pushed_length, grows_self, grows_trans, grows_push}

-- a program that has all steps has those of the first part, and those of the rest
pub completes_first : (T : List TypeExpression) (S : List Step) (u v w : Walk) → Grows v w → Completes T S u w → Completes T S u v
completes_first T S u v w g c = record { types = keeps_trans g.types c.types; steps = λ p s l e. c.steps p s l (g.steps.each p s e) }

pub completes_rest : (T : List TypeExpression) (S : List Step) (u v w : Walk) → Grows u v → Completes T S u w → Completes T S v w
completes_rest T S u v w g c = record { types = c.types; steps = λ p s l e. c.steps p s (omega (arith, g.longer, l)) e }

-- the step that was pushed stands in the program
pub pushed_stands : (T : List TypeExpression) (S : List Step) (u w : Walk) (ss : List Step) (s : Step) → ss ≡ u.steps ++ s ∷ []
    → Grows (record u { steps = ss }) w → Completes T S u w → slice_get S (length u.steps) ≡ Some s
pushed_stands T S u w ss s e g c = c.steps (length u.steps) s (omega arith) (g.steps.each (length u.steps) s (pushed_there u.steps ss s e))

-- an ending that was pushed
pub ended_stands : (T : List TypeExpression) (S : List Step) (u w : Walk) (ss : List Step) (e : Ending) → ss ≡ u.steps ++ steps.Ends e ∷ []
    → Grows (record u { steps = ss }) w → Completes T S u w → code_at T S (length u.steps) ≡ Some (blocks.ends (ending_of e))
ended_stands T S u w ss e q g c = ending_stands T S (length u.steps) e (pushed_stands T S u w ss (steps.Ends e) q g c)

-- the value goes to the continuation in slot k, or the thread ends
pub tail_writes : (u : Walk) (ss : List Step) (goal : Goal) (k x n ty : ℕ) → goal ≡ goals.Tail k → ss ≡ u.steps ++ steps.Ends (endings.Go k x) ∷ []
    → Writes u (record u { steps = ss }) goal (record { slot = x; filled = n; ty = ty }) (λ κ. apply κ x n)
tail_writes u ss goal k x n ty e q =
    subst (λ (g : Goal). Writes u (record u { steps = ss }) g (record { slot = x; filled = n; ty = ty }) (λ κ. apply κ x n)) (sym e)
    (record {
      grows = grows_push u ss (steps.Ends (endings.Go k x)) q;
      goes = λ T S κ c f.
          ended_stands T S u (record u { steps = ss }) ss (endings.Go k x) q (grows_self (record u { steps = ss })) c
          ∙ ap (λ κ. Some (apply κ x n)) (sym f);
    })

pub end_writes : (u : Walk) (ss : List Step) (goal : Goal) (x n ty : ℕ) → goal ≡ goals.End → ss ≡ u.steps ++ steps.Ends endings.Done ∷ []
    → Writes u (record u { steps = ss }) goal (record { slot = x; filled = n; ty = ty }) (λ κ. apply κ x n)
end_writes u ss goal x n ty e q =
    subst (λ (g : Goal). Writes u (record u { steps = ss }) g (record { slot = x; filled = n; ty = ty }) (λ κ. apply κ x n)) (sym e)
    (record {
      grows = grows_push u ss (steps.Ends endings.Done) q;
      goes = λ T S κ c f.
          ended_stands T S u (record u { steps = ss }) ss endings.Done q (grows_self (record u { steps = ss })) c
          ∙ ap (λ κ. Some (apply κ x n)) (sym f);
    })

pub then_writes : (u : Walk) (goal : Goal) (x n ty : ℕ) → goal ≡ goals.Then → Writes u u goal (record { slot = x; filled = n; ty = ty }) (λ κ. apply κ x n)
then_writes u goal x n ty e =
    subst (λ (g : Goal). Writes u u g (record { slot = x; filled = n; ty = ty }) (λ κ. apply κ x n)) (sym e)
    (record { grows = grows_self u; goes = λ T S κ c f. f.2 ∙ ap (λ κ. Some (apply κ x n)) (sym f.1) })

-- a straight form before what follows
pub straight_writes : (u w : Walk) (ss : List Step) (s : Straight) (f : blocks.Straight) (goal : Goal) (v : Value) (r : Continuation → Code)
    → ss ≡ u.steps ++ steps.Straight s ∷ [] → Means u.types s f → Writes (record u { steps = ss }) w goal v r
    → Writes u w goal v (λ κ. blocks.straight f (r κ))
straight_writes u w ss s f goal v r q m wr =
    let one = record u { steps = ss } in
    let g1 = grows_push u ss (steps.Straight s) q in
    record {
      grows = grows_trans g1 wr.grows;
      goes = λ T S κ c fo.
          let here = pushed_stands T S u w ss (steps.Straight s) q wr.grows c in
          let next : code_at T S (length ss) ≡ Some (r κ) = wr.goes T S κ (completes_rest T S u one w g1 c) fo in
          straight_stands T S (length u.steps) s (r κ) here (ap (code_at T S) (sym (pushed_length u.steps ss (steps.Straight s) q)) ∙ next)
          ∙ ap (λ g. Some (blocks.straight g (r κ))) (m.is T (keeps_trans wr.grows.types c.types));
    }

pub gives : (u w : Walk) (ss : List Step) (s : Straight) (goal : Goal) (ty n m : ℕ) (v : Value) → ss ≡ u.steps ++ steps.Straight s ∷ [] → m ≡ suc n
    → WritesValue (record u { steps = ss }) w goal ty (λ κ. apply κ n m) v → Gives u w s n goal ty v
gives u w ss s goal ty n m v q e h = record {
  type_is = h.type_is;
  writes = λ f means. straight_writes u w ss s f goal v (λ κ. apply κ n (suc n)) q means
      (subst (λ k. Writes (record u { steps = ss }) w goal v (λ κ. apply κ n k)) e h.writes);
}
