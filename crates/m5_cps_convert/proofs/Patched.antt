-- A step that was added and written again when the places that it names were known.
use Rattle.std.proofs.Common.{◌≡◌, suc, ◌<◌, List, [], ◌∷◌, ◌++◌, length, Some, slice_get, slice_set, refl, sym, ap, subst, arith}
use Rattle.std.proofs.lemmas.Option.{slice_get_within}
use Rattle.m5_terms.specs.Table.{entries}
use Rattle.m5_terms.specs.TypeExpression.{TypeExpression}
use Rattle.m5_cps.specs.declared.step.Step.{Step}
use Rattle.m5_cps_convert.specs.declared.walk.Walk.{Walk}
use Rattle.m5_cps_convert.specs.code.Writing.{Keeps, Grows, Completes}
use Rattle.m5_cps_convert.proofs.Growing.{keeps_trans, pushed_length, set_other, set_same, set_length, grows_trans, grows_push}

-- from u, a step was added, and where w was come to, it was written again
pub record Patched (u v w x : Walk) (s : Step) : Type 0 where
  pub first : Step
  pub opens : v ≡ record u { steps = u.steps ++ first ∷ [] }
  pub between : Grows v w
  pub sets : x ≡ record w { steps = slice_set w.steps (length u.steps) s }

pub behind : {u v w x : Walk} {s : Step} → Patched u v w x s → length v.steps ≡ suc (length u.steps)
behind {u} p = pushed_length u.steps _ p.first (ap (λ (z : Walk). z.steps) p.opens)

steps_set : {u v w x : Walk} {s : Step} → Patched u v w x s → x.steps ≡ slice_set w.steps (length u.steps) s
steps_set p = ap (λ (z : Walk). z.steps) p.sets

pub same_end : {u v w x : Walk} {s : Step} → Patched u v w x s → length x.steps ≡ length w.steps
same_end {u} {v} {w} {x} {s} p = set_length w.steps x.steps (length u.steps) s (steps_set p)

pub further_end : {u v w x : Walk} {s : Step} → Patched u v w x s → length u.steps < length w.steps
further_end p = omega (arith, behind p, p.between.longer)

first_grows : {u v w x : Walk} {s : Step} → Patched u v w x s → Grows u v
first_grows {u} p = subst (λ (z : Walk). Grows u z) (sym p.opens) (grows_push u (u.steps ++ p.first ∷ []) p.first refl)

pub patched_grows : {u v w x : Walk} {s : Step} → Patched u v w x s → Grows u x
patched_grows {u} {v} {w} {x} {s} p =
    let g : Grows u w = grows_trans (first_grows p) p.between in
    record {
      types = subst (λ (z : Walk). Keeps u.types z.types) (sym p.sets) g.types;
      steps = record { each = λ k a e. set_other w.steps x.steps (length u.steps) k s a (steps_set p) (λ q. absurd (omega (arith, slice_get_within u.steps k a e, q))) (g.steps.each k a e) };
      longer = omega (arith, same_end p, g.longer);
      names = subst (λ (z : Walk). entries z.names ≡ entries u.names) (sym p.sets) g.names;
      functions = subst (λ (z : Walk). z.functions ≡ u.functions) (sym p.sets) g.functions;
    }

-- the step stands in the program
pub patched_there : {u v w x z : Walk} {s : Step} (T : List TypeExpression) (S : List Step) → Patched u v w x s → Grows x z → Completes T S u z → slice_get S (length u.steps) ≡ Some s
patched_there {u} {v} {w} {x} {z} {s} T S p g c =
    c.steps (length u.steps) s (omega arith) (g.steps.each (length u.steps) s (set_same w.steps x.steps (length u.steps) s (steps_set p) (further_end p)))

-- and so do the steps between
pub completes_between : {u v w x z : Walk} {s : Step} (T : List TypeExpression) (S : List Step) → Patched u v w x s → Grows x z → Completes T S u z → Completes T S v w
completes_between {u} {v} {w} {x} {z} {s} T S p g c = record {
  types = keeps_trans (subst (λ (y : Walk). Keeps y.types z.types) p.sets g.types) c.types;
  steps = λ k a l e.
      c.steps k a (omega (arith, behind p, l))
      (g.steps.each k a (set_other w.steps x.steps (length u.steps) k s a (steps_set p) (λ q. absurd (omega (arith, behind p, l, q))) e));
}
