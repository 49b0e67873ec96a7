-- Nested pairs, the outermost first.
use Rattle.std.proofs.Common.{◌≡◌, ℕ, suc, List, [], ◌∷◌, ◌++◌, length, Some, slice_get, IsTrue, refl, sym, ap, ◌∙◌, subst, arith}
use Rattle.m5_terms.specs.Expression.{Expression, binary}
use Rattle.m5_terms.specs.TypeExpression.{TypeExpression, product}
use Rattle.m5_terms.specs.declared.form.BinaryForm.TheVariants.{Pair}
use Rattle.m5_typing.specs.Program.{in_text}
use Rattle.m5_typing.proofs.Mobile.{both-right}
use Rattle.m5_cps.specs.Blocks as blocks
use Rattle.m5_cps.specs.Blocks.{Code}
use Rattle.m5_cps.specs.TypesByNumber.{or_unit, type_in as type_in_list}
use Rattle.m5_cps.specs.Steps.{code_at}
use Rattle.m5_cps.specs.declared.types.TypeRow.TheVariants as row
use Rattle.m5_cps.specs.declared.step.Straight.TheVariants as straights
use Rattle.m5_cps.specs.declared.step.Step.{Step}
use Rattle.m5_cps.specs.declared.step.Step.TheVariants as steps
use Rattle.m5_cps.proofs.Standing.{straight_stands}
use Rattle.m5_cps_convert.specs.Continuations.{Continuation, Then, apply}
use Rattle.m5_cps_convert.specs.Convert.{cps, type_in}
use Rattle.m5_cps_convert.specs.declared.walk.Walk.{Walk}
use Rattle.m5_cps_convert.specs.declared.walk.Around.{Around}
use Rattle.m5_cps_convert.specs.declared.walk.Goal.{Goal}
use Rattle.m5_cps_convert.specs.declared.walk.Goal.TheVariants as goals
use Rattle.m5_cps_convert.specs.declared.walk.Value.{Value}
use Rattle.m5_cps_convert.specs.declared.pairs.Waiting.{Waiting}
use Rattle.m5_cps_convert.specs.code.Types.{IsAt, RowAdded}
use Rattle.m5_cps_convert.specs.code.Writing.{Keeps, WritesValue}
use Rattle.m5_cps_convert.specs.code.Emitting.{Emits}
use Rattle.m5_cps_convert.specs.code.Pairs.{nested, IsNested, MakesPair, PairsUp, PairsSoFar, PairsWait}
use Rattle.m5_cps_convert.proofs.Growing.{keeps_push, pushed_there, pushed_length, grows_self, grows_trans}
use Rattle.m5_cps_convert.proofs.Written.{completes_first, completes_rest}
use Rattle.m5_cps_convert.proofs.Known.{at_kept}
use Rattle.m5_cps_convert.proofs.Binaries.{known_after}

pub pair_made : (u : Walk) (L : List TypeExpression) (ss : List Step) (w : Waiting) (y : Value) (ty filled : ℕ) → RowAdded u.types L (row.Product w.ty y.ty) ty
    → ss ≡ u.steps ++ steps.Straight (straights.Two Pair w.slot y.slot) ∷ [] → filled ≡ suc y.filled
    → MakesPair u (record u { types = L; steps = ss }) w y (record { slot = y.filled; filled = filled; ty = ty })
pair_made u L ss w y ty filled r q e = record {
  grows = record {
    types = keeps_push u.types L (product (type_in_list u.types w.ty) (type_in_list u.types y.ty)) r.added;
    steps = keeps_push u.steps ss (steps.Straight (straights.Two Pair w.slot y.slot)) q;
    longer = omega (arith, pushed_length u.steps ss (steps.Straight (straights.Two Pair w.slot y.slot)) q);
    names = refl;
    functions = refl;
  };
  typed = λ A B a b. record {
    is = ap (slice_get L) r.number ∙ (pushed_there u.types L (product (type_in_list u.types w.ty) (type_in_list u.types y.ty)) r.added
        ∙ (ap (λ C. Some (product (or_unit C) (type_in_list u.types y.ty))) a.is ∙ ap (λ C. Some (product A (or_unit C))) b.is));
  };
  slot = refl;
  filled = e;
  goes = λ T S c k h.
      straight_stands T S (length u.steps) (straights.Two Pair w.slot y.slot) c
      (k.steps (length u.steps) (steps.Straight (straights.Two Pair w.slot y.slot)) (omega arith) (pushed_there u.steps ss (steps.Straight (straights.Two Pair w.slot y.slot)) q))
      (ap (code_at T S) (sym (pushed_length u.steps ss (steps.Straight (straights.Two Pair w.slot y.slot)) q)) ∙ h);
}

-- one pair more, inside the others
pub nested_more : (ws : List Waiting) (w : Waiting) (κ : Continuation) → nested (ws ++ w ∷ []) κ ≡ Then (λ y m. blocks.straight (blocks.two Pair w.slot y) (apply (nested ws κ) m (suc m)))
nested_more [] w κ = refl
nested_more (x ∷ ws) w κ = nested_more ws w (Then (λ y m. blocks.straight (blocks.two Pair x.slot y) (apply κ m (suc m))))

then_nested : (ws before : List Waiting) (w : Waiting) (κ : Continuation) → ws ≡ before ++ w ∷ [] → nested ws κ ≡ Then (λ y m. apply (nested ws κ) y m)
then_nested ws before w κ e =
    let more : nested ws κ ≡ Then (λ y m. blocks.straight (blocks.two Pair w.slot y) (apply (nested before κ) m (suc m))) = ap (λ l. nested l κ) e ∙ nested_more before w κ in
    more ∙ ap (λ q. Then (λ y m. apply q y m)) (sym more)

pub last_pair : (L : List TypeExpression) (ws : List Waiting) (w : Waiting) (B C : TypeExpression) → IsNested L (ws ++ w ∷ []) B C → (A : TypeExpression) × IsAt L w.ty A × IsNested L ws (product A B) C
last_pair L [] w B C h = (h.0, h.2, ap (λ D. product h.0 D) h.3 ∙ sym h.4)
last_pair L (x ∷ ws) w B C h = let i = last_pair L ws w B h.1 h.3 in (i.0, i.1, (h.0, h.1, h.2, i.2, h.4))

pub more_pairs : (L : List TypeExpression) (ws : List Waiting) (w : Waiting) (A B C : TypeExpression) → IsAt L w.ty A → IsNested L ws (product A B) C → IsNested L (ws ++ w ∷ []) B C
more_pairs L [] w A B C a h = (A, B, a, refl, sym h)
more_pairs L (x ∷ ws) w A B C a h = (h.0, h.1, h.2, more_pairs L ws w A B h.1 a h.3, h.4)

pub nested_kept : (L M : List TypeExpression) (ws : List Waiting) (B C : TypeExpression) → Keeps L M → IsNested L ws B C → IsNested M ws B C
nested_kept L M [] B C k h = h
nested_kept L M (w ∷ ws) B C k h = (h.0, h.1, at_kept k h.2, nested_kept L M ws B h.1 k h.3, h.4)

pub so_far_begins : (u : Walk) (ws : List Waiting) (last : Value) → PairsSoFar u u ws ws last last
so_far_begins u ws last = record { grows = grows_self u; typed = λ B C b i. (B, b, i); goes = λ T S κ q h. h }

-- the innermost pair was made
pub so_far_more : (start now next : Walk) (ws rest left : List Waiting) (w : Waiting) (last whole v : Value) → PairsSoFar start now ws rest last whole → rest ≡ left ++ w ∷ []
    → MakesPair now next w whole v → PairsSoFar start next ws left last v
so_far_more start now next ws rest left w last whole v p e m = record {
  grows = grows_trans p.grows m.grows;
  typed = λ B C b i.
      let d = p.typed B C b i in
      let l = last_pair now.types left w d.0 C (subst (λ r. IsNested now.types r d.0 C) e d.2) in
      (product l.0 d.0, m.typed l.0 d.0 l.1 d.1, nested_kept now.types next.types left (product l.0 d.0) C m.grows.types l.2);
  goes = λ T S κ q h.
      p.goes T S κ (completes_first T S start now next m.grows q)
      (m.goes T S (apply (nested left κ) whole.filled (suc whole.filled)) (completes_rest T S start now next p.grows q)
      (h ∙ (ap (λ s. Some (apply (nested left κ) s v.filled)) m.slot ∙ ap (λ s. Some (apply (nested left κ) whole.filled s)) m.filled))
      ∙ (ap (λ k. Some (apply k whole.slot whole.filled)) (sym (nested_more left w κ)) ∙ ap (λ r. Some (apply (nested r κ) whole.slot whole.filled)) (sym e)));
}

none_left : (rest : List Waiting) → length rest ≡ 0 → rest ≡ []
none_left [] e = refl
none_left (w ∷ ws) e = absurd (omega (arith, e))

pub paired_up : (start now x : Walk) (ws rest : List Waiting) (last whole val : Value) (goal : Goal) → PairsSoFar start now ws rest last whole → length rest ≡ 0
    → WritesValue now x goal whole.ty (λ κ. apply κ whole.slot whole.filled) val → PairsUp start x ws last goal val
paired_up start now x ws rest last whole val goal p e h =
    let z = none_left rest e in
    record {
      grows = grows_trans p.grows h.writes.grows;
      typed = λ B C b i.
          let d = p.typed B C b i in
          subst (λ n. IsAt x.types n C) (sym h.type_is) (at_kept h.writes.grows.types (subst (λ D. IsAt now.types whole.ty D) (subst (λ r. IsNested now.types r d.0 C) z d.2) d.1));
      goes = λ T S κ q fo.
          p.goes T S κ (completes_first T S start now x h.writes.grows q)
          (h.writes.goes T S κ (completes_rest T S start now x p.grows q) fo ∙ ap (λ r. Some (apply (nested r κ) whole.slot whole.filled)) (sym z));
    }

-- the first part of the outermost pair waits
pub wait_begins : (u v : Walk) (at : Around) (n : ℕ) (a b : Expression) (first : Value) (ws : List Waiting) → Emits u v at n goals.Then a first
    → ws ≡ record { slot = first.slot; ty = first.ty } ∷ [] → PairsWait u v at n (binary Pair a b) ws first.filled b
wait_begins u v at n a b first ws em e = record {
  grows = em.grows;
  before = [];
  innermost = record { slot = first.slot; ty = first.ty };
  some = e;
  typed = λ E Γ k. subst (λ r. IsNested v.types r (type_in E b Γ) (type_in E (binary Pair a b) Γ)) (sym e) (type_in E a Γ, type_in E b Γ, em.typed E Γ k, refl, refl);
  goes = λ E Γ k T S κ q h.
      em.code E Γ k T S (Then (λ x p. cps E b Γ p (Then (λ y m. blocks.straight (blocks.two Pair x y) (apply κ m (suc m)))))) q
      ((λ x p. cps E b Γ p (Then (λ y m. blocks.straight (blocks.two Pair x y) (apply κ m (suc m))))), refl, h ∙ ap (λ r. Some (cps E b Γ first.filled (nested r κ))) e);
}

pub wait_more : (u v w : Walk) (at : Around) (n m : ℕ) (whole rest a b : Expression) (part : Value) (ws more : List Waiting) → PairsWait u v at n whole ws m rest → binary Pair a b ≡ rest
    → Emits v w at m goals.Then a part → more ≡ ws ++ record { slot = part.slot; ty = part.ty } ∷ [] → PairsWait u w at n whole more part.filled b
wait_more u v w at n m whole rest a b part ws more p er em e = record {
  grows = grows_trans p.grows em.grows;
  before = ws;
  innermost = record { slot = part.slot; ty = part.ty };
  some = e;
  typed = λ E Γ k.
      subst (λ r. IsNested w.types r (type_in E b Γ) (type_in E whole Γ)) (sym e)
      (more_pairs w.types ws (record { slot = part.slot; ty = part.ty }) (type_in E a Γ) (type_in E b Γ) (type_in E whole Γ) (em.typed E Γ (known_after u v at E Γ p.grows k))
      (nested_kept v.types w.types ws (product (type_in E a Γ) (type_in E b Γ)) (type_in E whole Γ) em.grows.types
      (subst (λ r. IsNested v.types ws (type_in E r Γ) (type_in E whole Γ)) (sym er) (p.typed E Γ k))));
  goes = λ E Γ k T S κ q h.
      let inner = λ (x j : ℕ). cps E b Γ j (Then (λ y i. blocks.straight (blocks.two Pair x y) (apply (nested ws κ) i (suc i)))) in
      p.goes E Γ k T S κ (completes_first T S u v w em.grows q)
      (em.code E Γ (known_after u v at E Γ p.grows k) T S (Then inner) (completes_rest T S u v w p.grows q)
      (inner, refl, h ∙ (ap (λ r. Some (cps E b Γ part.filled (nested r κ))) e ∙ ap (λ g. Some (cps E b Γ part.filled g)) (nested_more ws (record { slot = part.slot; ty = part.ty }) κ)))
      ∙ ap (λ r. Some (cps E r Γ m (nested ws κ))) er);
}

pub pairs_emit : (u v w x : Walk) (at : Around) (n m : ℕ) (goal : Goal) (whole rest : Expression) (last val : Value) (ws : List Waiting) → PairsWait u v at n whole ws m rest
    → Emits v w at m goals.Then rest last → PairsUp w x ws last goal val → Emits u x at n goal whole val
pairs_emit u v w x at n m goal whole rest last val ws p em up = record {
  grows = grows_trans p.grows (grows_trans em.grows up.grows);
  typed = λ E Γ k.
      up.typed (type_in E rest Γ) (type_in E whole Γ) (em.typed E Γ (known_after u v at E Γ p.grows k))
      (nested_kept v.types w.types ws (type_in E rest Γ) (type_in E whole Γ) em.grows.types (p.typed E Γ k));
  code = λ E Γ k T S κ q fo.
      let q2 = completes_rest T S u v x p.grows q in
      p.goes E Γ k T S κ (completes_first T S u v x (grows_trans em.grows up.grows) q)
      (em.code E Γ (known_after u v at E Γ p.grows k) T S (nested ws κ) (completes_first T S v w x up.grows q2)
      ((λ y i. apply (nested ws κ) y i), then_nested ws p.before p.innermost κ p.some, up.goes T S κ (completes_rest T S v w x em.grows q2) fo));
}

-- a part of a form that a text has
pub later_in_text : (a b r : Expression) → binary Pair a b ≡ r → IsTrue (in_text r) → IsTrue (in_text b)
later_in_text a b r e h = both-right (in_text a) (in_text b) (subst (λ i. IsTrue (in_text i)) (sym e) h)
