-- Gets: what goes on here, or is sent to another world.
use Rattle.std.proofs.Common.{◌≡◌, ℕ, suc, List, [], ◌∷◌, ◌++◌, length, None, slice_set, refl, sym, ap, ◌∙◌, subst}
use Rattle.m5_terms.specs.TypeExpression.{TypeExpression}
use Rattle.m5_terms.specs.Table.{entries}
use Rattle.m5_terms.specs.declared.types.World.{World}
use Rattle.m5_terms.specs.declared.form.LeafForm.TheVariants as leaf_form
use Rattle.m5_cps.specs.Entries as entry
use Rattle.m5_cps.specs.Blocks as blocks
use Rattle.m5_cps.specs.Blocks.{Code}
use Rattle.m5_cps.specs.TypeParts.{bound_type}
use Rattle.m5_cps.specs.TypesByNumber.{or_unit}
use Rattle.m5_cps.specs.Steps.{ending_of}
use Rattle.m5_cps.specs.declared.entry.Entry.{Entry}
use Rattle.m5_cps.specs.declared.entry.Entry.TheVariants as ways
use Rattle.m5_cps.specs.declared.entry.Argument.TheVariants as takings
use Rattle.m5_cps.specs.declared.entry.Mode.TheVariants.{Only}
use Rattle.m5_cps.specs.declared.step.Constant.TheVariants as constants
use Rattle.m5_cps.specs.declared.step.Straight.{Straight}
use Rattle.m5_cps.specs.declared.step.Straight.TheVariants as straights
use Rattle.m5_cps.specs.declared.step.Test.{Test}
use Rattle.m5_cps.specs.declared.step.Test.TheVariants as tests
use Rattle.m5_cps.specs.declared.step.Ending.{Ending}
use Rattle.m5_cps.specs.declared.step.Ending.TheVariants as endings
use Rattle.m5_cps.specs.declared.step.Step.{Step}
use Rattle.m5_cps.specs.declared.step.Step.TheVariants as steps
use Rattle.m5_cps_convert.specs.Forms.{back_code, get_variable}
use Rattle.m5_cps_convert.specs.declared.walk.Walk.{Walk}
use Rattle.m5_cps_convert.specs.declared.walk.Around.{Around}
use Rattle.m5_cps_convert.specs.declared.walk.Goal.TheVariants as goals
use Rattle.m5_cps_convert.specs.declared.walk.Value.{Value}
use Rattle.m5_cps_convert.specs.declared.names.Seen.{Seen}
use Rattle.m5_cps_convert.specs.declared.closing.Pending.{Pending}
use Rattle.m5_cps_convert.specs.declared.gets.Sent.{Sent}
use Rattle.m5_cps_convert.specs.declared.gets.Sent.TheVariants as sents
use Rattle.m5_cps_convert.specs.code.Writing.{Keeps, Grows, Writes, Finishes, Means, MeansEntry}
use Rattle.m5_cps_convert.specs.code.Closing.{Opens, Behind}
use Rattle.m5_cps_convert.specs.code.Knowing.{IsSeen}
use Rattle.m5_cps_convert.specs.code.Choices.{BeginsTest, EndsTest}
use Rattle.m5_cps_convert.specs.code.Gets.{here_ending, away_ending, away_code, sent_code, SendsAway, Sends, GetsVariable}
use Rattle.m5_cps_convert.proofs.Growing.{keeps_self, grows_trans, grows_push}
use Rattle.m5_cps_convert.proofs.Written.{straight_writes}
use Rattle.m5_cps_convert.proofs.Patched.{Patched, patched_grows}
use Rattle.m5_cps_convert.proofs.Closed.{tail_finishes, closed_writes, tested, ending_finishes}
use Rattle.m5_cps_convert.proofs.Bodies.{closed_grows}
use Rattle.m5_cps_convert.proofs.Known.{at_kept}

-- code that ends, whatever becomes of a value
pub as_tail : (u w : Walk) (c : Code) → Finishes u w c → Writes u w (goals.Tail 0) (record { slot = 0; filled = 0; ty = 0 }) (λ κ. c)
as_tail u w c f = record { grows = f.grows; goes = λ T S κ q fo. f.stands T S q }

pub straight_finishes : (u w : Walk) (ss : List Step) (s : Straight) (f : blocks.Straight) (c : Code) → ss ≡ u.steps ++ steps.Straight s ∷ [] → Means u.types s f
    → Finishes (record u { steps = ss }) w c → Finishes u w (blocks.straight f c)
straight_finishes u w ss s f c q m fin =
    tail_finishes u w 0 (record { slot = 0; filled = 0; ty = 0 }) (λ κ. blocks.straight f c)
    (straight_writes u w ss s f (goals.Tail 0) (record { slot = 0; filled = 0; ty = 0 }) (λ κ. c) q m (as_tail (record u { steps = ss }) w c fin))

pub closed_finishes : (u v w x z : Walk) (o : Pending) (y : Entry) (e : entry.Entry) (b c : Code) → Opens u v o → Finishes v w b → Behind w x o y → MeansEntry w.types y e → Finishes x z c
    → Finishes u z (blocks.closure e b c)
closed_finishes u v w x z o y e b c op fb bh m fc =
    tail_finishes u z 0 (record { slot = 0; filled = 0; ty = 0 }) (λ κ. blocks.closure e b c)
    (closed_writes u v w x z (goals.Tail 0) o y e b (record { slot = 0; filled = 0; ty = 0 }) (λ κ. c) op fb bh m (as_tail x z c fc))

pub test_patches : (u v w x : Walk) (p : ℕ) (t : Test) (l : ℕ) → BeginsTest u v p → Grows v w → EndsTest w x p t l → Patched u v w x (steps.Test t l (length w.steps))
test_patches u v w x p t l b g e = record {
  first = b.step;
  opens = b.steps;
  between = g;
  sets = subst (λ k. x ≡ record w { steps = slice_set w.steps k (steps.Test t l (length w.steps)) }) b.place e.steps;
}

away_is : (T : TypeExpression) (v : World) (x k n : ℕ) (s : Sent)
    → blocks.straight (blocks.constant leaf_form.Here) (blocks.closure (entry.by_value (entry.only v) (entry.of T)) (back_code n k (suc n)) (blocks.ends (ending_of (away_ending s x (suc n))))) ≡ away_code T v x s k n
away_is T v x k n (sents.Value l) = refl
away_is T v x k n (sents.Goal g) = refl

pub sends_away : (u v w2 : Walk) (s1 s2 s3 : List Step) (o : Pending) (world : World) (ty : ℕ) (sent : Sent) (x k n back value : ℕ) (e : Ending)
    → back ≡ suc n → value ≡ suc back → s1 ≡ u.steps ++ steps.Straight (straights.Constant constants.Here) ∷ [] → Opens (record u { steps = s1 }) v o
    → s2 ≡ v.steps ++ steps.Ends (endings.Send n k value) ∷ [] → Behind (record v { steps = s2 }) w2 o (ways.ByValue (Only world) (takings.Value ty))
    → e ≡ away_ending sent x back → s3 ≡ w2.steps ++ steps.Ends e ∷ [] → SendsAway u (record w2 { steps = s3 }) world ty sent x k n
sends_away u v w2 s1 s2 s3 o world ty sent x k n back value e eb ev q1 op q2 bh ee q3 = record {
  grows = grows_trans (grows_push u s1 (steps.Straight (straights.Constant constants.Here)) q1)
      (closed_grows (record u { steps = s1 }) v (record v { steps = s2 }) w2 (record w2 { steps = s3 }) o (ways.ByValue (Only world) (takings.Value ty)) op
      (grows_push v s2 (steps.Ends (endings.Send n k value)) q2) bh (grows_push w2 s3 (steps.Ends e) q3));
  code = λ T a.
      let back_ends : Finishes v (record v { steps = s2 }) (back_code n k (suc n)) =
      subst (λ i. Finishes v (record v { steps = s2 }) (blocks.ends (blocks.send n k i))) (ev ∙ ap suc eb) (ending_finishes v s2 (endings.Send n k value) q2) in
      let last : Finishes w2 (record w2 { steps = s3 }) (blocks.ends (ending_of (away_ending sent x (suc n)))) =
      subst (λ i. Finishes w2 (record w2 { steps = s3 }) (blocks.ends (ending_of i))) (ee ∙ ap (away_ending sent x) eb) (ending_finishes w2 s3 e q3) in
      let kept : Keeps u.types v.types = subst (λ (z : Walk). Keeps u.types z.types) (sym op.steps) (keeps_self u.types) in
      let means : MeansEntry v.types (ways.ByValue (Only world) (takings.Value ty)) (entry.by_value (entry.only world) (entry.of T)) =
      record { is = λ M j. ap (λ B. entry.by_value (entry.only world) (entry.of (or_unit B))) (j.each ty T (kept.each ty T a.is)) } in
      subst (λ c. Finishes u (record w2 { steps = s3 }) c) (away_is T world x k n sent)
      (straight_finishes u (record w2 { steps = s3 }) s1 (straights.Constant constants.Here) (blocks.constant leaf_form.Here) _ q1 (record { is = λ M j. refl })
      (closed_finishes (record u { steps = s1 }) v (record v { steps = s2 }) w2 (record w2 { steps = s3 }) o (ways.ByValue (Only world) (takings.Value ty))
      (entry.by_value (entry.only world) (entry.of T)) (back_code n k (suc n)) (blocks.ends (ending_of (away_ending sent x (suc n)))) op back_ends bh means last));
}

sent_is : (T : TypeExpression) (v : World) (x k n : ℕ) (s : Sent) → blocks.test blocks.if_here x (blocks.ends (ending_of (here_ending s k))) (away_code T v x s k n) ≡ sent_code T v x s k n
sent_is T v x k n (sents.Value l) = refl
sent_is T v x k n (sents.Goal g) = refl

pub sends : (u v w2 x : Walk) (s1 : List Step) (p : ℕ) (world : World) (ty : ℕ) (sent : Sent) (l k n : ℕ) (e : Ending) → BeginsTest u v p → e ≡ here_ending sent k
    → s1 ≡ v.steps ++ steps.Ends e ∷ [] → EndsTest (record v { steps = s1 }) w2 p tests.Here l → SendsAway w2 x world ty sent l k n → Sends u x world ty sent l k n
sends u v w2 x s1 p world ty sent l k n e b ee q1 en h =
    let first = grows_push v s1 (steps.Ends e) q1 in
    let patched = test_patches u v (record v { steps = s1 }) w2 p tests.Here l b first en in
    record {
      grows = grows_trans (patched_grows patched) h.grows;
      code = λ T a.
          subst (λ c. Finishes u x c) (sent_is T world l k n sent)
          (tested u v (record v { steps = s1 }) w2 x tests.Here l (blocks.ends (ending_of (here_ending sent k))) (away_code T world l sent k n) patched
          (subst (λ i. Finishes v (record v { steps = s1 }) (blocks.ends (ending_of i))) ee (ending_finishes v s1 e q1)) (h.code T (at_kept (patched_grows patched).types a)));
    }

pub get_of_unit : (u x : Walk) (s1 : List Step) (at : Around) (world : World) (z : ℕ) (address : Value) (k filled : ℕ) (seen : Seen) → IsSeen u.types at.depth (entries u.names z) seen → seen.slot ≡ None
    → filled ≡ suc address.filled → s1 ≡ u.steps ++ steps.Straight (straights.Constant constants.Unit) ∷ []
    → Sends (record u { steps = s1 }) x world seen.ty (sents.Value address.filled) address.slot k filled → GetsVariable u x at world z address k seen.ty
get_of_unit u x s1 at world z address k filled seen i e ef q h =
    let more = grows_push u s1 (steps.Straight (straights.Constant constants.Unit)) q in
    record {
      grows = grows_trans more h.grows;
      typed = λ E Γ kn. at_kept (grows_trans more h.grows).types (i.ty (Γ.bounds z) (Γ.slots z) (kn.names z));
      code = λ E Γ kn.
          let T = bound_type (Γ.bounds z) in
          subst (λ o. Finishes u x (get_variable T world address.slot o k address.filled)) (sym (i.slot (Γ.bounds z) (Γ.slots z) (kn.names z) ∙ e))
          (straight_finishes u x s1 (straights.Constant constants.Unit) (blocks.constant leaf_form.Unit) _ q (record { is = λ M j. refl })
          (subst (λ m. Finishes (record u { steps = s1 }) x (sent_code T world address.slot (sents.Value address.filled) k m)) ef
          (h.code T (i.ty (Γ.bounds z) (Γ.slots z) (kn.names z)))));
    }
