-- Gets that go away, while they are written.
use Rattle.std.proofs.Common.{◌≡◌, ℕ, suc, List, [], ◌∷◌, ◌++◌, length, Some, slice_get, refl, sym, ap, ◌∙◌, subst}
use Rattle.m5_terms.specs.Expression.{Expression}
use Rattle.m5_terms.specs.TypeExpression.{TypeExpression, address}
use Rattle.m5_terms.specs.Table.{entries}
use Rattle.m5_terms.specs.declared.types.World.{World}
use Rattle.m5_terms.specs.declared.form.LeafForm.TheVariants as leaf_form
use Rattle.m5_typing.specs.Context.{Setting}
use Rattle.m5_cps.specs.Entries as entry
use Rattle.m5_cps.specs.Entries.{world_of}
use Rattle.m5_cps.specs.Blocks as blocks
use Rattle.m5_cps.specs.Blocks.{Code}
use Rattle.m5_cps.specs.Steps.{mode_of}
use Rattle.m5_cps.specs.declared.types.TypeRow.TheVariants as row
use Rattle.m5_cps.specs.declared.entry.Entry.{Entry}
use Rattle.m5_cps.specs.declared.entry.Entry.TheVariants as ways
use Rattle.m5_cps.specs.declared.entry.Argument.TheVariants as takings
use Rattle.m5_cps.specs.declared.entry.Mode.TheVariants.{Only}
use Rattle.m5_cps.specs.declared.step.Constant.TheVariants as constants
use Rattle.m5_cps.specs.declared.step.Straight.TheVariants as straights
use Rattle.m5_cps.specs.declared.step.Test.TheVariants as tests
use Rattle.m5_cps.specs.declared.step.Ending.TheVariants as endings
use Rattle.m5_cps.specs.declared.step.Step.{Step}
use Rattle.m5_cps.specs.declared.step.Step.TheVariants as steps
use Rattle.m5_cps_convert.specs.Scopes.{Scope, in_block}
use Rattle.m5_cps_convert.specs.Forms.{homeward}
use Rattle.m5_cps_convert.specs.Convert.{cps}
use Rattle.m5_cps_convert.specs.declared.walk.Walk.{Walk}
use Rattle.m5_cps_convert.specs.declared.walk.Around.{Around}
use Rattle.m5_cps_convert.specs.declared.walk.Goal.TheVariants as goals
use Rattle.m5_cps_convert.specs.declared.walk.Value.{Value}
use Rattle.m5_cps_convert.specs.declared.closing.Pending.{Pending}
use Rattle.m5_cps_convert.specs.code.Types.{IsAt, RowAdded}
use Rattle.m5_cps_convert.specs.code.Writing.{Keeps, Grows, Finishes, MeansEntry}
use Rattle.m5_cps_convert.specs.code.Closing.{Opens, Behind}
use Rattle.m5_cps_convert.specs.code.Knowing.{Knows}
use Rattle.m5_cps_convert.specs.code.Emitting.{AddsTypes, Emits}
use Rattle.m5_cps_convert.specs.code.Choices.{BeginsTest, EndsTest}
use Rattle.m5_cps_convert.specs.code.Aways.{SendsHome, EmitsAway}
use Rattle.m5_cps_convert.proofs.Growing.{grows_trans, grows_push, keeps_push, pushed_there}
use Rattle.m5_cps_convert.proofs.Written.{completes_first, completes_rest}
use Rattle.m5_cps_convert.proofs.Patched.{Patched, patched_grows}
use Rattle.m5_cps_convert.proofs.Closed.{tested, ending_finishes, taking_means}
use Rattle.m5_cps_convert.proofs.Added.{adds}
use Rattle.m5_cps_convert.proofs.Got.{straight_finishes, closed_finishes, test_patches}
use Rattle.m5_cps_convert.proofs.Bodies.{closed_grows, known_begun, finishes_added}
use Rattle.m5_cps_convert.proofs.Known.{knows_block}

-- the value goes home
pub sends_home : (u : Walk) (s1 s2 : List Step) (w : World) (k : ℕ) (v : Value) → s1 ≡ u.steps ++ steps.Straight (straights.Constant (constants.Addr w)) ∷ []
    → s2 ≡ s1 ++ steps.Ends (endings.Send v.filled k v.slot) ∷ [] → SendsHome u (record u { steps = s2 }) w k v
sends_home u s1 s2 w k v q1 q2 = record {
  finishes = straight_finishes u (record u { steps = s2 }) s1 (straights.Constant (constants.Addr w)) (blocks.constant (leaf_form.Addr w)) (blocks.ends (blocks.send v.filled k v.slot)) q1
      (record { is = λ M j. refl }) (ending_finishes (record u { steps = s1 }) s2 (endings.Send v.filled k v.slot) q2);
}

pub away_emits : (u tb v w w1 w2 x : Walk) (s0 s1 s3 : List Step) (L : List TypeExpression) (at inside : Around) (own world : World) (n k far block argument body place ty : ℕ) (e : Expression) (o : Pending) (value : Value) (y : Entry)
    → own ≡ world_of (mode_of at.mode) → far ≡ suc n → block ≡ suc far → argument ≡ suc block → body ≡ suc argument
    → s0 ≡ u.steps ++ steps.Straight (straights.Constant (constants.Addr own)) ∷ [] → BeginsTest (record u { steps = s0 }) tb place
    → s1 ≡ tb.steps ++ steps.Straight (straights.Constant (constants.Addr world)) ∷ [] → Opens (record tb { steps = s1 }) v o
    → inside ≡ record { mode = Only world; depth = at.depth; arms = 0 } → Emits v w inside body goals.Then e value → SendsHome w w1 own k value
    → RowAdded w1.types L (row.Address own) ty → y ≡ ways.ByValue inside.mode (takings.Value ty) → Behind (record w1 { types = L }) w2 o y
    → s3 ≡ w2.steps ++ steps.Ends (endings.Send far block n) ∷ [] → EndsTest (record w2 { steps = s3 }) x place tests.Here n → EmitsAway u x at world n k e far
away_emits u tb v w w1 w2 x s0 s1 s3 L at inside own world n k far block argument body place ty e o value y eo ef eb ea ey q0 bt q1 op ei em hm ra yv bh q3 en = record {
  filled = ef;
  grows = grows_trans (grows_push u s0 (steps.Straight (straights.Constant (constants.Addr own))) q0) (patched_grows patched);
  code = λ E Γ more c kn fc.
      let own_is : own ≡ world_of Γ.mode = eo ∙ ap world_of (sym kn.mode) in
      let all : Finishes u more (get_code E Γ own far block c) =
      straight_finishes u more s0 (straights.Constant (constants.Addr own)) (blocks.constant (leaf_form.Addr own)) (blocks.test blocks.if_here n (yes E Γ own far block) c) q0 (record { is = λ M j. refl })
      (tested (record u { steps = s0 }) tb (record w2 { steps = s3 }) x more tests.Here n (yes E Γ own far block) c patched (goes E Γ kn) fc) in
      subst (λ i. Finishes u more (get_code E Γ i (suc n) (suc (suc n)) c)) own_is
      (subst (λ i. Finishes u more (get_code E Γ own i (suc i) c)) ef (subst (λ i. Finishes u more (get_code E Γ own far i c)) eb all));
}
  where
    w3 : Walk
    w3 = record w1 { types = L }

    kept : Keeps w1.types L
    kept = keeps_push w1.types L _ ra.added

    more : AddsTypes w1 w3
    more = adds w1 w3 L refl kept

    ty_at : IsAt L ty (address own)
    ty_at = record { is = subst (λ i. slice_get L i ≡ Some (address own)) (sym ra.number) (pushed_there w1.types L (address own) ra.added) }

    grows : Grows tb (record w2 { steps = s3 })
    grows = grows_trans (grows_push tb s1 (steps.Straight (straights.Constant (constants.Addr world))) q1)
        (closed_grows (record tb { steps = s1 }) v w3 w2 (record w2 { steps = s3 }) o y op (grows_trans em.grows (grows_trans hm.finishes.grows more.grows)) bh (grows_push w2 s3 (steps.Ends (endings.Send far block n)) q3))

    patched : Patched (record u { steps = s0 }) tb (record w2 { steps = s3 }) x (steps.Test tests.Here n (length s3))
    patched = test_patches (record u { steps = s0 }) tb (record w2 { steps = s3 }) x place tests.Here n bt grows en

    -- the block that goes, and the code of this way
    goer : Setting → Scope → World → Code
    goer E Γ i = cps E e (in_block (entry.only world) Γ) (suc (suc (suc (suc n)))) (homeward i k)

    yes : Setting → Scope → World → ℕ → ℕ → Code
    yes E Γ i f b = blocks.straight (blocks.constant (leaf_form.Addr world)) (blocks.closure (entry.by_value (entry.only world) (entry.of (address i))) (goer E Γ i) (blocks.ends (blocks.send f b n)))

    get_code : Setting → Scope → World → ℕ → ℕ → Code → Code
    get_code E Γ i f b c = blocks.straight (blocks.constant (leaf_form.Addr i)) (blocks.test blocks.if_here n (yes E Γ i f b) c)

    known : (E : Setting) (Γ : Scope) → Knows u.types (entries u.names) u.functions.items at E Γ → Knows v.types (entries v.names) v.functions.items inside E (in_block (entry.only world) Γ)
    known E Γ kn =
        let begun : Knows tb.types (entries tb.names) tb.functions.items at E Γ = subst (λ (z : Walk). Knows z.types (entries z.names) z.functions.items at E Γ) (sym bt.steps) kn in
        subst (λ (i : Around). Knows v.types (entries v.names) v.functions.items i E (in_block (entry.only world) Γ)) (sym ei)
        (knows_block (Only world) (entry.only world) refl (known_begun (record tb { steps = s1 }) v o at E Γ op begun))

    body_is : body ≡ suc (suc (suc (suc n)))
    body_is = ey ∙ ap suc (ea ∙ ap suc (eb ∙ ap suc ef))

    home : ℕ → ℕ → Code
    home s m = blocks.straight (blocks.constant (leaf_form.Addr own)) (blocks.ends (blocks.send m k s))

    writes : (E : Setting) (Γ : Scope) → Knows u.types (entries u.names) u.functions.items at E Γ → Finishes v w1 (cps E e (in_block (entry.only world) Γ) body (homeward own k))
    writes E Γ kn = record {
      grows = grows_trans em.grows hm.finishes.grows;
      stands = λ T S q.
          em.code E (in_block (entry.only world) Γ) (known E Γ kn) T S (homeward own k) (completes_first T S v w w1 hm.finishes.grows q)
          (home, refl, hm.finishes.stands T S (completes_rest T S v w w1 em.grows q));
    }

    means : (Γ : Scope) → MeansEntry L y (entry.by_value (entry.only world) (entry.of (address own)))
    means Γ = taking_means L inside y ty (address own) (in_block (entry.only world) Γ) yv ty_at (ap (λ (i : Around). mode_of i.mode) (sym ei))

    goes : (E : Setting) (Γ : Scope) → Knows u.types (entries u.names) u.functions.items at E Γ → Finishes tb (record w2 { steps = s3 }) (yes E Γ own far block)
    goes E Γ kn =
        straight_finishes tb (record w2 { steps = s3 }) s1 (straights.Constant (constants.Addr world)) (blocks.constant (leaf_form.Addr world)) _ q1 (record { is = λ M j. refl })
        (closed_finishes (record tb { steps = s1 }) v w3 w2 (record w2 { steps = s3 }) o y (entry.by_value (entry.only world) (entry.of (address own))) (goer E Γ own) (blocks.ends (blocks.send far block n)) op
        (finishes_added v w1 w3 (goer E Γ own) (subst (λ i. Finishes v w1 (cps E e (in_block (entry.only world) Γ) i (homeward own k))) body_is (writes E Γ kn)) more) bh (means Γ)
        (ending_finishes w2 s3 (endings.Send far block n) q3))
