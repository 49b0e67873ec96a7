-- Bodies of gets and arms of choices, and both whole.
use Rattle.std.proofs.Common.{◌≡◌, ◌<◌, ◌≤◌, ℕ, suc, true, false, nat_lt, if◌then◌else◌, List, [], ◌∷◌, ◌++◌, length, Option, Some, None, refl, sym, ap, ◌∙◌, subst, arith}
use Rattle.std.proofs.lemmas.Bool.Decides.{nat_tests}
use Rattle.m5_terms.specs.Expression.{Expression, leaf, unary, binary, ternary}
use Rattle.m5_terms.specs.TypeExpression.{TypeExpression}
use Rattle.m5_terms.specs.Table.{entries, entered}
use Rattle.m5_terms.specs.declared.types.World.{World}
use Rattle.m5_terms.specs.declared.table.Binding.{Binding}
use Rattle.m5_terms.specs.declared.form.LeafForm.TheVariants as leaf_form
use Rattle.m5_terms.specs.declared.form.BinaryForm.TheVariants as binary_form
use Rattle.m5_terms.specs.declared.form.TernaryForm.{TernaryForm}
use Rattle.m5_terms.specs.declared.form.TernaryForm.TheVariants as ternary_form
use Rattle.m5_typing.specs.Context.{Setting}
use Rattle.m5_cps.specs.Entries as entry
use Rattle.m5_cps.specs.Entries.{world_of}
use Rattle.m5_cps.specs.Blocks as blocks
use Rattle.m5_cps.specs.Blocks.{Code}
use Rattle.m5_cps.specs.TypeParts.{place_of}
use Rattle.m5_cps.specs.TypeOf.{type_of}
use Rattle.m5_cps.specs.TypesByNumber.{or_unit, type_in as type_in_list}
use Rattle.m5_cps.specs.Steps.{mode_of, entry_of, test_of}
use Rattle.m5_cps.specs.declared.entry.Mode.{Mode}
use Rattle.m5_cps.specs.declared.entry.Entry.{Entry}
use Rattle.m5_cps.specs.declared.entry.Entry.TheVariants as ways
use Rattle.m5_cps.specs.declared.entry.Argument.TheVariants as takings
use Rattle.m5_cps.specs.declared.entry.Mode.TheVariants.{Only}
use Rattle.m5_cps.specs.declared.step.Ending.TheVariants as endings
use Rattle.m5_cps.specs.declared.step.Step.{Step}
use Rattle.m5_cps.specs.declared.step.Step.TheVariants as steps
use Rattle.m5_cps_convert.specs.Scopes.{Scope, in_block, in_arm}
use Rattle.m5_cps_convert.specs.Continuations.{Continuation, Tail, Then, reify, taking, goal_code, arm_code}
use Rattle.m5_cps_convert.specs.Forms.{variable_of, get_code}
use Rattle.m5_cps_convert.specs.Convert.{away_to, get_apart, get_parts, cps, type_in, ternary_rest}
use Rattle.m5_cps_convert.specs.declared.walk.Walk.{Walk}
use Rattle.m5_cps_convert.specs.declared.walk.Known.{Known}
use Rattle.m5_cps_convert.specs.declared.walk.Around.{Around}
use Rattle.m5_cps_convert.specs.declared.walk.Goal.{Goal}
use Rattle.m5_cps_convert.specs.declared.walk.Goal.TheVariants as goals
use Rattle.m5_cps_convert.specs.declared.walk.Value.{Value}
use Rattle.m5_cps_convert.specs.declared.closing.Pending.{Pending}
use Rattle.m5_cps_convert.specs.declared.closing.Held.{Held}
use Rattle.m5_cps_convert.specs.declared.lets.Inside.{Inside}
use Rattle.m5_cps_convert.specs.declared.gets.Sent.TheVariants as sents
use Rattle.m5_cps_convert.specs.code.Types.{IsAt}
use Rattle.m5_cps_convert.specs.code.Around.{IsInArm}
use Rattle.m5_cps_convert.specs.code.Writing.{Keeps, Grows, Finishes, MeansEntry}
use Rattle.m5_cps_convert.specs.code.Closing.{Opens, Behind, Holds, Resumes}
use Rattle.m5_cps_convert.specs.code.Knowing.{Knows}
use Rattle.m5_cps_convert.specs.code.Emitting.{Emits, EmitsWithin}
use Rattle.m5_cps_convert.specs.code.Choices.{BeginsTest, EndsTest, choice_test, second_arm_scope, third_arm_scope, second_arm_filled, third_arm_filled, IsArm}
use Rattle.m5_cps_convert.specs.code.Gets.{sent_code, Sends, GetsVariable}
use Rattle.m5_cps_convert.specs.code.Aways.{EmitsAway}
use Rattle.m5_cps_convert.specs.code.Parts.{EmitsBody, EmitsApart, EmitsParts, IsWhole, or_own, EmitsArm}
use Rattle.m5_cps_convert.proofs.Growing.{keeps_self, keeps_trans, grows_trans, grows_push}
use Rattle.m5_cps_convert.proofs.Written.{completes_first, completes_rest}
use Rattle.m5_cps_convert.proofs.Patched.{Patched, patched_grows}
use Rattle.m5_cps_convert.proofs.Closed.{continues_types, tail_finishes, held_grows, held_writes, held_keeps, tested, ending_finishes, taking_means}
use Rattle.m5_cps_convert.proofs.Got.{closed_finishes, test_patches}
use Rattle.m5_cps_convert.proofs.Bodies.{closed_grows, known_begun, known_held}
use Rattle.m5_cps_convert.proofs.Binaries.{known_after}
use Rattle.m5_cps_convert.proofs.Known.{at_kept, knows_block, knows_arm}

-- the entry of a block that waits for a continuation
waiting_means : (L : List TypeExpression) (y : Entry) (m : Mode) (ty : ℕ) (A : TypeExpression) (e : entry.Mode) → y ≡ ways.ByValue m (takings.Continuation ty) → IsAt L ty A → e ≡ mode_of m
    → MeansEntry L y (entry.by_value e (entry.takes (entry.of A)))
waiting_means L y m ty A e ey a em = record {
  is = λ M k. ap (entry_of M) ey ∙ (ap (λ B. entry.by_value (mode_of m) (entry.takes (entry.of (or_unit B)))) (k.each ty A a.is) ∙ ap (λ i. entry.by_value i (entry.takes (entry.of A))) (sym em));
}

-- a body that is a variable
pub variable_body : (u x : Walk) (at : Around) (world : World) (z : ℕ) (address : Value) (k ty : ℕ) (e : Expression) → variable_of e ≡ Some z → GetsVariable u x at world z address k ty
    → EmitsBody u x at world address k e ty
variable_body u x at world z address k ty (leaf (leaf_form.Var y)) e h =
    let same : z ≡ y = cc in
    subst (λ i. EmitsBody u x at world address k (leaf (leaf_form.Var i)) ty) same (record { grows = h.grows; typed = h.typed; code = h.code })
variable_body u x at world z address k ty (leaf (leaf_form.Valid y)) e h =
    let same : z ≡ y = cc in
    subst (λ i. EmitsBody u x at world address k (leaf (leaf_form.Valid i)) ty) same (record { grows = h.grows; typed = h.typed; code = h.code })
variable_body u x at world z address k ty (leaf (leaf_form.Glob y)) e h = absurd (cc)
variable_body u x at world z address k ty (leaf (leaf_form.Extern y)) e h = absurd (cc)
variable_body u x at world z address k ty (leaf leaf_form.Unit) e h = absurd (cc)
variable_body u x at world z address k ty (leaf (leaf_form.Bool y)) e h = absurd (cc)
variable_body u x at world z address k ty (leaf (leaf_form.Int y)) e h = absurd (cc)
variable_body u x at world z address k ty (leaf (leaf_form.Str y)) e h = absurd (cc)
variable_body u x at world z address k ty (leaf (leaf_form.Addr y)) e h = absurd (cc)
variable_body u x at world z address k ty (leaf leaf_form.Here) e h = absurd (cc)
variable_body u x at world z address k ty (leaf (leaf_form.Nil y)) e h = absurd (cc)
variable_body u x at world z address k ty (leaf (leaf_form.CellAt y i)) e h = absurd (cc)
variable_body u x at world z address k ty (unary f a) e h = absurd (cc)
variable_body u x at world z address k ty (binary f a b) e h = absurd (cc)
variable_body u x at world z address k ty (ternary f a b c) e h = absurd (cc)

-- another body is a block of its own
pub goal_body : (u v w w2 x : Walk) (at inside : Around) (world : World) (address : Value) (k waiting body : ℕ) (o : Pending) (y : Entry) (e : Expression) (value : Value)
    → variable_of e ≡ None → waiting ≡ suc address.filled → body ≡ suc waiting → Opens u v o → inside ≡ record { mode = Only world; depth = at.depth; arms = 0 }
    → Emits v w inside body (goals.Tail waiting) e value → Behind w w2 o y → y ≡ ways.ByValue (Only world) (takings.Continuation value.ty)
    → Sends w2 x world value.ty (sents.Goal address.filled) address.slot k waiting → EmitsBody u x at world address k e value.ty
goal_body u v w w2 x at inside world address k waiting body o y e value none ew eb op ei em bh ey h = record {
  grows = closed_grows u v w w2 x o y op em.grows bh h.grows;
  typed = λ E Γ kn. at_kept h.grows.types (at_end E Γ kn);
  code = λ E Γ kn.
      let T = type_of E e Γ.bounds world in
      subst (λ i. Finishes u x (get_code T world address.slot i (cps E e) Γ k address.filled)) (sym none)
      (closed_finishes u v w w2 x o y (entry.by_value (entry.only world) (entry.takes (entry.of T))) (goal_code (cps E e) (in_block (entry.only world) Γ) address.filled)
      (blocks.test blocks.if_here address.slot (blocks.ends (blocks.go address.filled k)) _) op (block E Γ kn) bh
      (waiting_means w.types y (Only world) value.ty T (entry.only world) ey (em.typed E (in_block (entry.only world) Γ) (inner E Γ kn)) refl)
      (subst (λ m. Finishes w2 x (sent_code T world address.slot (sents.Goal address.filled) k m)) ew (h.code T (at_end E Γ kn))));
}
  where
    inner : (E : Setting) (Γ : Scope) → Knows u.types (entries u.names) u.functions.items at E Γ → Knows v.types (entries v.names) v.functions.items inside E (in_block (entry.only world) Γ)
    inner E Γ kn =
        subst (λ (i : Around). Knows v.types (entries v.names) v.functions.items i E (in_block (entry.only world) Γ)) (sym ei)
        (knows_block (Only world) (entry.only world) refl (known_begun u v o at E Γ op kn))

    at_end : (E : Setting) (Γ : Scope) → Knows u.types (entries u.names) u.functions.items at E Γ → IsAt w2.types value.ty (type_of E e Γ.bounds world)
    at_end E Γ kn = subst (λ (z : Walk). IsAt z.types value.ty (type_of E e Γ.bounds world)) (sym bh.steps) (em.typed E (in_block (entry.only world) Γ) (inner E Γ kn))

    block : (E : Setting) (Γ : Scope) → Knows u.types (entries u.names) u.functions.items at E Γ → Finishes v w (goal_code (cps E e) (in_block (entry.only world) Γ) address.filled)
    block E Γ kn =
        let one : Finishes v w (cps E e (in_block (entry.only world) Γ) body (Tail waiting)) =
        tail_finishes v w waiting value (λ κ. cps E e (in_block (entry.only world) Γ) body κ) (record { grows = em.grows; goes = em.code E (in_block (entry.only world) Γ) (inner E Γ kn) }) in
        subst (λ i. Finishes v w (cps E e (in_block (entry.only world) Γ) (suc i) (Tail i))) ew
        (subst (λ i. Finishes v w (cps E e (in_block (entry.only world) Γ) i (Tail waiting))) eb one)

-- the address of a get, and its body
pub apart_emits : (v w w2 : Walk) (at : Around) (n k : ℕ) (a b : Expression) (address : Value) (world : World) (ty : ℕ)
    → Emits v w at n goals.Then a address → world ≡ place_of (type_in_list w.types address.ty) → EmitsBody w w2 at world address k b ty → EmitsApart v w2 at n k a b ty
apart_emits v w w2 at n k a b address world ty ea ew eb = record {
  grows = grows_trans ea.grows eb.grows;
  typed = λ E Γ kn. subst (λ s. IsAt w2.types ty (type_of E b Γ.bounds s)) (world_is E Γ kn) (eb.typed E Γ (known_after v w at E Γ ea.grows kn));
  code = λ E Γ kn. record {
    grows = grows_trans ea.grows eb.grows;
    stands = λ T S q.
        ea.code E Γ kn T S (Then (rest E Γ)) (completes_first T S v w w2 eb.grows q) (
          rest E Γ,
          refl,
          (eb.code E Γ (known_after v w at E Γ ea.grows kn)).stands T S (completes_rest T S v w w2 ea.grows q)
              ∙ ap (λ s. Some (get_code (type_of E b Γ.bounds s) s address.slot (variable_of b) (cps E b) Γ k address.filled)) (world_is E Γ kn),
        );
  };
}
  where
    rest : Setting → Scope → ℕ → ℕ → Code
    rest E Γ s p = get_code (type_of E b Γ.bounds (place_of (type_in E a Γ))) (place_of (type_in E a Γ)) s (variable_of b) (cps E b) Γ k p

    world_is : (E : Setting) (Γ : Scope) → Knows v.types (entries v.names) v.functions.items at E Γ → world ≡ place_of (type_in E a Γ)
    world_is E Γ kn = ew ∙ ap (λ A. place_of (or_unit A)) (ea.typed E Γ kn).is

-- where its block may go, what another site does comes last
pub parts_emit : (v w w2 : Walk) (at : Around) (own world : World) (n k m : ℕ) (a b : Expression) (ty : ℕ) → own ≡ world_of (mode_of at.mode) → away_to own a b ≡ Some world
    → EmitsAway v w at world n k b m → EmitsApart w w2 at m k a b ty → EmitsParts v w2 at n k a b ty
parts_emit v w w2 at own world n k m a b ty eo away e h = record {
  grows = grows_trans e.grows h.grows;
  typed = λ E Γ kn. h.typed E Γ (known_after v w at E Γ e.grows kn);
  code = λ E Γ kn.
      subst (λ o. Finishes v w2 (get_parts o (type_in E (binary binary_form.Get a b) Γ) (type_in E a Γ) (variable_of b) (cps E a) (cps E b) Γ k n))
      (sym (ap (λ i. away_to i a b) (ap world_of kn.mode ∙ sym eo) ∙ away))
      (e.code E Γ w2 _ kn
      (subst (λ i. Finishes w w2 (get_apart (type_in E (binary binary_form.Get a b) Γ) (type_in E a Γ) (variable_of b) (cps E a) (cps E b) Γ k i)) e.filled (h.code E Γ (known_after v w at E Γ e.grows kn))));
}

pub apart_parts : (v w2 : Walk) (at : Around) (own : World) (n k : ℕ) (a b : Expression) (ty : ℕ) → own ≡ world_of (mode_of at.mode) → away_to own a b ≡ None
    → EmitsApart v w2 at n k a b ty → EmitsParts v w2 at n k a b ty
apart_parts v w2 at own n k a b ty eo none h = record {
  grows = h.grows;
  typed = h.typed;
  code = λ E Γ kn.
      subst (λ o. Finishes v w2 (get_parts o (type_in E (binary binary_form.Get a b) Γ) (type_in E a Γ) (variable_of b) (cps E a) (cps E b) Γ k n))
      (sym (ap (λ i. away_to i a b) (ap world_of kn.mode ∙ sym eo) ∙ none)) (h.code E Γ kn);
}

-- a get, whose continuation is held before its parts
pub get_emits : (u v w2 x : Walk) (at : Around) (n : ℕ) (goal : Goal) (a b : Expression) (h : Held) (val : Value) (ty : ℕ) (y : Entry)
    → Holds u v goal n h → EmitsParts v w2 at h.filled h.slot a b ty → y ≡ ways.ByValue at.mode (takings.Value ty) → Resumes w2 x h goal y ty val → Emits u x at n goal (binary binary_form.Get a b) val
get_emits u v w2 x at n goal a b h val ty y hd ep ey r = record {
  grows = held_grows u v w2 x goal n ty h y val hd ep.grows r;
  typed = λ E Γ k. subst (λ i. IsAt x.types i (whole E Γ)) (sym r.type_is) (at_kept rest_kept (ep.typed E Γ (known_held u v goal n h at E Γ hd k)));
  code = λ E Γ k.
      (held_writes u v w2 x goal n ty h y (taking (whole E Γ) Γ) val
      (λ i m. get_parts (away_to (world_of Γ.mode) a b) (whole E Γ) (type_in E a Γ) (variable_of b) (cps E a) (cps E b) Γ i m) hd (ep.code E Γ (known_held u v goal n h at E Γ hd k)) r
      (taking_means w2.types at y ty (whole E Γ) Γ ey (ep.typed E Γ (known_held u v goal n h at E Γ hd k)) k.mode)).goes;
}
  where
    whole : (E : Setting) (Γ : Scope) → TypeExpression
    whole E Γ = type_in E (binary binary_form.Get a b) Γ

    rest_kept : Keeps w2.types x.types
    rest_kept = subst (λ L. Keeps w2.types L) (sym (continues_types w2 x goal h.pending y r.continues)) (keeps_self w2.types)

below : (a b : ℕ) → a < b → nat_lt a b ≡ true
below a b h = grind (arith, nat_tests)

not_below : (a b : ℕ) → b ≤ a → nat_lt a b ≡ false
not_below a b h = grind (arith, nat_tests)

-- an arm whose test stands in the same block
pub arm_inside : (b : Binding Known) (u x : Walk) (at inside : Around) (n k : ℕ) (whole : Option ℕ) (e : Expression) (v : Value) → at.arms < 500 → IsInArm at inside
    → EmitsWithin b u x inside n (goals.Tail k) e v → EmitsArm b u x at n k whole e v.ty
arm_inside b u x at inside n k whole e v l i em = record {
  grows = em.grows;
  typed = λ E Γ kn. em.typed E (in_arm Γ) (inner E Γ kn);
  code = λ E Γ T kn t.
      subst (λ i. Finishes u x (if i then cps E e (in_arm Γ) n (Tail k) else blocks.closure (entry.by_value Γ.mode (entry.takes (entry.of T))) (goal_code (cps E e) (in_block Γ.mode Γ) n) (blocks.ends (blocks.go n k))))
      (sym (ap (λ m. nat_lt m 500) kn.arms ∙ below at.arms 500 l))
      (tail_finishes u x k v (λ κ. cps E e (in_arm Γ) n κ) (record { grows = em.grows; goes = em.code E (in_arm Γ) (inner E Γ kn) }));
}
  where
    inner : (E : Setting) (Γ : Scope) → Knows u.types (entered b (entries u.names)) u.functions.items at E Γ → Knows u.types (entered b (entries u.names)) u.functions.items inside E (in_arm Γ)
    inner E Γ kn = subst (λ (a : Around). Knows u.types (entered b (entries u.names)) u.functions.items a E (in_arm Γ)) (sym i.is) (knows_arm i.arms i.one_more kn)

-- an arm that gets a block of its own, where too many are open
pub arm_block : (b : Binding Known) (u v w w2 : Walk) (ss : List Step) (at inside : Around) (n k waiting body ty : ℕ) (whole : Option ℕ) (e : Expression) (o : Pending) (y : Entry) (value : Value)
    → 500 ≤ at.arms → waiting ≡ suc n → body ≡ suc waiting → Opens u v o → inside ≡ record { mode = at.mode; depth = at.depth; arms = 0 }
    → EmitsWithin b v w inside body (goals.Tail waiting) e value → ty ≡ or_own whole value.ty → Behind w w2 o y → y ≡ ways.ByValue at.mode (takings.Continuation ty)
    → ss ≡ w2.steps ++ steps.Ends (endings.Go n k) ∷ [] → EmitsArm b u (record w2 { steps = ss }) at n k whole e value.ty
arm_block b u v w w2 ss at inside n k waiting body ty whole e o y value l ew eb op ei em et bh ey q = record {
  grows = closed_grows u v w w2 x o y op em.grows bh (grows_push w2 ss (steps.Ends (endings.Go n k)) q);
  typed = λ E Γ kn. subst (λ (z : Walk). IsAt z.types value.ty (type_in E e Γ)) (sym bh.steps) (em.typed E (in_block Γ.mode Γ) (inner E Γ kn));
  code = λ E Γ T kn t.
      subst (λ i. Finishes u x (if i then cps E e (in_arm Γ) n (Tail k) else blocks.closure (entry.by_value Γ.mode (entry.takes (entry.of T))) (goal_code (cps E e) (in_block Γ.mode Γ) n) (blocks.ends (blocks.go n k))))
      (sym (ap (λ m. nat_lt m 500) kn.arms ∙ not_below at.arms 500 l))
      (closed_finishes u v w w2 x o y (entry.by_value Γ.mode (entry.takes (entry.of T))) (goal_code (cps E e) (in_block Γ.mode Γ) n) (blocks.ends (blocks.go n k)) op (block E Γ kn) bh
      (waiting_means w.types y at.mode ty T Γ.mode ey (subst (λ i. IsAt w.types i T) (sym et) (entry_at whole T (type_in E e Γ) t (em.typed E (in_block Γ.mode Γ) (inner E Γ kn)))) kn.mode)
      (ending_finishes w2 ss (endings.Go n k) q));
}
  where
    x : Walk
    x = record w2 { steps = ss }

    inner : (E : Setting) (Γ : Scope) → Knows u.types (entered b (entries u.names)) u.functions.items at E Γ → Knows v.types (entered b (entries v.names)) v.functions.items inside E (in_block Γ.mode Γ)
    inner E Γ kn =
        subst (λ (i : Around). Knows v.types (entered b (entries v.names)) v.functions.items i E (in_block Γ.mode Γ)) (sym ei)
        (knows_block at.mode Γ.mode kn.mode (subst (λ (z : Walk). Knows z.types (entered b (entries z.names)) z.functions.items at E Γ) (sym op.steps) kn))

    kept : Keeps u.types w.types
    kept = keeps_trans (subst (λ (z : Walk). Keeps u.types z.types) (sym op.steps) (keeps_self u.types)) em.grows.types

    entry_at : (whole : Option ℕ) (T B : TypeExpression) → IsWhole u.types whole T B → IsAt w.types value.ty B → IsAt w.types (or_own whole value.ty) T
    entry_at None T B t i = subst (IsAt w.types value.ty) (sym t) i
    entry_at (Some j) T B t i = at_kept kept t

    block : (E : Setting) (Γ : Scope) → Knows u.types (entered b (entries u.names)) u.functions.items at E Γ → Finishes v w (goal_code (cps E e) (in_block Γ.mode Γ) n)
    block E Γ kn =
        let one : Finishes v w (cps E e (in_block Γ.mode Γ) body (Tail waiting)) =
        tail_finishes v w waiting value (λ κ. cps E e (in_block Γ.mode Γ) body κ) (record { grows = em.grows; goes = em.code E (in_block Γ.mode Γ) (inner E Γ kn) }) in
        subst (λ i. Finishes v w (cps E e (in_block Γ.mode Γ) (suc i) (Tail i))) ew (subst (λ i. Finishes v w (cps E e (in_block Γ.mode Γ) i (Tail waiting))) eb one)

-- both ways of a choice, and its type
abbrev pub choice_code : Setting → TernaryForm → TypeExpression → TypeExpression → Expression → Expression → Scope → ℕ → ℕ → ℕ → Code
choice_code E f T A b c Γ s k m =
    blocks.test (test_of (choice_test f)) s (arm_code T (cps E b) (second_arm_scope f A m Γ) (second_arm_filled f m) k) (arm_code T (cps E c) (third_arm_scope f A m Γ) (third_arm_filled f m) k)

choice_is : (E : Setting) (f : TernaryForm) (T A : TypeExpression) (b c : Expression) (Γ : Scope) (s n : ℕ) (κ : Continuation)
    → reify (taking T Γ) κ n (λ k m. choice_code E f T A b c Γ s k m) ≡ ternary_rest f T A (cps E b) (cps E c) Γ s n κ
choice_is E ternary_form.If T A b c Γ s n κ = refl
choice_is E (ternary_form.CaseSum y z) T A b c Γ s n κ = refl
choice_is E (ternary_form.CaseList y z) T A b c Γ s n κ = refl

choice_type : (E : Setting) (f : TernaryForm) (a b c : Expression) (Γ : Scope) (m : ℕ) → type_in E (ternary f a b c) Γ ≡ type_in E b (second_arm_scope f (type_in E a Γ) m Γ)
choice_type E ternary_form.If a b c Γ m = refl
choice_type E (ternary_form.CaseSum y z) a b c Γ m = refl
choice_type E (ternary_form.CaseList y z) a b c Γ m = refl

pub choice_emits : (u u1 v w w1 w2 w3 x : Walk) (at : Around) (n : ℕ) (goal : Goal) (f : TernaryForm) (a b c : Expression) (first val : Value) (h : Held) (p t1 t2 : ℕ) (i1 i2 : Inside) (y : Entry)
    → Emits u u1 at n goals.Then a first → Holds u1 v goal first.filled h → BeginsTest v w p → IsArm second_arm_scope second_arm_filled w.types at f first.ty h.filled i1
    → EmitsArm i1.binding w w1 at i1.filled h.slot None b t1 → EndsTest w1 w2 p (choice_test f) first.slot → IsArm third_arm_scope third_arm_filled w2.types at f first.ty h.filled i2
    → EmitsArm i2.binding w2 w3 at i2.filled h.slot (Some t1) c t2 → y ≡ ways.ByValue at.mode (takings.Value t1) → Resumes w3 x h goal y t1 val
    → Emits u x at n goal (ternary f a b c) val
choice_emits u u1 v w w1 w2 w3 x at n goal f a b c first val h p t1 t2 i1 i2 y ea hd bt j1 m1 et j2 m2 ey r = record {
  grows = grows_trans ea.grows gx;
  typed = λ E Γ k. subst (λ i. IsAt x.types i (whole E Γ)) (sym r.type_is) (at_kept rest_kept (type_w3 E Γ k));
  code = λ E Γ k T S κ q fo.
      ea.code E Γ k T S (Then (λ s m. ternary_rest f (whole E Γ) (type_in E a Γ) (cps E b) (cps E c) Γ s m κ)) (completes_first T S u u1 x gx q) (
        (λ s m. ternary_rest f (whole E Γ) (type_in E a Γ) (cps E b) (cps E c) Γ s m κ),
        refl,
        (held_writes u1 v w3 x goal first.filled t1 h y (taking (whole E Γ) Γ) val (λ i m. choice_code E f (whole E Γ) (type_in E a Γ) b c Γ first.slot i m) hd (between E Γ k) r
            (taking_means w3.types at y t1 (whole E Γ) Γ ey (type_w3 E Γ k) k.mode)).goes T S κ (completes_rest T S u u1 x ea.grows q) fo
            ∙ ap Some (choice_is E f (whole E Γ) (type_in E a Γ) b c Γ first.slot first.filled κ),
      );
}
  where
    whole : (E : Setting) (Γ : Scope) → TypeExpression
    whole E Γ = type_in E (ternary f a b c) Γ

    gw : Grows v w
    gw = subst (λ (z : Walk). Grows v z) (sym bt.steps) (grows_push v (v.steps ++ bt.step ∷ []) bt.step refl)

    patched : Patched v w w1 w2 (steps.Test (choice_test f) first.slot (length w1.steps))
    patched = test_patches v w w1 w2 p (choice_test f) first.slot bt m1.grows et

    g2 : Grows v w2
    g2 = patched_grows patched

    g3 : Grows v w3
    g3 = grows_trans g2 m2.grows

    gx : Grows u1 x
    gx = held_grows u1 v w3 x goal first.filled t1 h y val hd g3 r

    rest_kept : Keeps w3.types x.types
    rest_kept = subst (λ L. Keeps w3.types L) (sym (continues_types w3 x goal h.pending y r.continues)) (keeps_self w3.types)

    known_v : (E : Setting) (Γ : Scope) → Knows u.types (entries u.names) u.functions.items at E Γ → Knows v.types (entries v.names) v.functions.items at E Γ
    known_v E Γ k = known_held u1 v goal first.filled h at E Γ hd (known_after u u1 at E Γ ea.grows k)

    first_at : (E : Setting) (Γ : Scope) → Knows u.types (entries u.names) u.functions.items at E Γ → IsAt v.types first.ty (type_in E a Γ)
    first_at E Γ k = at_kept (held_keeps u1 v goal first.filled h hd) (ea.typed E Γ k)

    inner1 : (E : Setting) (Γ : Scope) → Knows u.types (entries u.names) u.functions.items at E Γ
        → Knows w.types (entered i1.binding (entries w.names)) w.functions.items at E (second_arm_scope f (type_in E a Γ) h.filled Γ)
    inner1 E Γ k = j1.known (entries w.names) w.functions.items E Γ (type_in E a Γ) (at_kept gw.types (first_at E Γ k)) (known_after v w at E Γ gw (known_v E Γ k))

    inner2 : (E : Setting) (Γ : Scope) → Knows u.types (entries u.names) u.functions.items at E Γ
        → Knows w2.types (entered i2.binding (entries w2.names)) w2.functions.items at E (third_arm_scope f (type_in E a Γ) h.filled Γ)
    inner2 E Γ k = j2.known (entries w2.names) w2.functions.items E Γ (type_in E a Γ) (at_kept g2.types (first_at E Γ k)) (known_after v w2 at E Γ g2 (known_v E Γ k))

    type_w1 : (E : Setting) (Γ : Scope) → Knows u.types (entries u.names) u.functions.items at E Γ → IsAt w1.types t1 (whole E Γ)
    type_w1 E Γ k = subst (IsAt w1.types t1) (sym (choice_type E f a b c Γ h.filled)) (m1.typed E (second_arm_scope f (type_in E a Γ) h.filled Γ) (inner1 E Γ k))

    type_w2 : (E : Setting) (Γ : Scope) → Knows u.types (entries u.names) u.functions.items at E Γ → IsAt w2.types t1 (whole E Γ)
    type_w2 E Γ k = subst (λ (z : Walk). IsAt z.types t1 (whole E Γ)) (sym et.steps) (type_w1 E Γ k)

    type_w3 : (E : Setting) (Γ : Scope) → Knows u.types (entries u.names) u.functions.items at E Γ → IsAt w3.types t1 (whole E Γ)
    type_w3 E Γ k = at_kept m2.grows.types (type_w2 E Γ k)

    between : (E : Setting) (Γ : Scope) → Knows u.types (entries u.names) u.functions.items at E Γ → Finishes v w3 (choice_code E f (whole E Γ) (type_in E a Γ) b c Γ first.slot h.slot h.filled)
    between E Γ k =
        tested v w w1 w2 w3 (choice_test f) first.slot _ _ patched
        (subst (λ m. Finishes w w1 (arm_code (whole E Γ) (cps E b) (second_arm_scope f (type_in E a Γ) h.filled Γ) m h.slot)) j1.filled
        (m1.code E (second_arm_scope f (type_in E a Γ) h.filled Γ) (whole E Γ) (inner1 E Γ k) (choice_type E f a b c Γ h.filled)))
        (subst (λ m. Finishes w2 w3 (arm_code (whole E Γ) (cps E c) (third_arm_scope f (type_in E a Γ) h.filled Γ) m h.slot)) j2.filled
        (m2.code E (third_arm_scope f (type_in E a Γ) h.filled Γ) (whole E Γ) (inner2 E Γ k) (type_w2 E Γ k)))
