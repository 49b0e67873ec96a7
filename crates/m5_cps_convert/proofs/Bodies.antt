-- Functions, spawned threads and divisions: blocks of their own, and continuations that are held.
use Rattle.std.proofs.Common.{◌≡◌, ℕ, suc, List, Option, Some, None, refl, sym, ap, ◌∙◌, subst}
use Rattle.m5_terms.specs.Expression.{Expression, unary}
use Rattle.m5_terms.specs.TypeExpression as type
use Rattle.m5_terms.specs.TypeExpression.{TypeExpression}
use Rattle.m5_terms.specs.Table.{entries, entered}
use Rattle.m5_terms.specs.declared.types.World.{World}
use Rattle.m5_terms.specs.declared.form.UnaryForm.{UnaryForm}
use Rattle.m5_terms.specs.declared.form.UnaryForm.TheVariants as unary_form
use Rattle.m5_typing.specs.Context.{Setting}
use Rattle.m5_cps.specs.Blocks as blocks
use Rattle.m5_cps.specs.Blocks.{Code}
use Rattle.m5_cps.specs.Entries as entry
use Rattle.m5_cps.specs.Entries.{world_of}
use Rattle.m5_cps.specs.TypesByNumber.{or_unit, type_in as type_in_list}
use Rattle.m5_cps.specs.Steps.{mode_of, entry_of}
use Rattle.m5_cps.specs.declared.entry.Entry.{Entry}
use Rattle.m5_cps.specs.declared.entry.Entry.TheVariants as ways
use Rattle.m5_cps.specs.declared.entry.Argument.TheVariants as takings
use Rattle.m5_cps.specs.declared.step.Operation.TheVariants as operations
use Rattle.m5_cps.specs.declared.step.Straight.TheVariants as straights
use Rattle.m5_cps_convert.specs.Scopes.{Scope, in_block}
use Rattle.m5_cps_convert.specs.Continuations.{Continuation, Tail, Then, apply, taking, body_code, start_code, thread_end}
use Rattle.m5_cps_convert.specs.Forms.{unary_rest}
use Rattle.m5_cps_convert.specs.Convert.{cps, type_in}
use Rattle.m5_cps_convert.specs.declared.walk.Walk.{Walk}
use Rattle.m5_cps_convert.specs.declared.walk.Around.{Around}
use Rattle.m5_cps_convert.specs.declared.walk.Goal.{Goal}
use Rattle.m5_cps_convert.specs.declared.walk.Goal.TheVariants as goals
use Rattle.m5_cps_convert.specs.declared.walk.Value.{Value}
use Rattle.m5_cps_convert.specs.declared.closing.Pending.{Pending}
use Rattle.m5_cps_convert.specs.declared.closing.Held.{Held}
use Rattle.m5_cps_convert.specs.declared.functions.Signature.{Signature}
use Rattle.m5_cps_convert.specs.declared.functions.Head.{Head}
use Rattle.m5_cps_convert.specs.code.Types.{IsAt}
use Rattle.m5_cps_convert.specs.code.Writing.{Keeps, Grows, Writes, WritesValue, Finishes, Gives, MeansEntry}
use Rattle.m5_cps_convert.specs.code.Closing.{Opens, Behind, Holds, Resumes}
use Rattle.m5_cps_convert.specs.code.Knowing.{Knows}
use Rattle.m5_cps_convert.specs.code.Emitting.{AddsTypes, Emits, EmitsWithin}
use Rattle.m5_cps_convert.specs.code.Functions.{IsFunction, function_scope, parameter_type, IsWritten, around_body, IsHead, IsSigned}
use Rattle.m5_cps_convert.specs.code.Operations.{AddsType}
use Rattle.m5_cps_convert.proofs.Growing.{keeps_self, keeps_trans, grows_trans}
use Rattle.m5_cps_convert.proofs.Written.{completes_first, completes_rest}
use Rattle.m5_cps_convert.proofs.Patched.{patched_grows}
use Rattle.m5_cps_convert.proofs.Closed.{tail_finishes, end_finishes, behind_patches, held_grows, held_writes, held_keeps, closed_writes, taking_means}
use Rattle.m5_cps_convert.proofs.Added.{adds, goes_added}
use Rattle.m5_cps_convert.proofs.Known.{at_kept, knows_kept, knows_block}

-- code that ends, before types were added
pub finishes_added : (u v w : Walk) (c : Code) → Finishes u v c → AddsTypes v w → Finishes u w c
finishes_added u v w c f a = record {
  grows = grows_trans f.grows a.grows;
  stands = λ T S q. f.stands T S (completes_first T S u v w a.grows q);
}

-- the scope is known where a closure was begun
pub known_begun : (u v : Walk) (o : Pending) (at : Around) (E : Setting) (Γ : Scope) → Opens u v o → Knows u.types (entries u.names) u.functions.items at E Γ
    → Knows v.types (entries v.names) v.functions.items at E Γ
known_begun u v o at E Γ op k = subst (λ (z : Walk). Knows z.types (entries z.names) z.functions.items at E Γ) (sym op.steps) k

pub closed_grows : (u v w x z : Walk) (o : Pending) (y : Entry) → Opens u v o → Grows v w → Behind w x o y → Grows x z → Grows u z
closed_grows u v w x z o y op g b h = grows_trans (patched_grows (behind_patches u v w x o y op g b)) h

-- what a function gives, where its body has the type B
abbrev pub function_result : UnaryForm → TypeExpression → TypeExpression
function_result (unary_form.Rec f x A C) B = C
function_result f B = B

record IsClosure (E : Setting) (f : UnaryForm) (a : Expression) (n : ℕ) (Γ : Scope) : Type 0 where
  code : (κ : Continuation) → cps E (unary f a) Γ n κ
      ≡ blocks.closure (entry.by_call Γ.mode (parameter_type f) (function_result f (type_in E a (function_scope f n Γ)))) (body_code (cps E a) (function_scope f n Γ) n) (apply κ n (suc n))
  whole : type_in E (unary f a) Γ ≡ type.function (parameter_type f) (function_result f (type_in E a (function_scope f n Γ)))

is_closure : (E : Setting) (f : UnaryForm) (a : Expression) (n : ℕ) (Γ : Scope) → IsFunction f → IsClosure E f a n Γ
is_closure E (unary_form.Fn x A) a n Γ o = record { code = λ κ. refl; whole = refl }
is_closure E (unary_form.Rec f x A B) a n Γ o = record { code = λ κ. refl; whole = refl }
is_closure E unary_form.Fst a n Γ o = absurd o
is_closure E unary_form.Snd a n Γ o = absurd o
is_closure E unary_form.StrOf a n Γ o = absurd o
is_closure E unary_form.Div a n Γ o = absurd o
is_closure E unary_form.NewCell a n Γ o = absurd o
is_closure E unary_form.Load a n Γ o = absurd o
is_closure E unary_form.Hold a n Γ o = absurd o
is_closure E unary_form.Sham a n Γ o = absurd o
is_closure E unary_form.Spawn a n Γ o = absurd o
is_closure E (unary_form.Inl T) a n Γ o = absurd o
is_closure E (unary_form.Inr T) a n Γ o = absurd o
is_closure E (unary_form.Held w) a n Γ o = absurd o

-- the signature's types
record HasSignature (L : List TypeExpression) (f : UnaryForm) (B : TypeExpression) (s : Signature) : Type 0 where
  result : IsAt L s.result (function_result f B)
  whole : IsAt L s.whole (type.function (parameter_type f) (function_result f B))

signed : (J K L : List TypeExpression) (f : UnaryForm) (argument : ℕ) (written : Option Signature) (body : ℕ) (B : TypeExpression) (s : Signature) → IsFunction f → IsWritten J f written → Keeps J K
    → IsSigned K L argument written body s → IsAt K argument (parameter_type f) → IsAt K body B → HasSignature L f B s
signed J K L (unary_form.Fn x A) argument written body B s o w k g a b = let h = g.none A B w a b in record { result = h.0; whole = h.1 }
signed J K L (unary_form.Rec f x A C) argument (Some d) body B s o w k g a b = record {
  result = subst (λ (q : Signature). IsAt L q.result C) (sym (g.some d refl)) (at_kept g.keeps (at_kept k w.0));
  whole = subst (λ (q : Signature). IsAt L q.whole (type.function A C)) (sym (g.some d refl)) (at_kept g.keeps (at_kept k w.1));
}
signed J K L (unary_form.Rec f x A C) argument None body B s o w k g a b = absurd w
signed J K L unary_form.Fst argument written body B s o w k g a b = absurd o
signed J K L unary_form.Snd argument written body B s o w k g a b = absurd o
signed J K L unary_form.StrOf argument written body B s o w k g a b = absurd o
signed J K L unary_form.Div argument written body B s o w k g a b = absurd o
signed J K L unary_form.NewCell argument written body B s o w k g a b = absurd o
signed J K L unary_form.Load argument written body B s o w k g a b = absurd o
signed J K L unary_form.Hold argument written body B s o w k g a b = absurd o
signed J K L unary_form.Sham argument written body B s o w k g a b = absurd o
signed J K L unary_form.Spawn argument written body B s o w k g a b = absurd o
signed J K L (unary_form.Inl T) argument written body B s o w k g a b = absurd o
signed J K L (unary_form.Inr T) argument written body B s o w k g a b = absurd o
signed J K L (unary_form.Held v) argument written body B s o w k g a b = absurd o

call_means : (L : List TypeExpression) (at : Around) (y : Entry) (a r : ℕ) (A B : TypeExpression) (Γ : Scope) → y ≡ ways.ByCall at.mode a r → IsAt L a A → IsAt L r B → Γ.mode ≡ mode_of at.mode
    → MeansEntry L y (entry.by_call Γ.mode A B)
call_means L at y a r A B Γ e i j m = record {
  is = λ M k.
      ap (entry_of M) e
      ∙ (ap (λ C. entry.by_call (mode_of at.mode) (or_unit C) (type_in_list M r)) (k.each a A i.is)
      ∙ (ap (λ C. entry.by_call (mode_of at.mode) A (or_unit C)) (k.each r B j.is) ∙ ap (λ C. entry.by_call C A B) (sym m)));
}

pub function_emits : (u u1 v w w2 x : Walk) (L : List TypeExpression) (at inside : Around) (n m : ℕ) (goal : Goal) (f : UnaryForm) (a : Expression) (h : Head) (o : Pending) (world : World) (part val : Value)
    (s : Signature) (y : Entry) → IsFunction f → IsHead u u1 at n f h → Opens u1 v o → world ≡ world_of (mode_of at.mode) → inside ≡ around_body world at
    → EmitsWithin h.binding v w inside h.filled (goals.Tail h.continuation) a part → IsSigned w.types L h.argument h.written part.ty s → y ≡ ways.ByCall at.mode h.argument s.result
    → Behind (record w { types = L }) w2 o y → m ≡ suc n → WritesValue w2 x goal s.whole (λ κ. apply κ n m) val → Emits u x at n goal (unary f a) val
function_emits u u1 v w w2 x L at inside n m goal f a h o world part val s y is hd op ew ei em sg ey b es wr = record {
  grows = grows;
  typed = λ E Γ k.
      subst (IsAt x.types val.ty) (sym (is_closure E f a n Γ is).whole)
      (subst (λ i. IsAt x.types i (type.function (parameter_type f) (function_result f (type_in E a (function_scope f n Γ))))) (sym wr.type_is)
      (at_kept wr.writes.grows.types (subst (λ (z : Walk). IsAt z.types s.whole (type.function (parameter_type f) (function_result f (type_in E a (function_scope f n Γ))))) (sym b.steps) (sig E Γ k).whole)));
  code = λ E Γ k T S κ q fo.
      goes_added u u1 x goal val (λ κ. blocks.closure (call E Γ) (body_code (cps E a) (function_scope f n Γ) n) (apply κ n (suc n))) hd.adds
      (closed_writes u1 v w1 w2 x goal o y (call E Γ) (body_code (cps E a) (function_scope f n Γ) n) val (λ κ. apply κ n (suc n)) op (body E Γ k) b (means E Γ k)
      (subst (λ i. Writes w2 x goal val (λ κ. apply κ n i)) es wr.writes)).goes T S κ q fo
      ∙ ap Some (sym ((is_closure E f a n Γ is).code κ));
}
  where
    w1 : Walk
    w1 = record w { types = L }

    more : AddsTypes w w1
    more = adds w w1 L refl sg.keeps

    grows : Grows u x
    grows = grows_trans hd.adds.grows (closed_grows u1 v w1 w2 x o y op (grows_trans em.grows more.grows) b wr.writes.grows)

    call : (E : Setting) (Γ : Scope) → entry.Entry
    call E Γ = entry.by_call Γ.mode (parameter_type f) (function_result f (type_in E a (function_scope f n Γ)))

    inner : (E : Setting) (Γ : Scope) → Knows u.types (entries u.names) u.functions.items at E Γ
        → Knows v.types (entered h.binding (entries v.names)) v.functions.items inside E (function_scope f n Γ)
    inner E Γ k =
        subst (λ (i : Around). Knows v.types (entered h.binding (entries v.names)) v.functions.items i E (function_scope f n Γ)) (sym ei)
        (subst (λ (z : Walk). Knows z.types (entered h.binding (entries z.names)) z.functions.items (around_body world at) E (function_scope f n Γ)) (sym op.steps) (hd.known world ew E Γ k))

    kept : Keeps u1.types w.types
    kept = keeps_trans (subst (λ (z : Walk). Keeps u1.types z.types) (sym op.steps) (keeps_self u1.types)) em.grows.types

    sig : (E : Setting) (Γ : Scope) → Knows u.types (entries u.names) u.functions.items at E Γ → HasSignature L f (type_in E a (function_scope f n Γ)) s
    sig E Γ k = signed u1.types w.types L f h.argument h.written part.ty (type_in E a (function_scope f n Γ)) s is hd.written kept sg (at_kept kept hd.argument) (em.typed E (function_scope f n Γ) (inner E Γ k))

    body : (E : Setting) (Γ : Scope) → Knows u.types (entries u.names) u.functions.items at E Γ → Finishes v w1 (body_code (cps E a) (function_scope f n Γ) n)
    body E Γ k =
        let one : Finishes v w (cps E a (function_scope f n Γ) h.filled (Tail h.continuation)) =
        tail_finishes v w h.continuation part (λ κ. cps E a (function_scope f n Γ) h.filled κ) (record { grows = em.grows; goes = em.code E (function_scope f n Γ) (inner E Γ k) }) in
        finishes_added v w w1 (body_code (cps E a) (function_scope f n Γ) n)
        (subst (λ i. Finishes v w (cps E a (function_scope f n Γ) (suc (suc (suc n))) (Tail i))) hd.continuation
        (subst (λ i. Finishes v w (cps E a (function_scope f n Γ) i (Tail h.continuation))) hd.filled one)) more

    means : (E : Setting) (Γ : Scope) → Knows u.types (entries u.names) u.functions.items at E Γ → MeansEntry L y (call E Γ)
    means E Γ k =
        call_means L at y h.argument s.result (parameter_type f) (function_result f (type_in E a (function_scope f n Γ))) Γ ey (at_kept sg.keeps (at_kept kept hd.argument)) (sig E Γ k).result k.mode

pub spawn_emits : (u v w w2 x : Walk) (at inside : Around) (n argument body unit : ℕ) (goal : Goal) (a : Expression) (o : Pending) (part val : Value) (y : Entry)
    → IsAt u.types unit type.unit → argument ≡ suc n → body ≡ suc argument → Opens u v o → inside ≡ record { mode = at.mode; depth = at.depth; arms = 0 }
    → Emits v w inside body goals.End a part → Behind w w2 o y → y ≡ ways.ByValue at.mode (takings.Value unit) → Gives w2 x (straights.Spawn n) argument goal unit val
    → Emits u x at n goal (unary unary_form.Spawn a) val
spawn_emits u v w w2 x at inside n argument body unit goal a o part val y iu ea eb op ei em b ey g = record {
  grows = closed_grows u v w w2 x o y op em.grows b wr.grows;
  typed = λ E Γ k. subst (λ i. IsAt x.types i type.unit) (sym g.type_is) (at_kept wr.grows.types (subst (λ (z : Walk). IsAt z.types unit type.unit) (sym b.steps) unit_w));
  code = λ E Γ k.
      (closed_writes u v w w2 x goal o y (taking type.unit Γ) (start_code (cps E a) (in_block Γ.mode Γ) n) val (λ κ. blocks.straight (blocks.spawn n) (apply κ (suc n) (suc (suc n))))
      op (started E Γ k) b (taking_means w.types at y unit type.unit Γ ey unit_w k.mode)
      (subst (λ i. Writes w2 x goal val (λ κ. blocks.straight (blocks.spawn n) (apply κ i (suc i)))) ea wr)).goes;
}
  where
    wr : Writes w2 x goal val (λ κ. blocks.straight (blocks.spawn n) (apply κ argument (suc argument)))
    wr = g.writes (blocks.spawn n) (record { is = λ M k. refl })

    unit_w : IsAt w.types unit type.unit
    unit_w = at_kept em.grows.types (subst (λ (z : Walk). IsAt z.types unit type.unit) (sym op.steps) iu)

    started : (E : Setting) (Γ : Scope) → Knows u.types (entries u.names) u.functions.items at E Γ → Finishes v w (start_code (cps E a) (in_block Γ.mode Γ) n)
    started E Γ k =
        let kn : Knows v.types (entries v.names) v.functions.items inside E (in_block Γ.mode Γ) =
        subst (λ (i : Around). Knows v.types (entries v.names) v.functions.items i E (in_block Γ.mode Γ)) (sym ei) (knows_block at.mode Γ.mode k.mode (known_begun u v o at E Γ op k)) in
        subst (λ i. Finishes v w (cps E a (in_block Γ.mode Γ) i thread_end)) (eb ∙ ap suc ea)
        (end_finishes v w part (λ κ. cps E a (in_block Γ.mode Γ) body κ) (record { grows = em.grows; goes = em.code E (in_block Γ.mode Γ) kn }))

-- the scope is known where a continuation is held
pub known_held : (u v : Walk) (goal : Goal) (n : ℕ) (h : Held) (at : Around) (E : Setting) (Γ : Scope) → Holds u v goal n h → Knows u.types (entries u.names) u.functions.items at E Γ
    → Knows v.types (entries v.names) v.functions.items at E Γ
known_held u v (goals.Tail j) n h at E Γ hd k = subst (λ (z : Walk). Knows z.types (entries z.names) z.functions.items at E Γ) (sym hd.same) k
known_held u v goals.Then n h at E Γ hd k = known_begun u v hd.made at E Γ hd.opens k
known_held u v goals.End n h at E Γ hd k = known_begun u v hd.made at E Γ hd.opens k

-- and where only types were added
pub known_added : (u w : Walk) (A : TypeExpression) (n : ℕ) (at : Around) (E : Setting) (Γ : Scope) → AddsType u w A n → Knows u.types (entries u.names) u.functions.items at E Γ
    → Knows w.types (entries w.names) w.functions.items at E Γ
known_added u w A n at E Γ a k = subst (λ (z : Walk). Knows z.types (entries z.names) z.functions.items at E Γ) (sym a.same) (knows_kept a.keeps k)

pub division_emits : (u u1 v w w2 x : Walk) (at : Around) (n ty : ℕ) (goal : Goal) (a : Expression) (h : Held) (part given val : Value) (y : Entry)
    → AddsType u u1 (type.sum type.unit type.int) ty → Holds u1 v goal n h → Emits v w at h.filled goals.Then a part
    → Gives w w2 (straights.One operations.Div part.slot) part.filled (goals.Tail h.slot) ty given → y ≡ ways.ByValue at.mode (takings.Value ty) → Resumes w2 x h goal y ty val
    → Emits u x at n goal (unary unary_form.Div a) val
division_emits u u1 v w w2 x at n ty goal a h part given val y ad hd em g ey r = record {
  grows = grows_trans more.grows gx;
  typed = λ E Γ k. subst (λ i. IsAt x.types i quotient) (sym r.type_is) (at_kept gx.types (subst (λ (z : Walk). IsAt z.types ty quotient) (sym ad.same) ad.at));
  code = λ E Γ k.
      goes_added u u1 x goal val (λ κ. cps E (unary unary_form.Div a) Γ n κ) more
      (held_writes u1 v w2 x goal n ty h y (taking quotient Γ) val (λ i m. cps E a Γ m (Then (λ s p. unary_rest unary_form.Div s p (Tail i)))) hd (between E Γ k) r
      (taking_means w2.types at y ty quotient Γ ey ty_w2 k.mode)).goes;
}
  where
    quotient : TypeExpression
    quotient = type.sum type.unit type.int

    more : AddsTypes u u1
    more = adds u u1 ad.types ad.same ad.keeps

    wr : Writes w w2 (goals.Tail h.slot) given (λ κ. blocks.straight (blocks.one unary_form.Div part.slot) (apply κ part.filled (suc part.filled)))
    wr = g.writes (blocks.one unary_form.Div part.slot) (record { is = λ M k. refl })

    gw : Grows v w2
    gw = grows_trans em.grows wr.grows

    gx : Grows u1 x
    gx = held_grows u1 v w2 x goal n ty h y val hd gw r

    ty_w2 : IsAt w2.types ty quotient
    ty_w2 = at_kept gw.types (at_kept (held_keeps u1 v goal n h hd) (subst (λ (z : Walk). IsAt z.types ty quotient) (sym ad.same) ad.at))

    between : (E : Setting) (Γ : Scope) → Knows u.types (entries u.names) u.functions.items at E Γ
        → Finishes v w2 (cps E a Γ h.filled (Then (λ s p. unary_rest unary_form.Div s p (Tail h.slot))))
    between E Γ k = record {
      grows = gw;
      stands = λ T S q.
          em.code E Γ (known_held u1 v goal n h at E Γ hd (known_added u u1 quotient ty at E Γ ad k)) T S (Then (λ s p. unary_rest unary_form.Div s p (Tail h.slot)))
          (completes_first T S v w w2 wr.grows q)
          ((λ s p. unary_rest unary_form.Div s p (Tail h.slot)), refl, wr.goes T S (Tail h.slot) (completes_rest T S v w w2 em.grows q) refl);
    }

-- what was given after a division's part
pub given_grows : (w x : Walk) (s n ty : ℕ) (goal : Goal) (v : Value) → Gives w x (straights.One operations.Div s) n goal ty v → Grows w x
given_grows w x s n ty goal v g = (g.writes (blocks.one unary_form.Div s) (record { is = λ M k. refl })).grows
