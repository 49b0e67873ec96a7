-- A function that is written with its signature, before its body.
use Rattle.std.proofs.Common.{◌≡◌, ℕ, suc, List, Some, slice_get, refl, sym, ap, ◌∙◌, subst}
use Rattle.m5_terms.specs.TypeExpression as type
use Rattle.m5_terms.specs.TypeExpression.{TypeExpression}
use Rattle.m5_terms.specs.Table.{entries, put}
use Rattle.m5_terms.specs.declared.types.World.{World}
use Rattle.m5_terms.specs.declared.form.UnaryForm.{UnaryForm}
use Rattle.m5_terms.specs.declared.form.UnaryForm.TheVariants as unary_form
use Rattle.m5_terms.specs.declared.table.Binding.TheVariants.{Two}
use Rattle.m5_typing.specs.Context.{local, Setting}
use Rattle.m5_cps.specs.Entries.{only, world_of}
use Rattle.m5_cps.specs.TypesByNumber.{or_unit, type_in}
use Rattle.m5_cps.specs.Steps.{mode_of}
use Rattle.m5_cps.specs.declared.entry.Mode.TheVariants.{Only}
use Rattle.m5_cps.specs.declared.types.TypeRow.TheVariants as row
use Rattle.m5_cps_convert.specs.Scopes.{Scope, rec_scope}
use Rattle.m5_cps_convert.specs.declared.walk.Walk.{Walk}
use Rattle.m5_cps_convert.specs.declared.walk.Kind.TheVariants.{Local}
use Rattle.m5_cps_convert.specs.declared.walk.Known.{Known}
use Rattle.m5_cps_convert.specs.declared.walk.Around.{Around}
use Rattle.m5_cps_convert.specs.code.Types.{IsAt, RowAdded, TypeAdded}
use Rattle.m5_cps_convert.specs.code.Writing.{Keeps}
use Rattle.m5_cps_convert.specs.code.Knowing.{Knows}
use Rattle.m5_cps_convert.specs.code.Functions.{around_body, IsHead}
use Rattle.m5_cps_convert.proofs.Growing.{keeps_trans, keeps_push, pushed_there}
use Rattle.m5_cps_convert.proofs.Added.{adds}
use Rattle.m5_cps_convert.proofs.Known.{at_kept, knows_kept, knows_block, knows_bind, local_is_known}

-- a function type that was added
pub function_added : (L M : List TypeExpression) (a b n : ℕ) (A B : TypeExpression) → RowAdded L M (row.Function a b) n → IsAt L a A → IsAt L b B → IsAt M n (type.function A B)
function_added L M a b n A B r i j = record {
  is = ap (slice_get M) r.number ∙ (pushed_there L M (type.function (type_in L a) (type_in L b)) r.added
      ∙ (ap (λ C. Some (type.function (or_unit C) (type_in L b))) i.is ∙ ap (λ C. Some (type.function A (or_unit C))) j.is));
}

pub rec_head : (u : Walk) (L1 L2 L3 : List TypeExpression) (at : Around) (n f x : ℕ) (A B : TypeExpression) (form : UnaryForm) (argument result whole slot continuation first : ℕ) (kx kf : Known)
    → form ≡ unary_form.Rec f x A B → TypeAdded u.types L1 A argument → TypeAdded L1 L2 B result → RowAdded L2 L3 (row.Function argument result) whole
    → slot ≡ suc n → continuation ≡ suc slot → first ≡ suc continuation → kx ≡ record { kind = Local; depth = at.depth; slot = slot; ty = argument }
    → kf ≡ record { kind = Local; depth = at.depth; slot = n; ty = whole }
    → IsHead u (record u { types = L3 }) at n form
    (record { argument = argument; written = Some (record { result = result; whole = whole }); binding = Two x kx f kf; continuation = continuation; filled = first })
rec_head u L1 L2 L3 at n f x A B form argument result whole slot continuation first kx kf ef ta tb r es ec en ekx ekf =
    subst (λ (g : UnaryForm). IsHead u (record u { types = L3 }) at n g
    (record { argument = argument; written = Some (record { result = result; whole = whole }); binding = Two x kx f kf; continuation = continuation; filled = first })) (sym ef)
    (record {
      adds = adds u (record u { types = L3 }) L3 refl k13;
      names = refl;
      argument = a3;
      written = (at_kept k23 tb.is, w3);
      continuation = ec ∙ ap suc es;
      filled = en ∙ ap suc (ec ∙ ap suc es);
      known = known;
    })
  where
    k23 : Keeps L2 L3
    k23 = keeps_push L2 L3 (type.function (type_in L2 argument) (type_in L2 result)) r.added

    k13 : Keeps u.types L3
    k13 = keeps_trans ta.keeps (keeps_trans tb.keeps k23)

    a3 : IsAt L3 argument A
    a3 = at_kept (keeps_trans tb.keeps k23) ta.is

    w3 : IsAt L3 whole (type.function A B)
    w3 = function_added L2 L3 argument result whole A B r (at_kept tb.keeps ta.is) tb.is

    known : (w : World) → w ≡ world_of (mode_of at.mode) → (E : Setting) (Γ : Scope) → Knows u.types (entries u.names) u.functions.items at E Γ
        → Knows L3 (put x (Some kx) (put f (Some kf) (entries u.names))) u.functions.items (around_body w at) E (rec_scope f x A B n Γ)
    known w e E Γ k =
        let here : only (world_of Γ.mode) ≡ mode_of (Only w) = ap (λ m. only (world_of m)) k.mode ∙ ap only (sym e) in
        let in_body = knows_block (Only w) (only (world_of Γ.mode)) here (knows_kept k13 k) in
        let with_f = knows_bind f (record { kind = Local; depth = at.depth; slot = n; ty = whole }) (local (world_of Γ.mode) (type.function A B)) n
        (local_is_known L3 at.depth n whole (world_of Γ.mode) (type.function A B) w3) in_body in
        let with_x = knows_bind x (record { kind = Local; depth = at.depth; slot = suc n; ty = argument }) (local (world_of Γ.mode) A) (suc n)
        (local_is_known L3 at.depth (suc n) argument (world_of Γ.mode) A a3) with_f in
        subst (λ (q : Known). Knows L3 (put x (Some q) (put f (Some kf) (entries u.names))) u.functions.items (around_body w at) E (rec_scope f x A B n Γ))
        (sym (ekx ∙ ap (λ s. record { kind = Local; depth = at.depth; slot = s; ty = argument }) es))
        (subst (λ (q : Known). Knows L3 (put x (Some (record { kind = Local; depth = at.depth; slot = suc n; ty = argument })) (put f (Some q) (entries u.names))) u.functions.items (around_body w at) E (rec_scope f x A B n Γ))
        (sym ekf) with_x)
