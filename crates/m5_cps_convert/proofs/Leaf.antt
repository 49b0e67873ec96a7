-- Forms without parts.
use Rattle.std.proofs.Common.{◌≡◌, ℕ, List, Some, None, slice_get, refl, sym, ap, ◌∙◌, subst}
use Rattle.m5_terms.specs.Expression.{leaf}
use Rattle.m5_terms.specs.TypeExpression as type
use Rattle.m5_terms.specs.TypeExpression.{TypeExpression}
use Rattle.m5_terms.specs.Table.{entries}
use Rattle.m5_terms.specs.declared.form.LeafForm.TheVariants as leaf_form
use Rattle.m5_typing.specs.Context.{Setting}
use Rattle.m5_cps.specs.Blocks as blocks
use Rattle.m5_cps.specs.TypeParts.{bound_type}
use Rattle.m5_cps.specs.TypesByNumber.{or_unit, type_in}
use Rattle.m5_cps.specs.declared.types.TypeRow.TheVariants as row
use Rattle.m5_cps.specs.declared.step.Constant.TheVariants as constants
use Rattle.m5_cps.specs.declared.step.Straight.TheVariants as straights
use Rattle.m5_cps_convert.specs.Scopes.{Scope}
use Rattle.m5_cps_convert.specs.Continuations.{Continuation, variable_code, constant_code}
use Rattle.m5_cps_convert.specs.declared.walk.Walk.{Walk}
use Rattle.m5_cps_convert.specs.declared.walk.Around.{Around}
use Rattle.m5_cps_convert.specs.declared.walk.Goal.{Goal}
use Rattle.m5_cps_convert.specs.declared.walk.Value.{Value}
use Rattle.m5_cps_convert.specs.declared.names.Seen.{Seen}
use Rattle.m5_cps_convert.specs.code.Types.{IsAt, RowAdded, TypeAdded}
use Rattle.m5_cps_convert.specs.code.Writing.{Keeps, Writes, Gives}
use Rattle.m5_cps_convert.specs.code.Knowing.{IsSeen, Knows}
use Rattle.m5_cps_convert.specs.code.Emitting.{Emits, IsLeaf}
use Rattle.m5_cps_convert.proofs.Growing.{keeps_trans, keeps_push, pushed_there}
use Rattle.m5_cps_convert.proofs.Added.{adds}
use Rattle.m5_cps_convert.proofs.Known.{at_kept}

-- a variable without a slot
pub variable_gives : (u w : Walk) (at : Around) (n x : ℕ) (goal : Goal) (s : Seen) (val : Value) → IsSeen u.types at.depth (entries u.names x) s → s.slot ≡ None
    → Gives u w (straights.Constant constants.Unit) n goal s.ty val → Emits u w at n goal (leaf (leaf_form.Var x)) val × Emits u w at n goal (leaf (leaf_form.Valid x)) val
variable_gives u w at n x goal s val i e g = (
  record { grows = h.grows; typed = typed; code = λ E Γ k T S κ q fo. h.goes T S κ q fo ∙ ap Some (slot E Γ k κ) },
  record { grows = h.grows; typed = typed; code = λ E Γ k T S κ q fo. h.goes T S κ q fo ∙ ap Some (slot E Γ k κ) },
)
  where
    h : Writes u w goal val (λ κ. constant_code leaf_form.Unit n κ)
    h = g.writes (blocks.constant leaf_form.Unit) (record { is = λ M k. refl })

    typed : (E : Setting) (Γ : Scope) → Knows u.types (entries u.names) u.functions.items at E Γ → IsAt w.types val.ty (bound_type (Γ.bounds x))
    typed E Γ k = subst (λ m. IsAt w.types m (bound_type (Γ.bounds x))) (sym g.type_is) (at_kept h.grows.types (i.ty (Γ.bounds x) (Γ.slots x) (k.names x)))

    slot : (E : Setting) (Γ : Scope) → Knows u.types (entries u.names) u.functions.items at E Γ → (κ : Continuation) → constant_code leaf_form.Unit n κ ≡ variable_code (Γ.slots x) n κ
    slot E Γ k κ = ap (λ o. variable_code o n κ) (sym (i.slot (Γ.bounds x) (Γ.slots x) (k.names x) ∙ e))

-- the empty list of a written type
pub nil_made : (u : Walk) (L M : List TypeExpression) (at : Around) (A : TypeExpression) (content ty : ℕ) → TypeAdded u.types L A content → RowAdded L M (row.List content) ty
    → IsLeaf u (record u { types = M }) at (leaf_form.Nil A) (record { constant = constants.Nil content; ty = ty })
nil_made u L M at A content ty a r =
    let k : Keeps L M = keeps_push L M (type.list (type_in L content)) r.added in
    record {
      adds = adds u (record u { types = M }) M refl (keeps_trans a.keeps k);
      means = record { is = λ N j. ap (λ B. blocks.constant (leaf_form.Nil (or_unit B))) (j.each content A (k.each content A a.is.is)) };
      typed = λ E Γ h. record { is = ap (slice_get M) r.number ∙ pushed_there L M (type.list (type_in L content)) r.added ∙ ap (λ B. Some (type.list (or_unit B))) a.is.is };
    }
