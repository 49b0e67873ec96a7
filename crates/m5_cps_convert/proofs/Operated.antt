-- Forms of one part that are straight over its value.
use Rattle.std.proofs.Common.{◌≡◌, ℕ, List, Some, refl, sym, ap, ◌∙◌, subst}
use Rattle.m5_terms.specs.Expression.{Expression, unary}
use Rattle.m5_terms.specs.TypeExpression.{TypeExpression}
use Rattle.m5_terms.specs.Table.{entries}
use Rattle.m5_terms.specs.declared.types.World.{World}
use Rattle.m5_terms.specs.declared.form.UnaryForm.{UnaryForm}
use Rattle.m5_terms.specs.declared.form.UnaryForm.TheVariants as unary_form
use Rattle.m5_typing.specs.Context.{Setting}
use Rattle.m5_cps.specs.Blocks as blocks
use Rattle.m5_cps.specs.Entries.{world_of}
use Rattle.m5_cps.specs.TypeParts.{unary_whole}
use Rattle.m5_cps.specs.Steps.{mode_of}
use Rattle.m5_cps.specs.declared.step.Straight.TheVariants as straights
use Rattle.m5_cps_convert.specs.Scopes.{Scope, in_sham}
use Rattle.m5_cps_convert.specs.Continuations.{Continuation, Then}
use Rattle.m5_cps_convert.specs.Forms.{unary_rest}
use Rattle.m5_cps_convert.specs.Convert.{cps, type_in}
use Rattle.m5_cps_convert.specs.declared.walk.Walk.{Walk}
use Rattle.m5_cps_convert.specs.declared.walk.Around.{Around}
use Rattle.m5_cps_convert.specs.declared.walk.Goal.{Goal}
use Rattle.m5_cps_convert.specs.declared.walk.Goal.TheVariants as goals
use Rattle.m5_cps_convert.specs.declared.walk.Value.{Value}
use Rattle.m5_cps_convert.specs.declared.operations.Made.{Made}
use Rattle.m5_cps_convert.specs.code.Types.{IsAt}
use Rattle.m5_cps_convert.specs.code.Around.{IsPartAround}
use Rattle.m5_cps_convert.specs.code.Writing.{Gives}
use Rattle.m5_cps_convert.specs.code.Knowing.{Knows}
use Rattle.m5_cps_convert.specs.code.Emitting.{Emits}
use Rattle.m5_cps_convert.specs.code.Operations.{IsOperation, IsMade, WritesOperation}
use Rattle.m5_cps_convert.proofs.Growing.{grows_trans}
use Rattle.m5_cps_convert.proofs.Written.{completes_first, completes_rest}
use Rattle.m5_cps_convert.proofs.Added.{adds, writes_added}
use Rattle.m5_cps_convert.proofs.Known.{at_kept, knows_sham}

pub operation_writes : (u w : Walk) (L : List TypeExpression) (f : UnaryForm) (at : Around) (x : World) (part : Value) (goal : Goal) (m : Made) (v : Value)
    → x ≡ world_of (mode_of at.mode) → IsMade u.types L f x part.ty m → Gives (record u { types = L }) w (straights.One m.operation part.slot) part.filled goal m.ty v
    → WritesOperation u w f at part goal v
operation_writes u w L f at x part goal m v e i g =
    let wr = g.writes (blocks.one f part.slot) (record { is = λ M k. ap (λ o. blocks.one o part.slot) (i.means M k) }) in
    record {
      writes = writes_added u (record u { types = L }) w goal v (λ κ. unary_rest f part.slot part.filled κ) (adds u (record u { types = L }) L refl i.keeps) wr;
      typed = λ B b. subst (λ y. IsAt w.types v.ty (unary_whole f y B)) e (subst (λ n. IsAt w.types n (unary_whole f x B)) (sym g.type_is) (at_kept wr.grows.types (i.typed B b)));
    }

-- the scope of the part
abbrev pub part_scope : UnaryForm → Scope → Scope
part_scope unary_form.Sham Γ = in_sham Γ
part_scope f Γ = Γ

-- what is known there
part_known : (u : Walk) (at inside : Around) (f : UnaryForm) (E : Setting) (Γ : Scope) → IsPartAround at f inside → Knows u.types (entries u.names) u.functions.items at E Γ
    → Knows u.types (entries u.names) u.functions.items inside E (part_scope f Γ)
part_known u at inside unary_form.Sham E Γ i k = subst (λ (a : Around). Knows u.types (entries u.names) u.functions.items a E (in_sham Γ)) (sym i.is) (knows_sham i.deeper i.one_more k)
part_known u at inside (unary_form.Fn x A) E Γ i k = subst (λ (a : Around). Knows u.types (entries u.names) u.functions.items a E Γ) (sym i) k
part_known u at inside (unary_form.Rec f x A B) E Γ i k = subst (λ (a : Around). Knows u.types (entries u.names) u.functions.items a E Γ) (sym i) k
part_known u at inside unary_form.Fst E Γ i k = subst (λ (a : Around). Knows u.types (entries u.names) u.functions.items a E Γ) (sym i) k
part_known u at inside unary_form.Snd E Γ i k = subst (λ (a : Around). Knows u.types (entries u.names) u.functions.items a E Γ) (sym i) k
part_known u at inside unary_form.StrOf E Γ i k = subst (λ (a : Around). Knows u.types (entries u.names) u.functions.items a E Γ) (sym i) k
part_known u at inside unary_form.Div E Γ i k = subst (λ (a : Around). Knows u.types (entries u.names) u.functions.items a E Γ) (sym i) k
part_known u at inside unary_form.NewCell E Γ i k = subst (λ (a : Around). Knows u.types (entries u.names) u.functions.items a E Γ) (sym i) k
part_known u at inside unary_form.Load E Γ i k = subst (λ (a : Around). Knows u.types (entries u.names) u.functions.items a E Γ) (sym i) k
part_known u at inside unary_form.Hold E Γ i k = subst (λ (a : Around). Knows u.types (entries u.names) u.functions.items a E Γ) (sym i) k
part_known u at inside unary_form.Spawn E Γ i k = subst (λ (a : Around). Knows u.types (entries u.names) u.functions.items a E Γ) (sym i) k
part_known u at inside (unary_form.Inl T) E Γ i k = subst (λ (a : Around). Knows u.types (entries u.names) u.functions.items a E Γ) (sym i) k
part_known u at inside (unary_form.Inr T) E Γ i k = subst (λ (a : Around). Knows u.types (entries u.names) u.functions.items a E Γ) (sym i) k
part_known u at inside (unary_form.Held w) E Γ i k = subst (λ (a : Around). Knows u.types (entries u.names) u.functions.items a E Γ) (sym i) k

-- the form's code and type, from its part's
record IsOver (E : Setting) (f : UnaryForm) (a : Expression) (Γ : Scope) : Type 0 where
  code : (n : ℕ) (κ : Continuation) → cps E (unary f a) Γ n κ ≡ cps E a (part_scope f Γ) n (Then (λ x m. unary_rest f x m κ))
  whole : type_in E (unary f a) Γ ≡ unary_whole f (world_of Γ.mode) (type_in E a (part_scope f Γ))

over : (E : Setting) (f : UnaryForm) (a : Expression) (Γ : Scope) → IsOperation f → IsOver E f a Γ
over E (unary_form.Fn x A) a Γ o = absurd o
over E (unary_form.Rec f x A B) a Γ o = absurd o
over E unary_form.Div a Γ o = absurd o
over E unary_form.Spawn a Γ o = absurd o
over E (unary_form.Held w) a Γ o = absurd o
over E unary_form.Fst a Γ o = record { code = λ n κ. refl; whole = refl }
over E unary_form.Snd a Γ o = record { code = λ n κ. refl; whole = refl }
over E unary_form.StrOf a Γ o = record { code = λ n κ. refl; whole = refl }
over E unary_form.NewCell a Γ o = record { code = λ n κ. refl; whole = refl }
over E unary_form.Load a Γ o = record { code = λ n κ. refl; whole = refl }
over E unary_form.Hold a Γ o = record { code = λ n κ. refl; whole = refl }
over E unary_form.Sham a Γ o = record { code = λ n κ. refl; whole = refl }
over E (unary_form.Inl T) a Γ o = record { code = λ n κ. refl; whole = refl }
over E (unary_form.Inr T) a Γ o = record { code = λ n κ. refl; whole = refl }

-- the part's code, and then the operation
pub operation_emits : (u v w : Walk) (at inside : Around) (n : ℕ) (goal : Goal) (f : UnaryForm) (a : Expression) (part val : Value) → IsOperation f → IsPartAround at f inside
    → Emits u v inside n goals.Then a part → WritesOperation v w f at part goal val → Emits u w at n goal (unary f a) val
operation_emits u v w at inside n goal f a part val o i ea h = record {
  grows = grows_trans ea.grows h.writes.grows;
  typed = λ E Γ k.
      subst (IsAt w.types val.ty) (sym (over E f a Γ o).whole)
      (subst (λ m. IsAt w.types val.ty (unary_whole f (world_of m) (type_in E a (part_scope f Γ)))) (sym k.mode)
      (h.typed (type_in E a (part_scope f Γ)) (ea.typed E (part_scope f Γ) (part_known u at inside f E Γ i k))));
  code = λ E Γ k T S κ q fo.
      ea.code E (part_scope f Γ) (part_known u at inside f E Γ i k) T S (Then (λ x m. unary_rest f x m κ)) (completes_first T S u v w h.writes.grows q)
      ((λ x m. unary_rest f x m κ), refl, h.writes.goes T S κ (completes_rest T S u v w ea.grows q) fo)
      ∙ ap Some (sym ((over E f a Γ o).code n κ));
}
