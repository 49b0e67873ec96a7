-- Calls, asks and what is made of two values.
use Rattle.std.proofs.Common.{◌≡◌, ℕ, suc, List, [], ◌∷◌, ◌++◌, Some, refl, sym, ap, ◌∙◌, subst}
use Rattle.m5_terms.specs.TypeExpression.{TypeExpression}
use Rattle.m5_terms.specs.Primitives.{primitive_type}
use Rattle.m5_terms.specs.declared.types.Primitive.{Primitive}
use Rattle.m5_terms.specs.declared.form.BinaryForm.{BinaryForm}
use Rattle.m5_terms.specs.declared.form.BinaryForm.TheVariants as binary_form
use Rattle.m5_cps.specs.Blocks as blocks
use Rattle.m5_cps.specs.TypeParts.{result_of, binary_whole}
use Rattle.m5_cps.specs.declared.entry.Entry.{Entry}
use Rattle.m5_cps.specs.declared.entry.Entry.TheVariants as ways
use Rattle.m5_cps.specs.declared.entry.Argument.TheVariants as takings
use Rattle.m5_cps.specs.declared.step.Ending.TheVariants as endings
use Rattle.m5_cps.specs.declared.step.Straight.TheVariants as straights
use Rattle.m5_cps.specs.declared.step.Step.{Step}
use Rattle.m5_cps.specs.declared.step.Step.TheVariants as steps
use Rattle.m5_cps_convert.specs.Scopes.{Scope}
use Rattle.m5_cps_convert.specs.Continuations.{Continuation, apply, taking}
use Rattle.m5_cps_convert.specs.Forms.{binary_end}
use Rattle.m5_cps_convert.specs.Convert.{ask_code}
use Rattle.m5_cps_convert.specs.declared.walk.Walk.{Walk}
use Rattle.m5_cps_convert.specs.declared.walk.Around.{Around}
use Rattle.m5_cps_convert.specs.declared.walk.Goal.{Goal}
use Rattle.m5_cps_convert.specs.declared.walk.Value.{Value}
use Rattle.m5_cps_convert.specs.declared.closing.Held.{Held}
use Rattle.m5_cps_convert.specs.code.Types.{IsAt, IsPart, TypeAdded}
use Rattle.m5_cps_convert.specs.code.Writing.{Keeps, Grows, Gives}
use Rattle.m5_cps_convert.specs.code.Closing.{Holds, Resumes}
use Rattle.m5_cps_convert.specs.code.TwoParts.{IsNoCall, WritesAsk, WritesTwo, MakesWhole}
use Rattle.m5_cps_convert.proofs.Growing.{grows_trans, grows_push}
use Rattle.m5_cps_convert.proofs.Closed.{held_grows, held_writes, ending_finishes, taking_means}
use Rattle.m5_cps_convert.proofs.Added.{adds, writes_added}
use Rattle.m5_cps_convert.proofs.Known.{at_kept}

pub ask_writes : (u v x : Walk) (L : List TypeExpression) (ss : List Step) (at : Around) (p : Primitive) (y : Value) (goal : Goal) (function ty : ℕ) (h : Held) (way : Entry) (val : Value)
    → TypeAdded u.types L (primitive_type p) function → IsPart L function result_of ty → Holds (record u { types = L }) v goal y.filled h
    → ss ≡ v.steps ++ steps.Ends (endings.Ask p y.slot h.slot) ∷ [] → way ≡ ways.ByValue at.mode (takings.Value ty) → Resumes (record v { steps = ss }) x h goal way ty val
    → Keeps L v.types → WritesAsk u x at p y goal val
ask_writes u v x L ss at p y goal function ty h way val t part hd q e r kv =
    let one = record u { types = L } in
    let a : IsAt L ty (result_of (primitive_type p)) = part.is (primitive_type p) t.is in
    let gx : Grows one x = held_grows one v (record v { steps = ss }) x goal y.filled ty h way val hd (grows_push v ss (steps.Ends (endings.Ask p y.slot h.slot)) q) r in
    let more = adds u one L refl t.keeps in
    record {
      grows = grows_trans more.grows gx;
      typed = subst (λ n. IsAt x.types n (result_of (primitive_type p))) (sym r.type_is) (at_kept gx.types a);
      goes = λ Γ m.
          (writes_added u one x goal val (λ κ. ask_code p (result_of (primitive_type p)) Γ y.slot y.filled κ) more
          (held_writes one v (record v { steps = ss }) x goal y.filled ty h way (taking (result_of (primitive_type p)) Γ) val (λ k i. blocks.ends (blocks.ask p y.slot k)) hd
          (ending_finishes v ss (endings.Ask p y.slot h.slot) q) r (taking_means v.types at way ty (result_of (primitive_type p)) Γ e (at_kept kv a) m))).goes;
    }

pub call_writes : (u v x : Walk) (ss : List Step) (at : Around) (f y : Value) (goal : Goal) (ty : ℕ) (h : Held) (way : Entry) (val : Value)
    → IsPart u.types f.ty result_of ty → Holds u v goal y.filled h → ss ≡ v.steps ++ steps.Ends (endings.Call f.slot y.slot h.slot) ∷ []
    → way ≡ ways.ByValue at.mode (takings.Value ty) → Resumes (record v { steps = ss }) x h goal way ty val → Keeps u.types v.types → WritesTwo u x binary_form.Call at f y goal val
call_writes u v x ss at f y goal ty h way val part hd q e r kv =
    let gx : Grows u x = held_grows u v (record v { steps = ss }) x goal y.filled ty h way val hd (grows_push v ss (steps.Ends (endings.Call f.slot y.slot h.slot)) q) r in
    record {
      grows = gx;
      typed = λ A B a b. subst (λ n. IsAt x.types n (result_of A)) (sym r.type_is) (at_kept gx.types (part.is A a));
      goes = λ A B a b Γ m.
          (held_writes u v (record v { steps = ss }) x goal y.filled ty h way (taking (result_of A) Γ) val (λ k i. blocks.ends (blocks.call f.slot y.slot k)) hd
          (ending_finishes v ss (endings.Call f.slot y.slot h.slot) q) r (taking_means v.types at way ty (result_of A) Γ e (at_kept kv (part.is A a)) m)).goes;
    }

pub no_call : (f : BinaryForm) → (f ≡ binary_form.Call → ⊥) → IsNoCall f
no_call binary_form.Call n = n refl
no_call _ n = tt

straight_end : (f : BinaryForm) (T : TypeExpression) (Γ : Scope) (x y n : ℕ) (κ : Continuation) → IsNoCall f → binary_end f T Γ x y n κ ≡ blocks.straight (blocks.two f x y) (apply κ n (suc n))
straight_end binary_form.Call T Γ x y n κ o = absurd o
straight_end _ T Γ x y n κ o = refl

pub two_writes : (u x : Walk) (L : List TypeExpression) (f : BinaryForm) (at : Around) (a b : Value) (goal : Goal) (ty : ℕ) (val : Value) → IsNoCall f → MakesWhole u.types L f a.ty b.ty ty
    → Gives (record u { types = L }) x (straights.Two f a.slot b.slot) b.filled goal ty val → WritesTwo u x f at a b goal val
two_writes u x L f at a b goal ty val o m g =
    let wr = g.writes (blocks.two f a.slot b.slot) (record { is = λ M k. refl }) in
    let all = writes_added u (record u { types = L }) x goal val (λ κ. blocks.straight (blocks.two f a.slot b.slot) (apply κ b.filled (suc b.filled))) (adds u (record u { types = L }) L refl m.keeps) wr in
    record {
      grows = all.grows;
      typed = λ A B i j. subst (λ n. IsAt x.types n (binary_whole f A B)) (sym g.type_is) (at_kept wr.grows.types (m.typed A B i j));
      goes = λ A B i j Γ e T S κ c fo. all.goes T S κ c fo ∙ ap Some (sym (straight_end f (binary_whole f A B) Γ a.slot b.slot b.filled κ o));
    }
