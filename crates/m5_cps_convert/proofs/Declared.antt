-- What a declaration binds over the rest of its `let`.
use Rattle.std.proofs.Common.{◌≡◌, ℕ, suc, List, [], ◌∷◌, ◌++◌, length, sym, ap, ◌∙◌, subst}
use Rattle.m5_terms.specs.declared.form.BinaryForm.{BinaryForm}
use Rattle.m5_terms.specs.declared.form.BinaryForm.TheVariants as binary_form
use Rattle.m5_terms.specs.declared.table.Binding.TheVariants.{One}
use Rattle.m5_typing.specs.Context.{local, valid}
use Rattle.m5_cps.specs.TypeParts.{content_of, place_of}
use Rattle.m5_cps.specs.Steps.{code_at}
use Rattle.m5_cps.specs.declared.step.Straight.TheVariants as straights
use Rattle.m5_cps.specs.declared.step.Step.{Step}
use Rattle.m5_cps.specs.declared.step.Step.TheVariants as steps
use Rattle.m5_cps.proofs.Standing.{straight_stands}
use Rattle.m5_cps_convert.specs.declared.walk.Walk.{Walk}
use Rattle.m5_cps_convert.specs.declared.walk.Kind.TheVariants.{Local, Valid}
use Rattle.m5_cps_convert.specs.declared.walk.Known.{Known}
use Rattle.m5_cps_convert.specs.declared.walk.Around.{Around}
use Rattle.m5_cps_convert.specs.declared.walk.Value.{Value}
use Rattle.m5_cps_convert.specs.declared.lets.Inside.{Inside}
use Rattle.m5_cps_convert.specs.code.Types.{IsPart}
use Rattle.m5_cps_convert.specs.code.Lets.{BeginsLet}
use Rattle.m5_cps_convert.proofs.Growing.{pushed_length, grows_self, grows_push}
use Rattle.m5_cps_convert.proofs.Written.{pushed_stands}
use Rattle.m5_cps_convert.proofs.Known.{local_is_known, valid_is_known, knows_bind}

pub leta_begins : (u : Walk) (ss : List Step) (at : Around) (f : BinaryForm) (x : Value) (y filled content : ℕ) (k : Known) (i : Inside) → f ≡ binary_form.Leta y
    → ss ≡ u.steps ++ steps.Straight (straights.Unheld x.slot) ∷ [] → IsPart u.types x.ty content_of content → filled ≡ suc x.filled
    → k ≡ record { kind = Local; depth = at.depth; slot = x.filled; ty = content } → i ≡ record { filled = filled; binding = One y k }
    → BeginsLet u (record u { steps = ss }) at f x i
leta_begins u ss at f x y filled content k i ef q part en ek ei =
    subst (λ (g : BinaryForm). BeginsLet u (record u { steps = ss }) at g x i) (sym ef)
    (subst (λ (j : Inside). BeginsLet u (record u { steps = ss }) at (binary_form.Leta y) x j) (sym ei)
    (subst (λ (n : Known). BeginsLet u (record u { steps = ss }) at (binary_form.Leta y) x (record { filled = filled; binding = One y n })) (sym ek)
    (record {
      grows = grows_push u ss (steps.Straight (straights.Unheld x.slot)) q;
      filled = en;
      known = λ E Γ A a kn.
          knows_bind y (record { kind = Local; depth = at.depth; slot = x.filled; ty = content }) (local (place_of A) (content_of A)) x.filled
          (local_is_known u.types at.depth x.filled content (place_of A) (content_of A) (part.is A a)) kn;
      goes = λ T S c comp h.
          straight_stands T S (length u.steps) (straights.Unheld x.slot) c
          (pushed_stands T S u (record u { steps = ss }) ss (steps.Straight (straights.Unheld x.slot)) q (grows_self (record u { steps = ss })) comp)
          (ap (code_at T S) (sym (pushed_length u.steps ss (steps.Straight (straights.Unheld x.slot)) q)) ∙ h);
    })))

pub lets_begins : (u : Walk) (ss : List Step) (at : Around) (f : BinaryForm) (x : Value) (y filled content : ℕ) (k : Known) (i : Inside) → f ≡ binary_form.Lets y
    → ss ≡ u.steps ++ steps.Straight (straights.Unsham x.slot) ∷ [] → IsPart u.types x.ty content_of content → filled ≡ suc x.filled
    → k ≡ record { kind = Valid; depth = at.depth; slot = x.filled; ty = content } → i ≡ record { filled = filled; binding = One y k }
    → BeginsLet u (record u { steps = ss }) at f x i
lets_begins u ss at f x y filled content k i ef q part en ek ei =
    subst (λ (g : BinaryForm). BeginsLet u (record u { steps = ss }) at g x i) (sym ef)
    (subst (λ (j : Inside). BeginsLet u (record u { steps = ss }) at (binary_form.Lets y) x j) (sym ei)
    (subst (λ (n : Known). BeginsLet u (record u { steps = ss }) at (binary_form.Lets y) x (record { filled = filled; binding = One y n })) (sym ek)
    (record {
      grows = grows_push u ss (steps.Straight (straights.Unsham x.slot)) q;
      filled = en;
      known = λ E Γ A a kn.
          knows_bind y (record { kind = Valid; depth = at.depth; slot = x.filled; ty = content }) (valid (content_of A)) x.filled
          (valid_is_known u.types at.depth x.filled content (content_of A) (part.is A a)) kn;
      goes = λ T S c comp h.
          straight_stands T S (length u.steps) (straights.Unsham x.slot) c
          (pushed_stands T S u (record u { steps = ss }) ss (steps.Straight (straights.Unsham x.slot)) q (grows_self (record u { steps = ss })) comp)
          (ap (code_at T S) (sym (pushed_length u.steps ss (steps.Straight (straights.Unsham x.slot)) q)) ∙ h);
    })))
