-- Two values put into binders' places, one after the other.
use Rattle.std.proofs.Common.{◌≡◌, ◌≢◌, ℕ, List, [], ◌∷◌, Some, None, Bool, true, false, ap, ◌∙◌, subst, ⊎_elim, arith, if◌then◌else◌, ◌==◌}
use mathlib.Core.Path.{fun_ext}
use Rattle.m5_terms.specs.Substitution.{among}
use Rattle.m5_terms.specs.Expression.{Expression}
use Rattle.m5_terms.specs.Substitution.{substituted}
use Rattle.m5_meaning.specs.Site.{Program}
use Rattle.m5_cps.specs.Values.{put}
use Rattle.m5_cps.specs.Captured.{Value}
use Rattle.m5_cps_convert.specs.Closing.{Values, hide, close}
use Rattle.m5_cps_convert.specs.Slots.{SVal}
use Rattle.m5_cps_convert.specs.Reading.{Reads}
use Rattle.m5_cps_convert.proofs.Substitutions.{IsFixed, AllFixed, puts, keeps_closed, put_same, same_or}
use Rattle.m5_cps_convert.proofs.Slots.{reads_fixed}

put_fixed : (x : ℕ) (v : Expression) (γ : Values) → IsFixed v → AllFixed γ → AllFixed (put x (Some v) γ)
put_fixed x v γ f h z w = at (z == x)
  where
    at : (b : Bool) → (if b then Some v else γ z) ≡ Some w → (y : ℕ) (o : Expression) → substituted y o w ≡ w
    at true e = let e1 : v ≡ w = cc in subst IsFixed e1 f
    at false e = h z w e

hide_all_fixed : (bs : List ℕ) (γ : Values) → AllFixed γ → AllFixed (hide bs γ)
hide_all_fixed bs γ h z w = at (among z bs)
  where
    at : (b : Bool) → (if b then None else γ z) ≡ Some w → (y : ℕ) (o : Expression) → substituted y o w ≡ w
    at true e = absurd (cc)
    at false e = h z w e

rec_hidden : (x f : ℕ) (γ : Values) → hide (x ∷ f ∷ []) γ x ≡ None
rec_hidden x f γ = grind arith

rec_hidden_too : (x f : ℕ) (v : Expression) (γ : Values) → f ≢ x → put x (Some v) (hide (x ∷ f ∷ []) γ) f ≡ None
rec_hidden_too x f v γ n = grind arith

rec_same : (x f : ℕ) (v R : Expression) (γ : Values) → f ≡ x → (z : ℕ) → put x (Some v) (hide (x ∷ f ∷ []) γ) z ≡ put x (Some v) (put f (Some R) γ) z
rec_same x f v R γ e z = grind arith

rec_other : (x f : ℕ) (v R : Expression) (γ : Values) → f ≢ x → (z : ℕ) → put f (Some R) (put x (Some v) (hide (x ∷ f ∷ []) γ)) z ≡ put x (Some v) (put f (Some R) γ) z
rec_other x f v R γ n z = grind arith

-- a recursive function's body, with its argument and itself in the binders' places
pub rec_put : (e : Expression) (x f : ℕ) (v R : Expression) (γ : Values) → IsFixed v → AllFixed γ → substituted f R (substituted x v (close (hide (x ∷ f ∷ []) γ) e)) ≡ close (put x (Some v) (put f (Some R) γ)) e
rec_put e x f v R γ fv h = ap (substituted f R) (puts e x v γ0 h0 (rec_hidden x f γ)) ∙ ⊎_elim same other (same_or f x)
  where
    γ0 : Values
    γ0 = hide (x ∷ f ∷ []) γ

    h0 : AllFixed γ0
    h0 = hide_all_fixed (x ∷ f ∷ []) γ h

    same : f ≡ x → substituted f R (close (put x (Some v) γ0) e) ≡ close (put x (Some v) (put f (Some R) γ)) e
    same q = keeps_closed e f R (put x (Some v) γ0) v (put_fixed x v γ0 fv h0) (ap (put x (Some v) γ0) q ∙ put_same x (Some v) γ0) ∙ ap (λ δ. close δ e) (fun_ext (rec_same x f v R γ q))

    other : f ≢ x → substituted f R (close (put x (Some v) γ0) e) ≡ close (put x (Some v) (put f (Some R) γ)) e
    other n = puts e f R (put x (Some v) γ0) (put_fixed x v γ0 fv h0) (rec_hidden_too x f v γ n) ∙ ap (λ δ. close δ e) (fun_ext (rec_other x f v R γ n))

-- the head and the tail of a list
pub cons_put : (P : Program) (e : Expression) (y z : ℕ) (c d : Value) (v w : Expression) (γ : Values) → Reads P c (SVal v) → Reads P d (SVal w) → AllFixed γ → substituted y v (substituted z w (close (hide (z ∷ y ∷ []) γ) e)) ≡ close (put z (Some w) (put y (Some v) γ)) e
cons_put P e y z c d v w γ rc rd h = rec_put e z y w v γ (reads_fixed P d w rd) h
