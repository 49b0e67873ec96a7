-- What holds at each place but for a change at one.
use Rattle.std.proofs.Common.{◌≡◌, ◌==◌, ℕ, Bool, true, false, if◌then◌else◌, refl, sym, subst}
use Rattle.std.proofs.lemmas.Bool.{eqb-true}
use Rattle.m5_terms.specs.declared.types.World.{World}
use Rattle.m5_terms.proofs.SiteWorlds.{by-world}
use Rattle.m5_network.specs.Board.{at_session, at_world}

-- two functions of session and world, changed at one place
pub at-place : {A B : Type 0} → (Q : ℕ → World → A → B → Type 0) (s : ℕ) (w : World) (x : A) (y : B) (f : ℕ → World → A) (g : ℕ → World → B) → Q s w x y → ((z : ℕ) (v : World) → Q z v (f z v) (g z v)) →
    (z : ℕ) (v : World) → Q z v (at_session s (at_world w x (f s)) f z v) (at_session s (at_world w y (g s)) g z v)
at-place {A} {B} Q s w x y f g h k z v = by (z == s) (eqb-true z s)
  where
    same : z ≡ s → Q z v (at_world w x (f s) v) (at_world w y (g s) v)
    same e = by-world (λ b. Q z v (if b then x else f s v) (if b then y else g s v)) v w
        (λ d. subst (λ r. Q r v x y) (sym e) (subst (λ u. Q s u x y) (sym d) h)) (λ d. subst (λ r. Q r v (f s v) (g s v)) (sym e) (k s v))

    by : (b : Bool) → (b ≡ true → z ≡ s) → Q z v ((if b then at_world w x (f s) else f z) v) ((if b then at_world w y (g s) else g z) v)
    by true e = same (e refl)
    by false e = k z v
