-- What holds at each session and world, when one place is changed.
use Rattle.std.proofs.Common.{◌≡◌, ℕ, ◌==◌, Bool, true, false, if◌then◌else◌, refl, sym, ap, subst, ◌∙◌, eqb-true, eq-eqb}
use Rattle.m5_terms.specs.TypeExpression.{same_world}
use Rattle.m5_terms.specs.declared.types.World.{World}
use Rattle.m5_network.specs.Board.{at_session, at_world}
use Rattle.m5_terms.proofs.SiteWorlds.{same-true}
use Rattle.m5_network.proofs.Places.{at-place}

abbrev pub at_place : {A : Type 0} → ℕ → World → A → (ℕ → World → A) → ℕ → World → A
at_place s w x f = at_session s (at_world w x (f s)) f

-- a fact of each place
pub all-at : {A : Type 0} (Q : A → Type 0) (s : ℕ) (w : World) (x : A) (f : ℕ → World → A) → Q x → ((z : ℕ) (v : World) → Q (f z v)) → (z : ℕ) (v : World) → Q (at_place s w x f z v)
all-at Q s w x f q h z v = at-place (λ n u a b. Q a) s w x x f f q h z v

-- what is put where it stands already changes nothing
pub stays-at : {A : Type 0} (s : ℕ) (w : World) (x : A) (f : ℕ → World → A) → x ≡ f s w → (z : ℕ) (v : World) → at_place s w x f z v ≡ f z v
stays-at {A} s w x f e z v = by-session (z == s) refl
  where
    by-world : (c : Bool) → same_world v w ≡ c → (if c then x else f s v) ≡ f s v
    by-world true d = subst (λ (u : World). x ≡ f s u) (sym (same-true v w d)) e
    by-world false d = refl

    by-session : (b : Bool) → (z == s) ≡ b → (if b then at_world w x (f s) else f z) v ≡ f z v
    by-session true d = subst (λ (n : ℕ). at_world w x (f s) v ≡ f n v) (sym (eqb-true z s d)) (by-world (same_world v w) refl)
    by-session false d = refl

-- what is put twice at one place is what was put last
pub twice-at : {A : Type 0} (s : ℕ) (w : World) (x y : A) (f : ℕ → World → A) (z : ℕ) (v : World) → at_place s w y (at_place s w x f) z v ≡ at_place s w y f z v
twice-at {A} s w x y f z v = by-session (z == s)
  where
    by-world : (c : Bool) → (if c then y else (if c then x else f s v)) ≡ (if c then y else f s v)
    by-world true = refl
    by-world false = refl

    here : at_place s w x f s v ≡ at_world w x (f s) v
    here = rw (eq-eqb s s refl) refl

    by-session : (b : Bool) → (if b then at_world w y (at_place s w x f s) else (if b then at_world w x (f s) else f z)) v ≡ (if b then at_world w y (f s) else f z) v
    by-session true = ap (λ (a : A). if same_world v w then y else a) here ∙ by-world (same_world v w)
    by-session false = refl

-- what is put where something was put before
pub put-back : {A : Type 0} (s : ℕ) (w : World) (x y : A) (old mid new : ℕ → World → A) → mid ≡ at_place s w x old → new ≡ at_place s w y mid → new ≡ at_place s w y old
put-back s w x y old mid new e h = h ∙ (ap (at_place s w y) e ∙ (λ i. λ z. λ v. twice-at s w x y old z v i))
