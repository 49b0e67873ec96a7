-- Which primitive an extern of a name, a type and a world declares.
use Rattle.std.proofs.Common.{◌≡◌, ℕ, Bool, true, false, cond, ◌&&◌, Some, None, List, [], ◌∷◌, refl, ap, ◌∙◌}
use Rattle.std.proofs.lemmas.Slice.Eq.{bytes_eq-Decides}
use Rattle.std.specs.Str.{bytes_eq}
use Rattle.m5_terms.specs.TypeExpression.{TypeExpression, same_type, same_world}
use Rattle.m5_terms.specs.Primitives.{primitives, primitive_name, primitive_type, primitive_world}
use Rattle.m5_terms.specs.declared.types.World.{World}
use Rattle.m5_terms.specs.declared.types.Primitive.{Primitive}
use Rattle.m5_terms.specs.declared.types.Primitive.TheVariants.{Say}
use Rattle.m5_scope.specs.Program.{declares, first_that, primitive_of}

not_both : (b c : Bool) → (b ≡ true → ⊥) → b && c ≡ false
not_both true c h = absurd (h refl)
not_both false c h = refl

none_that : (test : Primitive → Bool) (ps : List Primitive) → ((p : Primitive) → test p ≡ false) → first_that test ps ≡ None
none_that test [] h = refl
none_that test (p ∷ ps) h = ap (λ b. cond b (Some p) (first_that test ps)) (h p) ∙ none_that test ps h

-- a name that is no primitive's declares none
pub no_primitive : (name : List ℕ) (ty : TypeExpression) (w : World) → ((p : Primitive) → name ≡ primitive_name p → ⊥) → primitive_of (Some name) ty w ≡ None
unfolding primitive_of
no_primitive name ty w h =
    none_that (declares (Some name) ty w) primitives
    (λ p. not_both (bytes_eq name (primitive_name p)) (same_type ty (primitive_type p) && same_world w (primitive_world p)) (λ e. h p ((bytes_eq-Decides name (primitive_name p)).0 e)))

-- a primitive's name declares that one, where type and world are its
abbrev fits : Primitive → TypeExpression → World → Bool
fits p ty w = same_type ty (primitive_type p) && same_world w (primitive_world p)

by_name : (p : Primitive) (ty : TypeExpression) (w : World) → primitive_of (Some (primitive_name p)) ty w ≡ cond (fits p ty w) (Some p) None
unfolding primitive_of
by_name Say ty w = refl
by_name _ ty w = refl

pub that_primitive : (name : List ℕ) (p : Primitive) (ty : TypeExpression) (w : World) → name ≡ primitive_name p → primitive_of (Some name) ty w ≡ cond (same_type ty (primitive_type p) && same_world w (primitive_world p)) (Some p) None
that_primitive name p ty w e = ap (λ n. primitive_of (Some n) ty w) e ∙ by_name p ty w
