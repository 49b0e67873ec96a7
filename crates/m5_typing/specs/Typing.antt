-- Terms typed at a world.
use Rattle.std.specs.Prelude.{◌≡◌, List}
use Rattle.m5_terms.specs.Expression.{Expression, leaf, unary, binary, ternary}
use Rattle.m5_terms.specs.TypeExpression.{TypeExpression}
use Rattle.m5_terms.specs.Substitution.{unary_binders, binary_binders, second_binders, third_binders}
use Rattle.m5_terms.specs.declared.types.World.{World}
use Rattle.m5_terms.specs.declared.form.UnaryForm.{UnaryForm}
use Rattle.m5_terms.specs.declared.form.UnaryForm.TheVariants.{Sham}
use Rattle.m5_terms.specs.declared.form.BinaryForm.{BinaryForm}
use Rattle.m5_terms.specs.declared.form.TernaryForm.{TernaryForm}
use Rattle.m5_typing.specs.Context.{Bound, Context, Setting, with_all, valid_part}
use Rattle.m5_typing.specs.Rules.{IsSmall, LeafRule, Pick, unary_rule, binary_rule, ternary_rule}

-- `sham` hides the local variables from outside
abbrev pub part_context : UnaryForm → Context → Context
part_context Sham G = valid_part G
part_context _ G = G

pub record UnaryTyped (f : UnaryForm) (w : World) (a : Expression) (A : TypeExpression) (Part : World → List Bound → TypeExpression → Type 0) : Type 0 where
  pub pick : Pick
  pub part : Part (unary_rule f w pick).world (unary_rule f w pick).bounds (unary_rule f w pick).part
  pub side : (unary_rule f w pick).side a
  pub is : A ≡ (unary_rule f w pick).whole
  pub small : IsSmall A

pub record BinaryTyped (f : BinaryForm) (w : World) (A : TypeExpression) (First : TypeExpression → Type 0) (Second : World → List Bound → TypeExpression → Type 0) : Type 0 where
  pub pick : Pick
  pub first : First (binary_rule f w pick).first
  pub second : Second (binary_rule f w pick).world (binary_rule f w pick).bounds (binary_rule f w pick).second
  pub side : (binary_rule f w pick).side
  pub is : A ≡ (binary_rule f w pick).whole
  pub small : IsSmall A

pub record TernaryTyped (f : TernaryForm) (w : World) (A : TypeExpression) (First : TypeExpression → Type 0) (Second Third : List Bound → TypeExpression → Type 0) : Type 0 where
  pub pick : Pick
  pub first : First (ternary_rule f w pick).first
  pub second : Second (ternary_rule f w pick).second_bounds (ternary_rule f w pick).whole
  pub third : Third (ternary_rule f w pick).third_bounds (ternary_rule f w pick).whole
  pub is : A ≡ (ternary_rule f w pick).whole
  pub small : IsSmall A

-- Typed E G w e A: where E and G are known, e has the type A at w, by its form's rule, and no node's type is too large
abbrev pub Typed : Setting → Context → World → Expression → TypeExpression → Type 0
Typed E G w (leaf f) A = LeafRule E G w f A × IsSmall A
Typed E G w (unary f a) A = UnaryTyped f w a A (λ v bounds B. Typed E (with_all (unary_binders f) bounds (part_context f G)) v a B)
Typed E G w (binary f a b) A = BinaryTyped f w A (λ B. Typed E G w a B) (λ v bounds B. Typed E (with_all (binary_binders f) bounds G) v b B)
Typed E G w (ternary f a b c) A = TernaryTyped f w A (λ B. Typed E G w a B) (λ bounds B. Typed E (with_all (second_binders f) bounds G) w b B) (λ bounds B. Typed E (with_all (third_binders f) bounds G) w c B)
