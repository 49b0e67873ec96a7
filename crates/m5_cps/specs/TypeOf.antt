-- The type of a typed node of the source, as a total function.
use Rattle.std.specs.Prelude.{List, [], ◌∷◌}
use Rattle.m5_terms.specs.Expression.{Expression, leaf, unary, binary, ternary}
use Rattle.m5_terms.specs.TypeExpression as type
use Rattle.m5_terms.specs.TypeExpression.{TypeExpression}
use Rattle.m5_terms.specs.Substitution.{unary_binders, binary_binders, second_binders, third_binders}
use Rattle.m5_terms.specs.declared.types.World.{World}
use Rattle.m5_terms.specs.declared.types.World.TheVariants.{Any}
use Rattle.m5_terms.specs.declared.form.UnaryForm.{UnaryForm}
use Rattle.m5_terms.specs.declared.form.UnaryForm.TheVariants as unary_form
use Rattle.m5_terms.specs.declared.form.BinaryForm.{BinaryForm}
use Rattle.m5_terms.specs.declared.form.BinaryForm.TheVariants as binary_form
use Rattle.m5_terms.specs.declared.form.TernaryForm.{TernaryForm}
use Rattle.m5_terms.specs.declared.form.TernaryForm.TheVariants as ternary_form
use Rattle.m5_typing.specs.Context.{Bound, local, valid, Context, Setting, with_all}
use Rattle.m5_typing.specs.Typing.{part_context}
use Rattle.m5_cps.specs.TypeParts.{first_of, second_of, content_of, place_of, leaf_type, unary_whole, binary_whole}

abbrev pub unary_bounds : UnaryForm → World → List Bound
unary_bounds (unary_form.Fn x A) w = local w A ∷ []
unary_bounds (unary_form.Rec f x A B) w = local w A ∷ local w (type.function A B) ∷ []
unary_bounds f w = []

abbrev pub unary_world : UnaryForm → World → World
unary_world unary_form.Sham w = Any
unary_world (unary_form.Held v) w = v
unary_world f w = w

-- from the first part's type: where the second stands, and what is bound in it
abbrev pub second_world : BinaryForm → World → TypeExpression → World
second_world binary_form.Get w A = place_of A
second_world f w A = w

abbrev pub second_bounds : BinaryForm → World → TypeExpression → List Bound
second_bounds (binary_form.Val x) w A = local w A ∷ []
second_bounds (binary_form.Put x) w A = valid A ∷ []
second_bounds (binary_form.Leta x) w A = local (place_of A) (content_of A) ∷ []
second_bounds (binary_form.Lets x) w A = valid (content_of A) ∷ []
second_bounds f w A = []

abbrev pub second_arm_bounds : TernaryForm → World → TypeExpression → List Bound
second_arm_bounds (ternary_form.CaseSum x y) w A = local w (first_of A) ∷ []
second_arm_bounds f w A = []

abbrev pub third_arm_bounds : TernaryForm → World → TypeExpression → List Bound
third_arm_bounds (ternary_form.CaseSum x y) w A = local w (second_of A) ∷ []
third_arm_bounds (ternary_form.CaseList x y) w A = local w A ∷ local w (content_of A) ∷ []
third_arm_bounds ternary_form.If w A = []

abbrev pub unary_context : UnaryForm → World → Context → Context
unary_context f w G = with_all (unary_binders f) (unary_bounds f w) (part_context f G)

abbrev pub second_context : BinaryForm → World → TypeExpression → Context → Context
second_context f w A G = with_all (binary_binders f) (second_bounds f w A) G

abbrev pub second_arm : TernaryForm → World → TypeExpression → Context → Context
second_arm f w A G = with_all (second_binders f) (second_arm_bounds f w A) G

abbrev pub third_arm : TernaryForm → World → TypeExpression → Context → Context
third_arm f w A G = with_all (third_binders f) (third_arm_bounds f w A) G

-- a choice has the type of its second arm, as of its third
abbrev pub type_of : Setting → Expression → Context → World → TypeExpression
type_of E (leaf f) G w = leaf_type E G w f
type_of E (unary f a) G w = unary_whole f w (type_of E a (unary_context f w G) (unary_world f w))
type_of E (binary f a b) G w =
    let A = type_of E a G w in
    binary_whole f A (type_of E b (second_context f w A G) (second_world f w A))
type_of E (ternary f a b c) G w = type_of E b (second_arm f w (type_of E a G w) G) w
