-- The type that a written type stands for.
use Rattle.m5_tree.specs.TypeSyntax.{TypeSyntax, plain, wrapped, joined}
use Rattle.m5_tree.specs.declared.form.TypePlain.{TypePlain}
use Rattle.m5_tree.specs.declared.form.TypePlain.TheVariants as plain_form
use Rattle.m5_tree.specs.declared.form.TypeWrap.{TypeWrap}
use Rattle.m5_tree.specs.declared.form.TypeWrap.TheVariants as wrap_form
use Rattle.m5_tree.specs.declared.form.TypeJoin.{TypeJoin}
use Rattle.m5_tree.specs.declared.form.TypeJoin.TheVariants as join_form
use Rattle.m5_terms.specs.TypeExpression.{TypeExpression, unit, bool, int, string, address, product, sum, function, list, cell, sham, at}

abbrev pub plain_type : TypePlain → TypeExpression
plain_type plain_form.Unit = unit
plain_type plain_form.Bool = bool
plain_type plain_form.Int = int
plain_type plain_form.Str = string
plain_type (plain_form.Addr w) = address w

abbrev pub wrapped_type : TypeWrap → TypeExpression → TypeExpression
wrapped_type wrap_form.List a = list a
wrapped_type wrap_form.Cell a = cell a
wrapped_type wrap_form.Sham a = sham a
wrapped_type (wrap_form.At w) a = at a w

abbrev pub joined_type : TypeJoin → TypeExpression → TypeExpression → TypeExpression
joined_type join_form.Prod a b = product a b
joined_type join_form.Sum a b = sum a b
joined_type join_form.Fun a b = function a b

abbrev pub type_of : TypeSyntax → TypeExpression
type_of (plain p f) = plain_type f
type_of (wrapped p f a) = wrapped_type f (type_of a)
type_of (joined p f a b) = joined_type f (type_of a) (type_of b)
