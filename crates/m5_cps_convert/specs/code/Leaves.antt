-- What the helpers of leaves make sure of.
use Rattle.std.specs.Prelude.{◌≡◌, List}
use Rattle.m5_terms.specs.TypeExpression.{TypeExpression}
use Rattle.m5_cps.specs.declared.step.Constant.{Constant}
use Rattle.m5_cps_convert.specs.declared.walk.Walk.{Walk}
use Rattle.m5_cps_convert.specs.declared.leaves.Leaf.{Leaf}
use Rattle.m5_cps_convert.specs.code.Types.{IsAt}
use Rattle.m5_cps_convert.specs.code.Writing.{Keeps}

-- the constant has the type of that number, which was added
pub record MakesLeaf (old new : Walk) (constant : Constant) (A : TypeExpression) (l : Leaf) : Type 0 where
  pub types : List TypeExpression
  pub same : new ≡ record old { types = types }
  pub keeps : Keeps old.types types
  pub constant_is : l.constant ≡ constant
  pub at : IsAt types l.ty A
