-- What an operator takes and gives.
use Rattle.m5_terms.specs.TypeExpression.{TypeExpression, bool, int, string}
use Rattle.m5_terms.specs.declared.types.Op.{Op}
use Rattle.m5_terms.specs.declared.types.Op.TheVariants.{Cat, EqInt, Less, EqStr}

-- the type of both parts
abbrev pub operand : Op → TypeExpression
operand Cat = string
operand EqStr = string
operand _ = int

-- the type of the whole
abbrev pub outcome : Op → TypeExpression
outcome Cat = string
outcome EqInt = bool
outcome Less = bool
outcome EqStr = bool
outcome _ = int
