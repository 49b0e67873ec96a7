-- Terms without their places.
use Rattle.std.specs.Prelude.{List, map}
use Rattle.m5_terms.specs.Expression as term
use Rattle.m5_raw.specs.Resolved.{Resolved, leaf, unary, binary, ternary}
use Rattle.m5_raw.specs.RawTerm.{RawTerm}
use Rattle.m5_raw.specs.declared.function.Function as raw_function
use Rattle.m5_typing.specs.declared.functions.Function.{Function}
use Rattle.m5_typing.specs.Program.{ProgramTerm}

-- the same forms round the same parts
abbrev pub erased : Resolved → term.Expression
erased (leaf p f) = term.leaf f
erased (unary p f a) = term.unary f (erased a)
erased (binary p f a b) = term.binary f (erased a) (erased b)
erased (ternary p f a b c) = term.ternary f (erased a) (erased b) (erased c)

-- a declared function keeps all but places
abbrev pub erased_function : raw_function.Function → Function
erased_function g = record { world = g.world; parameter = g.parameter; ty = g.ty; result = g.result; body = erased g.body }

-- in their order
abbrev pub erased_functions : List raw_function.Function → List Function
erased_functions gs = map erased_function gs

-- a program keeps its functions and its main term
abbrev pub erased_program : RawTerm → ProgramTerm
erased_program r = record { functions = erased_functions r.functions; main = erased r.main }
