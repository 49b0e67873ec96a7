-- What is made of the last values, and the values before them.
use Rattle.std.specs.Prelude.{Option, List}
use Rattle.m5_tree.specs.DeclarationMaking.{declaration_made}
use Rattle.m5_tree.specs.WrittenMaking.{written_made}
use Rattle.m5_tree.specs.ExprMaking.{expr_made}
use Rattle.m5_tree.specs.declared.value.Value.{Value}
use Rattle.m5_tree.specs.declared.grammar.Form.{Form}
use Rattle.m5_tree.specs.declared.grammar.Form.TheVariants.{Declare, Write, Build}

abbrev pub made : Form → List Value → Option (Value × List Value)
made (Declare f) vs = declaration_made f vs
made (Write f) vs = written_made f vs
made (Build f) vs = expr_made f vs
