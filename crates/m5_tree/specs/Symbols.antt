-- The symbols of a production, under short names.
use Rattle.std.specs.Prelude.{true, false}
use Rattle.m5_tree.specs.declared.grammar.Symbol.{Symbol}
use Rattle.m5_tree.specs.declared.grammar.Symbol.TheVariants.{Tok, Nt, Act}
use Rattle.m5_tree.specs.declared.grammar.Kind.{Kind}
use Rattle.m5_tree.specs.declared.grammar.Phrase.{Phrase}
use Rattle.m5_tree.specs.declared.grammar.Action.TheVariants.{Enter, Leave, Pass, Make}
use Rattle.m5_tree.specs.declared.grammar.Form.TheVariants.{Declare, Write, Build}
use Rattle.m5_tree.specs.declared.grammar.DeclarationForm.{DeclarationForm}
use Rattle.m5_tree.specs.declared.grammar.WrittenForm.{WrittenForm}
use Rattle.m5_tree.specs.declared.grammar.ExprForm.{ExprForm}

-- a token that is read
abbrev pub tok : Kind → Symbol
tok k = Tok false k

-- a token that is read and kept as a value
abbrev pub keep : Kind → Symbol
keep k = Tok true k

abbrev pub nt : Phrase → Symbol
nt n = Nt n

-- into a phrase whose levels do not count outside it
abbrev pub enter : Symbol
enter = Act Enter

abbrev pub leave : Symbol
leave = Act Leave

-- something that counts for the level was passed
abbrev pub pass : Symbol
pass = Act Pass

-- a declaration, a type or an expression is made of the last values
abbrev pub declare : DeclarationForm → Symbol
declare f = Act (Make (Declare f))

abbrev pub write : WrittenForm → Symbol
write f = Act (Make (Write f))

abbrev pub build : ExprForm → Symbol
build f = Act (Make (Build f))
