-- The numbers of kinds: first names, numbers and text literals, then the keywords and the symbols in the order of their lists.
use Rattle.std.specs.Prelude.{ℕ, ◌+◌, nat_lt, if◌then◌else◌}
use Rattle.m5_lex.specs.declared.token.Token.{Token}
use Rattle.m5_lex.specs.declared.token.Token.TheVariants as token
use Rattle.m5_tree.specs.declared.grammar.Kind.{Kind}
use Rattle.m5_tree.specs.declared.grammar.Kind.TheVariants as kind

abbrev pub code_of : Kind → ℕ
code_of kind.Name = 0
code_of kind.Number = 1
code_of kind.Literal = 2
code_of kind.Extern = 3
code_of kind.Val = 4
code_of kind.Fun = 5
code_of kind.Main = 6
code_of kind.Fn = 7
code_of kind.Rec = 8
code_of kind.Let = 9
code_of kind.In = 10
code_of kind.End = 11
code_of kind.Do = 12
code_of kind.Put = 13
code_of kind.Leta = 14
code_of kind.Lets = 15
code_of kind.If = 16
code_of kind.Then = 17
code_of kind.Else = 18
code_of kind.Case = 19
code_of kind.Of = 20
code_of kind.Inl = 21
code_of kind.Inr = 22
code_of kind.Nil = 23
code_of kind.From = 24
code_of kind.Get = 25
code_of kind.Spawn = 26
code_of kind.Hold = 27
code_of kind.Here = 28
code_of kind.Sham = 29
code_of kind.Fst = 30
code_of kind.Snd = 31
code_of kind.Ref = 32
code_of kind.Str = 33
code_of kind.Div = 34
code_of kind.True = 35
code_of kind.False = 36
code_of kind.At = 37
code_of kind.Addr = 38
code_of kind.List = 39
code_of kind.Unit = 40
code_of kind.Bool = 41
code_of kind.Int = 42
code_of kind.String = 43
code_of kind.Home = 44
code_of kind.Server = 45
code_of kind.Panel = 46
code_of kind.Open = 47
code_of kind.Close = 48
code_of kind.OpenSquare = 49
code_of kind.CloseSquare = 50
code_of kind.Comma = 51
code_of kind.Colon = 52
code_of kind.Assign = 53
code_of kind.Cons = 54
code_of kind.Equals = 55
code_of kind.SameText = 56
code_of kind.Arrow = 57
code_of kind.To = 58
code_of kind.Minus = 59
code_of kind.Plus = 60
code_of kind.Star = 61
code_of kind.Caret = 62
code_of kind.Less = 63
code_of kind.Bang = 64
code_of kind.Bar = 65
code_of kind.AtSign = 66
code_of kind.Tilde = 67

-- the number of a token's kind; one that is in no list has none
abbrev pub token_code : Token → ℕ
token_code (token.Name x) = 0
token_code (token.Number n) = 1
token_code (token.Literal x) = 2
token_code (token.Word i) = if nat_lt i 44 then 3 + i else 255
token_code (token.Sign i) = if nat_lt i 21 then 47 + i else 255
