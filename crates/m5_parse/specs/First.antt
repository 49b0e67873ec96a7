-- With which kinds of token each phrase begins, and which of those that follow it would still belong to it.
use Rattle.std.specs.Prelude.{Bool, true, false, List, [], ◌∷◌}
use Rattle.m5_tree.specs.declared.grammar.Kind.{Kind}
use Rattle.m5_tree.specs.declared.grammar.Kind.TheVariants as kind
use Rattle.m5_tree.specs.declared.grammar.Phrase.{Phrase}
use Rattle.m5_tree.specs.declared.grammar.Phrase.TheVariants as phrase

abbrev pub of_world : List Kind
of_world = kind.Home ∷ kind.Server ∷ kind.Panel ∷ []

abbrev pub of_type : List Kind
of_type = kind.Unit ∷ kind.Bool ∷ kind.Int ∷ kind.String ∷ kind.Sham ∷ kind.Home ∷ kind.Server ∷ kind.Panel ∷ kind.Open ∷ []

abbrev pub of_atom : List Kind
of_atom = kind.Name ∷ kind.Number ∷ kind.Literal ∷ kind.True ∷ kind.False ∷ kind.Here ∷ kind.Home ∷ kind.Server ∷ kind.Panel ∷ kind.Nil ∷ kind.Open ∷ kind.Let ∷ kind.Case ∷ []

abbrev pub of_head : List Kind
of_head = kind.Fst ∷ kind.Snd ∷ kind.Bang ∷ kind.Ref ∷ kind.Hold ∷ kind.Sham ∷ kind.Str ∷ kind.Div ∷ kind.Inl ∷ kind.Inr ∷ of_atom

abbrev pub of_expr : List Kind
of_expr = kind.If ∷ kind.Fn ∷ kind.Rec ∷ kind.From ∷ kind.Spawn ∷ of_head

unfoldable pub first : Phrase → List Kind
first phrase.Program = kind.Extern ∷ kind.Fun ∷ kind.Main ∷ []
first phrase.Externs = kind.Extern ∷ []
first phrase.Functions = kind.Fun ∷ []
first phrase.FunctionName = kind.Tilde ∷ kind.Name ∷ []
first phrase.World = of_world
first phrase.Written = of_type
first phrase.WrittenRest = kind.To ∷ []
first phrase.SumType = of_type
first phrase.SumTypeRest = kind.Plus ∷ []
first phrase.ProductType = of_type
first phrase.ProductTypeRest = kind.Star ∷ []
first phrase.PostfixType = of_type
first phrase.Suffixes = kind.List ∷ kind.Ref ∷ kind.At ∷ []
first phrase.AtomType = of_type
first phrase.Expr = of_expr
first phrase.Body = of_expr
first phrase.StoreRest = kind.Assign ∷ []
first phrase.Compare = of_head
first phrase.CompareRest = kind.Equals ∷ kind.Less ∷ kind.SameText ∷ []
first phrase.Cons = of_head
first phrase.ConsRest = kind.Cons ∷ []
first phrase.Sum = of_head
first phrase.SumRest = kind.Plus ∷ kind.Minus ∷ kind.Caret ∷ []
first phrase.Product = of_head
first phrase.ProductRest = kind.Star ∷ []
first phrase.Application = of_head
first phrase.Arguments = of_atom
first phrase.Head = of_head
first phrase.Atom = of_atom
first phrase.Group = kind.Close ∷ of_expr
first phrase.TupleRest = kind.Comma ∷ kind.Close ∷ []
first phrase.Declarations = kind.Val ∷ kind.Do ∷ kind.Put ∷ kind.Leta ∷ kind.Lets ∷ []
first phrase.More = kind.In ∷ kind.Val ∷ kind.Do ∷ kind.Put ∷ kind.Leta ∷ kind.Lets ∷ []
first phrase.Arms = kind.Inl ∷ kind.Nil ∷ []

-- whether a phrase may have no tokens
unfoldable pub nullable : Phrase → Bool
nullable phrase.Externs = true
nullable phrase.Functions = true
nullable phrase.WrittenRest = true
nullable phrase.SumTypeRest = true
nullable phrase.ProductTypeRest = true
nullable phrase.Suffixes = true
nullable phrase.StoreRest = true
nullable phrase.CompareRest = true
nullable phrase.ConsRest = true
nullable phrase.SumRest = true
nullable phrase.ProductRest = true
nullable phrase.Arguments = true
nullable _ = false
