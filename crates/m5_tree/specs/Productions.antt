-- The productions: a phrase is one of these sequences of tokens, phrases and actions.
use Rattle.std.specs.Prelude.{List, [], ◌∷◌}
use Rattle.m5_terms.specs.declared.types.Op.TheVariants as op
use Rattle.m5_terms.specs.declared.types.World.TheVariants as world
use Rattle.m5_tree.specs.declared.form.BinaryForm.TheVariants as binary
use Rattle.m5_tree.specs.declared.form.TypePlain.TheVariants as base
use Rattle.m5_tree.specs.declared.form.TypeWrap.TheVariants as suffix
use Rattle.m5_tree.specs.declared.form.TypeJoin.TheVariants as join
use Rattle.m5_tree.specs.declared.grammar.Symbol.{Symbol}
use Rattle.m5_tree.specs.declared.grammar.Kind.TheVariants as kind
use Rattle.m5_tree.specs.declared.grammar.Phrase.{Phrase}
use Rattle.m5_tree.specs.declared.grammar.Phrase.TheVariants as phrase
use Rattle.m5_tree.specs.declared.grammar.DeclarationForm.TheVariants as declaration
use Rattle.m5_tree.specs.declared.grammar.WrittenForm.TheVariants as written
use Rattle.m5_tree.specs.declared.grammar.ExprForm.TheVariants as expr
use Rattle.m5_tree.specs.declared.grammar.Plain.TheVariants as plain
use Rattle.m5_tree.specs.declared.grammar.Prefix.TheVariants as prefix
use Rattle.m5_tree.specs.declared.grammar.Binding.TheVariants as binding
use Rattle.m5_tree.specs.Symbols.{tok, keep, nt, enter, leave, pass, declare, write, build}

unfoldable pub alternatives : Phrase → List (List Symbol)
alternatives phrase.Program = (declare declaration.Begin ∷ nt phrase.Externs ∷ nt phrase.Functions ∷ keep kind.Main ∷ tok kind.Equals ∷ nt phrase.Expr ∷ declare declaration.OfProgram ∷ []) ∷ []
alternatives phrase.Externs = (tok kind.Extern ∷ tok kind.Val ∷ keep kind.Name ∷ tok kind.Colon ∷ nt phrase.Written ∷ tok kind.AtSign ∷ nt phrase.World ∷ declare declaration.OfExtern ∷ nt phrase.Externs ∷ []) ∷ [] ∷ []
alternatives phrase.Functions = (keep kind.Fun ∷ nt phrase.FunctionName ∷ tok kind.Open ∷ keep kind.Name ∷ tok kind.Colon ∷ nt phrase.Written ∷ tok kind.Close ∷ tok kind.Colon ∷ nt phrase.Written ∷ tok kind.Equals ∷ nt phrase.Expr ∷ declare declaration.OfFunction ∷ nt phrase.Functions ∷ []) ∷ [] ∷ []
alternatives phrase.FunctionName =
    (tok kind.Tilde ∷ keep kind.Name ∷ declare declaration.Anywhere ∷ [])
    ∷ (keep kind.Name ∷ tok kind.AtSign ∷ nt phrase.World ∷ []) ∷ []
alternatives phrase.World =
    (keep kind.Home ∷ declare (declaration.OfWorld world.Home) ∷ [])
    ∷ (keep kind.Server ∷ declare (declaration.OfWorld world.Server) ∷ [])
    ∷ (keep kind.Panel ∷ declare (declaration.OfWorld world.Panel) ∷ []) ∷ []
alternatives phrase.Written = (enter ∷ nt phrase.SumType ∷ nt phrase.WrittenRest ∷ leave ∷ []) ∷ []
alternatives phrase.WrittenRest = (tok kind.To ∷ pass ∷ nt phrase.Written ∷ write (written.OfJoin join.Fun) ∷ []) ∷ [] ∷ []
alternatives phrase.SumType = (nt phrase.ProductType ∷ nt phrase.SumTypeRest ∷ []) ∷ []
alternatives phrase.SumTypeRest = (tok kind.Plus ∷ pass ∷ nt phrase.SumType ∷ write (written.OfJoin join.Sum) ∷ []) ∷ [] ∷ []
alternatives phrase.ProductType = (nt phrase.PostfixType ∷ nt phrase.ProductTypeRest ∷ []) ∷ []
alternatives phrase.ProductTypeRest = (tok kind.Star ∷ pass ∷ nt phrase.ProductType ∷ write (written.OfJoin join.Prod) ∷ []) ∷ [] ∷ []
alternatives phrase.PostfixType = (nt phrase.AtomType ∷ nt phrase.Suffixes ∷ []) ∷ []
alternatives phrase.Suffixes =
    (tok kind.List ∷ write (written.OfSuffix suffix.List) ∷ pass ∷ nt phrase.Suffixes ∷ [])
    ∷ (tok kind.Ref ∷ write (written.OfSuffix suffix.Cell) ∷ pass ∷ nt phrase.Suffixes ∷ [])
    ∷ (tok kind.At ∷ nt phrase.World ∷ write written.OfAt ∷ pass ∷ nt phrase.Suffixes ∷ []) ∷ [] ∷ []
alternatives phrase.AtomType =
    (keep kind.Unit ∷ write (written.OfBase base.Unit) ∷ [])
    ∷ (keep kind.Bool ∷ write (written.OfBase base.Bool) ∷ [])
    ∷ (keep kind.Int ∷ write (written.OfBase base.Int) ∷ [])
    ∷ (keep kind.String ∷ write (written.OfBase base.Str) ∷ [])
    ∷ (keep kind.Sham ∷ pass ∷ nt phrase.AtomType ∷ write written.OfSham ∷ [])
    ∷ (nt phrase.World ∷ tok kind.Addr ∷ write written.OfAddress ∷ [])
    ∷ (keep kind.Open ∷ nt phrase.Written ∷ tok kind.Close ∷ write written.Group ∷ []) ∷ []
alternatives phrase.Expr = (enter ∷ nt phrase.Body ∷ leave ∷ []) ∷ []
alternatives phrase.Body =
    (keep kind.If ∷ nt phrase.Expr ∷ tok kind.Then ∷ nt phrase.Expr ∷ tok kind.Else ∷ nt phrase.Expr ∷ build expr.OfIf ∷ [])
    ∷ (keep kind.Fn ∷ tok kind.Open ∷ keep kind.Name ∷ tok kind.Colon ∷ nt phrase.Written ∷ tok kind.Close ∷ tok kind.Arrow ∷ nt phrase.Expr ∷ build expr.OfFn ∷ [])
    ∷ (keep kind.Rec ∷ keep kind.Name ∷ tok kind.Open ∷ keep kind.Name ∷ tok kind.Colon ∷ nt phrase.Written ∷ tok kind.Close ∷ tok kind.Colon ∷ nt phrase.Written ∷ tok kind.Arrow ∷ nt phrase.Expr ∷ build expr.OfRec ∷ [])
    ∷ (keep kind.From ∷ nt phrase.Atom ∷ tok kind.Get ∷ nt phrase.Expr ∷ build (expr.OfLeading binary.Get) ∷ [])
    ∷ (keep kind.Spawn ∷ nt phrase.Expr ∷ build (expr.OfPrefix prefix.Spawn) ∷ [])
    ∷ (nt phrase.Compare ∷ nt phrase.StoreRest ∷ []) ∷ []
alternatives phrase.StoreRest = (tok kind.Assign ∷ pass ∷ nt phrase.Compare ∷ build (expr.OfInfix binary.Store) ∷ []) ∷ [] ∷ []
alternatives phrase.Compare = (nt phrase.Cons ∷ nt phrase.CompareRest ∷ []) ∷ []
alternatives phrase.CompareRest =
    (tok kind.Equals ∷ pass ∷ nt phrase.Cons ∷ build (expr.OfInfix (binary.Binary op.EqInt)) ∷ [])
    ∷ (tok kind.Less ∷ pass ∷ nt phrase.Cons ∷ build (expr.OfInfix (binary.Binary op.Less)) ∷ [])
    ∷ (tok kind.SameText ∷ pass ∷ nt phrase.Cons ∷ build (expr.OfInfix (binary.Binary op.EqStr)) ∷ []) ∷ [] ∷ []
alternatives phrase.Cons = (nt phrase.Sum ∷ nt phrase.ConsRest ∷ []) ∷ []
alternatives phrase.ConsRest = (tok kind.Cons ∷ pass ∷ nt phrase.Cons ∷ build (expr.OfInfix binary.Cons) ∷ []) ∷ [] ∷ []
alternatives phrase.Sum = (nt phrase.Product ∷ nt phrase.SumRest ∷ []) ∷ []
alternatives phrase.SumRest =
    (tok kind.Plus ∷ pass ∷ nt phrase.Product ∷ build (expr.OfInfix (binary.Binary op.Add)) ∷ nt phrase.SumRest ∷ [])
    ∷ (tok kind.Minus ∷ pass ∷ nt phrase.Product ∷ build (expr.OfInfix (binary.Binary op.Sub)) ∷ nt phrase.SumRest ∷ [])
    ∷ (tok kind.Caret ∷ pass ∷ nt phrase.Product ∷ build (expr.OfInfix (binary.Binary op.Cat)) ∷ nt phrase.SumRest ∷ []) ∷ [] ∷ []
alternatives phrase.Product = (nt phrase.Application ∷ nt phrase.ProductRest ∷ []) ∷ []
alternatives phrase.ProductRest = (tok kind.Star ∷ pass ∷ nt phrase.Application ∷ build (expr.OfInfix (binary.Binary op.Mul)) ∷ nt phrase.ProductRest ∷ []) ∷ [] ∷ []
alternatives phrase.Application = (nt phrase.Head ∷ nt phrase.Arguments ∷ []) ∷ []
alternatives phrase.Arguments = (nt phrase.Atom ∷ build (expr.OfInfix binary.Call) ∷ pass ∷ nt phrase.Arguments ∷ []) ∷ [] ∷ []
alternatives phrase.Head =
    (keep kind.Fst ∷ nt phrase.Atom ∷ build (expr.OfPrefix prefix.Fst) ∷ [])
    ∷ (keep kind.Snd ∷ nt phrase.Atom ∷ build (expr.OfPrefix prefix.Snd) ∷ [])
    ∷ (keep kind.Bang ∷ nt phrase.Atom ∷ build (expr.OfPrefix prefix.Load) ∷ [])
    ∷ (keep kind.Ref ∷ nt phrase.Atom ∷ build (expr.OfPrefix prefix.NewCell) ∷ [])
    ∷ (keep kind.Hold ∷ nt phrase.Atom ∷ build (expr.OfPrefix prefix.Hold) ∷ [])
    ∷ (keep kind.Sham ∷ nt phrase.Atom ∷ build (expr.OfPrefix prefix.Sham) ∷ [])
    ∷ (keep kind.Str ∷ nt phrase.Atom ∷ build (expr.OfPrefix prefix.StrOf) ∷ [])
    ∷ (keep kind.Div ∷ nt phrase.Atom ∷ build (expr.OfPrefix prefix.Div) ∷ [])
    ∷ (keep kind.Inl ∷ tok kind.OpenSquare ∷ nt phrase.Written ∷ tok kind.CloseSquare ∷ nt phrase.Atom ∷ build expr.OfInl ∷ [])
    ∷ (keep kind.Inr ∷ tok kind.OpenSquare ∷ nt phrase.Written ∷ tok kind.CloseSquare ∷ nt phrase.Atom ∷ build expr.OfInr ∷ [])
    ∷ (nt phrase.Atom ∷ []) ∷ []
alternatives phrase.Atom =
    (keep kind.Name ∷ build expr.OfName ∷ [])
    ∷ (keep kind.Number ∷ build expr.OfNumber ∷ [])
    ∷ (keep kind.Literal ∷ build expr.OfLiteral ∷ [])
    ∷ (keep kind.True ∷ build (expr.OfPlain plain.True) ∷ [])
    ∷ (keep kind.False ∷ build (expr.OfPlain plain.False) ∷ [])
    ∷ (keep kind.Here ∷ build (expr.OfPlain plain.Here) ∷ [])
    ∷ (keep kind.Home ∷ build (expr.OfPlain plain.Home) ∷ [])
    ∷ (keep kind.Server ∷ build (expr.OfPlain plain.Server) ∷ [])
    ∷ (keep kind.Panel ∷ build (expr.OfPlain plain.Panel) ∷ [])
    ∷ (keep kind.Nil ∷ tok kind.OpenSquare ∷ nt phrase.Written ∷ tok kind.CloseSquare ∷ build expr.OfNil ∷ [])
    ∷ (keep kind.Open ∷ build expr.NoParts ∷ nt phrase.Group ∷ build expr.OfTuple ∷ [])
    ∷ (keep kind.Let ∷ nt phrase.Declarations ∷ tok kind.End ∷ build expr.Group ∷ [])
    ∷ (keep kind.Case ∷ nt phrase.Expr ∷ tok kind.Of ∷ nt phrase.Arms ∷ tok kind.End ∷ []) ∷ []
alternatives phrase.Group =
    (tok kind.Close ∷ [])
    ∷ (nt phrase.Expr ∷ build expr.AddPart ∷ nt phrase.TupleRest ∷ []) ∷ []
alternatives phrase.TupleRest =
    (tok kind.Comma ∷ nt phrase.Expr ∷ build expr.AddPart ∷ nt phrase.TupleRest ∷ [])
    ∷ (tok kind.Close ∷ []) ∷ []
alternatives phrase.Declarations =
    (keep kind.Val ∷ keep kind.Name ∷ tok kind.Equals ∷ nt phrase.Expr ∷ pass ∷ nt phrase.More ∷ build (expr.OfBinding binding.Val) ∷ [])
    ∷ (keep kind.Do ∷ nt phrase.Expr ∷ pass ∷ nt phrase.More ∷ build (expr.OfLeading binary.Do) ∷ [])
    ∷ (keep kind.Put ∷ tok kind.Tilde ∷ keep kind.Name ∷ tok kind.Equals ∷ nt phrase.Expr ∷ pass ∷ nt phrase.More ∷ build (expr.OfBinding binding.Put) ∷ [])
    ∷ (keep kind.Leta ∷ keep kind.Name ∷ tok kind.Equals ∷ nt phrase.Expr ∷ pass ∷ nt phrase.More ∷ build (expr.OfBinding binding.Leta) ∷ [])
    ∷ (keep kind.Lets ∷ tok kind.Tilde ∷ keep kind.Name ∷ tok kind.Equals ∷ nt phrase.Expr ∷ pass ∷ nt phrase.More ∷ build (expr.OfBinding binding.Lets) ∷ []) ∷ []
alternatives phrase.More =
    (tok kind.In ∷ nt phrase.Expr ∷ [])
    ∷ (nt phrase.Declarations ∷ []) ∷ []
alternatives phrase.Arms =
    (tok kind.Inl ∷ keep kind.Name ∷ tok kind.Arrow ∷ nt phrase.Expr ∷ tok kind.Bar ∷ tok kind.Inr ∷ keep kind.Name ∷ tok kind.Arrow ∷ nt phrase.Expr ∷ build expr.OfCaseSum ∷ [])
    ∷ (tok kind.Nil ∷ tok kind.Arrow ∷ nt phrase.Expr ∷ tok kind.Bar ∷ keep kind.Name ∷ tok kind.Cons ∷ keep kind.Name ∷ tok kind.Arrow ∷ nt phrase.Expr ∷ build expr.OfCaseList ∷ []) ∷ []
