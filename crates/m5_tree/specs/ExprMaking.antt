-- The expressions that are made of the last values, and the values before them.
use Rattle.std.specs.Prelude.{Option, Some, List, [], ◌∷◌, ◌++◌}
use Rattle.m5_tree.specs.Syntax.{leaf, unary, binary, ternary}
use Rattle.m5_tree.specs.Tuple.{tuple}
use Rattle.m5_tree.specs.Values.{◌>>=◌, mark, name, number, literal, written, expr, parts}
use Rattle.m5_tree.specs.Words.{leaf_of, unary_of, binary_of}
use Rattle.m5_tree.specs.declared.form.LeafForm.TheVariants.{Name, Number, Str, Nil}
use Rattle.m5_tree.specs.declared.form.UnaryForm.TheVariants.{Inl, Inr, Fn, Rec}
use Rattle.m5_tree.specs.declared.form.TernaryForm.TheVariants.{If, CaseSum, CaseList}
use Rattle.m5_tree.specs.declared.value.Value.{Value}
use Rattle.m5_tree.specs.declared.value.Value.TheVariants as value
use Rattle.m5_tree.specs.declared.grammar.ExprForm.{ExprForm}
use Rattle.m5_tree.specs.declared.grammar.ExprForm.TheVariants.{OfName, OfNumber, OfLiteral, OfPlain, OfNil, OfPrefix, OfInl, OfInr, OfFn, OfRec, OfInfix, OfLeading, OfBinding, OfIf, OfCaseSum, OfCaseList, NoParts, AddPart, OfTuple, Group}

-- a node has the place of its first token; one in brackets keeps its own, and a node around it has that of the bracket
unfoldable pub expr_made : ExprForm → List Value → Option (Value × List Value)
expr_made OfName vs = do
  x ← name vs
  Some (value.Expr x.0 (leaf x.0 (Name x.1)), x.2)
expr_made OfNumber vs = do
  n ← number vs
  Some (value.Expr n.0 (leaf n.0 (Number n.1)), n.2)
expr_made OfLiteral vs = do
  t ← literal vs
  Some (value.Expr t.0 (leaf t.0 (Str t.1)), t.2)
expr_made (OfPlain p) vs = do
  m ← mark vs
  Some (value.Expr m.0 (leaf m.0 (leaf_of p)), m.1)
expr_made OfNil vs = do
  t ← written vs
  m ← mark t.2
  Some (value.Expr m.0 (leaf m.0 (Nil t.1)), m.1)
expr_made (OfPrefix p) vs = do
  e ← expr vs
  m ← mark e.2
  Some (value.Expr m.0 (unary m.0 (unary_of p) e.1), m.1)
expr_made OfInl vs = do
  e ← expr vs
  t ← written e.2
  m ← mark t.2
  Some (value.Expr m.0 (unary m.0 (Inl t.1) e.1), m.1)
expr_made OfInr vs = do
  e ← expr vs
  t ← written e.2
  m ← mark t.2
  Some (value.Expr m.0 (unary m.0 (Inr t.1) e.1), m.1)
expr_made OfFn vs = do
  e ← expr vs
  t ← written e.2
  x ← name t.2
  m ← mark x.2
  Some (value.Expr m.0 (unary m.0 (Fn x.1 t.1) e.1), m.1)
expr_made OfRec vs = do
  e ← expr vs
  b ← written e.2
  a ← written b.2
  x ← name a.2
  f ← name x.2
  m ← mark f.2
  Some (value.Expr m.0 (unary m.0 (Rec f.1 x.1 a.1 b.1) e.1), m.1)
expr_made (OfInfix f) vs = do
  b ← expr vs
  a ← expr b.2
  Some (value.Expr a.0 (binary a.0 f a.1 b.1), a.2)
expr_made (OfLeading f) vs = do
  b ← expr vs
  a ← expr b.2
  m ← mark a.2
  Some (value.Expr m.0 (binary m.0 f a.1 b.1), m.1)
expr_made (OfBinding f) vs = do
  b ← expr vs
  a ← expr b.2
  x ← name a.2
  m ← mark x.2
  Some (value.Expr m.0 (binary m.0 (binary_of f x.1) a.1 b.1), m.1)
expr_made OfIf vs = do
  c ← expr vs
  b ← expr c.2
  a ← expr b.2
  m ← mark a.2
  Some (value.Expr m.0 (ternary m.0 If a.1 b.1 c.1), m.1)
expr_made OfCaseSum vs = do
  c ← expr vs
  y ← name c.2
  b ← expr y.2
  x ← name b.2
  a ← expr x.2
  m ← mark a.2
  Some (value.Expr m.0 (ternary m.0 (CaseSum x.1 y.1) a.1 b.1 c.1), m.1)
expr_made OfCaseList vs = do
  c ← expr vs
  y ← name c.2
  x ← name y.2
  b ← expr x.2
  a ← expr b.2
  m ← mark a.2
  Some (value.Expr m.0 (ternary m.0 (CaseList x.1 y.1) a.1 b.1 c.1), m.1)
expr_made NoParts vs = Some (value.Parts [], vs)
expr_made AddPart vs = do
  e ← expr vs
  ps ← parts e.2
  Some (value.Parts (ps.0 ++ record { place = e.0; expr = e.1 } ∷ []), ps.1)
expr_made OfTuple vs = do
  ps ← parts vs
  m ← mark ps.1
  Some (value.Expr m.0 (tuple m.0 ps.0), m.1)
expr_made Group vs = do
  e ← expr vs
  m ← mark e.2
  Some (value.Expr m.0 e.1, m.1)
