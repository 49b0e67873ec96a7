-- The types that are made of the last values, and the values before them.
use Rattle.std.specs.Prelude.{Option, Some, List}
use Rattle.m5_tree.specs.TypeSyntax.{plain, wrapped, joined}
use Rattle.m5_tree.specs.Values.{◌>>=◌, mark, world, written}
use Rattle.m5_tree.specs.declared.form.TypePlain.TheVariants.{Addr}
use Rattle.m5_tree.specs.declared.form.TypeWrap.TheVariants.{Sham, At}
use Rattle.m5_tree.specs.declared.value.Value.{Value}
use Rattle.m5_tree.specs.declared.value.Value.TheVariants as value
use Rattle.m5_tree.specs.declared.grammar.WrittenForm.{WrittenForm}
use Rattle.m5_tree.specs.declared.grammar.WrittenForm.TheVariants.{OfBase, OfAddress, OfSham, OfSuffix, OfAt, OfJoin, Group}

-- a type has the place of its first token, in brackets too
unfoldable pub written_made : WrittenForm → List Value → Option (Value × List Value)
written_made (OfBase f) vs = do
  m ← mark vs
  Some (value.Written m.0 (plain m.0 f), m.1)
written_made OfAddress vs = do
  w ← world vs
  Some (value.Written w.0 (plain w.0 (Addr w.1)), w.2)
written_made OfSham vs = do
  t ← written vs
  m ← mark t.2
  Some (value.Written m.0 (wrapped m.0 Sham t.1), m.1)
written_made (OfSuffix f) vs = do
  t ← written vs
  Some (value.Written t.0 (wrapped t.0 f t.1), t.2)
written_made OfAt vs = do
  w ← world vs
  t ← written w.2
  Some (value.Written t.0 (wrapped t.0 (At w.1) t.1), t.2)
written_made (OfJoin f) vs = do
  b ← written vs
  a ← written b.2
  Some (value.Written a.0 (joined a.0 f a.1 b.1), a.2)
written_made Group vs = do
  t ← written vs
  m ← mark t.2
  Some (value.Written m.0 t.1, m.1)
