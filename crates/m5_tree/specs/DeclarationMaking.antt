-- The declarations and the program that are made of the last values, and the values before them.
use Rattle.std.specs.Prelude.{Option, Some, List, [], ◌∷◌, ◌++◌}
use Rattle.m5_terms.specs.declared.types.World.TheVariants.{Any}
use Rattle.m5_tree.specs.Values.{◌>>=◌, mark, name, world, written, expr, declared}
use Rattle.m5_tree.specs.declared.value.Value.{Value}
use Rattle.m5_tree.specs.declared.value.Value.TheVariants as value
use Rattle.m5_tree.specs.declared.grammar.DeclarationForm.{DeclarationForm}
use Rattle.m5_tree.specs.declared.grammar.DeclarationForm.TheVariants.{Begin, OfExtern, Anywhere, OfFunction, OfProgram, OfWorld}

unfoldable pub declaration_made : DeclarationForm → List Value → Option (Value × List Value)
declaration_made Begin vs = Some (value.Declared (record { externs = []; functions = [] }), vs)
declaration_made OfExtern vs = do
  w ← world vs
  t ← written w.2
  x ← name t.2
  d ← declared x.2
  Some (value.Declared (record { externs = d.0.externs ++ record { place = x.0; name = x.1; ty = t.1; world = w.1 } ∷ []; functions = d.0.functions }), d.1)
declaration_made Anywhere vs = do
  x ← name vs
  Some (value.World x.0 Any, vs)
declaration_made OfFunction vs = do
  e ← expr vs
  b ← written e.2
  a ← written b.2
  x ← name a.2
  w ← world x.2
  f ← name w.2
  m ← mark f.2
  d ← declared m.1
  Some (value.Declared (record { externs = d.0.externs; functions = d.0.functions ++ record { place = m.0; name_place = f.0; name = f.1; world = w.1; parameter = x.1; ty = a.1; result = b.1; body = e.1 } ∷ [] }), d.1)
declaration_made OfProgram vs = do
  e ← expr vs
  m ← mark e.2
  d ← declared m.1
  Some (value.Whole (record { declarations = d.0; main = m.0; body = e.1 }), d.1)
declaration_made (OfWorld w) vs = do
  m ← mark vs
  Some (value.World m.0 w, m.1)
