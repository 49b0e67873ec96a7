-- Two programs of examples/ as terms: variables are numbered in the order of the text.
use Rattle.std.specs.Prelude.{[], codes}
use Rattle.m5_terms.specs.Expression.{Expression, leaf, unary, binary, ternary}
use Rattle.m5_terms.specs.TypeExpression.{string}
use Rattle.m5_terms.specs.declared.types.World.{World}
use Rattle.m5_terms.specs.declared.types.World.TheVariants.{Home, Server}
use Rattle.m5_terms.specs.declared.types.Primitive.{Primitive}
use Rattle.m5_terms.specs.declared.types.Primitive.TheVariants as primitive
use Rattle.m5_terms.specs.declared.form.LeafForm.TheVariants as leaf_form
use Rattle.m5_terms.specs.declared.form.UnaryForm.TheVariants as unary_form
use Rattle.m5_terms.specs.declared.form.BinaryForm.TheVariants as binary_form
use Rattle.m5_terms.specs.declared.form.TernaryForm.TheVariants as ternary_form
use Rattle.m5_typing.specs.Program.{ProgramTerm}

abbrev calls : Primitive → Expression → Expression
calls p a = binary binary_form.Call (leaf (leaf_form.Extern p)) a

abbrev gets : World → Expression → Expression
gets w a = binary binary_form.Get (leaf (leaf_form.Addr w)) a

-- say (from server get case read "greeting" of inl none => "nothing yet" | inr text => text end)
abbrev pub greeting : ProgramTerm
greeting = record {
  functions = [];
  main =
      calls primitive.Say
      (gets Server
      (ternary (ternary_form.CaseSum 0 1) (calls primitive.Read (leaf (leaf_form.Str (codes "greeting"))))
      (leaf (leaf_form.Str (codes "nothing yet")))
      (leaf (leaf_form.Var 1))));
}

-- fn (typed : string) => let put ~line = typed in from server get write ("chat", line) end
abbrev typed_line : Expression
typed_line =
    unary (unary_form.Fn 0 string)
    (binary (binary_form.Put 1) (leaf (leaf_form.Var 0))
    (gets Server (calls primitive.Write (binary binary_form.Pair (leaf (leaf_form.Str (codes "chat"))) (leaf (leaf_form.Valid 1))))))

-- fn (line : string) => let put ~shown = line in from home get set_text ("log", shown) end
abbrev written_line : Expression
written_line =
    unary (unary_form.Fn 2 string)
    (binary (binary_form.Put 3) (leaf (leaf_form.Var 2))
    (gets Home (calls primitive.SetText (binary binary_form.Pair (leaf (leaf_form.Str (codes "log"))) (leaf (leaf_form.Valid 3))))))

-- let do on ("send", typed_line) in from server get watch ("chat", written_line) end
abbrev pub chat : ProgramTerm
chat = record {
  functions = [];
  main =
      binary binary_form.Do (calls primitive.On (binary binary_form.Pair (leaf (leaf_form.Str (codes "send"))) typed_line))
      (gets Server (calls primitive.Watch (binary binary_form.Pair (leaf (leaf_form.Str (codes "chat"))) written_line)));
}
