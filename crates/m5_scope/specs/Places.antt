-- The places of all nodes of expressions and written types, in the order of the text.
use Rattle.std.specs.Prelude.{List, [], ◌∷◌, ◌++◌}
use Rattle.m5_lex.specs.declared.place.Place.{Place}
use Rattle.m5_tree.specs.TypeSyntax.{TypeSyntax, plain, wrapped, joined}
use Rattle.m5_tree.specs.Syntax.{Syntax, leaf, unary, binary, ternary}
use Rattle.m5_tree.specs.declared.form.LeafForm.{LeafForm}
use Rattle.m5_tree.specs.declared.form.LeafForm.TheVariants.{Nil}
use Rattle.m5_tree.specs.declared.form.UnaryForm.{UnaryForm}
use Rattle.m5_tree.specs.declared.form.UnaryForm.TheVariants.{Fn, Rec, Inl, Inr}
use Rattle.m5_tree.specs.declared.tree.Extern.{Extern}
use Rattle.m5_tree.specs.declared.tree.Function.{Function}
use Rattle.m5_tree.specs.declared.tree.Program.{Program}

abbrev pub type_places : TypeSyntax → List Place
type_places (plain at f) = at ∷ []
type_places (wrapped at f a) = at ∷ type_places a
type_places (joined at f a b) = at ∷ (type_places a ++ type_places b)

-- those of the types that are written in a form
abbrev pub leaf_places : LeafForm → List Place
leaf_places (Nil t) = type_places t
leaf_places _ = []

abbrev pub unary_places : UnaryForm → List Place
unary_places (Fn x t) = type_places t
unary_places (Rec f x t u) = type_places t ++ type_places u
unary_places (Inl t) = type_places t
unary_places (Inr t) = type_places t
unary_places _ = []

-- a node comes before the types written in it, and these before its parts
abbrev pub places : Syntax → List Place
places (leaf at f) = at ∷ leaf_places f
places (unary at f a) = at ∷ (unary_places f ++ places a)
places (binary at f a b) = at ∷ (places a ++ places b)
places (ternary at f a b c) = at ∷ (places a ++ (places b ++ places c))

abbrev pub function_places : Function → List Place
function_places g = type_places g.ty ++ (type_places g.result ++ places g.body)

abbrev pub extern_lists : List Extern → List Place
extern_lists [] = []
extern_lists (x ∷ xs) = type_places x.ty ++ extern_lists xs

abbrev pub function_lists : List Function → List Place
function_lists [] = []
function_lists (g ∷ gs) = function_places g ++ function_lists gs

abbrev pub program_places : Program → List Place
program_places p = extern_lists p.declarations.externs ++ (function_lists p.declarations.functions ++ places p.body)
