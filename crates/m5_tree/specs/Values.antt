-- The last value of a list of values, the last one first, and the values before it.
use Rattle.std.specs.Prelude.{ℕ, List, ◌∷◌, Option, Some, None}
use Rattle.m5_lex.specs.declared.place.Place.{Place}
use Rattle.m5_terms.specs.declared.types.World.{World}
use Rattle.m5_tree.specs.TypeSyntax.{TypeSyntax}
use Rattle.m5_tree.specs.Syntax.{Syntax}
use Rattle.m5_tree.specs.declared.expr.Part.{Part}
use Rattle.m5_tree.specs.declared.tree.Declarations.{Declarations}
use Rattle.m5_tree.specs.declared.tree.Program.{Program}
use Rattle.m5_tree.specs.declared.value.Value.{Value}
use Rattle.m5_tree.specs.declared.value.Value.TheVariants as value

infixl 10 ◌>>=◌
abbrev pub ◌>>=◌ : {A B : Type 0} → Option A → (A → Option B) → Option B
(Some x) >>= f = f x
None >>= f = None

-- the last value if it is of one sort, its place first, and the values before it
abbrev pub mark : List Value → Option (Place × List Value)
mark (value.Mark at ∷ vs) = Some (at, vs)
mark _ = None

abbrev pub name : List Value → Option (Place × ℕ × List Value)
name (value.Name at x ∷ vs) = Some (at, x, vs)
name _ = None

abbrev pub number : List Value → Option (Place × ℕ × List Value)
number (value.Number at n ∷ vs) = Some (at, n, vs)
number _ = None

abbrev pub literal : List Value → Option (Place × List ℕ × List Value)
literal (value.Literal at t ∷ vs) = Some (at, t, vs)
literal _ = None

abbrev pub world : List Value → Option (Place × World × List Value)
world (value.World at w ∷ vs) = Some (at, w, vs)
world _ = None

abbrev pub written : List Value → Option (Place × TypeSyntax × List Value)
written (value.Written at t ∷ vs) = Some (at, t, vs)
written _ = None

abbrev pub expr : List Value → Option (Place × Syntax × List Value)
expr (value.Expr at e ∷ vs) = Some (at, e, vs)
expr _ = None

abbrev pub parts : List Value → Option (List Part × List Value)
parts (value.Parts ps ∷ vs) = Some (ps, vs)
parts _ = None

abbrev pub declared : List Value → Option (Declarations × List Value)
declared (value.Declared d ∷ vs) = Some (d, vs)
declared _ = None

abbrev pub whole : List Value → Option (Program × List Value)
whole (value.Whole p ∷ vs) = Some (p, vs)
whole _ = None
