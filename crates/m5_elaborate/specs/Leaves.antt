-- The type of a node without parts, one line a form.
use Rattle.std.specs.Prelude.{ℕ, Bool, if◌then◌else◌, Option, Some}
use Rattle.m5_lex.specs.declared.place.Place.{Place}
use Rattle.m5_terms.specs.TypeExpression.{TypeExpression, unit, bool, int, string, address, list, same_world}
use Rattle.m5_terms.specs.Primitives.{primitive_world, primitive_type}
use Rattle.m5_terms.specs.declared.types.World.{World}
use Rattle.m5_terms.specs.declared.types.World.TheVariants.{Any}
use Rattle.m5_terms.specs.declared.types.Primitive.{Primitive}
use Rattle.m5_terms.specs.declared.form.LeafForm.{LeafForm}
use Rattle.m5_terms.specs.declared.form.LeafForm.TheVariants as leaf_form
use Rattle.m5_typing.specs.Context.{Bound, local, valid, Context}
use Rattle.m5_elaborate.specs.declared.end.Kind.TheVariants.{WrongWorld, NotGeneric}
use Rattle.m5_terms.specs.Outcome.{found}
use Rattle.m5_elaborate.specs.Outcome.{Outcome, refused}

-- no world is known
abbrev pub is_any : World → Bool
is_any w = same_world w Any

-- the bound's world is w
abbrev pub local_type : Place → World → Option Bound → Outcome TypeExpression
local_type p w (Some (local v A)) = if same_world v w then found A else refused WrongWorld p
local_type p w _ = refused WrongWorld p

-- a valid name is used at each world
abbrev pub valid_type : Place → Option Bound → Outcome TypeExpression
valid_type p (Some (valid A)) = found A
valid_type p _ = refused WrongWorld p

-- a declared function that is valid is used at each world
abbrev pub declared_type : Place → World → Option Bound → Outcome TypeExpression
declared_type p w (Some (valid A)) = found A
declared_type p w o = local_type p w o

-- an extern has a world of its own
abbrev pub extern_type : Place → World → Primitive → Outcome TypeExpression
extern_type p w e =
    if is_any w then refused NotGeneric p else (if same_world w (primitive_world e) then found (primitive_type e) else refused WrongWorld p)

-- the address of a world that is known
abbrev pub address_type : Place → World → Outcome TypeExpression
address_type p w = if is_any w then refused NotGeneric p else found (address w)

-- F and G say what is declared and what is bound; the last form is in no text
abbrev pub leaf_type : (ℕ → Option Bound) → Context → World → Place → LeafForm → Outcome TypeExpression
leaf_type F G w p (leaf_form.Var x) = local_type p w (G x)
leaf_type F G w p (leaf_form.Valid x) = valid_type p (G x)
leaf_type F G w p (leaf_form.Glob f) = declared_type p w (F f)
leaf_type F G w p (leaf_form.Extern e) = extern_type p w e
leaf_type F G w p leaf_form.Unit = found unit
leaf_type F G w p (leaf_form.Bool b) = found bool
leaf_type F G w p (leaf_form.Int n) = found int
leaf_type F G w p (leaf_form.Str s) = found string
leaf_type F G w p (leaf_form.Addr v) = address_type p v
leaf_type F G w p leaf_form.Here = address_type p w
leaf_type F G w p (leaf_form.Nil A) = found (list A)
leaf_type F G w p (leaf_form.CellAt v n) = refused WrongWorld p
