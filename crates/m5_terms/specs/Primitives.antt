-- The primitives' names, types and worlds.
use Rattle.std.specs.Prelude.{ℕ, List, [], ◌∷◌, codes}
use Rattle.m5_terms.specs.declared.types.World.{World}
use Rattle.m5_terms.specs.declared.types.World.TheVariants.{Home, Server, Panel}
use Rattle.m5_terms.specs.TypeExpression.{TypeExpression, unit, string, product, sum, function}
use Rattle.m5_terms.specs.declared.types.Primitive.{Primitive}
use Rattle.m5_terms.specs.declared.types.Primitive.TheVariants as primitive

-- all primitives, in the order of their codes
abbrev pub primitives : List Primitive
primitives =
    primitive.Say ∷ primitive.SetText ∷ primitive.GetText ∷ primitive.On
    ∷ primitive.Read ∷ primitive.Write ∷ primitive.Watch ∷ primitive.Show ∷ []

-- where a primitive may be used
abbrev pub primitive_world : Primitive → World
primitive_world primitive.Say = Home
primitive_world primitive.SetText = Home
primitive_world primitive.GetText = Home
primitive_world primitive.On = Home
primitive_world primitive.Read = Server
primitive_world primitive.Write = Server
primitive_world primitive.Watch = Server
primitive_world primitive.Show = Panel

-- that of a call which registers a handler: a place and what is to be done there
abbrev pub registration : TypeExpression
registration = function (product string (function string unit)) unit

-- the type at which an extern may declare it
abbrev pub primitive_type : Primitive → TypeExpression
primitive_type primitive.Say = function string unit
primitive_type primitive.SetText = function (product string string) unit
primitive_type primitive.GetText = function string string
primitive_type primitive.On = registration
primitive_type primitive.Read = function string (sum unit string)
primitive_type primitive.Write = function (product string string) unit
primitive_type primitive.Watch = registration
primitive_type primitive.Show = function string unit

-- the name by which an extern declares it
abbrev pub primitive_name : Primitive → List ℕ
primitive_name primitive.Say = codes "say"
primitive_name primitive.SetText = codes "set_text"
primitive_name primitive.GetText = codes "get_text"
primitive_name primitive.On = codes "on"
primitive_name primitive.Read = codes "read"
primitive_name primitive.Write = codes "write"
primitive_name primitive.Watch = codes "watch"
primitive_name primitive.Show = codes "show"
