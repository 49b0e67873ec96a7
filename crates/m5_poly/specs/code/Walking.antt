-- What the walk's records stand for, and its parts by the number of the declaration.
use Rattle.std.specs.Prelude.{List, slice_get}
use Rattle.m5_lex.specs.declared.tokens.Placed.{Placed}
use Rattle.m5_terms.specs.Outcome.{Outcome}
use Rattle.m5_poly.specs.declared.end.PolyEnd.{PolyEnd}
use Rattle.m5_poly.specs.declared.walk.State.{State as StateOf}
use Rattle.m5_poly.specs.declared.walk.Use.{Use as UseOf}
use Rattle.m5_poly.specs.Survey.{Generic}
use Rattle.m5_poly.specs.Uses.{Scope, Bracketed}
use Rattle.m5_poly.specs.Walk.{State, Use, Walk, generic_used, used, walked, making, made_by, instance_walked}

abbrev pub use_of : UseOf → Use
use_of u = record { generic = u.generic; name = u.name.now; arguments = u.arguments.items; place = u.place }

abbrev pub state_of : StateOf → State
state_of s = record { read = s.read; made = s.made }

-- a walk in a scope, which makes instances of earlier declarations
abbrev pub walk_of : List Generic → Scope → Walk
walk_of gs s = record { generics = gs; scope = s; make = making gs s.before }

abbrev pub walked_here : List Generic → Scope → List Placed → State → Outcome State PolyEnd
walked_here gs s ps st = walked (walk_of gs s) 0 ps st

abbrev pub used_here : List Generic → Scope → Placed → Bracketed → List Placed → State → Outcome State PolyEnd
used_here gs s p u brackets st = used (walk_of gs s) p u brackets (generic_used gs s u) st

-- what a use makes, and the walk over a new instance of it
abbrev pub made_here : List Generic → Use → State → Outcome State PolyEnd
made_here gs u st = made_by gs u.generic (making gs u.generic) u st

abbrev pub instance_here : List Generic → Use → State → Outcome State PolyEnd
instance_here gs u st = instance_walked gs u.generic (making gs u.generic) u.arguments (slice_get gs u.generic) st
