-- Where the terms of a run stand: a program's functions, and the cells that a session's sites have by now.
use Rattle.std.specs.Prelude.{◌≡◌, ◌≢◌, List, ◌++◌}
use Rattle.m5_terms.specs.TypeExpression.{TypeExpression}
use Rattle.m5_terms.specs.declared.types.World.{World}
use Rattle.m5_typing.specs.Context.{CellTypes, Setting}
use Rattle.m5_typing.specs.Program.{ProgramTerm, setting_of}

abbrev pub with_cells : CellTypes → Setting → Setting
with_cells L E = record { functions = E.functions; cells = L }

abbrev pub setting : ProgramTerm → CellTypes → Setting
setting P L = with_cells L (setting_of P.functions)

-- the cells' types stay, and new ones come last
abbrev pub Grows : CellTypes → CellTypes → Type 0
Grows L M = (w : World) → (As : List TypeExpression) × (M w ≡ L w ++ As)

-- only the site at u makes cells
abbrev pub GrowsAt : World → CellTypes → CellTypes → Type 0
GrowsAt u L M = Grows L M × ((w : World) → w ≢ u → M w ≡ L w)
