-- The program and the history of a term of the first form.
use Rattle.std.specs.Prelude.{List, [], ℕ, map}
use Rattle.m5_terms.specs.Expression.{Expression}
use Rattle.m5_terms.specs.declared.types.World.TheVariants.{Home}
use Rattle.m5_terms.specs.declared.ask.Entry.{Entry}
use Rattle.m5_terms.specs.declared.ask.Act.TheVariants as act
use Rattle.m5_terms.specs.declared.ask.End.TheVariants as end
use Rattle.m5_terms.specs.declared.ask.History.{History}
use Rattle.m5_meaning.specs.Site.{Program}

-- a term alone, without declared functions
abbrev pub program_of : Expression → Program
program_of e = record { functions = []; main = e }

abbrev pub said_entry : List ℕ → Entry
said_entry t = record { session = 1; world = Home; act = act.Say t }

-- the home of the one session says the texts, and the run rests
abbrev pub history_of : List (List ℕ) → History
history_of ls = record { entries = map said_entry ls; end = end.Rest }
