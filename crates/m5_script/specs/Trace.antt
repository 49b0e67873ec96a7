-- The trace: a line for each entry, and a last line that says how the run ended.
use Rattle.std.specs.Prelude.{ℕ, List, ◌++◌, codes}
use Rattle.std.specs.List.{flat_map}
use Rattle.std.specs.Fmt.{decimal}
use Rattle.m5_terms.specs.Quoted.{quotation}
use Rattle.m5_terms.specs.declared.types.World.{World}
use Rattle.m5_terms.specs.declared.types.World.TheVariants.{Home, Server, Panel, Any}
use Rattle.m5_terms.specs.declared.ask.Act.{Act}
use Rattle.m5_terms.specs.declared.ask.Act.TheVariants as act
use Rattle.m5_terms.specs.declared.ask.Cause.{Cause}
use Rattle.m5_terms.specs.declared.ask.Cause.TheVariants as cause
use Rattle.m5_terms.specs.declared.ask.End.{End}
use Rattle.m5_terms.specs.declared.ask.End.TheVariants as end
use Rattle.m5_terms.specs.declared.ask.Entry.{Entry}
use Rattle.m5_terms.specs.declared.ask.History.{History}

abbrev pub world_word : World → List ℕ
world_word Home = codes "home"
world_word Server = codes "server"
world_word Panel = codes "panel"
world_word Any = codes "any"

abbrev pub cause_word : Cause → List ℕ
cause_word cause.Spent = codes "spent"
cause_word cause.Region = codes "region"
cause_word cause.Table = codes "table"

-- what an entry did
abbrev pub words_of : Act → List ℕ
words_of (act.Say text) = codes "say " ++ quotation text
words_of (act.Set element text) = codes "set " ++ quotation element ++ codes " " ++ quotation text
words_of (act.GetText element text) = codes "text " ++ quotation element ++ codes " " ++ quotation text
words_of (act.On element) = codes "on " ++ quotation element
words_of (act.ReadNone key) = codes "read " ++ quotation key ++ codes " none"
words_of (act.ReadSome key text) = codes "read " ++ quotation key ++ codes " " ++ quotation text
words_of (act.Write key text) = codes "write " ++ quotation key ++ codes " " ++ quotation text
words_of (act.Watch key) = codes "watch " ++ quotation key
words_of (act.Show text) = codes "show " ++ quotation text
words_of (act.Send other) = codes "send " ++ world_word other
words_of (act.Take other) = codes "take " ++ world_word other
words_of act.Refuse = codes "refuse"
words_of (act.Fire key) = codes "fire " ++ quotation key
words_of (act.Event element text) = codes "event " ++ quotation element ++ codes " " ++ quotation text
words_of (act.Stop reason) = codes "stop " ++ cause_word reason

-- a session and one of its worlds
abbrev pub site_words : ℕ → World → List ℕ
site_words session world = decimal session ++ codes " " ++ world_word world

-- the line of an entry: whose it is, and what it did
abbrev pub line_of : Entry → List ℕ
line_of entry = site_words entry.session entry.world ++ codes " " ++ words_of entry.act ++ codes "\n"

-- how the run ended
abbrev pub last_words : End → List ℕ
last_words end.Rest = codes "rest"
last_words (end.Stopped count) = codes "stopped " ++ decimal count
last_words (end.Wrong session world label) = codes "wrong " ++ site_words session world ++ codes " " ++ decimal label

-- the whole trace
abbrev pub trace_of : History → List ℕ
trace_of history = flat_map line_of history.entries ++ last_words history.end ++ codes "\n"
