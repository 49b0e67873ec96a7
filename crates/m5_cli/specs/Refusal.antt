-- The lines of refused program texts and scripts, and the status of a program's fault.
use Rattle.std.specs.Prelude.{ℕ, List, ◌++◌, codes}
use Rattle.std.specs.Fmt.{decimal}
use Rattle.m5_lex.specs.declared.place.Place.{Place}
use Rattle.m5_elaborate.specs.declared.end.Kind.{Kind}
use Rattle.m5_elaborate.specs.declared.end.Kind.TheVariants as kind
use Rattle.m5_front.specs.declared.refusal.Fault.{Fault}
use Rattle.m5_front.specs.declared.refusal.Fault.TheVariants.{Byte, Number, Syntax, Deep, TooMany, Unbound, Repeated, BadExtern, Types}
use Rattle.m5_front.specs.declared.refusal.Refusal.{Refusal}
use Rattle.m5_script.specs.declared.reading.LineKind.{LineKind}
use Rattle.m5_script.specs.declared.reading.LineKind.TheVariants as line
use Rattle.m5_cli.specs.declared.status.Status.{Status}
use Rattle.m5_cli.specs.declared.status.Status.TheVariants.{BadText, BadTypes}

abbrev pub kind_word : Kind → List ℕ
kind_word kind.WrongWorld = codes "WrongWorld"
kind_word kind.NotMobile = codes "NotMobile"
kind_word kind.Mismatch = codes "Mismatch"
kind_word kind.NotFunction = codes "NotFunction"
kind_word kind.NotPair = codes "NotPair"
kind_word kind.NotSum = codes "NotSum"
kind_word kind.NotList = codes "NotList"
kind_word kind.NotCell = codes "NotCell"
kind_word kind.NotAt = codes "NotAt"
kind_word kind.NotSham = codes "NotSham"
kind_word kind.NotGeneric = codes "NotGeneric"
kind_word kind.TooLarge = codes "TooLarge"

abbrev pub fault_word : Fault → List ℕ
fault_word Byte = codes "byte"
fault_word Number = codes "number"
fault_word Syntax = codes "syntax"
fault_word Deep = codes "deep"
fault_word TooMany = codes "TooMany"
fault_word Unbound = codes "Unbound"
fault_word Repeated = codes "Repeated"
fault_word BadExtern = codes "BadExtern"
fault_word (Types k) = kind_word k

-- line and column
abbrev pub place_words : Place → List ℕ
place_words at = decimal at.line ++ codes ":" ++ decimal at.column

-- the fault and its place
abbrev pub refusal_line : Refusal → List ℕ
refusal_line r = codes "refused " ++ fault_word r.fault ++ codes " " ++ place_words r.place ++ codes "\n"

-- bytes, numbers and the grammar are faults of the text, and those of scope count as faults of types
abbrev pub status_of : Fault → Status
status_of Byte = BadText
status_of Number = BadText
status_of Syntax = BadText
status_of Deep = BadText
status_of TooMany = BadTypes
status_of Unbound = BadTypes
status_of Repeated = BadTypes
status_of BadExtern = BadTypes
status_of (Types k) = BadTypes

abbrev pub line_kind_word : LineKind → List ℕ
line_kind_word line.Syntax = codes "syntax"
line_kind_word line.Late = codes "late"
line_kind_word line.Again = codes "again"
line_kind_word line.Range = codes "range"
line_kind_word line.Sealed = codes "sealed"
line_kind_word line.Many = codes "many"

-- the first bad line of a script, counted from 1, and its kind
abbrev pub script_line : ℕ → LineKind → List ℕ
script_line number k = codes "refused script " ++ decimal number ++ codes " " ++ line_kind_word k ++ codes "\n"
