-- The lines of a trace text, and the place that a line names.
use Rattle.std.specs.Prelude.{ℕ, ◌+◌, Bool, not, ◌||◌, ◌==◌, List, [], ◌∷◌, ◌++◌, take, drop, codes, Option, Some, None, if◌then◌else◌}
use Rattle.std.specs.Str.{bytes_eq}
use Rattle.m5_terms.specs.declared.ask.Cause.{Cause}
use Rattle.m5_terms.specs.declared.ask.Cause.TheVariants.{Spent, Region}
use Rattle.m5_script.specs.Fields.{◌>>=◌, span, number_of, world_of}
use Rattle.m5_script.specs.declared.items.SiteName.{SiteName}
use Rattle.m5_network.specs.Kinds.{Place}

-- a byte before the lines of the rest: it begins a line of its own only where no line follows
abbrev pub before : ℕ → List (List ℕ) → List (List ℕ)
before byte [] = (byte ∷ []) ∷ []
before byte (line ∷ more) = (byte ∷ line) ∷ more

-- each line is taken with the byte 10 that ends it, which the last may lack
abbrev pub lines : List ℕ → List (List ℕ)
lines [] = []
lines (byte ∷ bytes) = if byte == 10 then (byte ∷ []) ∷ lines bytes else before byte (lines bytes)

abbrev pub in_word : ℕ → Bool
in_word byte = not (byte == 32 || byte == 10)

-- the bytes before the first blank or the line's end, and those after it
abbrev pub first_word : List ℕ → List ℕ
first_word bytes = take (span in_word bytes) bytes

abbrev pub after_word : List ℕ → List ℕ
after_word bytes = drop (span in_word bytes + 1) bytes

-- the site that a line begins with: a number without leading zeros, one blank, a world, and then a blank or the line's end
abbrev pub site_named : List ℕ → Option SiteName
site_named line = number_of (first_word line) >>= λ session. world_of (first_word (after_word line)) >>= λ world. Some (record { session = session; world = world })

-- with the byte 10 that ends the line, or without it
abbrev pub says : List ℕ → List ℕ → Bool
says words bytes = bytes_eq bytes words || bytes_eq bytes (words ++ codes "\n")

-- the cause that stands after the site
abbrev pub cause_of : List ℕ → Option Cause
cause_of bytes = if says (codes "stop spent") bytes then Some Spent else (if says (codes "stop region") bytes then Some Region else None)

abbrev pub cause_named : List ℕ → Option Cause
cause_named line = cause_of (after_word (after_word line))

-- a line that begins with a site names a place: the site, with the cause of a stop that the run chose
abbrev pub place_at : List ℕ → SiteName → Place
place_at line x = record { session = x.session; world = x.world; cause = cause_named line }

abbrev pub place_named : List ℕ → Option Place
place_named line = site_named line >>= λ x. Some (place_at line x)
