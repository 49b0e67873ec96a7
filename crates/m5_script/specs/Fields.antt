-- The words of a script's line, and what they stand for.
use Rattle.std.specs.Prelude.{◌≡◌, ℕ, ◌+◌, Bool, false, not, ◌||◌, ◌&&◌, ◌==◌, min, List, [], ◌∷◌, ◌++◌, length, take, drop, Option, Some, None, if◌then◌else◌}
use Rattle.std.specs.List.{find, take_while, list_all}
use Rattle.std.specs.Str.{bytes_eq}
use Rattle.std.specs.Str.Parse.{digits_value}
use Rattle.m5_terms.specs.Decimal.{is_digit}
use Rattle.m5_terms.specs.declared.types.World.{World}
use Rattle.m5_terms.specs.Worlds.{site_worlds}
use Rattle.m5_script.specs.declared.items.SiteName.{SiteName}
use Rattle.m5_script.specs.declared.form.LineEnd.{LineEnd}
use Rattle.m5_script.specs.declared.form.LineEnd.TheVariants.{Syntax, Memory}
use Rattle.m5_script.specs.Trace.{world_word}

infixl 10 ◌>>=◌
abbrev pub ◌>>=◌ : {A B : Type 0} → Option A → (A → Option B) → Option B
None >>= f = None
(Some x) >>= f = f x

-- a fault of a line comes exactly where it reads as nothing, and want of memory may come anywhere
abbrev pub Refuses : {A : Type 0} → LineEnd → Option A → Type 0
Refuses Syntax read = read ≡ None
Refuses Memory read = Unit {0}

-- spaces and tabs part the words
abbrev pub is_blank : ℕ → Bool
is_blank byte = byte == 32 || byte == 9

abbrev pub is_solid : ℕ → Bool
is_solid byte = not (is_blank byte)

-- how many bytes from the front on pass the test
abbrev pub span : (ℕ → Bool) → List ℕ → ℕ
span test bytes = length (take_while test bytes)

-- without the blanks that it begins with
abbrev pub skipped : List ℕ → List ℕ
skipped bytes = drop (span is_blank bytes) bytes

-- a word from here to the next blank, and what follows it
abbrev pub word_from : List ℕ → List ℕ × List ℕ
word_from bytes = (take (span is_solid bytes) bytes, drop (span is_solid bytes) bytes)

-- the next word, which is empty at the end, and what follows it
abbrev pub word_at : List ℕ → List ℕ × List ℕ
word_at bytes = word_from (skipped bytes)

-- digits, the first of which is 0 in 0 alone
abbrev pub is_number : List ℕ → Bool
is_number [] = false
is_number (first ∷ []) = is_digit first
is_number (first ∷ second ∷ more) = not (first == 48) && list_all is_digit (first ∷ second ∷ more)

-- A number past a million is read as a million, which is beyond each limit.
abbrev pub number_cap : ℕ
number_cap = 1000000

-- the number that a word spells in decimal
abbrev pub number_of : List ℕ → Option ℕ
number_of word = if is_number word then Some (min number_cap (digits_value 10 word)) else None

-- the world of the list that the word is for
abbrev pub world_of : List ℕ → Option World
world_of word = find (λ w. bytes_eq word (world_word w)) site_worlds

abbrev pub before_dot : ℕ → Bool
before_dot byte = not (byte == 46)

-- a session's number, a dot and a world
unfoldable pub site_of : List ℕ → Option SiteName
site_of word = do
  session ← number_of (take (span before_dot word) word)
  world ← world_of (drop (span before_dot word + 1) word)
  Some (record { session = session; world = world })

-- the sites read so far and those that words name, where an empty word is none
abbrev pub sites_from : List SiteName → List (List ℕ) → Option (List SiteName)
sites_from sites [] = Some sites
sites_from sites ([] ∷ words) = sites_from sites words
sites_from sites ((byte ∷ bytes) ∷ words) = site_of (byte ∷ bytes) >>= λ site. sites_from (sites ++ site ∷ []) words
