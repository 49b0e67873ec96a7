-- What a line of a script says, by its keyword.
use Rattle.std.specs.Prelude.{◌≢◌, ℕ, Bool, true, ◌==◌, List, [], ◌∷◌, length, Option, Some, None, if◌then◌else◌, codes}
use Rattle.std.specs.List.{slice_split, All}
use Rattle.std.specs.Str.{bytes_eq}
use Rattle.m5_terms.specs.Text.{IsText}
use Rattle.m5_terms.specs.declared.types.World.{World}
use Rattle.m5_terms.specs.declared.types.World.TheVariants.{Any}
use Rattle.m5_script.specs.declared.items.SiteName.{SiteName}
use Rattle.m5_script.specs.declared.form.Form.{Form}
use Rattle.m5_script.specs.declared.form.Form.TheVariants as form
use Rattle.m5_script.specs.declared.form.Keyword.{Keyword}
use Rattle.m5_script.specs.declared.form.Keyword.TheVariants as keyword
use Rattle.m5_script.specs.Fields.{◌>>=◌, is_blank, skipped, word_at, number_of, world_of, sites_from}
use Rattle.m5_script.specs.Quoted.{text_at, bytes_from}

unfoldable pub keyword_of : List ℕ → Option Keyword
keyword_of word =
    if bytes_eq word (codes "sessions") then Some keyword.Sessions
    else (if bytes_eq word (codes "steps") then Some keyword.Steps
    else (if bytes_eq word (codes "region") then Some keyword.Region
    else (if bytes_eq word (codes "store") then Some keyword.Store
    else (if bytes_eq word (codes "event") then Some keyword.Event
    else (if bytes_eq word (codes "raw") then Some keyword.Raw
    else (if bytes_eq word (codes "order") then Some keyword.Order else None))))))

-- nothing but blanks follows
abbrev pub ended : Form → List ℕ → Option Form
ended form bytes = if length (skipped bytes) == 0 then Some form else None

unfoldable pub number_at : List ℕ → Option (ℕ × List ℕ)
number_at bytes = number_of (word_at bytes).0 >>= λ number. Some (number, (word_at bytes).1)

unfoldable pub world_at : List ℕ → Option (World × List ℕ)
world_at bytes = world_of (word_at bytes).0 >>= λ world. Some (world, (word_at bytes).1)

-- a quoted text of hexadecimal digits
unfoldable pub item_at : List ℕ → Option (List ℕ × List ℕ)
item_at bytes = text_at bytes >>= λ digits. bytes_from [] digits.0 >>= λ item. Some (item, digits.1)

-- `sessions N`, `steps N` and `region N`
unfoldable pub sessions_form : List ℕ → Option Form
sessions_form bytes = number_at bytes >>= λ number. ended (form.Sessions number.0) number.1

unfoldable pub steps_form : List ℕ → Option Form
steps_form bytes = number_at bytes >>= λ number. ended (form.Steps number.0) number.1

unfoldable pub region_form : List ℕ → Option Form
region_form bytes = number_at bytes >>= λ number. ended (form.Region number.0) number.1

-- `store "k" "v"`
unfoldable pub store_form : List ℕ → Option Form
store_form bytes = text_at bytes >>= λ key. text_at key.1 >>= λ text. ended (form.Store key.0 text.0) text.1

-- `event S "element" "text"`
unfoldable pub event_form : List ℕ → Option Form
event_form bytes = number_at bytes >>= λ session. text_at session.1 >>= λ element. text_at element.1 >>= λ text. ended (form.Event session.0 element.0 text.0) text.1

-- `raw S WORLD "HEX"`
unfoldable pub raw_form : List ℕ → Option Form
raw_form bytes = number_at bytes >>= λ session. world_at session.1 >>= λ world. item_at world.1 >>= λ item. ended (form.Raw session.0 world.0 item.0) item.1

abbrev pub some_sites : List SiteName → Option Form
some_sites [] = None
some_sites (first ∷ others) = Some (form.Order (first ∷ others))

-- `order SITE SITE ..`
unfoldable pub order_form : List ℕ → Option Form
order_form bytes = sites_from [] (slice_split is_blank bytes) >>= some_sites

abbrev pub form_after : Keyword → List ℕ → Option Form
form_after keyword.Sessions bytes = sessions_form bytes
form_after keyword.Steps bytes = steps_form bytes
form_after keyword.Region bytes = region_form bytes
form_after keyword.Store bytes = store_form bytes
form_after keyword.Event bytes = event_form bytes
form_after keyword.Raw bytes = raw_form bytes
form_after keyword.Order bytes = order_form bytes

-- a line without words and a remark are skipped
abbrev pub is_remark : List ℕ → Bool
is_remark [] = true
is_remark (byte ∷ bytes) = byte == 35

-- what a line says, or none where it is of no form
unfoldable pub form_of : List ℕ → Option Form
form_of line = if is_remark (skipped line) then Some form.Skipped else (keyword_of (word_at line).0 >>= λ keyword. form_after keyword (word_at line).1)

abbrev pub AreSites : List SiteName → Type 0
AreSites sites = All (λ (s : SiteName). s.world ≢ Any) sites

-- the texts of a line have a text's bytes, and no world is any
abbrev pub IsForm : Form → Type 0
IsForm (form.Store key text) = IsText key × IsText text
IsForm (form.Event session element text) = IsText element × IsText text
IsForm (form.Raw session world item) = world ≢ Any
IsForm (form.Order sites) = AreSites sites
IsForm _ = Unit {0}
