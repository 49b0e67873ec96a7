-- What the lines of a script make of it one after another, and the fault of a line.
use Rattle.std.specs.Prelude.{◌≡◌, ℕ, ◌≤◌, Bool, true, false, not, ◌||◌, ◌&&◌, nat_le, nat_lt, [], ◌∷◌, ◌++◌, length, Option, Some, None, is_some, IfSome, if◌then◌else◌}
use Rattle.std.specs.Option.{unwrap_or}
use Rattle.std.specs.List.{list_any, list_all}
use Rattle.m5_script.specs.declared.items.SiteName.{SiteName}
use Rattle.m5_script.specs.declared.form.Form.{Form}
use Rattle.m5_script.specs.declared.form.Form.TheVariants as form
use Rattle.m5_script.specs.declared.reading.LineKind.{LineKind}
use Rattle.m5_script.specs.declared.reading.LineKind.TheVariants as kind
use Rattle.m5_script.specs.declared.reading.Reading.{Reading}
use Rattle.m5_script.specs.Scenario.{Scenario, AreItems, same_key, is_sealed}

-- from 1 to a limit
abbrev pub within : ℕ → ℕ → Bool
within limit number = nat_le 1 number && nat_le number limit

-- `sessions` comes first
abbrev pub is_late : Reading → Form → Bool
is_late r (form.Sessions number) = r.begun
is_late r _ = false

-- at most one `steps`, `region` and `order`, and a key is stored once
abbrev pub is_again : Reading → Form → Bool
is_again r (form.Steps number) = is_some r.steps
is_again r (form.Region number) = is_some r.region
is_again r (form.Store key text) = list_any (same_key key) r.pairs
is_again r (form.Order sites) = nat_lt 0 (length r.order)
is_again r _ = false

abbrev pub names_session : ℕ → SiteName → Bool
names_session sessions site = within sessions site.session

-- a number past its limit, a session that is not there, or a raw item that is too long
abbrev pub is_beyond : Reading → Form → Bool
is_beyond r (form.Sessions number) = not (within 32 number)
is_beyond r (form.Steps number) = not (within 200000 number)
is_beyond r (form.Region number) = not (within 262144 number)
is_beyond r (form.Event session element text) = not (within r.sessions session)
is_beyond r (form.Raw session world item) = not (within r.sessions session) || nat_lt 4096 (length item)
is_beyond r (form.Order sites) = not (list_all (names_session r.sessions) sites)
is_beyond r _ = false

-- a raw item does not begin with its session's seal
abbrev pub is_forged : Form → Bool
is_forged (form.Raw session world item) = is_sealed session item
is_forged _ = false

-- more items than there is room for
abbrev pub is_many : Reading → Form → Bool
is_many r (form.Store key text) = nat_le 1024 (length r.pairs)
is_many r (form.Event session element text) = nat_le 4096 (length r.events)
is_many r (form.Raw session world item) = nat_le 1024 (length r.raws)
is_many r (form.Order sites) = nat_lt 4096 (length sites)
is_many r _ = false

-- the first of the kinds that is met
abbrev pub first_fault : Bool → Bool → Bool → Bool → Bool → Option LineKind
first_fault late again beyond forged many =
    if late then Some kind.Late else (if again then Some kind.Again else (if beyond then Some kind.Range else (if forged then Some kind.Sealed else (if many then Some kind.Many else None))))

unfoldable pub fault_of : Reading → Form → Option LineKind
fault_of r f = first_fault (is_late r f) (is_again r f) (is_beyond r f) (is_forged f) (is_many r f)

-- before the first line there is one session
abbrev pub fresh : Reading
fresh = record { begun = false; sessions = 1; steps = None; region = None; pairs = []; events = []; raws = []; order = [] }

-- what a line without a fault adds
unfoldable pub next : Reading → Form → Reading
next r form.Skipped = r
next r (form.Sessions number) = record r { begun = true; sessions = number }
next r (form.Steps number) = record r { begun = true; steps = Some number }
next r (form.Region number) = record r { begun = true; region = Some number }
next r (form.Store key text) = record r { begun = true; pairs = r.pairs ++ record { key = key; text = text } ∷ [] }
next r (form.Event session element text) = record r { begun = true; events = r.events ++ record { session = session; element = element; text = text } ∷ [] }
next r (form.Raw session world item) = record r { begun = true; raws = r.raws ++ record { session = session; world = world; bytes = item } ∷ [] }
next r (form.Order sites) = record r { begun = true; order = sites }

-- the script at the end, with 50,000 steps and a region of 65,536 where no line says another number
abbrev pub finished : Reading → Scenario
finished r = record { sessions = r.sessions; steps = unwrap_or r.steps 50000; region = unwrap_or r.region 65536; pairs = r.pairs; events = r.events; raws = r.raws; order = r.order }

-- what holds of a reading: numbers within their limits, and until a line has come nothing is there
pub record IsReading (r : Reading) : Type 0 where
  pub sessions : (1 ≤ r.sessions) × (r.sessions ≤ 32)
  pub steps : IfSome r.steps (λ n. (1 ≤ n) × (n ≤ 200000))
  pub region : IfSome r.region (λ n. (1 ≤ n) × (n ≤ 262144))
  pub items : AreItems r.sessions r.pairs r.events r.raws r.order
  pub empty : r.begun ≡ false → (length r.events ≡ 0) × (length r.raws ≡ 0) × (length r.order ≡ 0)
