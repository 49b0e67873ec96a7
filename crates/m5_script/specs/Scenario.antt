-- What a script says: how many sessions, the numbers for every site, and what the board opens with.
use Rattle.std.specs.Prelude.{◌≡◌, ◌≢◌, ℕ, ◌≤◌, Bool, false, List, [], length, take}
use Rattle.std.specs.List.{All, AllPairs}
use Rattle.std.specs.Str.{bytes_eq}
use Rattle.m5_terms.specs.Seal.{seal_bytes}
use Rattle.m5_terms.specs.Text.{IsText}
use Rattle.m5_terms.specs.declared.types.World.TheVariants.{Any}
use Rattle.m5_script.specs.declared.items.TextPair.{TextPair}
use Rattle.m5_script.specs.declared.items.PageEvent.{PageEvent}
use Rattle.m5_script.specs.declared.items.RawItem.{RawItem}
use Rattle.m5_script.specs.declared.items.SiteName.{SiteName}

-- order names the sites that have the first turns
pub record Scenario : Type 0 where
  pub sessions : ℕ
  pub steps : ℕ
  pub region : ℕ
  pub pairs : List TextPair
  pub events : List PageEvent
  pub raws : List RawItem
  pub order : List SiteName

-- what an empty script says: one session, 50,000 steps and a region of 65,536 for every site
abbrev pub silent : Scenario
silent = record { sessions = 1; steps = 50000; region = 65536; pairs = []; events = []; raws = []; order = [] }

-- sessions are numbered from 1
abbrev pub IsThere : ℕ → ℕ → Type 0
IsThere sessions session = (1 ≤ session) × (session ≤ sessions)

abbrev pub same_key : List ℕ → TextPair → Bool
same_key key pair = bytes_eq pair.key key

-- the first eight bytes are the session's seal
abbrev pub is_sealed : ℕ → List ℕ → Bool
is_sealed session bytes = bytes_eq (take 8 bytes) (seal_bytes session)

abbrev pub IsPair : TextPair → Type 0
IsPair pair = IsText pair.key × IsText pair.text

pub record IsEvent (sessions : ℕ) (event : PageEvent) : Type 0 where
  pub there : IsThere sessions event.session
  pub element : IsText event.element
  pub text : IsText event.text

pub record IsRaw (sessions : ℕ) (item : RawItem) : Type 0 where
  pub there : IsThere sessions item.session
  pub world : item.world ≢ Any
  pub short : length item.bytes ≤ 4096
  pub unsealed : is_sealed item.session item.bytes ≡ false

pub record IsSite (sessions : ℕ) (site : SiteName) : Type 0 where
  pub there : IsThere sessions site.session
  pub world : site.world ≢ Any

-- what the lists of a script of so many sessions hold, and how much at most
pub record AreItems (sessions : ℕ) (ps : List TextPair) (es : List PageEvent) (rs : List RawItem) (sites : List SiteName) : Type 0 where
  pub texts : All IsPair ps
  pub keys : AllPairs (λ first second. same_key second.key first ≡ false) ps
  pub events : All (IsEvent sessions) es
  pub few_events : length es ≤ 4096
  pub raws : All (IsRaw sessions) rs
  pub few_raws : length rs ≤ 1024
  pub order : All (IsSite sessions) sites
  pub few_sites : length sites ≤ 4096

-- each number within its limit, and the items as above
pub record IsScript (script : Scenario) : Type 0 where
  pub sessions : (1 ≤ script.sessions) × (script.sessions ≤ 32)
  pub steps : (1 ≤ script.steps) × (script.steps ≤ 200000)
  pub region : (1 ≤ script.region) × (script.region ≤ 262144)
  pub items : AreItems script.sessions script.pairs script.events script.raws script.order
