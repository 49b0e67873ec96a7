-- Running all sites in their order: what stands before each, and what their end says of the last line.
use Rattle.std.proofs.Common.{◌≡◌, ℕ, ◌+◌, ◌<◌, ◌≤◌, Bool, true, false, List, length, get_or, Option, None, refl, sym, ap, subst, ◌∙◌, arith}
use Rattle.m5_terms.specs.declared.types.World.{World}
use Rattle.m5_meaning.specs.Site.{Program, Site, Item}
use Rattle.m5_script.specs.Scenario.{Scenario}
use Rattle.m5_script.specs.declared.items.SiteName.{SiteName}
use Rattle.m5_network.specs.Entries.{Deed}
use Rattle.m5_network.specs.Kinds.{IsAmong}
use Rattle.m5_network.specs.Plain.{sites_of}
use Rattle.m5_network.specs.Run.{Network, IsSite}
use Rattle.m5_board.specs.Boards.{board_of}
use Rattle.m5_sites.specs.Sites.{kept, site_at, with_site_at}
use Rattle.m5_replay.specs.Fitting.{due_line, SettlesAll, ExceedsAt, ExceedsAmong, IsLast}
use Rattle.m5_replay.specs.code.Running.{StandsAt, RunAll, RunsOn, SettlesEach}
use Rattle.m5_replay.specs.declared.running.Running.{Running}
use Rattle.m5_replay.proofs.Lasts.{HasRun, none-run, run-next, run-whole, exceeds-at, finished-from_quiet, quiet-from_finished}
use Rattle.m5_replay.proofs.Numbered.{number, number-at, later-stays, among-at}

-- the first i sites have run, and those after them still stand
pub record Ahead (P : Program) (S : Scenario) (N : Network) (xs : List SiteName) (i : ℕ) (quiet : Bool) (old now : Running) : Type 0 where
  pub has_run : HasRun P S N old.weight xs i quiet now.weight
  pub board : quiet ≡ true → board_of now.board ≡ N.board
  pub later : (s : ℕ) (w : World) → IsSite S s w → 3 + i ≤ number s w → site_at now.sites.items s w ≡ kept (N.site s w)

pub none-ahead : (P : Program) (S : Scenario) (N : Network) (xs : List SiteName) (old : Running) → board_of old.board ≡ N.board → ((s : ℕ) (w : World) → IsSite S s w → site_at old.sites.items s w ≡ kept (N.site s w)) → Ahead P S N xs 0 true old old
none-ahead P S N xs old e h = record { has_run = none-run P S N old.weight xs; board = λ q. e; later = λ s w i l. h s w i }

numbered : (n i : ℕ) (d : SiteName) (xs : List SiteName) → xs ≡ sites_of n → i < length xs → number (get_or xs i d).session (get_or xs i d).world ≡ 3 + i
numbered n i d xs e = subst (λ (ys : List SiteName). i < length ys → number (get_or ys i d).session (get_or ys i d).world ≡ 3 + i) (sym e) (number-at n i d)

pub among : (n i : ℕ) (d : SiteName) (xs : List SiteName) → xs ≡ sites_of n → i < length xs → IsAmong n (get_or xs i d).session (get_or xs i d).world
among n i d xs e = subst (λ (ys : List SiteName). i < length ys → IsAmong n (get_or ys i d).session (get_or ys i d).world) (sym e) (among-at n i d)

pub stands-next : (P : Program) (S : Scenario) (N : Network) (n : ℕ) (xs : List SiteName) (i : ℕ) (d : SiteName) (quiet : Bool) (old now : Running) → xs ≡ sites_of n → S.sessions ≡ n → i < length xs → Ahead P S N xs i quiet old now → site_at now.sites.items (get_or xs i d).session (get_or xs i d).world ≡ kept (N.site (get_or xs i d).session (get_or xs i d).world)
stands-next P S N n xs i d quiet old now e k l h =
    let site : IsSite S (get_or xs i d).session (get_or xs i d).world = subst (λ (m : ℕ). IsAmong m (get_or xs i d).session (get_or xs i d).world) (sym k) (among n i d xs e l) in
    h.later (get_or xs i d).session (get_or xs i d).world site (omega (arith, numbered n i d xs e l))

pub next-ahead : (P : Program) (S : Scenario) (N : Network) (n : ℕ) (xs : List SiteName) (i : ℕ) (d : SiteName) (quiet now : Bool) (old mid new : Running) → xs ≡ sites_of n → i < length xs → Ahead P S N xs i quiet old mid → RunsOn P S N (get_or xs i d) quiet now mid new → site_at new.sites.items ≡ with_site_at (get_or xs i d).session (get_or xs i d).world None (site_at mid.sites.items) → Ahead P S N xs (i + 1) now old new
next-ahead P S N n xs i d quiet now old mid new e l h r rows =
    let x : SiteName = get_or xs i d in
    let k : number x.session x.world ≡ 3 + i = numbered n i d xs e l in
    record {
      has_run = run-next P S N old.weight xs i d quiet now mid.weight new.weight l h.has_run r.settles r.rests r.busy;
      board = r.board;
      later = λ s w j m. ap (λ (f : ℕ → World → Option Site). f s w) rows ∙ (later-stays x.session x.world (site_at mid.sites.items) s w (omega (arith, k, m)) ∙ h.later s w j (omega (arith, m)));
    }

same-sites : (S : Scenario) (n : ℕ) (xs : List SiteName) → xs ≡ sites_of n → S.sessions ≡ n → xs ≡ sites_of S.sessions
same-sites S n xs e k = e ∙ ap sites_of (sym k)

pub all-ahead : (P : Program) (S : Scenario) (N : Network) (n : ℕ) (xs : List SiteName) (i : ℕ) (quiet : Bool) (old new : Running) → xs ≡ sites_of n → S.sessions ≡ n → length xs ≤ i → Ahead P S N xs i quiet old new → RunAll P S N (sites_of S.sessions) quiet old new
all-ahead P S N n xs i quiet old new e k l h =
    let r = run-whole P S N old.weight xs i quiet new.weight l h.has_run in
    subst (λ (ys : List SiteName). RunAll P S N ys quiet old new) (same-sites S n xs e k) (record { settles = r.0; rests = r.1; busy = r.2 })

pub beyond-next : (P : Program) (S : Scenario) (N : Network) (n : ℕ) (xs : List SiteName) (i : ℕ) (d : SiteName) (quiet : Bool) (old now : Running) → xs ≡ sites_of n → S.sessions ≡ n → i < length xs → Ahead P S N xs i quiet old now → ExceedsAt P S N now.weight (get_or xs i d) → ExceedsAmong P S N old.weight (sites_of S.sessions)
beyond-next P S N n xs i d quiet old now e k l h x =
    subst (ExceedsAmong P S N old.weight) (same-sites S n xs e k) (exceeds-at P S N old.weight xs i d now.weight l h.has_run.settles x)

-- all sites have been run
pub settles-each : (P : Program) (S : Scenario) (N : Network) (before : ℕ) (ds : List (Deed Item)) (quiet : Bool) (old new : Running) → StandsAt S old N before ds → RunAll P S N (sites_of S.sessions) quiet old new → SettlesEach P S N before
settles-each P S N before ds quiet old new h r = (new.weight, subst (λ (n : ℕ). SettlesAll P S N n (sites_of S.sessions) new.weight) h.weighs r.settles)

-- some site is not at rest
pub not-last : (P : Program) (S : Scenario) (N : Network) (ds : List (Deed Item)) (line : List ℕ) (old new : Running) → RunAll P S N (sites_of S.sessions) false old new → IsLast P S N ds line → ⊥
not-last P S N ds line old new r last = r.busy refl (quiet-from_finished P S N last.finished)

pub is-last : (P : Program) (S : Scenario) (N : Network) (ds : List (Deed Item)) (line : List ℕ) (old new : Running) → RunAll P S N (sites_of S.sessions) true old new → line ≡ due_line ds → IsLast P S N ds line
is-last P S N ds line old new r due = record { finished = finished-from_quiet P S N (r.rests refl); due = due }
