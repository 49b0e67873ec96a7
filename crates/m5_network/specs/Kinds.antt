-- Kinds of sites, and runs of a network of one kind's sites by a list of places.
use Rattle.std.specs.Prelude.{◌≡◌, ◌≢◌, ◌⊎◌, ℕ, ◌≤◌, Bool, true, false, List, [], ◌∷◌, Option, Some, None, Contains}
use Rattle.m5_terms.specs.Worlds.{site_worlds}
use Rattle.m5_terms.specs.Machine.{Next, asks, Comes}
use Rattle.m5_terms.specs.declared.ask.AskOf.{AskOf}
use Rattle.m5_terms.specs.declared.ask.AskOf.TheVariants as ask
use Rattle.m5_terms.specs.declared.ask.AnswerOf.{AnswerOf}
use Rattle.m5_terms.specs.declared.ask.AnswerOf.TheVariants as answer
use Rattle.m5_terms.specs.declared.ask.Cause.{Cause}
use Rattle.m5_terms.specs.declared.types.World.{World}
use Rattle.m5_network.specs.Board.{Board, answer_of, at_session, at_world}
use Rattle.m5_network.specs.Entries.{Deed}

-- what each state does next, by asks and answers over the items
abbrev pub Acting : Type 0 → Type 0 → Type 0
Acting State Item = State → Next State (AskOf Item) (AnswerOf Item)

-- a session's site at a world: where it opens, what it does next, which stops its state licenses, whether it is stopped and
-- what a stop makes of it; and the items of its links: raw bytes as one, and whether one has the seal of a session
pub record Kind : Type 1 where
  pub Item : Type 0
  pub State : Type 0
  pub opens : ℕ → World → State
  pub next : ℕ → World → Acting State Item
  pub licensed : ℕ → World → Cause → State → Type 0
  pub is_stopped : State → Bool
  pub halted : State → State
  pub raw : List ℕ → Item
  pub has_seal : ℕ → Item → Bool

-- all sites and the board
pub record NetworkOf (State Item : Type 0) : Type 0 where
  pub site : ℕ → World → State
  pub board : Board Item

-- a site, or a site with the cause by which the run stops it
pub record Place : Type 0 where
  pub session : ℕ
  pub world : World
  pub cause : Option Cause

abbrev pub NetOf : Kind → Type 0
NetOf K = NetworkOf K.State K.Item

abbrev pub with_site : {State Item : Type 0} → ℕ → World → State → Board Item → NetworkOf State Item → NetworkOf State Item
with_site s w x b N = record { site = at_session s (at_world w x (N.site s)) N.site; board = b }

-- the site is one of the run's
pub record IsAmong (sessions s : ℕ) (w : World) : Type 0 where
  pub from_one : 1 ≤ s
  pub to_last : s ≤ sessions
  pub world : Contains site_worlds w

-- the site comes by local steps to its next ask
pub record ComesToAsk {State Item : Type 0} (next : Acting State Item) (from : State) (query : AskOf Item) (resume : AnswerOf Item → Option State) : Type 0 where
  pub steps : ℕ
  pub waiting : State
  pub comes : Comes next steps from waiting
  pub asking : next waiting ≡ asks query resume

-- the site's next ask gets the board's answer, which is something
pub record IsAnswered {State Item : Type 0} (acts : Acting State Item) (N : NetworkOf State Item) (s : ℕ) (w : World) (d : Deed Item) (M : NetworkOf State Item) : Type 0 where
  pub resume : AnswerOf Item → Option State
  pub next : ComesToAsk acts (N.site s w) d.query resume
  pub session : d.session ≡ s
  pub world : d.world ≡ w
  pub reply : d.reply ≡ (answer_of N.board s w d.query).reply
  pub told : d.reply ≢ answer.Nothing
  pub site : State
  pub resumed : resume d.reply ≡ Some site
  pub after : M ≡ with_site s w site (answer_of N.board s w d.query).board N

-- the site's state licenses the stop, and the board stays
pub record IsStoppedBy {State Item : Type 0} (licensed : State → Type 0) (halted : State → State) (N : NetworkOf State Item) (s : ℕ) (w : World) (cause : Cause) (d : Deed Item) (M : NetworkOf State Item) : Type 0 where
  pub licence : licensed (N.site s w)
  pub deed : d ≡ record { session = s; world = w; query = ask.Stop cause; reply = answer.Done }
  pub after : M ≡ with_site s w (halted (N.site s w)) N.board N

abbrev pub MakesDeed : (K : Kind) → NetOf K → Place → Deed K.Item → NetOf K → Option Cause → Type 0
MakesDeed K N p d M None = IsAnswered (K.next p.session p.world) N p.session p.world d M
MakesDeed K N p d M (Some cause) = IsStoppedBy (K.licensed p.session p.world cause) K.halted N p.session p.world cause d M

-- a place of a site that is not stopped makes one deed
pub record StepOf (K : Kind) (sessions : ℕ) (N : NetOf K) (p : Place) (d : Deed K.Item) (M : NetOf K) : Type 0 where
  pub site : IsAmong sessions p.session p.world
  pub runs : K.is_stopped (N.site p.session p.world) ≡ false
  pub makes : MakesDeed K N p d M p.cause

-- from N the places make the deeds and lead to M
abbrev pub RunOf : (K : Kind) → ℕ → NetOf K → List Place → List (Deed K.Item) → NetOf K → Type 0
RunOf K sessions N [] [] M = M ≡ N
RunOf K sessions N (p ∷ ps) (d ∷ ds) M = (L : NetOf K) × StepOf K sessions N p d L × RunOf K sessions L ps ds M
RunOf K sessions N [] (d ∷ ds) M = ⊥
RunOf K sessions N (p ∷ ps) [] M = ⊥

-- the site's next ask is a look, and the board has nothing for it
pub record Rests {State Item : Type 0} (acts : Acting State Item) (N : NetworkOf State Item) (s : ℕ) (w : World) : Type 0 where
  pub resume : AnswerOf Item → Option State
  pub next : ComesToAsk acts (N.site s w) ask.Take resume
  pub nothing_there : (answer_of N.board s w ask.Take).reply ≡ answer.Nothing

-- each site is at rest or stopped
abbrev pub IsOver : (K : Kind) → ℕ → NetOf K → Type 0
IsOver K sessions N = (s : ℕ) (w : World) → IsAmong sessions s w → Rests (K.next s w) N s w ⊎ (K.is_stopped (N.site s w) ≡ true)
