-- The laws of typed runs.
use Rattle.std.specs.Prelude.{◌≡◌, ◌≢◌, ◌⊎◌, ℕ, false, Option, List, [], ◌∷◌, ◌++◌, map}
use Rattle.std.specs.List.{All, AllByRecursion as Each}
use Rattle.m5_terms.specs.declared.types.World.{World}
use Rattle.m5_terms.specs.declared.types.World.TheVariants.{Any}
use Rattle.m5_terms.specs.declared.ask.Cause.{Cause}
use Rattle.m5_terms.specs.declared.ask.Entry.{Entry}
use Rattle.m5_terms.specs.declared.ask.AskOf.{AskOf}
use Rattle.m5_terms.specs.declared.ask.AnswerOf.{AnswerOf}
use Rattle.m5_terms.specs.declared.ask.AnswerOf.TheVariants as answer
use Rattle.m5_typing.specs.Context.{CellTypes}
use Rattle.m5_typing.specs.Program.{IsProgram}
use Rattle.m5_terms.specs.Machine.{wrong, IsSound}
use Rattle.m5_meaning.specs.Site.{Program, Thread, Site, Item}
use Rattle.m5_meaning.specs.Step.{site_next}
use Rattle.m5_script.specs.Scenario.{Scenario, IsScript}
use Rattle.m5_network.specs.Entries.{Deed, entry_of}
use Rattle.m5_network.specs.Claim.{has_seal, primitive_of, IsAtItsWorld}
use Rattle.m5_network.specs.Opening.{opening}
use Rattle.m5_network.specs.Board.{answer_of}
use Rattle.m5_network.specs.Kinds.{RunOf}
use Rattle.m5_network.specs.Run.{Network, Place, IsSite, NextAsk, Licence, IsLicensed, source_kind, IsAtRest, Step, Run}
use Rattle.m5_site_sound.specs.Settings.{Grows}
use Rattle.m5_sound.specs.Networks.{NetworkTyped, ComesTo, moved}
use Rattle.m5_site_sound.specs.SourceMachine.{IsLawful, source_machine}
use Rattle.m5_sound.specs.Numbers.{BoardNumbered, counts_of}
use Rattle.m5_site_sound.specs.Texts.{SiteHasTexts}
use Rattle.m5_sound.specs.Texts.{DeedHasTexts, ActHasTexts, BoardHasTexts, LinkHasTexts}

-- no lawful answers ever lead a site of a program's opening to where the rules allow nothing
abbrev pub OpeningIsSound : Type 0
OpeningIsSound = (P : Program) (S : Scenario) (s : ℕ) (w : World) → IsProgram P → IsScript S → w ≢ Any → IsSound (source_machine P w) ((opening P S).site s w)

-- a program's opening is typed, with no cells
abbrev pub OpeningIsTyped : Type 0
OpeningIsTyped = (P : Program) (S : Scenario) → IsProgram P → IsScript S → NetworkTyped P (λ s w. []) (opening P S)

-- a run leads from a typed network to a typed one, by cells that at most become more
abbrev pub RunsKeepTypes : Type 0
RunsKeepTypes =
    (P : Program) (S : Scenario) (N M : Network) (ps : List Place) (ds : List (Deed Item)) (T : ℕ → CellTypes) → IsProgram P → Run P S N ps ds M → NetworkTyped P T N →
    (U : ℕ → CellTypes) × ((s : ℕ) → Grows (T s) (U s)) × NetworkTyped P U M

-- whatever a site comes to along a run of a program, all of the network is typed then
abbrev pub AllStaysTyped : Type 0
AllStaysTyped =
    (P : Program) (S : Scenario) (ps : List Place) (ds : List (Deed Item)) (N : Network) (s : ℕ) (w : World) (x : Site) → ComesTo P S ps ds N s w x →
    (T : ℕ → CellTypes) × NetworkTyped P T (moved s w x N)

-- and each thread of the site, were it in front, has a local step or an ask
abbrev pub EachThreadGoesOn : Type 0
EachThreadGoesOn =
    (P : Program) (S : Scenario) (ps : List Place) (ds : List (Deed Item)) (N : Network) (s : ℕ) (w : World) (x : Site) → ComesTo P S ps ds N s w x →
    (before after : List Thread) (t : Thread) → x.threads ≡ before ++ t ∷ after →
    site_next P w (record x { threads = t ∷ (before ++ after) }) ≢ wrong

-- and a site is never wrong
abbrev pub NoSiteGoesWrong : Type 0
NoSiteGoesWrong =
    (P : Program) (S : Scenario) (ps : List Place) (ds : List (Deed Item)) (N : Network) (s : ℕ) (w : World) (x : Site) → ComesTo P S ps ds N s w x →
    site_next P w x ≢ wrong

-- something can always happen: after each run of a program, each site that is not stopped is at rest or makes a deed
abbrev pub SomethingCanHappen : Type 0
SomethingCanHappen =
    (P : Program) (S : Scenario) (ps : List Place) (ds : List (Deed Item)) (N : Network) (s : ℕ) (w : World) → IsProgram P → IsScript S → Run P S (opening P S) ps ds N →
    IsSite S s w → (N.site s w).stopped ≡ false →
    IsAtRest P N s w ⊎ ((cause : Option Cause) × (d : Deed Item) × (M : Network) × Step P S N (record { session = s; world = w; cause = cause }) d M)

-- each entry that shows a primitive's call is at the world of the primitive
abbrev pub PrimitivesAreAtTheirWorlds : Type 0
PrimitivesAreAtTheirWorlds =
    (P : Program) (S : Scenario) (ps : List Place) (ds : List (Deed Item)) (N : Network) → IsProgram P → IsScript S → Run P S (opening P S) ps ds N →
    All (λ (e : Entry). IsAtItsWorld (primitive_of e.act) e.world) (map (entry_of has_seal) ds)

pub record AllTexts (N : Network) (x : Site) (ds : List (Deed Item)) : Type 0 where
  pub site : SiteHasTexts x
  pub board : BoardHasTexts N.board
  pub links : (z : ℕ) (u v : World) → v ≢ Any → LinkHasTexts N.board z u v
  pub deeds : Each DeedHasTexts ds
  pub entries : Each (λ (e : Entry). ActHasTexts e.act) (map (entry_of has_seal) ds)

-- and each text of the site, the board, the links, the deeds and the entries has only bytes of texts, raw items aside
abbrev pub TextsStayTexts : Type 0
TextsStayTexts =
    (P : Program) (S : Scenario) (ps : List Place) (ds : List (Deed Item)) (N : Network) (s : ℕ) (w : World) (x : Site) → ComesTo P S ps ds N s w x → AllTexts N x ds

-- what licenses the stops of a program's sites under a script
abbrev pub Stops : Type 1
Stops = Program → Scenario → Licence

-- the licences of the script's numbers
abbrev pub own_stops : Stops
own_stops P S = λ s w cause x. IsLicensed P S w cause x

-- after each run of a program, whatever licenses its stops, the board names handlers that the sites have, and no element's twice
abbrev pub NumbersStayRight : Stops → Type 0
NumbersStayRight licensed =
    (P : Program) (S : Scenario) (ps : List Place) (ds : List (Deed Item)) (N : Network) → IsProgram P → IsScript S → RunOf (source_kind P (licensed P S)) S.sessions (opening P S) ps ds N →
    BoardNumbered (counts_of N) N.board

-- and what the board answers to a site's next ask is lawful
abbrev pub AnswersAreLawful : Stops → Type 0
AnswersAreLawful licensed =
    (P : Program) (S : Scenario) (ps : List Place) (ds : List (Deed Item)) (N : Network) (s : ℕ) (w : World) (q : AskOf Item) (resume : AnswerOf Item → Option Site) → IsProgram P → IsScript S →
    RunOf (source_kind P (licensed P S)) S.sessions (opening P S) ps ds N → IsSite S s w → (a : NextAsk P w (N.site s w) q resume) → (answer_of N.board s w q).reply ≢ answer.Nothing →
    IsLawful P w a.waiting (answer_of N.board s w q).reply
