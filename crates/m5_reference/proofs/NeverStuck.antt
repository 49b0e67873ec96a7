-- No site is stuck after a run of a program, and turns at first moments go on with a run.
use Rattle.std.proofs.Common.{◌≡◌, ◌≢◌, inl, inr, ℕ, Option, None, Some, List, [], ◌++◌, refl, sym, ◌∙◌}
use Rattle.std.specs.List.{AllByRecursion as Each}
use Rattle.m5_terms.specs.declared.types.World.{World}
use Rattle.m5_terms.specs.declared.ask.AskOf.{AskOf}
use Rattle.m5_terms.specs.declared.ask.AnswerOf.{AnswerOf}
use Rattle.m5_terms.specs.declared.ask.AnswerOf.TheVariants as answer
use Rattle.m5_typing.specs.Program.{IsProgram}
use Rattle.m5_meaning.specs.Site.{Program, Site, Item}
use Rattle.m5_script.specs.Scenario.{Scenario, IsScript}
use Rattle.m5_script.specs.declared.items.SiteName.{SiteName}
use Rattle.m5_network.specs.Board.{answer_of}
use Rattle.m5_network.specs.Entries.{Deed}
use Rattle.m5_network.specs.Opening.{opening}
use Rattle.m5_network.specs.Plain.{Turns, joined}
use Rattle.m5_network.specs.Run.{Network, Place, IsSite, NextAsk, source, Run}
use Rattle.m5_network.proofs.Runs.{compose}
use Rattle.m5_terms.proofs.SiteWorlds.{is-real}
use Rattle.m5_sound.proofs.Networks.{RunTyped, Asked, Resumed, run-typed, opening-is-typed, next-asked, asked-resumed, no-wrong}
use Rattle.m5_reference.specs.Reference.{FirstTurn}
use Rattle.m5_reference.specs.Turning.{IsStuck}
use Rattle.m5_reference.proofs.FirstTurns.{first-turn-is-turn, first-turns-are-turns}
use Rattle.m5_network.specs.Laws.{IsSiteNamed, places_shown}
use Rattle.m5_network.proofs.Asking.{source-apart}
use Rattle.m5_network.proofs.PlainRuns.{turn-run, turns-run}

resumes : (o : Option Site) (x : Site) → o ≡ Some x → o ≢ None
resumes o x e = λ n. let k : Some x ≡ None = sym e ∙ n in cc

-- an ask that is answered by something resumes the site
ask-resumes : (P : Program) (S : Scenario) (ps : List Place) (ds : List (Deed Item)) (N : Network) (s : ℕ) (w : World) (q : AskOf Item) (resume : AnswerOf Item → Option Site) → IsProgram P → IsScript S → Run P S (opening P S) ps ds N → IsSite S s w → NextAsk P w (N.site s w) q resume → (answer_of N.board s w q).reply ≢ answer.Nothing → resume (answer_of N.board s w q).reply ≢ None
ask-resumes P S ps ds N s w q resume p h r i a told =
    let t : RunTyped P (λ z v. []) ds N = run-typed P S (opening P S) N ps ds (λ z v. []) p r (opening-is-typed P S p h) in
    let k : Asked P t.to N s w q resume = next-asked P t.to N s w q resume p (is-real w i.world) t.typed a in
    let y : Resumed P k.cells w resume (answer_of N.board s w q).reply = asked-resumed P t.to N s w q resume k told in
    resumes (resume (answer_of N.board s w q).reply) y.site y.is

-- after a run of a program no site is stuck
pub never-stuck : (P : Program) (S : Scenario) (ps : List Place) (ds : List (Deed Item)) (N : Network) (s : ℕ) (w : World) → IsProgram P → IsScript S → Run P S (opening P S) ps ds N → IsSite S s w → IsStuck P N s w → ⊥
never-stuck P S ps ds N s w p h r i k =
    elim (k.stuck) [
      | inl e ↦ no-wrong P S ps ds N s w k.at (record { program = p; script = h; run = r; site = i; steps = k.steps; comes = k.comes }) e
      | inr a ↦ ask-resumes P S ps ds N s w a.0 a.1 p h r i (record { steps = k.steps; waiting = k.at; comes = k.comes; asking = a.2 }) a.3 a.4
    ]

-- some run leads from the opening to the network
abbrev pub Reached : Program → Scenario → Network → Type 0
Reached P S N = (ps : List Place) × (ds : List (Deed Item)) × Run P S (opening P S) ps ds N

-- the opening is reached by no place
pub reached-first : (P : Program) (S : Scenario) → Reached P S (opening P S)
reached-first P S = ([], [], refl)

pub reached-not-stuck : (P : Program) (S : Scenario) (N : Network) (s : ℕ) (w : World) → IsProgram P → IsScript S → Reached P S N → IsSite S s w → IsStuck P N s w → ⊥
reached-not-stuck P S N s w p h r i k = never-stuck P S r.0 r.1 N s w p h r.2 i k

-- turns at first moments lead on
pub reached-on : (P : Program) (S : Scenario) (N : Network) (x : SiteName) (ds : List (Deed Item)) (M : Network) → Reached P S N → IsSite S x.session x.world → FirstTurn P S N x ds M → Reached P S M
reached-on P S N x ds M r i t = (r.0 ++ places_shown (source P S) ds, r.1 ++ ds, compose (source P S) S.sessions (opening P S) N M r.0 (places_shown (source P S) ds) r.1 ds r.2 (turn-run (source P S) (source-apart P S) S.sessions N M x ds i (first-turn-is-turn P S N x ds M t)))

pub reached-turns : (P : Program) (S : Scenario) (N : Network) (xs : List SiteName) (dss : List (List (Deed Item))) (M : Network) → Reached P S N → Each (IsSiteNamed S.sessions) xs → Turns (FirstTurn P S) N xs dss M → Reached P S M
reached-turns P S N xs dss M r i t =
    let run : Run P S N (places_shown (source P S) (joined dss)) (joined dss) M = turns-run (source P S) (source-apart P S) S.sessions N M xs dss i (first-turns-are-turns P S N xs dss M t) in
    (r.0 ++ places_shown (source P S) (joined dss), r.1 ++ joined dss, compose (source P S) S.sessions (opening P S) N M r.0 (places_shown (source P S) (joined dss)) r.1 (joined dss) r.2 run)
