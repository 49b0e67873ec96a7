-- What a turn leaves is closed.
use Rattle.std.proofs.Common.{◌≡◌, ℕ, Bool, true, false, [], Option, Some, None, sym, ap, subst, ◌∙◌, if◌then◌else◌}
use Rattle.std.specs.Prelude.{Result, Ok, Err, IfOk}
use Rattle.m5_terms.specs.declared.types.World.{World}
use Rattle.m5_terms.specs.declared.types.World.TheVariants.{Any}
use Rattle.m5_terms.specs.Machine.{asks}
use Rattle.m5_terms.specs.declared.ask.AskOf.{AskOf}
use Rattle.m5_terms.specs.declared.ask.AskOf.TheVariants as ask
use Rattle.m5_terms.specs.declared.ask.AnswerOf.{AnswerOf}
use Rattle.m5_terms.specs.declared.ask.AnswerOf.TheVariants as answer
use Rattle.m5_meaning.specs.Site.{Program, Site, Item, raw}
use Rattle.m5_meaning.specs.Step.{after_take, site_next}
use Rattle.m5_script.specs.Scenario.{Scenario}
use Rattle.m5_network.specs.Board.{Board, answer_of}
use Rattle.m5_source_site.specs.ClosedSite.{IsClosedSite, IsClosedNext}
use Rattle.m5_source_site.specs.Waiting.{resumed}
use Rattle.m5_source_site.specs.declared.resume.Wait.{Wait}
use Rattle.m5_sites.specs.Sites.{kept}
use Rattle.m5_sites.specs.ClosedSites.{IsClosedBoard, IsClosedLeft}
use Rattle.m5_reference.specs.ClosedTurn.{IsClosedTurned}
use Rattle.m5_network.specs.FirstMoment.{AsksFree}
use Rattle.m5_reference.specs.Turning.{IsAskTurned}
use Rattle.m5_reference.specs.declared.limits.Limits.{Limits}
use Rattle.m5_reference.specs.declared.turn.Turned.{Turned}
use Rattle.m5_reference.specs.declared.turn.Turned.TheVariants as turned
use Rattle.m5_network.proofs.Asking.{looks}
use Rattle.m5_sites.proofs.Asking.{same-wait}
use Rattle.m5_sites.proofs.Silence.{only-look}
use Rattle.m5_sites.proofs.ClosedBoard.{answer-closed}

-- some scenario with these numbers
abbrev pub with_limits : Limits → Scenario
with_limits l = record { sessions = 0; steps = l.steps; region = l.region; pairs = []; events = []; raws = []; order = [] }

by-stop : (b : Bool) (t : Site) → IsClosedSite t → IsClosedLeft (if b then None else Some t)
by-stop true t h = tt
by-stop false t h = h

kept-closed : (t : Site) → IsClosedSite t → IsClosedLeft (kept t)
kept-closed t h = by-stop t.stopped t h

asks-closed : (P : Program) (S : Scenario) (s : ℕ) (w : World) (x y : Site) (k : Wait) (q : AskOf Item) (B : Board Item) (t : Turned) → IsClosedNext (asks q (resumed P w y k)) → AsksFree P S w x q (resumed P w y k) → IsClosedBoard B → IsAskTurned y q (resumed P w y k) (answer_of B s w q) t → IsClosedTurned t
asks-closed P S s w x y k q B (turned.Acts left shown) c f d h =
    subst IsClosedLeft (sym h.left_is) (kept-closed h.site (c.1 (answer_of B s w q).reply h.site (answer-closed B s w q c.0 d).reply_ h.resumed))
asks-closed P S s w x y k q B (turned.Rests z) c f d h =
    let look : q ≡ ask.Take = only-look B s w q h.0 in
    let asking : site_next P w f.waiting ≡ asks ask.Take (resumed P w y k) = f.asking ∙ ap (λ (p : AskOf Item). asks p (resumed P w y k)) look in
    let after : resumed P w y k ≡ after_take w f.waiting = looks P w f.waiting (resumed P w y k) asking in
    let same : z ≡ f.waiting = h.1 ∙ same-wait P w y f.waiting k after in
    let back : resumed P w y k (answer.Message Any (raw [])) ≡ Some f.waiting = ap (λ (g : AnswerOf Item → Option Site). g (answer.Message Any (raw []))) after in
    subst IsClosedSite (sym same) (c.1 (answer.Message Any (raw [])) f.waiting tt back)
asks-closed P S s w x y k q B turned.Wrong c f d h = tt

pub closed-answers : {E : Type 0} (r : Result Turned E) (P : Program) (S : Scenario) (s : ℕ) (w : World) (x y : Site) (k : Wait) (q : AskOf Item) (B : Board Item) → IsClosedNext (asks q (resumed P w y k)) → AsksFree P S w x q (resumed P w y k) → IsClosedBoard B → IfOk r (IsAskTurned y q (resumed P w y k) (answer_of B s w q)) → IfOk r IsClosedTurned
closed-answers (Ok t) P S s w x y k q B c f d h = asks-closed P S s w x y k q B t c f d h
closed-answers (Err z) P S s w x y k q B c f d h = tt

pub closed-boards : {E : Type 0} (r : Result Turned E) (P : Program) (s : ℕ) (w : World) (y : Site) (k : Wait) (q : AskOf Item) (B C : Board Item) → IsClosedNext (asks q (resumed P w y k)) → IsClosedBoard B → IfOk r (λ t. C ≡ (answer_of B s w q).board) → IfOk r (λ t. IsClosedBoard C)
closed-boards (Ok t) P s w y k q B C c d h = subst IsClosedBoard (sym h) (answer-closed B s w q c.0 d).board_
closed-boards (Err z) P s w y k q B C c d h = tt
