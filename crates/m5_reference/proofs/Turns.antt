-- A turn from its next moment.
use Rattle.std.proofs.Common.{◌≡◌, inl, inr, ℕ, Bool, true, false, Some, None, refl, sym, ap, subst, ◌∙◌, if◌then◌else◌}
use Rattle.std.specs.Prelude.{Result, Ok, Err, IfOk}
use Rattle.m5_terms.specs.declared.types.World.{World}
use Rattle.m5_terms.specs.declared.ask.Act.{Act}
use Rattle.m5_terms.specs.declared.ask.Act.TheVariants as act
use Rattle.m5_terms.specs.declared.ask.Cause.{Cause}
use Rattle.m5_terms.specs.declared.ask.Entry.{Entry}
use Rattle.m5_terms.specs.Machine.{asks}
use Rattle.m5_terms.specs.declared.ask.AskOf.{AskOf}
use Rattle.m5_terms.specs.declared.ask.AskOf.TheVariants as ask
use Rattle.m5_terms.specs.declared.ask.AnswerOf.TheVariants as answer
use Rattle.m5_meaning.specs.Site.{Program, Site, Item}
use Rattle.m5_meaning.specs.Step.{site_next}
use Rattle.m5_script.specs.Scenario.{Scenario}
use Rattle.m5_network.specs.Board.{Board, answer_of}
use Rattle.m5_network.specs.Run.{Network, with_site}
use Rattle.m5_source_site.specs.Waiting.{resumed}
use Rattle.m5_source_site.specs.declared.resume.Wait.{Wait}
use Rattle.m5_board.specs.Boards.{BoardLists, board_of}
use Rattle.m5_sites.specs.Sites.{kept}
use Rattle.m5_reference.specs.Ahead.{IsAhead}
use Rattle.m5_network.specs.FirstMoment.{ComesFree, StopsFirst, AsksFree, GoesWrong}
use Rattle.m5_reference.specs.Turning.{MakesDeed, IsStuck, IsTurned, IsAskTurned}
use Rattle.m5_reference.specs.declared.turn.Turned.{Turned}
use Rattle.m5_reference.specs.declared.turn.Turned.TheVariants as turned
use Rattle.m5_reference.proofs.NextMoment.{begin_free, plus, follow}
use Rattle.m5_network.proofs.Asking.{looks}
use Rattle.m5_sites.proofs.Asking.{same-wait}
use Rattle.m5_sites.proofs.Silence.{only-look, stays}

by-stop : (P : Program) (S : Scenario) (w : World) (t : Site) (b : Bool) → t.stopped ≡ b → IsAhead P S w t (if b then None else Some t)
by-stop P S w t true e = e
by-stop P S w t false e = (e, (0, begin_free P S w t))

pub kept-ahead : (P : Program) (S : Scenario) (w : World) (t : Site) → IsAhead P S w t (kept t)
kept-ahead P S w t = by-stop P S w t t.stopped refl

pub stops-turned : (P : Program) (S : Scenario) (N : Network) (s : ℕ) (w : World) (x : Site) (cause : Cause) (b : BoardLists Item) → board_of b ≡ N.board → IsAhead P S w (N.site s w) (Some x) → StopsFirst P S w cause x → MakesDeed P S N s w b None (act.Stop cause)
stops-turned P S N s w x cause b e a h =
    let c : ComesFree P S w (plus a.1.0 h.steps) (N.site s w) h.at = follow P S w a.1.0 h.steps (N.site s w) x h.at a.1.1 h.comes in
    record {
      deed = record { session = s; world = w; query = ask.Stop cause; reply = answer.Done };
      site = record (N.site s w) { stopped = true };
      turn = (
        (
          a.0,
          inr (
            cause,
            record {
              licence = record { steps = plus a.1.0 h.steps; at = h.at; comes = c.comes; has_thread = h.stop.has_thread; reached = h.stop.reached };
              deed = refl;
              after = ap (λ (z : Board Item). with_site s w (record (N.site s w) { stopped = true }) z N) e;
            },
          ),
        ),
        inl (cause, refl, record { steps = plus a.1.0 h.steps; at = h.at; comes = c; stop = h.stop; order = h.order }),
      );
      ahead = refl;
      entry = refl;
    }

pub asks-turned : (P : Program) (S : Scenario) (N : Network) (s : ℕ) (w : World) (x y : Site) (k : Wait) (q : AskOf Item) (b : BoardLists Item) (t : Turned) → IsAhead P S w (N.site s w) (Some x) → AsksFree P S w x q (resumed P w y k) → board_of b ≡ (answer_of N.board s w q).board → IsAskTurned y q (resumed P w y k) (answer_of N.board s w q) t → IsTurned P S N s w b t
asks-turned P S N s w x y k q b (turned.Acts left shown) a f n h =
    let c : ComesFree P S w (plus a.1.0 f.steps) (N.site s w) f.waiting = follow P S w a.1.0 f.steps (N.site s w) x f.waiting a.1.1 f.comes in
    let entry : Act → Entry = λ z. record { session = s; world = w; act = z } in
    record {
      deed = record { session = s; world = w; query = q; reply = (answer_of N.board s w q).reply };
      site = h.site;
      turn = (
        (
          a.0,
          inl (record {
            resume = resumed P w y k;
            next = record { steps = plus a.1.0 f.steps; waiting = f.waiting; comes = c.comes; asking = f.asking };
            session = refl;
            world = refl;
            reply = refl;
            told = h.told;
            site = h.site;
            resumed = h.resumed;
            after = ap (λ (z : Board Item). with_site s w h.site z N) n;
          }),
        ),
        inr (resumed P w y k, record { steps = plus a.1.0 f.steps; waiting = f.waiting; comes = c; free = f.free; asking = f.asking }),
      );
      ahead = subst (IsAhead P S w h.site) (sym h.left_is) (kept-ahead P S w h.site);
      entry = ap entry (sym h.act_is);
    }
asks-turned P S N s w x y k q b (turned.Rests z) a f n h =
    let c : ComesFree P S w (plus a.1.0 f.steps) (N.site s w) f.waiting = follow P S w a.1.0 f.steps (N.site s w) x f.waiting a.1.1 f.comes in
    let look : q ≡ ask.Take = only-look N.board s w q h.0 in
    let asking : site_next P w f.waiting ≡ asks ask.Take (resumed P w y k) = f.asking ∙ ap (λ (p : AskOf Item). asks p (resumed P w y k)) look in
    let silent : (answer_of N.board s w ask.Take).reply ≡ answer.Nothing = subst (λ (p : AskOf Item). (answer_of N.board s w p).reply ≡ answer.Nothing) look h.0 in
    let same : z ≡ f.waiting = h.1 ∙ same-wait P w y f.waiting k (looks P w f.waiting (resumed P w y k) asking) in
    record {
      turn = (
        (
          refl,
          inl (record {
            resume = resumed P w y k;
            next = record { steps = plus a.1.0 f.steps; waiting = f.waiting; comes = c.comes; asking = asking };
            nothing_there = silent;
          }),
        ),
        inl (inr (resumed P w y k, record { steps = plus a.1.0 f.steps; waiting = f.waiting; comes = c; free = f.free; asking = asking })),
      );
      same = n ∙ (ap (λ (p : AskOf Item). (answer_of N.board s w p).board) look ∙ stays N.board s w silent);
      ahead = (a.0, (plus a.1.0 f.steps, subst (ComesFree P S w (plus a.1.0 f.steps) (N.site s w)) (sym same) c));
    }
asks-turned P S N s w x y k q b turned.Wrong a f n h =
    let c : ComesFree P S w (plus a.1.0 f.steps) (N.site s w) f.waiting = follow P S w a.1.0 f.steps (N.site s w) x f.waiting a.1.1 f.comes in
    record { steps = plus a.1.0 f.steps; at = f.waiting; comes = c.comes; stuck = inr (q, resumed P w y k, f.asking, h.0, h.1) }

pub wrong-turned : (P : Program) (S : Scenario) (N : Network) (s : ℕ) (w : World) (x : Site) → IsAhead P S w (N.site s w) (Some x) → GoesWrong P S w x → IsStuck P N s w
wrong-turned P S N s w x a h =
    let c : ComesFree P S w (plus a.1.0 h.steps) (N.site s w) h.at = follow P S w a.1.0 h.steps (N.site s w) x h.at a.1.1 h.comes in
    record { steps = plus a.1.0 h.steps; at = h.at; comes = c.comes; stuck = inl h.stuck }

pub answers : {E : Type 0} (r : Result Turned E) (P : Program) (S : Scenario) (N : Network) (s : ℕ) (w : World) (x y : Site) (k : Wait) (q : AskOf Item) (old new : BoardLists Item) → board_of old ≡ N.board → IsAhead P S w (N.site s w) (Some x) → AsksFree P S w x q (resumed P w y k) → IfOk r (λ t. board_of new ≡ (answer_of (board_of old) s w q).board) → IfOk r (IsAskTurned y q (resumed P w y k) (answer_of (board_of old) s w q)) → IfOk r (IsTurned P S N s w new)
answers (Ok t) P S N s w x y k q old new e a f n h =
    let Asked : Board Item → Type 0 = λ B. IsAskTurned y q (resumed P w y k) (answer_of B s w q) t in
    asks-turned P S N s w x y k q new t a f (n ∙ ap (λ (B : Board Item). (answer_of B s w q).board) e) (subst Asked e h)
answers (Err z) P S N s w x y k q old new e a f n h = tt
