-- What holds of the source's network along each run: its types and its numbers; so the board's answers are lawful, and no site goes wrong.
use Rattle.std.proofs.Common.{◌≡◌, ◌≢◌, ◌≤◌, ℕ, true, if◌then◌else◌, Option, Some, None, List, [], ◌∷◌, length, refl, sym, subst, ap, arith}
use Rattle.m5_terms.specs.declared.types.World.{World}
use Rattle.m5_terms.specs.declared.types.World.TheVariants.{Any}
use Rattle.m5_terms.specs.declared.ask.Cause.{Cause}
use Rattle.m5_typing.specs.Context.{CellTypes, Setting}
use Rattle.m5_typing.specs.Program.{IsProgram}
use Rattle.m5_terms.specs.Machine.{asks, GoesWrong}
use Rattle.m5_terms.specs.declared.ask.AskOf.{AskOf}
use Rattle.m5_terms.specs.declared.ask.AskOf.TheVariants as ask
use Rattle.m5_terms.specs.declared.ask.AnswerOf.{AnswerOf}
use Rattle.m5_terms.specs.declared.ask.AnswerOf.TheVariants as answer
use Rattle.m5_meaning.specs.Site.{Program, Site, Item}
use Rattle.m5_script.specs.Scenario.{Scenario, IsScript}
use Rattle.std.proofs.lemmas.Bool.{eq-eqb}
use Rattle.m5_network.specs.Board.{Board, at_session, text_at, text_or_missing, text_or_empty, answer_of}
use Rattle.m5_network.specs.Entries.{Deed}
use Rattle.m5_network.specs.Opening.{opening}
use Rattle.m5_network.specs.Run.{Network, Place, NextAsk, Answers, Licence, with_site, source_kind}
use Rattle.m5_site_sound.specs.Settings.{setting}
use Rattle.m5_site_sound.specs.Sites.{QueryTyped, ReplyTyped}
use Rattle.m5_site_sound.specs.SourceMachine.{IsAnswerTo, IsLawful, source_machine}
use Rattle.m5_terms.specs.Answers.{NamesHandlers}
use Rattle.m5_sound.specs.Networks.{NetworkTyped}
use Rattle.m5_terms.proofs.SiteWorlds.{is-real}
use Rattle.m5_sound.proofs.Boards.{BoardTyped, answer-typed, answer-kind, board-grown}
use Rattle.m5_site_sound.proofs.Onward.{SiteComes, comes-typed}
use Rattle.m5_sound.proofs.Networks.{Asked, next-asked, answer-step, stop-step, opening-is-typed}
use Rattle.m5_site_sound.proofs.Soundness.{sites-are-sound}
use Rattle.m5_network.specs.Kinds.{MakesDeed, StepOf, RunOf}
use Rattle.m5_network.proofs.Places.{at-place}
use Rattle.m5_sound.specs.Numbers.{counts_of, BoardNumbered}
use Rattle.m5_sound.specs.Laws.{Stops, NumbersStayRight, AnswersAreLawful}
use Rattle.m5_site_sound.proofs.Handlers.{Registers, CountsHandlers, next-handlers, comes-handlers}
use Rattle.m5_sound.proofs.Numbers.{RegistersAt, with_count, board-more, answer-names, answer-numbered}

pub record Fine (P : Program) (N : Network) : Type 0 where
  pub cells : ℕ → CellTypes
  pub typed : NetworkTyped P cells N
  pub numbers : BoardNumbered (counts_of N) N.board

-- a text's answer is as typed by any cells
missing-any : (E F : Setting) (w : World) (o : Option (List ℕ)) → ReplyTyped E w (text_or_missing o) → ReplyTyped F w (text_or_missing o)
missing-any E F w None t = tt
missing-any E F w (Some x) t = t

empty-any : (E F : Setting) (w : World) (o : Option (List ℕ)) → ReplyTyped E w (text_or_empty o) → ReplyTyped F w (text_or_empty o)
empty-any E F w None t = t
empty-any E F w (Some x) t = t

-- only a message has a type by the cells
reply-any : (E F : Setting) (b : Board Item) (s : ℕ) (w : World) (q : AskOf Item) → ReplyTyped F w (answer_of b s w ask.Take).reply → ReplyTyped E w (answer_of b s w q).reply → ReplyTyped F w (answer_of b s w q).reply
reply-any E F b s w ask.Take h t = h
reply-any E F b s w (ask.Read k) h t = missing-any E F w (text_at b.pairs k) t
reply-any E F b s w (ask.GetText e) h t = empty-any E F w (text_at (b.desks s).texts e) t
reply-any E F b s w _ h t = tt

pub answers-lawful : (P : Program) (N : Network) (s : ℕ) (w : World) (q : AskOf Item) (resume : AnswerOf Item → Option Site) → IsProgram P → w ≢ Any → Fine P N → (a : NextAsk P w (N.site s w) q resume) → (answer_of N.board s w q).reply ≢ answer.Nothing → IsLawful P w a.waiting (answer_of N.board s w q).reply
answers-lawful P N s w q resume h r f a told = record {
  cells = c.to;
  site = c.typed;
  typed = reply-any (setting P k.cells) (setting P c.to) N.board s w q looked k.reply;
  fits = subst (λ n. IsAnswerTo n (answer_of N.board s w q).reply) (sym a.asking) (answer-kind N.board s w q told);
  numbers = subst (λ n. NamesHandlers n (answer_of N.board s w q).reply) (sym (comes-handlers P w a.steps (N.site s w) a.waiting a.comes)) (answer-names (counts_of N) N.board s w q f.numbers);
}
  where
    c : SiteComes P (f.cells s) w a.waiting
    c = comes-typed P (f.cells s) w a.steps (N.site s w) a.waiting h r (f.typed.sites s w r) a.comes

    k : Asked P f.cells N s w q resume
    k = next-asked P f.cells N s w q resume h r f.typed a

    looked : ReplyTyped (setting P c.to) w (answer_of N.board s w ask.Take).reply
    looked =
        let t = f.typed in
        let old : BoardTyped P f.cells N.board = record { pairs = t.texts.pairs; watches = t.texts.watches; desks = λ z. record { links = t.links z; texts = t.texts.desks z } } in
        let same : at_session s c.to f.cells s ≡ c.to = ap (λ b. if b then c.to else f.cells s) (eq-eqb s s refl) in
        subst (λ L. ReplyTyped (setting P L) w (answer_of N.board s w ask.Take).reply) same
        (answer-typed P (at_session s c.to f.cells) N.board s w ask.Take r tt (board-grown P f.cells s c.to N.board c.grows.0 old)).reply_

-- what a deed makes of the numbers
numbers-after : (P : Program) (N : Network) (s : ℕ) (w : World) (x : Site) (b : Board Item) → BoardNumbered (with_count s w (length x.handlers) (counts_of N)) b → BoardNumbered (counts_of (with_site s w x b N)) b
numbers-after P N s w x b t = board-more _ _ b (at-place (λ z v m y. m ≤ length y.handlers) s w (length x.handlers) x (counts_of N) N.site (omega (arith)) (λ z v. omega (arith))) t

registers-at : (E : Setting) (w : World) (q : AskOf Item) → QueryTyped E w q → RegistersAt w q
registers-at E w (ask.On e n) t = t.0
registers-at E w (ask.Watch k n) t = t.0
registers-at E w _ t = tt

answered-numbers : (P : Program) (N M : Network) (s : ℕ) (w : World) (d : Deed Item) → IsProgram P → w ≢ Any → Fine P N → Answers P N s w d M → BoardNumbered (counts_of M) M.board
answered-numbers P N M s w d h r f a =
    let k = next-asked P f.cells N s w d.query a.resume h r f.typed a.next in
    let asked : CountsHandlers a.next.waiting (asks d.query a.resume) = subst (λ n. CountsHandlers a.next.waiting n) a.next.asking (next-handlers P w a.next.waiting) in
    let m : Registers (counts_of N s w) d.query (length a.site.handlers) = subst (λ n. Registers n d.query (length a.site.handlers)) (comes-handlers P w a.next.steps (N.site s w) a.next.waiting a.next.comes) (asked d.reply a.site a.resumed) in
    let b = answer-numbered (counts_of N) N.board s w d.query (length a.site.handlers) f.numbers m (registers-at _ w d.query k.query) in
    subst (λ (X : Network). BoardNumbered (counts_of X) X.board) (sym a.after) (numbers-after P N s w a.site _ b)

stopped-numbers : (P : Program) (N M : Network) (s : ℕ) (w : World) → BoardNumbered (counts_of N) N.board → M ≡ with_site s w (record (N.site s w) { stopped = true }) N.board N → BoardNumbered (counts_of M) M.board
stopped-numbers P N M s w t e = subst (λ (X : Network). BoardNumbered (counts_of X) X.board) (sym e)
    (board-more _ _ N.board (at-place (λ z v y u. counts_of N z v ≤ length y.handlers) s w (record (N.site s w) { stopped = true }) (N.site s w) N.site N.site (omega (arith)) (λ z v. omega (arith))) t)

-- one deed, whatever licenses its stop
makes-fine : (P : Program) (licensed : Licence) (N M : Network) (p : Place) (d : Deed Item) (o : Option Cause) → IsProgram P → p.world ≢ Any → Fine P N → MakesDeed (source_kind P licensed) N p d M o → Fine P M
makes-fine P licensed N M p d None h r f a =
    let t = answer-step P f.cells N M p.session p.world d h r f.typed a in
    record { cells = t.to; typed = t.typed; numbers = answered-numbers P N M p.session p.world d h r f a }
makes-fine P licensed N M p d (Some c) h r f a =
    let t = stop-step P (licensed p.session p.world c) f.cells N M p.session p.world c d r f.typed a in
    record { cells = t.to; typed = t.typed; numbers = stopped-numbers P N M p.session p.world f.numbers a.after }

pub step-fine : (P : Program) (licensed : Licence) (n : ℕ) (N M : Network) (p : Place) (d : Deed Item) → IsProgram P → Fine P N → StepOf (source_kind P licensed) n N p d M → Fine P M
step-fine P licensed n N M p d h f a = makes-fine P licensed N M p d p.cause h (is-real p.world a.site.world) f a.makes

pub opening-fine : (P : Program) (S : Scenario) → IsProgram P → IsScript S → Fine P (opening P S)
opening-fine P S h k = record { cells = λ s w. []; typed = opening-is-typed P S h k; numbers = record { watches = tt; desks = λ s. record { handlers = tt; differ = tt; triggers = tt } } }

pub run-fine : (P : Program) (licensed : Licence) (n : ℕ) (N M : Network) (ps : List Place) (ds : List (Deed Item)) → IsProgram P → Fine P N → RunOf (source_kind P licensed) n N ps ds M → Fine P M
run-fine P licensed n N M [] [] h f r = subst (λ X. Fine P X) (sym r) f
run-fine P licensed n N M [] (d ∷ ds) h f r = absurd r
run-fine P licensed n N M (p ∷ ps) [] h f r = absurd r
run-fine P licensed n N M (p ∷ ps) (d ∷ ds) h f r = run-fine P licensed n r.0 M ps ds h (step-fine P licensed n N r.0 p d h f r.1) r.2

pub stay-right : (licensed : Stops) → NumbersStayRight licensed
stay-right licensed P S ps ds N h k r = (run-fine P (licensed P S) S.sessions (opening P S) N ps ds h (opening-fine P S h k) r).numbers

pub are-lawful : (licensed : Stops) → AnswersAreLawful licensed
are-lawful licensed P S ps ds N s w q resume h k r i a told = answers-lawful P N s w q resume h (is-real w i.world) (run-fine P (licensed P S) S.sessions (opening P S) N ps ds h (opening-fine P S h k) r) a told

-- where a typed network is sound
pub fine-right : (P : Program) (N : Network) (s : ℕ) (w : World) → IsProgram P → w ≢ Any → Fine P N → GoesWrong (source_machine P w) (N.site s w) → ⊥
fine-right P N s w h r f x = sites-are-sound P (f.cells s) w (N.site s w) h r (f.typed.sites s w r) (record { exchanges = []; at = N.site s w; behaves = refl; goes_wrong = x })
