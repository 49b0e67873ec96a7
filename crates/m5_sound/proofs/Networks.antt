-- Along a run the network stays typed, and no site goes wrong.
use Rattle.std.proofs.Common.{◌≡◌, ◌≢◌, ◌==◌, ℕ, Bool, true, false, if◌then◌else◌, Option, Some, None, List, [], ◌∷◌, ◌++◌, map, inl, refl, sym, subst, ap, ◌∙◌}
use Rattle.std.specs.List.{AllByRecursion as Each}
use Rattle.std.proofs.lemmas.Bool.{eqb-true, eq-eqb}
use Rattle.std.proofs.lemmas.List.Elements.{All-from_recursion, recursion_from_All, All-filter, All-map, All-weaker}
use Rattle.m5_terms.specs.TypeExpression.{unit}
use Rattle.m5_terms.specs.Text.{IsText}
use Rattle.m5_terms.specs.declared.types.World.{World}
use Rattle.m5_terms.specs.declared.types.World.TheVariants.{Home, Any}
use Rattle.m5_terms.specs.declared.ask.Cause.{Cause}
use Rattle.m5_terms.specs.declared.ask.Entry.{Entry}
use Rattle.m5_terms.specs.declared.types.Primitive.TheVariants as primitive
use Rattle.m5_terms.specs.Primitives.{primitive_world}
use Rattle.m5_typing.specs.Context.{CellTypes, Setting}
use Rattle.m5_typing.specs.Program.{IsProgram}
use Rattle.m5_terms.specs.Machine.{asks}
use Rattle.m5_terms.specs.declared.ask.AskOf.{AskOf}
use Rattle.m5_terms.specs.declared.ask.AskOf.TheVariants as ask
use Rattle.m5_terms.specs.declared.ask.AnswerOf.{AnswerOf}
use Rattle.m5_terms.specs.declared.ask.AnswerOf.TheVariants as answer
use Rattle.m5_meaning.specs.Site.{Program, Site, Item, thread, raw}
use Rattle.m5_script.specs.Scenario.{Scenario, IsPair, IsEvent}
use Rattle.m5_script.specs.declared.items.PageEvent.{PageEvent}
use Rattle.m5_script.specs.declared.items.RawItem.{RawItem}
use Rattle.m5_network.specs.Board.{Board, Event, answer_of, at_session, at_world}
use Rattle.m5_network.specs.Entries.{Deed, shown, read_shown, take_shown, entry_of}
use Rattle.m5_network.specs.Claim.{has_seal, primitive_of, IsAtItsWorld}
use Rattle.m5_network.specs.Opening.{opening, opening_site, opening_threads, event_of, raw_items}
use Rattle.m5_network.specs.Kinds.{IsStoppedBy, MakesDeed, RunOf}
use Rattle.m5_network.specs.Run.{Network, Place, NextAsk, Answers, Licence, IsLicensed, halted, source_kind, Run, with_site}
use Rattle.m5_site_sound.specs.Settings.{setting, Grows, GrowsAt}
use Rattle.m5_site_sound.specs.Threads.{ThreadTyped}
use Rattle.m5_site_sound.specs.Sites.{SiteTyped, ItemTyped, QueryTyped, ReplyTyped, AnswersTyped, NextTyped}
use Rattle.m5_site_sound.specs.Texts.{ReplyHasTexts}
use Rattle.m5_sound.specs.Texts.{DeedHasTexts}
use Rattle.m5_sound.specs.Networks.{NetworkTyped, ComesTo}
use Rattle.m5_sound.specs.Laws.{PrimitivesAreAtTheirWorlds, OpeningIsTyped, OpeningIsSound, RunsKeepTypes, AllStaysTyped, EachThreadGoesOn, NoSiteGoesWrong}
use Rattle.m5_terms.specs.declared.per_world.PerWorld.{PerWorld}
use Rattle.m5_terms.specs.PerWorld.{at, each}
use Rattle.m5_terms.proofs.PerWorlds.{each-at}
use Rattle.m5_terms.proofs.SiteWorlds.{by-world, is-real}
use Rattle.m5_terms.proofs.Lists.{each-map}
use Rattle.m5_site_sound.proofs.Growth.{more, grows-self, grows-on, own-self, own-on, site-grown}
use Rattle.m5_site_sound.proofs.Steps.{next-typed, declares}
use Rattle.m5_site_sound.proofs.Onward.{SiteComes, comes-typed, some-inj, not-wrong}
use Rattle.m5_site_sound.proofs.Soundness.{sites-are-sound}
use Rattle.m5_sound.proofs.Boards.{BoardTyped, AnswerTyped, at-each, answer-typed, answer-kind, board-grown}
use Rattle.m5_site_sound.proofs.SiteTexts.{query-texts, reply-texts}

board-of : (P : Program) (T : ℕ → CellTypes) (N : Network) → NetworkTyped P T N → BoardTyped P T N.board
board-of P T N t = record { pairs = t.texts.pairs; watches = t.texts.watches; desks = λ s. record { links = t.links s; texts = t.texts.desks s } }

-- what holds of each world but for a change at one
at-all : {A : Type 0} → (P : World → A → Type 0) (u : World) (x : A) (f : World → A) → P u x → ((w : World) → w ≢ u → P w (f w)) → (w : World) → P w (at_world u x f w)
at-all P u x f p q w = by-world (λ t. P w (if t then x else f w)) w u (λ e. subst (λ v. P v x) (sym e) p) (λ n. q w n)

-- a site in its place
placed : (P : Program) (T : ℕ → CellTypes) (N : Network) (s : ℕ) (w : World) (L : CellTypes) (x : Site) (b : Board Item) → GrowsAt w (T s) L → SiteTyped (setting P L) w x → NetworkTyped P T N → BoardTyped P (at_session s L T) b → NetworkTyped P (at_session s L T) (with_site s w x b N)
placed P T N s w L x b g t n k = record {
  sites = λ z v r. at-session (z == s) z (eqb-true z s) v r;
  links = λ z v u r. (k.desks z).links v u r;
  texts = record { pairs = k.pairs; watches = k.watches; desks = λ z. (k.desks z).texts };
}
  where
    at-session : (c : Bool) (z : ℕ) → (c ≡ true → z ≡ s) → (v : World) → v ≢ Any → SiteTyped (setting P (if c then L else T z)) v ((if c then at_world w x (N.site s) else N.site z) v)
    at-session true z e v r = at-all (λ v y. v ≢ Any → SiteTyped (setting P L) v y) w x (N.site s) (λ o. t)
        (λ v o q. site-grown (setting P (T s)) (setting P L) (more (setting P (T s)) L g.0) v (g.1 v o) (N.site s v) (n.sites s v q)) v r
    at-session false z e v r = n.sites z v r

-- a deed has texts, and a primitive's is at its world
pub record DeedFine (d : Deed Item) : Type 0 where
  pub texts : DeedHasTexts d
  pub world : IsAtItsWorld (primitive_of (shown has_seal d.query d.reply)) d.world

read-world : (k : List ℕ) (r : AnswerOf Item) (u : World) → u ≡ primitive_world primitive.Read → IsAtItsWorld (primitive_of (read_shown k r)) u
read-world k (answer.Found t) u h = h
read-world k _ u h = h

take-world : (r : AnswerOf Item) (u : World) → IsAtItsWorld (primitive_of (take_shown has_seal r)) u
take-world (answer.Message v (thread t)) u = tt
take-world (answer.Message v (raw bytes)) u = tt
take-world _ u = tt

query-world : (E : Setting) (u : World) (q : AskOf Item) (r : AnswerOf Item) → QueryTyped E u q → IsAtItsWorld (primitive_of (shown has_seal q r)) u
query-world E u (ask.Read k) r t = read-world k r u t.0
query-world E u (ask.Send v i) r t = tt
query-world E u ask.Take r t = take-world r u
query-world E u (ask.Stop c) r t = tt
query-world E u _ r t = t.0

-- one step of a run
pub record StepTyped (P : Program) (T : ℕ → CellTypes) (d : Deed Item) (M : Network) : Type 0 where
  pub to : ℕ → CellTypes
  pub grows : (s : ℕ) → Grows (T s) (to s)
  pub typed : NetworkTyped P to M
  pub deed : DeedFine d

grows-one : (T : ℕ → CellTypes) (s : ℕ) (L : CellTypes) → Grows (T s) L → (z : ℕ) → Grows (T z) (at_session s L T z)
grows-one T s L g z = at-each (λ z K. Grows (T z) K) s L T g (λ z. grows-self (T z)) z

-- a typed site's next ask, and the board's answer to it
pub record Asked (P : Program) (T : ℕ → CellTypes) (N : Network) (s : ℕ) (w : World) (q : AskOf Item) (resume : AnswerOf Item → Option Site) : Type 0 where
  pub cells : CellTypes
  pub grows : GrowsAt w (T s) cells
  pub query : QueryTyped (setting P cells) w q
  pub answers : AnswersTyped (setting P cells) w q resume
  pub reply : ReplyTyped (setting P cells) w (answer_of N.board s w q).reply
  pub board : BoardTyped P (at_session s cells T) (answer_of N.board s w q).board

pub next-asked : (P : Program) (T : ℕ → CellTypes) (N : Network) (s : ℕ) (w : World) (q : AskOf Item) (resume : AnswerOf Item → Option Site) → IsProgram P → w ≢ Any → NetworkTyped P T N → NextAsk P w (N.site s w) q resume → Asked P T N s w q resume
next-asked P T N s w q resume h r t a = record {
  cells = L;
  grows = grows;
  query = k.typed.0;
  answers = k.typed.1;
  reply = subst (λ K. ReplyTyped (setting P K) w (answer_of N.board s w q).reply) same answer.reply_;
  board = answer.board_;
}
  where
    c : SiteComes P (T s) w a.waiting
    c = comes-typed P (T s) w a.steps (N.site s w) a.waiting h r (t.sites s w r) a.comes

    k : NextTyped (setting P c.to) w (asks q resume)
    k = subst (λ y. NextTyped (setting P c.to) w y) a.asking (next-typed P (setting P c.to) w a.waiting (declares P c.to h) r c.typed)

    L : CellTypes
    L = k.cells

    grows : GrowsAt w (T s) L
    grows = own-on w (T s) c.to L c.grows k.grows

    same : at_session s L T s ≡ L
    same = ap (λ b. if b then L else T s) (eq-eqb s s refl)

    answer : AnswerTyped P (at_session s L T) s w (answer_of N.board s w q)
    answer = answer-typed P (at_session s L T) N.board s w q r (subst (λ K. QueryTyped (setting P K) w q) (sym same) k.typed.0) (board-grown P T s L N.board grows.0 (board-of P T N t))

-- what the site is by the answer
pub record Resumed (P : Program) (L : CellTypes) (w : World) (resume : AnswerOf Item → Option Site) (r : AnswerOf Item) : Type 0 where
  pub site : Site
  pub is : resume r ≡ Some site
  pub typed : SiteTyped (setting P L) w site

pub asked-resumed : (P : Program) (T : ℕ → CellTypes) (N : Network) (s : ℕ) (w : World) (q : AskOf Item) (resume : AnswerOf Item → Option Site) (k : Asked P T N s w q resume) → (answer_of N.board s w q).reply ≢ answer.Nothing → Resumed P k.cells w resume (answer_of N.board s w q).reply
asked-resumed P T N s w q resume k told =
    let y = k.answers k.cells (answer_of N.board s w q).reply (grows-self k.cells) refl (answer-kind N.board s w q told) k.reply in
    record { site = y.0; is = y.1; typed = y.2 }

pub answer-step : (P : Program) (T : ℕ → CellTypes) (N M : Network) (s : ℕ) (w : World) (d : Deed Item) → IsProgram P → w ≢ Any → NetworkTyped P T N → Answers P N s w d M → StepTyped P T d M
answer-step P T N M s w d h r t a =
    let k = next-asked P T N s w d.query a.resume h r t a.next in
    let y = asked-resumed P T N s w d.query a.resume k (λ e. a.told (a.reply ∙ e)) in
    let same : y.site ≡ a.site = some-inj y.site a.site (sym y.is ∙ ap a.resume (sym a.reply) ∙ a.resumed) in
    record {
      to = at_session s k.cells T;
      grows = grows-one T s k.cells k.grows.0;
      typed = subst (λ K. NetworkTyped P (at_session s k.cells T) K) (sym a.after)
          (placed P T N s w k.cells a.site _ k.grows (subst (λ x. SiteTyped (setting P k.cells) w x) same y.typed) t k.board);
      deed = record {
        texts = record { query = query-texts (setting P k.cells) w d.query k.query; reply = subst ReplyHasTexts (sym a.reply) (reply-texts (setting P k.cells) w _ k.reply) };
        world = subst (λ v. IsAtItsWorld (primitive_of (shown has_seal d.query d.reply)) v) (sym a.world) (query-world (setting P k.cells) w d.query d.reply k.query);
      };
    }

pub stop-step : (P : Program) (licensed : Site → Type 0) (T : ℕ → CellTypes) (N M : Network) (s : ℕ) (w : World) (cause : Cause) (d : Deed Item) → w ≢ Any → NetworkTyped P T N → IsStoppedBy licensed halted N s w cause d M → StepTyped P T d M
stop-step P licensed T N M s w cause d r t a = record {
  to = at_session s (T s) T;
  grows = grows-one T s (T s) (grows-self (T s));
  typed = subst (λ K. NetworkTyped P (at_session s (T s) T) K) (sym a.after)
      (placed P T N s w (T s) (record (N.site s w) { stopped = true }) N.board (own-self w (T s)) (t.sites s w r) t (board-grown P T s (T s) N.board (grows-self (T s)) (board-of P T N t)));
  deed = subst DeedFine (sym a.deed) (record { texts = record { query = tt; reply = tt }; world = tt });
}

-- whatever licenses its stop
makes-step : (P : Program) (licensed : Licence) (T : ℕ → CellTypes) (N M : Network) (p : Place) (d : Deed Item) (o : Option Cause) → IsProgram P → p.world ≢ Any → NetworkTyped P T N → MakesDeed (source_kind P licensed) N p d M o → StepTyped P T d M
makes-step P licensed T N M p d None h r t a = answer-step P T N M p.session p.world d h r t a
makes-step P licensed T N M p d (Some cause) h r t a = stop-step P (licensed p.session p.world cause) T N M p.session p.world cause d r t a

-- a whole run
pub record RunTyped (P : Program) (T : ℕ → CellTypes) (ds : List (Deed Item)) (M : Network) : Type 0 where
  pub to : ℕ → CellTypes
  pub grows : (s : ℕ) → Grows (T s) (to s)
  pub typed : NetworkTyped P to M
  pub deeds : Each DeedFine ds

pub runs-typed : (P : Program) (licensed : Licence) (n : ℕ) (N M : Network) (ps : List Place) (ds : List (Deed Item)) (T : ℕ → CellTypes) → IsProgram P → RunOf (source_kind P licensed) n N ps ds M → NetworkTyped P T N → RunTyped P T ds M
runs-typed P licensed n N M [] [] T h r t = record { to = T; grows = λ s. grows-self (T s); typed = subst (λ K. NetworkTyped P T K) (sym r) t; deeds = tt }
runs-typed P licensed n N M [] (d ∷ ds) T h r t = absurd r
runs-typed P licensed n N M (p ∷ ps) [] T h r t = absurd r
runs-typed P licensed n N M (p ∷ ps) (d ∷ ds) T h r t =
    let k = makes-step P licensed T N r.0 p d p.cause h (is-real p.world r.1.site.world) t r.1.makes in
    let l = runs-typed P licensed n r.0 M ps ds k.to h r.2 k.typed in
    record { to = l.to; grows = λ s. grows-on (T s) (k.to s) (l.to s) (k.grows s) (l.grows s); typed = l.typed; deeds = (k.deed, l.deeds) }

pub run-typed : (P : Program) (S : Scenario) (N M : Network) (ps : List Place) (ds : List (Deed Item)) (T : ℕ → CellTypes) → IsProgram P → Run P S N ps ds M → NetworkTyped P T N → RunTyped P T ds M
run-typed P S N M ps ds T h r t = runs-typed P (λ s w cause x. IsLicensed P S w cause x) S.sessions N M ps ds T h r t

pub keeps-types : RunsKeepTypes
keeps-types P S N M ps ds T h r t = let k = run-typed P S N M ps ds T h r t in (k.to, k.grows, k.typed)

-- where a run begins

raws-typed : (E : Setting) (w : World) (rs : List RawItem) → Each (ItemTyped E w) (map (λ (r : RawItem). raw r.bytes) rs)
raws-typed E w [] = tt
raws-typed E w (r ∷ rs) = (tt, raws-typed E w rs)

opening-typed : (P : Program) → IsProgram P → (w : World) → SiteTyped (setting P (λ w. [])) w (opening_site (opening_threads P w))
opening-typed P h Home = ((record { of = unit; stands = inl refl; typed = h.main; frames = refl }, tt), tt, tt)
opening-typed P h _ = (tt, tt, tt)

pub opening-is-typed : OpeningIsTyped
opening-is-typed P S h k = record {
  sites = λ s w r. opening-typed P h w;
  links = λ s v w r.
      each-at (λ (x : PerWorld (List Item)). Each (ItemTyped (setting P (λ w. [])) w) (at x w)) (λ u. each (λ x. raw_items s u x S.raws)) v
      (λ u. each-at (λ (is : List Item). Each (ItemTyped (setting P (λ w. [])) w) is) (λ x. raw_items s u x S.raws) w (λ x. raws-typed (setting P (λ w. [])) w _));
  texts = record {
    pairs = recursion_from_All IsPair S.pairs k.items.texts;
    watches = tt;
    desks = λ s. record {
      page = tt;
      handlers = tt;
      triggers = tt;
      events = recursion_from_All IsTold _ (All-map IsTold event_of _ (All-filter (λ (e : PageEvent). e.session == s) (λ e. IsTold (event_of e)) S.events
          (All-weaker (IsEvent S.sessions) (λ e. IsTold (event_of e)) (λ e i. (i.element, i.text)) S.events k.items.events)));
    };
  };
}
  where
    IsTold : Event → Type 0
    IsTold e = IsText e.element × IsText e.text

pub opening-is-sound : OpeningIsSound
opening-is-sound P S s w h k r = sites-are-sound P (λ v. []) w _ h r ((opening-is-typed P S h k).sites s w r)

-- what a site comes to along a run

pub record Reached (P : Program) (s : ℕ) (w : World) (x : Site) (ds : List (Deed Item)) (N : Network) : Type 0 where
  pub of : ℕ → CellTypes
  pub network : NetworkTyped P of N
  pub real : w ≢ Any
  pub comes : SiteComes P (of s) w x
  pub deeds : Each DeedFine ds

pub reached : (P : Program) (S : Scenario) (ps : List Place) (ds : List (Deed Item)) (N : Network) (s : ℕ) (w : World) (x : Site) → ComesTo P S ps ds N s w x → Reached P s w x ds N
reached P S ps ds N s w x c =
    let k = run-typed P S (opening P S) N ps ds (λ s w. []) c.program c.run (opening-is-typed P S c.program c.script) in
    let r = is-real w c.site.world in
    record { of = k.to; network = k.typed; real = r; comes = comes-typed P (k.to s) w c.steps (N.site s w) x c.program r (k.typed.sites s w r) c.comes; deeds = k.deeds }

pub all-stays : AllStaysTyped
all-stays P S ps ds N s w x c =
    let k = reached P S ps ds N s w x c in
    (at_session s k.comes.to k.of, placed P k.of N s w k.comes.to x N.board k.comes.grows k.comes.typed k.network (board-grown P k.of s k.comes.to N.board k.comes.grows.0 (board-of P k.of N k.network)))

pub no-wrong : NoSiteGoesWrong
no-wrong P S ps ds N s w x c =
    let k = reached P S ps ds N s w x c in
    not-wrong (setting P k.comes.to) w _ (next-typed P (setting P k.comes.to) w x (declares P k.comes.to c.program) k.real k.comes.typed)

taken-out : {A : Type 0} → (P : A → Type 0) (l m : List A) (a : A) → Each P (l ++ a ∷ m) → P a × Each P (l ++ m)
taken-out P [] m a e = e
taken-out P (b ∷ l) m a e = let r = taken-out P l m a e.1 in (r.0, (e.0, r.1))

pub each-goes-on : EachThreadGoesOn
each-goes-on P S ps ds N s w x c before after t e =
    let k = reached P S ps ds N s w x c in
    let E = setting P k.comes.to in
    let threads : Each (ThreadTyped E w) (before ++ t ∷ after) = subst (λ l. Each (ThreadTyped E w) l) e k.comes.typed.0 in
    let r = taken-out (ThreadTyped E w) before after t threads in
    not-wrong E w _ (next-typed P E w (record x { threads = t ∷ (before ++ after) }) (declares P k.comes.to c.program) k.real (r, k.comes.typed.1, k.comes.typed.2))

pub at-their-worlds : PrimitivesAreAtTheirWorlds
at-their-worlds P S ps ds N h k r =
    let d = (run-typed P S (opening P S) N ps ds (λ s w. []) h r (opening-is-typed P S h k)).deeds in
    All-map (λ (e : Entry). IsAtItsWorld (primitive_of e.act) e.world) (entry_of has_seal) ds
    (All-from_recursion (λ (d : Deed Item). IsAtItsWorld (primitive_of (shown has_seal d.query d.reply)) d.world) ds
    (each-map DeedFine (λ (d : Deed Item). IsAtItsWorld (primitive_of (shown has_seal d.query d.reply)) d.world) (λ d f. f.world) ds d))
