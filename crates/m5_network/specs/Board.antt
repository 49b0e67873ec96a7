-- The board: the key store, the watches and, for each session, its page, triggers, events and links; and its answers.
use Rattle.std.specs.Prelude.{ℕ, ◌==◌, if◌then◌else◌, List, [], ◌∷◌, ◌++◌, Option, Some, None}
use Rattle.std.specs.Str.{bytes_eq}
use Rattle.m5_terms.specs.Worlds.{site_worlds}
use Rattle.m5_terms.specs.TypeExpression.{same_world}
use Rattle.m5_terms.specs.declared.ask.AskOf.{AskOf}
use Rattle.m5_terms.specs.declared.ask.AskOf.TheVariants as ask
use Rattle.m5_terms.specs.declared.ask.AnswerOf.{AnswerOf}
use Rattle.m5_terms.specs.declared.ask.AnswerOf.TheVariants as answer
use Rattle.m5_terms.specs.declared.types.World.{World}
use Rattle.m5_terms.specs.declared.types.World.TheVariants.{Home, Server}
use Rattle.m5_terms.specs.declared.per_world.PerWorld.{PerWorld}
use Rattle.m5_terms.specs.PerWorld.{at, with_at}
use Rattle.m5_script.specs.declared.items.TextPair.{TextPair}
pub use Rattle.m5_script.specs.Pairs.{text_at, set_at}
pub use Rattle.m5_keys.specs.declared.watch.Watch.{Watch}
pub use Rattle.m5_keys.specs.declared.watch.Trigger.{Trigger}
pub use Rattle.m5_page.specs.declared.row.Event.{Event}
pub use Rattle.m5_page.specs.declared.row.Handler.{Handler}
pub use Rattle.m5_page.specs.Page.{handlers_of}

-- what one session has: its page, its triggers, the events left, and a link from each of its worlds to each; one to Any is lost
pub record Desk (Item : Type 0) : Type 0 where
  pub texts : List TextPair
  pub handlers : List Handler
  pub triggers : List Trigger
  pub events : List Event
  pub links : PerWorld (PerWorld (List Item))

pub record Board (Item : Type 0) : Type 0 where
  pub pairs : List TextPair
  pub watches : List Watch
  pub desks : ℕ → Desk Item

-- the function, but for one session or world
abbrev pub at_session : {A : Type 0} → ℕ → A → (ℕ → A) → ℕ → A
at_session s a f = λ z. if z == s then a else f z

abbrev pub at_world : {A : Type 0} → World → A → (World → A) → World → A
at_world w a f = λ v. if same_world v w then a else f v

-- the link from the one world to the other
abbrev pub link : {Item : Type 0} → Desk Item → World → World → List Item
link d v w = at (at d.links v) w

abbrev pub with_link : {Item : Type 0} → World → World → List Item → Desk Item → Desk Item
with_link v w items d = record d { links = with_at v (with_at w items (at d.links v)) d.links }

-- one trigger for each watch of the key, in order of registration, to the session that registered it
abbrev pub posted : {Item : Type 0} → List ℕ → List ℕ → List Watch → (ℕ → Desk Item) → ℕ → Desk Item
posted key text [] desks = desks
posted key text (w ∷ ws) desks =
    if bytes_eq w.key key then posted key text ws (at_session w.session (record (desks w.session) { triggers = (desks w.session).triggers ++ record { key = key; number = w.number; text = text } ∷ [] }) desks)
    else posted key text ws desks

-- an answer with the board after it
pub record Answered (Item : Type 0) : Type 0 where
  pub reply : AnswerOf Item
  pub board : Board Item

abbrev pub answered : {Item : Type 0} → AnswerOf Item → Board Item → Answered Item
answered r b = record { reply = r; board = b }

-- the answer, with the session's desk changed
abbrev pub answered_at : {Item : Type 0} → AnswerOf Item → ℕ → Desk Item → Board Item → Answered Item
answered_at r s d b = answered r (record b { desks = at_session s d b.desks })

abbrev pub text_or_missing : {Item : Type 0} → Option (List ℕ) → AnswerOf Item
text_or_missing None = answer.Missing
text_or_missing (Some t) = answer.Found t

abbrev pub text_or_empty : {Item : Type 0} → Option (List ℕ) → AnswerOf Item
text_or_empty None = answer.Found []
text_or_empty (Some t) = answer.Found t

abbrev pub take_event : {Item : Type 0} → Board Item → ℕ → Desk Item → List Event → Answered Item
take_event b s d [] = answered answer.Nothing b
take_event b s d (e ∷ es) = answered_at (answer.Event e.element (handlers_of d.handlers e.element) e.text) s (record d { events = es }) b

abbrev pub take_trigger : {Item : Type 0} → Board Item → ℕ → Desk Item → List Trigger → Answered Item
take_trigger b s d [] = answered answer.Nothing b
take_trigger b s d (t ∷ ts) = answered_at (answer.Fired t.key t.number t.text) s (record d { triggers = ts }) b

-- without a message, a home takes its next event and a server its first trigger; other worlds take messages alone
abbrev pub take_other : {Item : Type 0} → Board Item → ℕ → World → Answered Item
take_other b s Home = take_event b s (b.desks s) (b.desks s).events
take_other b s Server = take_trigger b s (b.desks s) (b.desks s).triggers
take_other b s _ = answered answer.Nothing b

-- a message comes first: the first item of the first link to the site that is not empty
abbrev pub take_from : {Item : Type 0} → Board Item → ℕ → World → World → List Item → Answered Item → Answered Item
take_from b s w v [] otherwise = otherwise
take_from b s w v (i ∷ is) otherwise = answered_at (answer.Message v i) s (with_link v w is (b.desks s)) b

abbrev pub take_at : {Item : Type 0} → Board Item → ℕ → World → List World → Answered Item
take_at b s w [] = take_other b s w
take_at b s w (v ∷ vs) = take_from b s w v (link (b.desks s) v w) (take_at b s w vs)

-- the board's answer to what session s asks at w
abbrev pub answer_of : {Item : Type 0} → Board Item → ℕ → World → AskOf Item → Answered Item
answer_of b s w (ask.Say t) = answered answer.Done b
answer_of b s w (ask.Set e t) = answered_at answer.Done s (record (b.desks s) { texts = set_at (b.desks s).texts e t }) b
answer_of b s w (ask.GetText e) = answered (text_or_empty (text_at (b.desks s).texts e)) b
answer_of b s w (ask.On e n) = answered_at answer.Done s (record (b.desks s) { handlers = (b.desks s).handlers ++ record { element = e; number = n } ∷ [] }) b
answer_of b s w (ask.Read k) = answered (text_or_missing (text_at b.pairs k)) b
answer_of b s w (ask.Write k t) = answered answer.Done (record { pairs = set_at b.pairs k t; watches = b.watches; desks = posted k t b.watches b.desks })
answer_of b s w (ask.Watch k n) = answered answer.Done (record b { watches = b.watches ++ record { key = k; session = s; number = n } ∷ [] })
answer_of b s w (ask.Show t) = answered answer.Done b
answer_of b s w (ask.Send v i) = answered_at answer.Done s (with_link w v (link (b.desks s) w v ++ i ∷ []) (b.desks s)) b
answer_of b s w ask.Take = take_at b s w site_worlds
answer_of b s w (ask.Stop c) = answered answer.Done b
