-- The board has nothing for a look alone, and then stays as it is.
use Rattle.std.proofs.Common.{◌≡◌, ℕ, List, [], ◌∷◌, Option, Some, None, refl}
use Rattle.m5_terms.specs.Worlds.{site_worlds}
use Rattle.m5_terms.specs.declared.types.World.{World}
use Rattle.m5_terms.specs.declared.types.World.TheVariants.{Home, Server}
use Rattle.m5_terms.specs.declared.ask.AskOf.{AskOf}
use Rattle.m5_terms.specs.declared.ask.AskOf.TheVariants as ask
use Rattle.m5_terms.specs.declared.ask.AnswerOf.TheVariants as answer
use Rattle.m5_meaning.specs.Site.{Item}
use Rattle.m5_network.specs.Board.{Board, Desk, Event, Trigger, Answered, text_at, text_or_missing, text_or_empty, take_event, take_trigger, take_other, take_from, take_at, link, answer_of}

not-missing : (o : Option (List ℕ)) (q : AskOf Item) → text_or_missing {Item = Item} o ≡ answer.Nothing → q ≡ ask.Take
not-missing None q h = cc
not-missing (Some t) q h = cc

not-empty : (o : Option (List ℕ)) (q : AskOf Item) → text_or_empty {Item = Item} o ≡ answer.Nothing → q ≡ ask.Take
not-empty None q h = cc
not-empty (Some t) q h = cc

pub only-look : (b : Board Item) (s : ℕ) (w : World) (q : AskOf Item) → (answer_of b s w q).reply ≡ answer.Nothing → q ≡ ask.Take
only-look b s w ask.Take h = refl
only-look b s w (ask.Read k) h = not-missing (text_at b.pairs k) (ask.Read k) h
only-look b s w (ask.GetText e) h = not-empty (text_at (b.desks s).texts e) (ask.GetText e) h
only-look b s w (ask.Say t) h = cc
only-look b s w (ask.Set e t) h = cc
only-look b s w (ask.On e n) h = cc
only-look b s w (ask.Write k t) h = cc
only-look b s w (ask.Watch k n) h = cc
only-look b s w (ask.Show t) h = cc
only-look b s w (ask.Send v i) h = cc
only-look b s w (ask.Stop c) h = cc

abbrev Stays : Board Item → Answered Item → Type 0
Stays b a = a.reply ≡ answer.Nothing → a.board ≡ b

event-stays : (b : Board Item) (s : ℕ) (d : Desk Item) (es : List Event) → Stays b (take_event b s d es)
event-stays b s d [] h = refl
event-stays b s d (e ∷ es) h = cc

trigger-stays : (b : Board Item) (s : ℕ) (d : Desk Item) (rs : List Trigger) → Stays b (take_trigger b s d rs)
trigger-stays b s d [] h = refl
trigger-stays b s d (r ∷ rs) h = cc

other-stays : (b : Board Item) (s : ℕ) (w : World) → Stays b (take_other b s w)
other-stays b s Home = event-stays b s (b.desks s) (b.desks s).events
other-stays b s Server = trigger-stays b s (b.desks s) (b.desks s).triggers
other-stays b s _ = λ h. refl

from-stays : (b : Board Item) (s : ℕ) (w v : World) (is : List Item) (o : Answered Item) → Stays b o → Stays b (take_from b s w v is o)
from-stays b s w v [] o k = k
from-stays b s w v (i ∷ is) o k = λ h. cc

look-stays : (b : Board Item) (s : ℕ) (w : World) (ws : List World) → Stays b (take_at b s w ws)
look-stays b s w [] = other-stays b s w
look-stays b s w (v ∷ vs) = from-stays b s w v (link (b.desks s) v w) (take_at b s w vs) (look-stays b s w vs)

pub stays : (b : Board Item) (s : ℕ) (w : World) → (answer_of b s w ask.Take).reply ≡ answer.Nothing → (answer_of b s w ask.Take).board ≡ b
stays b s w h = look-stays b s w site_worlds h
