-- The board's answer to a closed ask is closed, and so is the board after it.
use Rattle.std.proofs.Common.{◌==◌, ℕ, Bool, true, false, if◌then◌else◌, Option, Some, None, List, [], ◌∷◌, ◌++◌}
use Rattle.std.specs.List.{All}
use Rattle.std.specs.Str.{bytes_eq}
use Rattle.std.proofs.lemmas.List.Elements.{All-head, All-tail, All-push}
use Rattle.m5_terms.specs.declared.per_world.PerWorld.{PerWorld}
use Rattle.m5_terms.specs.PerWorld.{at, with_at}
use Rattle.m5_terms.proofs.PerWorlds.{either-at}
use Rattle.m5_terms.specs.Worlds.{site_worlds}
use Rattle.m5_terms.specs.declared.types.World.{World}
use Rattle.m5_terms.specs.declared.types.World.TheVariants.{Home, Server}
use Rattle.m5_terms.specs.declared.ask.AskOf.{AskOf}
use Rattle.m5_terms.specs.declared.ask.AskOf.TheVariants as ask
use Rattle.m5_meaning.specs.Site.{Item}
use Rattle.m5_network.specs.Board.{Board, Desk, Watch, Event, Trigger, Answered, at_session, link, with_link, posted, text_at, text_or_missing, text_or_empty, take_event, take_trigger, take_other, take_from, take_at, answer_of}
use Rattle.m5_source_site.specs.ClosedSite.{IsClosedItem, IsClosedQuery, IsClosedReply}
use Rattle.m5_sites.specs.ClosedSites.{IsClosedBoard}

abbrev AreClosed : Desk Item → Type 0
AreClosed d = (v w : World) → All IsClosedItem (link d v w)

pub record IsClosedAnswer (a : Answered Item) : Type 0 where
  pub reply_ : IsClosedReply a.reply
  pub board_ : IsClosedBoard a.board

by-desk : (b : Bool) (d e : Desk Item) → AreClosed d → AreClosed e → AreClosed (if b then d else e)
by-desk true d e h k = h
by-desk false d e h k = k

by-desks : (b : Bool) (f g : ℕ → Desk Item) (z : ℕ) → AreClosed (f z) → AreClosed (g z) → AreClosed ((if b then f else g) z)
by-desks true f g z h k = h
by-desks false f g z h k = k

desk-set : (b : Board Item) (s : ℕ) (d : Desk Item) → IsClosedBoard b → AreClosed d → IsClosedBoard (record b { desks = at_session s d b.desks })
desk-set b s d h k = λ z. by-desk (z == s) d (b.desks z) k (h z)

link-set : (d : Desk Item) (v w : World) (items : List Item) → AreClosed d → All IsClosedItem items → AreClosed (with_link v w items d)
link-set d v w items h k = λ x y.
    let R : PerWorld (List Item) → Type 0 = λ r. All IsClosedItem (at r y) in
    either-at R d.links v (with_at w items (at d.links v)) x (either-at (All IsClosedItem) (at d.links v) w items y k (h v y)) (h x y)

posted-closed : (key text : List ℕ) (ws : List Watch) (desks : ℕ → Desk Item) → ((z : ℕ) → AreClosed (desks z)) → (z : ℕ) → AreClosed (posted key text ws desks z)
posted-closed key text [] desks h = h
posted-closed key text (w ∷ ws) desks h =
    let d : Desk Item = record (desks w.session) { triggers = (desks w.session).triggers ++ record { key = key; number = w.number; text = text } ∷ [] } in
    let f : ℕ → Desk Item = at_session w.session d desks in
    λ z. by-desks (bytes_eq w.key key) (posted key text ws f) (posted key text ws desks) z (posted-closed key text ws f (λ y. by-desk (y == w.session) d (desks y) (h w.session) (h y)) z) (posted-closed key text ws desks h z)

event-closed : (b : Board Item) (s : ℕ) (es : List Event) → IsClosedBoard b → IsClosedAnswer (take_event b s (b.desks s) es)
event-closed b s [] h = record { reply_ = tt; board_ = h }
event-closed b s (e ∷ es) h = record { reply_ = tt; board_ = desk-set b s (record (b.desks s) { events = es }) h (h s) }

trigger-closed : (b : Board Item) (s : ℕ) (rs : List Trigger) → IsClosedBoard b → IsClosedAnswer (take_trigger b s (b.desks s) rs)
trigger-closed b s [] h = record { reply_ = tt; board_ = h }
trigger-closed b s (r ∷ rs) h = record { reply_ = tt; board_ = desk-set b s (record (b.desks s) { triggers = rs }) h (h s) }

other-closed : (b : Board Item) (s : ℕ) (w : World) → IsClosedBoard b → IsClosedAnswer (take_other b s w)
other-closed b s Home h = event-closed b s (b.desks s).events h
other-closed b s Server h = trigger-closed b s (b.desks s).triggers h
other-closed b s _ h = record { reply_ = tt; board_ = h }

from-closed : (b : Board Item) (s : ℕ) (w v : World) (is : List Item) (o : Answered Item) → IsClosedBoard b → All IsClosedItem is → IsClosedAnswer o → IsClosedAnswer (take_from b s w v is o)
from-closed b s w v [] o h k n = n
from-closed b s w v (i ∷ is) o h k n = record { reply_ = All-head IsClosedItem i is k; board_ = desk-set b s (with_link v w is (b.desks s)) h (link-set (b.desks s) v w is (h s) (All-tail IsClosedItem i is k)) }

look-closed : (b : Board Item) (s : ℕ) (w : World) (ws : List World) → IsClosedBoard b → IsClosedAnswer (take_at b s w ws)
look-closed b s w [] h = other-closed b s w h
look-closed b s w (v ∷ vs) h = from-closed b s w v (link (b.desks s) v w) (take_at b s w vs) h (h s v w) (look-closed b s w vs h)

missing-closed : (o : Option (List ℕ)) → IsClosedReply (text_or_missing o)
missing-closed None = tt
missing-closed (Some t) = tt

empty-closed : (o : Option (List ℕ)) → IsClosedReply (text_or_empty o)
empty-closed None = tt
empty-closed (Some t) = tt

pub answer-closed : (b : Board Item) (s : ℕ) (w : World) (q : AskOf Item) → IsClosedQuery q → IsClosedBoard b → IsClosedAnswer (answer_of b s w q)
answer-closed b s w (ask.Say x) a h = record { reply_ = tt; board_ = h }
answer-closed b s w (ask.Set e x) a h = record { reply_ = tt; board_ = desk-set b s _ h (h s) }
answer-closed b s w (ask.GetText e) a h = record { reply_ = empty-closed (text_at (b.desks s).texts e); board_ = h }
answer-closed b s w (ask.On e n) a h = record { reply_ = tt; board_ = desk-set b s _ h (h s) }
answer-closed b s w (ask.Read k) a h = record { reply_ = missing-closed (text_at b.pairs k); board_ = h }
answer-closed b s w (ask.Write k x) a h = record { reply_ = tt; board_ = posted-closed k x b.watches b.desks h }
answer-closed b s w (ask.Watch k n) a h = record { reply_ = tt; board_ = h }
answer-closed b s w (ask.Send v i) a h = record { reply_ = tt; board_ = desk-set b s _ h (link-set (b.desks s) w v _ (h s) (All-push IsClosedItem (link (b.desks s) w v) i (h s w v) a)) }
answer-closed b s w ask.Take a h = look-closed b s w site_worlds h
answer-closed b s w (ask.Show x) a h = record { reply_ = tt; board_ = h }
answer-closed b s w (ask.Stop c) a h = record { reply_ = tt; board_ = h }
