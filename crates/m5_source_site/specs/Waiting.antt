-- What the code's asks and waiting sites stand for.
use Rattle.std.specs.Prelude.{◌≡◌, Bool, false, ◌∷◌, Option, Some}
use Rattle.m5_terms.specs.declared.types.World.{World}
use Rattle.m5_terms.specs.Machine.{goes, asks, wrong}
use Rattle.m5_terms.specs.declared.ask.AnswerOf.{AnswerOf}
use Rattle.m5_meaning.specs.Site.{Program, Thread, Site, Item}
use Rattle.m5_meaning.specs.Step.{SiteNext, is_full, after_done, after_get_text, after_read, after_take, stopped_by}
use Rattle.m5_meaning.specs.Reduction.{Reduced, makes_cell, leaves, says, shows, sets, writes, gets, reads, handles, watches}
use Rattle.m5_source_site.specs.ClosedSite.{IsClosedSite, IsClosedQuery, IsClosedReply}
use Rattle.m5_source_site.specs.declared.resume.Wait.{Wait}
use Rattle.m5_source_site.specs.declared.resume.Wait.TheVariants as wait
use Rattle.m5_source_site.specs.declared.next.Next.{Next}
use Rattle.m5_source_site.specs.declared.next.Next.TheVariants as next

-- what a waiting site at the world u does with an answer
abbrev pub resumed : Program → World → Site → Wait → AnswerOf Item → Option Site
resumed P u s wait.Done = after_done P s s.threads
resumed P u s (wait.Text fs w) = after_get_text P s s.threads fs w
resumed P u s (wait.Read fs w) = after_read P s s.threads fs w
resumed P u s wait.Take = after_take u s
resumed P u s wait.Stop = stopped_by s

-- the code's answer is what the site does next
abbrev pub Stands : Program → World → Next → SiteNext → Type 0
Stands P u (next.Goes s) n = n ≡ goes s
Stands P u (next.Asks q x) n = n ≡ asks q (resumed P u x.site x.wait)
Stands P u next.Wrong n = n ≡ wrong

-- what the code's answer holds is closed, and stays so with each closed reply
abbrev pub KeepsClosed : Program → World → Next → Type 0
KeepsClosed P u (next.Goes s) = IsClosedSite s
KeepsClosed P u (next.Asks q x) = IsClosedQuery q × ((r : AnswerOf Item) (t : Site) → IsClosedReply r → resumed P u x.site x.wait r ≡ Some t → IsClosedSite t)
KeepsClosed P u next.Wrong = Unit {0}

-- the site with one thread more, which runs
abbrev pub with_front : Thread → Site → Site
with_front t s = record s { threads = t ∷ s.threads }

-- what the reduction would add to is full
abbrev pub lacks_place : Site → Reduced → Bool
lacks_place s (makes_cell v) = is_full s.cells
lacks_place s (handles e h) = is_full s.handlers
lacks_place s (watches k h) = is_full s.handlers
lacks_place s _ = false

-- the reduction leads to an ask
abbrev pub IsAsk : Reduced → Type 0
IsAsk (leaves w e) = Unit {0}
IsAsk (says t) = Unit {0}
IsAsk (shows t) = Unit {0}
IsAsk (sets e t) = Unit {0}
IsAsk (writes k t) = Unit {0}
IsAsk (gets e) = Unit {0}
IsAsk (reads k) = Unit {0}
IsAsk (handles e h) = Unit {0}
IsAsk (watches k h) = Unit {0}
IsAsk _ = ⊥
