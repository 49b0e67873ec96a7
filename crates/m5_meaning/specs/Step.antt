-- What a site does next: a local step of its front thread, or an ask with what the answer makes of the site.
use Rattle.std.specs.Prelude.{ℕ, zero, suc, ◌+◌, ◌-◌, Bool, true, nat_lt, nat_le, if◌then◌else◌, List, [], ◌∷◌, ◌++◌, length, sum_by, slice_get, slice_set, Option, Some, None}
use Rattle.m5_terms.specs.Expression.{Expression, leaf, unary, binary}
use Rattle.m5_terms.specs.TypeExpression as type
use Rattle.m5_terms.specs.Machine.{Next, goes, asks, wrong}
use Rattle.m5_terms.specs.declared.ask.AskOf.{AskOf}
use Rattle.m5_terms.specs.declared.ask.AskOf.TheVariants as ask
use Rattle.m5_terms.specs.declared.ask.AnswerOf.{AnswerOf}
use Rattle.m5_terms.specs.declared.ask.AnswerOf.TheVariants as answer
use Rattle.m5_terms.specs.declared.types.World.{World}
use Rattle.m5_terms.specs.declared.ask.Cause.TheVariants.{Table}
use Rattle.m5_terms.specs.declared.form.LeafForm.TheVariants as leaf_form
use Rattle.m5_terms.specs.declared.form.UnaryForm.TheVariants as unary_form
use Rattle.m5_terms.specs.declared.form.BinaryForm.TheVariants as binary_form
use Rattle.m5_terms.specs.declared.thread.Frame.{Frame}
use Rattle.m5_terms.specs.declared.thread.Frame.TheVariants.{Part, Return}
use Rattle.m5_terms.specs.declared.thread.Focus.{Focus}
use Rattle.m5_terms.specs.declared.thread.Focus.TheVariants.{Eval, Returned}
use Rattle.m5_meaning.specs.Parts.{parts, part, fill, inner_world}
use Rattle.m5_typing.specs.Width.{program_width}
use Rattle.m5_meaning.specs.Site.{Program, Thread, thread_size, Site, Item, thread, raw}
use Rattle.m5_meaning.specs.Reduction.{Reduced, gives, makes_text, goes_on, makes_cell, loads, stores, leaves, says, shows, sets, writes, gets, reads, handles, watches, reduced, unit_value, text_value, unit_or}
use Rattle.m5_meaning.specs.Reduction as reduction

abbrev pub SiteNext : Type 0
SiteNext = Next Site (AskOf Item) (AnswerOf Item)

abbrev pub thread_of : List Frame → Focus → Thread
thread_of fs f = record { frames = fs; focus = f }

-- a step that makes so many bytes of text
abbrev pub step_weight : Program → ℕ → ℕ
step_weight P made = 1 + (program_width P + made)

-- the site after one step more, with these threads
abbrev pub stepped : Program → ℕ → Site → List Thread → Site
stepped P made s ts = record s { threads = ts; steps = s.steps + 1; weight = s.weight + step_weight P made }

-- a site has at most 4,096 threads, cells and handlers
abbrev pub is_full : {A : Type 0} → List A → Bool
is_full xs = nat_le 4096 (length xs)

abbrev pub stopped_by : Site → AnswerOf Item → Option Site
stopped_by s answer.Done = Some (record s { stopped = true })
stopped_by s _ = None

-- in place of a step that would add to what is full
abbrev pub stops_full : Site → SiteNext
stops_full s = asks (ask.Stop Table) (stopped_by s)

-- a node without evaluated parts is a value, but for here, which becomes its address, and spawn, which adds a thread last
abbrev pub atom : Program → Site → List Thread → List Frame → World → Expression → SiteNext
atom P s ts fs w (unary unary_form.Spawn a) =
    if is_full s.threads then stops_full s
    else goes (stepped P 0 s ((thread_of fs (Returned w unit_value) ∷ ts) ++ thread_of [] (Eval w a) ∷ []))
atom P s ts fs w (leaf leaf_form.Here) = goes (stepped P 0 s (thread_of fs (Returned w (leaf (leaf_form.Addr w))) ∷ ts))
atom P s ts fs w (leaf (leaf_form.Str t)) = goes (stepped P (length t) s (thread_of fs (Returned w (text_value t)) ∷ ts))
atom P s ts fs w e = goes (stepped P 0 s (thread_of fs (Returned w e) ∷ ts))

-- a load gives what the cell holds, and is wrong where the site has no such cell
abbrev pub loaded : Program → Site → List Thread → List Frame → World → Option Expression → SiteNext
loaded P s ts fs w None = wrong
loaded P s ts fs w (Some v) = goes (stepped P 0 s (thread_of fs (Returned w v) ∷ ts))

-- a store puts its value in the place of what the cell holds, and is wrong where the site has no such cell
abbrev pub stored : Program → Site → List Thread → List Frame → World → ℕ → Expression → Option Expression → SiteNext
stored P s ts fs w n v None = wrong
stored P s ts fs w n v (Some old) = goes (record (stepped P 0 s (thread_of fs (Returned w unit_value) ∷ ts)) { cells = slice_set s.cells n v })

-- after a primitive that only tells, or a send
abbrev pub after_done : Program → Site → List Thread → AnswerOf Item → Option Site
after_done P s ts answer.Done = Some (stepped P 0 s ts)
after_done P s ts _ = None

abbrev pub after_get_text : Program → Site → List Thread → List Frame → World → AnswerOf Item → Option Site
after_get_text P s ts fs w (answer.Found t) = Some (stepped P (length t) s (thread_of fs (Returned w (text_value t)) ∷ ts))
after_get_text P s ts fs w _ = None

abbrev pub after_read : Program → Site → List Thread → List Frame → World → AnswerOf Item → Option Site
after_read P s ts fs w (answer.Found t) = Some (stepped P (length t) s (thread_of fs (Returned w (unary (unary_form.Inr (unit_or type.string)) (text_value t))) ∷ ts))
after_read P s ts fs w answer.Missing = Some (stepped P 0 s (thread_of fs (Returned w (unary (unary_form.Inl (unit_or type.string)) unit_value)) ∷ ts))
after_read P s ts fs w _ = None

-- a handler joins its site's list, and its number is the list's length before
abbrev pub adds_handler : Program → Site → List Thread → List Frame → World → (ℕ → AskOf Item) → Expression → SiteNext
adds_handler P s ts fs w query h =
    if is_full s.handlers then stops_full s
    else asks (query (length s.handlers)) (after_done P (record s { handlers = s.handlers ++ h ∷ [] }) (thread_of fs (Returned w unit_value) ∷ ts))

-- the outcome of a reduction; u is the site's world, w the focus's
abbrev pub outcome : Program → World → Site → List Thread → List Frame → World → Reduced → SiteNext
outcome P u s ts fs w (gives v) = goes (stepped P 0 s (thread_of fs (Returned w v) ∷ ts))
outcome P u s ts fs w (makes_text t) = goes (stepped P (length t) s (thread_of fs (Returned w (text_value t)) ∷ ts))
outcome P u s ts fs w (goes_on e) = goes (stepped P 0 s (thread_of fs (Eval w e) ∷ ts))
outcome P u s ts fs w (makes_cell v) =
    if is_full s.cells then stops_full s
    else goes (record (stepped P 0 s (thread_of fs (Returned w (leaf (leaf_form.CellAt u (length s.cells)))) ∷ ts)) { cells = s.cells ++ v ∷ [] })
outcome P u s ts fs w (loads n) = loaded P s ts fs w (slice_get s.cells n)
outcome P u s ts fs w (stores n v) = stored P s ts fs w n v (slice_get s.cells n)
outcome P u s ts fs w (leaves v e) = asks (ask.Send v (thread (thread_of (Return w ∷ fs) (Eval v e)))) (after_done P s ts)
outcome P u s ts fs w (says t) = asks (ask.Say t) (after_done P s (thread_of fs (Returned w unit_value) ∷ ts))
outcome P u s ts fs w (shows t) = asks (ask.Show t) (after_done P s (thread_of fs (Returned w unit_value) ∷ ts))
outcome P u s ts fs w (sets e t) = asks (ask.Set e t) (after_done P s (thread_of fs (Returned w unit_value) ∷ ts))
outcome P u s ts fs w (writes k t) = asks (ask.Write k t) (after_done P s (thread_of fs (Returned w unit_value) ∷ ts))
outcome P u s ts fs w (gets e) = asks (ask.GetText e) (after_get_text P s ts fs w)
outcome P u s ts fs w (reads k) = asks (ask.Read k) (after_read P s ts fs w)
outcome P u s ts fs w (handles e h) = adds_handler P s ts fs w (ask.On e) h
outcome P u s ts fs w (watches k h) = adds_handler P s ts fs w (ask.Watch k) h
outcome P u s ts fs w reduction.wrong = wrong

-- part k of a node is looked at, with the node as the frame that waits for it
abbrev pub part_begun : Program → Site → List Thread → List Frame → World → Expression → ℕ → SiteNext
part_begun P s ts fs w e k = goes (stepped P 0 s (thread_of (Part w e k ∷ fs) (Eval (inner_world e w) (part e k)) ∷ ts))

abbrev pub evaluated : Program → Site → List Thread → List Frame → World → Expression → ℕ → SiteNext
evaluated P s ts fs w e zero = atom P s ts fs w e
evaluated P s ts fs w e (suc n) = part_begun P s ts fs w e 0

-- a returned value ends the thread, fills the hole of the top frame, or goes back to the world that a Return names
abbrev pub returned : Program → World → Site → List Thread → List Frame → World → Expression → SiteNext
returned P u s ts [] w v = goes (stepped P 0 s ts)
returned P u s ts (Part x e k ∷ fs) w v =
    let filled = fill e k v in
    if nat_lt (suc k) (parts filled) then part_begun P s ts fs x filled (suc k) else outcome P u s ts fs x (reduced P u filled)
returned P u s ts (Return x ∷ fs) w v = asks (ask.Send x (thread (thread_of fs (Returned x v)))) (after_done P s ts)

abbrev pub focused : Program → World → Site → List Thread → List Frame → Focus → SiteNext
focused P u s ts fs (Eval w e) = evaluated P s ts fs w e (parts e)
focused P u s ts fs (Returned w v) = returned P u s ts fs w v

-- the threads that call these handlers with the text; a number that the site lacks makes none
abbrev pub handler_thread : World → List ℕ → Option Expression → List Thread
handler_thread u t None = []
handler_thread u t (Some h) = thread_of [] (Eval u (binary binary_form.Call h (text_value t))) ∷ []

abbrev pub handler_threads : World → Site → List ℕ → List ℕ → List Thread
handler_threads u s [] t = []
handler_threads u s (n ∷ ns) t = handler_thread u t (slice_get s.handlers n) ++ handler_threads u s ns t

-- threads begin, and weigh their sizes
abbrev pub begun : Site → List Thread → Site
begun s ts = record s { threads = s.threads ++ ts; weight = s.weight + sum_by thread_size ts }

-- a thread that arrives goes into the queue, and raw bytes change nothing
abbrev pub after_take : World → Site → AnswerOf Item → Option Site
after_take u s (answer.Message w (thread t)) = Some (begun s (t ∷ []))
after_take u s (answer.Message w (raw bytes)) = Some s
after_take u s (answer.Fired k n t) = Some (begun s (handler_threads u s (n ∷ []) t))
after_take u s (answer.Event e ns t) = Some (begun s (handler_threads u s ns t))
after_take u s _ = None

abbrev pub front : Program → World → Site → List Thread → SiteNext
front P u s [] = asks ask.Take (after_take u s)
front P u s (t ∷ ts) = focused P u s ts t.frames t.focus

-- what a site at the world u does next
abbrev pub site_next : Program → World → Site → SiteNext
site_next P u s = front P u s s.threads

-- what the step about to be made weighs; of an ask the answer's text is not counted
abbrev pub next_weight : Program → Site → SiteNext → ℕ
next_weight P s (goes t) = t.weight - s.weight
next_weight P s (asks q resume) = step_weight P 0
next_weight P s wrong = 0
