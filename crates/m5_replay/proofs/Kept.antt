-- A local step puts into the cells and the other threads only parts of what was in the focus or the top frame, so that
-- of a site within the budget of depth the front thread's top frame and focus tell whether it stays so.
use Rattle.std.proofs.Common.{◌≡◌, ℕ, zero, suc, ◌+◌, Bool, true, false, IsTrue, ◌&&◌, nat_lt, List, [], ◌∷◌, ◌++◌, length, Option, Some, None, refl, sym, ap, subst, ◌∙◌, if◌then◌else◌, arith}
use Rattle.std.specs.Prelude.{slice_get, slice_set}
use Rattle.std.specs.List.{list_all}
use Rattle.std.proofs.lemmas.List.Recursion.{and_set, and_push}
use Rattle.m5_terms.specs.Expression.{Expression, leaf, unary}
use Rattle.m5_terms.specs.Depth.{depth}
use Rattle.m5_terms.specs.Machine.{goes}
use Rattle.m5_terms.specs.declared.types.World.{World}
use Rattle.m5_terms.specs.declared.form.LeafForm.TheVariants as leaf_form
use Rattle.m5_terms.specs.declared.form.UnaryForm.TheVariants as unary_form
use Rattle.m5_terms.specs.declared.thread.Frame.{Frame}
use Rattle.m5_terms.specs.declared.thread.Frame.TheVariants.{Part, Return}
use Rattle.m5_terms.specs.declared.thread.Focus.{Focus}
use Rattle.m5_terms.specs.declared.thread.Focus.TheVariants.{Eval, Returned}
use Rattle.m5_terms.proofs.ClosedTerms.{both, left, right}
use Rattle.m5_meaning.specs.Parts.{parts, part, fill, inner_world}
use Rattle.m5_meaning.specs.Site.{Program, Thread, Site}
use Rattle.m5_meaning.specs.Reduction.{Reduced, gives, makes_text, goes_on, makes_cell, loads, stores, leaves, says, shows, sets, writes, gets, reads, handles, watches, reduced, unit_value, text_value}
use Rattle.m5_meaning.specs.Reduction as reduction
use Rattle.m5_meaning.specs.Step.{SiteNext, thread_of, stepped, is_full, stops_full, atom, loaded, stored, outcome, part_begun, evaluated, returned, focused, front, site_next}
use Rattle.m5_replay.specs.Depth.{is_shallow, is_shallow_frame, is_shallow_focus, is_shallow_thread, is_shallow_site}
use Rattle.m5_replay.specs.code.Front.{is_shallow_top, is_shallow_front}
use Rattle.m5_replay.proofs.Fills.{FillsShallow, lower, filled-fills}

-- the terms that a local step puts elsewhere than into the front thread are within the budget, and so is what it leaves
record Rest (s : Site) (ts : List Thread) (fs : List Frame) : Type 0 where
  frames : IsTrue (list_all is_shallow_frame fs)
  threads : IsTrue (list_all is_shallow_thread ts)
  cells : IsTrue (list_all is_shallow s.cells)
  handlers : IsTrue (list_all is_shallow s.handlers)

last-true : (a b : Bool) → IsTrue b → (a && b) ≡ a
last-true true b h = h
last-true false b h = refl

-- the frames under the top one
abbrev below : List Frame → Bool
below [] = true
below (f ∷ fs) = list_all is_shallow_frame fs

all-below : (fs : List Frame) → IsTrue (list_all is_shallow_frame fs) → IsTrue (below fs)
all-below [] h = refl
all-below (f ∷ fs) h = right (is_shallow_frame f) (list_all is_shallow_frame fs) h

top-tells : (fs : List Frame) → IsTrue (below fs) → is_shallow_top fs ≡ list_all is_shallow_frame fs
top-tells [] h = refl
top-tells (f ∷ fs) h = sym (last-true (is_shallow_frame f) (list_all is_shallow_frame fs) h)

-- where all else is within the budget, the front thread tells of the site
tells : (fs : List Frame) (f : Focus) (ts : List Thread) (cs hs : List Expression) → IsTrue (below fs) → IsTrue (list_all is_shallow_thread ts) → IsTrue (list_all is_shallow cs) → IsTrue (list_all is_shallow hs) → (is_shallow_top fs && is_shallow_focus f) ≡ (list_all is_shallow_thread (thread_of fs f ∷ ts) && (list_all is_shallow cs && list_all is_shallow hs))
tells fs f ts cs hs b t c h =
    let front = list_all is_shallow_frame fs && is_shallow_focus f in
    let store = list_all is_shallow cs && list_all is_shallow hs in
    ap (λ x. x && is_shallow_focus f) (top-tells fs b)
    ∙ sym (last-true front (list_all is_shallow_thread ts) t)
    ∙ sym (last-true (front && list_all is_shallow_thread ts) store (both (list_all is_shallow cs) (list_all is_shallow hs) c h))

abbrev Tells : SiteNext → Type 0
Tells (goes t) = is_shallow_front t.threads ≡ is_shallow_site t
Tells _ = Unit {0}

either : (b : Bool) (s : Site) (n : SiteNext) → Tells n → Tells (if b then stops_full s else n)
either true s n h = tt
either false s n h = h

both-ways : (b : Bool) (n m : SiteNext) → Tells n → Tells m → Tells (if b then n else m)
both-ways true n m h k = h
both-ways false n m h k = k

one-more : {A : Type 0} (p : A → Bool) (xs : List A) (x : A) → IsTrue (list_all p xs) → IsTrue (p x) → IsTrue (list_all p (xs ++ x ∷ []))
one-more p xs x h k = and_push (list_all p) p refl (λ y ys. refl) xs x ∙ both (list_all p xs) (p x) h k

-- the front thread goes on, and all else stays
goes-on : (P : Program) (n : ℕ) (s : Site) (ts : List Thread) (fs : List Frame) (f : Focus) → Rest s ts fs → Tells (goes (stepped P n s (thread_of fs f ∷ ts)))
goes-on P n s ts fs f r = tells fs f ts s.cells s.handlers (all-below fs r.frames) r.threads r.cells r.handlers

part-tells : (P : Program) (s : Site) (ts : List Thread) (fs : List Frame) (w : World) (e : Expression) (k : ℕ) → Rest s ts fs → Tells (part_begun P s ts fs w e k)
part-tells P s ts fs w e k r = tells (Part w e k ∷ fs) (Eval (inner_world e w) (part e k)) ts s.cells s.handlers r.frames r.threads r.cells r.handlers

ends : (P : Program) (s : Site) (ts : List Thread) → IsTrue (list_all is_shallow_thread ts) → IsTrue (list_all is_shallow s.cells) → IsTrue (list_all is_shallow s.handlers) → Tells (goes (stepped P 0 s ts))
ends P s [] t c h = sym (both (list_all is_shallow s.cells) (list_all is_shallow s.handlers) c h)
ends P s (t ∷ ts) i c h =
    let front = left (is_shallow_thread t) (list_all is_shallow_thread ts) i in
    tells t.frames t.focus ts s.cells s.handlers (all-below t.frames (left (list_all is_shallow_frame t.frames) (is_shallow_focus t.focus) front)) (right (is_shallow_thread t) (list_all is_shallow_thread ts) i) c h

atom-tells : (P : Program) (s : Site) (ts : List Thread) (fs : List Frame) (w : World) (e : Expression) → Rest s ts fs → IsTrue (is_shallow e) → Tells (atom P s ts fs w e)
atom-tells P s ts fs w (unary unary_form.Spawn a) r h =
    either (is_full s.threads) s _ (tells fs (Returned w unit_value) (ts ++ thread_of [] (Eval w a) ∷ []) s.cells s.handlers (all-below fs r.frames) (one-more is_shallow_thread ts (thread_of [] (Eval w a)) r.threads (lower (depth a) (1 + depth a) (omega arith) h)) r.cells r.handlers)
atom-tells P s ts fs w (leaf leaf_form.Here) r h = goes-on P 0 s ts fs (Returned w (leaf (leaf_form.Addr w))) r
atom-tells P s ts fs w (leaf (leaf_form.Str t)) r h = goes-on P (length t) s ts fs (Returned w (text_value t)) r
atom-tells P s ts fs w e r h = goes-on P 0 s ts fs (Returned w e) r

loaded-tells : (P : Program) (s : Site) (ts : List Thread) (fs : List Frame) (w : World) (o : Option Expression) → Rest s ts fs → Tells (loaded P s ts fs w o)
loaded-tells P s ts fs w None r = tt
loaded-tells P s ts fs w (Some v) r = goes-on P 0 s ts fs (Returned w v) r

stored-tells : (P : Program) (s : Site) (ts : List Thread) (fs : List Frame) (w : World) (n : ℕ) (v : Expression) (o : Option Expression) → Rest s ts fs → IsTrue (is_shallow v) → Tells (stored P s ts fs w n v o)
stored-tells P s ts fs w n v None r h = tt
stored-tells P s ts fs w n v (Some x) r h = tells fs (Returned w unit_value) ts (slice_set s.cells n v) s.handlers (all-below fs r.frames) r.threads (and_set (list_all is_shallow) is_shallow refl (λ y ys. refl) s.cells n v h r.cells) r.handlers

outcome-tells : (P : Program) (u : World) (s : Site) (ts : List Thread) (fs : List Frame) (w : World) (r : Reduced) → Rest s ts fs → FillsShallow r → Tells (outcome P u s ts fs w r)
outcome-tells P u s ts fs w (makes_cell v) r h =
    either (is_full s.cells) s _ (tells fs (Returned w (leaf (leaf_form.CellAt u (length s.cells)))) ts (s.cells ++ v ∷ []) s.handlers (all-below fs r.frames) r.threads (one-more is_shallow s.cells v r.cells h) r.handlers)
outcome-tells P u s ts fs w (loads n) r h = loaded-tells P s ts fs w (slice_get s.cells n) r
outcome-tells P u s ts fs w (stores n v) r h = stored-tells P s ts fs w n v (slice_get s.cells n) r h
outcome-tells P u s ts fs w (handles e k) r h = either (is_full s.handlers) s _ tt
outcome-tells P u s ts fs w (watches e k) r h = either (is_full s.handlers) s _ tt
outcome-tells P u s ts fs w (gives v) r h = goes-on P 0 s ts fs (Returned w v) r
outcome-tells P u s ts fs w (makes_text t) r h = goes-on P (length t) s ts fs (Returned w (text_value t)) r
outcome-tells P u s ts fs w (goes_on e) r h = goes-on P 0 s ts fs (Eval w e) r
outcome-tells P u s ts fs w (leaves v e) r h = tt
outcome-tells P u s ts fs w (says t) r h = tt
outcome-tells P u s ts fs w (shows t) r h = tt
outcome-tells P u s ts fs w (sets e t) r h = tt
outcome-tells P u s ts fs w (writes e t) r h = tt
outcome-tells P u s ts fs w (gets e) r h = tt
outcome-tells P u s ts fs w (reads e) r h = tt
outcome-tells P u s ts fs w reduction.wrong r h = tt

evaluated-tells : (P : Program) (s : Site) (ts : List Thread) (fs : List Frame) (w : World) (e : Expression) (n : ℕ) → Rest s ts fs → IsTrue (is_shallow e) → Tells (evaluated P s ts fs w e n)
evaluated-tells P s ts fs w e zero r h = atom-tells P s ts fs w e r h
evaluated-tells P s ts fs w e (suc n) r h = part-tells P s ts fs w e 0 r

returned-tells : (P : Program) (u : World) (s : Site) (ts : List Thread) (fs : List Frame) (w : World) (v : Expression) → Rest s ts fs → IsTrue (is_shallow v) → Tells (returned P u s ts fs w v)
returned-tells P u s ts [] w v r h = ends P s ts r.threads r.cells r.handlers
returned-tells P u s ts (Part x e k ∷ fs) w v r h =
    let filled = fill e k v in
    let under : Rest s ts fs = record { frames = right (is_shallow e) (list_all is_shallow_frame fs) r.frames; threads = r.threads; cells = r.cells; handlers = r.handlers } in
    both-ways (nat_lt (suc k) (parts filled)) (part_begun P s ts fs x filled (suc k)) (outcome P u s ts fs x (reduced P u filled)) (part-tells P s ts fs x filled (suc k) under)
    (outcome-tells P u s ts fs x (reduced P u filled) under (filled-fills P u e k v (left (is_shallow e) (list_all is_shallow_frame fs) r.frames) h))
returned-tells P u s ts (Return x ∷ fs) w v r h = tt

focused-tells : (P : Program) (u : World) (s : Site) (ts : List Thread) (fs : List Frame) (f : Focus) → Rest s ts fs → IsTrue (is_shallow_focus f) → Tells (focused P u s ts fs f)
focused-tells P u s ts fs (Eval w e) r h = evaluated-tells P s ts fs w e (parts e) r h
focused-tells P u s ts fs (Returned w v) r h = returned-tells P u s ts fs w v r h

front-tells : (P : Program) (u : World) (s : Site) (ts : List Thread) → IsTrue (list_all is_shallow_thread ts && (list_all is_shallow s.cells && list_all is_shallow s.handlers)) → Tells (front P u s ts)
front-tells P u s [] h = tt
front-tells P u s (t ∷ ts) h =
    let threads = left (list_all is_shallow_thread (t ∷ ts)) (list_all is_shallow s.cells && list_all is_shallow s.handlers) h in
    let store = right (list_all is_shallow_thread (t ∷ ts)) (list_all is_shallow s.cells && list_all is_shallow s.handlers) h in
    let thread = left (is_shallow_thread t) (list_all is_shallow_thread ts) threads in
    let rest : Rest s ts t.frames = record {
      frames = left (list_all is_shallow_frame t.frames) (is_shallow_focus t.focus) thread;
      threads = right (is_shallow_thread t) (list_all is_shallow_thread ts) threads;
      cells = left (list_all is_shallow s.cells) (list_all is_shallow s.handlers) store;
      handlers = right (list_all is_shallow s.cells) (list_all is_shallow s.handlers) store;
    } in
    focused-tells P u s ts t.frames t.focus rest (right (list_all is_shallow_frame t.frames) (is_shallow_focus t.focus) thread)

pub kept : (P : Program) (u : World) (s t : Site) → site_next P u s ≡ goes t → IsTrue (is_shallow_site s) → is_shallow_front t.threads ≡ is_shallow_site t
kept P u s t e h = subst Tells e (front-tells P u s s.threads h)
