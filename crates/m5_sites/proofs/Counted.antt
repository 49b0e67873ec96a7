-- A local step counts one, and a site without threads looks for something new.
use Rattle.std.proofs.Common.{◌≡◌, ◌≢◌, ℕ, zero, suc, ◌+◌, ◌-◌, ◌<◌, ◌≤◌, Bool, true, false, nat_lt, List, [], ◌∷◌, Option, Some, None, refl, ap, subst, if◌then◌else◌, arith}
use Rattle.std.specs.Prelude.{slice_get}
use Rattle.m5_terms.specs.Expression.{Expression, leaf, unary}
use Rattle.m5_terms.specs.declared.types.World.{World}
use Rattle.m5_terms.specs.declared.ask.Cause.{Cause}
use Rattle.m5_terms.specs.declared.ask.Cause.TheVariants.{Spent, Region, Table}
use Rattle.m5_terms.specs.declared.form.LeafForm.TheVariants as leaf_form
use Rattle.m5_terms.specs.declared.form.UnaryForm.TheVariants as unary_form
use Rattle.m5_terms.specs.declared.thread.Frame.{Frame}
use Rattle.m5_terms.specs.declared.thread.Frame.TheVariants.{Part, Return}
use Rattle.m5_terms.specs.declared.thread.Focus.{Focus}
use Rattle.m5_terms.specs.declared.thread.Focus.TheVariants.{Eval, Returned}
use Rattle.m5_terms.specs.Machine.{goes, asks, wrong}
use Rattle.m5_terms.specs.declared.ask.AskOf.{AskOf}
use Rattle.m5_terms.specs.declared.ask.AskOf.TheVariants as ask
use Rattle.m5_terms.specs.declared.ask.AnswerOf.{AnswerOf}
use Rattle.m5_meaning.specs.Parts.{parts, fill}
use Rattle.m5_meaning.specs.Site.{Program, Thread, Site, Item}
use Rattle.m5_meaning.specs.Reduction.{Reduced, gives, makes_text, goes_on, makes_cell, loads, stores, leaves, says, shows, sets, writes, gets, reads, handles, watches, reduced}
use Rattle.m5_meaning.specs.Reduction as reduction
use Rattle.m5_meaning.specs.Step.{SiteNext, step_weight, is_full, stops_full, atom, loaded, stored, outcome, part_begun, evaluated, returned, focused, after_take, front, site_next, next_weight}

pub idle_asks : (P : Program) (w : World) (x : Site) → x.threads ≡ [] → site_next P w x ≡ asks ask.Take (after_take w x)
idle_asks P w x e = ap (λ (ts : List Thread). front P w x ts) e

-- a local step counts one
abbrev pub IsCounted : Site → SiteNext → Type 0
IsCounted s (goes t) = t.steps ≡ s.steps + 1
IsCounted s _ = Unit {0}

either : (b : Bool) (s : Site) (n : SiteNext) → IsCounted s n → IsCounted s (if b then stops_full s else n)
either true s n h = tt
either false s n h = h

both-ways : (b : Bool) (s : Site) (n m : SiteNext) → IsCounted s n → IsCounted s m → IsCounted s (if b then n else m)
both-ways true s n m h k = h
both-ways false s n m h k = k

loaded-counted : (P : Program) (s : Site) (ts : List Thread) (fs : List Frame) (w : World) (o : Option Expression) → IsCounted s (loaded P s ts fs w o)
loaded-counted P s ts fs w None = tt
loaded-counted P s ts fs w (Some v) = refl

stored-counted : (P : Program) (s : Site) (ts : List Thread) (fs : List Frame) (w : World) (n : ℕ) (v : Expression) (o : Option Expression) → IsCounted s (stored P s ts fs w n v o)
stored-counted P s ts fs w n v None = tt
stored-counted P s ts fs w n v (Some x) = refl

outcome-counted : (P : Program) (u : World) (s : Site) (ts : List Thread) (fs : List Frame) (w : World) (r : Reduced) → IsCounted s (outcome P u s ts fs w r)
outcome-counted P u s ts fs w (makes_cell v) = either (is_full s.cells) s _ refl
outcome-counted P u s ts fs w (loads n) = loaded-counted P s ts fs w (slice_get s.cells n)
outcome-counted P u s ts fs w (handles e h) = either (is_full s.handlers) s _ tt
outcome-counted P u s ts fs w (watches e h) = either (is_full s.handlers) s _ tt
outcome-counted P u s ts fs w (gives v) = refl
outcome-counted P u s ts fs w (makes_text t) = refl
outcome-counted P u s ts fs w (goes_on e) = refl
outcome-counted P u s ts fs w (stores n v) = stored-counted P s ts fs w n v (slice_get s.cells n)
outcome-counted P u s ts fs w (leaves v e) = tt
outcome-counted P u s ts fs w (says t) = tt
outcome-counted P u s ts fs w (shows t) = tt
outcome-counted P u s ts fs w (sets e t) = tt
outcome-counted P u s ts fs w (writes e t) = tt
outcome-counted P u s ts fs w (gets e) = tt
outcome-counted P u s ts fs w (reads e) = tt
outcome-counted P u s ts fs w reduction.wrong = tt

atom-counted : (P : Program) (s : Site) (ts : List Thread) (fs : List Frame) (w : World) (e : Expression) → IsCounted s (atom P s ts fs w e)
atom-counted P s ts fs w (unary unary_form.Spawn a) = either (is_full s.threads) s _ refl
atom-counted P s ts fs w (leaf leaf_form.Here) = refl
atom-counted P s ts fs w (leaf (leaf_form.Str t)) = refl
atom-counted P s ts fs w e = refl

evaluated-counted : (P : Program) (s : Site) (ts : List Thread) (fs : List Frame) (w : World) (e : Expression) (n : ℕ) → IsCounted s (evaluated P s ts fs w e n)
evaluated-counted P s ts fs w e zero = atom-counted P s ts fs w e
evaluated-counted P s ts fs w e (suc n) = refl

returned-counted : (P : Program) (u : World) (s : Site) (ts : List Thread) (fs : List Frame) (w : World) (v : Expression) → IsCounted s (returned P u s ts fs w v)
returned-counted P u s ts [] w v = refl
returned-counted P u s ts (Part x e k ∷ fs) w v =
    both-ways (nat_lt (suc k) (parts (fill e k v))) s (part_begun P s ts fs x (fill e k v) (suc k)) (outcome P u s ts fs x (reduced P u (fill e k v))) refl (outcome-counted P u s ts fs x (reduced P u (fill e k v)))
returned-counted P u s ts (Return x ∷ fs) w v = tt

focused-counted : (P : Program) (u : World) (s : Site) (ts : List Thread) (fs : List Frame) (f : Focus) → IsCounted s (focused P u s ts fs f)
focused-counted P u s ts fs (Eval w e) = evaluated-counted P s ts fs w e (parts e)
focused-counted P u s ts fs (Returned w v) = returned-counted P u s ts fs w v

front-counted : (P : Program) (u : World) (s : Site) (ts : List Thread) → IsCounted s (front P u s ts)
front-counted P u s [] = tt
front-counted P u s (t ∷ ts) = focused-counted P u s ts t.frames t.focus

pub counted : (P : Program) (u : World) (s t : Site) → site_next P u s ≡ goes t → t.steps ≡ s.steps + 1
counted P u s t e = subst (IsCounted s) e (front-counted P u s s.threads)
