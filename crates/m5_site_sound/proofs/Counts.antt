-- Each local step counts as one.
use Rattle.std.proofs.Common.{◌≡◌, ℕ, zero, suc, ◌+◌, Bool, true, false, nat_lt, if◌then◌else◌, Option, Some, None, List, [], ◌∷◌, slice_get, refl}
use Rattle.m5_terms.specs.Expression.{Expression, leaf, unary, binary, ternary}
use Rattle.m5_terms.specs.declared.types.World.{World}
use Rattle.m5_terms.specs.declared.form.LeafForm.TheVariants as leaf_form
use Rattle.m5_terms.specs.declared.form.UnaryForm.TheVariants as unary_form
use Rattle.m5_terms.specs.declared.thread.Frame.{Frame}
use Rattle.m5_terms.specs.declared.thread.Frame.TheVariants.{Part, Return}
use Rattle.m5_terms.specs.declared.thread.Focus.{Focus}
use Rattle.m5_terms.specs.declared.thread.Focus.TheVariants.{Eval, Returned}
use Rattle.m5_terms.specs.Machine.{goes}
use Rattle.m5_meaning.specs.Site.{Program, Thread, Site}
use Rattle.m5_meaning.specs.Parts.{parts, fill}
use Rattle.m5_meaning.specs.Reduction.{Reduced, gives, makes_text, goes_on, makes_cell, loads, stores, handles, watches, reduced}
use Rattle.m5_meaning.specs.Step.{SiteNext, is_full, stops_full, atom, loaded, stored, outcome, part_begun, evaluated, returned, focused, front, site_next}

-- after a local step the site has made one step more
abbrev pub CountsOne : Site → SiteNext → Type 0
CountsOne s (goes t) = t.steps ≡ s.steps + 1
CountsOne s _ = Unit {0}

both-count : (s : Site) (b : Bool) (x y : SiteNext) → CountsOne s x → CountsOne s y → CountsOne s (if b then x else y)
both-count s true x y p q = p
both-count s false x y p q = q

loaded-counts : (P : Program) (s : Site) (ts : List Thread) (fs : List Frame) (w : World) (o : Option Expression) → CountsOne s (loaded P s ts fs w o)
loaded-counts P s ts fs w None = tt
loaded-counts P s ts fs w (Some v) = refl

stored-counts : (P : Program) (s : Site) (ts : List Thread) (fs : List Frame) (w : World) (n : ℕ) (v : Expression) (o : Option Expression) → CountsOne s (stored P s ts fs w n v o)
stored-counts P s ts fs w n v None = tt
stored-counts P s ts fs w n v (Some x) = refl

outcome-counts : (P : Program) (u : World) (s : Site) (ts : List Thread) (fs : List Frame) (w : World) (x : Reduced) → CountsOne s (outcome P u s ts fs w x)
outcome-counts P u s ts fs w (gives v) = refl
outcome-counts P u s ts fs w (makes_text t) = refl
outcome-counts P u s ts fs w (goes_on e) = refl
outcome-counts P u s ts fs w (makes_cell v) = both-count s (is_full s.cells) (stops_full s) _ tt refl
outcome-counts P u s ts fs w (loads n) = loaded-counts P s ts fs w (slice_get s.cells n)
outcome-counts P u s ts fs w (stores n v) = stored-counts P s ts fs w n v (slice_get s.cells n)
outcome-counts P u s ts fs w (handles e h) = both-count s (is_full s.handlers) (stops_full s) _ tt tt
outcome-counts P u s ts fs w (watches e h) = both-count s (is_full s.handlers) (stops_full s) _ tt tt
outcome-counts P u s ts fs w _ = tt

atom-counts : (P : Program) (s : Site) (ts : List Thread) (fs : List Frame) (w : World) (e : Expression) → CountsOne s (atom P s ts fs w e)
atom-counts P s ts fs w (unary unary_form.Spawn a) = both-count s (is_full s.threads) (stops_full s) _ tt refl
atom-counts P s ts fs w (leaf leaf_form.Here) = refl
atom-counts P s ts fs w (leaf (leaf_form.Str t)) = refl
atom-counts P s ts fs w (leaf _) = refl
atom-counts P s ts fs w (unary _ a) = refl
atom-counts P s ts fs w (binary f a b) = refl
atom-counts P s ts fs w (ternary f a b c) = refl

evaluated-counts : (P : Program) (s : Site) (ts : List Thread) (fs : List Frame) (w : World) (e : Expression) (n : ℕ) → CountsOne s (evaluated P s ts fs w e n)
evaluated-counts P s ts fs w e zero = atom-counts P s ts fs w e
evaluated-counts P s ts fs w e (suc n) = refl

returned-counts : (P : Program) (u : World) (s : Site) (ts : List Thread) (fs : List Frame) (w : World) (v : Expression) → CountsOne s (returned P u s ts fs w v)
returned-counts P u s ts [] w v = refl
returned-counts P u s ts (Part x e k ∷ fs) w v =
    both-count s (nat_lt (suc k) (parts (fill e k v))) (part_begun P s ts fs x (fill e k v) (suc k)) _ refl (outcome-counts P u s ts fs x (reduced P u (fill e k v)))
returned-counts P u s ts (Return x ∷ fs) w v = tt

focused-counts : (P : Program) (u : World) (s : Site) (ts : List Thread) (fs : List Frame) (f : Focus) → CountsOne s (focused P u s ts fs f)
focused-counts P u s ts fs (Eval w e) = evaluated-counts P s ts fs w e (parts e)
focused-counts P u s ts fs (Returned w v) = returned-counts P u s ts fs w v

front-counts : (P : Program) (u : World) (s : Site) (ts : List Thread) → CountsOne s (front P u s ts)
front-counts P u s [] = tt
front-counts P u s (t ∷ ts) = focused-counts P u s ts t.frames t.focus

pub next-counts : (P : Program) (u : World) (s : Site) → CountsOne s (site_next P u s)
next-counts P u s = front-counts P u s s.threads
