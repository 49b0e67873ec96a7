-- How many handlers a site has: a local step keeps the number, and an ask that registers one names it and adds one.
use Rattle.std.proofs.Common.{◌≡◌, ℕ, zero, suc, Bool, true, false, nat_lt, if◌then◌else◌, Option, Some, None, List, [], ◌∷◌, ◌++◌, length, slice_get, refl, sym, subst, ap, ◌∙◌}
use Rattle.m5_terms.specs.Expression.{Expression, leaf, unary, binary, ternary}
use Rattle.m5_terms.specs.declared.types.World.{World}
use Rattle.m5_terms.specs.declared.form.LeafForm.TheVariants as leaf_form
use Rattle.m5_terms.specs.declared.form.UnaryForm.TheVariants as unary_form
use Rattle.m5_terms.specs.declared.thread.Frame.{Frame}
use Rattle.m5_terms.specs.declared.thread.Frame.TheVariants.{Part, Return}
use Rattle.m5_terms.specs.declared.thread.Focus.{Focus}
use Rattle.m5_terms.specs.declared.thread.Focus.TheVariants.{Eval, Returned}
use Rattle.m5_terms.specs.Machine.{goes, asks, wrong, Comes}
use Rattle.m5_terms.specs.declared.ask.AskOf.{AskOf}
use Rattle.m5_terms.specs.declared.ask.AskOf.TheVariants as ask
use Rattle.m5_terms.specs.declared.ask.AnswerOf.{AnswerOf}
use Rattle.m5_terms.specs.declared.ask.AnswerOf.TheVariants as answer
use Rattle.m5_meaning.specs.Site.{Program, Thread, Site, Item, thread, raw}
use Rattle.m5_meaning.specs.Parts.{parts, fill}
use Rattle.m5_meaning.specs.Reduction.{Reduced, gives, makes_text, goes_on, makes_cell, loads, stores, leaves, says, shows, sets, writes, gets, reads, handles, watches, reduced}
use Rattle.m5_meaning.specs.Reduction as reduction
use Rattle.m5_meaning.specs.Step.{SiteNext, is_full, stops_full, stopped_by, after_done, after_get_text, after_read, after_take, adds_handler, atom, loaded, stored, outcome, part_begun, evaluated, returned, focused, front, site_next}

-- of n handlers there are m after this ask
abbrev pub Registers : ℕ → AskOf Item → ℕ → Type 0
Registers n (ask.On e k) m = (k ≡ n) × (m ≡ suc n)
Registers n (ask.Watch t k) m = (k ≡ n) × (m ≡ suc n)
Registers n _ m = m ≡ n

abbrev pub CountsHandlers : Site → SiteNext → Type 0
CountsHandlers s (goes t) = length t.handlers ≡ length s.handlers
CountsHandlers s (asks q f) = (r : AnswerOf Item) (x : Site) → f r ≡ Some x → Registers (length s.handlers) q (length x.handlers)
CountsHandlers s wrong = Unit {0}

either : (s : Site) (b : Bool) (x y : SiteNext) → CountsHandlers s x → CountsHandlers s y → CountsHandlers s (if b then x else y)
either s true x y p q = p
either s false x y p q = q

none-some : (x : Site) → None ≡ Some x → ⊥
none-some x e = cc

some-count : (y x : Site) (n : ℕ) → length y.handlers ≡ n → Some y ≡ Some x → length x.handlers ≡ n
some-count y x n h e = let same : y ≡ x = cc in ap (λ (z : Site). length z.handlers) (sym same) ∙ h

done-count : (P : Program) (s : Site) (ts : List Thread) (r : AnswerOf Item) (x : Site) → after_done P s ts r ≡ Some x → length x.handlers ≡ length s.handlers
done-count P s ts answer.Done x e = some-count _ x _ refl e
done-count P s ts _ x e = absurd (none-some x e)

text-count : (P : Program) (s : Site) (ts : List Thread) (fs : List Frame) (w : World) (r : AnswerOf Item) (x : Site) → after_get_text P s ts fs w r ≡ Some x → length x.handlers ≡ length s.handlers
text-count P s ts fs w (answer.Found t) x e = some-count _ x _ refl e
text-count P s ts fs w _ x e = absurd (none-some x e)

read-count : (P : Program) (s : Site) (ts : List Thread) (fs : List Frame) (w : World) (r : AnswerOf Item) (x : Site) → after_read P s ts fs w r ≡ Some x → length x.handlers ≡ length s.handlers
read-count P s ts fs w (answer.Found t) x e = some-count _ x _ refl e
read-count P s ts fs w answer.Missing x e = some-count _ x _ refl e
read-count P s ts fs w _ x e = absurd (none-some x e)

take-count : (u : World) (s : Site) (r : AnswerOf Item) (x : Site) → after_take u s r ≡ Some x → length x.handlers ≡ length s.handlers
take-count u s (answer.Message w (thread t)) x e = some-count _ x _ refl e
take-count u s (answer.Message w (raw b)) x e = some-count _ x _ refl e
take-count u s (answer.Fired k n t) x e = some-count _ x _ refl e
take-count u s (answer.Event y ns t) x e = some-count _ x _ refl e
take-count u s _ x e = absurd (none-some x e)

stop-count : (s : Site) (r : AnswerOf Item) (x : Site) → stopped_by s r ≡ Some x → length x.handlers ≡ length s.handlers
stop-count s answer.Done x e = some-count _ x _ refl e
stop-count s _ x e = absurd (none-some x e)

longer : {A : Type 0} → (xs : List A) (x : A) → length (xs ++ x ∷ []) ≡ suc (length xs)
longer [] x = refl
longer (y ∷ xs) x = ap suc (longer xs x)

loaded-handlers : (P : Program) (s : Site) (ts : List Thread) (fs : List Frame) (w : World) (o : Option Expression) → CountsHandlers s (loaded P s ts fs w o)
loaded-handlers P s ts fs w None = tt
loaded-handlers P s ts fs w (Some v) = refl

stored-handlers : (P : Program) (s : Site) (ts : List Thread) (fs : List Frame) (w : World) (n : ℕ) (v : Expression) (o : Option Expression) → CountsHandlers s (stored P s ts fs w n v o)
stored-handlers P s ts fs w n v None = tt
stored-handlers P s ts fs w n v (Some x) = refl

on-handlers : (P : Program) (s : Site) (ts : List Thread) (fs : List Frame) (w : World) (e : List ℕ) (h : Expression) → CountsHandlers s (adds_handler P s ts fs w (ask.On e) h)
on-handlers P s ts fs w e h = either s (is_full s.handlers) (stops_full s) _ (stop-count s) (λ r x q. (refl, done-count P (record s { handlers = s.handlers ++ h ∷ [] }) _ r x q ∙ longer s.handlers h))

watch-handlers : (P : Program) (s : Site) (ts : List Thread) (fs : List Frame) (w : World) (e : List ℕ) (h : Expression) → CountsHandlers s (adds_handler P s ts fs w (ask.Watch e) h)
watch-handlers P s ts fs w e h = either s (is_full s.handlers) (stops_full s) _ (stop-count s) (λ r x q. (refl, done-count P (record s { handlers = s.handlers ++ h ∷ [] }) _ r x q ∙ longer s.handlers h))

outcome-handlers : (P : Program) (u : World) (s : Site) (ts : List Thread) (fs : List Frame) (w : World) (x : Reduced) → CountsHandlers s (outcome P u s ts fs w x)
outcome-handlers P u s ts fs w (gives v) = refl
outcome-handlers P u s ts fs w (makes_text t) = refl
outcome-handlers P u s ts fs w (goes_on e) = refl
outcome-handlers P u s ts fs w (makes_cell v) = either s (is_full s.cells) (stops_full s) _ (stop-count s) refl
outcome-handlers P u s ts fs w (loads n) = loaded-handlers P s ts fs w (slice_get s.cells n)
outcome-handlers P u s ts fs w (stores n v) = stored-handlers P s ts fs w n v (slice_get s.cells n)
outcome-handlers P u s ts fs w (leaves v e) = done-count P s ts
outcome-handlers P u s ts fs w (says t) = done-count P s _
outcome-handlers P u s ts fs w (shows t) = done-count P s _
outcome-handlers P u s ts fs w (sets e t) = done-count P s _
outcome-handlers P u s ts fs w (writes k t) = done-count P s _
outcome-handlers P u s ts fs w (gets e) = text-count P s ts fs w
outcome-handlers P u s ts fs w (reads k) = read-count P s ts fs w
outcome-handlers P u s ts fs w (handles e h) = on-handlers P s ts fs w e h
outcome-handlers P u s ts fs w (watches e h) = watch-handlers P s ts fs w e h
outcome-handlers P u s ts fs w reduction.wrong = tt

atom-handlers : (P : Program) (s : Site) (ts : List Thread) (fs : List Frame) (w : World) (e : Expression) → CountsHandlers s (atom P s ts fs w e)
atom-handlers P s ts fs w (unary unary_form.Spawn a) = either s (is_full s.threads) (stops_full s) _ (stop-count s) refl
atom-handlers P s ts fs w (leaf leaf_form.Here) = refl
atom-handlers P s ts fs w (leaf (leaf_form.Str t)) = refl
atom-handlers P s ts fs w (leaf _) = refl
atom-handlers P s ts fs w (unary _ a) = refl
atom-handlers P s ts fs w (binary f a b) = refl
atom-handlers P s ts fs w (ternary f a b c) = refl

evaluated-handlers : (P : Program) (s : Site) (ts : List Thread) (fs : List Frame) (w : World) (e : Expression) (n : ℕ) → CountsHandlers s (evaluated P s ts fs w e n)
evaluated-handlers P s ts fs w e zero = atom-handlers P s ts fs w e
evaluated-handlers P s ts fs w e (suc n) = refl

returned-handlers : (P : Program) (u : World) (s : Site) (ts : List Thread) (fs : List Frame) (w : World) (v : Expression) → CountsHandlers s (returned P u s ts fs w v)
returned-handlers P u s ts [] w v = refl
returned-handlers P u s ts (Part x e k ∷ fs) w v =
    either s (nat_lt (suc k) (parts (fill e k v))) (part_begun P s ts fs x (fill e k v) (suc k)) _ refl (outcome-handlers P u s ts fs x (reduced P u (fill e k v)))
returned-handlers P u s ts (Return x ∷ fs) w v = done-count P s ts

focused-handlers : (P : Program) (u : World) (s : Site) (ts : List Thread) (fs : List Frame) (f : Focus) → CountsHandlers s (focused P u s ts fs f)
focused-handlers P u s ts fs (Eval w e) = evaluated-handlers P s ts fs w e (parts e)
focused-handlers P u s ts fs (Returned w v) = returned-handlers P u s ts fs w v

front-handlers : (P : Program) (u : World) (s : Site) (ts : List Thread) → CountsHandlers s (front P u s ts)
front-handlers P u s [] = take-count u s
front-handlers P u s (t ∷ ts) = focused-handlers P u s ts t.frames t.focus

pub next-handlers : (P : Program) (u : World) (s : Site) → CountsHandlers s (site_next P u s)
next-handlers P u s = front-handlers P u s s.threads

pub comes-handlers : (P : Program) (w : World) (n : ℕ) (s t : Site) → Comes (site_next P w) n s t → length t.handlers ≡ length s.handlers
comes-handlers P w zero s t c = ap (λ (x : Site). length x.handlers) (sym c)
comes-handlers P w (suc n) s t c =
    let k : CountsHandlers s (goes c.0) = subst (λ x. CountsHandlers s x) c.1 (next-handlers P w s) in
    comes-handlers P w n c.0 t c.2 ∙ k
