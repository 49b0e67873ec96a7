-- A closed site stays closed.
use Rattle.std.proofs.Common.{◌≡◌, ℕ, zero, suc, Bool, true, false, List, [], ◌∷◌, ◌++◌, length, Option, Some, None, refl, if◌then◌else◌, nat_lt, subst, ◌<◌, ◌≤◌, arith}
use Rattle.std.proofs.lemmas.Bool.{ltb-true}
use Rattle.std.specs.Prelude.{slice_get, All}
use Rattle.std.proofs.lemmas.List.Elements.{All-nil, All-cons, All-head, All-tail, All-append, All-set, All-push}
use Rattle.m5_terms.specs.Expression.{Expression, leaf, unary, binary, ternary}
use Rattle.m5_terms.specs.Closed.{IsClosed, closed_under}
use Rattle.m5_terms.specs.declared.types.World.{World}
use Rattle.m5_terms.specs.declared.form.LeafForm.TheVariants as leaf_form
use Rattle.m5_terms.specs.declared.form.UnaryForm.{UnaryForm}
use Rattle.m5_terms.specs.declared.form.UnaryForm.TheVariants as unary_form
use Rattle.m5_terms.specs.declared.form.BinaryForm.{BinaryForm}
use Rattle.m5_terms.specs.declared.form.BinaryForm.TheVariants as binary_form
use Rattle.m5_terms.specs.declared.thread.Frame.{Frame}
use Rattle.m5_terms.specs.declared.thread.Frame.TheVariants.{Part, Return}
use Rattle.m5_terms.specs.declared.thread.Focus.{Focus}
use Rattle.m5_terms.specs.declared.thread.Focus.TheVariants.{Eval, Returned}
use Rattle.m5_terms.specs.declared.ask.AskOf.{AskOf}
use Rattle.m5_terms.specs.declared.ask.AskOf.TheVariants as ask
use Rattle.m5_terms.specs.declared.ask.AnswerOf.{AnswerOf}
use Rattle.m5_terms.specs.declared.ask.AnswerOf.TheVariants as answer
use Rattle.m5_meaning.specs.Parts.{parts, part, fill, inner_world, unary_parts, binary_parts}
use Rattle.m5_meaning.specs.Site.{Program, Thread, Site, Item, thread, raw}
use Rattle.m5_meaning.specs.Reduction.{Reduced, gives, makes_text, goes_on, makes_cell, loads, stores, leaves, says, shows, sets, writes, gets, reads, handles, watches, reduced, unit_value}
use Rattle.m5_meaning.specs.Reduction as reduction
use Rattle.m5_meaning.specs.Step.{SiteNext, thread_of, stepped, is_full, stopped_by, stops_full, atom, loaded, stored, after_done, after_get_text, after_read, adds_handler, outcome, part_begun, evaluated, returned, focused, handler_thread, handler_threads, begun, after_take, front}
use Rattle.m5_source_site.specs.ClosedSite.{IsClosedFrame, IsClosedFocus, IsClosedThread, IsClosedSite, IsClosedProgram, IsClosedQuery, IsClosedReply, IsClosedNext, StaysClosed}
use Rattle.std.specs.Prelude.{Result, Ok, Err, IfOk}
use Rattle.std.specs.declared.alloc.AllocError.{AllocError}
use Rattle.m5_source_site.specs.declared.next.Next.{Next}
use Rattle.m5_source_site.specs.declared.next.Next.TheVariants as next
use Rattle.m5_source_site.specs.Waiting.{Stands, KeepsClosed}
use Rattle.m5_terms.proofs.ClosedTerms.{both, left, right, everywhere}
use Rattle.m5_source_site.proofs.ClosedReduction.{IsClosedReduced, reduced-closed}

-- what an answer gives is what it is
given : (x y : Site) → IsClosedSite x → Some x ≡ Some y → IsClosedSite y
given x y h e = let k : x ≡ y = cc in subst IsClosedSite k h

some-is : (P : Expression → Type 0) (x y : Expression) → P x → Some x ≡ Some y → P y
some-is P x y h e = let k : x ≡ y = cc in subst P k h

at-place : (P : Expression → Type 0) (xs : List Expression) (n : ℕ) (x : Expression) → slice_get xs n ≡ Some x → All P xs → P x
at-place P [] n x e h = cc
at-place P (y ∷ ys) zero x e h = some-is P y x (All-head P y ys h) e
at-place P (y ∷ ys) (suc n) x e h = at-place P ys n x e (All-tail P y ys h)

-- a site with other closed threads, and a step more
moved : (P : Program) (n : ℕ) (s : Site) (ts : List Thread) → All IsClosedThread ts → IsClosedSite s → IsClosedSite (stepped P n s ts)
moved P n s ts h c = record { threads = h; cells = c.cells; handlers = c.handlers }

-- with a closed thread in front
going : (P : Program) (n : ℕ) (s : Site) (ts : List Thread) (fs : List Frame) (f : Focus) → All IsClosedThread ts → All IsClosedFrame fs → IsClosedFocus f → IsClosedSite s → IsClosedSite (stepped P n s (thread_of fs f ∷ ts))
going P n s ts fs f h k m c = moved P n s _ (All-cons IsClosedThread (thread_of fs f) ts (record { frames = k; focus = m }) h) c

stopped : (s : Site) → IsClosedSite s → (r : AnswerOf Item) (t : Site) → IsClosedReply r → stopped_by s r ≡ Some t → IsClosedSite t
stopped s c answer.Done t k e = given _ t (record { threads = c.threads; cells = c.cells; handlers = c.handlers }) e
stopped s c _ t k e = cc

stopping : (s : Site) → IsClosedSite s → IsClosedNext (stops_full s)
stopping s c = (tt, stopped s c)

told : (P : Program) (s : Site) (ts : List Thread) → All IsClosedThread ts → IsClosedSite s → (r : AnswerOf Item) (t : Site) → IsClosedReply r → after_done P s ts r ≡ Some t → IsClosedSite t
told P s ts h c answer.Done t k e = given _ t (moved P 0 s ts h c) e
told P s ts h c _ t k e = cc

got-text : (P : Program) (s : Site) (ts : List Thread) (fs : List Frame) (w : World) → All IsClosedThread ts → All IsClosedFrame fs → IsClosedSite s → (r : AnswerOf Item) (t : Site) → IsClosedReply r → after_get_text P s ts fs w r ≡ Some t → IsClosedSite t
got-text P s ts fs w h m c (answer.Found x) t k e = given _ t (going P (length x) s ts fs _ h m refl c) e
got-text P s ts fs w h m c _ t k e = cc

got-read : (P : Program) (s : Site) (ts : List Thread) (fs : List Frame) (w : World) → All IsClosedThread ts → All IsClosedFrame fs → IsClosedSite s → (r : AnswerOf Item) (t : Site) → IsClosedReply r → after_read P s ts fs w r ≡ Some t → IsClosedSite t
got-read P s ts fs w h m c (answer.Found x) t k e = given _ t (going P (length x) s ts fs _ h m refl c) e
got-read P s ts fs w h m c answer.Missing t k e = given _ t (going P 0 s ts fs _ h m refl c) e
got-read P s ts fs w h m c _ t k e = cc

-- unit comes back
unit-back : (ts : List Thread) (fs : List Frame) (w : World) → All IsClosedThread ts → All IsClosedFrame fs → All IsClosedThread (thread_of fs (Returned w unit_value) ∷ ts)
unit-back ts fs w h m = All-cons IsClosedThread _ ts (record { frames = m; focus = refl }) h

handler-joins : (s : Site) (k : Expression) → IsClosedSite s → IsClosed k → IsClosedSite (record s { handlers = s.handlers ++ k ∷ [] })
handler-joins s k c h = record { threads = c.threads; cells = c.cells; handlers = All-push IsClosed s.handlers k c.handlers h }

joins-or-stops : (t : Bool) (s : Site) (n : SiteNext) → IsClosedSite s → IsClosedNext n → IsClosedNext (if t then stops_full s else n)
joins-or-stops true s n c h = stopping s c
joins-or-stops false s n c h = h

handler-added : (P : Program) (s : Site) (ts : List Thread) (fs : List Frame) (w : World) (q : ℕ → AskOf Item) (k : Expression) → IsClosedSite s → All IsClosedThread ts → All IsClosedFrame fs → IsClosed k → IsClosedQuery (q (length s.handlers)) → IsClosedNext (adds_handler P s ts fs w q k)
handler-added P s ts fs w q k c h m d a =
    joins-or-stops (is_full s.handlers) s _ c (a, told P _ _ (unit-back ts fs w h m) (handler-joins s k c d))

loaded-closed : (P : Program) (s : Site) (ts : List Thread) (fs : List Frame) (w : World) (o : Option Expression) → ((v : Expression) → o ≡ Some v → IsClosed v) → All IsClosedThread ts → All IsClosedFrame fs → IsClosedSite s → IsClosedNext (loaded P s ts fs w o)
loaded-closed P s ts fs w None k h m c = tt
loaded-closed P s ts fs w (Some v) k h m c = going P 0 s ts fs (Returned w v) h m (k v refl) c

cell-closed : (P : Program) (n : ℕ) (s : Site) (ts : List Thread) (fs : List Frame) (f : Focus) (xs : List Expression) → All IsClosedThread ts → All IsClosedFrame fs → IsClosedFocus f → All IsClosed xs → IsClosedSite s → IsClosedSite (record (stepped P n s (thread_of fs f ∷ ts)) { cells = xs })
cell-closed P n s ts fs f xs h m k a c = record { threads = (going P n s ts fs f h m k c).threads; cells = a; handlers = c.handlers }

stored-closed : (P : Program) (s : Site) (ts : List Thread) (fs : List Frame) (w : World) (n : ℕ) (v : Expression) (o : Option Expression) → IsClosed v → All IsClosedThread ts → All IsClosedFrame fs → IsClosedSite s → IsClosedNext (stored P s ts fs w n v o)
stored-closed P s ts fs w n v None k h m c = tt
stored-closed P s ts fs w n v (Some x) k h m c = cell-closed P 0 s ts fs _ _ h m refl (All-set IsClosed s.cells n v k c.cells) c

outcome-closed : (P : Program) (u : World) (s : Site) (ts : List Thread) (fs : List Frame) (w : World) (r : Reduced) → IsClosedSite s → All IsClosedThread ts → All IsClosedFrame fs → IsClosedReduced r → IsClosedNext (outcome P u s ts fs w r)
outcome-closed P u s ts fs w (gives v) c h m k = going P 0 s ts fs (Returned w v) h m k c
outcome-closed P u s ts fs w (makes_text t) c h m k = going P (length t) s ts fs _ h m refl c
outcome-closed P u s ts fs w (goes_on e) c h m k = going P 0 s ts fs (Eval w e) h m k c
outcome-closed P u s ts fs w (makes_cell v) c h m k = joins-or-stops (is_full s.cells) s _ c (cell-closed P 0 s ts fs _ _ h m refl (All-push IsClosed s.cells v c.cells k) c)
outcome-closed P u s ts fs w (loads n) c h m k = loaded-closed P s ts fs w (slice_get s.cells n) (λ v e. at-place IsClosed s.cells n v e c.cells) h m c
outcome-closed P u s ts fs w (stores n v) c h m k = stored-closed P s ts fs w n v (slice_get s.cells n) k h m c
outcome-closed P u s ts fs w (leaves v e) c h m k = (record { frames = All-cons IsClosedFrame (Return w) fs tt m; focus = k }, told P s ts h c)
outcome-closed P u s ts fs w (says t) c h m k = (tt, told P s _ (unit-back ts fs w h m) c)
outcome-closed P u s ts fs w (shows t) c h m k = (tt, told P s _ (unit-back ts fs w h m) c)
outcome-closed P u s ts fs w (sets e t) c h m k = (tt, told P s _ (unit-back ts fs w h m) c)
outcome-closed P u s ts fs w (writes e t) c h m k = (tt, told P s _ (unit-back ts fs w h m) c)
outcome-closed P u s ts fs w (gets e) c h m k = (tt, got-text P s ts fs w h m c)
outcome-closed P u s ts fs w (reads e) c h m k = (tt, got-read P s ts fs w h m c)
outcome-closed P u s ts fs w (handles e g) c h m k = handler-added P s ts fs w (ask.On e) g c h m k tt
outcome-closed P u s ts fs w (watches e g) c h m k = handler-added P s ts fs w (ask.Watch e) g c h m k tt
outcome-closed P u s ts fs w reduction.wrong c h m k = tt

few-unary : (f : UnaryForm) → unary_parts f ≤ 1
few-unary (unary_form.Fn x t) = omega arith
few-unary (unary_form.Rec f x t r) = omega arith
few-unary unary_form.Spawn = omega arith
few-unary (unary_form.Held w) = omega arith
few-unary _ = omega arith

-- a part that is evaluated stands under no binder
unary-part : (f : UnaryForm) (a : Expression) (n : ℕ) → unary_parts f ≡ suc n → IsClosed (unary f a) → IsClosed a
unary-part (unary_form.Fn x t) a n e h = absurd (omega (arith, e))
unary-part (unary_form.Rec f x t r) a n e h = absurd (omega (arith, e))
unary-part _ a n e h = h

first-part : (e : Expression) (n : ℕ) → parts e ≡ suc n → IsClosed e → IsClosed (part e 0)
first-part (leaf f) n e h = h
first-part (unary f a) n e h = unary-part f a n e h
first-part (binary f a b) n e h = left (closed_under [] a) _ h
first-part (ternary f a b c) n e h = left (closed_under [] a) _ h

second-part : (f : BinaryForm) (a b : Expression) (k : ℕ) → suc k < binary_parts f → IsClosed (binary f a b) → IsClosed b
second-part binary_form.Call a b k e h = right (closed_under [] a) _ h
second-part binary_form.Pair a b k e h = right (closed_under [] a) _ h
second-part binary_form.Cons a b k e h = right (closed_under [] a) _ h
second-part binary_form.Store a b k e h = right (closed_under [] a) _ h
second-part (binary_form.Binary o) a b k e h = right (closed_under [] a) _ h
second-part _ a b k e h = absurd (omega (arith, e))

next-part : (e : Expression) (k : ℕ) → suc k < parts e → IsClosed e → IsClosed (part e (suc k))
next-part (leaf f) k e h = h
next-part (unary f a) k e h = absurd (omega (arith, e, few-unary f))
next-part (binary f a b) k e h = second-part f a b k e h
next-part (ternary f a b c) k e h = absurd (omega (arith, e))

filled-closed : (e : Expression) (k : ℕ) (v : Expression) → IsClosed e → IsClosed v → IsClosed (fill e k v)
filled-closed (leaf f) k v h c = h
filled-closed (unary f a) k v h c = everywhere v _ c
filled-closed (binary f a b) zero v h c = both (closed_under [] v) _ c (right (closed_under [] a) _ h)
filled-closed (binary f a b) (suc k) v h c = both (closed_under [] a) _ (left (closed_under [] a) _ h) (everywhere v _ c)
filled-closed (ternary f a b d) k v h c = both (closed_under [] v) _ c (right (closed_under [] a) _ h)

part-begun-closed : (P : Program) (s : Site) (ts : List Thread) (fs : List Frame) (w : World) (e : Expression) (k : ℕ) → IsClosedSite s → All IsClosedThread ts → All IsClosedFrame fs → IsClosed e → IsClosed (part e k) → IsClosedNext (part_begun P s ts fs w e k)
part-begun-closed P s ts fs w e k c h m a b = going P 0 s ts (Part w e k ∷ fs) (Eval (inner_world e w) (part e k)) h (All-cons IsClosedFrame (Part w e k) fs a m) b c

atom-closed : (P : Program) (s : Site) (ts : List Thread) (fs : List Frame) (w : World) (e : Expression) → IsClosedSite s → All IsClosedThread ts → All IsClosedFrame fs → IsClosed e → IsClosedNext (atom P s ts fs w e)
atom-closed P s ts fs w (unary unary_form.Spawn a) c h m k =
    joins-or-stops (is_full s.threads) s _ c
    (moved P 0 s _ (All-push IsClosedThread (thread_of fs (Returned w unit_value) ∷ ts) (thread_of [] (Eval w a)) (unit-back ts fs w h m) (record { frames = All-nil IsClosedFrame; focus = k })) c)
atom-closed P s ts fs w (leaf leaf_form.Here) c h m k = going P 0 s ts fs _ h m refl c
atom-closed P s ts fs w (leaf (leaf_form.Str t)) c h m k = going P (length t) s ts fs _ h m refl c
atom-closed P s ts fs w e c h m k = going P 0 s ts fs (Returned w e) h m k c

evaluated-closed : (P : Program) (s : Site) (ts : List Thread) (fs : List Frame) (w : World) (e : Expression) (n : ℕ) → parts e ≡ n → IsClosedSite s → All IsClosedThread ts → All IsClosedFrame fs → IsClosed e → IsClosedNext (evaluated P s ts fs w e n)
evaluated-closed P s ts fs w e zero q c h m k = atom-closed P s ts fs w e c h m k
evaluated-closed P s ts fs w e (suc n) q c h m k = part-begun-closed P s ts fs w e 0 c h m k (first-part e n q k)

either-closed : (t : Bool) (n m : SiteNext) → (t ≡ true → IsClosedNext n) → IsClosedNext m → IsClosedNext (if t then n else m)
either-closed true n m h k = h refl
either-closed false n m h k = k

returned-closed : (P : Program) → IsClosedProgram P → (u : World) (s : Site) (ts : List Thread) (fs : List Frame) (w : World) (v : Expression) → IsClosedSite s → All IsClosedThread ts → All IsClosedFrame fs → IsClosed v → IsClosedNext (returned P u s ts fs w v)
returned-closed P p u s ts [] w v c h m k = moved P 0 s ts h c
returned-closed P p u s ts (Part x e j ∷ fs) w v c h m k =
    let filled : Expression = fill e j v in
    let f : IsClosed filled = filled-closed e j v (All-head IsClosedFrame (Part x e j) fs m) k in
    let rest : All IsClosedFrame fs = All-tail IsClosedFrame (Part x e j) fs m in
    either-closed (nat_lt (suc j) (parts filled)) (part_begun P s ts fs x filled (suc j)) (outcome P u s ts fs x (reduced P u filled))
    (λ t. part-begun-closed P s ts fs x filled (suc j) c h rest f (next-part filled j (ltb-true (suc j) (parts filled) t) f))
    (outcome-closed P u s ts fs x (reduced P u filled) c h rest (reduced-closed P p u filled f))
returned-closed P p u s ts (Return x ∷ fs) w v c h m k = (record { frames = All-tail IsClosedFrame (Return x) fs m; focus = k }, told P s ts h c)

focused-closed : (P : Program) → IsClosedProgram P → (u : World) (s : Site) (ts : List Thread) (fs : List Frame) (f : Focus) → IsClosedSite s → All IsClosedThread ts → All IsClosedFrame fs → IsClosedFocus f → IsClosedNext (focused P u s ts fs f)
focused-closed P p u s ts fs (Eval w e) c h m k = evaluated-closed P s ts fs w e (parts e) refl c h m k
focused-closed P p u s ts fs (Returned w v) c h m k = returned-closed P p u s ts fs w v c h m k

begins : (s : Site) (ts : List Thread) → IsClosedSite s → All IsClosedThread ts → IsClosedSite (begun s ts)
begins s ts c h = record { threads = All-append IsClosedThread s.threads ts c.threads h; cells = c.cells; handlers = c.handlers }

thread-closed : (u : World) (t : List ℕ) (o : Option Expression) → ((k : Expression) → o ≡ Some k → IsClosed k) → All IsClosedThread (handler_thread u t o)
thread-closed u t None h = All-nil IsClosedThread
thread-closed u t (Some k) h = All-cons IsClosedThread _ [] (record { frames = All-nil IsClosedFrame; focus = both (closed_under [] k) true (h k refl) refl }) (All-nil IsClosedThread)

threads-closed : (u : World) (s : Site) (ns : List ℕ) (t : List ℕ) → IsClosedSite s → All IsClosedThread (handler_threads u s ns t)
threads-closed u s [] t c = All-nil IsClosedThread
threads-closed u s (n ∷ ns) t c =
    All-append IsClosedThread (handler_thread u t (slice_get s.handlers n)) (handler_threads u s ns t)
    (thread-closed u t (slice_get s.handlers n) (λ k e. at-place IsClosed s.handlers n k e c.handlers)) (threads-closed u s ns t c)

news : (u : World) (s : Site) → IsClosedSite s → (r : AnswerOf Item) (t : Site) → IsClosedReply r → after_take u s r ≡ Some t → IsClosedSite t
news u s c (answer.Message w (thread x)) t k e = given _ t (begins s (x ∷ []) c (All-cons IsClosedThread x [] k (All-nil IsClosedThread))) e
news u s c (answer.Message w (raw b)) t k e = given s t c e
news u s c (answer.Fired key n x) t k e = given _ t (begins s _ c (threads-closed u s (n ∷ []) x c)) e
news u s c (answer.Event el ns x) t k e = given _ t (begins s _ c (threads-closed u s ns x c)) e
news u s c _ t k e = cc

front-closed : (P : Program) → IsClosedProgram P → (u : World) (s : Site) (xs : List Thread) → IsClosedSite s → All IsClosedThread xs → IsClosedNext (front P u s xs)
front-closed P p u s [] c h = (tt, news u s c)
front-closed P p u s (t ∷ ts) c h =
    let top : IsClosedThread t = All-head IsClosedThread t ts h in
    focused-closed P p u s ts t.frames t.focus c (All-tail IsClosedThread t ts h) top.frames top.focus

pub stays_closed : StaysClosed
stays_closed P u s p c = front-closed P p u s s.threads c c.threads

ok-closed : (P : Program) (u : World) (a : Next) (n : SiteNext) → Stands P u a n → IsClosedNext n → KeepsClosed P u a
ok-closed P u (next.Goes s) n e h = subst IsClosedNext e h
ok-closed P u (next.Asks q x) n e h = subst IsClosedNext e h
ok-closed P u next.Wrong n e h = tt

-- the code's answer is closed where what comes next is
pub keeps-closed : (P : Program) (u : World) (r : Result Next AllocError) (n : SiteNext) → IfOk r (λ a. Stands P u a n) → IsClosedNext n → IfOk r (KeepsClosed P u)
keeps-closed P u (Ok a) n e h = ok-closed P u a n e h
keeps-closed P u (Err x) n e h = tt
