-- The answers to a typed site's asks: each makes a typed site.
use Rattle.std.proofs.Common.{◌≡◌, inl, ℕ, zero, suc, true, Option, Some, None, List, [], ◌∷◌, slice_get, refl, sym, subst, arith}
use Rattle.std.specs.List.{AllByRecursion as Each}
use Rattle.m5_terms.specs.Expression.{Expression, unary}
use Rattle.m5_terms.specs.TypeExpression.{TypeExpression, unit, string}
use Rattle.m5_terms.specs.Text.{IsText}
use Rattle.m5_terms.specs.declared.types.World.{World}
use Rattle.m5_terms.specs.declared.form.UnaryForm.TheVariants as unary_form
use Rattle.m5_terms.specs.declared.thread.Frame.{Frame}
use Rattle.m5_terms.specs.declared.thread.Focus.{Focus}
use Rattle.m5_terms.specs.declared.thread.Focus.TheVariants.{Returned}
use Rattle.m5_terms.specs.declared.ask.Cause.TheVariants.{Table}
use Rattle.m5_terms.specs.Machine.{asks}
use Rattle.m5_terms.specs.declared.ask.AskOf.{AskOf}
use Rattle.m5_terms.specs.declared.ask.AskOf.TheVariants as ask
use Rattle.m5_terms.specs.declared.ask.AnswerOf.{AnswerOf}
use Rattle.m5_terms.specs.declared.ask.AnswerOf.TheVariants as answer
use Rattle.m5_meaning.specs.Site.{Program, Thread, Site, Item, thread, raw}
use Rattle.m5_typing.specs.Context.{CellTypes, Setting}
use Rattle.m5_meaning.specs.Reduction.{text_value, unit_or}
use Rattle.m5_meaning.specs.Step.{SiteNext, thread_of, stepped, stopped_by, stops_full, after_done, after_get_text, after_read, handler_thread, handler_threads, begun, after_take}
use Rattle.m5_site_sound.specs.Settings.{with_cells}
use Rattle.m5_site_sound.specs.Threads.{FramesTyped, FocusTyped, ThreadTyped}
use Rattle.m5_site_sound.specs.Sites.{ValueTyped, HandlerTyped, SiteTyped, QueryTyped, AnswersTyped, IsTypedNext, NextTyped}
use Rattle.m5_terms.specs.Answers.{IsAnswer}
use Rattle.m5_terms.proofs.Lists.{each-append}
use Rattle.m5_site_sound.proofs.Growth.{more, frames-grown, site-grown, own-self}
use Rattle.m5_site_sound.proofs.Reductions.{left-unit}

abbrev pub with_threads : Site → List Thread → Site
with_threads s ts = record s { threads = ts }

-- asks that are only told that they are done
abbrev pub IsTold : AskOf Item → Type 0
IsTold ask.Take = ⊥
IsTold (ask.Read k) = ⊥
IsTold (ask.GetText e) = ⊥
IsTold _ = Unit {0}

only-done : (q : AskOf Item) → IsTold q → (r : AnswerOf Item) → IsAnswer q r → r ≡ answer.Done
only-done ask.Take t r k = absurd t
only-done (ask.Read j) t r k = absurd t
only-done (ask.GetText j) t r k = absurd t
only-done _ t answer.Done k = refl
only-done _ t _ k = absurd k

-- the cells stay
pub at-once : (E : Setting) (u : World) (x : SiteNext) → IsTypedNext E u x → NextTyped E u x
at-once E u x t = record { cells = E.cells; grows = own-self u E.cells; typed = t }

pub asks-typed : (E : Setting) (u : World) (q : AskOf Item) (resume : AnswerOf Item → Option Site) → QueryTyped E u q → AnswersTyped E u q resume → NextTyped E u (asks q resume)
asks-typed E u q resume a f = at-once E u (asks q resume) (a, f)

-- a thread in front of others
pub led : (E : Setting) (u : World) (s : Site) (fs : List Frame) (f : Focus) (ts : List Thread) → FocusTyped E u fs f → SiteTyped E u (with_threads s ts) → SiteTyped E u (with_threads s (thread_of fs f ∷ ts))
led E u s fs f ts d r = ((d, r.0), r.1, r.2)

pub done-typed : (P : Program) (E : Setting) (u : World) (q : AskOf Item) (s : Site) (ts : List Thread) → IsTold q → SiteTyped E u (with_threads s ts) → AnswersTyped E u q (after_done P s ts)
done-typed P E u q s ts o t M r g same k a =
    subst (λ r. (x : Site) × (after_done P s ts r ≡ Some x) × SiteTyped (with_cells M E) u x) (sym (only-done q o r k))
    (stepped P 0 s ts, refl, site-grown E (with_cells M E) (more E M g) u same (with_threads s ts) t)

pub stop-typed : (E : Setting) (u : World) (s : Site) → SiteTyped E u s → NextTyped E u (stops_full s)
stop-typed E u s t = asks-typed E u (ask.Stop Table) (stopped_by s) tt
    (λ M r g same k a. subst (λ r. (x : Site) × (stopped_by s r ≡ Some x) × SiteTyped (with_cells M E) u x) (sym (only-done (ask.Stop Table) tt r k))
    (record s { stopped = true }, refl, site-grown E (with_cells M E) (more E M g) u same s t))

-- what a look finds

handler-typed : (E : Setting) (u : World) (o : Option Expression) (t : List ℕ) → IsText t → ((h : Expression) → o ≡ Some h → HandlerTyped E u h) → Each (ThreadTyped E u) (handler_thread u t o)
handler-typed E u None t i f = tt
handler-typed E u (Some h) t i f = (
  record {
    of = unit;
    stands = inl refl;
    typed = record { pick = record { a = string; b = unit; c = unit; v = u }; first = (f h refl).1; second = ((refl, i), omega arith); side = tt; is = refl; small = omega arith };
    frames = refl;
  },
  tt,
)

each-get : {A : Type 0} → (P : A → Type 0) (l : List A) (n : ℕ) (a : A) → Each P l → slice_get l n ≡ Some a → P a
each-get P [] n a e q = cc
each-get P (b ∷ l) zero a e q = subst P (let r : b ≡ a = cc in r) e.0
each-get P (b ∷ l) (suc n) a e q = each-get P l n a e.1 q

handlers-typed : (E : Setting) (u : World) (s : Site) (ns : List ℕ) (t : List ℕ) → IsText t → Each (HandlerTyped E u) s.handlers → Each (ThreadTyped E u) (handler_threads u s ns t)
handlers-typed E u s [] t i e = tt
handlers-typed E u s (n ∷ ns) t i e =
    each-append (ThreadTyped E u) (handler_thread u t (slice_get s.handlers n)) (handler_threads u s ns t)
    (handler-typed E u (slice_get s.handlers n) t i (λ h q. each-get (HandlerTyped E u) s.handlers n h e q)) (handlers-typed E u s ns t i e)

begun-typed : (E : Setting) (u : World) (s : Site) (ts : List Thread) → SiteTyped E u s → Each (ThreadTyped E u) ts → SiteTyped E u (begun s ts)
begun-typed E u s ts d t = (each-append (ThreadTyped E u) s.threads ts d.0 t, d.1, d.2)

pub taken-typed : (E : Setting) (u : World) (s : Site) → SiteTyped E u s → AnswersTyped E u ask.Take (after_take u s)
taken-typed E u s t M (answer.Message v (thread m)) g same k a =
    (_, refl, begun-typed (with_cells M E) u s (m ∷ []) (site-grown E (with_cells M E) (more E M g) u same s t) (a, tt))
taken-typed E u s t M (answer.Message v (raw bytes)) g same k a = (s, refl, site-grown E (with_cells M E) (more E M g) u same s t)
taken-typed E u s t M (answer.Fired key n x) g same k a =
    let d = site-grown E (with_cells M E) (more E M g) u same s t in
    (_, refl, begun-typed (with_cells M E) u s (handler_threads u s (n ∷ []) x) d (handlers-typed (with_cells M E) u s (n ∷ []) x a.1 d.2))
taken-typed E u s t M (answer.Event el ns x) g same k a =
    let d = site-grown E (with_cells M E) (more E M g) u same s t in
    (_, refl, begun-typed (with_cells M E) u s (handler_threads u s ns x) d (handlers-typed (with_cells M E) u s ns x a.1 d.2))
taken-typed E u s t M _ g same k a = absurd k

-- what a reading gives

-- the thread in front has a value, also when other sites have made cells
value-led : (E : Setting) (u : World) (s : Site) (ts : List Thread) (fs : List Frame) (v : Expression) (A : TypeExpression) (M : CellTypes) → SiteTyped (with_cells M E) u (with_threads s ts) → ValueTyped (with_cells M E) u v A → FramesTyped (with_cells M E) u fs u A → SiteTyped (with_cells M E) u (with_threads s (thread_of fs (Returned u v) ∷ ts))
value-led E u s ts fs v A M t c f = led (with_cells M E) u s fs (Returned u v) ts (c.0, record { of = A; stands = inl refl; typed = c.1; frames = f }) t

pub text-there : (E : Setting) (u : World) (t : List ℕ) → IsText t → ValueTyped E u (text_value t) string
text-there E u t i = (refl, ((refl, i), omega arith))

right-text : (E : Setting) (u : World) (t : List ℕ) → IsText t → ValueTyped E u (unary (unary_form.Inr (unit_or string)) (text_value t)) (unit_or string)
right-text E u t i = (refl, record { pick = record { a = unit; b = string; c = unit; v = u }; part = (text-there E u t i).1; side = refl; is = refl; small = omega arith })

pub read-typed : (P : Program) (E : Setting) (u : World) (s : Site) (ts : List Thread) (fs : List Frame) (j : List ℕ) → FramesTyped E u fs u (unit_or string) → SiteTyped E u (with_threads s ts) → AnswersTyped E u (ask.Read j) (after_read P s ts fs u)
read-typed P E u s ts fs j f t M (answer.Found x) g same k a =
    let m = more E M g in
    (_, refl, value-led E u s ts fs _ (unit_or string) M (site-grown E (with_cells M E) m u same (with_threads s ts) t) (right-text (with_cells M E) u x a) (frames-grown E (with_cells M E) m fs u u (unit_or string) f))
read-typed P E u s ts fs j f t M answer.Missing g same k a =
    let m = more E M g in
    (_, refl, value-led E u s ts fs _ (unit_or string) M (site-grown E (with_cells M E) m u same (with_threads s ts) t) (left-unit (with_cells M E) u string (omega arith)) (frames-grown E (with_cells M E) m fs u u (unit_or string) f))
read-typed P E u s ts fs j f t M _ g same k a = absurd k

pub get-text-typed : (P : Program) (E : Setting) (u : World) (s : Site) (ts : List Thread) (fs : List Frame) (j : List ℕ) → FramesTyped E u fs u string → SiteTyped E u (with_threads s ts) → AnswersTyped E u (ask.GetText j) (after_get_text P s ts fs u)
get-text-typed P E u s ts fs j f t M (answer.Found x) g same k a =
    let m = more E M g in
    (_, refl, value-led E u s ts fs _ string M (site-grown E (with_cells M E) m u same (with_threads s ts) t) (text-there (with_cells M E) u x a) (frames-grown E (with_cells M E) m fs u u string f))
get-text-typed P E u s ts fs j f t M _ g same k a = absurd k
