-- A typed site's next step or ask is typed.
use Rattle.std.proofs.Common.{◌≡◌, ◌≢◌, inl, inr, ℕ, zero, suc, ◌<◌, Bool, true, false, IsTrue, nat_lt, if◌then◌else◌, Some, List, [], ◌∷◌, ◌++◌, length, slice_get, refl, sym, subst, arith}
use Rattle.std.specs.List.{AllByRecursion as Each}
use Rattle.std.proofs.lemmas.Bool.{ltb-true}
use Rattle.m5_terms.specs.Expression.{Expression, leaf, unary, binary, ternary}
use Rattle.m5_terms.specs.TypeExpression.{TypeExpression, unit, string}
use Rattle.m5_terms.specs.declared.types.World.{World}
use Rattle.m5_terms.specs.declared.types.World.TheVariants.{Any}
use Rattle.m5_terms.specs.declared.form.LeafForm.TheVariants as leaf_form
use Rattle.m5_terms.specs.declared.form.UnaryForm.TheVariants as unary_form
use Rattle.m5_terms.specs.declared.form.BinaryForm.{BinaryForm}
use Rattle.m5_terms.specs.declared.form.BinaryForm.TheVariants as binary_form
use Rattle.m5_terms.specs.declared.thread.Frame.{Frame}
use Rattle.m5_terms.specs.declared.thread.Frame.TheVariants.{Part, Return}
use Rattle.m5_terms.specs.declared.thread.Focus.{Focus}
use Rattle.m5_terms.specs.declared.thread.Focus.TheVariants.{Eval, Returned}
use Rattle.m5_terms.specs.Machine.{goes, asks}
use Rattle.m5_terms.specs.declared.ask.AskOf.{AskOf}
use Rattle.m5_terms.specs.declared.ask.AskOf.TheVariants as ask
use Rattle.m5_meaning.specs.Site.{Program, Thread, Site, Item, thread}
use Rattle.m5_typing.specs.Value.{IsValue}
use Rattle.m5_typing.specs.Context.{CellTypes, Setting, nothing, type_at}
use Rattle.m5_typing.specs.Program.{IsProgram}
use Rattle.m5_typing.specs.Typing.{Typed}
use Rattle.m5_typing.specs.Laws.{Extends}
use Rattle.m5_typing.proofs.Weaken.{same}
use Rattle.m5_typing.proofs.Mobile.{moves}
use Rattle.m5_meaning.specs.Parts.{binary_parts, parts, part, fill, inner_world}
use Rattle.m5_meaning.specs.Reduction.{Reduced, gives, makes_text, goes_on, makes_cell, loads, stores, leaves, says, shows, sets, writes, gets, reads, handles, watches, wrong, unit_value, text_value, reduced}
use Rattle.m5_meaning.specs.Step.{SiteNext, thread_of, stepped, is_full, stops_full, atom, loaded, stored, after_done, adds_handler, outcome, part_begun, evaluated, returned, focused, front, site_next}
use Rattle.m5_site_sound.specs.Settings.{with_cells, setting, GrowsAt}
use Rattle.m5_site_sound.specs.Threads.{StandsAt, is_ready, FramesTyped, FocusTyped, ThreadTyped}
use Rattle.m5_site_sound.specs.Sites.{CellsTyped, HandlerTyped, SiteTyped, QueryTyped, NextTyped}
use Rattle.m5_site_sound.specs.Laws.{TypedSitesGoOn}
use Rattle.m5_terms.proofs.Lists.{each-map, each-append}
use Rattle.m5_site_sound.proofs.Growth.{more, longer-own, frames-grown, threads-grown, value-grown, cells-grown, cell-there, cell-set, cell-added, last-type, longer, longer-at}
use Rattle.m5_site_sound.proofs.Parts.{part-fits, stands-filled, stands-part, both-are}
use Rattle.m5_site_sound.proofs.TextBytes.{typed-texts}
use Rattle.m5_site_sound.proofs.Reductions.{Outcome, Declares, is_complete, second_is_ready, reduced-typed, form-reduces}
use Rattle.m5_site_sound.proofs.Replies.{with_threads, IsTold, at-once, asks-typed, led, done-typed, stop-typed, taken-typed, read-typed, get-text-typed, text-there}

-- a typed site whose front thread is taken out, the others being ts
pub record Turn (P : Program) (E : Setting) (u : World) (s : Site) (ts : List Thread) : Type 0 where
  pub declares : Declares E P
  pub real : u ≢ Any
  pub site : SiteTyped E u s
  pub others : Each (ThreadTyped E u) ts

rest-of : (P : Program) (E : Setting) (u : World) (s : Site) (ts : List Thread) → Turn P E u s ts → SiteTyped E u (with_threads s ts)
rest-of P E u s ts t = (t.others, t.site.1, t.site.2)

unless-full : (E : Setting) (u : World) (s : Site) (x : SiteNext) (full : Bool) → SiteTyped E u s → NextTyped E u x → NextTyped E u (if full then stops_full s else x)
unless-full E u s x true t n = stop-typed E u s t
unless-full E u s x false t n = n

-- the front thread has a value
gives-typed : (P : Program) (E : Setting) (u w : World) (s : Site) (ts : List Thread) (fs : List Frame) (v : Expression) (A : TypeExpression) (made : ℕ) → Turn P E u s ts → IsValue v → StandsAt u w v → Typed E nothing w v A → FramesTyped E u fs w A → NextTyped E u (goes (stepped P made s (thread_of fs (Returned w v) ∷ ts)))
gives-typed P E u w s ts fs v A made t p a d f =
    at-once E u _ (led E u s fs (Returned w v) ts (p, record { of = A; stands = a; typed = d; frames = f }) (rest-of P E u s ts t))

-- it has unit
unit-led : (P : Program) (E : Setting) (u : World) (s : Site) (ts : List Thread) (fs : List Frame) (A : TypeExpression) → A ≡ unit → Turn P E u s ts → FramesTyped E u fs u A → SiteTyped E u (with_threads s (thread_of fs (Returned u unit_value) ∷ ts))
unit-led P E u s ts fs A e t f =
    led E u s fs (Returned u unit_value) ts (refl, record { of = unit; stands = inl refl; typed = (refl, omega arith); frames = subst (λ B. FramesTyped E u fs u B) e f }) (rest-of P E u s ts t)

tells-typed : (P : Program) (E : Setting) (u : World) (s : Site) (ts : List Thread) (fs : List Frame) (q : AskOf Item) (A : TypeExpression) → IsTold q → QueryTyped E u q → A ≡ unit → Turn P E u s ts → FramesTyped E u fs u A → NextTyped E u (asks q (after_done P s (thread_of fs (Returned u unit_value) ∷ ts)))
tells-typed P E u s ts fs q A o a e t f = asks-typed E u _ _ a (done-typed P E u q s (thread_of fs (Returned u unit_value) ∷ ts) o (unit-led P E u s ts fs A e t f))

-- after a reduction

cell-typed : (P : Program) (E : Setting) (u : World) (s : Site) (ts : List Thread) (fs : List Frame) (v : Expression) (A : TypeExpression) → Turn P E u s ts → Outcome E u A (makes_cell v) → FramesTyped E u fs u A → NextTyped E u (outcome P u s ts fs u (makes_cell v))
cell-typed P E u s ts fs v A t o f = unless-full E u s _ (is_full s.cells) t.site (record { cells = M; grows = g; typed = ((first, threads-grown E F m u ts t.others), cells, handlers) })
  where
    M : CellTypes
    M = longer u o.0 E.cells

    F : Setting
    F = with_cells M E

    g : GrowsAt u E.cells M
    g = longer-own u o.0 E.cells

    m : Extends E F
    m = more E M g.0

    l : M u ≡ E.cells u ++ o.0 ∷ []
    l = longer-at u o.0 E.cells

    there : type_at (M u) (length s.cells) ≡ Some o.0
    there = subst (λ As. type_at As (length s.cells) ≡ Some o.0) (sym l) (last-type E u s.cells (E.cells u) o.0 t.site.1)

    first : ThreadTyped F u (thread_of fs (Returned u (leaf (leaf_form.CellAt u (length s.cells)))))
    first = (refl, record { of = A; stands = inl refl; typed = ((o.0, t.real, refl, there, o.1), o.2); frames = frames-grown E F m fs u u A f })

    cells : CellsTyped F u (s.cells ++ v ∷ []) (F.cells u)
    cells = subst (λ As. CellsTyped F u (s.cells ++ v ∷ []) As) (sym l) (cell-added F u s.cells (E.cells u) o.0 v (cells-grown E F m u s.cells (E.cells u) t.site.1) (value-grown E F m u v o.0 o.3))

    handlers : Each (HandlerTyped F u) s.handlers
    handlers = each-map (HandlerTyped E u) (HandlerTyped F u) (λ h d. value-grown E F m u h _ d) s.handlers t.site.2

loads-typed : (P : Program) (E : Setting) (u : World) (s : Site) (ts : List Thread) (fs : List Frame) (n : ℕ) (A : TypeExpression) → Turn P E u s ts → type_at (E.cells u) n ≡ Some A → FramesTyped E u fs u A → NextTyped E u (loaded P s ts fs u (slice_get s.cells n))
loads-typed P E u s ts fs n A t e f =
    let v = cell-there E u s.cells (E.cells u) n A t.site.1 e in
    subst (λ o. NextTyped E u (loaded P s ts fs u o)) (sym v.1) (gives-typed P E u u s ts fs v.0 A 0 t v.2.0 (inl refl) v.2.1 f)

stores-typed : (P : Program) (E : Setting) (u : World) (s : Site) (ts : List Thread) (fs : List Frame) (n : ℕ) (v : Expression) (A : TypeExpression) → Turn P E u s ts → Outcome E u A (stores n v) → FramesTyped E u fs u A → NextTyped E u (stored P s ts fs u n v (slice_get s.cells n))
stores-typed P E u s ts fs n v A t o f =
    let old = cell-there E u s.cells (E.cells u) n o.0 t.site.1 o.2 in
    let d = unit-led P E u s ts fs A o.1 t f in
    subst (λ x. NextTyped E u (stored P s ts fs u n v x)) (sym old.1) (at-once E u _ (d.0, cell-set E u s.cells (E.cells u) n o.0 v t.site.1 o.2 o.3, d.2))

handler-added : (P : Program) (E : Setting) (u : World) (s : Site) (ts : List Thread) (fs : List Frame) (q : ℕ → AskOf Item) (h : Expression) (A : TypeExpression) → IsTold (q (length s.handlers)) → QueryTyped E u (q (length s.handlers)) → A ≡ unit → HandlerTyped E u h → Turn P E u s ts → FramesTyped E u fs u A → NextTyped E u (adds_handler P s ts fs u q h)
handler-added P E u s ts fs q h A o a e c t f =
    let d = unit-led P E u s ts fs A e t f in
    unless-full E u s _ (is_full s.handlers) t.site
    (asks-typed E u _ _ a (done-typed P E u (q (length s.handlers)) (record s { handlers = s.handlers ++ h ∷ [] }) (thread_of fs (Returned u unit_value) ∷ ts) o
    (d.0, d.1, each-append (HandlerTyped E u) s.handlers (h ∷ []) t.site.2 (c, tt))))

pub outcome-typed : (P : Program) (E : Setting) (u : World) (s : Site) (ts : List Thread) (fs : List Frame) (x : Reduced) (A : TypeExpression) → Turn P E u s ts → Outcome E u A x → FramesTyped E u fs u A → NextTyped E u (outcome P u s ts fs u x)
outcome-typed P E u s ts fs (gives v) A t o f = gives-typed P E u u s ts fs v A 0 t o.0 (inl refl) o.1 f
outcome-typed P E u s ts fs (makes_text x) A t o f =
    let c = text-there E u x o.1 in
    gives-typed P E u u s ts fs (text_value x) string (length x) t c.0 (inl refl) c.1 (subst (λ B. FramesTyped E u fs u B) o.0 f)
outcome-typed P E u s ts fs (goes_on e) A t o f = at-once E u _ (led E u s fs (Eval u e) ts (record { of = A; stands = inl refl; typed = o; frames = f }) (rest-of P E u s ts t))
outcome-typed P E u s ts fs (makes_cell v) A t o f = cell-typed P E u s ts fs v A t o f
outcome-typed P E u s ts fs (loads k) A t o f = loads-typed P E u s ts fs k A t o f
outcome-typed P E u s ts fs (stores k v) A t o f = stores-typed P E u s ts fs k v A t o f
outcome-typed P E u s ts fs (leaves v e) A t o f =
    asks-typed E u _ _
    (o.0, o.1, record { of = A; stands = inl refl; typed = o.3; frames = record { here = refl; away = λ q. o.0 (sym q); real = t.real; mobile = o.2; rest = f } })
    (done-typed P E u (ask.Send v (thread (thread_of (Return u ∷ fs) (Eval v e)))) s ts tt (rest-of P E u s ts t))
outcome-typed P E u s ts fs (says x) A t o f = tells-typed P E u s ts fs (ask.Say x) A tt o.1 o.0 t f
outcome-typed P E u s ts fs (shows x) A t o f = tells-typed P E u s ts fs (ask.Show x) A tt o.1 o.0 t f
outcome-typed P E u s ts fs (sets e x) A t o f = tells-typed P E u s ts fs (ask.Set e x) A tt o.1 o.0 t f
outcome-typed P E u s ts fs (writes k x) A t o f = tells-typed P E u s ts fs (ask.Write k x) A tt o.1 o.0 t f
outcome-typed P E u s ts fs (gets e) A t o f = asks-typed E u _ _ o.1 (get-text-typed P E u s ts fs e (subst (λ B. FramesTyped E u fs u B) o.0 f) (rest-of P E u s ts t))
outcome-typed P E u s ts fs (reads k) A t o f = asks-typed E u _ _ o.1 (read-typed P E u s ts fs k (subst (λ B. FramesTyped E u fs u B) o.0 f) (rest-of P E u s ts t))
outcome-typed P E u s ts fs (handles e h) A t o f = handler-added P E u s ts fs (ask.On e) h A tt (o.1 (length s.handlers)) o.0 o.2 t f
outcome-typed P E u s ts fs (watches k h) A t o f = handler-added P E u s ts fs (ask.Watch k) h A tt (o.1 (length s.handlers)) o.0 o.2 t f
outcome-typed P E u s ts fs wrong A t o f = absurd o

-- a hole is filled

ready-next : (e : Expression) (k : ℕ) (v : Expression) → IsValue v → IsTrue (is_ready e k) → IsTrue (is_ready (fill e k v) (suc k))
ready-next (leaf f) k v p q = refl
ready-next (unary f a) k v p q = refl
ready-next (binary f a b) zero v p q = p
ready-next (binary f a b) (suc k) v p q = q
ready-next (ternary f a b c) k v p q = refl

second-value : (f : BinaryForm) (v : Expression) → IsValue v → IsTrue (second_is_ready f v)
second-value binary_form.Call v p = p
second-value binary_form.Pair v p = p
second-value binary_form.Cons v p = p
second-value binary_form.Store v p = p
second-value (binary_form.Binary o) v p = p
second-value _ v p = refl

second-none : (f : BinaryForm) (b : Expression) → nat_lt 1 (binary_parts f) ≡ false → IsTrue (second_is_ready f b)
second-none binary_form.Call b e = cc
second-none binary_form.Pair b e = cc
second-none binary_form.Cons b e = cc
second-none binary_form.Store b e = cc
second-none (binary_form.Binary o) b e = cc
second-none _ b e = refl

all-there : (e : Expression) (k : ℕ) (v : Expression) → IsValue v → IsTrue (is_ready e k) → nat_lt (suc k) (parts (fill e k v)) ≡ false → IsTrue (is_complete (fill e k v))
all-there (leaf f) k v p q h = refl
all-there (unary f a) k v p q h = p
all-there (ternary f a b c) k v p q h = p
all-there (binary f a b) zero v p q h = both-are _ _ p (second-none f b h)
all-there (binary f a b) (suc k) v p q h = both-are _ _ q (second-value f v p)

parts-fill : (e : Expression) (k : ℕ) (v : Expression) → parts (fill e k v) ≡ parts e
parts-fill (leaf f) k v = refl
parts-fill (unary f a) k v = refl
parts-fill (ternary f a b c) k v = refl
parts-fill (binary f a b) zero v = refl
parts-fill (binary f a b) (suc k) v = refl

-- all parts are values
complete-typed : (P : Program) (E : Setting) (u w : World) (s : Site) (ts : List Thread) (fs : List Frame) (e : Expression) (A : TypeExpression) → Turn P E u s ts → 0 < parts e → IsTrue (is_complete e) → StandsAt u w e → Typed E nothing w e A → FramesTyped E u fs w A → NextTyped E u (outcome P u s ts fs w (reduced P u e))
complete-typed P E u w s ts fs e A t h c (inl i) d f =
    subst (λ x. NextTyped E u (outcome P u s ts fs x (reduced P u e))) (sym i)
    (outcome-typed P E u s ts fs (reduced P u e) A t (reduced-typed E P u e A t.declares h c (subst (λ x. Typed E nothing x e A) i d)) (subst (λ x. FramesTyped E u fs x A) i f))
complete-typed P E u w s ts fs e A t h c (inr i) d f =
    let k = form-reduces P u e h c i.1 in
    subst (λ x. NextTyped E u (outcome P u s ts fs w x)) (sym k.0) (gives-typed P E u w s ts fs e A 0 t k.1 (inr i) d f)

-- a part is begun
begun-typed : (P : Program) (E : Setting) (u w : World) (s : Site) (ts : List Thread) (fs : List Frame) (e : Expression) (k : ℕ) (A : TypeExpression) → Turn P E u s ts → k < parts e → IsTrue (is_ready e k) → StandsAt u w e → Typed E nothing w e A → FramesTyped E u fs w A → NextTyped E u (part_begun P s ts fs w e k)
begun-typed P E u w s ts fs e k A t h q a d f =
    let p = part-fits E w e k A h d in
    at-once E u _ (led E u s (Part w e k ∷ fs) (Eval (inner_world e w) (part e k)) ts (record {
      of = p.of;
      stands = stands-part E u w e k A h d a;
      typed = p.typed;
      frames = record { to = A; world = refl; hole = h; before = q; stands = a; texts = typed-texts E e nothing w A d; fits = p.fits; rest = f };
    }) (rest-of P E u s ts t))

filled-typed : (P : Program) (E : Setting) (u w : World) (s : Site) (ts : List Thread) (fs : List Frame) (e : Expression) (k : ℕ) (A : TypeExpression) (b : Bool) → nat_lt (suc k) (parts e) ≡ b → Turn P E u s ts → 0 < parts e → IsTrue (is_ready e (suc k)) → (nat_lt (suc k) (parts e) ≡ false → IsTrue (is_complete e)) → StandsAt u w e → Typed E nothing w e A → FramesTyped E u fs w A →
    NextTyped E u (if b then part_begun P s ts fs w e (suc k) else outcome P u s ts fs w (reduced P u e))
filled-typed P E u w s ts fs e k A true i t h q c a d f = begun-typed P E u w s ts fs e (suc k) A t (ltb-true (suc k) (parts e) i) q a d f
filled-typed P E u w s ts fs e k A false i t h q c a d f = complete-typed P E u w s ts fs e A t h (c i) a d f

returned-typed : (P : Program) (E : Setting) (u w : World) (s : Site) (ts : List Thread) (fs : List Frame) (v : Expression) (A : TypeExpression) → Turn P E u s ts → IsValue v → Typed E nothing w v A → FramesTyped E u fs w A → NextTyped E u (returned P u s ts fs w v)
returned-typed P E u w s ts [] v A t p d f = at-once E u _ (rest-of P E u s ts t)
returned-typed P E u w s ts (Part x e k ∷ fs) v A t p d f =
    filled-typed P E u x s ts fs (fill e k v) k f.to (nat_lt (suc k) (parts (fill e k v))) refl t (subst (λ j. 0 < j) (sym (parts-fill e k v)) (let hole : k < parts e = f.hole in omega arith))
    (ready-next e k v p f.before) (all-there e k v p f.before) (stands-filled u x e k v p f.stands) (f.fits E (same E) v p d) f.rest
returned-typed P E u w s ts (Return x ∷ fs) v A t p d f =
    asks-typed E u _ _
    (f.away, f.real, (p, record { of = A; stands = inl refl; typed = moves E v w x A p f.mobile d; frames = f.rest }))
    (done-typed P E u (ask.Send x (thread (thread_of fs (Returned x v)))) s ts tt (rest-of P E u s ts t))

-- a node in focus

here-stands : (u w v : World) → StandsAt u w (leaf leaf_form.Here) → StandsAt u w (leaf (leaf_form.Addr v))
here-stands u w v (inl i) = inl i
here-stands u w v (inr i) = let q = i.1 in cc

spawn-stands : (u w : World) (a : Expression) → StandsAt u w (unary unary_form.Spawn a) → w ≡ u
spawn-stands u w a (inl i) = i
spawn-stands u w a (inr i) = let q = i.1 in cc

spawn-typed : (P : Program) (E : Setting) (u w : World) (s : Site) (ts : List Thread) (fs : List Frame) (a : Expression) (A : TypeExpression) → Turn P E u s ts → w ≡ u → Typed E nothing w (unary unary_form.Spawn a) A → FramesTyped E u fs w A → NextTyped E u (atom P s ts fs w (unary unary_form.Spawn a))
spawn-typed P E u w s ts fs a A t i d f =
    unless-full E u s _ (is_full s.threads) t.site
    (at-once E u _ (
      each-append (ThreadTyped E u) (thread_of fs (Returned w unit_value) ∷ ts) (thread_of [] (Eval w a) ∷ [])
          ((refl, record { of = unit; stands = inl i; typed = (refl, omega arith); frames = subst (λ B. FramesTyped E u fs w B) d.is f }), t.others)
          (record { of = unit; stands = inl i; typed = d.part; frames = refl }, tt),
      t.site.1,
      t.site.2,
    ))

atom-typed : (P : Program) (E : Setting) (u w : World) (s : Site) (ts : List Thread) (fs : List Frame) (e : Expression) (A : TypeExpression) → Turn P E u s ts → parts e ≡ 0 → StandsAt u w e → Typed E nothing w e A → FramesTyped E u fs w A → NextTyped E u (atom P s ts fs w e)
atom-typed P E u w s ts fs (leaf leaf_form.Here) A t z a d f = gives-typed P E u w s ts fs (leaf (leaf_form.Addr w)) A 0 t refl (here-stands u w w a) d f
atom-typed P E u w s ts fs (leaf (leaf_form.Var x)) A t z a d f = let q = d.0 in cc
atom-typed P E u w s ts fs (leaf (leaf_form.Valid x)) A t z a d f = let q = d.0 in cc
atom-typed P E u w s ts fs (leaf (leaf_form.Str x)) A t z a d f = gives-typed P E u w s ts fs (leaf (leaf_form.Str x)) A (length x) t refl a d f
atom-typed P E u w s ts fs (leaf x) A t z a d f = gives-typed P E u w s ts fs (leaf x) A 0 t refl a d f
atom-typed P E u w s ts fs (unary unary_form.Spawn b) A t z a d f = spawn-typed P E u w s ts fs b A t (spawn-stands u w b a) d f
atom-typed P E u w s ts fs (unary (unary_form.Fn x C) b) A t z a d f = gives-typed P E u w s ts fs (unary (unary_form.Fn x C) b) A 0 t refl a d f
atom-typed P E u w s ts fs (unary (unary_form.Rec g x C D) b) A t z a d f = gives-typed P E u w s ts fs (unary (unary_form.Rec g x C D) b) A 0 t refl a d f
atom-typed P E u w s ts fs (unary (unary_form.Held v) b) A t z a d f = gives-typed P E u w s ts fs (unary (unary_form.Held v) b) A 0 t d.side.1 a d f
atom-typed P E u w s ts fs (unary _ b) A t z a d f = absurd (omega arith)
atom-typed P E u w s ts fs (binary binary_form.Call b c) A t z a d f = absurd (omega arith)
atom-typed P E u w s ts fs (binary binary_form.Pair b c) A t z a d f = absurd (omega arith)
atom-typed P E u w s ts fs (binary binary_form.Cons b c) A t z a d f = absurd (omega arith)
atom-typed P E u w s ts fs (binary binary_form.Store b c) A t z a d f = absurd (omega arith)
atom-typed P E u w s ts fs (binary (binary_form.Binary o) b c) A t z a d f = absurd (omega arith)
atom-typed P E u w s ts fs (binary _ b c) A t z a d f = absurd (omega arith)
atom-typed P E u w s ts fs (ternary g b c e) A t z a d f = absurd (omega arith)

ready-none : (e : Expression) → IsTrue (is_ready e 0)
ready-none (leaf f) = refl
ready-none (unary f a) = refl
ready-none (binary f a b) = refl
ready-none (ternary f a b c) = refl

eval-typed : (P : Program) (E : Setting) (u w : World) (s : Site) (ts : List Thread) (fs : List Frame) (e : Expression) (A : TypeExpression) (n : ℕ) → parts e ≡ n → Turn P E u s ts → StandsAt u w e → Typed E nothing w e A → FramesTyped E u fs w A → NextTyped E u (evaluated P s ts fs w e n)
eval-typed P E u w s ts fs e A zero z t a d f = atom-typed P E u w s ts fs e A t z a d f
eval-typed P E u w s ts fs e A (suc n) z t a d f = begun-typed P E u w s ts fs e 0 A t (omega arith) (ready-none e) a d f

pub focused-typed : (P : Program) (E : Setting) (u : World) (s : Site) (ts : List Thread) (fs : List Frame) (f : Focus) → Turn P E u s ts → FocusTyped E u fs f → NextTyped E u (focused P u s ts fs f)
focused-typed P E u s ts fs (Eval w e) t d = eval-typed P E u w s ts fs e d.of (parts e) refl t d.stands d.typed d.frames
focused-typed P E u s ts fs (Returned w v) t d = returned-typed P E u w s ts fs v d.1.of t d.0 d.1.typed d.1.frames

-- the site's first thread is in front, or none
front-typed : (P : Program) (E : Setting) (u : World) (s : Site) (ts : List Thread) → Declares E P → u ≢ Any → SiteTyped E u s → Each (ThreadTyped E u) ts → NextTyped E u (front P u s ts)
front-typed P E u s [] y n t r = asks-typed E u ask.Take _ tt (taken-typed E u s t)
front-typed P E u s (x ∷ ts) y n t r = focused-typed P E u s ts x.frames x.focus (record { declares = y; real = n; site = t; others = r.1 }) r.0

pub next-typed : (P : Program) (E : Setting) (u : World) (s : Site) → Declares E P → u ≢ Any → SiteTyped E u s → NextTyped E u (site_next P u s)
next-typed P E u s y n t = front-typed P E u s s.threads y n t t.0

pub declares : (P : Program) (L : CellTypes) → IsProgram P → Declares (setting P L) P
declares P L h = record { functions = λ f. refl; program = h }

pub sites-go-on : TypedSitesGoOn
sites-go-on P L u x h n t = next-typed P (setting P L) u x (declares P L h) n t
