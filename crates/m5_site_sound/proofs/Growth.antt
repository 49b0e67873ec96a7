-- Types stay where there are more cells.
use Rattle.std.proofs.Common.{if◌then◌else◌, ◌≡◌, ℕ, zero, suc, Some, List, [], ◌∷◌, ◌++◌, length, slice_get, slice_set, refl, sym, subst, ap, ◌∙◌}
use Rattle.std.proofs.lemmas.List.{append-nil, append_assoc}
use Rattle.std.specs.List.{AllByRecursion as Each}
use Rattle.m5_terms.specs.Expression.{Expression}
use Rattle.m5_terms.specs.TypeExpression.{TypeExpression, same_world}
use Rattle.m5_terms.specs.declared.types.World.{World}
use Rattle.m5_terms.specs.declared.thread.Frame.{Frame}
use Rattle.m5_terms.specs.declared.thread.Frame.TheVariants.{Part, Return}
use Rattle.m5_terms.specs.declared.thread.Focus.{Focus}
use Rattle.m5_terms.specs.declared.thread.Focus.TheVariants.{Eval, Returned}
use Rattle.m5_typing.specs.Context.{CellTypes, Context, Setting, nothing, type_at}
use Rattle.m5_typing.specs.Typing.{Typed}
use Rattle.m5_typing.specs.Laws.{Extends}
use Rattle.m5_typing.proofs.Weaken.{weaken}
use Rattle.m5_terms.specs.declared.ask.AnswerOf.{AnswerOf}
use Rattle.m5_terms.specs.declared.ask.AnswerOf.TheVariants as answer
use Rattle.m5_meaning.specs.Site.{Thread, Site, Item, thread, raw}
use Rattle.m5_site_sound.specs.Settings.{with_cells, Grows, GrowsAt}
use Rattle.m5_site_sound.specs.Threads.{Fits, FramesTyped, FocusTyped, ThreadTyped}
use Rattle.m5_site_sound.specs.Sites.{ValueTyped, CellsTyped, HandlerTyped, SiteTyped, ItemTyped, ReplyTyped}
use Rattle.m5_terms.proofs.Lists.{each-map}
use Rattle.m5_terms.proofs.SiteWorlds.{by-world}

type-stays : (As Bs : List TypeExpression) (n : ℕ) (A : TypeExpression) → type_at As n ≡ Some A → type_at (As ++ Bs) n ≡ Some A
type-stays [] Bs n A e = cc
type-stays (B ∷ As) Bs zero A e = e
type-stays (B ∷ As) Bs (suc n) A e = type-stays As Bs n A e

pub more : (E : Setting) (M : CellTypes) → Grows E.cells M → Extends E (with_cells M E)
more E M g = record {
  functions = λ f b e. e;
  cells = λ w n A e. subst (λ l. type_at l n ≡ Some A) (sym (g w).1) (type-stays (E.cells w) (g w).0 n A e);
}

pub grown : (E F : Setting) → Extends E F → (e : Expression) (G : Context) (w : World) (A : TypeExpression) → Typed E G w e A → Typed F G w e A
grown E F m e G w A d = weaken E F m e G G w A (λ x b q. q) d

pub grows-self : (L : CellTypes) → Grows L L
grows-self L = λ w. ([], sym (append-nil (L w)))

pub grows-on : (L M K : CellTypes) → Grows L M → Grows M K → Grows L K
grows-on L M K g h = λ w. ((g w).0 ++ (h w).0, (h w).1 ∙ ap (λ l. l ++ (h w).0) (g w).1 ∙ append_assoc (L w) (g w).0 (h w).0)

fits-grown : (E F : Setting) (w : World) (e : Expression) (k : ℕ) (x : World) (A B : TypeExpression) → Extends E F → Fits E w e k x A B → Fits F w e k x A B
fits-grown E F w e k x A B m f = λ D n v p d. f D (record { functions = λ j b q. n.functions j b (m.functions j b q); cells = λ y j C q. n.cells y j C (m.cells y j C q) }) v p d

pub frames-grown : (E F : Setting) → Extends E F → (fs : List Frame) (u x : World) (A : TypeExpression) → FramesTyped E u fs x A → FramesTyped F u fs x A
frames-grown E F m [] u x A t = t
frames-grown E F m (Part w e k ∷ fs) u x A t = record {
  to = t.to;
  world = t.world;
  hole = t.hole;
  before = t.before;
  stands = t.stands;
  texts = t.texts;
  fits = fits-grown E F w e k x A t.to m t.fits;
  rest = frames-grown E F m fs u w t.to t.rest;
}
frames-grown E F m (Return v ∷ fs) u x A t = record { here = t.here; away = t.away; real = t.real; mobile = t.mobile; rest = frames-grown E F m fs v v A t.rest }

focus-grown : (E F : Setting) → Extends E F → (u : World) (fs : List Frame) (f : Focus) → FocusTyped E u fs f → FocusTyped F u fs f
focus-grown E F m u fs (Eval w e) t = record { of = t.of; stands = t.stands; typed = grown E F m e nothing w t.of t.typed; frames = frames-grown E F m fs u w t.of t.frames }
focus-grown E F m u fs (Returned w e) t = (t.0, record { of = t.1.of; stands = t.1.stands; typed = grown E F m e nothing w t.1.of t.1.typed; frames = frames-grown E F m fs u w t.1.of t.1.frames })

pub thread-grown : (E F : Setting) → Extends E F → (u : World) (t : Thread) → ThreadTyped E u t → ThreadTyped F u t
thread-grown E F m u t d = focus-grown E F m u t.frames t.focus d

pub value-grown : (E F : Setting) → Extends E F → (u : World) (v : Expression) (A : TypeExpression) → ValueTyped E u v A → ValueTyped F u v A
value-grown E F m u v A c = (c.0, grown E F m v nothing u A c.1)

pub cells-grown : (E F : Setting) → Extends E F → (u : World) (vs : List Expression) (As : List TypeExpression) → CellsTyped E u vs As → CellsTyped F u vs As
cells-grown E F m u [] [] h = tt
cells-grown E F m u (v ∷ vs) (A ∷ As) h = (value-grown E F m u v A h.0, cells-grown E F m u vs As h.1)
cells-grown E F m u [] (A ∷ As) h = h
cells-grown E F m u (v ∷ vs) [] h = h

pub threads-grown : (E F : Setting) → Extends E F → (u : World) (ts : List Thread) → Each (ThreadTyped E u) ts → Each (ThreadTyped F u) ts
threads-grown E F m u ts t = each-map (ThreadTyped E u) (ThreadTyped F u) (thread-grown E F m u) ts t

pub item-grown : (E F : Setting) → Extends E F → (u : World) (i : Item) → ItemTyped E u i → ItemTyped F u i
item-grown E F m u (thread t) d = thread-grown E F m u t d
item-grown E F m u (raw bytes) d = d

pub reply-grown : (E F : Setting) → Extends E F → (u : World) (r : AnswerOf Item) → ReplyTyped E u r → ReplyTyped F u r
reply-grown E F m u (answer.Message v i) d = item-grown E F m u i d
reply-grown E F m u _ d = d

pub items-grown : (E F : Setting) → Extends E F → (u : World) (is : List Item) → Each (ItemTyped E u) is → Each (ItemTyped F u) is
items-grown E F m u is d = each-map (ItemTyped E u) (ItemTyped F u) (item-grown E F m u) is d

-- the site's own cells stay where another site's grows
pub site-grown : (E F : Setting) → Extends E F → (u : World) → F.cells u ≡ E.cells u → (s : Site) → SiteTyped E u s → SiteTyped F u s
site-grown E F m u same s t = (
  threads-grown E F m u s.threads t.0,
  subst (λ As. CellsTyped F u s.cells As) (sym same) (cells-grown E F m u s.cells (E.cells u) t.1),
  each-map (HandlerTyped E u) (HandlerTyped F u) (λ h c. value-grown E F m u h _ c) s.handlers t.2,
)

-- ---- cells

pub cell-there : (E : Setting) (u : World) (vs : List Expression) (As : List TypeExpression) (n : ℕ) (A : TypeExpression) → CellsTyped E u vs As → type_at As n ≡ Some A → (v : Expression) × (slice_get vs n ≡ Some v) × ValueTyped E u v A
cell-there E u [] [] n A h e = cc
cell-there E u (v ∷ vs) (B ∷ As) zero A h e = (v, refl, subst (λ C. ValueTyped E u v C) (let q : B ≡ A = cc in q) h.0)
cell-there E u (v ∷ vs) (B ∷ As) (suc n) A h e = cell-there E u vs As n A h.1 e
cell-there E u [] (B ∷ As) n A h e = absurd h
cell-there E u (v ∷ vs) [] n A h e = absurd h

pub cell-set : (E : Setting) (u : World) (vs : List Expression) (As : List TypeExpression) (n : ℕ) (A : TypeExpression) (v : Expression) → CellsTyped E u vs As → type_at As n ≡ Some A → ValueTyped E u v A → CellsTyped E u (slice_set vs n v) As
cell-set E u [] [] n A v h e c = tt
cell-set E u (w ∷ vs) (B ∷ As) zero A v h e c = (subst (λ C. ValueTyped E u v C) (let q : A ≡ B = cc in q) c, h.1)
cell-set E u (w ∷ vs) (B ∷ As) (suc n) A v h e c = (h.0, cell-set E u vs As n A v h.1 e c)
cell-set E u [] (B ∷ As) n A v h e c = absurd h
cell-set E u (w ∷ vs) [] n A v h e c = absurd h

pub cell-added : (E : Setting) (u : World) (vs : List Expression) (As : List TypeExpression) (A : TypeExpression) (v : Expression) → CellsTyped E u vs As → ValueTyped E u v A → CellsTyped E u (vs ++ v ∷ []) (As ++ A ∷ [])
cell-added E u [] [] A v h c = (c, tt)
cell-added E u (w ∷ vs) (B ∷ As) A v h c = (h.0, cell-added E u vs As A v h.1 c)
cell-added E u [] (B ∷ As) A v h c = absurd h
cell-added E u (w ∷ vs) [] A v h c = absurd h

pub last-type : (E : Setting) (u : World) (vs : List Expression) (As : List TypeExpression) (A : TypeExpression) → CellsTyped E u vs As → type_at (As ++ A ∷ []) (length vs) ≡ Some A
last-type E u [] [] A h = refl
last-type E u (w ∷ vs) (B ∷ As) A h = last-type E u vs As A h.1
last-type E u [] (B ∷ As) A h = absurd h
last-type E u (w ∷ vs) [] A h = absurd h

-- one type more
abbrev pub longer : World → TypeExpression → CellTypes → CellTypes
longer u A L = λ w. if same_world w u then L w ++ A ∷ [] else L w

pub longer-at : (u : World) (A : TypeExpression) (L : CellTypes) → longer u A L u ≡ L u ++ A ∷ []
longer-at u A L = by-world (λ t. (if t then L u ++ A ∷ [] else L u) ≡ L u ++ A ∷ []) u u (λ e. refl) (λ n. absurd (n refl))

pub longer-own : (u : World) (A : TypeExpression) (L : CellTypes) → GrowsAt u L (longer u A L)
longer-own u A L = (
  (λ w. by-world (λ t. (xs : List TypeExpression) × ((if t then L w ++ A ∷ [] else L w) ≡ L w ++ xs)) w u (λ e. (A ∷ [], refl)) (λ n. grows-self L w)),
  (λ w n. by-world (λ t. (if t then L w ++ A ∷ [] else L w) ≡ L w) w u (λ e. absurd (n e)) (λ m. refl)),
)

pub own-self : (u : World) (L : CellTypes) → GrowsAt u L L
own-self u L = (grows-self L, λ w n. refl)

pub own-on : (u : World) (L M K : CellTypes) → GrowsAt u L M → GrowsAt u M K → GrowsAt u L K
own-on u L M K g h = (grows-on L M K g.0 h.0, λ w n. h.1 w n ∙ g.1 w n)
