-- The texts of what is typed.
use Rattle.std.proofs.Common.{List, [], ◌∷◌}
use Rattle.std.specs.List.{AllByRecursion as Each}
use Rattle.m5_terms.specs.Expression.{Expression}
use Rattle.m5_terms.specs.TypeExpression.{TypeExpression}
use Rattle.m5_terms.specs.declared.types.World.{World}
use Rattle.m5_terms.specs.declared.thread.Frame.{Frame}
use Rattle.m5_terms.specs.declared.thread.Frame.TheVariants.{Part, Return}
use Rattle.m5_terms.specs.declared.thread.Focus.{Focus}
use Rattle.m5_terms.specs.declared.thread.Focus.TheVariants.{Eval, Returned}
use Rattle.m5_terms.specs.declared.ask.AskOf.{AskOf}
use Rattle.m5_terms.specs.declared.ask.AskOf.TheVariants as ask
use Rattle.m5_terms.specs.declared.ask.AnswerOf.{AnswerOf}
use Rattle.m5_terms.specs.declared.ask.AnswerOf.TheVariants as answer
use Rattle.m5_meaning.specs.Site.{Thread, Site, Item, thread, raw}
use Rattle.m5_typing.specs.Context.{Setting, nothing}
use Rattle.m5_site_sound.specs.Threads.{FramesTyped, FocusTyped, ThreadTyped}
use Rattle.m5_site_sound.specs.Sites.{CellsTyped, HandlerTyped, SiteTyped, ItemTyped, QueryTyped, ReplyTyped}
use Rattle.m5_site_sound.specs.Texts.{HasTexts, FrameHasTexts, FocusHasTexts, ThreadHasTexts, SiteHasTexts, ItemHasTexts, QueryHasTexts, ReplyHasTexts}
use Rattle.m5_terms.proofs.Lists.{each-map}
use Rattle.m5_site_sound.proofs.TextBytes.{typed-texts}

frames-texts : (E : Setting) (fs : List Frame) (u x : World) (A : TypeExpression) → FramesTyped E u fs x A → Each FrameHasTexts fs
frames-texts E [] u x A t = tt
frames-texts E (Part w e k ∷ fs) u x A t = (t.texts, frames-texts E fs u w t.to t.rest)
frames-texts E (Return v ∷ fs) u x A t = (tt, frames-texts E fs v v A t.rest)

focus-texts : (E : Setting) (u : World) (fs : List Frame) (f : Focus) → FocusTyped E u fs f → Each FrameHasTexts fs × FocusHasTexts f
focus-texts E u fs (Eval w e) t = (frames-texts E fs u w t.of t.frames, typed-texts E e nothing w t.of t.typed)
focus-texts E u fs (Returned w v) t = (frames-texts E fs u w t.1.of t.1.frames, typed-texts E v nothing w t.1.of t.1.typed)

thread-texts : (E : Setting) (u : World) (t : Thread) → ThreadTyped E u t → ThreadHasTexts t
thread-texts E u t d = let k = focus-texts E u t.frames t.focus d in record { frames = k.0; focus = k.1 }

cells-texts : (E : Setting) (u : World) (vs : List Expression) (As : List TypeExpression) → CellsTyped E u vs As → Each HasTexts vs
cells-texts E u [] [] t = tt
cells-texts E u (v ∷ vs) (A ∷ As) t = (typed-texts E v nothing u A t.0.1, cells-texts E u vs As t.1)
cells-texts E u [] (A ∷ As) t = absurd t
cells-texts E u (v ∷ vs) [] t = absurd t

pub site-texts : (E : Setting) (u : World) (s : Site) → SiteTyped E u s → SiteHasTexts s
site-texts E u s t = record {
  threads = each-map (ThreadTyped E u) ThreadHasTexts (thread-texts E u) s.threads t.0;
  cells = cells-texts E u s.cells (E.cells u) t.1;
  handlers = each-map (HandlerTyped E u) HasTexts (λ h c. typed-texts E h nothing u _ c.1) s.handlers t.2;
}

item-texts : (E : Setting) (u : World) (i : Item) → ItemTyped E u i → ItemHasTexts i
item-texts E u (thread t) d = thread-texts E u t d
item-texts E u (raw bytes) d = tt

pub items-texts : (E : Setting) (u : World) (is : List Item) → Each (ItemTyped E u) is → Each ItemHasTexts is
items-texts E u is d = each-map (ItemTyped E u) ItemHasTexts (item-texts E u) is d

pub query-texts : (E : Setting) (u : World) (q : AskOf Item) → QueryTyped E u q → QueryHasTexts q
query-texts E u (ask.Send v i) t = item-texts E v i t.2
query-texts E u (ask.Say x) t = t.1
query-texts E u (ask.Set e x) t = (t.1, t.2)
query-texts E u (ask.GetText e) t = t.1
query-texts E u (ask.On e n) t = t.1
query-texts E u (ask.Read k) t = t.1
query-texts E u (ask.Write k x) t = (t.1, t.2)
query-texts E u (ask.Watch k n) t = t.1
query-texts E u (ask.Show x) t = t.1
query-texts E u ask.Take t = t
query-texts E u (ask.Stop c) t = t

pub reply-texts : (E : Setting) (u : World) (r : AnswerOf Item) → ReplyTyped E u r → ReplyHasTexts r
reply-texts E u (answer.Message v i) t = item-texts E u i t
reply-texts E u _ t = t
