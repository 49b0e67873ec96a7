-- Typed threads.
use Rattle.std.specs.Prelude.{◌≡◌, ◌≢◌, ◌⊎◌, ℕ, suc, ◌<◌, Bool, true, IsTrue, List, [], ◌∷◌}
use Rattle.m5_terms.specs.Expression.{Expression, binary}
use Rattle.m5_terms.specs.TypeExpression.{TypeExpression, unit, mobile}
use Rattle.m5_terms.specs.declared.types.World.{World}
use Rattle.m5_terms.specs.declared.types.World.TheVariants.{Any}
use Rattle.m5_terms.specs.declared.thread.Frame.{Frame}
use Rattle.m5_terms.specs.declared.thread.Frame.TheVariants.{Part, Return}
use Rattle.m5_terms.specs.declared.thread.Focus.{Focus}
use Rattle.m5_terms.specs.declared.thread.Focus.TheVariants.{Eval, Returned}
use Rattle.m5_typing.specs.Value.{is_value, IsValue, IsValueForm}
use Rattle.m5_typing.specs.Context.{Setting, nothing}
use Rattle.m5_typing.specs.Typing.{Typed}
use Rattle.m5_typing.specs.Laws.{Extends}
use Rattle.m5_meaning.specs.Parts.{parts, fill, inner_world}
use Rattle.m5_meaning.specs.Site.{Thread}
use Rattle.m5_site_sound.specs.Texts.{HasTexts}

-- a thread at u looks at nodes of u, or at value forms that stand at any
abbrev pub StandsAt : World → World → Expression → Type 0
StandsAt u w e = (w ≡ u) ⊎ ((w ≡ Any) × IsValueForm e)

-- the parts before the k-th are values
abbrev pub is_ready : Expression → ℕ → Bool
is_ready (binary f a b) (suc k) = is_value a
is_ready e k = true

-- with a value of the type A at x in its hole, the node has the type B at w, now and when there are more cells
abbrev pub Fits : Setting → World → Expression → ℕ → World → TypeExpression → TypeExpression → Type 0
Fits E w e k x A B = (F : Setting) → Extends E F → (v : Expression) → IsValue v → Typed F nothing x v A → Typed F nothing w (fill e k v) B

-- a node at w waits for a value of the type A at x, and the frames under it for what it becomes
pub record PartTyped (E : Setting) (u w : World) (e : Expression) (k : ℕ) (x : World) (A : TypeExpression) (Rest : TypeExpression → Type 0) : Type 0 where
  pub to : TypeExpression
  pub world : x ≡ inner_world e w
  pub hole : k < parts e
  pub before : IsTrue (is_ready e k)
  pub stands : StandsAt u w e
  pub texts : HasTexts e
  pub fits : Fits E w e k x A to
  pub rest : Rest to

-- a value goes back from u to v, where the frames under it wait
pub record ReturnTyped (u v x : World) (A : TypeExpression) (Rest : Type 0) : Type 0 where
  pub here : x ≡ u
  pub away : v ≢ u
  pub real : v ≢ Any
  pub mobile : IsTrue (mobile A)
  pub rest : Rest

-- at the site of u, the frames take a value of the type A at x; a thread ends with unit
abbrev pub FramesTyped : Setting → World → List Frame → World → TypeExpression → Type 0
FramesTyped E u [] x A = A ≡ unit
FramesTyped E u (Part w e k ∷ fs) x A = PartTyped E u w e k x A (λ B. FramesTyped E u fs w B)
FramesTyped E u (Return v ∷ fs) x A = ReturnTyped u v x A (FramesTyped E v fs v A)

-- a term at w in focus, and the frames that take what it becomes
pub record TermTyped (E : Setting) (u w : World) (e : Expression) (fs : List Frame) : Type 0 where
  pub of : TypeExpression
  pub stands : StandsAt u w e
  pub typed : Typed E nothing w e of
  pub frames : FramesTyped E u fs w of

abbrev pub FocusTyped : Setting → World → List Frame → Focus → Type 0
FocusTyped E u fs (Eval w e) = TermTyped E u w e fs
FocusTyped E u fs (Returned w v) = IsValue v × TermTyped E u w v fs

abbrev pub ThreadTyped : Setting → World → Thread → Type 0
ThreadTyped E u t = FocusTyped E u t.frames t.focus
