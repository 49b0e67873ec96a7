-- Typed sites, asks and answers, and what a typed site does next.
use Rattle.std.specs.Prelude.{◌≡◌, ◌≢◌, List, Option, Some}
use Rattle.std.specs.List.{AllByRecursion as Each, AllZip}
use Rattle.m5_terms.specs.Expression.{Expression}
use Rattle.m5_terms.specs.TypeExpression.{TypeExpression, unit, string, function}
use Rattle.m5_terms.specs.Text.{IsText}
use Rattle.m5_terms.specs.Primitives.{primitive_world}
use Rattle.m5_terms.specs.declared.types.Primitive.TheVariants as primitive
use Rattle.m5_terms.specs.declared.types.World.{World}
use Rattle.m5_terms.specs.declared.types.World.TheVariants.{Any}
use Rattle.m5_typing.specs.Value.{IsValue}
use Rattle.m5_typing.specs.Context.{CellTypes, Setting, nothing}
use Rattle.m5_typing.specs.Typing.{Typed}
use Rattle.m5_terms.specs.Machine.{goes, asks, wrong}
use Rattle.m5_terms.specs.declared.ask.AskOf.{AskOf}
use Rattle.m5_terms.specs.declared.ask.AskOf.TheVariants as ask
use Rattle.m5_terms.specs.declared.ask.AnswerOf.{AnswerOf}
use Rattle.m5_terms.specs.declared.ask.AnswerOf.TheVariants as answer
use Rattle.m5_terms.specs.Answers.{IsAnswer}
use Rattle.m5_meaning.specs.Site.{Site, Item, thread, raw}
use Rattle.m5_meaning.specs.Step.{SiteNext}
use Rattle.m5_site_sound.specs.Settings.{with_cells, Grows, GrowsAt}
use Rattle.m5_site_sound.specs.Threads.{ThreadTyped}

-- a closed value of the type
abbrev pub ValueTyped : Setting → World → Expression → TypeExpression → Type 0
ValueTyped E u v A = IsValue v × Typed E nothing u v A

-- each cell holds a value of its type
abbrev pub CellsTyped : Setting → World → List Expression → List TypeExpression → Type 0
CellsTyped E u vs As = AllZip (ValueTyped E u) vs As

-- a handler takes a text
abbrev pub HandlerTyped : Setting → World → Expression → Type 0
HandlerTyped E u h = ValueTyped E u h (function string unit)

-- threads, cells and handlers are typed
abbrev pub SiteTyped : Setting → World → Site → Type 0
SiteTyped E u s = Each (ThreadTyped E u) s.threads × CellsTyped E u s.cells (E.cells u) × Each (HandlerTyped E u) s.handlers

-- raw bytes have no type
abbrev pub ItemTyped : Setting → World → Item → Type 0
ItemTyped E u (thread t) = ThreadTyped E u t
ItemTyped E u (raw bytes) = Unit {0}

-- a primitive is called at its own world; a thread is sent to another site, where it is typed
abbrev pub QueryTyped : Setting → World → AskOf Item → Type 0
QueryTyped E u (ask.Say t) = (u ≡ primitive_world primitive.Say) × IsText t
QueryTyped E u (ask.Set e t) = (u ≡ primitive_world primitive.SetText) × IsText e × IsText t
QueryTyped E u (ask.GetText e) = (u ≡ primitive_world primitive.GetText) × IsText e
QueryTyped E u (ask.On e n) = (u ≡ primitive_world primitive.On) × IsText e
QueryTyped E u (ask.Read k) = (u ≡ primitive_world primitive.Read) × IsText k
QueryTyped E u (ask.Write k t) = (u ≡ primitive_world primitive.Write) × IsText k × IsText t
QueryTyped E u (ask.Watch k n) = (u ≡ primitive_world primitive.Watch) × IsText k
QueryTyped E u (ask.Show t) = (u ≡ primitive_world primitive.Show) × IsText t
QueryTyped E u (ask.Send v i) = (v ≢ u) × (v ≢ Any) × ItemTyped E v i
QueryTyped E u ask.Take = Unit {0}
QueryTyped E u (ask.Stop c) = Unit {0}

abbrev pub ReplyTyped : Setting → World → AnswerOf Item → Type 0
ReplyTyped E u (answer.Found t) = IsText t
ReplyTyped E u (answer.Message v i) = ItemTyped E u i
ReplyTyped E u (answer.Fired k n t) = IsText k × IsText t
ReplyTyped E u (answer.Event e ns t) = IsText e × IsText t
ReplyTyped E u _ = Unit {0}

-- each answer of a kind that the ask may get, if it is typed, makes a typed site of the one that asks, also when other sites have made cells meanwhile
abbrev pub AnswersTyped : Setting → World → AskOf Item → (AnswerOf Item → Option Site) → Type 0
AnswersTyped E u q resume = (M : CellTypes) (r : AnswerOf Item) → Grows E.cells M → M u ≡ E.cells u → IsAnswer q r → ReplyTyped (with_cells M E) u r →
    (x : Site) × (resume r ≡ Some x) × SiteTyped (with_cells M E) u x

-- a step to a typed site or a typed ask, and never wrong
abbrev pub IsTypedNext : Setting → World → SiteNext → Type 0
IsTypedNext E u (goes s) = SiteTyped E u s
IsTypedNext E u (asks q resume) = QueryTyped E u q × AnswersTyped E u q resume
IsTypedNext E u wrong = ⊥

-- the same, when the site has made a cell, or none
pub record NextTyped (E : Setting) (u : World) (x : SiteNext) : Type 0 where
  pub cells : CellTypes
  pub grows : GrowsAt u E.cells cells
  pub typed : IsTypedNext (with_cells cells E) u x
