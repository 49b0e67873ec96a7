-- Sites without free variables, and sites whose numbers have room for a step.
use Rattle.std.specs.Prelude.{◌≡◌, ℕ, ◌<◌, ◌^◌, [], ◌∷◌, All, IsTrue, Some, slice_get}
use Rattle.m5_terms.specs.Closed.{IsClosed, closed_under}
use Rattle.m5_terms.specs.declared.types.World.{World}
use Rattle.m5_terms.specs.declared.thread.Frame.{Frame}
use Rattle.m5_terms.specs.declared.thread.Frame.TheVariants.{Part, Return}
use Rattle.m5_terms.specs.declared.thread.Focus.{Focus}
use Rattle.m5_terms.specs.declared.thread.Focus.TheVariants.{Eval, Returned}
use Rattle.m5_typing.specs.declared.functions.Function.{Function}
use Rattle.m5_typing.specs.Program.{IsProgram}
use Rattle.m5_terms.specs.Machine.{goes, asks, wrong}
use Rattle.m5_terms.specs.declared.ask.AskOf.{AskOf}
use Rattle.m5_terms.specs.declared.ask.AskOf.TheVariants as ask
use Rattle.m5_terms.specs.declared.ask.AnswerOf.{AnswerOf}
use Rattle.m5_terms.specs.declared.ask.AnswerOf.TheVariants as answer
use Rattle.m5_meaning.specs.Site.{Program, Thread, Site, Item, thread, raw}
use Rattle.m5_meaning.specs.Step.{SiteNext, site_next}

abbrev pub IsClosedFrame : Frame → Type 0
IsClosedFrame (Part w e k) = IsClosed e
IsClosedFrame (Return w) = Unit {0}

abbrev pub IsClosedFocus : Focus → Type 0
IsClosedFocus (Eval w e) = IsClosed e
IsClosedFocus (Returned w v) = IsClosed v

-- nothing that a thread will evaluate has a free variable
pub record IsClosedThread (t : Thread) : Type 0 where
  pub frames : All IsClosedFrame t.frames
  pub focus : IsClosedFocus t.focus

pub record IsClosedSite (s : Site) : Type 0 where
  pub threads : All IsClosedThread s.threads
  pub cells : All IsClosed s.cells
  pub handlers : All IsClosed s.handlers

-- a function's body has its parameter free and nothing else
pub record IsClosedProgram (P : Program) : Type 0 where
  pub bodies : (f : ℕ) (g : Function) → slice_get P.functions f ≡ Some g → IsTrue (closed_under (g.parameter ∷ []) g.body)
  pub main : IsClosed P.main

abbrev pub IsClosedItem : Item → Type 0
IsClosedItem (thread t) = IsClosedThread t
IsClosedItem (raw bytes) = Unit {0}

abbrev pub IsClosedQuery : AskOf Item → Type 0
IsClosedQuery (ask.Send w i) = IsClosedItem i
IsClosedQuery _ = Unit {0}

abbrev pub IsClosedReply : AnswerOf Item → Type 0
IsClosedReply (answer.Message w i) = IsClosedItem i
IsClosedReply _ = Unit {0}

-- whatever is answered, what comes next is closed
abbrev pub IsClosedNext : SiteNext → Type 0
IsClosedNext (goes t) = IsClosedSite t
IsClosedNext (asks q resume) = IsClosedQuery q × ((r : AnswerOf Item) (t : Site) → IsClosedReply r → resume r ≡ Some t → IsClosedSite t)
IsClosedNext wrong = Unit {0}

-- a closed site of a closed program stays closed, and sends nothing that is not
abbrev pub StaysClosed : Type 0
StaysClosed = (P : Program) (u : World) (s : Site) → IsClosedProgram P → IsClosedSite s → IsClosedNext (site_next P u s)

abbrev pub TypedProgramIsClosed : Type 0
TypedProgramIsClosed = (P : Program) → IsProgram P → IsClosedProgram P

-- the steps and the weight are far from the largest numbers that the code counts to
abbrev pub HasRoom : Site → Type 0
HasRoom s = (s.steps < 2 ^ 62) × (s.weight < 2 ^ 62)
