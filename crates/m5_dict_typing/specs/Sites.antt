-- What the threads of a site bring to the labels that they enter, by type ids.
use Rattle.std.specs.Prelude.{◌≡◌, ℕ, zero, suc, IsTrue, Option, Some, slice_get}
use Rattle.std.specs.List.{AllByRecursion as Each}
use Rattle.m5_terms.specs.Machine.{goes, asks, wrong}
use Rattle.m5_terms.specs.Answers.{IsAnswer}
use Rattle.m5_terms.specs.declared.ask.AskOf.{AskOf}
use Rattle.m5_terms.specs.declared.ask.AskOf.TheVariants as query
use Rattle.m5_terms.specs.declared.ask.AnswerOf.{AnswerOf}
use Rattle.m5_terms.specs.declared.form.LeafForm.TheVariants as leaf_form
use Rattle.m5_terms.specs.declared.types.World.{World}
use Rattle.m5_typing.specs.Context.{CellTypes}
use Rattle.m5_site_sound.specs.Settings.{Grows, GrowsAt}
use Rattle.m5_dictionary.specs.declared.line.TypeLine.TheVariants as lines
use Rattle.m5_dictionary.specs.Dictionaries.{Dictionaries, stands_at}
use Rattle.m5_cps.specs.Values.{atom, closed, enter, call, thread, raw, SiteNext}
use Rattle.m5_cps_typing.specs.States.{SiteFits, QueryFits, ReplyFits}
use Rattle.m5_flat.specs.Blocks.{Blocks}
use Rattle.m5_flat.specs.Fits.{no_setting}
use Rattle.m5_flat.specs.Program.{IsProgram}
use Rattle.m5_flat.specs.Values.{Closure, under, Value, Thread, Item, Site}
use Rattle.m5_flat.specs.Running.{site_next}
use Rattle.m5_flat_typing.specs.Closures.{ClosureFits}
use Rattle.m5_dict_typing.specs.Values.{ClosureIsOf, IsOf}

-- the closure has an id, as one that is sent has, and its label is one of u's code; what it takes is of the label's argument
pub record Enters (d : Dictionaries) (u : World) (l k : ℕ) (ρ : ℕ → Value) (Argument : ℕ → Type 0) : Type 0 where
  pub id : ℕ
  pub code : ClosureIsOf d id l k (λ j i. IsOf d i (ρ j))
  pub stands : IsTrue (stands_at code.entrance.world u)
  pub argument : Argument code.entrance.argument

-- a call takes a pair of an argument and a continuation
pub record IsCallOf (d : Dictionaries) (id : ℕ) (x j : Value) : Type 0 where
  pub argument : ℕ
  pub continuation : ℕ
  pub line : slice_get d.types id ≡ Some (lines.Pair argument continuation)
  pub argument_is : IsOf d argument x
  pub continuation_is : IsOf d continuation j

-- what is entered is a closure
abbrev pub EntersClosure : Dictionaries → World → Value → (ℕ → Type 0) → Type 0
EntersClosure d u (closed (under l k) ρ) Argument = Enters d u l k ρ Argument
EntersClosure d u _ Argument = ⊥

-- what is called is a closure, or a primitive by its name, which has no label
abbrev pub CallsFunction : Dictionaries → World → Value → (ℕ → Type 0) → Type 0
CallsFunction d u (closed (under l k) ρ) Argument = Enters d u l k ρ Argument
CallsFunction d u (atom (leaf_form.Extern p)) Argument = Unit {0}
CallsFunction d u _ Argument = ⊥

abbrev pub BringsItsTypes : Dictionaries → World → Thread → Type 0
BringsItsTypes d u (enter k x) = EntersClosure d u k (λ id. IsOf d id x)
BringsItsTypes d u (call f x j) = CallsFunction d u f (λ id. IsCallOf d id x j)

-- what is sent is a thread that enters a closure, and brings its types where it goes
abbrev pub SendsItsTypes : Dictionaries → AskOf Item → Type 0
SendsItsTypes d (query.Send v (thread (enter k x))) = BringsItsTypes d v (enter k x)
SendsItsTypes d (query.Send v (thread (call f x j))) = ⊥
SendsItsTypes d (query.Send v (raw bytes)) = ⊥
SendsItsTypes d _ = Unit {0}

module _ (B : Blocks) (p : IsProgram B) (d : Dictionaries) where
  -- a site is typed, and each of its threads brings the types of the label that it enters
  pub record ValuesHaveTheirTypes (L : CellTypes) (u : World) (s : Site) : Type 0 where
    pub typed : SiteFits (ClosureFits B p.environments) no_setting L u s
    pub threads : Each (BringsItsTypes d u) s.threads

  module _ (Kept : CellTypes → World → Site → Type 0) where
    -- each typed answer makes a site that is kept, also when other sites have made cells meanwhile
    abbrev pub AnswersKeep : CellTypes → World → AskOf Item → (AnswerOf Item → Option Site) → Type 0
    AnswersKeep L u q resume =
        (M : CellTypes) (r : AnswerOf Item) → Grows L M → M u ≡ L u → IsAnswer q r →
        ReplyFits (ClosureFits B p.environments) no_setting M u r → (x : Site) × (resume r ≡ Some x) × Kept M u x

    -- a step to such a site, or a typed ask that sends what has its types; never wrong
    abbrev pub NextKeeps : CellTypes → World → SiteNext Closure → Type 0
    NextKeeps L u (goes s) = Kept L u s
    NextKeeps L u (asks q resume) =
        QueryFits (ClosureFits B p.environments) no_setting L u q × SendsItsTypes d q × AnswersKeep L u q resume
    NextKeeps L u wrong = ⊥

    -- the same, where the site has made more cells
    pub record GoesOnTo (L : CellTypes) (u : World) (x : SiteNext Closure) : Type 0 where
      pub cells : CellTypes
      pub grows : GrowsAt u L cells
      pub keeps : NextKeeps cells u x

  -- it is so for as many moves, whatever typed answers come
  abbrev pub KeepsTypes : ℕ → CellTypes → World → Site → Type 0
  KeepsTypes zero L u s = ValuesHaveTheirTypes L u s
  KeepsTypes (suc n) L u s = ValuesHaveTheirTypes L u s × GoesOnTo (KeepsTypes n) L u (site_next B u s)
