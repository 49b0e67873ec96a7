-- Typed values, threads, sites, asks and answers of blocks, where closures are typed by K.
use Rattle.std.specs.Prelude.{◌≡◌, ◌≢◌, ◌⊎◌, ℕ, IsTrue, Option, Some, List}
use Rattle.std.specs.List.{AllByRecursion as Each, AllZip}
use Rattle.m5_terms.specs.TypeExpression.{TypeExpression, product, sum, function, list, sham, at, string, unit}
use Rattle.m5_terms.specs.Text.{IsText}
use Rattle.m5_terms.specs.Primitives.{primitive_world}
use Rattle.m5_terms.specs.Machine.{goes, asks, wrong}
use Rattle.m5_terms.specs.Answers.{IsAnswer}
use Rattle.m5_terms.specs.declared.ask.AskOf.{AskOf}
use Rattle.m5_terms.specs.declared.ask.AskOf.TheVariants as query
use Rattle.m5_terms.specs.declared.ask.AnswerOf.{AnswerOf}
use Rattle.m5_terms.specs.declared.ask.AnswerOf.TheVariants as answer
use Rattle.m5_terms.specs.declared.types.Primitive.TheVariants as primitive
use Rattle.m5_terms.specs.declared.types.World.{World}
use Rattle.m5_terms.specs.declared.types.World.TheVariants.{Any}
use Rattle.m5_typing.specs.Value.{leaf_is_value}
use Rattle.m5_typing.specs.Context.{CellTypes, Setting, nothing}
use Rattle.m5_typing.specs.Rules.{LeafRule}
use Rattle.m5_site_sound.specs.Settings.{with_cells, Grows, GrowsAt}
use Rattle.m5_cps.specs.Entries.{SlotType, of, takes, Mode, only, everywhere}
use Rattle.m5_cps.specs.Values.{left, right, held, pair, cons, Value, atom, wrap, join, closed, Thread, enter, call, Item, thread, raw, Site, SiteNext}
use Rattle.m5_cps.specs.Values as value
use Rattle.m5_cps.specs.Deeds.{Ran, makes, ends}
use Rattle.m5_cps.specs.Slots.{slot, Slots}

-- in a block that runs at u, any is u
abbrev pub at_site : World → World → World
at_site u Any = u
at_site u w = w

-- something that has types at worlds has one in a mode, where its block runs at u
abbrev pub Holds : (World → SlotType → Type 0) → World → Mode → SlotType → Type 0
Holds V u (only v) T = V (at_site u v) T
Holds V u everywhere T = (v : World) → v ≢ Any → V v T

-- each slot has what is known of it
abbrev pub SlotsFit : (ℕ → World → SlotType → Type 0) → World → Slots → Type 0
SlotsFit V u S = (l : ℕ) (m : Mode) (T : SlotType) → S l ≡ Some (slot m T) → Holds (V l) u m T

-- a block at b may run at u
abbrev pub Stands : World → World → Type 0
Stands u b = (b ≡ u) ⊎ (b ≡ Any)

-- when a closure has a type at a world, by what its slots have
abbrev pub ClosureTyping : Type 0 → Type 1
ClosureTyping C = C → (ℕ → World → SlotType → Type 0) → World → SlotType → Type 0

-- the value has the type at u
abbrev pub ValueFits : {C : Type 0} → ClosureTyping C → Setting → CellTypes → Value C → World → SlotType → Type 0
ValueFits K F L (atom f) u T = (A : TypeExpression) × (T ≡ of A) × IsTrue (leaf_is_value f) × LeafRule (with_cells L F) nothing u f A
ValueFits K F L (wrap (left X) a) u T = (A B : TypeExpression) × (T ≡ of (sum A B)) × ValueFits K F L a u (of A)
ValueFits K F L (wrap (right X) a) u T = (A B : TypeExpression) × (T ≡ of (sum A B)) × ValueFits K F L a u (of B)
ValueFits K F L (wrap (held v) a) u T = (A : TypeExpression) × (T ≡ of (at A v)) × (v ≢ Any) × ValueFits K F L a v (of A)
ValueFits K F L (wrap value.sham a) u T = (A : TypeExpression) × (T ≡ of (sham A)) × ((v : World) → v ≢ Any → ValueFits K F L a v (of A))
ValueFits K F L (join pair a b) u T = (A B : TypeExpression) × (T ≡ of (product A B)) × ValueFits K F L a u (of A) × ValueFits K F L b u (of B)
ValueFits K F L (join cons a b) u T = (A : TypeExpression) × (T ≡ of (list A)) × ValueFits K F L a u (of A) × ValueFits K F L b u (of (list A))
ValueFits K F L (closed k ρ) u T = K k (λ l. ValueFits K F L (ρ l)) u T

module _ {C : Type 0} (K : ClosureTyping C) (F : Setting) where
  abbrev pub ThreadFits : CellTypes → World → Thread C → Type 0
  ThreadFits L u (enter k x) = (T : SlotType) × ValueFits K F L k u (takes T) × ValueFits K F L x u T
  ThreadFits L u (call f x k) = (A B : TypeExpression) × ValueFits K F L f u (of (function A B)) × ValueFits K F L x u (of A) × ValueFits K F L k u (takes (of B))

  -- each cell holds a value of its type
  abbrev pub CellsFit : CellTypes → World → List (Value C) → List TypeExpression → Type 0
  CellsFit L u = AllZip (λ a A. ValueFits K F L a u (of A))

  -- a handler takes a text
  abbrev pub HandlerFits : CellTypes → World → Value C → Type 0
  HandlerFits L u h = ValueFits K F L h u (of (function string unit))

  -- threads, cells and handlers are typed
  abbrev pub SiteFits : CellTypes → World → Site C → Type 0
  SiteFits L u s = Each (ThreadFits L u) s.threads × CellsFit L u s.cells (L u) × Each (HandlerFits L u) s.handlers

  abbrev pub ItemFits : CellTypes → World → Item C → Type 0
  ItemFits L u (thread t) = ThreadFits L u t
  ItemFits L u (raw bytes) = Unit {0}

  -- a primitive is asked at its own world; a thread is sent to another site, where it is typed
  abbrev pub QueryFits : CellTypes → World → AskOf (Item C) → Type 0
  QueryFits L u (query.Say t) = (u ≡ primitive_world primitive.Say) × IsText t
  QueryFits L u (query.Set e t) = (u ≡ primitive_world primitive.SetText) × IsText e × IsText t
  QueryFits L u (query.GetText e) = (u ≡ primitive_world primitive.GetText) × IsText e
  QueryFits L u (query.On e n) = (u ≡ primitive_world primitive.On) × IsText e
  QueryFits L u (query.Read k) = (u ≡ primitive_world primitive.Read) × IsText k
  QueryFits L u (query.Write k t) = (u ≡ primitive_world primitive.Write) × IsText k × IsText t
  QueryFits L u (query.Watch k n) = (u ≡ primitive_world primitive.Watch) × IsText k
  QueryFits L u (query.Show t) = (u ≡ primitive_world primitive.Show) × IsText t
  QueryFits L u (query.Send v i) = (v ≢ u) × (v ≢ Any) × ItemFits L v i
  QueryFits L u query.Take = Unit {0}
  QueryFits L u (query.Stop c) = Unit {0}

  abbrev pub ReplyFits : CellTypes → World → AnswerOf (Item C) → Type 0
  ReplyFits L u (answer.Found t) = IsText t
  ReplyFits L u (answer.Message v i) = ItemFits L u i
  ReplyFits L u (answer.Fired k n t) = IsText k × IsText t
  ReplyFits L u (answer.Event e ns t) = IsText e × IsText t
  ReplyFits L u _ = Unit {0}

  -- each typed answer of a kind that the ask may get makes a typed site, also when other sites have made cells meanwhile
  abbrev pub AnswersFit : CellTypes → World → AskOf (Item C) → (AnswerOf (Item C) → Option (Site C)) → Type 0
  AnswersFit L u q resume = (M : CellTypes) (r : AnswerOf (Item C)) → Grows L M → M u ≡ L u → IsAnswer q r → ReplyFits M u r → (x : Site C) × (resume r ≡ Some x) × SiteFits M u x

  -- a step to a typed site or a typed ask, and never wrong
  abbrev pub IsFitNext : CellTypes → World → SiteNext C → Type 0
  IsFitNext L u (goes s) = SiteFits L u s
  IsFitNext L u (asks q resume) = QueryFits L u q × AnswersFit L u q resume
  IsFitNext L u wrong = ⊥

  -- the same, where the site has made more cells
  pub record NextFits (L : CellTypes) (u : World) (x : SiteNext C) : Type 0 where
    pub cells : CellTypes
    pub grows : GrowsAt u L cells
    pub typed : IsFitNext cells u x

  -- what a block's run ends in is typed
  abbrev pub RanFits : CellTypes → World → Ran C → Type 0
  RanFits L u (makes p r) = RanFits L u r
  RanFits L u (ends x) = NextFits L u x
