-- Which answers an ask may get.
use Rattle.std.specs.Prelude.{◌≢◌, ◌<◌, ℕ, AllPairs}
use Rattle.std.specs.List.{AllByRecursion as Each}
use Rattle.m5_terms.specs.declared.ask.AskOf.{AskOf}
use Rattle.m5_terms.specs.declared.ask.AskOf.TheVariants as ask
use Rattle.m5_terms.specs.declared.ask.AnswerOf.{AnswerOf}
use Rattle.m5_terms.specs.declared.ask.AnswerOf.TheVariants as answer

-- the kinds of answers that an ask may get
abbrev pub IsAnswer : {I : Type 0} → AskOf I → AnswerOf I → Type 0
IsAnswer ask.Take (answer.Message v i) = Unit {0}
IsAnswer ask.Take (answer.Fired k n t) = Unit {0}
IsAnswer ask.Take (answer.Event e ns t) = Unit {0}
IsAnswer ask.Take _ = ⊥
IsAnswer (ask.Read k) (answer.Found t) = Unit {0}
IsAnswer (ask.Read k) answer.Missing = Unit {0}
IsAnswer (ask.Read k) _ = ⊥
IsAnswer (ask.GetText e) (answer.Found t) = Unit {0}
IsAnswer (ask.GetText e) _ = ⊥
IsAnswer _ answer.Done = Unit {0}
IsAnswer _ _ = ⊥

-- of so many handlers, a trigger names one, and an event names any of them, none twice
abbrev pub NamesHandlers : {I : Type 0} → ℕ → AnswerOf I → Type 0
NamesHandlers n (answer.Fired k i t) = i < n
NamesHandlers n (answer.Event e is t) = Each (λ i. i < n) is × AllPairs (λ i j. i ≢ j) is
NamesHandlers n _ = Unit {0}
