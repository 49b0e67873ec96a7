-- What writing the blocks of a program makes sure of.
use Rattle.std.specs.Prelude.{◌≡◌, ℕ, List, [], ◌∷◌, take, Some, None, slice_get}
use Rattle.m5_terms.specs.Expression.{Expression}
use Rattle.m5_terms.specs.TypeExpression.{TypeExpression, function}
use Rattle.m5_terms.specs.Table.{entries}
use Rattle.m5_typing.specs.declared.functions.Function.{Function}
use Rattle.m5_typing.specs.Context.{Setting}
use Rattle.m5_typing.specs.Program.{declared_type}
use Rattle.m5_cps.specs.Entries.{only, by_call}
use Rattle.m5_cps.specs.Steps.{entry_of, code_at}
use Rattle.m5_cps.specs.declared.step.Step.{Step}
use Rattle.m5_cps.specs.declared.cps.Start.{Start}
use Rattle.m5_cps_convert.specs.Convert.{function_code, main_code}
use Rattle.m5_cps_convert.specs.declared.walk.Walk.{Walk}
use Rattle.m5_cps_convert.specs.declared.part_types.FunctionParts.{FunctionParts}
use Rattle.m5_cps_convert.specs.code.Types.{IsAt}
use Rattle.m5_cps_convert.specs.code.Writing.{Keeps, Grows, Completes}
use Rattle.m5_cps_convert.specs.code.Knowing.{IsDeclared}

pub record AreParts (types : List TypeExpression) (n : ℕ) (p : FunctionParts) : Type 0 where
  pub are : (A B : TypeExpression) → IsAt types n (function A B) → IsAt types p.argument A × IsAt types p.result B

-- the numbers of the functions' types
abbrev pub AreDeclared : List TypeExpression → List ℕ → List Function → Type 0
AreDeclared types [] [] = Unit {0}
AreDeclared types (n ∷ ns) (g ∷ gs) = IsAt types n (declared_type g) × AreDeclared types ns gs
AreDeclared types _ _ = ⊥

pub record Declares (old new : List TypeExpression) (gs : List Function) (ns : List ℕ) : Type 0 where
  pub keeps : Keeps old new
  pub declared : AreDeclared new ns gs

-- no variable is bound, and the declared functions' types are known
pub record KnowsProgram (w : Walk) (E : Setting) : Type 0 where
  pub bare : (x : ℕ) → entries w.names x ≡ None
  pub declared : (f : ℕ) → IsDeclared w.types (slice_get w.functions.items f) (E.functions f)

-- the block of a function stands in a finished program
pub record IsBlockAt (E : Setting) (T : List TypeExpression) (S : List Step) (s : Start) (g : Function) : Type 0 where
  pub entry : entry_of T s.entry ≡ by_call (only g.world) g.ty g.result
  pub code : code_at T S s.place ≡ Some (function_code E g)

abbrev pub AreBlocks : Setting → List TypeExpression → List Step → List Start → List Function → Type 0
AreBlocks E T S [] [] = Unit {0}
AreBlocks E T S (s ∷ ss) (g ∷ gs) = IsBlockAt E T S s g × AreBlocks E T S ss gs
AreBlocks E T S _ _ = ⊥

pub record WritesFunction (old new : Walk) (g : Function) (whole : ℕ) (s : Start) : Type 0 where
  pub grows : Grows old new
  pub stands : (E : Setting) → KnowsProgram old E → IsAt old.types whole (declared_type g)
      → (T : List TypeExpression) (S : List Step) → Completes T S old new → IsBlockAt E T S s g

pub record WritesFunctions (old new : Walk) (gs : List Function) (ss : List Start) : Type 0 where
  pub grows : Grows old new
  pub stand : (E : Setting) → KnowsProgram old E → AreDeclared old.types old.functions.items gs
      → (T : List TypeExpression) (S : List Step) → Completes T S old new → AreBlocks E T S ss gs

pub record WritesMain (old new : Walk) (e : Expression) (p : ℕ) : Type 0 where
  pub grows : Grows old new
  pub stands : (E : Setting) → KnowsProgram old E
      → (T : List TypeExpression) (S : List Step) → Completes T S old new → code_at T S p ≡ Some (main_code E e)

-- the blocks of the first functions were written
pub record FunctionsSoFar (start now : Walk) (gs : List Function) (i : ℕ) (ss : List Start) : Type 0 where
  pub grows : Grows start now
  pub stand : (E : Setting) → KnowsProgram start E → AreDeclared start.types start.functions.items gs
      → (T : List TypeExpression) (S : List Step) → Completes T S start now → AreBlocks E T S ss (take i gs)
