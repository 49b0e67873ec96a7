-- The laws of typing.
use Rattle.std.specs.Prelude.{◌≡◌, ℕ, IsTrue, Some, slice_get}
use Rattle.m5_terms.specs.Expression.{Expression}
use Rattle.m5_terms.specs.TypeExpression.{TypeExpression, mobile}
use Rattle.m5_terms.specs.Substitution.{substituted}
use Rattle.m5_terms.specs.Closed.{IsClosed}
use Rattle.m5_terms.specs.declared.types.World.{World}
use Rattle.m5_terms.specs.declared.types.World.TheVariants.{Any}
use Rattle.m5_typing.specs.Value.{IsValue, IsValueForm}
use Rattle.m5_typing.specs.Context.{Bound, local, valid, Context, Setting, nothing, with, type_at}
use Rattle.m5_typing.specs.Typing.{Typed}
use Rattle.m5_typing.specs.declared.functions.Function.{Function}
use Rattle.m5_typing.specs.Program.{ProgramTerm, IsProgram, FunctionTyped}

-- H knows each variable that G knows, with the same bound
abbrev pub Includes : Context → Context → Type 0
Includes G H = (x : ℕ) (b : Bound) → G x ≡ Some b → H x ≡ Some b

-- each function and each cell of the one setting is in the other
pub record Extends (E F : Setting) : Type 0 where
  pub functions : (f : ℕ) (b : Bound) → E.functions f ≡ Some b → F.functions f ≡ Some b
  pub cells : (w : World) (n : ℕ) (A : TypeExpression) → type_at (E.cells w) n ≡ Some A → type_at (F.cells w) n ≡ Some A

-- where more is known, of variables, functions and cells, a term keeps its types
abbrev pub Weakening : Type 0
Weakening = (E F : Setting) (G H : Context) (w : World) (e : Expression) (A : TypeExpression) → Extends E F → Includes G H → Typed E G w e A → Typed F H w e A

-- a closed term suits a bound where it is typed as what is bound
abbrev pub Suits : Setting → Expression → Bound → Type 0
Suits E v (local w A) = Typed E nothing w v A
Suits E v (valid A) = (w : World) → Typed E nothing w v A

-- a closed value form may stand for a variable whose bound it suits
abbrev pub Substitution : Type 0
Substitution = (E : Setting) (G : Context) (x : ℕ) (b : Bound) (v : Expression) (w : World) (e : Expression) (A : TypeExpression) → IsValueForm v → Suits E v b → Typed E (with x (Some b) G) w e A → Typed E G w (substituted x v e) A

-- a value of a mobile type that is typed at one world is typed at every world
abbrev pub Mobility : Type 0
Mobility = (E : Setting) (v : Expression) (w u : World) (A : TypeExpression) → IsValue v → IsTrue (mobile A) → Typed E nothing w v A → Typed E nothing u v A

-- what is typed at any without variables is typed at every world
abbrev pub TypedEverywhere : Type 0
TypedEverywhere = (E : Setting) (e : Expression) (u : World) (A : TypeExpression) → Typed E nothing Any e A → Typed E nothing u e A

-- a term has one type at a world
abbrev pub OneType : Type 0
OneType = (E : Setting) (G : Context) (w : World) (e : Expression) (A B : TypeExpression) → Typed E G w e A → Typed E G w e B → A ≡ B

-- what is typed without variables has no free ones
abbrev pub TypedIsClosed : Type 0
TypedIsClosed = (E : Setting) (w : World) (e : Expression) (A : TypeExpression) → Typed E nothing w e A → IsClosed e

-- each declared function of a program is typed where all of them are known
abbrev pub DeclaredIsTyped : Type 0
DeclaredIsTyped = (p : ProgramTerm) (f : ℕ) (g : Function) → IsProgram p → slice_get p.functions f ≡ Some g → FunctionTyped p.functions g
