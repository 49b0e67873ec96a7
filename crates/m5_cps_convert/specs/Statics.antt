-- Frames that are known while a block's code is written: what a continuation of the conversion stands for.
use Rattle.std.specs.Prelude.{ℕ}
use Rattle.m5_terms.specs.Expression.{Expression, leaf, unary, binary, ternary}
use Rattle.m5_terms.specs.declared.types.World.{World}
use Rattle.m5_terms.specs.declared.types.Primitive.{Primitive}
use Rattle.m5_terms.specs.declared.form.LeafForm.TheVariants as leaf_form
use Rattle.m5_terms.specs.declared.form.BinaryForm.TheVariants as binary_form
use Rattle.m5_typing.specs.Context.{Setting}
use Rattle.m5_cps.specs.Blocks.{Code, send, done, ends}
use Rattle.m5_cps_convert.specs.Scopes.{Scope}
use Rattle.m5_cps_convert.specs.Continuations.{Continuation, Tail, Then, thread_end}
use Rattle.m5_cps_convert.specs.Forms.{unary_rest, binary_end, homeward, variable_of}
use Rattle.m5_cps_convert.specs.Convert.{cps, type_in, ask_code, binary_rest, ternary_rest}

-- the code that goes on with the value of a node's first part, in slot x
abbrev pub first_rest : Setting → Expression → Scope → ℕ → ℕ → Continuation → Code
first_rest E (leaf f) Γ x n κ = ends done
first_rest E (unary f a) Γ x n κ = unary_rest f x n κ
first_rest E (binary f a b) Γ x n κ = binary_rest f (type_in E (binary f a b) Γ) (type_in E a Γ) (variable_of b) (cps E b) Γ x n κ
first_rest E (ternary f a b c) Γ x n κ = ternary_rest f (type_in E (ternary f a b c) Γ) (type_in E a Γ) (cps E b) (cps E c) Γ x n κ

-- the same with those of both, in slots x and y
abbrev pub second_rest : Setting → Expression → Scope → ℕ → ℕ → ℕ → Continuation → Code
second_rest E (binary f a b) Γ x y n κ = binary_end f (type_in E (binary f a b) Γ) Γ x y n κ
second_rest E _ Γ x y n κ = ends done

-- the call of a primitive by its name
abbrev pub direct_call : Primitive → Expression → Expression
direct_call p b = binary binary_form.Call (leaf (leaf_form.Extern p)) b

pub data Static : Type 0 where
  -- the thread ends
  STop : Static
  -- the value goes to the continuation in that slot
  STail : ℕ → Static
  -- it is sent to the address in the first slot, for the continuation in the second
  SBack : ℕ → ℕ → Static
  -- it is sent to that world, for the continuation in the slot
  SHome : World → ℕ → Static
  -- a node of the scope waits for its first part
  SFirst : Scope → Expression → Static → Static
  -- or for its second, with the slot of the first
  SSecond : Scope → Expression → ℕ → Static → Static
  -- a primitive that is called by its name waits for its argument
  SArgument : Scope → Primitive → Expression → Static → Static

abbrev pub kont : Setting → Static → Continuation
kont E STop = thread_end
kont E (STail k) = Tail k
kont E (SBack h k) = Then (λ x n. ends (send h k x))
kont E (SHome w k) = homeward w k
kont E (SFirst Γ e K) = Then (λ x n. first_rest E e Γ x n (kont E K))
kont E (SSecond Γ e x K) = Then (λ y n. second_rest E e Γ x y n (kont E K))
kont E (SArgument Γ p b K) = Then (λ y n. ask_code p (type_in E (direct_call p b) Γ) Γ y n (kont E K))

-- a get has its continuation in a slot before its first part
abbrev pub IsTail : Static → Type 0
IsTail (STail k) = Unit {0}
IsTail K = ⊥

abbrev pub IsSlotted : Expression → Static → Type 0
IsSlotted (binary binary_form.Get a b) K = IsTail K
IsSlotted e K = Unit {0}

-- it does more than go to a continuation
abbrev pub Works : Static → Type 0
Works (STail k) = ⊥
Works K = Unit {0}
