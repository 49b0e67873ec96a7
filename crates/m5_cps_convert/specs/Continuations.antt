-- What becomes of a node's value, known while the code is written or in a slot while it runs; and the blocks of their own.
use Rattle.std.specs.Prelude.{ℕ, suc, nat_lt, Option, Some, None, if◌then◌else◌}
use Rattle.m5_terms.specs.TypeExpression.{TypeExpression}
use Rattle.m5_terms.specs.declared.form.LeafForm.{LeafForm}
use Rattle.m5_terms.specs.declared.form.LeafForm.TheVariants as leaf_form
use Rattle.m5_cps.specs.Entries.{of, takes, Entry, by_value}
use Rattle.m5_cps.specs.Blocks.{constant, go, done, Code, straight, closure, ends}
use Rattle.m5_cps_convert.specs.Scopes.{Scope, in_block, in_arm}

-- the value goes to the continuation in a slot (a tail position), or code goes on with its slot and the number of filled slots
pub data Continuation : Type 0 where
  Tail : ℕ → Continuation
  Then : (ℕ → ℕ → Code) → Continuation

-- a part's code: its scope, the number of filled slots, and what becomes of its value
abbrev pub Part : Type 0
Part = Scope → ℕ → Continuation → Code

-- the value is in slot x, and n slots are filled
abbrev pub apply : Continuation → ℕ → ℕ → Code
apply (Tail k) x n = ends (go k x)
apply (Then f) x n = f x n

-- code with a slot that has the continuation: one that is in a slot is not made again, so what follows is written once
abbrev pub reify : Entry → Continuation → ℕ → (ℕ → ℕ → Code) → Code
reify y (Tail k) n g = g k n
reify y (Then f) n g = closure y (f (suc n) (suc (suc n))) (g n (suc n))

-- a continuation of the scope's block that takes a value of the type
abbrev pub taking : TypeExpression → Scope → Entry
taking T Γ = by_value Γ.mode (of T)

abbrev pub constant_code : LeafForm → ℕ → Continuation → Code
constant_code f n κ = straight (constant f) (apply κ n (suc n))

-- a variable makes no code of its own
abbrev pub variable_code : Option ℕ → ℕ → Continuation → Code
variable_code None n κ = constant_code leaf_form.Unit n κ
variable_code (Some l) n κ = apply κ l n

abbrev pub leaf_code : LeafForm → Part
leaf_code (leaf_form.Var x) Γ n κ = variable_code (Γ.slots x) n κ
leaf_code (leaf_form.Valid x) Γ n κ = variable_code (Γ.slots x) n κ
leaf_code f Γ n κ = constant_code f n κ

-- a function's block: itself, its argument and its continuation fill the next slots
abbrev pub body_code : Part → Scope → ℕ → Code
body_code e Γ n = e Γ (suc (suc (suc n))) (Tail (suc (suc n)))

-- a block that waits for its continuation, as its argument
abbrev pub goal_code : Part → Scope → ℕ → Code
goal_code e Γ n = e Γ (suc (suc n)) (Tail (suc n))

-- what ends a thread
abbrev pub thread_end : Continuation
thread_end = Then (λ x n. ends done)

-- a block that begins a thread
abbrev pub start_code : Part → Scope → ℕ → Code
start_code e Γ n = e Γ (suc (suc n)) thread_end

-- an arm of a choice of the type T, whose continuation is in slot k; where too many arms are open it gets a block of its own,
-- so that no block's tests nest deep
abbrev pub arm_code : TypeExpression → Part → Scope → ℕ → ℕ → Code
arm_code T e Γ n k =
    if nat_lt Γ.arms 500 then e (in_arm Γ) n (Tail k)
    else closure (by_value Γ.mode (takes (of T))) (goal_code e (in_block Γ.mode Γ) n) (ends (go n k))
