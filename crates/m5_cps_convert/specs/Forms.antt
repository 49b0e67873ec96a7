-- The code of each form, from the code of its parts.
use Rattle.std.specs.Prelude.{ℕ, suc, Option, Some, None}
use Rattle.m5_terms.specs.Expression.{Expression, leaf}
use Rattle.m5_terms.specs.TypeExpression.{TypeExpression, unit, address}
use Rattle.m5_terms.specs.declared.types.World.{World}
use Rattle.m5_terms.specs.declared.form.LeafForm.TheVariants as leaf_form
use Rattle.m5_terms.specs.declared.form.UnaryForm.{UnaryForm}
use Rattle.m5_terms.specs.declared.form.UnaryForm.TheVariants as unary_form
use Rattle.m5_terms.specs.declared.form.BinaryForm.{BinaryForm}
use Rattle.m5_terms.specs.declared.form.BinaryForm.TheVariants as binary_form
use Rattle.m5_cps.specs.Entries.{of, takes, only, by_value, by_call}
use Rattle.m5_cps.specs.Blocks.{constant, one, two, spawn, if_here, go, call, send, Code, straight, closure, test, ends}
use Rattle.m5_cps.specs.TypeParts.{result_of}
use Rattle.m5_cps_convert.specs.Scopes.{Scope, in_block, in_sham, fn_scope, rec_scope}
use Rattle.m5_cps_convert.specs.Continuations.{Continuation, Tail, Then, Part, apply, reify, taking, body_code, goal_code, start_code}

-- a form of one part, when the part's value is in slot x
abbrev pub unary_rest : UnaryForm → ℕ → ℕ → Continuation → Code
unary_rest f x n κ = straight (one f x) (apply κ n (suc n))

-- T is the node's type. A function and what is spawned are blocks of their own; a division goes on in two ways in the codes to
-- come, so its continuation has a slot before; else the part comes first, and the form is straight
abbrev pub unary_code : UnaryForm → TypeExpression → Part → Part
unary_code (unary_form.Fn x A) T a Γ n κ = closure (by_call Γ.mode A (result_of T)) (body_code a (fn_scope x A n Γ) n) (apply κ n (suc n))
unary_code (unary_form.Rec f x A B) T a Γ n κ = closure (by_call Γ.mode A B) (body_code a (rec_scope f x A B n Γ) n) (apply κ n (suc n))
unary_code unary_form.Spawn T a Γ n κ =
    closure (by_value Γ.mode (of unit)) (start_code a (in_block Γ.mode Γ) n) (straight (spawn n) (apply κ (suc n) (suc (suc n))))
unary_code unary_form.Div T a Γ n κ = reify (taking T Γ) κ n (λ k m. a Γ m (Then (λ x p. unary_rest unary_form.Div x p (Tail k))))
unary_code unary_form.Sham T a Γ n κ = a (in_sham Γ) n (Then (λ x m. unary_rest unary_form.Sham x m κ))
unary_code f T a Γ n κ = a Γ n (Then (λ x m. unary_rest f x m κ))

-- when the values of both parts are in slots x and y
abbrev pub binary_end : BinaryForm → TypeExpression → Scope → ℕ → ℕ → ℕ → Continuation → Code
binary_end binary_form.Call T Γ x y n κ = reify (taking T Γ) κ n (λ k m. ends (call x y k))
binary_end f T Γ x y n κ = straight (two f x y) (apply κ n (suc n))

-- a block that sends what it is entered with to the address in slot h, for the continuation in slot k
abbrev pub back_code : ℕ → ℕ → ℕ → Code
back_code h k n = ends (send h k (suc n))

-- to the address in slot x go the closure in slot g and, made for it, a continuation that sends a value of the type T back for k;
-- or the value in slot l goes to that continuation
abbrev pub away_with_goal : TypeExpression → World → ℕ → ℕ → ℕ → ℕ → Code
away_with_goal T v x g k n =
    straight (constant leaf_form.Here) (closure (by_value (only v) (of T)) (back_code n k (suc n)) (ends (send x g (suc n))))

abbrev pub away_with_value : TypeExpression → World → ℕ → ℕ → ℕ → ℕ → Code
away_with_value T v x l k n =
    straight (constant leaf_form.Here) (closure (by_value (only v) (of T)) (back_code n k (suc n)) (ends (send x (suc n) l)))

-- a get whose body is the variable in slot l: the value itself goes to the continuation, here or away
abbrev pub get_value : TypeExpression → World → ℕ → ℕ → ℕ → ℕ → Code
get_value T v x l k n = test if_here x (ends (go k l)) (away_with_value T v x l k n)

-- any other body is one block, which waits for its continuation: here it gets the one in slot k, away one that sends back
abbrev pub get_goal : TypeExpression → World → ℕ → Part → Scope → ℕ → ℕ → Code
get_goal T v x b Γ k n =
    closure (by_value (only v) (takes (of T))) (goal_code b (in_block (only v) Γ) n)
    (test if_here x (ends (go n k)) (away_with_goal T v x n k (suc n)))

-- code that sends a value to the world w, for the continuation in slot k
abbrev pub homeward : World → ℕ → Continuation
homeward w k = Then (λ x n. straight (constant (leaf_form.Addr w)) (ends (send n k x)))

-- at the world w, a block for the body that sends its value there goes to v; at another, which no typed site is, such code
abbrev pub get_away : World → World → Part → Scope → ℕ → ℕ → Code → Code
get_away w v b Γ k n c =
    straight (constant (leaf_form.Addr w)) (test if_here n
    (straight (constant (leaf_form.Addr v))
    (closure (by_value (only v) (of (address w))) (b (in_block (only v) Γ) (suc (suc (suc (suc n)))) (homeward w k))
    (ends (send (suc n) (suc (suc n)) n)))) c)

-- the variable that a node is
abbrev pub variable_of : Expression → Option ℕ
variable_of (leaf (leaf_form.Var z)) = Some z
variable_of (leaf (leaf_form.Valid z)) = Some z
variable_of e = None

abbrev pub get_variable : TypeExpression → World → ℕ → Option ℕ → ℕ → ℕ → Code
get_variable T v x None k n = straight (constant leaf_form.Unit) (get_value T v x n k (suc n))
get_variable T v x (Some l) k n = get_value T v x l k n

-- z is the variable that the body is, if it is one
abbrev pub get_code : TypeExpression → World → ℕ → Option ℕ → Part → Scope → ℕ → ℕ → Code
get_code T v x None b Γ k n = get_goal T v x b Γ k n
get_code T v x (Some z) b Γ k n = get_variable T v x (Γ.slots z) k n
