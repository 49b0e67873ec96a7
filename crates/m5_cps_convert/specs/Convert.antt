-- The blocks of a program: one-pass conversion to continuation-passing style, where a part's code is written once, or twice if short.
use Rattle.std.specs.Prelude.{ℕ, suc, ◌&&◌, map, Bool, true, false, if◌then◌else◌, Option, Some, None}
use Rattle.m5_terms.specs.Expression.{Expression, leaf, unary, binary, ternary}
use Rattle.m5_terms.specs.TypeExpression.{TypeExpression, same_world}
use Rattle.m5_terms.specs.declared.types.World.{World}
use Rattle.m5_terms.specs.declared.types.World.TheVariants.{Home}
use Rattle.m5_terms.specs.declared.types.Primitive.{Primitive}
use Rattle.m5_terms.specs.declared.form.LeafForm.TheVariants as leaf_form
use Rattle.m5_terms.specs.declared.form.BinaryForm.{BinaryForm}
use Rattle.m5_terms.specs.declared.form.BinaryForm.TheVariants as binary_form
use Rattle.m5_terms.specs.declared.form.TernaryForm.{TernaryForm}
use Rattle.m5_terms.specs.declared.form.TernaryForm.TheVariants as ternary_form
use Rattle.m5_typing.specs.declared.functions.Function.{Function}
use Rattle.m5_typing.specs.Context.{local, valid, Setting}
use Rattle.m5_typing.specs.Program.{ProgramTerm, setting_of}
use Rattle.m5_cps.specs.Entries.{only, by_call, world_of}
use Rattle.m5_cps.specs.Blocks.{unheld, unsham, if_true, if_left, if_nil, ask, Code, straight, test, ends, Block, Blocks}
use Rattle.m5_cps.specs.TypeParts.{first_of, second_of, content_of, place_of}
use Rattle.m5_cps.specs.TypeOf.{type_of}
use Rattle.m5_cps_convert.specs.Scopes.{Scope, empty_scope, bind, fn_scope}
use Rattle.m5_cps_convert.specs.Continuations.{Continuation, Tail, Then, Part, reify, taking, leaf_code, body_code, start_code, arm_code}
use Rattle.m5_cps_convert.specs.Forms.{unary_code, binary_end, variable_of, get_away, get_code}

-- the primitive that a call names, whose block then asks itself: no object is made for the function
abbrev pub called_directly : BinaryForm → Expression → Option Primitive
called_directly binary_form.Call (leaf (leaf_form.Extern p)) = Some p
called_directly f a = None

abbrev pub is_leaf : Expression → Bool
is_leaf (leaf f) = true
is_leaf e = false

-- what has straight code of a few steps, so that it may stand twice
abbrev pub is_plain : Expression → Bool
is_plain (leaf f) = true
is_plain (binary binary_form.Pair a b) = is_leaf a && is_leaf b
is_plain e = false

-- the call of a primitive by its name with such an argument
abbrev pub asks_at_once : Expression → Bool
asks_at_once (binary binary_form.Call (leaf (leaf_form.Extern p)) b) = is_plain b
asks_at_once e = false

-- where a get at w goes with its continuation: to a world that is written and another, where its body asks at once
abbrev pub away_to : World → Expression → Expression → Option World
away_to w (leaf (leaf_form.Addr v)) b = if same_world v w then None else if asks_at_once b then Some v else None
away_to w a b = None

-- when the argument is in slot y
abbrev pub ask_code : Primitive → TypeExpression → Scope → ℕ → ℕ → Continuation → Code
ask_code p T Γ y n κ = reify (taking T Γ) κ n (λ k m. ends (ask p y k))

-- when the first part's value, of the type A, is in slot x; T is the node's type, z the variable that the second part is
abbrev pub binary_rest : BinaryForm → TypeExpression → TypeExpression → Option ℕ → Part → Scope → ℕ → ℕ → Continuation → Code
binary_rest binary_form.Do T A z b Γ x n κ = b Γ n κ
binary_rest binary_form.Get T A z b Γ x n κ = reify (taking T Γ) κ n (λ k m. get_code T (place_of A) x z b Γ k m)
binary_rest (binary_form.Val y) T A z b Γ x n κ = b (bind y (local (world_of Γ.mode) A) x Γ) n κ
binary_rest (binary_form.Put y) T A z b Γ x n κ = b (bind y (valid A) x Γ) n κ
binary_rest (binary_form.Leta y) T A z b Γ x n κ = straight (unheld x) (b (bind y (local (place_of A) (content_of A)) n Γ) (suc n) κ)
binary_rest (binary_form.Lets y) T A z b Γ x n κ = straight (unsham x) (b (bind y (valid (content_of A)) n Γ) (suc n) κ)
binary_rest f T A z b Γ x n κ = b Γ n (Then (λ y m. binary_end f T Γ x y m κ))

-- a get's parts, whose continuation is in slot k
abbrev pub get_apart : TypeExpression → TypeExpression → Option ℕ → Part → Part → Scope → ℕ → ℕ → Code
get_apart T A z a b Γ k n = a Γ n (Then (λ x m. binary_rest binary_form.Get T A z b Γ x m (Tail k)))

-- and where it may go to a world that is written
abbrev pub get_parts : Option World → TypeExpression → TypeExpression → Option ℕ → Part → Part → Scope → ℕ → ℕ → Code
get_parts None T A z a b Γ k n = get_apart T A z a b Γ k n
get_parts (Some v) T A z a b Γ k n = get_away (world_of Γ.mode) v b Γ k n (get_apart T A z a b Γ k (suc n))

-- parts come from left to right; a get's continuation gets its slot before its address is evaluated, so that two steps of the
-- source pay for its closures
abbrev pub binary_code : Option Primitive → Option World → BinaryForm → TypeExpression → TypeExpression → Option ℕ → Part → Part → Part
binary_code (Some p) o f T A z a b Γ n κ = b Γ n (Then (λ y m. ask_code p T Γ y m κ))
binary_code None o binary_form.Get T A z a b Γ n κ = reify (taking T Γ) κ n (λ k m. get_parts o T A z a b Γ k m)
binary_code None o f T A z a b Γ n κ = a Γ n (Then (λ x m. binary_rest f T A z b Γ x m κ))

-- both arms go on with the continuation in one slot (a join point)
abbrev pub ternary_rest : TernaryForm → TypeExpression → TypeExpression → Part → Part → Scope → ℕ → ℕ → Continuation → Code
ternary_rest ternary_form.If T A b c Γ x n κ =
    reify (taking T Γ) κ n (λ k m. test if_true x (arm_code T b Γ m k) (arm_code T c Γ m k))
ternary_rest (ternary_form.CaseSum y z) T A b c Γ x n κ = let w = world_of Γ.mode in
    reify (taking T Γ) κ n (λ k m.
    test if_left x (arm_code T b (bind y (local w (first_of A)) m Γ) (suc m) k)
    (arm_code T c (bind z (local w (second_of A)) m Γ) (suc m) k))
ternary_rest (ternary_form.CaseList y z) T A b c Γ x n κ = let w = world_of Γ.mode in
    reify (taking T Γ) κ n (λ k m.
    test if_nil x (arm_code T b Γ m k)
    (arm_code T c (bind z (local w A) (suc m) (bind y (local w (content_of A)) m Γ)) (suc (suc m)) k))

-- the type of a node of the scope
abbrev pub type_in : Setting → Expression → Scope → TypeExpression
type_in E e Γ = type_of E e Γ.bounds (world_of Γ.mode)

-- a node's code, with its scope, the number of filled slots, and what becomes of its value
abbrev pub cps : Setting → Expression → Part
cps E (leaf f) Γ n κ = leaf_code f Γ n κ
cps E (unary f a) Γ n κ = unary_code f (type_in E (unary f a) Γ) (cps E a) Γ n κ
cps E (binary f a b) Γ n κ =
    binary_code (called_directly f a) (away_to (world_of Γ.mode) a b) f (type_in E (binary f a b) Γ) (type_in E a Γ) (variable_of b) (cps E a) (cps E b) Γ n κ
cps E (ternary f a b c) Γ n κ =
    cps E a Γ n (Then (λ x m. ternary_rest f (type_in E (ternary f a b c) Γ) (type_in E a Γ) (cps E b) (cps E c) Γ x m κ))

-- a declared function's block is called where it stands, with itself, its argument and its continuation in slots 0, 1 and 2
abbrev pub function_code : Setting → Function → Code
function_code E g = body_code (cps E g.body) (fn_scope g.parameter g.ty 0 (empty_scope (only g.world))) 0

abbrev pub function_block : Setting → Function → Block
function_block E g = record { entry = by_call (only g.world) g.ty g.result; code = function_code E g }

-- main's block, with its closure and unit in slots 0 and 1
abbrev pub main_code : Setting → Expression → Code
main_code E e = start_code (cps E e) (empty_scope (only Home)) 0

abbrev pub program_blocks : ProgramTerm → Blocks
program_blocks P = let E = setting_of P.functions in record { functions = map (function_block E) P.functions; main = main_code E P.main }
