-- The typing rules, one line a form.
use Rattle.std.specs.Prelude.{◌≡◌, ◌≢◌, ◌≤◌, IsTrue, Some, List, [], ◌∷◌}
use Rattle.m5_terms.specs.Expression.{Expression}
use Rattle.m5_terms.specs.TypeExpression.{TypeExpression, unit, bool, int, string, address, product, sum, function, list, cell, sham, at, mobile, type_node_count}
use Rattle.m5_terms.specs.Primitives.{primitive_world, primitive_type}
use Rattle.m5_terms.specs.Text.{IsText}
use Rattle.m5_terms.specs.declared.types.World.{World}
use Rattle.m5_terms.specs.declared.types.World.TheVariants.{Any}
use Rattle.m5_terms.specs.declared.form.LeafForm.{LeafForm}
use Rattle.m5_terms.specs.declared.form.LeafForm.TheVariants as literal
use Rattle.m5_terms.specs.declared.form.LeafForm.TheVariants.{Var, Valid, Glob, Extern, Addr, Here, Nil, CellAt}
use Rattle.m5_terms.specs.declared.form.UnaryForm.{UnaryForm}
use Rattle.m5_terms.specs.declared.form.UnaryForm.TheVariants.{Fn, Rec, Fst, Snd, StrOf, Div, NewCell, Load, Hold, Sham, Spawn, Inl, Inr, Held}
use Rattle.m5_terms.specs.declared.form.BinaryForm.{BinaryForm}
use Rattle.m5_terms.specs.declared.form.BinaryForm.TheVariants.{Call, Pair, Cons, Store, Do, Get, Binary, Val, Put, Leta, Lets}
use Rattle.m5_terms.specs.declared.form.TernaryForm.{TernaryForm}
use Rattle.m5_terms.specs.declared.form.TernaryForm.TheVariants.{If, CaseSum, CaseList}
use Rattle.m5_typing.specs.Value.{IsValue, IsValueForm}
use Rattle.m5_typing.specs.Operators.{operand, outcome}
use Rattle.m5_typing.specs.Context.{Bound, local, valid, Context, Setting, type_at, IsKnownAt}

-- a type has at most so many nodes
abbrev pub IsSmall : TypeExpression → Type 0
IsSmall A = type_node_count A ≤ 1024

-- LeafRule E G w f A: the form has the type A at w
abbrev pub LeafRule : Setting → Context → World → LeafForm → TypeExpression → Type 0
LeafRule E G w (Var x) A = G x ≡ Some (local w A)
LeafRule E G w (Valid x) A = G x ≡ Some (valid A)
LeafRule E G w (Glob f) A = (B C : TypeExpression) × (A ≡ function B C) × IsKnownAt (E.functions f) w A
LeafRule E G w (Extern p) A = (w ≡ primitive_world p) × (A ≡ primitive_type p)
LeafRule E G w literal.Unit A = A ≡ unit
LeafRule E G w (literal.Bool b) A = A ≡ bool
LeafRule E G w (literal.Int n) A = A ≡ int
LeafRule E G w (literal.Str s) A = (A ≡ string) × IsText s
LeafRule E G w (Addr v) A = (v ≢ Any) × (A ≡ address v)
LeafRule E G w Here A = (w ≢ Any) × (A ≡ address w)
LeafRule E G w (Nil B) A = A ≡ list B
LeafRule E G w (CellAt v n) A = (B : TypeExpression) × (v ≢ Any) × (w ≡ v) × (type_at (E.cells v) n ≡ Some B) × (A ≡ cell B)

-- the types and the world that are the node's own choice
pub record Pick : Type 0 where
  pub a : TypeExpression
  pub b : TypeExpression
  pub c : TypeExpression
  pub v : World

pub record UnaryRule : Type 1 where
  pub world : World
  pub bounds : List Bound
  pub part : TypeExpression
  pub whole : TypeExpression
  pub side : Expression → Type 0

abbrev pub part_rule : World → List Bound → TypeExpression → TypeExpression → (Expression → Type 0) → UnaryRule
part_rule v bounds B A S = record { world = v; bounds = bounds; part = B; whole = A; side = S }

-- at w: the part's world, the bounds of the binders, the part's type, the node's type, and what else must hold, also of the part
abbrev pub unary_rule : UnaryForm → World → Pick → UnaryRule
unary_rule (Fn x A) w p = part_rule w (local w A ∷ []) p.a (function A p.a) (λ e. Unit {0})
unary_rule (Rec f x A B) w p = part_rule w (local w A ∷ local w (function A B) ∷ []) B (function A B) (λ e. Unit {0})
unary_rule Fst w p = part_rule w [] (product p.a p.b) p.a (λ e. Unit {0})
unary_rule Snd w p = part_rule w [] (product p.a p.b) p.b (λ e. Unit {0})
unary_rule (Inl T) w p = part_rule w [] p.a (sum p.a p.b) (λ e. T ≡ sum p.a p.b)
unary_rule (Inr T) w p = part_rule w [] p.b (sum p.a p.b) (λ e. T ≡ sum p.a p.b)
unary_rule StrOf w p = part_rule w [] int string (λ e. Unit {0})
unary_rule Div w p = part_rule w [] (product int int) (sum unit int) (λ e. Unit {0})
unary_rule NewCell w p = part_rule w [] p.a (cell p.a) (λ e. Unit {0})
unary_rule Load w p = part_rule w [] (cell p.a) p.a (λ e. Unit {0})
unary_rule Hold w p = part_rule w [] p.a (at p.a w) (λ e. w ≢ Any)
unary_rule (Held v) w p = part_rule v [] p.a (at p.a v) (λ e. (v ≢ Any) × IsValue e)
unary_rule Sham w p = part_rule Any [] p.a (sham p.a) IsValueForm
unary_rule Spawn w p = part_rule w [] unit unit (λ e. Unit {0})

pub record BinaryRule : Type 1 where
  pub first : TypeExpression
  pub world : World
  pub bounds : List Bound
  pub second : TypeExpression
  pub whole : TypeExpression
  pub side : Type 0

abbrev pub parts_rule : TypeExpression → World → List Bound → TypeExpression → TypeExpression → Type 0 → BinaryRule
parts_rule B v bounds C A S = record { first = B; world = v; bounds = bounds; second = C; whole = A; side = S }

-- at w: the first part's type, the second's world, the bounds of its binders, its type, the node's type, and what else must hold
abbrev pub binary_rule : BinaryForm → World → Pick → BinaryRule
binary_rule Call w p = parts_rule (function p.a p.b) w [] p.a p.b (Unit {0})
binary_rule Pair w p = parts_rule p.a w [] p.b (product p.a p.b) (Unit {0})
binary_rule Cons w p = parts_rule p.a w [] (list p.a) (list p.a) (Unit {0})
binary_rule Store w p = parts_rule (cell p.a) w [] p.a unit (Unit {0})
binary_rule (Binary o) w p = parts_rule (operand o) w [] (operand o) (outcome o) (Unit {0})
binary_rule Do w p = parts_rule p.a w [] p.b p.b (Unit {0})
binary_rule (Val x) w p = parts_rule p.a w (local w p.a ∷ []) p.b p.b (Unit {0})
binary_rule (Put x) w p = parts_rule p.a w (valid p.a ∷ []) p.b p.b (IsTrue (mobile p.a))
binary_rule (Leta x) w p = parts_rule (at p.a p.v) w (local p.v p.a ∷ []) p.b p.b (p.v ≢ Any)
binary_rule (Lets x) w p = parts_rule (sham p.a) w (valid p.a ∷ []) p.b p.b (Unit {0})
binary_rule Get w p = parts_rule (address p.v) p.v [] p.b p.b ((w ≢ Any) × (p.v ≢ Any) × IsTrue (mobile p.b))

pub record TernaryRule : Type 0 where
  pub first : TypeExpression
  pub second_bounds : List Bound
  pub third_bounds : List Bound
  pub whole : TypeExpression

abbrev pub arms_rule : TypeExpression → List Bound → List Bound → TypeExpression → TernaryRule
arms_rule B second third A = record { first = B; second_bounds = second; third_bounds = third; whole = A }

-- at w: the first part's type, the bounds of the binders of each arm, and the type of both arms and of the node
abbrev pub ternary_rule : TernaryForm → World → Pick → TernaryRule
ternary_rule If w p = arms_rule bool [] [] p.b
ternary_rule (CaseSum x y) w p = arms_rule (sum p.a p.c) (local w p.a ∷ []) (local w p.c ∷ []) p.b
ternary_rule (CaseList x y) w p = arms_rule (list p.a) [] (local w (list p.a) ∷ local w p.a ∷ []) p.b
