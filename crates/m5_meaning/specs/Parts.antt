-- The parts of a node that are evaluated, from left to right.
use Rattle.std.specs.Prelude.{ℕ, zero, suc}
use Rattle.m5_terms.specs.Expression.{Expression, leaf, unary, binary, ternary}
use Rattle.m5_terms.specs.declared.types.World.{World}
use Rattle.m5_terms.specs.declared.types.World.TheVariants.{Any}
use Rattle.m5_terms.specs.declared.form.UnaryForm.{UnaryForm}
use Rattle.m5_terms.specs.declared.form.UnaryForm.TheVariants as unary_form
use Rattle.m5_terms.specs.declared.form.BinaryForm.{BinaryForm}
use Rattle.m5_terms.specs.declared.form.BinaryForm.TheVariants as binary_form

-- the body of a function and what is spawned wait, and a held value is one already
abbrev pub unary_parts : UnaryForm → ℕ
unary_parts (unary_form.Fn x ty) = 0
unary_parts (unary_form.Rec f x ty result) = 0
unary_parts unary_form.Spawn = 0
unary_parts (unary_form.Held w) = 0
unary_parts _ = 1

-- both parts of a call, a pair, a cons, a store and an operator, else the first alone
abbrev pub binary_parts : BinaryForm → ℕ
binary_parts binary_form.Call = 2
binary_parts binary_form.Pair = 2
binary_parts binary_form.Cons = 2
binary_parts binary_form.Store = 2
binary_parts (binary_form.Binary op) = 2
binary_parts _ = 1

-- how many parts of a node are evaluated
abbrev pub parts : Expression → ℕ
parts (leaf f) = 0
parts (unary f a) = unary_parts f
parts (binary f a b) = binary_parts f
parts (ternary f a b c) = 1

-- the part at a place, from 0
abbrev pub part : Expression → ℕ → Expression
part (leaf f) k = leaf f
part (unary f a) k = a
part (binary f a b) zero = a
part (binary f a b) (suc k) = b
part (ternary f a b c) k = a

-- the node with a value in that place
abbrev pub fill : Expression → ℕ → Expression → Expression
fill (leaf f) k v = leaf f
fill (unary f a) k v = unary f v
fill (binary f a b) zero v = binary f v b
fill (binary f a b) (suc k) v = binary f a v
fill (ternary f a b c) k v = ternary f v b c

-- the world at which the parts are evaluated: any in a sham, else the node's own
abbrev pub inner_world : Expression → World → World
inner_world (unary unary_form.Sham a) w = Any
inner_world _ w = w
