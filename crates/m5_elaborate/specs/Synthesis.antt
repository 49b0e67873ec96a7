-- The type of a node from those of its parts, one line a form, with its checks in their order.
use Rattle.std.specs.Prelude.{ℕ, Bool, ◌&&◌, if◌then◌else◌}
use Rattle.m5_lex.specs.declared.place.Place.{Place}
use Rattle.m5_terms.specs.TypeExpression as types
use Rattle.m5_terms.specs.TypeExpression.{TypeExpression, unit, bool, int, string, address, product, sum, function, list, cell, sham, mobile, same_type}
use Rattle.m5_terms.specs.declared.types.World.{World}
use Rattle.m5_terms.specs.declared.types.World.TheVariants.{Any}
use Rattle.m5_terms.specs.declared.form.UnaryForm.{UnaryForm}
use Rattle.m5_terms.specs.declared.form.UnaryForm.TheVariants.{Fn, Rec, Fst, Snd, StrOf, Div, NewCell, Load, Hold, Sham, Spawn, Inl, Inr, Held}
use Rattle.m5_terms.specs.declared.form.BinaryForm.{BinaryForm}
use Rattle.m5_terms.specs.declared.form.BinaryForm.TheVariants.{Call, Pair, Cons, Store, Get, Binary, Val, Put, Leta, Lets}
use Rattle.m5_terms.specs.declared.form.TernaryForm.{TernaryForm}
use Rattle.m5_terms.specs.declared.form.TernaryForm.TheVariants.{If, CaseSum, CaseList}
use Rattle.m5_typing.specs.Operators.{operand, outcome}
use Rattle.m5_elaborate.specs.declared.names.Bound.{Bound}
use Rattle.m5_elaborate.specs.declared.names.Bound.TheVariants as bound
use Rattle.m5_terms.specs.declared.table.Binding.{Binding}
use Rattle.m5_terms.specs.declared.table.Binding.TheVariants.{Nothing, One, Two}
use Rattle.m5_elaborate.specs.declared.parts.Inside.{Inside}
use Rattle.m5_elaborate.specs.declared.arms.Arms.{Arms}
use Rattle.m5_elaborate.specs.declared.end.Kind.TheVariants.{WrongWorld, NotMobile, Mismatch, NotSum, NotList, NotAt, NotSham, NotGeneric}
use Rattle.m5_terms.specs.Outcome.{found}
use Rattle.m5_elaborate.specs.Outcome.{Outcome, refused}
use Rattle.m5_elaborate.specs.Leaves.{is_any}
use Rattle.m5_elaborate.specs.Parts.{if_same, first_of, second_of, content_of, applied, added, stored, injected_left, injected_right, hold_type, sham_type, moved_type}

-- where a form's one part stands
abbrev pub unary_world : UnaryForm → World → World
unary_world Sham w = Any
unary_world _ w = w

-- and what is bound in it
abbrev pub unary_binding : UnaryForm → World → Binding Bound
unary_binding (Fn x A) w = One x (bound.Local w A)
unary_binding (Rec f x A B) w = Two x (bound.Local w A) f (bound.Local w (function A B))
unary_binding _ w = Nothing

-- from the part's type, and whether the part is a value form; the last form is in no text
abbrev pub unary_type : UnaryForm → Place → World → Bool → TypeExpression → Outcome TypeExpression
unary_type (Fn x A) p w v B = found (function A B)
unary_type (Rec f x A C) p w v B = if_same (same_type B C) p (function A C)
unary_type Fst p w v B = first_of p B
unary_type Snd p w v B = second_of p B
unary_type (Inl T) p w v B = injected_left p T B
unary_type (Inr T) p w v B = injected_right p T B
unary_type StrOf p w v B = if_same (same_type B int) p string
unary_type Div p w v B = if_same (same_type B (product int int)) p (sum unit int)
unary_type NewCell p w v B = found (cell B)
unary_type Load p w v B = content_of p B
unary_type Hold p w v B = hold_type p w B
unary_type Sham p w v B = sham_type p v B
unary_type Spawn p w v B = if_same (same_type B unit) p unit
unary_type (Held u) p w v B = refused WrongWorld p

-- a second part stands at w, with these binders
abbrev pub inside : World → Binding Bound → Outcome Inside
inside w b = found (record { world = w; binding = b })

-- only a mobile type is put
abbrev pub put_part : ℕ → Place → World → TypeExpression → Outcome Inside
put_part x p w A = if mobile A then inside w (One x (bound.Valid A)) else refused NotMobile p

-- what is held at v is a local name of v
abbrev pub opened_hold : ℕ → Place → World → TypeExpression → Outcome Inside
opened_hold x p w (types.at A v) = if is_any v then refused NotAt p else inside w (One x (bound.Local v A))
opened_hold x p w _ = refused NotAt p

-- what is sham is a valid name
abbrev pub opened_sham : ℕ → Place → World → TypeExpression → Outcome Inside
opened_sham x p w (sham A) = inside w (One x (bound.Valid A))
opened_sham x p w _ = refused NotSham p

-- an address says where the second part stands
abbrev pub addressed : Place → TypeExpression → Outcome Inside
addressed p (address v) = if is_any v then refused Mismatch p else inside v Nothing
addressed p _ = refused Mismatch p

-- what is got from elsewhere needs a world to come to
abbrev pub get_part : Place → World → TypeExpression → Outcome Inside
get_part p w A = if is_any w then refused NotGeneric p else addressed p A

-- from the first part's type: where the second stands, and what is bound in it
abbrev pub second_part : BinaryForm → Place → World → TypeExpression → Outcome Inside
second_part (Val x) p w A = inside w (One x (bound.Local w A))
second_part (Put x) p w A = put_part x p w A
second_part (Leta x) p w A = opened_hold x p w A
second_part (Lets x) p w A = opened_sham x p w A
second_part Get p w A = get_part p w A
second_part _ p w A = inside w Nothing

-- from the types of both parts
abbrev pub binary_type : BinaryForm → Place → TypeExpression → TypeExpression → Outcome TypeExpression
binary_type Call p A B = applied p A B
binary_type Pair p A B = found (product A B)
binary_type Cons p A B = added p A B
binary_type Store p A B = stored p A B
binary_type (Binary o) p A B = if_same (same_type A (operand o) && same_type B (operand o)) p (outcome o)
binary_type Get p A B = moved_type p B
binary_type _ p A B = found B

-- each arm of a sum knows its part
abbrev pub sum_arms : ℕ → ℕ → Place → World → TypeExpression → Outcome Arms
sum_arms x y p w (sum A B) = found (record { second = One x (bound.Local w A); third = One y (bound.Local w B) })
sum_arms x y p w _ = refused NotSum p

-- the last arm of a list knows its head and its tail, the tail innermost
abbrev pub list_arms : ℕ → ℕ → Place → World → TypeExpression → Outcome Arms
list_arms x y p w (list A) = found (record { second = Nothing; third = Two y (bound.Local w (list A)) x (bound.Local w A) })
list_arms x y p w _ = refused NotList p

-- from the first part's type: what is bound in each arm
abbrev pub arms : TernaryForm → Place → World → TypeExpression → Outcome Arms
arms If p w A = found (record { second = Nothing; third = Nothing })
arms (CaseSum x y) p w A = sum_arms x y p w A
arms (CaseList x y) p w A = list_arms x y p w A

-- from the types of the three parts
abbrev pub ternary_type : TernaryForm → Place → TypeExpression → TypeExpression → TypeExpression → Outcome TypeExpression
ternary_type If p A B C = if_same (same_type A bool && same_type B C) p B
ternary_type _ p A B C = if_same (same_type B C) p B
