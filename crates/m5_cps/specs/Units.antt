-- The units of a site's room that objects take.
use Rattle.std.specs.Prelude.{ℕ, suc, ◌+◌, ◌/◌, List, [], ◌∷◌, length}
use Rattle.m5_terms.specs.declared.form.LeafForm.{LeafForm}
use Rattle.m5_terms.specs.declared.form.LeafForm.TheVariants as leaf_form
use Rattle.m5_cps.specs.Values.{Wrap, left, right, Join, pair, cons, Value, Thread, enter, call}

-- a text of so many bytes
abbrev pub text_units : ℕ → ℕ
text_units b = suc ((b + 7) / 8)

-- a closure over so many slots
abbrev pub closure_units : ℕ → ℕ
closure_units k = suc (suc k)

-- the argument and the continuation of a call
abbrev pub array_units : ℕ
array_units = 3

-- a text, `nil`, or a function as a value; what else has no parts is no object
abbrev pub leaf_units : LeafForm → ℕ
leaf_units (leaf_form.Str t) = text_units (length t)
leaf_units (leaf_form.Nil A) = 2
leaf_units (leaf_form.Glob f) = closure_units 0
leaf_units (leaf_form.Extern p) = closure_units 0
leaf_units _ = 0

-- an injection; what is held or in a sham is no further object
abbrev pub wrap_units : Wrap → ℕ
wrap_units (left A) = 3
wrap_units (right A) = 3
wrap_units _ = 0

abbrev pub join_units : Join → ℕ
join_units pair = 3
join_units cons = 4

-- a thread that arrives, where a value takes so many: the closure, the array of a call, and the values as trees
abbrev pub thread_units : {C : Type 0} → (Value C → ℕ) → Thread C → ℕ
thread_units units (enter k x) = units k + units x
thread_units units (call f x k) = units f + (array_units + (units x + units k))

-- a thread of a handler: the text, the continuation and the array of the call
abbrev pub begun_units : {C : Type 0} → ℕ → List (Thread C) → ℕ
begun_units b [] = 0
begun_units b (th ∷ ths) = (text_units b + (closure_units 0 + array_units)) + begun_units b ths
