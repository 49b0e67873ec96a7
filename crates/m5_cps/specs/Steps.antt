-- Blocks in one list of steps: what each step is, and the code that begins at each place.
use Rattle.std.specs.Prelude.{ℕ, suc, ◌==◌, if◌then◌else◌, Option, Some, None, List, [], ◌∷◌}
use Rattle.m5_terms.specs.TypeExpression.{TypeExpression}
use Rattle.m5_terms.specs.declared.form.LeafForm.{LeafForm}
use Rattle.m5_terms.specs.declared.form.LeafForm.TheVariants as leaf_form
use Rattle.m5_terms.specs.declared.form.UnaryForm.{UnaryForm}
use Rattle.m5_terms.specs.declared.form.UnaryForm.TheVariants as unary_form
use Rattle.m5_cps.specs.Entries as entries
use Rattle.m5_cps.specs.Entries.{of, takes, only, everywhere, by_value, by_call}
use Rattle.m5_cps.specs.Blocks as blocks
use Rattle.m5_cps.specs.Blocks.{Code, straight, closure, test, ends}
use Rattle.m5_cps.specs.declared.entry.Mode.{Mode}
use Rattle.m5_cps.specs.declared.entry.Mode.TheVariants as modes
use Rattle.m5_cps.specs.declared.entry.Argument.{Argument}
use Rattle.m5_cps.specs.declared.entry.Argument.TheVariants as arguments
use Rattle.m5_cps.specs.declared.entry.Entry.{Entry}
use Rattle.m5_cps.specs.declared.entry.Entry.TheVariants as entry
use Rattle.m5_cps.specs.declared.step.Constant.{Constant}
use Rattle.m5_cps.specs.declared.step.Constant.TheVariants as constants
use Rattle.m5_cps.specs.declared.step.Operation.{Operation}
use Rattle.m5_cps.specs.declared.step.Operation.TheVariants as operations
use Rattle.m5_cps.specs.declared.step.Straight.{Straight}
use Rattle.m5_cps.specs.declared.step.Straight.TheVariants as straights
use Rattle.m5_cps.specs.declared.step.Test.{Test}
use Rattle.m5_cps.specs.declared.step.Test.TheVariants as tests
use Rattle.m5_cps.specs.declared.step.Ending.{Ending}
use Rattle.m5_cps.specs.declared.step.Ending.TheVariants as endings
use Rattle.m5_cps.specs.declared.step.Step.{Step}
use Rattle.m5_cps.specs.declared.step.Step.TheVariants as steps
use Rattle.m5_cps.specs.TypesByNumber.{type_in}

abbrev pub mode_of : Mode → entries.Mode
mode_of (modes.Only w) = only w
mode_of modes.Everywhere = everywhere

-- types are given by number
abbrev pub argument_of : List TypeExpression → Argument → entries.SlotType
argument_of types (arguments.Value n) = of (type_in types n)
argument_of types (arguments.Continuation n) = takes (of (type_in types n))

abbrev pub entry_of : List TypeExpression → Entry → entries.Entry
entry_of types (entry.ByValue m a) = by_value (mode_of m) (argument_of types a)
entry_of types (entry.ByCall m a b) = by_call (mode_of m) (type_in types a) (type_in types b)

abbrev pub constant_of : List TypeExpression → Constant → LeafForm
constant_of types (constants.Glob f) = leaf_form.Glob f
constant_of types (constants.Extern p) = leaf_form.Extern p
constant_of types constants.Unit = leaf_form.Unit
constant_of types (constants.Bool b) = leaf_form.Bool b
constant_of types (constants.Int n) = leaf_form.Int n
constant_of types (constants.Str s) = leaf_form.Str s
constant_of types (constants.Addr w) = leaf_form.Addr w
constant_of types constants.Here = leaf_form.Here
constant_of types (constants.Nil n) = leaf_form.Nil (type_in types n)

abbrev pub operation_of : List TypeExpression → Operation → UnaryForm
operation_of types operations.Fst = unary_form.Fst
operation_of types operations.Snd = unary_form.Snd
operation_of types operations.StrOf = unary_form.StrOf
operation_of types operations.Div = unary_form.Div
operation_of types operations.NewCell = unary_form.NewCell
operation_of types operations.Load = unary_form.Load
operation_of types operations.Hold = unary_form.Hold
operation_of types operations.Sham = unary_form.Sham
operation_of types (operations.Inl n) = unary_form.Inl (type_in types n)
operation_of types (operations.Inr n) = unary_form.Inr (type_in types n)

abbrev pub straight_of : List TypeExpression → Straight → blocks.Straight
straight_of types (straights.Constant c) = blocks.constant (constant_of types c)
straight_of types (straights.One o x) = blocks.one (operation_of types o) x
straight_of types (straights.Two f x y) = blocks.two f x y
straight_of types (straights.Unheld x) = blocks.unheld x
straight_of types (straights.Unsham x) = blocks.unsham x
straight_of types (straights.Spawn x) = blocks.spawn x

abbrev pub test_of : Test → blocks.Test
test_of tests.True = blocks.if_true
test_of tests.Left = blocks.if_left
test_of tests.Nil = blocks.if_nil
test_of tests.Here = blocks.if_here

abbrev pub ending_of : Ending → blocks.Ending
ending_of (endings.Go k x) = blocks.go k x
ending_of (endings.Call f x k) = blocks.call f x k
ending_of (endings.Ask p x k) = blocks.ask p x k
ending_of (endings.Send a k x) = blocks.send a k x
ending_of endings.Done = blocks.done

abbrev pub after : (Code → Code) → Option Code → Option Code
after make None = None
after make (Some c) = Some (make c)

abbrev pub after_both : (Code → Code → Code) → Option Code → Option Code → Option Code
after_both make None o = None
after_both make (Some c) o = after (make c) o

-- the code that begins with the step, where n is the place behind it and later code begins at these places
abbrev pub code_with : List TypeExpression → Step → ℕ → (ℕ → Option Code) → Option Code
code_with types (steps.Straight f) n later = after (straight (straight_of types f)) (later n)
code_with types (steps.Closure y b next) n later = after_both (closure (entry_of types y)) (later b) (later next)
code_with types (steps.Test t x second) n later = after_both (test (test_of t) x) (later n) (later second)
code_with types (steps.Ends e) n later = Some (ends (ending_of e))

-- the code that begins at a place, of steps of which the first has place p: it names places behind it only
unfoldable pub code_from : List TypeExpression → ℕ → List Step → ℕ → Option Code
code_from types p [] q = None
code_from types p (s ∷ ss) q = if q == p then code_with types s (suc p) (code_from types (suc p) ss) else code_from types (suc p) ss q

abbrev pub code_at : List TypeExpression → List Step → ℕ → Option Code
code_at types ss q = code_from types 0 ss q
