-- Blocks under labels in one list of steps: what each step is, and the code that begins at each place.
use Rattle.std.specs.Prelude.{ℕ, zero, suc, ◌==◌, if◌then◌else◌, Option, Some, None, List, [], ◌∷◌}
use Rattle.m5_terms.specs.TypeExpression.{TypeExpression}
use Rattle.m5_cps.specs.Entries.{SlotType, of, takes}
use Rattle.m5_cps.specs.Steps.{straight_of, test_of, ending_of}
use Rattle.m5_cps.specs.TypesByNumber.{type_in}
use Rattle.m5_flat.specs.Blocks.{Code, straight, closure, test, ends}
use Rattle.m5_flat.specs.Blocks as blocks
use Rattle.m5_flat.specs.declared.label.Kind.{Kind}
use Rattle.m5_flat.specs.declared.label.Named.{Named}
use Rattle.m5_flat.specs.declared.step.Step.{Step}
use Rattle.m5_flat.specs.declared.step.Step.TheVariants as steps

abbrev pub taking : ℕ → SlotType → SlotType
taking zero T = T
taking (suc n) T = takes (taking n T)

-- types are given by number
abbrev pub kind_of : List TypeExpression → Kind → SlotType
kind_of types k = taking k.times (of (type_in types k.number))

abbrev pub named_of : Named → blocks.Named
named_of a = record { label = a.label; primitive = a.primitive }

abbrev pub after : (Code → Code) → Option Code → Option Code
after make None = None
after make (Some c) = Some (make c)

abbrev pub after_both : (Code → Code → Code) → Option Code → Option Code → Option Code
after_both make None o = None
after_both make (Some c) o = after (make c) o

-- the code that begins with the step, where n is the place behind it and later code begins at these places
abbrev pub code_with : List TypeExpression → Step → ℕ → (ℕ → Option Code) → Option Code
code_with types (steps.Straight f) n later = after (straight (straight_of types f)) (later n)
code_with types (steps.Closure ls i next) n later = after (closure ls i) (later next)
code_with types (steps.Test t x second) n later = after_both (test (test_of t) x) (later n) (later second)
code_with types (steps.Ends e) n later = Some (ends (ending_of e))

-- the code that begins at a place, of steps of which the first has place p: it names places behind it only
unfoldable pub code_from : List TypeExpression → ℕ → List Step → ℕ → Option Code
code_from types p [] q = None
code_from types p (s ∷ ss) q = if q == p then code_with types s (suc p) (code_from types (suc p) ss) else code_from types (suc p) ss q

abbrev pub code_at : List TypeExpression → List Step → ℕ → Option Code
code_at types ss q = code_from types 0 ss q
