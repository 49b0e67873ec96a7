-- What a definition finds, or its first fault, and what a call that may want memory has to do with it.
use Rattle.std.specs.Prelude.{◌≡◌, ◌≢◌, Result, Ok, Err}

-- what is found, or the first fault
pub data Outcome (A E : Type 0) : Type 0 where
  found : A → Outcome A E
  fault : E → Outcome A E

-- a fault that comes first stands
abbrev pub and_then : {A B E : Type 0} → Outcome A E → (A → Outcome B E) → Outcome B E
and_then (found x) f = f x
and_then (fault e) f = fault e

-- a call's fault is the definition's first one, unless memory is wanting, which may end any call
abbrev pub IsFault : {A E : Type 0} → E → Outcome A E → E → Type 0
IsFault memory o e = e ≢ memory → o ≡ fault e

-- a call ends as its definition says: with what is found, or with its fault
abbrev pub Ends : {A E : Type 0} → E → Result A E → Outcome A E → Type 0
Ends memory (Ok x) o = o ≡ found x
Ends memory (Err e) o = IsFault memory o e
