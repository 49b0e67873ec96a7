-- The same tokens read with one token of look-ahead.
use Rattle.std.specs.Prelude.{◌≡◌, ℕ, ◌≤◌, ◌<◌, Bool, false, List, [], ◌∷◌, ◌++◌, length}
use Rattle.m5_lex.specs.declared.tokens.Placed.{Placed}
use Rattle.m5_tree.specs.Kinds.{code_of, token_code}
use Rattle.m5_tree.specs.Reading.{State, shift, act, limit}
use Rattle.m5_tree.specs.declared.grammar.Symbol.{Symbol}
use Rattle.m5_tree.specs.declared.grammar.Symbol.TheVariants.{Tok, Nt, Act}
use Rattle.m5_tree.specs.declared.grammar.Kind.{Kind}
use Rattle.m5_tree.specs.declared.grammar.Phrase.{Phrase}
use Rattle.m5_tree.specs.declared.grammar.Action.{Action}
use Rattle.m5_tree.specs.declared.value.Value.{Value}
use Rattle.m5_parse.specs.Kinds.{leads}
use Rattle.m5_parse.specs.Rows.{choose}
use Rattle.m5_parse.specs.declared.machine.Machine.{Machine}
use Rattle.m5_parse.specs.declared.machine.Stop.{Stop}
use Rattle.m5_parse.specs.declared.machine.Stop.TheVariants as stops

-- How the reading ends: in a state, or with so many tokens left.
pub data Outcome : Type 0 where
  Accepted : State → Outcome
  Refused TooDeep : ℕ → Outcome

pub data Ends (o : Outcome) : List Symbol → List Placed → State → Type 0 where
  accepted : {s : State} → o ≡ Accepted s → Ends o [] [] s
  more : {t : Placed} {ts : List Placed} {s : State} → o ≡ Refused (length (t ∷ ts)) → Ends o [] (t ∷ ts) s
  shifted : {keep : Bool} {k : Kind} {t : Placed} {ss : List Symbol} {ts : List Placed} {s : State} → token_code t.token ≡ code_of k → s.level ≤ limit → Ends o ss ts (shift keep t s) → Ends o (Tok keep k ∷ ss) (t ∷ ts) s
  deep : {keep : Bool} {k : Kind} {t : Placed} {ss : List Symbol} {ts : List Placed} {s : State} → token_code t.token ≡ code_of k → limit < s.level → o ≡ TooDeep (length (t ∷ ts)) → Ends o (Tok keep k ∷ ss) (t ∷ ts) s
  other : {keep : Bool} {k : Kind} {ss : List Symbol} {ts : List Placed} {s : State} → leads ts (k ∷ []) ≡ false → o ≡ Refused (length ts) → Ends o (Tok keep k ∷ ss) ts s
  acted : {a : Action} {ss : List Symbol} {ts : List Placed} {s : State} → Ends o ss ts (act a s) → Ends o (Act a ∷ ss) ts s
  chosen : {n : Phrase} {ss : List Symbol} {ts : List Placed} {s : State} → Ends o (choose n ts ++ ss) ts s → Ends o (Nt n ∷ ss) ts s

abbrev pub state : List (List ℕ) → List Value → ℕ → List ℕ → State
state names vs level os = record { names = names; values = vs; level = level; outside = os }

abbrev pub IsStop : Stop → Outcome → Type 0
IsStop stops.Memory o = ⊥
IsStop (stops.Syntax n) o = o ≡ Refused n
IsStop (stops.Deep n) o = o ≡ TooDeep n

abbrev pub state_of : Machine → State
state_of m = record { names = m.names; values = m.values; level = m.level; outside = m.outside }
