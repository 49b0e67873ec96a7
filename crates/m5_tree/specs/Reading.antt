-- The grammar as a translation: what the tokens of a phrase are, and which value they stand for.
use Rattle.std.specs.Prelude.{◌≡◌, ℕ, ◌+◌, nat_le, Bool, cond, Option, Some, None, ◌⊎◌, List, [], ◌∷◌, ◌++◌}
use Rattle.m5_lex.specs.declared.place.Place.{Place}
use Rattle.m5_lex.specs.declared.token.Token.{Token}
use Rattle.m5_lex.specs.declared.token.Token.TheVariants as lex
use Rattle.m5_lex.specs.declared.tokens.Placed.{Placed}
use Rattle.m5_tree.specs.Kinds.{code_of, token_code}
use Rattle.m5_tree.specs.Names.{number_of, noted}
use Rattle.m5_tree.specs.Making.{made}
use Rattle.m5_tree.specs.Productions.{alternatives}
use Rattle.m5_tree.specs.declared.value.Value.{Value}
use Rattle.m5_tree.specs.declared.value.Value.TheVariants as value
use Rattle.m5_tree.specs.declared.grammar.Symbol.{Symbol}
use Rattle.m5_tree.specs.declared.grammar.Symbol.TheVariants.{Tok, Nt, Act}
use Rattle.m5_tree.specs.declared.grammar.Kind.{Kind}
use Rattle.m5_tree.specs.declared.grammar.Phrase.{Phrase}
use Rattle.m5_tree.specs.declared.grammar.Action.{Action}
use Rattle.m5_tree.specs.declared.grammar.Action.TheVariants.{Enter, Leave, Pass, Make}

-- The different names so far, the values of what was read, the last one first, the level, and the levels outside the open phrases.
pub record State : Type 0 where
  pub names : List (List ℕ)
  pub values : List Value
  pub level : ℕ
  pub outside : List ℕ

abbrev pub limit : ℕ
limit = 400

-- one more, though levels above the limit are not told apart
abbrev pub raised : ℕ → ℕ
raised level = cond (nat_le level limit) (level + 1) level

abbrev pub back : List ℕ → ℕ
back [] = 0
back (n ∷ ns) = n

abbrev pub outer : List ℕ → List ℕ
outer [] = []
outer (n ∷ ns) = ns

abbrev pub put : Option (Value × List Value) → List Value
put (Some p) = p.0 ∷ p.1
put None = []

-- a phrase begins or ends, something that counts for the level was passed, or a value is made
abbrev pub act : Action → State → State
act Enter s = record { names = s.names; values = s.values; level = raised s.level; outside = s.level ∷ s.outside }
act Leave s = record { names = s.names; values = s.values; level = back s.outside; outside = outer s.outside }
act Pass s = record { names = s.names; values = s.values; level = raised s.level; outside = s.outside }
act (Make f) s = record { names = s.names; values = put (made f s.values); level = s.level; outside = s.outside }

-- the value of a token that is kept
abbrev pub value_of : List (List ℕ) → Place → Token → Value
value_of names at (lex.Name x) = value.Name at (number_of names x)
value_of names at (lex.Number n) = value.Number at n
value_of names at (lex.Literal t) = value.Literal at t
value_of names at _ = value.Mark at

abbrev pub names_with : List (List ℕ) → Token → List (List ℕ)
names_with names (lex.Name x) = noted names x
names_with names _ = names

-- a token is read, and kept as a value or not
abbrev pub shift : Bool → Placed → State → State
shift keep t s =
    record { names = cond keep (names_with s.names t.token) s.names; values = cond keep (value_of s.names t.place t.token ∷ s.values) s.values; level = s.level; outside = s.outside }

abbrev pub OneOf : List Symbol → List (List Symbol) → Type 0
OneOf q [] = ⊥
OneOf q (p ∷ ps) = (q ≡ p) ⊎ OneOf q ps

-- The tokens are read by the symbols, from a state to the end state: a phrase by one of its productions.
pub data Reads (end : State) : List Symbol → List Placed → State → Type 0 where
  done : {s : State} → s ≡ end → Reads end [] [] s
  token : {keep : Bool} {k : Kind} {t : Placed} {ss : List Symbol} {ts : List Placed} {s : State} → token_code t.token ≡ code_of k → Reads end ss ts (shift keep t s) → Reads end (Tok keep k ∷ ss) (t ∷ ts) s
  acts : {a : Action} {ss : List Symbol} {ts : List Placed} {s : State} → Reads end ss ts (act a s) → Reads end (Act a ∷ ss) ts s
  rule : {n : Phrase} {ss : List Symbol} {ts : List Placed} {s : State} (q : List Symbol) → OneOf q (alternatives n) → Reads end (q ++ ss) ts s → Reads end (Nt n ∷ ss) ts s

abbrev pub at_start : State
at_start = record { names = []; values = []; level = 0; outside = [] }
