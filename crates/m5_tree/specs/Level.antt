-- The level of a token: how many phrases are open there, and what counts for the level was passed in them.
use Rattle.std.specs.Prelude.{◌≡◌, ℕ, ◌≤◌, ◌<◌, Bool, List, [], ◌∷◌, ◌++◌, length}
use Rattle.m5_lex.specs.declared.tokens.Placed.{Placed}
use Rattle.m5_tree.specs.Kinds.{code_of, token_code}
use Rattle.m5_tree.specs.Productions.{alternatives}
use Rattle.m5_tree.specs.Reading.{State, act, shift, limit, OneOf, at_start}
use Rattle.m5_tree.specs.declared.grammar.Symbol.{Symbol}
use Rattle.m5_tree.specs.declared.grammar.Symbol.TheVariants.{Tok, Nt, Act}
use Rattle.m5_tree.specs.declared.grammar.Kind.{Kind}
use Rattle.m5_tree.specs.declared.grammar.Phrase.{Phrase}
use Rattle.m5_tree.specs.declared.grammar.Phrase.TheVariants as phrase
use Rattle.m5_tree.specs.declared.grammar.Action.{Action}

-- The tokens are read by the symbols, and then this token is read, at this level.
pub data Arrives (next : Placed) (level : ℕ) : List Symbol → List Placed → State → Type 0 where
  here : {keep : Bool} {k : Kind} {ss : List Symbol} {s : State} → token_code next.token ≡ code_of k → s.level ≡ level → Arrives next level (Tok keep k ∷ ss) [] s
  beyond : {keep : Bool} {k : Kind} {t : Placed} {ss : List Symbol} {ts : List Placed} {s : State} → token_code t.token ≡ code_of k → Arrives next level ss ts (shift keep t s) → Arrives next level (Tok keep k ∷ ss) (t ∷ ts) s
  by_act : {a : Action} {ss : List Symbol} {ts : List Placed} {s : State} → Arrives next level ss ts (act a s) → Arrives next level (Act a ∷ ss) ts s
  by_rule : {n : Phrase} {ss : List Symbol} {ts : List Placed} {s : State} (q : List Symbol) → OneOf q (alternatives n) → Arrives next level (q ++ ss) ts s → Arrives next level (Nt n ∷ ss) ts s

-- a token that some program has after these tokens, and its level there
abbrev pub HasLevel : List Placed → Placed → ℕ → Type 0
HasLevel front t level = Arrives t level (Nt phrase.Program ∷ []) front at_start

-- no token before the last so many is too deep
abbrev pub NoneDeep : List Placed → ℕ → Type 0
NoneDeep ts n = (front : List Placed) (t : Placed) (left : List Placed) (level : ℕ) → ts ≡ front ++ t ∷ left → n < length (t ∷ left) → HasLevel front t level → level ≤ limit

-- The first token of these is too deep, and none before it is.
pub record IsFirstDeep (ts : List Placed) (next : Placed) : Type 0 where
  pub front : List Placed
  pub left : List Placed
  pub split : ts ≡ front ++ next ∷ left
  pub level : ℕ
  pub at_level : HasLevel front next level
  pub over : limit < level
  pub none_before : NoneDeep ts (length (next ∷ left))
