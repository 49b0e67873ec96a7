-- What may be answered for a list of tokens.
use Rattle.std.specs.Prelude.{◌≡◌, List, length, Result, Ok, Err}
use Rattle.m5_lex.specs.declared.place.Place.{Place}
use Rattle.m5_lex.specs.declared.tokens.Placed.{Placed}
use Rattle.m5_tree.specs.Program.{IsFault, place_of}
use Rattle.m5_tree.specs.Level.{IsFirstDeep, NoneDeep}
use Rattle.m5_tree.specs.declared.tree.Tree.{Tree}
use Rattle.m5_parse.specs.declared.parse.ParseEnd.{ParseEnd}
use Rattle.m5_parse.specs.declared.parse.ParseEnd.TheVariants.{Memory, Syntax, Deep}

-- The tokens are no program, and this is the place of the token after their longest front of a program; no token before it is too deep.
pub record IsSyntaxFault (ts : List Placed) (ending at : Place) : Type 0 where
  pub left : List Placed
  pub fault : IsFault ts left
  pub place : at ≡ place_of left ending
  pub none_deep : NoneDeep ts (length left)

-- This is the place of the first token that is too deep.
pub record IsDeepFault (ts : List Placed) (at : Place) : Type 0 where
  pub next : Placed
  pub first : IsFirstDeep ts next
  pub place : at ≡ next.place

-- each answer that is no tree has its cause; want of memory may come at any time
abbrev pub HasCause : List Placed → Place → ParseEnd → Type 0
HasCause ts ending Memory = Unit {0}
HasCause ts ending (Syntax at) = IsSyntaxFault ts ending at
HasCause ts ending (Deep at) = IsDeepFault ts at

-- what is answered for the tokens of a tree: no other tree, and no syntax fault
abbrev pub Is : Tree → Result Tree ParseEnd → Type 0
Is tree (Ok other) = other ≡ tree
Is tree (Err Memory) = Unit {0}
Is tree (Err (Deep at)) = Unit {0}
Is tree (Err (Syntax at)) = ⊥
