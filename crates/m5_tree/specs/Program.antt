-- Programs, their fronts, and the place of a fault.
use Rattle.std.specs.Prelude.{◌≡◌, List, [], ◌∷◌, ◌++◌}
use Rattle.m5_lex.specs.Token.{IsToken}
use Rattle.m5_lex.specs.declared.place.Place.{Place}
use Rattle.m5_lex.specs.declared.tokens.Placed.{Placed}
use Rattle.m5_tree.specs.Reading.{State, Reads, at_start}
use Rattle.m5_tree.specs.declared.tree.Tree.{Tree}
use Rattle.m5_tree.specs.declared.value.Value.TheVariants.{Whole}
use Rattle.m5_tree.specs.declared.grammar.Symbol.TheVariants.{Nt}
use Rattle.m5_tree.specs.declared.grammar.Phrase.TheVariants as phrase

-- The tokens are a program, with its tree and its names.
pub record IsProgram (ts : List Placed) (tree : Tree) : Type 0 where
  pub end : State
  pub reading : Reads end (Nt phrase.Program ∷ []) ts at_start
  pub value : end.values ≡ Whole tree.program ∷ []
  pub names : end.names ≡ tree.names

-- the tokens are some that a text can have
abbrev pub AreOfText : List Placed → Type 0
AreOfText [] = Unit {0}
AreOfText (t ∷ ts) = IsToken t.token × AreOfText ts

-- The tokens are the front of some program's tokens.
pub record IsFront (us : List Placed) : Type 0 where
  pub more : List Placed
  pub of_text : AreOfText more
  pub tree : Tree
  pub program : IsProgram (us ++ more) tree

-- The tokens before these are the front of a program, and no program goes on with the first of these, or ends here.
pub record IsFault (ts left : List Placed) : Type 0 where
  pub front : List Placed
  pub split : ts ≡ front ++ left
  pub possible : IsFront front
  pub longest : (t : Placed) (us : List Placed) → left ≡ t ∷ us → IsFront (front ++ t ∷ []) → ⊥
  pub no_program : left ≡ [] → (tree : Tree) → IsProgram ts tree → ⊥

-- the place of the first of the tokens that are left, or where the text ends
abbrev pub place_of : List Placed → Place → Place
place_of [] ending = ending
place_of (t ∷ ts) ending = t.place
