-- How the tokens of a program are read, and a program text.
use Rattle.std.specs.Prelude.{◌≡◌, ℕ, List, Result, Ok, Err}
use Rattle.m5_lex.specs.Lexed.{lexed}
use Rattle.m5_lex.specs.Tokens.{Listing}
use Rattle.m5_tree.specs.Program.{IsProgram}
use Rattle.m5_tree.specs.Level.{NoneDeep}
use Rattle.m5_tree.specs.declared.tree.Tree.{Tree}
use Rattle.m5_raw.specs.RawTerm.{RawTerm}
use Rattle.m5_terms.specs.Outcome.{found}
use Rattle.m5_scope.specs.Program.{tree_resolved}
use Rattle.m5_typing.specs.Program.{ProgramTerm}
use Rattle.m5_elaborate.specs.Checked.{elaborated}
use Rattle.m5_front.specs.declared.program.Read.{Read}
use Rattle.m5_front.specs.declared.refusal.FrontEnd.{FrontEnd}
use Rattle.m5_front.specs.declared.refusal.FrontEnd.TheVariants.{Memory, Refused}

-- the tokens are a program's with this tree, none of them deeper than the limit
pub record HasTree (listing : Listing) (tree : Tree) : Type 0 where
  pub program : IsProgram listing.tokens tree
  pub level : NoneDeep listing.tokens 0

-- the tokens have a tree, and the names of that are resolved
pub record IsRead (listing : Listing) (tree : Tree) (raw : RawTerm) : Type 0 where
  pub has_tree : HasTree listing tree
  pub resolved : tree_resolved tree.names tree.program ≡ found raw

-- the tokens have a tree whose names are resolved, and the types of that are found
pub record AreAccepted (listing : Listing) (tree : Tree) (raw : RawTerm) (program : ProgramTerm) : Type 0 where
  pub read : IsRead listing tree raw
  pub typed : elaborated raw ≡ found program

-- the text has tokens, and these are accepted
pub record IsAccepted (text : List ℕ) (tree : Tree) (raw : RawTerm) (program : ProgramTerm) : Type 0 where
  pub listing : Listing
  pub tokens : lexed text ≡ Ok listing
  pub accepted : AreAccepted listing tree raw program

-- memory is wanting, and nothing is refused
abbrev pub IsNoRefusal : FrontEnd → Type 0
IsNoRefusal Memory = Unit {0}
IsNoRefusal (Refused r) = ⊥

-- this tree, though memory may be wanting
abbrev pub Answers : Tree → Result Tree FrontEnd → Type 0
Answers tree (Ok other) = other ≡ tree
Answers tree (Err end) = IsNoRefusal end

-- this tree and this resolved program, though memory may be wanting
abbrev pub IsAnswer : Tree → RawTerm → Result Read FrontEnd → Type 0
IsAnswer tree raw (Ok read) = (read.tree ≡ tree) × (read.raw ≡ raw)
IsAnswer tree raw (Err end) = IsNoRefusal end
