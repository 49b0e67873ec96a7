-- What an object stands for: a tree, in which sharing does not show.
use Rattle.std.specs.Prelude.{◌≡◌, ℕ, List, [], ◌∷◌, ◌++◌, Ok, Bool, ℤ, slice_get, unwrap_or}
use Rattle.m5_region.specs.declared.value.Value.{Value}
use Rattle.m5_region.specs.declared.value.Value.TheVariants as values
use Rattle.m5_region.specs.Region.{Object, ArrayOf, TextOf}
use Rattle.m5_terms.specs.declared.types.World.{World}
use Rattle.m5_dictionary.specs.Dictionaries.{Dictionaries}
use Rattle.m5_message.specs.Message.{Message, message_at}

mutual
  pub data Tree : Type 0 where
    Leaf : Tree
    Truth : (truth : Bool) → Tree
    Number : (number : ℤ) → Tree
    Word : (bytes : List ℕ) → Tree
    Node : (fields : Trees) → Tree

  pub data Trees : Type 0 where
    Nil : Trees
    With : (first : Tree) (others : Trees) → Trees

-- the tree of a value, over the trees of the objects
abbrev pub tree_of : List Tree → Value → Tree
tree_of ts values.Null = Leaf
tree_of ts (values.Bool b) = Truth b
tree_of ts (values.Int n) = Number n
tree_of ts (values.Text r) = unwrap_or (slice_get ts r.0) Leaf
tree_of ts (values.Array r) = unwrap_or (slice_get ts r.0) Leaf

abbrev pub trees_of : List Tree → List Value → Trees
trees_of ts [] = Nil
trees_of ts (v ∷ vs) = With (tree_of ts v) (trees_of ts vs)

abbrev pub object_tree : List Tree → Object → Tree
object_tree ts (ArrayOf vs) = Node (trees_of ts vs)
object_tree ts (TextOf bytes) = Word bytes

-- the trees of the objects, each over those of the older ones
unfoldable pub grown : List Tree → List Object → List Tree
grown ts [] = ts
grown ts (o ∷ os) = grown (ts ++ object_tree ts o ∷ []) os

-- a thread as trees: a closure, and its argument
pub record ThreadTree : Type 0 where
  pub code : Tree
  pub argument : Tree

abbrev pub message_tree : Message → ThreadTree
message_tree m = record { code = unwrap_or (slice_get (grown [] m.objects) m.root) Leaf; argument = tree_of (grown [] m.objects) m.argument }

-- the bytes stand for this thread
abbrev pub Stands : Dictionaries → World → List ℕ → List ℕ → ThreadTree → Type 0
Stands d w seal bytes thread = (m : Message) × (message_at d w seal bytes ≡ Ok m) × (message_tree m ≡ thread)
