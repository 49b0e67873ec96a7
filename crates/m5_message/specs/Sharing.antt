-- What becomes of a message's objects in a region, and how many units a thread takes without sharing.
use Rattle.std.specs.Prelude.{ℕ, ◌+◌, ◌/◌, length, map}
use Rattle.m5_region.specs.declared.value.Value.{Value}
use Rattle.m5_region.specs.declared.value.Value.TheVariants as values
use Rattle.m5_region.specs.Region.{Object, ArrayOf, TextOf}
use Rattle.m5_message.specs.Tree.{Tree, Trees, Leaf, Truth, Number, Word, Node, Nil, With, ThreadTree}

-- a message's value, in a region that had so many objects
abbrev pub shifted : ℕ → Value → Value
shifted n values.Null = values.Null
shifted n (values.Bool b) = values.Bool b
shifted n (values.Int i) = values.Int i
shifted n (values.Text r) = values.Text (record { 0 = n + r.0 })
shifted n (values.Array r) = values.Array (record { 0 = n + r.0 })

abbrev pub shifted_object : ℕ → Object → Object
shifted_object n (ArrayOf vs) = ArrayOf (map (shifted n) vs)
shifted_object n (TextOf bytes) = TextOf bytes

-- the units of a tree, each part of which is an object of its own
unfoldable mutual
  pub tree_units : Tree → ℕ
  tree_units Leaf = 0
  tree_units (Truth b) = 0
  tree_units (Number n) = 0
  tree_units (Word bytes) = 1 + (length bytes + 7) / 8
  tree_units (Node fields) = 1 + fields_units fields

  pub fields_units : Trees → ℕ
  fields_units Nil = 0
  fields_units (With t ts) = 1 + (tree_units t + fields_units ts)

abbrev pub thread_units : ThreadTree → ℕ
thread_units t = tree_units t.code + tree_units t.argument
