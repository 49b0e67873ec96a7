-- What values of a region are, by their trees.
use Rattle.std.proofs.Common.{ℤ, ◌≡◌, ◌∙◌, ℕ, Bool, List, [], take, Option, Some, None, slice_get, refl, sym, ap, arith}
use Rattle.std.specs.Prelude.{IsSomeAnd, unwrap_or}
use Rattle.m5_region.specs.declared.value.Value.{Value}
use Rattle.m5_region.specs.declared.value.Value.TheVariants as values
use Rattle.m5_region.specs.Region.{Object, ArrayOf, TextOf, IsArray, IsText, Refers}
use Rattle.m5_message.specs.Tree.{Tree, Leaf, Truth, Number, Word, Node, Trees, tree_of, trees_of, object_tree, grown}
use Rattle.m5_message.proofs.Sent.{grown_at}

-- what a reference of a text, or of an array, is to
pub record IsTextAt (os : List Object) (n : ℕ) : Type 0 where
  pub bytes : List ℕ
  pub at : slice_get os n ≡ Some (TextOf bytes)
  pub tree : unwrap_or (slice_get (grown [] os) n) Leaf ≡ Word bytes

pub record IsArrayAt (os : List Object) (n : ℕ) : Type 0 where
  pub fields : List Value
  pub at : slice_get os n ≡ Some (ArrayOf fields)
  pub tree : unwrap_or (slice_get (grown [] os) n) Leaf ≡ Node (trees_of (grown [] (take n os)) fields)

tree_there : (os : List Object) (n : ℕ) (o : Object) → slice_get os n ≡ Some o → unwrap_or (slice_get (grown [] os) n) Leaf ≡ object_tree (grown [] (take n os)) o
tree_there os n o e = ap (λ (t : Option Tree). unwrap_or t Leaf) (grown_at [] os n n o (omega arith) e)

text_at : (os : List Object) (n : ℕ) (o : Option Object) → slice_get os n ≡ o → IsSomeAnd o IsText → IsTextAt os n
text_at os n None e h = absurd h
text_at os n (Some (ArrayOf vs)) e h = absurd h
text_at os n (Some (TextOf bytes)) e h = record { bytes = bytes; at = e; tree = tree_there os n (TextOf bytes) e }

array_at : (os : List Object) (n : ℕ) (o : Option Object) → slice_get os n ≡ o → IsSomeAnd o IsArray → IsArrayAt os n
array_at os n None e h = absurd h
array_at os n (Some (TextOf bytes)) e h = absurd h
array_at os n (Some (ArrayOf vs)) e h = record { fields = vs; at = e; tree = tree_there os n (ArrayOf vs) e }

module _ (os : List Object) where
  pub leaf_back : (v : Value) → Refers os v → tree_of (grown [] os) v ≡ Leaf → v ≡ values.Null
  leaf_back values.Null h e = refl
  leaf_back (values.Bool b) h e = absurd (cc)
  leaf_back (values.Int n) h e = absurd (cc)
  leaf_back (values.Text r) h e = let t = (text_at os r.0 _ refl h).tree in let q : Word _ ≡ Leaf = sym t ∙ e in absurd (cc)
  leaf_back (values.Array r) h e = let t = (array_at os r.0 _ refl h).tree in let q : Node _ ≡ Leaf = sym t ∙ e in absurd (cc)

  pub truth_back : (v : Value) (b : Bool) → Refers os v → tree_of (grown [] os) v ≡ Truth b → v ≡ values.Bool b
  truth_back values.Null b h e = absurd (cc)
  truth_back (values.Bool c) b h e = (cc)
  truth_back (values.Int n) b h e = absurd (cc)
  truth_back (values.Text r) b h e = let t = (text_at os r.0 _ refl h).tree in let q : Word _ ≡ Truth b = sym t ∙ e in absurd (cc)
  truth_back (values.Array r) b h e = let t = (array_at os r.0 _ refl h).tree in let q : Node _ ≡ Truth b = sym t ∙ e in absurd (cc)

  pub number_back : (v : Value) (n : ℤ) → Refers os v → tree_of (grown [] os) v ≡ Number n → v ≡ values.Int n
  number_back values.Null n h e = absurd (cc)
  number_back (values.Bool c) n h e = absurd (cc)
  number_back (values.Int m) n h e = (cc)
  number_back (values.Text r) n h e = let t = (text_at os r.0 _ refl h).tree in let q : Word _ ≡ Number n = sym t ∙ e in absurd (cc)
  number_back (values.Array r) n h e = let t = (array_at os r.0 _ refl h).tree in let q : Node _ ≡ Number n = sym t ∙ e in absurd (cc)

  pub word_back : (v : Value) (bytes : List ℕ) → Refers os v → tree_of (grown [] os) v ≡ Word bytes → (j : ℕ) × (v ≡ values.Text (record { 0 = j })) × IsTextAt os j
  word_back values.Null bytes h e = absurd (cc)
  word_back (values.Bool c) bytes h e = absurd (cc)
  word_back (values.Int m) bytes h e = absurd (cc)
  word_back (values.Text r) bytes h e = (r.0, refl, text_at os r.0 _ refl h)
  word_back (values.Array r) bytes h e = let t = (array_at os r.0 _ refl h).tree in let q : Node _ ≡ Word bytes = sym t ∙ e in absurd (cc)

  pub node_back : (v : Value) (ts : Trees) → Refers os v → tree_of (grown [] os) v ≡ Node ts → (j : ℕ) × (v ≡ values.Array (record { 0 = j })) × IsArrayAt os j
  node_back values.Null ts h e = absurd (cc)
  node_back (values.Bool c) ts h e = absurd (cc)
  node_back (values.Int m) ts h e = absurd (cc)
  node_back (values.Text r) ts h e = let t = (text_at os r.0 _ refl h).tree in let q : Word _ ≡ Node ts = sym t ∙ e in absurd (cc)
  node_back (values.Array r) ts h e = (r.0, refl, array_at os r.0 _ refl h)
