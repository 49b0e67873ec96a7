-- What values of blocks under labels are as trees of a message.
use Rattle.std.specs.Prelude.{◌≡◌, ℕ, zero, suc, ◌<◌, ◌^◌, true, false, pos, List, [], length, slice_get, unwrap_or}
use Rattle.m5_terms.specs.declared.form.LeafForm.{LeafForm}
use Rattle.m5_terms.specs.declared.form.LeafForm.TheVariants as leaf_form
use Rattle.m5_region.specs.declared.value.Value as region
use Rattle.m5_region.specs.Units.{HasNumber}
use Rattle.m5_region.specs.Region.{Object, Refers, ReferToOlder}
use Rattle.m5_dictionary.specs.Dictionaries.{Dictionaries, code_of_world}
use Rattle.m5_message.specs.Tree.{Tree, Leaf, Truth, Number, Word, Node, Trees, Nil, With, tree_of, grown}
use Rattle.m5_message.specs.Packing.{Sending, sent_from}
use Rattle.m5_cps.specs.Values.{left, right, held, pair, cons, atom, wrap, join, closed}
use Rattle.m5_cps.specs.Values as value
use Rattle.m5_flat.specs.Values.{under, Value}

-- of a value without parts; a site has at most 4,096 cells, and a function that is only a name has no tree
abbrev pub LeafIsTree : LeafForm → Tree → Type 0
LeafIsTree leaf_form.Unit t = t ≡ Leaf
LeafIsTree (leaf_form.Bool b) t = t ≡ Truth b
LeafIsTree (leaf_form.Int n) t = t ≡ Number n
LeafIsTree (leaf_form.Str s) t = t ≡ Word s
LeafIsTree (leaf_form.Addr w) t = t ≡ Number (pos (code_of_world w))
LeafIsTree (leaf_form.Nil A) t = t ≡ Node (With (Truth false) Nil)
LeafIsTree (leaf_form.CellAt w n) t = (n < 4096) × (t ≡ Number (pos n))
LeafIsTree _ t = ⊥

-- as many trees, each of which V holds at its place
abbrev pub AreTrees : (ℕ → Tree → Type 0) → ℕ → Trees → Type 0
AreTrees V zero ts = ts ≡ Nil
AreTrees V (suc k) ts = (t : Tree) × (others : Trees) × (ts ≡ With t others) × V 0 t × AreTrees (λ j. V (suc j)) k others

-- the tree of the value; what is held and what is in a sham have trees of their own
abbrev pub IsTree : Value → Tree → Type 0
IsTree (atom f) t = LeafIsTree f t
IsTree (wrap (left X) a) t = (x : Tree) × (t ≡ Node (With (Truth false) (With x Nil))) × IsTree a x
IsTree (wrap (right X) a) t = (x : Tree) × (t ≡ Node (With (Truth true) (With x Nil))) × IsTree a x
IsTree (wrap (held w) a) t = IsTree a t
IsTree (wrap value.sham a) t = IsTree a t
IsTree (join pair a b) t = (x y : Tree) × (t ≡ Node (With x (With y Nil))) × IsTree a x × IsTree b y
IsTree (join cons a b) t = (x y : Tree) × (t ≡ Node (With (Truth true) (With x (With y Nil)))) × IsTree a x × IsTree b y
IsTree (closed (under l k) ρ) t = (ts : Trees) × (t ≡ Node (With (Number (pos l)) ts)) × AreTrees (λ j. IsTree (ρ j)) k ts

-- a closure and its argument stand in a region: an object, and a value
pub record StandsInRegion (os : List Object) (k x : Value) (at : ℕ) (v : region.Value) : Type 0 where
  pub older : ReferToOlder os
  pub there : at < length os
  pub code : IsTree k (unwrap_or (slice_get (grown [] os) at) Leaf)
  pub number : HasNumber v
  pub refers : Refers os v
  pub argument : IsTree x (tree_of (grown [] os) v)

-- what is reached from there, by ids, is fewer than 2^32 pairs
abbrev pub ReachesFew : Dictionaries → List Object → ℕ → region.Value → Type 0
ReachesFew d os at v = (t : Sending) → t.code.at ≡ at → t.argument ≡ v → length (sent_from d os t) < 2 ^ 32
