-- What an object of a region is that has the tree of a value of an id: one of the id's type, over such fields.
use Rattle.std.proofs.Common.{◌≡◌, ◌∙◌, ℕ, zero, suc, Bool, true, false, pos, List, [], ◌∷◌, ◌++◌, length, Option, Some, None, slice_get, if◌then◌else◌, refl, sym, ap, subst}
use Rattle.std.specs.List.{AllByRecursion as Each}
use Rattle.std.proofs.lemmas.Bool.{eq-eqb}
use Rattle.m5_terms.specs.Text.{IsText}
use Rattle.m5_region.specs.declared.value.Value.{Value as Field}
use Rattle.m5_region.specs.declared.value.Value.TheVariants as values
use Rattle.m5_region.specs.Region.{Object, ArrayOf, TextOf, Refers}
use Rattle.m5_region.specs.Units.{HasNumber}
use Rattle.m5_terms.specs.declared.form.LeafForm.{LeafForm}
use Rattle.m5_terms.specs.declared.form.LeafForm.TheVariants as leaf_form
use Rattle.m5_dictionary.specs.declared.line.TypeLine.{TypeLine}
use Rattle.m5_dictionary.specs.declared.line.TypeLine.TheVariants as lines
use Rattle.m5_dictionary.specs.Dictionaries.{Entrance, Dictionaries}
use Rattle.m5_message.specs.Reading.{Opening, Whole, Parts, is_object_line}
use Rattle.m5_message.specs.Reading as reading
use Rattle.m5_message.specs.Spelling.{opening_in, AreOf}
use Rattle.m5_message.specs.Tree.{Tree, Truth, Number, Word, Node, Trees, Nil, With, tree_of, trees_of, object_tree, grown}
use Rattle.m5_cps.specs.Values.{left, right, held, pair, cons, atom, wrap, join, closed}
use Rattle.m5_cps.specs.Values as value
use Rattle.m5_flat.specs.Values.{under, Value}
use Rattle.m5_dict_typing.specs.Values.{LeafIsOf, IsOf}
use Rattle.m5_dict_typing.specs.Trees.{LeafIsTree, AreTrees, IsTree}
use Rattle.m5_dict_typing.proofs.Shapes.{truth_back, number_back}
use Rattle.m5_dict_typing.proofs.Fields.{Within, field_is}

-- a value of the id has this tree
pub record Has (d : Dictionaries) (i : ℕ) (t : Tree) : Type 0 where
  pub value : Value
  pub of : IsOf d i value
  pub tree : IsTree value t

module _ (d : Dictionaries) (os : List Object) where
  -- a field that stands for a value of the id, over these objects
  pub record IsField (i : ℕ) (v : Field) : Type 0 where
    pub number : HasNumber v
    pub refers : Refers os v
    pub has : Has d i (tree_of (grown [] os) v)

  abbrev pub AreFields : List ℕ → List Field → Type 0
  AreFields [] [] = Unit {0}
  AreFields [] (v ∷ vs) = ⊥
  AreFields (i ∷ is) [] = ⊥
  AreFields (i ∷ is) (v ∷ vs) = IsField i v × AreFields is vs

  abbrev pub Good : List Field → Type 0
  Good vs = Each (λ v. HasNumber v × Refers os v) vs

  -- a text, or first fields and others
  pub data IsContent (i : ℕ) (o : Object) : Type 0 where
    whole : (bytes : List ℕ) → slice_get d.types i ≡ Some lines.Text → o ≡ TextOf bytes → IsText bytes → IsContent i o
    parts : (first : List Field) (ids : List ℕ) (vs : List Field) → o ≡ ArrayOf (first ++ vs) → opening_in d i (slice_get d.types i) o ≡ Some (Parts first ids) → AreFields ids vs → IsContent i o

  pub record IsArrayOf (o : Object) (ts : Trees) : Type 0 where
    pub fields : List Field
    pub is : o ≡ ArrayOf fields
    pub trees : trees_of (grown [] os) fields ≡ ts
    pub good : Good fields

  -- the fields of an object
  abbrev pub GoodObject : Object → Type 0
  GoodObject (ArrayOf vs) = Good vs
  GoodObject (TextOf bytes) = Unit {0}

  pub array_of : (o : Object) (ts : Trees) → GoodObject o → object_tree (grown [] os) o ≡ Node ts → IsArrayOf o ts
  array_of (ArrayOf vs) ts g e = record { fields = vs; is = refl; trees = (cc); good = g }
  array_of (TextOf bytes) ts g e = absurd (cc)

  text_of : (o : Object) (bytes : List ℕ) → object_tree (grown [] os) o ≡ Word bytes → o ≡ TextOf bytes
  text_of (ArrayOf vs) bytes e = absurd (cc)
  text_of (TextOf other) bytes e = (let q : other ≡ bytes = cc in ap TextOf q)

  pub record IsMore (vs : List Field) (t : Tree) (ts : Trees) : Type 0 where
    pub first : Field
    pub others : List Field
    pub is : vs ≡ first ∷ others
    pub tree : tree_of (grown [] os) first ≡ t
    pub trees : trees_of (grown [] os) others ≡ ts
    pub number : HasNumber first
    pub refers : Refers os first
    pub good : Good others

  pub more : (vs : List Field) (t : Tree) (ts : Trees) → Good vs → trees_of (grown [] os) vs ≡ With t ts → IsMore vs t ts
  more [] t ts g e = absurd (cc)
  more (v ∷ vs) t ts g e = record { first = v; others = vs; is = refl; tree = (cc); trees = (cc); number = g.0.0; refers = g.0.1; good = g.1 }

  pub no_more : (vs : List Field) → trees_of (grown [] os) vs ≡ Nil → vs ≡ []
  no_more [] e = refl
  no_more (v ∷ vs) e = absurd (cc)

  -- one value at the front
  field_of : (i : ℕ) (a : Value) (vs : List Field) (t : Tree) (ts : Trees) (m : IsMore vs t ts) → IsOf d i a → IsTree a t → IsField i m.first
  field_of i a vs t ts m h k = record { number = m.number; refers = m.refers; has = record { value = a; of = h; tree = subst (IsTree a) (sym m.tree) k } }

  -- what is in the environment of a closure
  taken : (is : List ℕ) (k : ℕ) (V : ℕ → Value) (vs : List Field) (ts : Trees) → k ≡ length is → Good vs → trees_of (grown [] os) vs ≡ ts → AreTrees (λ j. IsTree (V j)) k ts → ((j i : ℕ) → slice_get is j ≡ Some i → IsOf d i (V j)) → AreFields is vs
  taken [] zero V vs ts c g e h f = subst (AreFields []) (sym (no_more vs (e ∙ h))) tt
  taken [] (suc k) V vs ts c g e h f = absurd (cc)
  taken (i ∷ is) zero V vs ts c g e h f = absurd (cc)
  taken (i ∷ is) (suc k) V vs ts c g e h f =
      let m = more vs h.0 h.1 g (e ∙ h.2) in
      subst (AreFields (i ∷ is)) (sym m.is) (field_of i (V zero) vs h.0 h.1 m (f zero i refl) h.3, taken is k (λ j. V (suc j)) m.others h.1 (let q : k ≡ length is = cc in q) m.good m.trees h.4 (λ j n q. f (suc j) n q))

  opened : (i : ℕ) (line : TypeLine) (o r : Object) (p : Opening) → slice_get d.types i ≡ Some line → o ≡ r → opening_in d i (Some line) r ≡ Some p → opening_in d i (slice_get d.types i) o ≡ Some p
  opened i line o r p e is h = subst (λ l. opening_in d i l o ≡ Some p) (sym e) (subst (λ x. opening_in d i (Some line) x ≡ Some p) (sym is) h)

  entered_here : (e : Entrance) (l : ℕ) (o : Option Entrance) → o ≡ Some e → reading.entered e.argument l o ≡ Some (Parts (values.Int (pos l) ∷ []) e.environment)
  entered_here e l o q = subst (λ x. reading.entered e.argument l x ≡ Some (Parts (values.Int (pos l) ∷ []) e.environment)) (sym q) (ap (λ b. if b then Some (Parts (values.Int (pos l) ∷ []) e.environment) else None) (eq-eqb e.argument e.argument refl))

  none_here : (i : ℕ) (line : TypeLine) → slice_get d.types i ≡ Some line → is_object_line (Some line) ≡ false → is_object_line (slice_get d.types i) ≡ true → ⊥
  none_here i line e f t = let q : is_object_line (Some line) ≡ true = ap is_object_line (sym e) ∙ t in let z : false ≡ true = sym f ∙ q in cc

  -- a truth at the front
  front_is : (b : Bool) (vs : List Field) (ts : Trees) (m : IsMore vs (Truth b) ts) → vs ≡ values.Bool b ∷ m.others
  front_is b vs ts m = m.is ∙ ap (λ v. v ∷ m.others) (truth_back os m.first b m.refers m.tree)

  leaf_content : (f : LeafForm) (i : ℕ) (o : Object) → GoodObject o → LeafIsOf (slice_get d.types i) f → LeafIsTree f (object_tree (grown [] os) o) → is_object_line (slice_get d.types i) ≡ true → IsContent i o
  leaf_content leaf_form.Unit i o g h t l = absurd (none_here i lines.Unit h refl l)
  leaf_content (leaf_form.Bool b) i o g h t l = absurd (none_here i lines.Bool h refl l)
  leaf_content (leaf_form.Int m) i o g h t l = absurd (none_here i lines.Int h refl l)
  leaf_content (leaf_form.Str s) i o g h t l = whole s h.0 (text_of o s t) h.1
  leaf_content (leaf_form.Addr w) i o g h t l = absurd (none_here i (lines.Addr w) h refl l)
  leaf_content (leaf_form.Nil A) i o g h t l =
      let r = array_of o (With (Truth false) Nil) g t in
      let m = more r.fields (Truth false) Nil r.good r.trees in
      let is : o ≡ ArrayOf (values.Bool false ∷ []) = r.is ∙ ap ArrayOf (front_is false r.fields Nil m ∙ ap (λ vs. values.Bool false ∷ vs) (no_more m.others m.trees)) in
      parts (values.Bool false ∷ []) [] [] is (opened i (lines.List h.0) o _ _ h.1 is refl) tt
  leaf_content (leaf_form.CellAt w m) i o g h t l = absurd (none_here i lines.Cell h refl l)
  leaf_content (leaf_form.Extern p) i o g h t l = absurd t
  leaf_content (leaf_form.Glob x) i o g h t l = absurd t
  leaf_content (leaf_form.Var x) i o g h t l = absurd t
  leaf_content (leaf_form.Valid x) i o g h t l = absurd t
  leaf_content leaf_form.Here i o g h t l = absurd t

  -- an array of a truth and the values of two, of one or of no ids behind it
  side_content : (i j : ℕ) (b : Bool) (line : TypeLine) (a : Value) (x : Tree) (o : Object) → GoodObject o → slice_get d.types i ≡ Some line → ((vs : List Field) → opening_in d i (Some line) (ArrayOf (values.Bool b ∷ vs)) ≡ Some (Parts (values.Bool b ∷ []) (j ∷ []))) →
      object_tree (grown [] os) o ≡ Node (With (Truth b) (With x Nil)) → IsOf d j a → IsTree a x → IsContent i o
  side_content i j b line a x o g e f t h k =
      let r = array_of o (With (Truth b) (With x Nil)) g t in
      let m = more r.fields (Truth b) (With x Nil) r.good r.trees in
      let n = more m.others x Nil m.good m.trees in
      let one : m.others ≡ n.first ∷ [] = n.is ∙ ap (λ vs. n.first ∷ vs) (no_more n.others n.trees) in
      let is : o ≡ ArrayOf (values.Bool b ∷ n.first ∷ []) = r.is ∙ ap ArrayOf (front_is b r.fields (With x Nil) m ∙ ap (λ vs. values.Bool b ∷ vs) one) in
      parts (values.Bool b ∷ []) (j ∷ []) (n.first ∷ []) is (opened i line o _ _ e is (f (n.first ∷ []))) (field_of j a m.others x Nil n h k, tt)

  -- an array of two values behind some fields
  two_content : (i j k : ℕ) (front : List Field) (line : TypeLine) (a b : Value) (x y : Tree) (o : Object) (vs : List Field) → slice_get d.types i ≡ Some line →
      ((v w : Field) → opening_in d i (Some line) (ArrayOf (front ++ v ∷ w ∷ [])) ≡ Some (Parts front (j ∷ k ∷ []))) → o ≡ ArrayOf (front ++ vs) → Good vs → trees_of (grown [] os) vs ≡ With x (With y Nil) → IsOf d j a → IsOf d k b → IsTree a x → IsTree b y → IsContent i o
  two_content i j k front line a b x y o vs e f is g t h q u w =
      let m = more vs x (With y Nil) g t in
      let n = more m.others y Nil m.good m.trees in
      let both : vs ≡ m.first ∷ n.first ∷ [] = m.is ∙ ap (λ fs. m.first ∷ fs) (n.is ∙ ap (λ fs. n.first ∷ fs) (no_more n.others n.trees)) in
      let whole_is : o ≡ ArrayOf (front ++ m.first ∷ n.first ∷ []) = is ∙ ap (λ fs. ArrayOf (front ++ fs)) both in
      parts front (j ∷ k ∷ []) (m.first ∷ n.first ∷ []) whole_is (opened i line o _ _ e whole_is (f m.first n.first)) (field_of j a vs x (With y Nil) m h u, (field_of k b m.others y Nil n q w, tt))

  pub content_is : (a : Value) (i : ℕ) (o : Object) → GoodObject o → IsOf d i a → IsTree a (object_tree (grown [] os) o) → is_object_line (slice_get d.types i) ≡ true → IsContent i o
  content_is (atom f) i o g h t l = leaf_content f i o g h t l
  content_is (wrap (left X) a) i o g h t l = side_content i h.0 false (lines.Sum h.0 h.1) a t.0 o g h.2 (λ vs. refl) t.1 h.3 t.2
  content_is (wrap (right X) a) i o g h t l = side_content i h.1 true (lines.Sum h.0 h.1) a t.0 o g h.2 (λ vs. refl) t.1 h.3 t.2
  content_is (wrap (held w) a) i o g h t l = content_is a i o g h t l
  content_is (wrap value.sham a) i o g h t l = content_is a i o g h t l
  content_is (join pair a b) i o g h t l =
      let r = array_of o (With t.0 (With t.1 Nil)) g t.2 in
      two_content i h.0 h.1 [] (lines.Pair h.0 h.1) a b t.0 t.1 o r.fields h.2 (λ v w. refl) r.is r.good r.trees h.3 h.4 t.3 t.4
  content_is (join cons a b) i o g h t l =
      let r = array_of o (With (Truth true) (With t.0 (With t.1 Nil))) g t.2 in
      let m = more r.fields (Truth true) (With t.0 (With t.1 Nil)) r.good r.trees in
      two_content i h.0 i (values.Bool true ∷ []) (lines.List h.0) a b t.0 t.1 o m.others h.1 (λ v w. refl) (r.is ∙ ap ArrayOf (front_is true r.fields _ m)) m.good m.trees h.2 h.3 t.3 t.4
  content_is (closed (under l k) ρ) i o g h t z =
      let r = array_of o (With (Number (pos l)) t.0) g t.1 in
      let m = more r.fields (Number (pos l)) t.0 r.good r.trees in
      let label : r.fields ≡ values.Int (pos l) ∷ m.others = m.is ∙ ap (λ v. v ∷ m.others) (number_back os m.first (pos l) m.refers m.tree) in
      let is : o ≡ ArrayOf (values.Int (pos l) ∷ m.others) = r.is ∙ ap ArrayOf label in
      parts (values.Int (pos l) ∷ []) h.entrance.environment m.others is (opened i (lines.Fun h.entrance.argument) o _ _ h.line is (entered_here h.entrance l _ h.at))
      (taken h.entrance.environment k ρ m.others t.0 h.count m.good m.trees t.2 h.environment)

  -- its fields are of the types of their ids
  pub are_of : (is : List ℕ) (vs : List Field) → AreFields is vs → AreOf d (Within d os) is vs
  unfolding AreOf
  are_of [] [] h = tt
  are_of [] (v ∷ vs) h = absurd h
  are_of (i ∷ is) [] h = absurd h
  are_of (i ∷ is) (v ∷ vs) h = (field_is d os h.0.has.value i v h.0.number h.0.refers h.0.has.of h.0.has.tree, are_of is vs h.1)
