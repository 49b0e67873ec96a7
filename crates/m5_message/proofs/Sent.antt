-- What is sent is a message, and its objects stand for the trees of the objects from which they came.
use Rattle.std.proofs.Common.{◌≡◌, ℕ, zero, suc, ◌+◌, ◌<◌, true, List, [], ◌∷◌, ◌++◌, length, map, take, drop, Option, Some, None, slice_get, refl, sym, ap, subst, ◌∙◌, length-append, arith}
use Rattle.std.specs.Prelude.{unwrap_or}
use Rattle.std.proofs.lemmas.List.{take-append-drop, length-take}
use Rattle.std.proofs.lemmas.Option.{slice_get-map, slice_get_within}
use Rattle.m5_region.specs.declared.value.Value.{Value}
use Rattle.m5_region.specs.Region.{Object}
use Rattle.m5_dictionary.specs.declared.line.TypeLine.{TypeLine}
use Rattle.m5_dictionary.specs.declared.line.TypeLine.TheVariants as lines
use Rattle.m5_dictionary.specs.Dictionaries.{Dictionaries}
use Rattle.m5_message.specs.Reading.{is_object_line}
use Rattle.m5_message.specs.Spelling.{Older, IsOf, AreOf}
use Rattle.m5_message.specs.Tree.{Tree, Leaf, tree_of, trees_of, object_tree, grown}
use Rattle.m5_message.specs.Packing.{Reached, has, place_in, target, value_reaches, values_reach, sent_value, sent_values}
use Rattle.m5_message.proofs.Marks.{place_left, place_within, place_there, AllHas, all_left, all_right}

-- ---- lists

pub get_left : {A : Type 0} (a b : List A) (k : ℕ) (x : A) → slice_get a k ≡ Some x → slice_get (a ++ b) k ≡ Some x
get_left [] b k x e = absurd (let none : None ≡ Some x = e in cc)
get_left (y ∷ a) b zero x e = e
get_left (y ∷ a) b (suc k) x e = get_left a b k x e

pub get_front : {A : Type 0} (a b : List A) (k : ℕ) → k < length a → slice_get (a ++ b) k ≡ slice_get a k
get_front [] b k h = absurd (omega arith)
get_front (y ∷ a) b zero h = refl
get_front (y ∷ a) b (suc k) h = get_front a b k (omega arith)

pub get_end : {A : Type 0} (a b : List A) (x : A) (k : ℕ) → k ≡ length a → slice_get (a ++ x ∷ b) k ≡ Some x
get_end [] b x k h = rw h refl
get_end (y ∷ a) b x zero h = absurd (omega arith)
get_end (y ∷ a) b x (suc k) h = get_end a b x k (omega arith)

-- ---- the trees of a region's objects

unfoldable pub tree_at : List Tree → ℕ → Tree
tree_at ts n = unwrap_or (slice_get ts n) Leaf

pub grown_keeps : (ts : List Tree) (os : List Object) (k : ℕ) → k < length ts → slice_get (grown ts os) k ≡ slice_get ts k
unfolding grown
grown_keeps ts [] k h = refl
grown_keeps ts (o ∷ os) k h =
    grown_keeps (ts ++ object_tree ts o ∷ []) os k (omega (arith, length-append ts (object_tree ts o ∷ []))) ∙ get_front ts (object_tree ts o ∷ []) k h

pub grown_at : (ts : List Tree) (os : List Object) (at n : ℕ) (o : Object) → n ≡ length ts + at → slice_get os at ≡ Some o → slice_get (grown ts os) n ≡ Some (object_tree (grown ts (take at os)) o)
unfolding grown
grown_at ts [] at n o e h = absurd (let none : None ≡ Some o = h in cc)
grown_at ts (p ∷ os) zero n o e h =
    let is : p ≡ o = cc in
    grown_keeps (ts ++ object_tree ts p ∷ []) os n (omega (arith, length-append ts (object_tree ts p ∷ [])))
    ∙ get_end ts [] (object_tree ts p) n (omega arith)
    ∙ ap (λ (x : Object). Some (object_tree ts x)) is
grown_at ts (p ∷ os) (suc at) n o e h =
    grown_at (ts ++ object_tree ts p ∷ []) os at n o (omega (arith, length-append ts (object_tree ts p ∷ []))) h

grown_append : (ts : List Tree) (a b : List Object) → grown ts (a ++ b) ≡ grown (grown ts a) b
unfolding grown
grown_append ts [] b = refl
grown_append ts (o ∷ a) b = grown_append (ts ++ object_tree ts o ∷ []) a b

grown_length : (ts : List Tree) (a : List Object) → length (grown ts a) ≡ length ts + length a
unfolding grown
grown_length ts [] = omega arith
grown_length ts (o ∷ a) = grown_length (ts ++ object_tree ts o ∷ []) a ∙ omega (arith, length-append ts (object_tree ts o ∷ []))

-- an object's tree is over those of the older ones
pub older_tree : (os : List Object) (at j : ℕ) (o : Object) → slice_get os at ≡ Some o → j < at → tree_at (grown [] (take at os)) j ≡ tree_at (grown [] os) j
unfolding tree_at
older_tree os at j o e lt =
    let within = slice_get_within os at o e in
    let split : grown [] os ≡ grown (grown [] (take at os)) (drop at os) = ap (grown []) (sym (take-append-drop at os)) ∙ grown_append [] (take at os) (drop at os) in
    let long : j < length (grown [] (take at os)) = omega (arith, grown_length [] (take at os), length-take at os) in
    ap (λ (x : Option Tree). unwrap_or x Leaf) (sym (grown_keeps (grown [] (take at os)) (drop at os) j long) ∙ ap (λ (x : List Tree). slice_get x j) (sym split))

-- ---- a pair that is known is found in front, with its type id and its tree

abbrev pub id_of : Reached → ℕ
id_of p = p.id

abbrev pub tree_from : List Tree → Reached → Tree
tree_from rs p = tree_at rs p.at

pub record Found (rs : List Tree) (before ps : List Reached) (q : Reached) : Type 0 where
  pub within : place_in ps q < length before
  pub id : slice_get (map id_of ps) (place_in ps q) ≡ Some q.id
  pub tree : slice_get (map (tree_from rs) before) (place_in ps q) ≡ Some (tree_at rs q.at)

pub found : (rs : List Tree) (before after : List Reached) (q : Reached) → has before q ≡ true → Found rs before (before ++ after) q
found rs before after q h =
    let at = place_left before after q h in
    let there = place_there before q h in
    record {
      within = rw at (place_within before q h);
      id = rw at (slice_get-map id_of (before ++ after) (place_in before q) ∙ rw (get_left before after (place_in before q) q there) refl);
      tree = rw at (slice_get-map (tree_from rs) before (place_in before q) ∙ rw there refl);
    }

-- ---- values

-- where the pairs that a value wants are known, it is sent as one of its type, and with its tree
pub record Sends (d : Dictionaries) (rs pre : List Tree) (before ps : List Reached) (at id : ℕ) (line : Option TypeLine) (v : Value) : Type 0 where
  pub fits : IsOf (Older (map id_of ps) (length before)) id line (sent_value d ps id line v)
  pub tree : tree_of (map (tree_from rs) before) (sent_value d ps id line v) ≡ tree_of pre v

abbrev pub Within : Dictionaries → ℕ → ℕ → ℕ → Type 0
Within d at id j = (j < at) × (id < length d.types)

abbrev pub Known : List Tree → List Reached → List Reached → Type 0
Known rs before ps = (q : Reached) → has before q ≡ true → Found rs before ps q

abbrev pub SameBelow : List Tree → List Tree → ℕ → Type 0
SameBelow pre rs at = (j : ℕ) → j < at → tree_at pre j ≡ tree_at rs j

found_tree : (rs pre : List Tree) (before ps : List Reached) (at id j : ℕ) (v : Value) → Found rs before ps (record { at = target v; id = id }) → SameBelow pre rs at → j < at → target v ≡ j → tree_at (map (tree_from rs) before) (place_in ps (record { at = target v; id = id })) ≡ tree_at pre j
unfolding tree_at
found_tree rs pre before ps at id j v f below lt is =
    ap (λ (x : Option Tree). unwrap_or x Leaf) f.tree ∙ ap (tree_at rs) is ∙ sym (below j lt)

plain_sends : (d : Dictionaries) (rs pre : List Tree) (before ps : List Reached) (at id : ℕ) (v w : Value) → v ≡ w → ((ts us : List Tree) → tree_of ts w ≡ tree_of us w) → tree_of (map (tree_from rs) before) v ≡ tree_of pre v
plain_sends d rs pre before ps at id v w e same = subst (λ (x : Value). tree_of (map (tree_from rs) before) x ≡ tree_of pre x) (sym e) (same _ _)

pub value_sends : (d : Dictionaries) (rs pre : List Tree) (before ps : List Reached) (at id : ℕ) (line : Option TypeLine) (v : Value) → Known rs before ps → SameBelow pre rs at → AllHas before (value_reaches (is_object_line line) id v) → IsOf (Within d at) id line v → Sends d rs pre before ps at id line v
unfolding tree_at
value_sends d rs pre before ps at id None v known below h fit = absurd fit
value_sends d rs pre before ps at id (Some lines.Unit) v known below h fit = record { fits = fit; tree = plain_sends d rs pre before ps at id v _ fit (λ ts us. refl) }
value_sends d rs pre before ps at id (Some lines.Bool) v known below h fit = record { fits = fit; tree = plain_sends d rs pre before ps at id v _ fit.1 (λ ts us. refl) }
value_sends d rs pre before ps at id (Some lines.Int) v known below h fit = record { fits = fit; tree = plain_sends d rs pre before ps at id v _ fit.2 (λ ts us. refl) }
value_sends d rs pre before ps at id (Some lines.Cell) v known below h fit = record { fits = fit; tree = plain_sends d rs pre before ps at id v _ fit.2 (λ ts us. refl) }
value_sends d rs pre before ps at id (Some (lines.Addr w)) v known below h fit = record { fits = fit; tree = plain_sends d rs pre before ps at id v _ fit (λ ts us. refl) }
value_sends d rs pre before ps at id (Some lines.Text) v known below h fit =
    let f = known (record { at = target v; id = id }) h.0 in
    record { fits = (place_in ps (record { at = target v; id = id }), (f.within, f.id), refl); tree = found_tree rs pre before ps at id fit.0 v f below fit.1.0 (ap target fit.2) ∙ ap (tree_of pre) (sym fit.2) }
value_sends d rs pre before ps at id (Some (lines.Pair i j)) v known below h fit =
    let f = known (record { at = target v; id = id }) h.0 in
    record { fits = (place_in ps (record { at = target v; id = id }), (f.within, f.id), refl); tree = found_tree rs pre before ps at id fit.0 v f below fit.1.0 (ap target fit.2) ∙ ap (tree_of pre) (sym fit.2) }
value_sends d rs pre before ps at id (Some (lines.Sum i j)) v known below h fit =
    let f = known (record { at = target v; id = id }) h.0 in
    record { fits = (place_in ps (record { at = target v; id = id }), (f.within, f.id), refl); tree = found_tree rs pre before ps at id fit.0 v f below fit.1.0 (ap target fit.2) ∙ ap (tree_of pre) (sym fit.2) }
value_sends d rs pre before ps at id (Some (lines.List i)) v known below h fit =
    let f = known (record { at = target v; id = id }) h.0 in
    record { fits = (place_in ps (record { at = target v; id = id }), (f.within, f.id), refl); tree = found_tree rs pre before ps at id fit.0 v f below fit.1.0 (ap target fit.2) ∙ ap (tree_of pre) (sym fit.2) }
value_sends d rs pre before ps at id (Some (lines.Fun i)) v known below h fit =
    let f = known (record { at = target v; id = id }) h.0 in
    record { fits = (place_in ps (record { at = target v; id = id }), (f.within, f.id), refl); tree = found_tree rs pre before ps at id fit.0 v f below fit.1.0 (ap target fit.2) ∙ ap (tree_of pre) (sym fit.2) }

pub record SendAll (d : Dictionaries) (rs pre : List Tree) (before ps : List Reached) (ids : List ℕ) (vs : List Value) : Type 0 where
  pub fit : AreOf d (Older (map id_of ps) (length before)) ids (sent_values d ps ids vs)
  pub trees : trees_of (map (tree_from rs) before) (sent_values d ps ids vs) ≡ trees_of pre vs

pub values_send : (d : Dictionaries) (rs pre : List Tree) (before ps : List Reached) (at : ℕ) (ids : List ℕ) (vs : List Value) → Known rs before ps → SameBelow pre rs at → AllHas before (values_reach d ids vs) → AreOf d (Within d at) ids vs → SendAll d rs pre before ps ids vs
unfolding AreOf sent_values values_reach
values_send d rs pre before ps at [] [] known below h fit = record { fit = tt; trees = refl }
values_send d rs pre before ps at [] (v ∷ vs) known below h fit = absurd fit
values_send d rs pre before ps at (id ∷ ids) [] known below h fit = absurd fit
values_send d rs pre before ps at (id ∷ ids) (v ∷ vs) known below h fit =
    let here = value_reaches (is_object_line (slice_get d.types id)) id v in
    let first = value_sends d rs pre before ps at id (slice_get d.types id) v known below (all_left _ here (values_reach d ids vs) h) fit.0 in
    let others = values_send d rs pre before ps at ids vs known below (all_right _ here (values_reach d ids vs) h) fit.1 in
    record { fit = (first.fits, others.fit); trees = rw (first.tree, others.trees) refl }
