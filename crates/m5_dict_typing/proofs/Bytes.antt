-- What a thread reaches that has its types is of the types at which it is reached.
use Rattle.std.proofs.Common.{◌≡◌, ◌∙◌, ℕ, zero, suc, ◌<◌, ◌≤◌, Bool, true, false, pos, List, [], ◌∷◌, ◌++◌, length, take, drop, Option, Some, None, slice_get, get_or, if◌then◌else◌, refl, sym, ap, subst, arith}
use Rattle.std.specs.Prelude.{unwrap_or}
use Rattle.std.specs.List.{flat_map, AllByRecursion as Each}
use Rattle.std.proofs.lemmas.List.{length-take}
use Rattle.std.proofs.lemmas.List.Elements.{recursion_from_All}
use Rattle.std.proofs.lemmas.Option.{slice_get-get_or, slice_get_within}
use Rattle.m5_region.specs.declared.value.Value.{Value as Field}
use Rattle.m5_region.specs.declared.value.Value.TheVariants as values
use Rattle.m5_region.specs.Region.{Object, ArrayOf, TextOf, Refers, MayFollow, ReferToOlder}
use Rattle.m5_region.specs.Units.{HasNumber}
use Rattle.m5_terms.specs.declared.types.World.{World}
use Rattle.m5_dictionary.specs.declared.line.TypeLine.{TypeLine}
use Rattle.m5_dictionary.specs.declared.line.TypeLine.TheVariants as lines
use Rattle.m5_dictionary.specs.Dictionaries.{Entrance, Dictionaries, stands_at}
use Rattle.m5_message.specs.Reading.{Whole, Parts, is_object_line}
use Rattle.m5_message.specs.Message.{label_in, stands_there, label_stands}
use Rattle.m5_message.specs.Spelling.{opening_in, fields_behind, IsObjectOf, IsOf as IsFieldOf}
use Rattle.m5_message.specs.Tree.{Tree, Leaf, Number, Node, Trees, With, tree_of, object_tree, grown}
use Rattle.m5_message.specs.Packing.{Reached, same, has, target, value_reaches, values_reach, opened_reaches, object_reaches, reaches, wanted_ids, marked, Sending, sent_from, IsFit, AreFit, IsSendable}
use Rattle.m5_message.proofs.Marks.{same_is, all_append}
use Rattle.m5_message.proofs.Sent.{tree_at, grown_at, older_tree}
use Rattle.m5_cps.specs.Values.{atom, wrap, join, closed}
use Rattle.m5_flat.specs.Values.{under, Value}
use Rattle.m5_dict_typing.specs.Values.{IsOf}
use Rattle.m5_dict_typing.specs.Sites.{Enters}
use Rattle.m5_dict_typing.specs.Trees.{IsTree, StandsInRegion, ReachesFew}
use Rattle.m5_dict_typing.specs.Laws.{HasBytesThere}
use Rattle.m5_dict_typing.proofs.Shapes.{number_back}
use Rattle.m5_dict_typing.proofs.Fields.{Within, field_is}
use Rattle.m5_dict_typing.proofs.Contents.{Has, IsField, AreFields, Good, GoodObject, IsContent, whole, parts, array_of, more, content_is, are_of}

-- a value of an object line has the tree of the object that it refers to
target_tree : (R : ℕ → ℕ → Type 0) (i : ℕ) (line : TypeLine) (v : Field) (ts : List Tree) → IsFieldOf R i (Some line) v → is_object_line (Some line) ≡ true → tree_of ts v ≡ tree_at ts (target v)
unfolding tree_at
target_tree R i lines.Unit v ts h e = absurd (cc)
target_tree R i lines.Bool v ts h e = absurd (cc)
target_tree R i lines.Int v ts h e = absurd (cc)
target_tree R i lines.Cell v ts h e = absurd (cc)
target_tree R i (lines.Addr w) v ts h e = absurd (cc)
target_tree R i lines.Text v ts h e = subst (λ x. tree_of ts x ≡ unwrap_or (slice_get ts (target x)) Leaf) (sym h.2) refl
target_tree R i (lines.Pair a b) v ts h e = subst (λ x. tree_of ts x ≡ unwrap_or (slice_get ts (target x)) Leaf) (sym h.2) refl
target_tree R i (lines.Sum a b) v ts h e = subst (λ x. tree_of ts x ≡ unwrap_or (slice_get ts (target x)) Leaf) (sym h.2) refl
target_tree R i (lines.List a) v ts h e = subst (λ x. tree_of ts x ≡ unwrap_or (slice_get ts (target x)) Leaf) (sym h.2) refl
target_tree R i (lines.Fun a) v ts h e = subst (λ x. tree_of ts x ≡ unwrap_or (slice_get ts (target x)) Leaf) (sym h.2) refl

target_within : (d : Dictionaries) (os : List Object) (i : ℕ) (line : TypeLine) (v : Field) → IsFieldOf (Within d os) i (Some line) v → is_object_line (Some line) ≡ true → target v < length os
target_within d os i lines.Unit v h e = absurd (cc)
target_within d os i lines.Bool v h e = absurd (cc)
target_within d os i lines.Int v h e = absurd (cc)
target_within d os i lines.Cell v h e = absurd (cc)
target_within d os i (lines.Addr w) v h e = absurd (cc)
target_within d os i lines.Text v h e = subst (λ x. target x < length os) (sym h.2) h.1.0
target_within d os i (lines.Pair a b) v h e = subst (λ x. target x < length os) (sym h.2) h.1.0
target_within d os i (lines.Sum a b) v h e = subst (λ x. target x < length os) (sym h.2) h.1.0
target_within d os i (lines.List a) v h e = subst (λ x. target x < length os) (sym h.2) h.1.0
target_within d os i (lines.Fun a) v h e = subst (λ x. target x < length os) (sym h.2) h.1.0

drop_behind : (xs ys : List Field) → drop (length xs) (xs ++ ys) ≡ ys
drop_behind [] ys = refl
drop_behind (x ∷ xs) ys = drop_behind xs ys

good_all : (d : Dictionaries) (os : List Object) (vs : List Field) → Each HasNumber vs → Each (Refers os) vs → Good d os vs
good_all d os [] h k = tt
good_all d os (v ∷ vs) h k = ((h.0, k.0), good_all d os vs h.1 k.1)

module _ (d : Dictionaries) (os : List Object) (refs : ReferToOlder os) where
  good_object : (older : List Object) (o : Object) → MayFollow older o → GoodObject d older o
  good_object older (ArrayOf vs) m = good_all d older vs (recursion_from_All HasNumber vs m.2) (recursion_from_All (Refers older) vs m.3)
  good_object older (TextOf bytes) m = tt

  -- an object that is reached at an id of an object line has the tree of a value of the id
  record IsReached (q : Reached) : Type 0 where
    has : Has d q.id (tree_at (grown [] os) q.at)
    there : q.at < length os
    line : is_object_line (slice_get d.types q.id) ≡ true

  object_there : (n : ℕ) → n < length os → (o : Object) × (slice_get os n ≡ Some o)
  object_there n lt = (get_or os n (TextOf []), slice_get-get_or os n (TextOf []) lt)

  tree_is : (n : ℕ) (o : Object) → slice_get os n ≡ Some o → tree_at (grown [] os) n ≡ object_tree (grown [] (take n os)) o
  unfolding tree_at
  tree_is n o e = ap (λ (t : Option Tree). unwrap_or t Leaf) (grown_at [] os n n o (omega arith) e)

  content_of : (q : Reached) (o : Object) → slice_get os q.at ≡ Some o → IsReached q → IsContent d (take q.at os) q.id o
  content_of q o e r = content_is d (take q.at os) r.has.value q.id o (good_object (take q.at os) o (refs q.at o e)) r.has.of (subst (IsTree r.has.value) (tree_is q.at o e) r.has.tree) r.line

  object_is : (older : List Object) (i : ℕ) (o : Object) → MayFollow older o → IsContent d older i o → IsObjectOf d (Within d older) i o
  object_is older i o m (whole bytes line is text) = (
    Whole bytes,
    subst (λ l. opening_in d i l o ≡ Some (Whole bytes)) (sym line) (subst (λ x. opening_in d i (Some lines.Text) x ≡ Some (Whole bytes)) (sym is) refl),
    (is, (subst (MayFollow older) is m).0, text),
  )
  object_is older i o m (parts first ids vs is opening fields) = (Parts first ids, opening, (vs, is, are_of d older ids vs fields))

  fit : (q : Reached) → IsReached q → IsFit d os q (slice_get os q.at)
  fit q r =
      let o = object_there q.at r.there in
      let long : length (take q.at os) ≡ q.at = omega (arith, length-take q.at os, r.there) in
      subst (IsFit d os q) (sym o.1) (subst (λ (n : ℕ). IsObjectOf d (λ id j. (j < n) × (id < length d.types)) q.id o.0) long (object_is (take q.at os) q.id o.0 (refs q.at o.0 o.1) (content_of q o.0 o.1 r)))

  -- older objects keep their trees
  abbrev Keeps : List Object → Type 0
  Keeps older = (length older ≤ length os) × ((j : ℕ) → j < length older → tree_at (grown [] older) j ≡ tree_at (grown [] os) j)

  keeps_at : (n : ℕ) (o : Object) → slice_get os n ≡ Some o → Keeps (take n os)
  keeps_at n o e =
      let lt = slice_get_within os n o e in
      (omega (arith, length-take n os, lt), (λ j h. older_tree os n j o e (omega (arith, length-take n os, lt, h))))

  field_reached : (older : List Object) (i : ℕ) (v : Field) (line : Option TypeLine) → slice_get d.types i ≡ line → Keeps older → IsField d older i v → (b : Bool) → is_object_line line ≡ b → Each IsReached (value_reaches b i v)
  field_reached older i v line e k f false q = tt
  field_reached older i v None e k f true q = absurd (cc)
  field_reached older i v (Some line) e k f true q =
      let h : IsFieldOf (Within d older) i (Some line) v = subst (λ l. IsFieldOf (Within d older) i l v) e (field_is d older f.has.value i v f.number f.refers f.has.of f.has.tree) in
      let lt = target_within d older i line v h q in (
        record {
          has = subst (Has d i) (target_tree (Within d older) i line v (grown [] older) h q ∙ k.1 (target v) lt) f.has;
          there = (let less = k.0 in omega (arith, lt, less));
          line = ap is_object_line e ∙ q;
        },
        tt,
      )

  fields_reached : (older : List Object) (is : List ℕ) (vs : List Field) → Keeps older → AreFields d older is vs → Each IsReached (values_reach d is vs)
  unfolding values_reach
  fields_reached older [] [] k f = tt
  fields_reached older [] (v ∷ vs) k f = absurd f
  fields_reached older (i ∷ is) [] k f = absurd f
  fields_reached older (i ∷ is) (v ∷ vs) k f = all_append IsReached _ _ (field_reached older i v (slice_get d.types i) refl k f.0 (is_object_line (slice_get d.types i)) refl) (fields_reached older is vs k f.1)

  object_reached : (older : List Object) (i : ℕ) (o : Object) → Keeps older → IsContent d older i o → Each IsReached (opened_reaches d (opening_in d i (slice_get d.types i) o) o)
  object_reached older i o k (whole bytes line is text) =
      subst (λ l. Each IsReached (opened_reaches d (opening_in d i l o) o)) (sym line) (subst (λ x. Each IsReached (opened_reaches d (opening_in d i (Some lines.Text) x) x)) (sym is) tt)
  object_reached older i o k (parts first ids vs is opening fields) =
      subst (λ p. Each IsReached (opened_reaches d p o)) (sym opening)
      (subst (λ x. Each IsReached (values_reach d ids (fields_behind first x))) (sym is)
      (subst (λ ws. Each IsReached (values_reach d ids ws)) (sym (drop_behind first vs)) (fields_reached older ids vs k fields)))

  reached : (q : Reached) → IsReached q → Each IsReached (reaches d os q)
  reached q r =
      let o = object_there q.at r.there in
      subst (λ x. Each IsReached (object_reaches d q.id x)) (sym o.1) (object_reached (take q.at os) q.id o.0 (keeps_at q.at o.0 o.1) (content_of q o.0 o.1 r))

  wanted_one : (w : List Reached) (q : Reached) → Each IsReached w → has w q ≡ true → IsReached q
  wanted_one [] q h e = absurd (cc)
  wanted_one (p ∷ w) q h e = by (same p q) refl e (wanted_one w q h.1)
    where
      by : (b : Bool) → same p q ≡ b → (if b then true else has w q) ≡ true → (has w q ≡ true → IsReached q) → IsReached q
      by true s f next = subst IsReached (same_is p q s) h.0
      by false s f next = next f

  wanted_all : (w : List Reached) (at n : ℕ) → Each IsReached w → Each IsReached (wanted_ids w at n)
  wanted_all w at zero h = tt
  wanted_all w at (suc n) h = all_append IsReached (wanted_ids w at n) _ (wanted_all w at n h) (by (has w (record { at = at; id = n })) refl)
    where
      by : (b : Bool) → has w (record { at = at; id = n }) ≡ b → Each IsReached (if b then record { at = at; id = n } ∷ [] else [])
      by true e = (wanted_one w (record { at = at; id = n }) h e, tt)
      by false e = tt

  flat_reached : (qs : List Reached) → Each IsReached qs → Each IsReached (flat_map (reaches d os) qs)
  flat_reached [] h = tt
  flat_reached (q ∷ qs) h = all_append IsReached (reaches d os q) _ (reached q h.0) (flat_reached qs h.1)

  marked_reached : (n : ℕ) (w : List Reached) → Each IsReached w → Each IsReached (marked d os n w)
  unfolding marked
  marked_reached zero w h = tt
  marked_reached (suc n) w h =
      let ids = wanted_ids w n (length d.types) in
      let here = wanted_all w n (length d.types) h in
      all_append IsReached _ ids (marked_reached n (w ++ flat_map (reaches d os) ids) (all_append IsReached w _ h (flat_reached ids here))) here

  all_fit : (qs : List Reached) → Each IsReached qs → AreFit d os qs
  all_fit [] h = tt
  all_fit (q ∷ qs) h = (fit q h.0, all_fit qs h.1)

  -- the label of a closure's object
  label_is : (older : List Object) (o : Object) (l : ℕ) (ts : Trees) → GoodObject d older o → object_tree (grown [] older) o ≡ Node (With (Number (pos l)) ts) → label_in (Some o) ≡ Some l
  label_is older o l ts g e =
      let r = array_of d older o (With (Number (pos l)) ts) g e in
      let m = more d older r.fields (Number (pos l)) ts r.good r.trees in
      let is : o ≡ ArrayOf (values.Int (pos l) ∷ m.others) = r.is ∙ ap ArrayOf (m.is ∙ ap (λ v. v ∷ m.others) (number_back older m.first (pos l) m.refers m.tree)) in
      subst (λ x. label_in (Some x) ≡ Some l) (sym is) refl

  stands : (w : World) (at l : ℕ) (ts : Trees) (e : Entrance) → at < length os → tree_at (grown [] os) at ≡ Node (With (Number (pos l)) ts) → slice_get d.labels l ≡ Some e → stands_at e.world w ≡ true → label_stands d w (label_in (slice_get os at)) ≡ true
  stands w at l ts e lt t g h =
      let o = object_there at lt in
      let label : label_in (slice_get os at) ≡ Some l = ap label_in o.1 ∙ label_is (take at os) o.0 l ts (good_object (take at os) o.0 (refs at o.0 o.1)) (sym (tree_is at o.0 o.1) ∙ t) in
      ap (label_stands d w) label ∙ ap (λ x. stands_there x w) g ∙ h

  sendable : (w : World) (l k : ℕ) (ρ : ℕ → Value) (x : Value) (at : ℕ) (v : Field) → Enters d w l k ρ (λ id. IsOf d id x) → StandsInRegion os (closed (under l k) ρ) x at v → ReachesFew d os at v → (t : Sending) × (t.code.at ≡ at) × (t.argument ≡ v) × IsSendable d w os t
  unfolding tree_at
  sendable w l k ρ x at v h s few =
      let t : Sending = record { code = record { at = at; id = h.id }; argument = v; argument_id = h.code.entrance.argument } in
      let code : IsReached t.code = record { has = record { value = closed (under l k) ρ; of = h.code; tree = s.code }; there = s.there; line = ap is_object_line h.code.line } in
      let argument : IsField d os t.argument_id v = record { number = s.number; refers = s.refers; has = record { value = x; of = h.argument; tree = s.argument } } in
      let more = field_reached os t.argument_id v (slice_get d.types t.argument_id) refl (omega arith, (λ j e. refl)) argument (is_object_line (slice_get d.types t.argument_id)) refl in (
        t,
        refl,
        refl,
        record {
          few = few t refl refl;
          fit = all_fit (sent_from d os t) (marked_reached (length os) _ (code, more));
          code = s.there;
          closure = h.code.line;
          stands = stands w at l s.code.0 h.code.entrance s.there s.code.1 h.code.at h.stands;
          argument = field_is d os x t.argument_id v s.number s.refers h.argument s.argument;
        },
      )

pub has_bytes_there : HasBytesThere
has_bytes_there d ok w (closed (under l k) ρ) x h os at v s few = sendable d os s.older w l k ρ x at v h s few
has_bytes_there d ok w (atom f) x h os at v s few = absurd h
has_bytes_there d ok w (wrap f a) x h os at v s few = absurd h
has_bytes_there d ok w (join f a b) x h os at v s few = absurd h
