-- What is packed is read again, as the same thread.
use Rattle.std.proofs.Common.{◌≡◌, ℕ, suc, ◌<◌, ◌^◌, Bool, true, false, cond, eqb, List, [], ◌∷◌, ◌++◌, length, map, take, drop, Option, Some, None, slice_get, refl, sym, ap, subst, ◌∙◌, append_assoc, append-nil, length-append, arith, pos}
use Rattle.std.specs.Prelude.{unwrap_or}
use Rattle.std.specs.List.{AllByRecursion}
use Rattle.std.proofs.lemmas.List.{drop_at, length-map}
use Rattle.std.proofs.lemmas.Option.{slice_get-map, slice_get_within}
use Rattle.m5_region.specs.declared.value.Value.{Value}
use Rattle.m5_region.specs.declared.value.Value.TheVariants as values
use Rattle.m5_region.specs.Region.{Object, ArrayOf, TextOf}
use Rattle.m5_terms.specs.declared.types.World.{World}
use Rattle.m5_dictionary.specs.declared.line.TypeLine.{TypeLine}
use Rattle.m5_dictionary.specs.declared.line.TypeLine.TheVariants as lines
use Rattle.m5_dictionary.specs.Dictionaries.{Dictionaries, Entrance, IsDictionaries}
use Rattle.m5_message.specs.Reading.{Opening, Whole, Parts, side, cell_of_list, entered, is_object_line}
use Rattle.m5_message.specs.Message.{label_in, root_of}
use Rattle.m5_message.specs.Spelling.{opening_in, fields_behind, Older, IsOf, AreOf, Closes, IsObjectOf, AreObjectsOf, AreIds, IsMessage}
use Rattle.m5_message.specs.Tree.{Tree, Leaf, Node, tree_of, trees_of, object_tree, grown, ThreadTree, message_tree}
use Rattle.m5_message.specs.Packing.{Reached, has, place_in, value_reaches, values_reach, opened_reaches, object_reaches, sent_value, sent_values, sent_opened, sent_object, sent, Sending, sent_from, message_of, IsFit, AreFit, IsSendable, thread_tree, same}
use Rattle.m5_message.specs.Laws.{StandsAgain}
use Rattle.m5_message.proofs.Again.{message_again}
use Rattle.m5_message.proofs.Marks.{same_is, has_head, has_tail, place_there, marked_has, AllHas, Closed, closed_marked, all_known, value_below}
use Rattle.m5_message.proofs.Sent.{tree_at, id_of, tree_from, Found, found, Sends, Within, Known, SameBelow, value_sends, values_send, grown_at, older_tree}

-- ---- the first fields stay

some_is : {A : Type 0} (x y : A) → Some x ≡ Some y → x ≡ y
some_is x y e = cc

pub entered_is : (i l : ℕ) (m : Option Entrance) (p : Opening) → entered i l m ≡ Some p → (env : List ℕ) × (p ≡ Parts (values.Int (pos l) ∷ []) env)
entered_is i l None p e = absurd (let none : None ≡ Some p = e in cc)
entered_is i l (Some ent) p e = chosen (eqb ent.argument i) e
  where
    chosen : (b : Bool) → cond b (Some (Parts (values.Int (pos l) ∷ []) ent.environment)) None ≡ Some p → (env : List ℕ) × (p ≡ Parts (values.Int (pos l) ∷ []) env)
    chosen false q = absurd (let none : None ≡ Some p = q in cc)
    chosen true q = (ent.environment, sym (some_is _ _ q))

abbrev pub Kept : Dictionaries → List Reached → ℕ → Option TypeLine → Object → Opening → Type 0
Kept d ps id line o p = opening_in d id line (sent_opened d ps (Some p) o) ≡ Some p

side_kept : (d : Dictionaries) (ps : List Reached) (id i j : ℕ) (b : Bool) (vs : List Value) → Kept d ps id (Some (lines.Sum i j)) (ArrayOf (values.Bool b ∷ vs)) (side i j b)
side_kept d ps id i j false vs = refl
side_kept d ps id i j true vs = refl

list_kept : (d : Dictionaries) (ps : List Reached) (id i : ℕ) (b : Bool) (vs : List Value) → Kept d ps id (Some (lines.List i)) (ArrayOf (values.Bool b ∷ vs)) (cell_of_list i id b)
list_kept d ps id i false vs = refl
list_kept d ps id i true vs = refl

pub opening_kept : (d : Dictionaries) (ps : List Reached) (id : ℕ) (line : Option TypeLine) (o : Object) (p : Opening) → opening_in d id line o ≡ Some p → Kept d ps id line o p
opening_kept d ps id (Some lines.Text) (TextOf bytes) p e = subst (λ (x : Opening). Kept d ps id (Some lines.Text) (TextOf bytes) x) (some_is _ _ e) refl
opening_kept d ps id (Some (lines.Pair i j)) (ArrayOf vs) p e = subst (λ (x : Opening). Kept d ps id (Some (lines.Pair i j)) (ArrayOf vs) x) (some_is _ _ e) refl
opening_kept d ps id (Some (lines.Sum i j)) (ArrayOf (values.Bool b ∷ vs)) p e = subst (λ (x : Opening). Kept d ps id (Some (lines.Sum i j)) (ArrayOf (values.Bool b ∷ vs)) x) (some_is _ _ e) (side_kept d ps id i j b vs)
opening_kept d ps id (Some (lines.List i)) (ArrayOf (values.Bool b ∷ vs)) p e = subst (λ (x : Opening). Kept d ps id (Some (lines.List i)) (ArrayOf (values.Bool b ∷ vs)) x) (some_is _ _ e) (list_kept d ps id i b vs)
opening_kept d ps id (Some (lines.Fun i)) (ArrayOf (values.Int (pos l) ∷ vs)) p e =
    let is = entered_is i l (slice_get d.labels l) p e in
    subst (λ (x : Opening). opening_in d id (Some (lines.Fun i)) (sent_opened d ps (Some x) (ArrayOf (values.Int (pos l) ∷ vs))) ≡ Some p) (sym is.1) e
opening_kept d ps id line o p e = absurd (let none : None ≡ Some p = e in cc)

label_kept : (d : Dictionaries) (ps : List Reached) (id i : ℕ) (o : Object) (p : Opening) → opening_in d id (Some (lines.Fun i)) o ≡ Some p → label_in (Some (sent_opened d ps (Some p) o)) ≡ label_in (Some o)
label_kept d ps id i (ArrayOf (values.Int (pos l) ∷ vs)) p e =
    let is = entered_is i l (slice_get d.labels l) p e in
    subst (λ (x : Opening). label_in (Some (sent_opened d ps (Some x) (ArrayOf (values.Int (pos l) ∷ vs)))) ≡ Some l) (sym is.1) refl
label_kept d ps id i o p e = absurd (let none : None ≡ Some p = e in cc)

-- first fields are no references
abbrev IsPlain : Value → Type 0
IsPlain values.Null = Unit {0}
IsPlain (values.Bool b) = Unit {0}
IsPlain (values.Int n) = Unit {0}
IsPlain (values.Text r) = ⊥
IsPlain (values.Array r) = ⊥

abbrev IsPlainFirst : Opening → Type 0
IsPlainFirst (Whole bytes) = Unit {0}
IsPlainFirst (Parts first others) = AllByRecursion IsPlain first

side_plain : (i j : ℕ) (b : Bool) → IsPlainFirst (side i j b)
side_plain i j false = (tt, tt)
side_plain i j true = (tt, tt)

list_plain : (i id : ℕ) (b : Bool) → IsPlainFirst (cell_of_list i id b)
list_plain i id false = (tt, tt)
list_plain i id true = (tt, tt)

opening_plain : (d : Dictionaries) (id : ℕ) (line : Option TypeLine) (o : Object) (p : Opening) → opening_in d id line o ≡ Some p → IsPlainFirst p
opening_plain d id (Some lines.Text) (TextOf bytes) p e = subst IsPlainFirst (some_is _ _ e) tt
opening_plain d id (Some (lines.Pair i j)) (ArrayOf vs) p e = subst IsPlainFirst (some_is _ _ e) tt
opening_plain d id (Some (lines.Sum i j)) (ArrayOf (values.Bool b ∷ vs)) p e = subst IsPlainFirst (some_is _ _ e) (side_plain i j b)
opening_plain d id (Some (lines.List i)) (ArrayOf (values.Bool b ∷ vs)) p e = subst IsPlainFirst (some_is _ _ e) (list_plain i id b)
opening_plain d id (Some (lines.Fun i)) (ArrayOf (values.Int (pos l) ∷ vs)) p e = subst IsPlainFirst (sym (entered_is i l (slice_get d.labels l) p e).1) (tt, tt)
opening_plain d id line o p e = absurd (let none : None ≡ Some p = e in cc)

opening_object : (d : Dictionaries) (id : ℕ) (line : Option TypeLine) (o : Object) (p : Opening) → opening_in d id line o ≡ Some p → is_object_line line ≡ true
opening_object d id (Some lines.Text) (TextOf bytes) p e = refl
opening_object d id (Some (lines.Pair i j)) (ArrayOf vs) p e = refl
opening_object d id (Some (lines.Sum i j)) (ArrayOf (values.Bool b ∷ vs)) p e = refl
opening_object d id (Some (lines.List i)) (ArrayOf (values.Bool b ∷ vs)) p e = refl
opening_object d id (Some (lines.Fun i)) (ArrayOf (values.Int (pos l) ∷ vs)) p e = refl
opening_object d id line o p e = absurd (let none : None ≡ Some p = e in cc)

plain_tree : (ts us : List Tree) (v : Value) → IsPlain v → tree_of ts v ≡ tree_of us v
plain_tree ts us values.Null h = refl
plain_tree ts us (values.Bool b) h = refl
plain_tree ts us (values.Int n) h = refl
plain_tree ts us (values.Text r) h = absurd h
plain_tree ts us (values.Array r) h = absurd h

first_trees : (ts us : List Tree) (first ws vs : List Value) → AllByRecursion IsPlain first → trees_of ts ws ≡ trees_of us vs → trees_of ts (first ++ ws) ≡ trees_of us (first ++ vs)
first_trees ts us [] ws vs h e = e
first_trees ts us (v ∷ first) ws vs h e = rw (plain_tree ts us v h.0, first_trees ts us first ws vs h.1 e) refl

-- ---- objects

record ObjectSends (d : Dictionaries) (rs : List Tree) (before ps : List Reached) (id : ℕ) (o : Object) (t : Tree) : Type 0 where
  fits : IsObjectOf d (Older (map id_of ps) (length before)) id o
  tree : object_tree (map (tree_from rs) before) o ≡ t

record OpenedSends (d : Dictionaries) (rs pre : List Tree) (before ps : List Reached) (p : Opening) (o : Object) : Type 0 where
  closes : Closes d (Older (map id_of ps) (length before)) p (sent_opened d ps (Some p) o)
  tree : object_tree (map (tree_from rs) before) (sent_opened d ps (Some p) o) ≡ object_tree pre o

parts_send : (d : Dictionaries) (rs pre : List Tree) (before ps : List Reached) (at : ℕ) (first : List Value) (others : List ℕ) (vs : List Value) → Known rs before ps → SameBelow pre rs at → AllHas before (values_reach d others (fields_behind first (ArrayOf (first ++ vs)))) → AllByRecursion IsPlain first → AreOf d (Within d at) others vs → OpenedSends d rs pre before ps (Parts first others) (ArrayOf (first ++ vs))
parts_send d rs pre before ps at first others vs known below h plain fit =
    let behind : drop (length first) (first ++ vs) ≡ vs = drop_at first vs (length first) refl in
    let s = values_send d rs pre before ps at others vs known below (subst (λ (x : List Value). AllHas before (values_reach d others x)) behind h) fit in
    record {
      closes = (sent_values d ps others vs, ap (λ (x : List Value). ArrayOf (first ++ sent_values d ps others x)) behind, s.fit);
      tree = ap (λ (x : List Value). object_tree (map (tree_from rs) before) (ArrayOf (first ++ sent_values d ps others x))) behind ∙ ap Node (first_trees (map (tree_from rs) before) pre first (sent_values d ps others vs) vs plain s.trees);
    }

opened_sends : (d : Dictionaries) (rs pre : List Tree) (before ps : List Reached) (at : ℕ) (p : Opening) (o : Object) → Known rs before ps → SameBelow pre rs at → AllHas before (opened_reaches d (Some p) o) → IsPlainFirst p → Closes d (Within d at) p o → OpenedSends d rs pre before ps p o
opened_sends d rs pre before ps at (Whole bytes) o known below h plain c =
    record { closes = c; tree = ap (object_tree (map (tree_from rs) before)) c.0 ∙ ap (object_tree pre) (sym c.0) }
opened_sends d rs pre before ps at (Parts first others) o known below h plain c =
    subst (λ (x : Object). AllHas before (values_reach d others (fields_behind first x)) → OpenedSends d rs pre before ps (Parts first others) x) (sym c.1)
    (λ k. parts_send d rs pre before ps at first others c.0 known below k plain c.2) h

one_sends : (d : Dictionaries) (os : List Object) (before ps : List Reached) (q : Reached) (m : Option Object) → Known (grown [] os) before ps → slice_get os q.at ≡ m → IsFit d os q m → AllHas before (object_reaches d q.id m) → ObjectSends d (grown [] os) before ps q.id (sent_object d ps q.id m) (tree_at (grown [] os) q.at)
unfolding tree_at
one_sends d os before ps q None known is fit h = absurd fit
one_sends d os before ps q (Some o) known is fit h =
    let rs = grown [] os in
    let pre = grown [] (take q.at os) in
    let line = slice_get d.types q.id in
    let p = fit.0 in
    let below : SameBelow pre rs q.at = λ j lt. older_tree os q.at j o is lt in
    let s = opened_sends d rs pre before ps q.at p o known below (subst (λ (x : Option Opening). AllHas before (opened_reaches d x o)) fit.1 h) (opening_plain d q.id line o p fit.1) fit.2 in
    let here : unwrap_or (slice_get rs q.at) Leaf ≡ object_tree pre o = ap (λ (x : Option Tree). unwrap_or x Leaf) (grown_at [] os q.at q.at o (omega arith) is) in
    subst (λ (x : Option Opening). ObjectSends d rs before ps q.id (sent_opened d ps x o) (unwrap_or (slice_get rs q.at) Leaf)) (sym fit.1)
    (record { fits = (p, opening_kept d ps q.id line o p fit.1, s.closes); tree = s.tree ∙ sym here })

map_end : {A B : Type 0} (f : A → B) (a : List A) (x : A) → map f (a ++ x ∷ []) ≡ map f a ++ f x ∷ []
map_end f [] x = refl
map_end f (y ∷ a) x = ap (λ (t : List _). f y ∷ t) (map_end f a x)

record ObjectsSend (d : Dictionaries) (os : List Object) (ps before after : List Reached) : Type 0 where
  fit : AreObjectsOf d (map id_of ps) (length before) (map id_of after) (map (sent d os ps) after)
  trees : grown (map (tree_from (grown [] os)) before) (map (sent d os ps) after) ≡ map (tree_from (grown [] os)) ps

objects_send : (d : Dictionaries) (os : List Object) (ps before after : List Reached) → ps ≡ before ++ after → AreFit d os after → Closed d os before after → ObjectsSend d os ps before after
unfolding AreObjectsOf Closed grown
objects_send d os ps before [] split fit closed = record { fit = tt; trees = ap (map (tree_from (grown [] os))) (sym (append-nil before) ∙ sym split) }
objects_send d os ps before (q ∷ after) split fit closed =
    let rs = grown [] os in
    let known : Known rs before ps = λ r h. subst (λ (x : List Reached). Found rs before x r) (sym split) (found rs before (q ∷ after) r h) in
    let one = one_sends d os before ps q (slice_get os q.at) known refl fit.0 closed.0 in
    let others = objects_send d os ps (before ++ q ∷ []) after (split ∙ sym (append_assoc before (q ∷ []) after)) fit.1 closed.1 in
    let longer : length (before ++ q ∷ []) ≡ suc (length before) = omega (arith, length-append before (q ∷ [])) in
    record {
      fit = (one.fits, subst (λ (n : ℕ). AreObjectsOf d (map id_of ps) n (map id_of after) (map (sent d os ps) after)) longer others.fit);
      trees = ap (λ (t : Tree). grown (map (tree_from rs) before ++ t ∷ []) (map (sent d os ps) after)) one.tree ∙ ap (λ (ts : List Tree). grown ts (map (sent d os ps) after)) (sym (map_end (tree_from rs) before q)) ∙ others.trees;
    }

-- ---- the message

all_has : (P : Reached → Type 0) (ps : List Reached) (q : Reached) → AllByRecursion P ps → has ps q ≡ true → P q
all_has P [] q h e = absurd cc
all_has P (p ∷ ps) q h e = by_test (same p q) refl (λ k. all_has P ps q h.1 k) e
  where
    by_test : (b : Bool) → same p q ≡ b → (has ps q ≡ true → P q) → cond b true (has ps q) ≡ true → P q
    by_test true s go k = subst P (same_is p q s) h.0
    by_test false s go k = go k

line_within : (d : Dictionaries) (id : ℕ) (m : Option TypeLine) → slice_get d.types id ≡ m → is_object_line m ≡ true → id < length d.types
line_within d id None e h = absurd cc
line_within d id (Some line) e h = slice_get_within d.types id line e

fit_object : (d : Dictionaries) (os : List Object) (q : Reached) (m : Option Object) → IsFit d os q m → is_object_line (slice_get d.types q.id) ≡ true
fit_object d os q None h = absurd h
fit_object d os q (Some o) h = opening_object d q.id (slice_get d.types q.id) o h.0 h.1

ids_fit : (d : Dictionaries) (os : List Object) (ps : List Reached) → length d.types < 2 ^ 32 → AreFit d os ps → AreIds d (map id_of ps)
unfolding AreIds
ids_fit d os [] small h = tt
ids_fit d os (q ∷ ps) small h =
    let good = fit_object d os q (slice_get os q.at) h.0 in
    let within = line_within d q.id (slice_get d.types q.id) refl good in
    (omega arith, good, ids_fit d os ps small h.1)

code_label : (d : Dictionaries) (os : List Object) (ps : List Reached) (q : Reached) (i : ℕ) (m : Option Object) → slice_get d.types q.id ≡ Some (lines.Fun i) → IsFit d os q m → label_in (Some (sent_object d ps q.id m)) ≡ label_in m
code_label d os ps q i None line h = absurd h
code_label d os ps q i (Some o) line h =
    let e : opening_in d q.id (Some (lines.Fun i)) o ≡ Some h.0 = subst (λ (x : Option TypeLine). opening_in d q.id x o ≡ Some h.0) line h.1 in
    subst (λ (x : Option Opening). label_in (Some (sent_opened d ps x o)) ≡ label_in (Some o)) (sym h.1) (label_kept d ps q.id i o h.0 e)

pub packs : (d : Dictionaries) (w : World) (os : List Object) (t : Sending) → IsDictionaries d → IsSendable d w os t → IsMessage d w (message_of d os (sent_from d os t) t) × (message_tree (message_of d os (sent_from d os t) t) ≡ thread_tree os t)
unfolding tree_at
packs d w os t is h =
    let rs = grown [] os in
    let ps = sent_from d os t in
    let first = value_reaches (is_object_line (slice_get d.types t.argument_id)) t.argument_id t.argument in
    let all : ObjectsSend d os ps [] ps = objects_send d os ps [] ps refl h.fit (closed_marked d os (length os) (t.code ∷ first) h.fit) in
    let code_id : t.code.id < length d.types = slice_get_within d.types t.code.id (lines.Fun t.argument_id) h.closure in
    let root_has : has ps t.code ≡ true = marked_has d os (length os) (t.code ∷ first) t.code h.code code_id (has_head t.code first) in
    let known : Known rs ps ps = λ q k. subst (λ (x : List Reached). Found rs ps x q) (append-nil ps) (found rs ps [] q k) in
    let root = known t.code root_has in
    let argument_has : AllHas ps first = all_known d (length os) ps first (λ (q : Reached) e lt small. marked_has d os (length os) (t.code ∷ first) q lt small (has_tail t.code first q e)) (value_below d (length os) t.argument_id (slice_get d.types t.argument_id) t.argument h.argument) in
    let argument : Sends d rs rs ps ps (length os) t.argument_id (slice_get d.types t.argument_id) t.argument = value_sends d rs rs ps ps (length os) t.argument_id (slice_get d.types t.argument_id) t.argument known (λ j lt. refl) argument_has h.argument in
    let len : length (map id_of ps) ≡ length ps = length-map ps id_of in
    let there : slice_get (map (sent d os ps) ps) (place_in ps t.code) ≡ Some (sent d os ps t.code) = slice_get-map (sent d os ps) ps (place_in ps t.code) ∙ rw (place_there ps t.code root_has) refl in
    let code_fit : IsFit d os t.code (slice_get os t.code.at) = all_has (λ p. IsFit d os p (slice_get os p.at)) ps t.code h.fit root_has in
    let label : label_in (slice_get (map (sent d os ps) ps) (place_in ps t.code)) ≡ label_in (slice_get os t.code.at) = ap label_in there ∙ code_label d os ps t.code t.argument_id (slice_get os t.code.at) h.closure code_fit in
    let is_root : root_of d w (map id_of ps) (map (sent d os ps) ps) (place_in ps t.code) ≡ Some t.argument_id = rw (label, h.stands, root.id, h.closure) refl in (
      record {
        few = omega (arith, len, h.few);
        ids = ids_fit d os ps is.types.few h.fit;
        objects = all.fit;
        there = omega (arith, len, root.within);
        root = (t.argument_id, is_root, subst (λ (n : ℕ). IsOf (Older (map id_of ps) n) t.argument_id (slice_get d.types t.argument_id) (sent_value d ps t.argument_id (slice_get d.types t.argument_id) t.argument)) (sym len) argument.fits);
      },
      ap (λ (ts : List Tree). message_tree_over ts (place_in ps t.code) (sent_value d ps t.argument_id (slice_get d.types t.argument_id) t.argument)) all.trees
          ∙ ap (λ (x : Tree). record { code = x; argument = tree_of (map (tree_from rs) ps) (sent_value d ps t.argument_id (slice_get d.types t.argument_id) t.argument) }) (ap (λ (x : Option Tree). unwrap_or x Leaf) root.tree)
          ∙ ap (λ (x : Tree). record { code = tree_at rs t.code.at; argument = x }) argument.tree,
    )
  where
    message_tree_over : List Tree → ℕ → Value → ThreadTree
    message_tree_over ts n v = record { code = unwrap_or (slice_get ts n) Leaf; argument = tree_of ts v }

pub stands_again : StandsAgain
stands_again d w seal os t is eight h =
    let p = packs d w os t is h in
    (message_of d os (sent_from d os t) t, message_again d w seal (message_of d os (sent_from d os t) t) is.labels.few eight p.0, p.1)
