-- The label of a closure is found by passing the contents before its own.
use Rattle.std.proofs.Common.{◌≡◌, ℕ, zero, suc, ◌+◌, ◌-◌, ◌<◌, Bool, true, false, cond, eqb, List, [], ◌∷◌, ◌++◌, length, take, Option, Some, None, Ok, Err, slice_get, refl, sym, ap, subst, ◌∙◌, arith, pos}
use Rattle.std.proofs.lemmas.Bool.{eqb-true}
use Rattle.m5_region.specs.declared.value.Value.{Value}
use Rattle.m5_region.specs.declared.value.Value.TheVariants as values
use Rattle.m5_region.specs.Region.{Object, ArrayOf}
use Rattle.m5_terms.specs.declared.types.World.{World}
use Rattle.m5_dictionary.specs.declared.line.TypeLine.{TypeLine}
use Rattle.m5_dictionary.specs.declared.line.TypeLine.TheVariants as lines
use Rattle.m5_message.specs.declared.format.Format.{Format}
use Rattle.m5_dictionary.specs.Dictionaries.{Dictionaries, Entrance}
use Rattle.m5_message.specs.Numbers.{Read, ◌>>=◌, field, small_number, older}
use Rattle.m5_message.specs.Reading.{values_at, value_at, Parts, entered, with_rest, label_at, opening_of, opening_at, closing_at, content_at, contents_at}
use Rattle.m5_message.specs.Message.{label_in, label_stands, argument_of, line_at, rooted, root_of, with_argument, as_root, ended}
use Rattle.m5_marshal.specs.code.Adding.{rest_of, span, Kinds}
use Rattle.m5_marshal.specs.code.Tail.{tail_at}
use Rattle.m5_marshal.proofs.Passing.{rest_object}
use Rattle.m5_marshal.proofs.Filling.{older_below, Placed, value_placed}
use Rattle.m5_marshal.proofs.Gathered.{contents_ok, contents_none}

some_is : {A : Type 0} (x y : A) → Some x ≡ Some y → x ≡ y
some_is x y e = cc

-- ---- the content of one of the objects

record Split (d : Dictionaries) (f : Format) (ids : List ℕ) (own id : ℕ) (others bytes : List ℕ) (x : List Object × List ℕ) : Type 0 where
  object : Object
  after : List ℕ
  objects : List Object
  one : content_at d f ids own id bytes ≡ Ok (object, after)
  more : contents_at d f ids (suc own) others after ≡ Ok (objects, x.1)
  is : object ∷ objects ≡ x.0

contents_split : (d : Dictionaries) (f : Format) (ids : List ℕ) (own id : ℕ) (others bytes : List ℕ) (x : List Object × List ℕ) → contents_at d f ids own (id ∷ others) bytes ≡ Ok x → Split d f ids own id others bytes x
unfolding contents_at
contents_split d f ids own id others bytes x e = by_one (content_at d f ids own id bytes) refl e
  where
    by_more : (o : Object × List ℕ) → content_at d f ids own id bytes ≡ Ok o → (r : Read (List Object)) → contents_at d f ids (suc own) others o.1 ≡ r → (r >>= λ os. Ok (o.0 ∷ os.0, os.1)) ≡ Ok x → Split d f ids own id others bytes x
    by_more o h (Ok y) m k =
        let same : (o.0 ∷ y.0, y.1) ≡ x = cc in
        record { object = o.0; after = o.1; objects = y.0; one = h; more = m ∙ ap (λ (r : List ℕ). Ok (y.0, r)) (ap (λ (z : List Object × List ℕ). z.1) same); is = ap (λ (z : List Object × List ℕ). z.0) same }
    by_more o h (Err n) m k = absurd (let bad : Err n ≡ Ok x = k in cc)

    by_one : (r : Read Object) → content_at d f ids own id bytes ≡ r → (r >>= λ o. contents_at d f ids (suc own) others o.1 >>= λ os. Ok (o.0 ∷ os.0, os.1)) ≡ Ok x → Split d f ids own id others bytes x
    by_one (Ok o) h k = by_more o h (contents_at d f ids (suc own) others o.1) refl k
    by_one (Err n) h k = absurd (let bad : Err n ≡ Ok x = k in cc)

record Front (d : Dictionaries) (f : Format) (ids : List ℕ) (own : ℕ) (others : List ℕ) (k id : ℕ) (bytes : List ℕ) (os : List Object) : Type 0 where
  at : List ℕ
  object : Object
  after : List ℕ
  before : rest_of (contents_at d f ids own (take k others) bytes) ≡ Ok at
  content : content_at d f ids (own + k) id at ≡ Ok (object, after)
  there : slice_get os k ≡ Some object

contents_front : (d : Dictionaries) (f : Format) (ids : List ℕ) (own : ℕ) (others : List ℕ) (k id : ℕ) (bytes : List ℕ) (x : List Object × List ℕ) → contents_at d f ids own others bytes ≡ Ok x → slice_get others k ≡ Some id → Front d f ids own others k id bytes x.0
contents_front d f ids own [] k id bytes x h e = absurd (let none : None ≡ Some id = e in cc)
contents_front d f ids own (i ∷ others) zero id bytes x h e =
    let s = contents_split d f ids own i others bytes x h in
    record {
      at = bytes;
      object = s.object;
      after = s.after;
      before = ap rest_of (contents_none d f ids own [] bytes refl);
      content = ap (λ (n : ℕ). content_at d f ids n id bytes) (let n : own + 0 ≡ own = omega arith in n) ∙ ap (λ (n : ℕ). content_at d f ids own n bytes) (sym (some_is i id e)) ∙ s.one;
      there = ap (λ (os : List Object). slice_get os 0) (sym s.is);
    }
contents_front d f ids own (i ∷ others) (suc k) id bytes x h e =
    let s = contents_split d f ids own i others bytes x h in
    let g = contents_front d f ids (suc own) others k id s.after (s.objects, x.1) s.more e in
    record {
      at = g.at;
      object = g.object;
      after = g.after;
      before = ap rest_of (contents_ok d f ids own i (take k others) bytes s.object s.after s.one) ∙ rest_object s.object (contents_at d f ids (suc own) (take k others) s.after) ∙ g.before;
      content = ap (λ (n : ℕ). content_at d f ids n id g.at) (let n : own + suc k ≡ suc own + k = omega arith in n) ∙ g.content;
      there = ap (λ (os : List Object). slice_get os (suc k)) (sym s.is) ∙ g.there;
    }

-- ---- a closure's label

record Labelled (f : Format) (at : List ℕ) (o : Object) : Type 0 where
  label : ℕ
  rest : List ℕ
  number : small_number f at ≡ Some (label, rest)
  is : label_in (Some o) ≡ Some label

closure_label : (d : Dictionaries) (f : Format) (ids : List ℕ) (own id i : ℕ) (at : List ℕ) (x : Object × List ℕ) → slice_get d.types id ≡ Some (lines.Fun i) → content_at d f ids own id at ≡ Ok x → Labelled f at x.0
unfolding content_at opening_at
closure_label d f ids own id i at x line e =
    by_number (small_number f at) refl (ap (λ (l : Option TypeLine). opening_of d f id l at >>= λ p. closing_at d f ids own p.0 p.1) (sym line) ∙ e)
  where
    by_values : (y : ℕ × List ℕ) → small_number f at ≡ Some y → (vs : Read (List Value)) → (vs >>= λ z. Ok (ArrayOf (values.Int (pos y.0) ∷ [] ++ z.0), z.1)) ≡ Ok x → Labelled f at x.0
    by_values y n (Ok z) k = record { label = y.0; rest = y.1; number = n; is = ap (λ (w : Object × List ℕ). label_in (Some w.0)) (let same : x ≡ (ArrayOf (values.Int (pos y.0) ∷ z.0), z.1) = cc in same) }
    by_values y n (Err j) k = absurd (let bad : Err j ≡ Ok x = k in cc)

    by_test : (y : ℕ × List ℕ) → small_number f at ≡ Some y → (env : List ℕ) (b : Bool) → (field at (with_rest (cond b (Some (Parts (values.Int (pos y.0) ∷ []) env)) None) y.1) >>= λ p. closing_at d f ids own p.0 p.1) ≡ Ok x → Labelled f at x.0
    by_test y n env true k = by_values y n (values_at d f ids own env y.1) k
    by_test y n env false k = absurd (let bad : Err (length at) ≡ Ok x = k in cc)

    by_label : (y : ℕ × List ℕ) → small_number f at ≡ Some y → (m : Option Entrance) → (field at (with_rest (entered i y.0 m) y.1) >>= λ p. closing_at d f ids own p.0 p.1) ≡ Ok x → Labelled f at x.0
    by_label y n None k = absurd (let bad : Err (length at) ≡ Ok x = k in cc)
    by_label y n (Some e) k = by_test y n e.environment (eqb e.argument i) k

    by_number : (m : Option (ℕ × List ℕ)) → small_number f at ≡ m → (field at (label_at d i m) >>= λ p. closing_at d f ids own p.0 p.1) ≡ Ok x → Labelled f at x.0
    by_number None n k = absurd (let bad : Err (length at) ≡ Ok x = k in cc)
    by_number (Some y) n k = by_label y n (slice_get d.labels y.0) k

argument_line : (m : Option TypeLine) (i : ℕ) → argument_of m ≡ Some i → m ≡ Some (lines.Fun i)
argument_line (Some (lines.Fun j)) i e = ap (λ (n : ℕ). Some (lines.Fun n)) (some_is j i e)
argument_line None i e = absurd (let none : None ≡ Some i = e in cc)
argument_line (Some lines.Unit) i e = absurd (let none : None ≡ Some i = e in cc)
argument_line (Some lines.Bool) i e = absurd (let none : None ≡ Some i = e in cc)
argument_line (Some lines.Int) i e = absurd (let none : None ≡ Some i = e in cc)
argument_line (Some lines.Text) i e = absurd (let none : None ≡ Some i = e in cc)
argument_line (Some (lines.Pair a b)) i e = absurd (let none : None ≡ Some i = e in cc)
argument_line (Some (lines.Sum a b)) i e = absurd (let none : None ≡ Some i = e in cc)
argument_line (Some (lines.List a)) i e = absurd (let none : None ≡ Some i = e in cc)
argument_line (Some lines.Cell) i e = absurd (let none : None ≡ Some i = e in cc)
argument_line (Some (lines.Addr w)) i e = absurd (let none : None ≡ Some i = e in cc)

-- the closure's content begins behind those before it, with its label
pub record RootLabel (d : Dictionaries) (f : Format) (ids : List ℕ) (root : ℕ) (contents : List ℕ) (os : List Object) : Type 0 where
  pub at : List ℕ
  pub label : ℕ
  pub rest : List ℕ
  pub before : rest_of (contents_at d f ids 0 (span 0 root ids) contents) ≡ Ok at
  pub number : small_number f at ≡ Some (label, rest)
  pub is : label_in (slice_get os root) ≡ Some label

pub root_label : (d : Dictionaries) (f : Format) (ids : List ℕ) (root i : ℕ) (contents : List ℕ) (os : List Object) (rest : List ℕ) → contents_at d f ids 0 ids contents ≡ Ok (os, rest) → argument_of (line_at d (slice_get ids root)) ≡ Some i → RootLabel d f ids root contents os
root_label d f ids root i contents os rest e h = by_id (slice_get ids root) refl h
  where
    by_id : (m : Option ℕ) → slice_get ids root ≡ m → argument_of (line_at d m) ≡ Some i → RootLabel d f ids root contents os
    by_id None there k = absurd (let none : None ≡ Some i = k in cc)
    by_id (Some id) there k =
        let g = contents_front d f ids 0 ids root id contents (os, rest) e there in
        let l = closure_label d f ids (0 + root) id i g.at (g.object, g.after) (argument_line (slice_get d.types id) i k) g.content in
        record {
          at = g.at;
          label = l.label;
          rest = l.rest;
          before = ap (λ (n : ℕ). rest_of (contents_at d f ids 0 (take n ids) contents)) (let n : root - 0 ≡ root = omega arith in n) ∙ g.before;
          number = l.number;
          is = ap label_in g.there ∙ l.is;
        }

-- the label that is read behind the contents before the closure's is the closure's
pub label_read : (d : Dictionaries) (f : Format) (ids : List ℕ) (root i : ℕ) (contents at : List ℕ) (os : List Object) (rest : List ℕ) (l : ℕ) (behind : List ℕ) → contents_at d f ids 0 ids contents ≡ Ok (os, rest) → argument_of (line_at d (slice_get ids root)) ≡ Some i → rest_of (contents_at d f ids 0 (span 0 root ids) contents) ≡ Ok at → small_number f at ≡ Some (l, behind) → label_in (slice_get os root) ≡ Some l
label_read d f ids root i contents at os rest l behind e h passed number =
    let r = root_label d f ids root i contents os rest e h in
    let at_is : r.at ≡ at = let both : Ok r.at ≡ Ok at = sym r.before ∙ passed in cc in
    let both : Some (r.label, r.rest) ≡ Some (l, behind) = sym r.number ∙ ap (small_number f) at_is ∙ number in
    r.is ∙ ap (λ (p : ℕ × List ℕ). Some p.0) (some_is (r.label, r.rest) (l, behind) both)

pub no_label : (d : Dictionaries) (f : Format) (ids : List ℕ) (root i : ℕ) (contents at : List ℕ) (os : List Object) (rest : List ℕ) → contents_at d f ids 0 ids contents ≡ Ok (os, rest) → argument_of (line_at d (slice_get ids root)) ≡ Some i → rest_of (contents_at d f ids 0 (span 0 root ids) contents) ≡ Ok at → small_number f at ≡ None → ⊥
no_label d f ids root i contents at os rest e h passed number =
    let r = root_label d f ids root i contents os rest e h in
    let at_is : r.at ≡ at = let both : Ok r.at ≡ Ok at = sym r.before ∙ passed in cc in
    let both : Some (r.label, r.rest) ≡ None = sym r.number ∙ ap (small_number f) at_is ∙ number in
    cc

pub not_passed : (d : Dictionaries) (f : Format) (ids : List ℕ) (root i : ℕ) (contents : List ℕ) (os : List Object) (rest : List ℕ) (k : ℕ) → contents_at d f ids 0 ids contents ≡ Ok (os, rest) → argument_of (line_at d (slice_get ids root)) ≡ Some i → rest_of (contents_at d f ids 0 (span 0 root ids) contents) ≡ Err k → ⊥
not_passed d f ids root i contents os rest k e h passed =
    let r = root_label d f ids root i contents os rest e h in
    let both : Ok r.at ≡ Err k = sym r.before ∙ passed in
    cc

-- ---- the root and its argument

pub rooted_none : (b : Bool) → rooted b None ≡ None
rooted_none true = refl
rooted_none false = refl

pub no_argument : (d : Dictionaries) (w : World) (ids : List ℕ) (os : List Object) (root id : ℕ) → slice_get ids root ≡ Some id → argument_of (slice_get d.types id) ≡ None → root_of d w ids os root ≡ None
no_argument d w ids os root id there none = rw (there, none) (rooted_none (label_stands d w (label_in (slice_get os root))))

pub root_by : (d : Dictionaries) (w : World) (ids : List ℕ) (os : List Object) (root id i : ℕ) (l : Option ℕ) → slice_get ids root ≡ Some id → argument_of (slice_get d.types id) ≡ Some i → label_in (slice_get os root) ≡ l → root_of d w ids os root ≡ rooted (label_stands d w l) (Some i)
root_by d w ids os root id i l there argument label = rw (there, argument, label) refl

pub tail_no_root : (d : Dictionaries) (w : World) (f : Format) (n : ℕ) (ids : List ℕ) (os : List Object) (bytes : List ℕ) → as_root d w ids os (older f n bytes) ≡ None → tail_at d w f n ids os bytes ≡ Err (length bytes)
unfolding tail_at
tail_no_root d w f n ids os bytes e = rw e refl

pub tail_no_value : (d : Dictionaries) (w : World) (f : Format) (n : ℕ) (ids : List ℕ) (os : List Object) (bytes : List ℕ) (j i k : ℕ) (rest : List ℕ) → as_root d w ids os (older f n bytes) ≡ Some ((j, i), rest) → value_at d f ids n i rest ≡ Err k → tail_at d w f n ids os bytes ≡ Err k
unfolding tail_at
tail_no_value d w f n ids os bytes j i k rest e h = rw (e, h) refl

pub tail_value : (d : Dictionaries) (w : World) (f : Format) (n : ℕ) (ids : List ℕ) (os : List Object) (bytes : List ℕ) (j i : ℕ) (rest : List ℕ) (v : Value) (end : List ℕ) → as_root d w ids os (older f n bytes) ≡ Some ((j, i), rest) → value_at d f ids n i rest ≡ Ok (v, end) → tail_at d w f n ids os bytes ≡ ended (j, v) end
unfolding tail_at
tail_value d w f n ids os bytes j i rest v end e h = rw (e, h) refl

rooted_stands : (b : Bool) (m : Option ℕ) (i : ℕ) → rooted b m ≡ Some i → b ≡ true
rooted_stands true m i e = refl
rooted_stands false m i e = absurd (let none : None ≡ Some i = e in cc)

-- the root is one of the objects, of a label that stands, and the argument refers to one of them
pub record TailFacts (d : Dictionaries) (w : World) (ids : List ℕ) (os : List Object) (n : ℕ) (x : ℕ × Value) : Type 0 where
  pub root : x.0 < n
  pub argument : (base : ℕ) (front : List Object) → Kinds d ids base n front → Placed base front x.1
  pub stands : label_stands d w (label_in (slice_get os x.0)) ≡ true

pub tail_facts : (d : Dictionaries) (w : World) (f : Format) (n : ℕ) (ids : List ℕ) (os : List Object) (bytes : List ℕ) (x : ℕ × Value) → tail_at d w f n ids os bytes ≡ Ok x → TailFacts d w ids os n x
unfolding tail_at
tail_facts d w f n ids os bytes x e = by_root (older f n bytes) refl e
  where
    by_end : (j i : ℕ) (rest : List ℕ) → j < n → label_stands d w (label_in (slice_get os j)) ≡ true → (v : Value) (end : List ℕ) → value_at d f ids n i rest ≡ Ok (v, end) → ended (j, v) end ≡ Ok x → TailFacts d w ids os n x
    by_end j i rest lt st v [] h k =
        subst (TailFacts d w ids os n) (let same : (j, v) ≡ x = cc in same)
        (record { root = lt; argument = λ base front kinds. value_placed d f ids n i base front rest (v, []) kinds h; stands = st })
    by_end j i rest lt st v (b ∷ end) h k = absurd (let bad : Err (length (b ∷ end)) ≡ Ok x = k in cc)

    by_value : (j i : ℕ) (rest : List ℕ) → j < n → label_stands d w (label_in (slice_get os j)) ≡ true → (r : Read Value) → value_at d f ids n i rest ≡ r → (r >>= λ v. ended (j, v.0) v.1) ≡ Ok x → TailFacts d w ids os n x
    by_value j i rest lt st (Ok v) h k = by_end j i rest lt st v.0 v.1 h k
    by_value j i rest lt st (Err m) h k = absurd (let bad : Err m ≡ Ok x = k in cc)

    by_argument : (j : ℕ) (rest : List ℕ) → j < n → (m : Option ℕ) → root_of d w ids os j ≡ m → (field bytes (with_argument j rest m) >>= λ root. value_at d f ids n root.0.1 root.1 >>= λ v. ended (root.0.0, v.0) v.1) ≡ Ok x → TailFacts d w ids os n x
    by_argument j rest lt None is k = absurd (let bad : Err (length bytes) ≡ Ok x = k in cc)
    by_argument j rest lt (Some i) is k = by_value j i rest lt (rooted_stands (label_stands d w (label_in (slice_get os j))) (argument_of (line_at d (slice_get ids j))) i is) (value_at d f ids n i rest) refl k

    by_root : (m : Option (ℕ × List ℕ)) → older f n bytes ≡ m → (field bytes (as_root d w ids os m) >>= λ root. value_at d f ids n root.0.1 root.1 >>= λ v. ended (root.0.0, v.0) v.1) ≡ Ok x → TailFacts d w ids os n x
    by_root None h k = absurd (let bad : Err (length bytes) ≡ Ok x = k in cc)
    by_root (Some y) h k = by_argument y.0 y.1 (older_below f n bytes y h) (root_of d w ids os y.0) refl k

pub tail_ended : (d : Dictionaries) (w : World) (f : Format) (n : ℕ) (ids : List ℕ) (os : List Object) (bytes : List ℕ) (j i : ℕ) (rest : List ℕ) (v : Value) (end : List ℕ) → as_root d w ids os (older f n bytes) ≡ Some ((j, i), rest) → value_at d f ids n i rest ≡ Ok (v, end) → true ≡ eqb (length end) 0 → tail_at d w f n ids os bytes ≡ Ok (j, v)
tail_ended d w f n ids os bytes j i rest v [] e h none = tail_value d w f n ids os bytes j i rest v [] e h
tail_ended d w f n ids os bytes j i rest v (b ∷ end) e h none = let zero_long : length (b ∷ end) ≡ 0 = eqb-true (length (b ∷ end)) 0 (sym none) in absurd (omega arith)

pub tail_more : (d : Dictionaries) (w : World) (f : Format) (n : ℕ) (ids : List ℕ) (os : List Object) (bytes : List ℕ) (j i : ℕ) (rest : List ℕ) (v : Value) (end : List ℕ) → as_root d w ids os (older f n bytes) ≡ Some ((j, i), rest) → value_at d f ids n i rest ≡ Ok (v, end) → false ≡ eqb (length end) 0 → tail_at d w f n ids os bytes ≡ Err (length end)
tail_more d w f n ids os bytes j i rest v [] e h some = absurd (let wrong : false ≡ true = some in cc)
tail_more d w f n ids os bytes j i rest v (b ∷ end) e h some = tail_value d w f n ids os bytes j i rest v (b ∷ end) e h
