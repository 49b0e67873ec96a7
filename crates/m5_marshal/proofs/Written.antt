-- What is written of an object, field by field, and of all objects one after the other.
use Rattle.std.proofs.Common.{◌≡◌, ℕ, zero, suc, ◌+◌, List, [], ◌∷◌, ◌++◌, length, map, take, drop, Option, Some, None, slice_get, refl, sym, ap, subst, ◌∙◌, append_assoc, append-nil, arith}
use Rattle.std.specs.Int.{w32, to_be_bytes}
use Rattle.std.proofs.lemmas.List.{drop_at}
use Rattle.m5_region.specs.declared.value.Value.{Value}
use Rattle.m5_region.specs.Region.{Object, ArrayOf}
use Rattle.m5_dictionary.specs.declared.line.TypeLine.{TypeLine}
use Rattle.m5_dictionary.specs.declared.line.TypeLine.TheVariants as lines
use Rattle.m5_dictionary.specs.Dictionaries.{Dictionaries}
use Rattle.m5_message.specs.Reading.{Opening, Whole, Parts, is_object_line}
use Rattle.m5_message.specs.Spelling.{short_of, values_bytes, opening_bytes, opening_in, fields_behind, closing_bytes, opened_bytes, content_bytes, contents_bytes, ids_bytes, IsOf, AreOf}
use Rattle.m5_message.specs.Packing.{Reached, IsFit, value_reaches, values_reach, opened_reaches, object_reaches, reaches, sent_values, sent_opened, sent_object, sent}
use Rattle.m5_message.proofs.Marks.{all_left, all_right}
use Rattle.m5_message.proofs.Packs.{opening_kept}
use Rattle.m5_marshal.specs.declared.key.Key.{Key}
use Rattle.m5_marshal.specs.declared.opening.Opened.{Opened}
use Rattle.m5_marshal.specs.declared.opening.Opened.TheVariants as kept
use Rattle.m5_marshal.specs.code.Opened.{others_of}
use Rattle.m5_marshal.specs.code.Keys.{reached, id_of, OpensAs, AllHas, IsSent, AreSent, PartsSent, sent_bytes, fields_bytes, parts_bytes, values_behind}
use Rattle.m5_marshal.proofs.Fields.{fit_closes}

some_is : {A : Type 0} (x y : A) → Some x ≡ Some y → x ≡ y
some_is x y e = cc

-- ---- fields

pub sent_there : (d : Dictionaries) (ps : List Reached) (ids : List ℕ) (vs : List Value) (place id : ℕ) (v : Value) → AreSent d ps ids vs → slice_get ids place ≡ Some id → slice_get vs place ≡ Some v → IsSent d ps id v
unfolding AreOf values_reach
sent_there d ps [] vs place id v h a b = absurd (let none : None ≡ Some id = a in cc)
sent_there d ps (i ∷ ids) [] place id v h a b = absurd (let none : None ≡ Some v = b in cc)
sent_there d ps (i ∷ ids) (x ∷ vs) zero id v h a b =
    let one : IsSent d ps i x = (h.0.0, all_left _ (value_reaches (is_object_line (slice_get d.types i)) i x) (values_reach d ids vs) h.1) in
    subst (λ (y : Value). IsSent d ps id y) (some_is x v b) (subst (λ (y : ℕ). IsSent d ps y x) (some_is i id a) one)
sent_there d ps (i ∷ ids) (x ∷ vs) (suc place) id v h a b =
    sent_there d ps ids vs place id v (h.0.1, all_right _ (value_reaches (is_object_line (slice_get d.types i)) i x) (values_reach d ids vs) h.1) a b

pub fields_none : (d : Dictionaries) (ps : List Reached) (own : ℕ) (ids : List ℕ) (vs : List Value) (out : List ℕ) → out ≡ out ++ fields_bytes d ps own (take 0 ids) vs
unfolding values_bytes sent_values
fields_none d ps own ids vs out = sym (append-nil out)

pub fields_next : (d : Dictionaries) (ps : List Reached) (own : ℕ) (ids : List ℕ) (vs : List Value) (place id : ℕ) (v : Value) → slice_get ids place ≡ Some id → slice_get vs place ≡ Some v → fields_bytes d ps own (take (suc place) ids) vs ≡ fields_bytes d ps own (take place ids) vs ++ sent_bytes d ps own id v
unfolding values_bytes sent_values
fields_next d ps own [] vs place id v a b = absurd (let none : None ≡ Some id = a in cc)
fields_next d ps own (i ∷ ids) [] place id v a b = absurd (let none : None ≡ Some v = b in cc)
fields_next d ps own (i ∷ ids) (x ∷ vs) zero id v a b =
    let is : i ≡ id = some_is i id a in
    let same : x ≡ v = some_is x v b in
    rw (is, same) (append-nil (sent_bytes d ps own id v))
fields_next d ps own (i ∷ ids) (x ∷ vs) (suc place) id v a b =
    ap (λ (r : List ℕ). sent_bytes d ps own i x ++ r) (fields_next d ps own ids vs place id v a b)
    ∙ sym (append_assoc (sent_bytes d ps own i x) (fields_bytes d ps own (take place ids) vs) (sent_bytes d ps own id v))

-- ---- an object

pub plain_of : (d : Dictionaries) (R : ℕ → ℕ → Type 0) (id : ℕ) (line : Option TypeLine) (v : Value) → IsOf R id line v → IsOf (λ i j. Unit {0}) id line v
plain_of d R id None v h = h
plain_of d R id (Some lines.Unit) v h = h
plain_of d R id (Some lines.Bool) v h = h
plain_of d R id (Some lines.Int) v h = h
plain_of d R id (Some lines.Cell) v h = h
plain_of d R id (Some (lines.Addr w)) v h = h
plain_of d R id (Some lines.Text) v h = (h.0, tt, h.2)
plain_of d R id (Some (lines.Pair i j)) v h = (h.0, tt, h.2)
plain_of d R id (Some (lines.Sum i j)) v h = (h.0, tt, h.2)
plain_of d R id (Some (lines.List i)) v h = (h.0, tt, h.2)
plain_of d R id (Some (lines.Fun i)) v h = (h.0, tt, h.2)

plain_all : (d : Dictionaries) (R : ℕ → ℕ → Type 0) (ids : List ℕ) (vs : List Value) → AreOf d R ids vs → AreOf d (λ i j. Unit {0}) ids vs
unfolding AreOf
plain_all d R [] [] h = tt
plain_all d R [] (v ∷ vs) h = absurd h
plain_all d R (id ∷ ids) [] h = absurd h
plain_all d R (id ∷ ids) (v ∷ vs) h = (plain_of d R id (slice_get d.types id) v h.0, plain_all d R ids vs h.1)

-- what stands behind the first fields
behind : (os : List Object) (at : ℕ) (o : Object) (first vs : List Value) (n : ℕ) → slice_get os at ≡ Some o → o ≡ ArrayOf (first ++ vs) → n ≡ length first → values_behind os at n ≡ vs
behind os at o first vs n is array e = rw (is, array) (drop_at first vs n (sym e))

reaches_opened : (d : Dictionaries) (os : List Object) (k : Reached) (o : Object) (p : Opening) → slice_get os k.at ≡ Some o → opening_in d k.id (slice_get d.types k.id) o ≡ Some p → reaches d os k ≡ opened_reaches d (Some p) o
reaches_opened d os k o p is e = ap (object_reaches d k.id) is ∙ ap (λ (x : Option Opening). opened_reaches d x o) e

array_sent : (d : Dictionaries) (os : List Object) (ps : List Reached) (k : Reached) (o : Object) (first : List Value) (others : List ℕ) (n : ℕ) → n ≡ length first → slice_get os k.at ≡ Some o → IsFit d os k (slice_get os k.at) → opening_in d k.id (slice_get d.types k.id) o ≡ Some (Parts first others) → AllHas ps (reaches d os k) → AreSent d ps others (values_behind os k.at n)
array_sent d os ps k o first others n count is fit e h =
    let c = fit_closes d os k o (Parts first others) is fit e in
    let vs : values_behind os k.at n ≡ c.0 = behind os k.at o first c.0 n is c.1 count in
    let fields : fields_behind first o ≡ c.0 = ap (fields_behind first) c.1 ∙ drop_at first c.0 (length first) refl in
    let has : AllHas ps (values_reach d others c.0) = subst (AllHas ps) (reaches_opened d os k o (Parts first others) is e ∙ ap (values_reach d others) fields) h in
    subst (AreSent d ps others) (sym vs) (plain_all d _ others c.0 c.2, has)

pub parts_sent : (d : Dictionaries) (os : List Object) (ps : List Reached) (k : Key) (r : Opened) → IsFit d os (reached k) (slice_get os k.at) → OpensAs d os k r → AllHas ps (reaches d os (reached k)) → PartsSent d ps os k.at r
parts_sent d os ps k (kept.Whole bytes) fit o h = tt
parts_sent d os ps k (kept.Pair others) fit o h = array_sent d os ps (reached k) o.0 [] (others_of others) 0 refl o.1 fit o.2 h
parts_sent d os ps k (kept.Parts first others) fit o h = array_sent d os ps (reached k) o.0 (first ∷ []) (others_of others) 1 refl o.1 fit o.2 h

-- ---- the first fields of an object stay as it is sent

sent_is : (d : Dictionaries) (os : List Object) (ps : List Reached) (own : ℕ) (k : Reached) (o : Object) (p : Opening) → slice_get os k.at ≡ Some o → opening_in d k.id (slice_get d.types k.id) o ≡ Some p → content_bytes d own k.id (sent d os ps k) ≡ opening_bytes p ++ closing_bytes d own p (sent_opened d ps (Some p) o)
sent_is d os ps own k o p is e =
    let object : sent d os ps k ≡ sent_opened d ps (Some p) o = ap (sent_object d ps k.id) is ∙ ap (λ (x : Option Opening). sent_opened d ps x o) e in
    ap (content_bytes d own k.id) object
    ∙ ap (opened_bytes d own (sent_opened d ps (Some p) o)) (opening_kept d ps k.id (slice_get d.types k.id) o p e)

array_is : (d : Dictionaries) (os : List Object) (ps : List Reached) (own : ℕ) (k : Reached) (o : Object) (first : List Value) (others : List ℕ) (n : ℕ) → n ≡ length first → slice_get os k.at ≡ Some o → IsFit d os k (slice_get os k.at) → opening_in d k.id (slice_get d.types k.id) o ≡ Some (Parts first others) → content_bytes d own k.id (sent d os ps k) ≡ opening_bytes (Parts first others) ++ fields_bytes d ps own others (values_behind os k.at n)
array_is d os ps own k o first others n count is fit e =
    let c = fit_closes d os k o (Parts first others) is fit e in
    let vs : values_behind os k.at n ≡ c.0 = behind os k.at o first c.0 n is c.1 count in
    let fields : fields_behind first o ≡ c.0 = ap (fields_behind first) c.1 ∙ drop_at first c.0 (length first) refl in
    sent_is d os ps own k o (Parts first others) is e
    ∙ ap (λ (x : List Value). opening_bytes (Parts first others) ++ values_bytes d own others (drop (length first) (first ++ sent_values d ps others x))) fields
    ∙ ap (λ (x : List Value). opening_bytes (Parts first others) ++ values_bytes d own others x) (drop_at first (sent_values d ps others c.0) (length first) refl)
    ∙ ap (λ (x : List Value). opening_bytes (Parts first others) ++ fields_bytes d ps own others x) (sym vs)

pub content_is : (d : Dictionaries) (os : List Object) (ps : List Reached) (own : ℕ) (k : Key) (r : Opened) → IsFit d os (reached k) (slice_get os k.at) → OpensAs d os k r → content_bytes d own k.id (sent d os ps (reached k)) ≡ parts_bytes d ps os k.at own r
content_is d os ps own k (kept.Whole bytes) fit o = sent_is d os ps own (reached k) o.0 (Whole bytes.now) o.1 o.2 ∙ append-nil (short_of (length bytes.now) ++ bytes.now)
content_is d os ps own k (kept.Pair others) fit o = array_is d os ps own (reached k) o.0 [] (others_of others) 0 refl o.1 fit o.2
content_is d os ps own k (kept.Parts first others) fit o = array_is d os ps own (reached k) o.0 (first ∷ []) (others_of others) 1 refl o.1 fit o.2

-- ---- all objects

pub contents_end : (d : Dictionaries) (f : Reached → Object) (n m : ℕ) (a : List Reached) (x : Reached) → m ≡ n + length a → contents_bytes d n (map id_of (a ++ x ∷ [])) (map f (a ++ x ∷ [])) ≡ contents_bytes d n (map id_of a) (map f a) ++ content_bytes d m x.id (f x)
unfolding contents_bytes
contents_end d f n m [] x e = append-nil (content_bytes d n x.id (f x)) ∙ ap (λ (k : ℕ). content_bytes d k x.id (f x)) (let same : n ≡ m = omega (arith, e) in same)
contents_end d f n m (y ∷ a) x e =
    ap (λ (r : List ℕ). content_bytes d n y.id (f y) ++ r) (contents_end d f (suc n) m a x (omega (arith, e)))
    ∙ sym (append_assoc (content_bytes d n y.id (f y)) (contents_bytes d (suc n) (map id_of a) (map f a)) (content_bytes d m x.id (f x)))

pub contents_none : (d : Dictionaries) (f : Reached → Object) (ps : List Reached) (out : List ℕ) → out ≡ out ++ contents_bytes d 0 (map id_of (take 0 ps)) (map f (take 0 ps))
unfolding contents_bytes
contents_none d f ps out = sym (append-nil out)

pub ids_end : (a : List Reached) (x : Reached) → ids_bytes (map id_of (a ++ x ∷ [])) ≡ ids_bytes (map id_of a) ++ to_be_bytes w32 x.id
ids_end [] x = append-nil (to_be_bytes w32 x.id)
ids_end (y ∷ a) x = ap (λ (r : List ℕ). to_be_bytes w32 y.id ++ r) (ids_end a x) ∙ sym (append_assoc (to_be_bytes w32 y.id) (ids_bytes (map id_of a)) (to_be_bytes w32 x.id))
