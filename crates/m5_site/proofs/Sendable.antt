-- A thread has bytes exactly where the test says so.
use Rattle.std.proofs.Common.{◌≡◌, ℕ, zero, suc, ◌+◌, ◌^◌, ◌<◌, ◌↔◌, Bool, true, false, ◌||◌, cond, nat_lt, List, [], ◌∷◌, ◌++◌, length, Option, Some, None, is_some, IsTrue, slice_get, refl, sym, ap, subst, ◌∙◌, arith, ℤ, pos, negsuc, FitsSigned}
use Rattle.std.proofs.lemmas.Bool.{ltb-true, eqb-true, lt-ltb, eq-eqb, and_parts, and_from}
use Rattle.std.proofs.lemmas.Option.{slice_get_within}
use Rattle.std.proofs.lemmas.List.{drop_at}
use Rattle.std.specs.List.{list_all}
use Rattle.std.specs.Int.{w64}
use Rattle.m5_terms.specs.declared.types.World.{World}
use Rattle.m5_terms.specs.declared.types.World.TheVariants.{Any}
use Rattle.m5_terms.specs.TypeExpression.{same_world}
use Rattle.m5_region.specs.declared.value.Ref.{Ref}
use Rattle.m5_region.specs.declared.value.Value.{Value}
use Rattle.m5_region.specs.declared.value.Value.TheVariants as values
use Rattle.m5_region.specs.declared.queue.Ready.{Ready}
use Rattle.m5_region.specs.Region.{Object, ArrayOf}
use Rattle.m5_machine.specs.Operand.{with_one, bool_in, int_in, text_in, array_in}
use Rattle.m5_dictionary.specs.declared.line.TypeLine.{TypeLine}
use Rattle.m5_dictionary.specs.declared.line.TypeLine.TheVariants as lines
use Rattle.m5_dictionary.specs.Dictionaries.{Dictionaries, Entrance, IsDictionaries, code_of_world}
use Rattle.m5_message.specs.Reading.{Opening, Whole, Parts}
use Rattle.m5_message.specs.Message.{label_in, label_stands, stands_there}
use Rattle.m5_terms.specs.Seal.{seal_bytes}
use Rattle.m5_site.specs.Object.{Bundle}
use Rattle.m5_site.specs.Site.{sent_bytes}
use Rattle.m5_marshal.specs.Pack.{IsThread, HasBytes, Packs}
use Rattle.m5_terms.proofs.SiteWorlds.{same-self}
use Rattle.m5_marshal.proofs.Fitting.{Shape, shape}
use Rattle.m5_marshal.proofs.Sendings.{entered_there, argument_is}
use Rattle.m5_message.specs.Spelling.{IsOf, AreOf, Closes, opening_in, fields_behind}
use Rattle.m5_message.specs.Packing.{Reached, Sending, IsFit, AreFit, IsSendable, sent_from}
use Rattle.m5_site.specs.Sending.{is_function_of, function_from, entrance_at, sending_by, sending_of, is_sendable, if_sendable, sendable_of, has_bytes, world_in, stands_where, is_null, is_wide, is_number_below, is_number, is_before, is_of, are_of, is_closed, is_object_of, is_fit}

-- a reference to an object of a smaller number, of a type that is there
abbrev pub Within : Dictionaries → ℕ → ℕ → ℕ → Type 0
Within d own id j = (j < own) × (id < length d.types)

-- ---- from the test

text_before : (own : ℕ) (v : Value) → is_before own (text_in (Some v)) ≡ true → (j : ℕ) × (j < own) × (v ≡ values.Text (record { 0 = j }))
text_before own values.Null h = absurd (let wrong : false ≡ true = h in cc)
text_before own (values.Bool b) h = absurd (let wrong : false ≡ true = h in cc)
text_before own (values.Int n) h = absurd (let wrong : false ≡ true = h in cc)
text_before own (values.Text r) h = (r.0, ltb-true r.0 own h, refl)
text_before own (values.Array r) h = absurd (let wrong : false ≡ true = h in cc)

array_before : (own : ℕ) (v : Value) → is_before own (array_in (Some v)) ≡ true → (j : ℕ) × (j < own) × (v ≡ values.Array (record { 0 = j }))
array_before own values.Null h = absurd (let wrong : false ≡ true = h in cc)
array_before own (values.Bool b) h = absurd (let wrong : false ≡ true = h in cc)
array_before own (values.Int n) h = absurd (let wrong : false ≡ true = h in cc)
array_before own (values.Text r) h = absurd (let wrong : false ≡ true = h in cc)
array_before own (values.Array r) h = (r.0, ltb-true r.0 own h, refl)

null_is : (v : Value) → is_null v ≡ true → v ≡ values.Null
null_is values.Null h = refl
null_is (values.Bool b) h = absurd (let wrong : false ≡ true = h in cc)
null_is (values.Int n) h = absurd (let wrong : false ≡ true = h in cc)
null_is (values.Text r) h = absurd (let wrong : false ≡ true = h in cc)
null_is (values.Array r) h = absurd (let wrong : false ≡ true = h in cc)

bool_is : (v : Value) → is_some (bool_in (Some v)) ≡ true → (b : Bool) × (v ≡ values.Bool b)
bool_is values.Null h = absurd (let wrong : false ≡ true = h in cc)
bool_is (values.Bool b) h = (b, refl)
bool_is (values.Int n) h = absurd (let wrong : false ≡ true = h in cc)
bool_is (values.Text r) h = absurd (let wrong : false ≡ true = h in cc)
bool_is (values.Array r) h = absurd (let wrong : false ≡ true = h in cc)

int_is : (v : Value) → is_wide (int_in (Some v)) ≡ true → (n : ℤ) × FitsSigned w64 n × (v ≡ values.Int n)
int_is values.Null h = absurd (let wrong : false ≡ true = h in cc)
int_is (values.Bool b) h = absurd (let wrong : false ≡ true = h in cc)
int_is (values.Int (pos n)) h = (pos n, (let l : n < 2 ^ 63 = ltb-true n (2 ^ 63) h in omega (arith, l)), refl)
int_is (values.Int (negsuc n)) h = (negsuc n, (let l : n < 2 ^ 63 = ltb-true n (2 ^ 63) h in omega (arith, l)), refl)
int_is (values.Text r) h = absurd (let wrong : false ≡ true = h in cc)
int_is (values.Array r) h = absurd (let wrong : false ≡ true = h in cc)

place_is : (most : ℕ) (v : Value) → is_number_below most (int_in (Some v)) ≡ true → (n : ℕ) × (n < most) × (v ≡ values.Int (pos n))
place_is most values.Null h = absurd (let wrong : false ≡ true = h in cc)
place_is most (values.Bool b) h = absurd (let wrong : false ≡ true = h in cc)
place_is most (values.Int (pos n)) h = (n, ltb-true n most h, refl)
place_is most (values.Int (negsuc n)) h = absurd (let wrong : false ≡ true = h in cc)
place_is most (values.Text r) h = absurd (let wrong : false ≡ true = h in cc)
place_is most (values.Array r) h = absurd (let wrong : false ≡ true = h in cc)

number_is : (m : ℕ) (v : Value) → is_number m (int_in (Some v)) ≡ true → v ≡ values.Int (pos m)
number_is m values.Null h = absurd (let wrong : false ≡ true = h in cc)
number_is m (values.Bool b) h = absurd (let wrong : false ≡ true = h in cc)
number_is m (values.Int (pos n)) h = ap (λ (k : ℕ). values.Int (pos k)) (eqb-true n m h)
number_is m (values.Int (negsuc n)) h = absurd (let wrong : false ≡ true = h in cc)
number_is m (values.Text r) h = absurd (let wrong : false ≡ true = h in cc)
number_is m (values.Array r) h = absurd (let wrong : false ≡ true = h in cc)

of_line : (own types id : ℕ) (line : Option TypeLine) (v : Value) → id < types → is_of own line v ≡ true → IsOf (λ i j. (j < own) × (i < types)) id line v
of_line own types id None v l h = absurd (let wrong : false ≡ true = h in cc)
of_line own types id (Some lines.Unit) v l h = null_is v h
of_line own types id (Some lines.Bool) v l h = bool_is v h
of_line own types id (Some lines.Int) v l h = int_is v h
of_line own types id (Some lines.Cell) v l h = place_is 4096 v h
of_line own types id (Some (lines.Addr w)) v l h = number_is (code_of_world w) v h
of_line own types id (Some lines.Text) v l h = let t = text_before own v h in (t.0, (t.1, l), t.2)
of_line own types id (Some (lines.Pair a b)) v l h = let t = array_before own v h in (t.0, (t.1, l), t.2)
of_line own types id (Some (lines.Sum a b)) v l h = let t = array_before own v h in (t.0, (t.1, l), t.2)
of_line own types id (Some (lines.List a)) v l h = let t = array_before own v h in (t.0, (t.1, l), t.2)
of_line own types id (Some (lines.Fun a)) v l h = let t = array_before own v h in (t.0, (t.1, l), t.2)

there_is : (own id : ℕ) (m : Option TypeLine) (v : Value) → is_of own m v ≡ true → (line : TypeLine) × (m ≡ Some line)
there_is own id None v h = absurd (let wrong : false ≡ true = h in cc)
there_is own id (Some line) v h = (line, refl)

of_type : (d : Dictionaries) (own id : ℕ) (v : Value) → is_of own (slice_get d.types id) v ≡ true → IsOf (Within d own) id (slice_get d.types id) v
of_type d own id v h =
    let line = there_is own id (slice_get d.types id) v h in
    of_line own (length d.types) id (slice_get d.types id) v (slice_get_within d.types id line.0 line.1) h

values_of : (d : Dictionaries) (own : ℕ) (ids : List ℕ) (vs : List Value) → are_of d own ids vs ≡ true → AreOf d (Within d own) ids vs
unfolding are_of AreOf
values_of d own [] [] h = tt
values_of d own [] (v ∷ vs) h = absurd (let wrong : false ≡ true = h in cc)
values_of d own (id ∷ ids) [] h = absurd (let wrong : false ≡ true = h in cc)
values_of d own (id ∷ ids) (v ∷ vs) h =
    let both = and_parts _ _ h in
    (of_type d own id v both.0, values_of d own ids vs both.1)

behind_first : (first vs : List Value) (o : Object) → o ≡ ArrayOf (first ++ vs) → fields_behind first o ≡ vs
behind_first first vs o e = ap (fields_behind first) e ∙ drop_at first vs (length first) refl

closes : (d : Dictionaries) (own : ℕ) (p : Opening) (o : Object) → Shape p o → is_closed d own (Some p) o ≡ true → Closes d (Within d own) p o
closes d own (Whole bytes) o s h = let both = and_parts _ _ h in (s, ltb-true (length bytes) (2 ^ 32) both.0, both.1)
closes d own (Parts first ids) o s h = (s.0, s.1, subst (AreOf d (Within d own) ids) (behind_first first s.0 o s.1) (values_of d own ids (fields_behind first o) h))

fit_of : (d : Dictionaries) (os : List Object) (p : Reached) → is_fit d os p ≡ true → IsFit d os p (slice_get os p.at)
fit_of d os p h = by_object (slice_get os p.at) h
  where
    by_opening : (o : Object) (q : Option Opening) → opening_in d p.id (slice_get d.types p.id) o ≡ q → is_closed d p.at q o ≡ true → IsFit d os p (Some o)
    by_opening o None e k = absurd (let wrong : false ≡ true = k in cc)
    by_opening o (Some x) e k = (x, e, closes d p.at x o (shape d p.id (slice_get d.types p.id) o x e) k)

    by_object : (m : Option Object) → is_object_of d p m ≡ true → IsFit d os p m
    by_object None k = absurd (let wrong : false ≡ true = k in cc)
    by_object (Some o) k = by_opening o (opening_in d p.id (slice_get d.types p.id) o) refl k

all_fit : (d : Dictionaries) (os : List Object) (ps : List Reached) → list_all (is_fit d os) ps ≡ true → AreFit d os ps
all_fit d os [] h = tt
all_fit d os (p ∷ ps) h = let both = and_parts _ _ h in (fit_of d os p both.0, all_fit d os ps both.1)

-- ---- to the test

before : (own j : ℕ) → j < own → nat_lt j own ≡ true
before own j l = lt-ltb j own l

line_back : (own types id : ℕ) (line : Option TypeLine) (v : Value) → IsOf (λ i j. (j < own) × (i < types)) id line v → is_of own line v ≡ true
line_back own types id None v h = absurd h
line_back own types id (Some lines.Unit) v h = rw h refl
line_back own types id (Some lines.Bool) v h = rw h.1 refl
line_back own types id (Some lines.Int) v h = subst (λ (x : Value). is_wide (int_in (Some x)) ≡ true) (sym h.2) (wide h.0 h.1)
  where
    wide : (n : ℤ) → FitsSigned w64 n → is_wide (Some n) ≡ true
    wide (pos n) k = lt-ltb n (2 ^ 63) (omega (arith, k))
    wide (negsuc n) k = lt-ltb n (2 ^ 63) (omega (arith, k))
line_back own types id (Some lines.Cell) v h = subst (λ (x : Value). is_number_below 4096 (int_in (Some x)) ≡ true) (sym h.2) (lt-ltb h.0 4096 h.1)
line_back own types id (Some (lines.Addr w)) v h = subst (λ (x : Value). is_number (code_of_world w) (int_in (Some x)) ≡ true) (sym h) (eq-eqb (code_of_world w) (code_of_world w) refl)
line_back own types id (Some lines.Text) v h = subst (λ (x : Value). is_before own (text_in (Some x)) ≡ true) (sym h.2) (before own h.0 h.1.0)
line_back own types id (Some (lines.Pair a b)) v h = subst (λ (x : Value). is_before own (array_in (Some x)) ≡ true) (sym h.2) (before own h.0 h.1.0)
line_back own types id (Some (lines.Sum a b)) v h = subst (λ (x : Value). is_before own (array_in (Some x)) ≡ true) (sym h.2) (before own h.0 h.1.0)
line_back own types id (Some (lines.List a)) v h = subst (λ (x : Value). is_before own (array_in (Some x)) ≡ true) (sym h.2) (before own h.0 h.1.0)
line_back own types id (Some (lines.Fun a)) v h = subst (λ (x : Value). is_before own (array_in (Some x)) ≡ true) (sym h.2) (before own h.0 h.1.0)

values_back : (d : Dictionaries) (own : ℕ) (ids : List ℕ) (vs : List Value) → AreOf d (Within d own) ids vs → are_of d own ids vs ≡ true
unfolding are_of AreOf
values_back d own [] [] h = refl
values_back d own [] (v ∷ vs) h = absurd h
values_back d own (id ∷ ids) [] h = absurd h
values_back d own (id ∷ ids) (v ∷ vs) h = and_from _ _ (line_back own (length d.types) id (slice_get d.types id) v h.0) (values_back d own ids vs h.1)

closed_back : (d : Dictionaries) (own : ℕ) (p : Opening) (o : Object) → Closes d (Within d own) p o → is_closed d own (Some p) o ≡ true
closed_back d own (Whole bytes) o h = and_from _ _ (lt-ltb (length bytes) (2 ^ 32) h.1) h.2
closed_back d own (Parts first ids) o h = values_back d own ids (fields_behind first o) (subst (AreOf d (Within d own) ids) (sym (behind_first first h.0 o h.1)) h.2)

fit_back : (d : Dictionaries) (os : List Object) (p : Reached) → IsFit d os p (slice_get os p.at) → is_fit d os p ≡ true
fit_back d os p h = by_object (slice_get os p.at) h
  where
    by_object : (m : Option Object) → IsFit d os p m → is_object_of d p m ≡ true
    by_object None k = absurd k
    by_object (Some o) k = subst (λ (q : Option Opening). is_closed d p.at q o ≡ true) (sym k.1) (closed_back d p.at k.0 o k.2)

all_fit_back : (d : Dictionaries) (os : List Object) (ps : List Reached) → AreFit d os ps → list_all (is_fit d os) ps ≡ true
all_fit_back d os [] h = refl
all_fit_back d os (p ∷ ps) h = and_from _ _ (fit_back d os p h.0) (all_fit_back d os ps h.1)

-- ---- the closure's type

fun_is : (i : ℕ) (line : TypeLine) → is_function_of i line ≡ true → line ≡ lines.Fun i
fun_is i (lines.Fun j) h = ap lines.Fun (eqb-true j i h)
fun_is i line h = absurd (let wrong : false ≡ true = h in cc)

some_is : {A : Type 0} (x y : A) → Some x ≡ Some y → x ≡ y
some_is x y e = cc

function_right : (i n : ℕ) (ts : List TypeLine) (id : ℕ) → function_from i n ts ≡ Some id → (k : ℕ) × (id ≡ n + k) × (slice_get ts k ≡ Some (lines.Fun i))
unfolding function_from
function_right i n [] id h = absurd (let none : None ≡ Some id = h in cc)
function_right i n (line ∷ ts) id h = by_test (is_function_of i line) refl h (λ (k : function_from i (suc n) ts ≡ Some id). function_right i (suc n) ts id k)
  where
    by_test : (b : Bool) → is_function_of i line ≡ b → cond b (Some n) (function_from i (suc n) ts) ≡ Some id → (function_from i (suc n) ts ≡ Some id → (k : ℕ) × (id ≡ suc n + k) × (slice_get ts k ≡ Some (lines.Fun i))) → (k : ℕ) × (id ≡ n + k) × (slice_get (line ∷ ts) k ≡ Some (lines.Fun i))
    by_test true e k more = let is : n ≡ id = some_is n id k in (0, omega (arith, is), ap Some (fun_is i line e))
    by_test false e k more = let r = more k in (suc r.0, omega (arith, r.1), r.2)

function_there : (i n : ℕ) (ts : List TypeLine) (k : ℕ) → slice_get ts k ≡ Some (lines.Fun i) → (id : ℕ) × (function_from i n ts ≡ Some id)
unfolding function_from
function_there i n [] k h = absurd (let none : None ≡ Some (lines.Fun i) = h in cc)
function_there i n (line ∷ ts) zero h =
    let is : line ≡ lines.Fun i = some_is line (lines.Fun i) h in
    (n, ap (λ (x : TypeLine). cond (is_function_of i x) (Some n) (function_from i (suc n) ts)) is ∙ ap (λ (b : Bool). cond b (Some n) (function_from i (suc n) ts)) (eq-eqb i i refl))
function_there i n (line ∷ ts) (suc k) h = by_test (is_function_of i line) (function_there i (suc n) ts k h)
  where
    by_test : (b : Bool) → ((id : ℕ) × (function_from i (suc n) ts ≡ Some id)) → (id : ℕ) × (cond b (Some n) (function_from i (suc n) ts) ≡ Some id)
    by_test true more = (n, refl)
    by_test false more = more

-- ---- the thread

one_is : {A B : Type 0} (m : Option A) (f : A → Option B) (y : B) → with_one m f ≡ Some y → (x : A) × (m ≡ Some x) × (f x ≡ Some y)
one_is None f y h = absurd (let none : None ≡ Some y = h in cc)
one_is (Some x) f y h = (x, refl, h)

array_is : (v : Value) (r : Ref) → array_in (Some v) ≡ Some r → v ≡ values.Array r
array_is values.Null r h = absurd (let none : None ≡ Some r = h in cc)
array_is (values.Bool b) r h = absurd (let none : None ≡ Some r = h in cc)
array_is (values.Int n) r h = absurd (let none : None ≡ Some r = h in cc)
array_is (values.Text at) r h = absurd (let none : None ≡ Some r = h in cc)
array_is (values.Array at) r h = ap values.Array (some_is at r h)

labelled_there : (os : List Object) (at l : ℕ) → label_in (slice_get os at) ≡ Some l → at < length os
labelled_there os at l h = by_object (slice_get os at) refl h
  where
    by_object : (m : Option Object) → slice_get os at ≡ m → label_in m ≡ Some l → at < length os
    by_object None e k = absurd (let none : None ≡ Some l = k in cc)
    by_object (Some o) e k = slice_get_within os at o e

or_right : (a b : Bool) → b ≡ true → (a || b) ≡ true
or_right true b h = refl
or_right false b h = h

if_is : (d : Dictionaries) (os : List Object) (s t : Sending) → if_sendable d os s ≡ Some t → (is_sendable d os s ≡ true) × (s ≡ t)
if_is d os s t h = by_test (is_sendable d os s) refl h
  where
    by_test : (b : Bool) → is_sendable d os s ≡ b → cond b (Some s) None ≡ Some t → (is_sendable d os s ≡ true) × (s ≡ t)
    by_test true e k = (e, some_is s t k)
    by_test false e k = absurd (let none : None ≡ Some t = k in cc)

abbrev sent_as : ℕ → ℕ → Value → ℕ → Sending
sent_as at id argument i = record { code = record { at = at; id = id }; argument = argument; argument_id = i }

-- what the test finds has bytes where its label stands
pub sendable_right : (d : Dictionaries) (os : List Object) (thread : Ready) (t : Sending) → sendable_of d os thread ≡ Some t → IsThread thread t × IsSendable d (stands_where d os t) os t
unfolding sendable_of
sendable_right d os thread t h =
    let a = one_is (sending_of d os thread) (if_sendable d os) t h in
    let b = if_is d os a.0 t a.2 in
    let c = one_is (array_in (Some thread.code)) (λ (r : Ref). with_one (entrance_at d os r.0) (sending_by d r.0 thread.argument)) a.0 a.1 in
    let e = one_is (entrance_at d os c.0.0) (sending_by d c.0.0 thread.argument) a.0 c.2 in
    let l = one_is (label_in (slice_get os c.0.0)) (slice_get d.labels) e.0 e.1 in
    let f = one_is (function_from e.0.argument 0 d.types) (λ (id : ℕ). Some (sent_as c.0.0 id thread.argument e.0.argument)) a.0 e.2 in
    let r = function_right e.0.argument 0 d.types f.0 f.1 in
    let same : sent_as c.0.0 f.0 thread.argument e.0.argument ≡ t = some_is _ _ f.2 ∙ b.1 in
    let passes : is_sendable d os (sent_as c.0.0 f.0 thread.argument e.0.argument) ≡ true = ap (is_sendable d os) (some_is _ _ f.2) ∙ b.0 in
    let parts = and_parts _ _ passes in
    let more = and_parts _ _ parts.1 in
    let id : r.0 ≡ f.0 = omega (arith, r.1) in
    subst (λ (x : Sending). IsThread thread x × IsSendable d (stands_where d os x) os x) same (
      (array_is thread.code c.0 c.1, refl),
      record {
        few = ltb-true _ _ parts.0;
        fit = all_fit d os _ more.0;
        code = labelled_there os c.0.0 l.0 l.1;
        closure = ap (slice_get d.types) (sym id) ∙ r.2;
        stands =
            ap (λ (m : Option Entrance). label_stands d (world_in m) (label_in (slice_get os c.0.0))) e.1
            ∙ ap (label_stands d e.0.world) l.1
            ∙ ap (λ (m : Option Entrance). stands_there m e.0.world) l.2
            ∙ or_right (same_world e.0.world Any) (same_world e.0.world e.0.world) (same-self e.0.world);
        argument = of_type d (length os) e.0.argument thread.argument more.1;
      },
    )

-- what has bytes is found
pub sendable_there : (d : Dictionaries) (w : World) (os : List Object) (thread : Ready) (t : Sending) → IsDictionaries d → IsThread thread t → IsSendable d w os t → sendable_of d os thread ≡ Some t
unfolding sendable_of
sendable_there d w os thread t is th h =
    let en = entered_there d w os t h in
    let i : en.0.argument ≡ t.argument_id = argument_is d w os t en.0 h en.1 in
    let entrance : entrance_at d os t.code.at ≡ Some en.0 = ap (λ (m : Option ℕ). with_one m (slice_get d.labels)) en.1.1 ∙ en.1.2 in
    let f = function_there t.argument_id 0 d.types t.code.id h.closure in
    let r = function_right t.argument_id 0 d.types f.0 f.1 in
    let id : f.0 ≡ t.code.id = (let k : f.0 ≡ r.0 = omega (arith, r.1) in k ∙ is.types.once r.0 t.code.id (lines.Fun t.argument_id) r.2 h.closure) in
    let found : sending_of d os thread ≡ Some t =
    ap (λ (v : Value). with_one (array_in (Some v)) (λ (x : Ref). with_one (entrance_at d os x.0) (sending_by d x.0 thread.argument))) th.0
    ∙ ap (λ (m : Option Entrance). with_one m (sending_by d t.code.at thread.argument)) entrance
    ∙ ap (λ (a : ℕ). with_one (function_from a 0 d.types) (λ (x : ℕ). Some (sent_as t.code.at x thread.argument a))) i
    ∙ ap (λ (m : Option ℕ). with_one m (λ (x : ℕ). Some (sent_as t.code.at x thread.argument t.argument_id))) (f.1 ∙ ap Some id)
    ∙ ap (λ (v : Value). Some (sent_as t.code.at t.code.id v t.argument_id)) th.1 in
    let passes : is_sendable d os t ≡ true =
    and_from _ _ (lt-ltb (length (sent_from d os t)) (2 ^ 32) h.few) (and_from _ _ (all_fit_back d os (sent_from d os t) h.fit)
    (line_back (length os) (length d.types) t.argument_id (slice_get d.types t.argument_id) t.argument h.argument)) in
    ap (λ (m : Option Sending). with_one m (if_sendable d os)) found ∙ ap (λ (b : Bool). cond b (Some t) None) passes

some_there : {A : Type 0} (m : Option A) → is_some m ≡ true → (x : A) × (m ≡ Some x)
some_there None h = absurd (let wrong : false ≡ true = h in cc)
some_there (Some x) h = (x, refl)

pub bytes_right : (d : Dictionaries) (os : List Object) (thread : Ready) → has_bytes d os thread ≡ true → HasBytes d os thread
bytes_right d os thread h =
    let t = some_there (sendable_of d os thread) h in
    let r = sendable_right d os thread t.0 t.1 in
    (stands_where d os t.0, t.0, r.0, r.1)

pub bytes_there : (d : Dictionaries) (os : List Object) (thread : Ready) → IsDictionaries d → HasBytes d os thread → has_bytes d os thread ≡ true
bytes_there d os thread is h = ap is_some (sendable_there d h.0 os thread h.1 is h.2 h.3)

-- the test of the code is the one of the definition
pub test_is : (d e : Dictionaries) (os : List Object) (thread : Ready) (b : Bool) → IsDictionaries e → d ≡ e → (IsTrue b ↔ HasBytes d os thread) → has_bytes e os thread ≡ b
test_is d e os thread true is same h = bytes_there e os thread is (subst (λ (x : Dictionaries). HasBytes x os thread) same (h.0 refl))
test_is d e os thread false is same h = by_test (has_bytes e os thread) refl
  where
    by_test : (b : Bool) → has_bytes e os thread ≡ b → b ≡ false
    by_test false k = refl
    by_test true k = absurd (let wrong : false ≡ true = h.1 (subst (λ (x : Dictionaries). HasBytes x os thread) (sym same) (bytes_right e os thread k)) in cc)

-- the bytes of the code are those of the definition

pub bytes_of_code : (d e : Dictionaries) (os : List Object) (thread : Ready) → d ≡ e → has_bytes e os thread ≡ true → HasBytes d os thread
bytes_of_code d e os thread same h = subst (λ (x : Dictionaries). HasBytes x os thread) (sym same) (bytes_right e os thread h)

pub packs_it : (O : Bundle) (s : ℕ) (d : Dictionaries) (os : List Object) (thread : Ready) (seal bytes : List ℕ) → d ≡ O.dicts → seal ≡ seal_bytes s → has_bytes O.dicts os thread ≡ true → Packs d seal os thread bytes → bytes ≡ sent_bytes O s os (sendable_of O.dicts os thread)
packs_it O s d os thread seal bytes same sealed h p =
    let t = some_there (sendable_of O.dicts os thread) h in
    let r = sendable_right O.dicts os thread t.0 t.1 in
    let q : Packs O.dicts (seal_bytes s) os thread bytes = subst (λ (x : List ℕ). Packs O.dicts x os thread bytes) sealed (subst (λ (x : Dictionaries). Packs x seal os thread bytes) same p) in
    q (stands_where O.dicts os t.0) t.0 r.0 r.1 ∙ ap (sent_bytes O s os) (sym t.1)
