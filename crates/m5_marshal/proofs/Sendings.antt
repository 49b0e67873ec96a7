-- What is known of a thread that has bytes, and how its message is spelled.
use Rattle.std.proofs.Common.{◌≡◌, ℕ, zero, suc, ◌-◌, ◌<◌, Bool, true, false, cond, eqb, List, [], ◌∷◌, ◌++◌, length, map, Option, Some, None, slice_get, refl, sym, ap, subst, ◌∙◌, append_assoc, inl, inr, pos}
use Rattle.std.specs.List.{flat_map}
use Rattle.std.proofs.lemmas.Bool.{eqb-true}
use Rattle.std.proofs.lemmas.List.{length-map}
use Rattle.std.proofs.lemmas.Option.{slice_get-map, slice_get_within}
use Rattle.m5_region.specs.declared.value.Value.{Value}
use Rattle.m5_region.specs.declared.value.Value.TheVariants as values
use Rattle.m5_region.specs.declared.queue.Ready.{Ready}
use Rattle.m5_region.specs.Region.{Object, ArrayOf}
use Rattle.m5_terms.specs.declared.types.World.{World}
use Rattle.m5_dictionary.specs.declared.line.TypeLine.{TypeLine}
use Rattle.m5_dictionary.specs.declared.line.TypeLine.TheVariants as lines
use Rattle.m5_dictionary.specs.Dictionaries.{Dictionaries, Entrance, IsDictionaries}
use Rattle.m5_message.specs.Reading.{Opening, Parts, entered, is_object_line}
use Rattle.m5_message.specs.Message.{label_in, label_stands, stands_there, argument_of, line_at, rooted, root_of}
use Rattle.m5_message.specs.Spelling.{short_of, ids_bytes, contents_bytes, argument_bytes, body_bytes, opening_in}
use Rattle.m5_message.specs.Packing.{Reached, has, place_in, target, value_reaches, reaches, wanted_ids, marked, sent_value, sent, Sending, sent_from, IsFit, IsSendable, packed}
use Rattle.m5_message.proofs.Marks.{has_left, has_right, has_head, has_tail, marked_has, place_there, value_below}
use Rattle.m5_message.proofs.Packs.{packs}
use Rattle.m5_marshal.specs.code.Keys.{reached, id_of, HasMore, IsSent, Below, Entered, sending, sent_bytes}
use Rattle.m5_marshal.specs.declared.key.Key.{Key}
use Rattle.m5_marshal.specs.Pack.{IsThread}
use Rattle.m5_marshal.proofs.Marked.{has_cases, all_at, all_of}
use Rattle.m5_marshal.proofs.Written.{plain_of}

some_is : {A : Type 0} (x y : A) → Some x ≡ Some y → x ≡ y
some_is x y e = cc

-- ---- what is marked depends on what is wanted, and not on its order

abbrev Same : List Reached → List Reached → Type 0
Same a b = (q : Reached) → has a q ≡ has b q

pub same_more : (w todo : List Reached) → HasMore [] w todo → (q : Reached) → has todo q ≡ has w q
same_more w todo h q = by_test (has todo q) refl (has w q) refl
  where
    by_test : (a : Bool) → has todo q ≡ a → (b : Bool) → has w q ≡ b → a ≡ b
    by_test true e true f = refl
    by_test false e false f = refl
    by_test true e false f = absurd (let in_w : has w q ≡ true = h.only q e in let wrong : false ≡ true = sym f ∙ in_w in cc)
    by_test false e true f = absurd (let in_t : has todo q ≡ true = h.added q f in let wrong : false ≡ true = sym e ∙ in_t in cc)

append_same : (a b c : List Reached) → Same a b → Same (a ++ c) (b ++ c)
append_same a b c h q = by_test (has (a ++ c) q) refl (has (b ++ c) q) refl
  where
    over : (x y : List Reached) → has x q ≡ has y q → has (x ++ c) q ≡ true → has (y ++ c) q ≡ true
    over x y e k = elim (has_cases x c q k) [ inl s ↦ has_left y c q (sym e ∙ s) | inr s ↦ has_right y c q s ]

    by_test : (s : Bool) → has (a ++ c) q ≡ s → (t : Bool) → has (b ++ c) q ≡ t → s ≡ t
    by_test true e true f = refl
    by_test false e false f = refl
    by_test true e false f = absurd (let there : has (b ++ c) q ≡ true = over a b (h q) e in let wrong : false ≡ true = sym f ∙ there in cc)
    by_test false e true f = absurd (let there : has (a ++ c) q ≡ true = over b a (sym (h q)) f in let wrong : false ≡ true = sym e ∙ there in cc)

wanted_same : (a b : List Reached) (at k : ℕ) → Same a b → wanted_ids a at k ≡ wanted_ids b at k
wanted_same a b at zero h = refl
wanted_same a b at (suc k) h =
    ap (λ (x : List Reached). x ++ cond (has a (record { at = at; id = k })) (record { at = at; id = k } ∷ []) []) (wanted_same a b at k h)
    ∙ ap (λ (t : Bool). wanted_ids b at k ++ cond t (record { at = at; id = k } ∷ []) []) (h (record { at = at; id = k }))

pub marked_same : (d : Dictionaries) (os : List Object) (at : ℕ) (a b : List Reached) → ((q : Reached) → has a q ≡ has b q) → marked d os at a ≡ marked d os at b
unfolding marked
marked_same d os zero a b h = refl
marked_same d os (suc at) a b h =
    let ids = wanted_same a b at (length d.types) h in
    let more = flat_map (reaches d os) (wanted_ids a at (length d.types)) in
    ap (λ (x : List Reached). marked d os at (a ++ more) ++ x) ids
    ∙ ap (λ (x : List Reached). x ++ wanted_ids b at (length d.types)) (marked_same d os at (a ++ more) (b ++ more) (append_same a b more h))
    ∙ ap (λ (x : List Reached). marked d os at (b ++ flat_map (reaches d os) x) ++ wanted_ids b at (length d.types)) ids

-- ---- a thread that has bytes

pub code_within : (d : Dictionaries) (w : World) (os : List Object) (t : Sending) → IsSendable d w os t → t.code.id < length d.types
code_within d w os t h = slice_get_within d.types t.code.id (lines.Fun t.argument_id) h.closure

pub first_below : (d : Dictionaries) (w : World) (os : List Object) (t : Sending) → IsSendable d w os t → Below d os (t.code ∷ value_reaches (is_object_line (slice_get d.types t.argument_id)) t.argument_id t.argument)
first_below d w os t h = ((h.code, code_within d w os t h), value_below d (length os) t.argument_id (slice_get d.types t.argument_id) t.argument h.argument)

pub code_sent : (d : Dictionaries) (w : World) (os : List Object) (t : Sending) → IsSendable d w os t → has (sent_from d os t) t.code ≡ true
code_sent d w os t h =
    let first = value_reaches (is_object_line (slice_get d.types t.argument_id)) t.argument_id t.argument in
    marked_has d os (length os) (t.code ∷ first) t.code h.code (code_within d w os t h) (has_head t.code first)

pub argument_sent : (d : Dictionaries) (w : World) (os : List Object) (t : Sending) → IsSendable d w os t → IsSent d (sent_from d os t) t.argument_id t.argument
argument_sent d w os t h =
    let first = value_reaches (is_object_line (slice_get d.types t.argument_id)) t.argument_id t.argument in
    let below = value_below d (length os) t.argument_id (slice_get d.types t.argument_id) t.argument h.argument in (
      plain_of d (λ i j. (j < length os) × (i < length d.types)) t.argument_id (slice_get d.types t.argument_id) t.argument h.argument,
      all_of (λ q. has (sent_from d os t) q ≡ true) first (λ (q : Reached) e.
          let low = all_at (λ x. (x.at < length os) × (x.id < length d.types)) first q below e in
          marked_has d os (length os) (t.code ∷ first) q low.0 low.1 (has_tail t.code first q e)),
    )

pub entered_there : (d : Dictionaries) (w : World) (os : List Object) (t : Sending) → IsSendable d w os t → (e : Entrance) × Entered d os t.code.at e
entered_there d w os t h = by_label (label_in (slice_get os t.code.at)) refl h.stands
  where
    by_entrance : (l : ℕ) → label_in (slice_get os t.code.at) ≡ Some l → (m : Option Entrance) → slice_get d.labels l ≡ m → stands_there m w ≡ true → (e : Entrance) × Entered d os t.code.at e
    by_entrance l is None there k = absurd (let wrong : false ≡ true = k in cc)
    by_entrance l is (Some e) there k = (e, (l, is, there))

    by_label : (m : Option ℕ) → label_in (slice_get os t.code.at) ≡ m → label_stands d w m ≡ true → (e : Entrance) × Entered d os t.code.at e
    by_label None is k = absurd (let wrong : false ≡ true = k in cc)
    by_label (Some l) is k = by_entrance l is (slice_get d.labels l) refl k

entered_argument : (i l : ℕ) (m : Option Entrance) (p : Opening) (e : Entrance) → m ≡ Some e → entered i l m ≡ Some p → e.argument ≡ i
entered_argument i l m p e is h = by_test (eqb e.argument i) refl (subst (λ (x : Option Entrance). entered i l x ≡ Some p) is h)
  where
    by_test : (b : Bool) → eqb e.argument i ≡ b → entered i l (Some e) ≡ Some p → e.argument ≡ i
    by_test true s k = eqb-true e.argument i s
    by_test false s k = absurd (let none : None ≡ Some p = subst (λ (b : Bool). cond b (Some (Parts (values.Int (pos l) ∷ []) e.environment)) None ≡ Some p) s k in cc)

opened_argument : (d : Dictionaries) (id i l : ℕ) (o : Object) (p : Opening) (e : Entrance) → label_in (Some o) ≡ Some l → slice_get d.labels l ≡ Some e → opening_in d id (Some (lines.Fun i)) o ≡ Some p → e.argument ≡ i
opened_argument d id i l (ArrayOf (values.Int (pos n) ∷ vs)) p e is there h =
    let same : n ≡ l = some_is n l is in
    entered_argument i n (slice_get d.labels n) p e (ap (slice_get d.labels) same ∙ there) h
opened_argument d id i l o p e is there h = absurd (let none : None ≡ Some p = h in cc)

pub argument_is : (d : Dictionaries) (w : World) (os : List Object) (t : Sending) (e : Entrance) → IsSendable d w os t → Entered d os t.code.at e → e.argument ≡ t.argument_id
argument_is d w os t e h en = by_object (slice_get os t.code.at) refl (all_at (λ q. IsFit d os q (slice_get os q.at)) (sent_from d os t) t.code h.fit (code_sent d w os t h))
  where
    by_object : (m : Option Object) → slice_get os t.code.at ≡ m → IsFit d os t.code m → e.argument ≡ t.argument_id
    by_object None is k = absurd k
    by_object (Some o) is k =
        opened_argument d t.code.id t.argument_id en.0 o k.0 e (ap label_in (sym is) ∙ en.1) en.2
        (ap (λ (x : Option TypeLine). opening_in d t.code.id x o) (sym h.closure) ∙ k.1)

-- ---- the message

rooted_is : (b : Bool) (x : Option ℕ) (id : ℕ) → rooted b x ≡ Some id → x ≡ Some id
rooted_is true x id e = e
rooted_is false x id e = absurd (let none : None ≡ Some id = e in cc)

root_is : (d : Dictionaries) (w : World) (os : List Object) (t : Sending) (id : ℕ) → IsSendable d w os t → root_of d w (map id_of (sent_from d os t)) (map (sent d os (sent_from d os t)) (sent_from d os t)) (place_in (sent_from d os t) t.code) ≡ Some id → id ≡ t.argument_id
root_is d w os t id h e =
    let ps = sent_from d os t in
    let there : slice_get (map id_of ps) (place_in ps t.code) ≡ Some t.code.id = slice_get-map id_of ps (place_in ps t.code) ∙ rw (place_there ps t.code (code_sent d w os t h)) refl in
    let line : argument_of (line_at d (slice_get (map id_of ps) (place_in ps t.code))) ≡ Some t.argument_id = ap (λ (x : Option ℕ). argument_of (line_at d x)) there ∙ ap argument_of h.closure in
    some_is id t.argument_id (sym (rooted_is _ _ id e) ∙ line)

pub packed_is : (d : Dictionaries) (w : World) (seal : List ℕ) (os : List Object) (t : Sending) (ps : List Reached) → IsDictionaries d → IsSendable d w os t → ps ≡ sent_from d os t →
    packed d w seal os t ≡ seal ++ (2 ∷ (short_of (length ps) ++ (ids_bytes (map id_of ps) ++ (contents_bytes d 0 (map id_of ps) (map (sent d os ps) ps) ++ (short_of (length ps - place_in ps t.code) ++ sent_bytes d ps (length ps) t.argument_id t.argument)))))
unfolding body_bytes
packed_is d w seal os t ps is h same =
    let qs = sent_from d os t in
    let root = (packs d w os t is h).0.root in
    let id : root.0 ≡ t.argument_id = root_is d w os t root.0 h root.1 in
    let known : root_of d w (map id_of qs) (map (sent d os qs) qs) (place_in qs t.code) ≡ Some t.argument_id = root.1 ∙ ap Some id in
    let count : length (map id_of qs) ≡ length qs = length-map qs id_of in
    subst (λ (x : List Reached). packed d w seal os t ≡ seal ++ (2 ∷ (short_of (length x) ++ (ids_bytes (map id_of x) ++ (contents_bytes d 0 (map id_of x) (map (sent d os x) x) ++ (short_of (length x - place_in x t.code) ++ sent_bytes d x (length x) t.argument_id t.argument)))))) (sym same)
    (
    ap (λ (r : Option ℕ). seal ++ (2 ∷ (short_of (length (map id_of qs)) ++ (ids_bytes (map id_of qs) ++ (contents_bytes d 0 (map id_of qs) (map (sent d os qs) qs) ++ (short_of (length (map id_of qs) - place_in qs t.code) ++ argument_bytes d (length (map id_of qs)) r (sent_value d qs t.argument_id (slice_get d.types t.argument_id) t.argument))))))) known
    ∙ ap (λ (n : ℕ). seal ++ (2 ∷ (short_of n ++ (ids_bytes (map id_of qs) ++ (contents_bytes d 0 (map id_of qs) (map (sent d os qs) qs) ++ (short_of (n - place_in qs t.code) ++ argument_bytes d n (Some t.argument_id) (sent_value d qs t.argument_id (slice_get d.types t.argument_id) t.argument))))))) count
    )

pub joined : (s a b c d e : List ℕ) → (((((s ++ 2 ∷ []) ++ a) ++ b) ++ c) ++ d) ++ e ≡ s ++ (2 ∷ (a ++ (b ++ (c ++ (d ++ e)))))
joined s a b c d e =
    append_assoc ((((s ++ 2 ∷ []) ++ a) ++ b) ++ c) d e
    ∙ append_assoc (((s ++ 2 ∷ []) ++ a) ++ b) c (d ++ e)
    ∙ append_assoc ((s ++ 2 ∷ []) ++ a) b (c ++ (d ++ e))
    ∙ append_assoc (s ++ 2 ∷ []) a (b ++ (c ++ (d ++ e)))
    ∙ append_assoc s (2 ∷ []) (a ++ (b ++ (c ++ (d ++ e))))

-- ---- the thread that the code finds

sending_is : (t : Sending) (k : Key) (v : Value) (a : ℕ) → t.code.at ≡ k.at → t.code.id ≡ k.id → t.argument ≡ v → t.argument_id ≡ a → t ≡ sending k v a
sending_is t k v a at id value argument =
    ap (λ (n : ℕ). record { code = record { at = n; id = t.code.id }; argument = t.argument; argument_id = t.argument_id }) at
    ∙ ap (λ (n : ℕ). record { code = record { at = k.at; id = n }; argument = t.argument; argument_id = t.argument_id }) id
    ∙ ap (λ (x : Value). record { code = reached k; argument = x; argument_id = t.argument_id }) value
    ∙ ap (λ (n : ℕ). record { code = reached k; argument = v; argument_id = n }) argument

pub code_at : (thread : Ready) (t : Sending) (at : ℕ) → IsThread thread t → at ≡ target thread.code → at ≡ t.code.at
code_at thread t at th e = e ∙ ap target th.0

pub entered_at : (d : Dictionaries) (w : World) (os : List Object) (thread : Ready) (t : Sending) (at : ℕ) → IsThread thread t → IsSendable d w os t → at ≡ target thread.code → (e : Entrance) × Entered d os at e
entered_at d w os thread t at th h is = subst (λ (n : ℕ). (e : Entrance) × Entered d os n e) (sym (code_at thread t at th is)) (entered_there d w os t h)

pub thread_is : (d : Dictionaries) (w : World) (os : List Object) (thread : Ready) (t : Sending) (k : Key) (a : ℕ) (ts : List TypeLine) → IsDictionaries d → IsThread thread t → IsSendable d w os t → k.at ≡ target thread.code → ((e : Entrance) → Entered d os k.at e → a ≡ e.argument) → ts ≡ d.types → ((n : ℕ) → slice_get ts n ≡ Some (lines.Fun a) → slice_get ts k.id ≡ Some (lines.Fun a)) → t ≡ sending k thread.argument a
thread_is d w os thread t k a ts is th h at entered_by same function =
    let here = code_at thread t k.at th at in
    let en = entered_there d w os t h in
    let argument : a ≡ t.argument_id = entered_by en.0 (subst (λ (n : ℕ). Entered d os n en.0) (sym here) en.1) ∙ argument_is d w os t en.0 h en.1 in
    let there : slice_get ts t.code.id ≡ Some (lines.Fun a) = ap (λ (x : List TypeLine). slice_get x t.code.id) same ∙ h.closure ∙ ap (λ (n : ℕ). Some (lines.Fun n)) (sym argument) in
    let found : slice_get d.types k.id ≡ Some (lines.Fun a) = ap (λ (x : List TypeLine). slice_get x k.id) (sym same) ∙ function t.code.id there in
    let id : t.code.id ≡ k.id = is.types.once t.code.id k.id (lines.Fun a) (ap (λ (x : List TypeLine). slice_get x t.code.id) (sym same) ∙ there) found in
    sending_is t k thread.argument a (sym here) id (sym th.1) (sym argument)
