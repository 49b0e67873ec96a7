-- The instructions of an ending end as it does.
use Rattle.std.proofs.Common.{◌≡◌, ◌≢◌, ◌⊎◌, inl, inr, ◌+◌, ◌==◌, ◌&&◌, ◌||◌, ℕ, ℤ, pos, Bool, true, false, if◌then◌else◌, List, [], ◌∷◌, ◌++◌, length, Some, slice_get, refl, sym, ap, subst, ◌∙◌, arith, true≢false}
use Rattle.std.proofs.lemmas.Bool.Decides.{Decides-eqb, Decides-int_eq}
use Rattle.std.specs.Ordering.{int_eq}
use Rattle.m5_terms.specs.TypeExpression.{same_world}
use Rattle.m5_terms.specs.Machine.{goes, asks}
use Rattle.m5_terms.specs.declared.ask.AskOf.{AskOf}
use Rattle.m5_terms.specs.declared.ask.AskOf.TheVariants as query
use Rattle.m5_terms.specs.declared.types.World.{World}
use Rattle.m5_terms.specs.declared.types.World.TheVariants.{Home, Server, Panel, Any}
use Rattle.m5_terms.specs.declared.types.Primitive.{Primitive}
use Rattle.m5_terms.specs.declared.types.Primitive.TheVariants as primitive
use Rattle.m5_terms.specs.declared.form.LeafForm.TheVariants as leaf_form
use Rattle.m5_meaning.specs.Step.{is_full}
use Rattle.m5_region.specs.declared.value.Value.{Value}
use Rattle.m5_region.specs.declared.value.Value.TheVariants as values
use Rattle.m5_region.specs.declared.bench.Bench.{Bench}
use Rattle.m5_region.specs.Region.{Object, ArrayOf, fields_in}
use Rattle.m5_machine.specs.declared.step.Instruction.TheVariants as instructions
use Rattle.m5_machine.specs.declared.next.Next.{Next}
use Rattle.m5_machine.specs.declared.next.Next.TheVariants as next
use Rattle.m5_machine.specs.Blocks.{Flat}
use Rattle.m5_machine.specs.Body.{Body, Then, If, Go, Ask, Send, Done}
use Rattle.m5_machine.specs.Closure.{is_closure}
use Rattle.m5_machine.specs.Primitive.{takes, is_text, two_parts, two_in, both_fit}
use Rattle.m5_machine.specs.Table.{in_region, added, given}
use Rattle.m5_machine.specs.Block.{run_body, of_values, asking}
use Rattle.m5_dictionary.specs.Dictionaries.{code_of_world}
use Rattle.m5_cps.specs.Blocks.{go, call, ask, send, done}
use Rattle.m5_cps.specs.Values.{pair, atom, wrap, join, closed, enter, text_value, unit_value}
use Rattle.m5_cps.specs.Values as value
use Rattle.m5_cps.specs.Deeds.{Ran, ends, stops_full}
use Rattle.m5_cps.specs.Asks.{after_done, asked, sent, goes_on, adds_handler}
use Rattle.m5_flat.specs.Blocks.{Named, Blocks, primitive_at}
use Rattle.m5_flat.specs.Running.{primitive_of, asks_or_calls}
use Rattle.m5_flat.specs.Values.{Closure, under, Site}
use Rattle.m5_flat.specs.Values as flat
use Rattle.m5_emit.specs.Represents.{IsTextOf, IsArrayOf, IsThread}
use Rattle.m5_emit.specs.Emit.{Dialect, equal_ints, code_of_primitive, called_body, sent_body, other_worlds}
use Rattle.m5_emit.specs.Follows.{Holds, MayEnter, IsSite, EndsAs, Follows}
use Rattle.m5_emit.specs.Laws.{MayAsk, MayCall, LeavesFrom, EndingsFollow}
use Rattle.m5_emit.proofs.Standing.{got_on, got_last, stands_on}
use Rattle.m5_emit.proofs.Instructions.{one_longer, array_is, part_is, with_slot, with_new, slot_grows, holds_on, slot_fits, then_on, object_on, chosen}
use Rattle.m5_emit.proofs.Operands.{equals_at}
use Rattle.m5_emit.proofs.Tables.{is_entered}
use Rattle.m5_emit.proofs.Tests.{same_number}
use Rattle.m5_emit.proofs.Whole.{itself, or_left, or_right}

text_is_text : (os : List Object) (t : List ℕ) (v : Value) → IsTextOf os t v → is_text v ≡ true
text_is_text os t (values.Text r) h = refl
text_is_text os t _ h = absurd h

parts_are : (os : List Object) (y z v : Value) → IsArrayOf os (y ∷ z ∷ []) v → two_parts os v ≡ Some (y, z)
parts_are os y z (values.Array r) h = ap two_in h
parts_are os y z _ h = absurd h

both : (p q : Bool) → p ≡ true → q ≡ true → (p && q) ≡ true
both true q e f = f
both false q e f = e

abbrev IsAmong : World → List World → Type 0
IsAmong v [] = ⊥
IsAmong v (w ∷ ws) = (v ≡ w) ⊎ IsAmong v ws

among_others : (d : Dialect) (t u v : World) → v ≢ u → v ≢ Any → u ≢ Any → IsAmong v (other_worlds d t u)
among_others d t Home Server e f g = inl refl
among_others d t Home Panel e f g = inr (inl refl)
among_others d t Server Home e f g = inl refl
among_others d t Server Panel e f g = inr (inl refl)
among_others d t Panel Home e f g = inl refl
among_others d t Panel Server e f g = inr (inl refl)
among_others d t Any v e f g = absurd (g refl)
among_others d t u Any e f g = absurd (f refl)
among_others d t Home Home e f g = absurd (e refl)
among_others d t Server Server e f g = absurd (e refl)
among_others d t Panel Panel e f g = absurd (e refl)

agree : (a b : Bool) → (a ≡ true → b ≡ true) → (b ≡ true → a ≡ true) → a ≡ b
agree true b f g = sym (f refl)
agree false true f g = g refl
agree false false f g = refl

-- labels are told apart by their numbers
same_label : (i j : ℕ) → int_eq (pos i) (pos j) ≡ (j == i)
same_label i j =
    agree (int_eq (pos i) (pos j)) (j == i) (λ e. (Decides-eqb j i).1 (let q : pos i ≡ pos j = (Decides-int_eq (pos i) (pos j)).0 e in let r : j ≡ i = cc (q) in r))
    (λ e. (Decides-int_eq (pos i) (pos j)).1 (ap pos (sym ((Decides-eqb j i).0 e))))

module _ (total : ℕ) (hs : List Value) (code : Flat) where
  abbrev H : Site → flat.Value → Type 0
  H s a = Unit {0}

  -- an ask's operands
  module _ (s : Site) (bench : Bench) (h : IsSite total hs bench s) (x k : ℕ) where
    asks_out : (p : ℕ) (a j : flat.Value) (xa : Holds bench x a) (kj : Holds bench k j) → takes code bench.region.objects p xa.value ≡ true → MayEnter code j → run_body code (Ask p x k) bench ≡ (next.Asks p xa.value kj.value, bench)
    unfolding run_body
    asks_out p a j xa kj t e =
        ap (λ o. (of_values o (slice_get bench.slots k) (asking code bench.region.objects p), bench)) xa.there
        ∙ ap (λ o. (of_values (Some xa.value) o (asking code bench.region.objects p), bench)) kj.there
        ∙ ap (λ b. ((if b then next.Asks p xa.value kj.value else next.NoCase), bench)) (both (takes code bench.region.objects p xa.value) (is_closure code bench.region.objects kj.value) t (is_entered code bench.region.objects j kj.value e kj.stands))

    asks_as : (q : Primitive) (a j : flat.Value) (xa : Holds bench x a) (kj : Holds bench k j) → takes code bench.region.objects (code_of_primitive q) xa.value ≡ true → MayEnter code j → (r : Ran Closure) → r ≡ asked s j q a →
        EndsAs total hs r (run_body code (Ask (code_of_primitive q) x k) bench).0 (run_body code (Ask (code_of_primitive q) x k) bench).1
    asks_as q a j xa kj t e r is =
        subst (λ (m : Next × Bench). EndsAs total hs r m.0 m.1) (sym (asks_out (code_of_primitive q) a j xa kj t e))
        (q, refl, record { site = s; closure = j; argument = a; is = is; fits = h; closure_stands = kj.stands; argument_stands = xa.stands })

    one_text : (t : List ℕ) (xa : Holds bench x (text_value t)) → is_text xa.value ≡ true
    one_text t xa = text_is_text bench.region.objects t xa.value xa.stands

    two_texts : (t e : List ℕ) (xa : Holds bench x (join pair (text_value t) (text_value e))) → both_fit (two_parts bench.region.objects xa.value) is_text is_text ≡ true
    two_texts t e xa =
        ap (λ o. both_fit o is_text is_text) (parts_are bench.region.objects xa.stands.0 xa.stands.1 xa.value xa.stands.2)
        ∙ both (is_text xa.stands.0) (is_text xa.stands.1) (text_is_text bench.region.objects t xa.stands.0 xa.stands.3) (text_is_text bench.region.objects e xa.stands.1 xa.stands.4)

    text_and_handler : (t : List ℕ) (f : flat.Value) (xa : Holds bench x (join pair (text_value t) f)) → MayEnter code f → both_fit (two_parts bench.region.objects xa.value) is_text (is_closure code bench.region.objects) ≡ true
    text_and_handler t f xa e =
        ap (λ o. both_fit o is_text (is_closure code bench.region.objects)) (parts_are bench.region.objects xa.stands.0 xa.stands.1 xa.value xa.stands.2)
        ∙ both (is_text xa.stands.0) (is_closure code bench.region.objects xa.stands.1) (text_is_text bench.region.objects t xa.stands.0 xa.stands.3) (is_entered code bench.region.objects f xa.stands.1 e xa.stands.4)

    -- a handler joins its site's list, where that is not full
    with_handler : (q : Primitive) (ask_for : ℕ → AskOf flat.Item) (f j a : flat.Value) (xa : Holds bench x a) (kj : Holds bench k j) → takes code bench.region.objects (code_of_primitive q) xa.value ≡ true → MayEnter code j → adds_handler s ask_for f j ≡ asked s j q a →
        Follows total hs (adds_handler s ask_for f j) (run_body code (Ask (code_of_primitive q) x k) bench)
    with_handler q ask_for f j a xa kj t e is = by_test (is_full s.handlers) refl
      where
        more : Ran Closure
        more = ends (asks (ask_for (length s.handlers)) (after_done (record s { handlers = s.handlers ++ f ∷ [] }) (enter j unit_value)))

        by_test : (b : Bool) → is_full s.handlers ≡ b → Follows total hs (if b then stops_full s else ends (asks (ask_for (length s.handlers)) (after_done (record s { handlers = s.handlers ++ f ∷ [] }) (enter j unit_value)))) (run_body code (Ask (code_of_primitive q) x k) bench)
        by_test true w = asks_as q a j xa kj t e (stops_full s) (sym (ap (λ b. if b then stops_full s else more) w) ∙ is)
        by_test false w = asks_as q a j xa kj t e more (sym (ap (λ b. if b then stops_full s else more) w) ∙ is)

    pub asks_follow : (q : Primitive) (a j : flat.Value) → Holds bench x a → Holds bench k j → MayAsk code q a j → Follows total hs (asked s j q a) (run_body code (Ask (code_of_primitive q) x k) bench)
    asks_follow primitive.Say (atom (leaf_form.Str t)) j xa kj e = asks_as primitive.Say _ j xa kj (one_text t xa) e.1 _ refl
    asks_follow primitive.SetText (join pair (atom (leaf_form.Str t)) (atom (leaf_form.Str c))) j xa kj e = asks_as primitive.SetText _ j xa kj (two_texts t c xa) e.1 _ refl
    asks_follow primitive.GetText (atom (leaf_form.Str t)) j xa kj e = asks_as primitive.GetText _ j xa kj (one_text t xa) e.1 _ refl
    asks_follow primitive.Read (atom (leaf_form.Str t)) j xa kj e = asks_as primitive.Read _ j xa kj (one_text t xa) e.1 _ refl
    asks_follow primitive.Write (join pair (atom (leaf_form.Str t)) (atom (leaf_form.Str c))) j xa kj e = asks_as primitive.Write _ j xa kj (two_texts t c xa) e.1 _ refl
    asks_follow primitive.Show (atom (leaf_form.Str t)) j xa kj e = asks_as primitive.Show _ j xa kj (one_text t xa) e.1 _ refl
    asks_follow primitive.On (join pair (atom (leaf_form.Str t)) f) j xa kj e = with_handler primitive.On (query.On t) f j (join pair (text_value t) f) xa kj (text_and_handler t f xa e.0) e.1 refl
    asks_follow primitive.Watch (join pair (atom (leaf_form.Str t)) f) j xa kj e = with_handler primitive.Watch (query.Watch t) f j (join pair (text_value t) f) xa kj (text_and_handler t f xa e.0) e.1 refl
    asks_follow _ _ j xa kj e = tt

    threads_out : (kv xv : Value) (th : flat.Thread) → slice_get bench.slots k ≡ Some kv → slice_get bench.slots x ≡ Some xv → IsThread bench.region.objects (record { code = kv; argument = xv }) th → Follows total hs (goes_on s th) (run_body code (Go k x) bench)
    unfolding run_body
    threads_out kv xv th ek ex r =
        subst (Follows total hs (goes_on s th)) (sym (ap (λ o. (of_values o (slice_get bench.slots x) next.Enters, bench)) ek ∙ ap (λ o. (of_values (Some kv) o next.Enters, bench)) ex))
        (record { site = s; thread = th; is = refl; fits = h; stands = r })

    pub goes_follow : (a j : flat.Value) → Holds bench x a → Holds bench k j → Follows total hs (goes_on s (enter j a)) (run_body code (Go k x) bench)
    goes_follow a j xa kj = threads_out kj.value xa.value (enter j a) kj.there xa.there (kj.stands, xa.stands)

    sends_out : (v : World) (a j : flat.Value) → Holds bench x a → Holds bench k j → Follows total hs (sent s (atom (leaf_form.Addr v)) (enter j a)) (run_body code (Send (code_of_world v) k x) bench)
    unfolding run_body
    sends_out v a j xa kj =
        subst (Follows total hs (sent s (atom (leaf_form.Addr v)) (enter j a))) (sym (ap (λ o. (of_values o (slice_get bench.slots x) (next.Sends (code_of_world v)), bench)) kj.there ∙ ap (λ o. (of_values (Some kj.value) o (next.Sends (code_of_world v)), bench)) xa.there))
        (v, refl, record { site = s; closure = j; argument = a; is = refl; fits = h; closure_stands = kj.stands; argument_stands = xa.stands })

  done_follows : (s : Site) (bench : Bench) → IsSite total hs bench s → Follows total hs (ends (goes s)) (run_body code Done bench)
  unfolding run_body
  done_follows s bench h = record { site = s; is = refl; fits = h }

  -- two slots more, of which the last says whether two numbers are equal
  module _ (d : Dialect) (u : World) (s : Site) where
    abbrev with_two : Bench → Value → Value → Bench
    with_two b v w = with_slot (with_slot b v) w

    -- a number is compared with another, and one of two bodies goes on
    compared : (b : Bench) (m slot : ℕ) (i j : ℤ) (r : Ran Closure) (first second : Body) → length b.slots ≡ m → slice_get b.slots slot ≡ Some (values.Int i) →
        Follows total hs r (run_body code (if int_eq i j then first else second) (with_two b (values.Int j) (values.Bool (int_eq i j)))) →
        Follows total hs r (run_body code (Then (instructions.Int j) (Then (equal_ints d slot m) (If (m + 1) first second))) b)
    compared b m slot i j r first second e g k =
        let b1 : Bench = with_slot b (values.Int j) in
        let b2 : Bench = with_slot b1 (values.Bool (int_eq i j)) in
        then_on total hs H code (instructions.Int j) b b (values.Int j) _ r refl
        (then_on total hs H code (equal_ints d slot m) b1 b1 (values.Bool (int_eq i j)) _ r (equals_at code b1 slot m d i j (got_on b.slots _ slot _ g) (subst (λ n. slice_get b1.slots n ≡ Some (values.Int j)) e (got_last b.slots (values.Int j))))
        (chosen total hs H code (m + 1) (int_eq i j) first second b2 r (subst (λ n. slice_get b2.slots n ≡ Some (values.Bool (int_eq i j))) (omega (arith, e, one_longer b.slots (values.Int j))) (got_last b1.slots (values.Bool (int_eq i j)))) k))

    two_more : (b : Bench) (m : ℕ) (v w : Value) → length b.slots ≡ m → length ((b.slots ++ v ∷ []) ++ w ∷ []) ≡ m + 2
    two_more b m v w e = omega (arith, e, one_longer b.slots v, one_longer (b.slots ++ v ∷ []) w)

    two_hold : (b : Bench) (v w : Value) (x : ℕ) (a : flat.Value) → Holds b x a → Holds (with_two b v w) x a
    two_hold b v w x a k = holds_on (with_slot b v) (with_two b v w) x a (slot_grows (with_slot b v) w) (holds_on b (with_slot b v) x a (slot_grows b v) k)

    two_fit : (b : Bench) (v w : Value) → IsSite total hs b s → IsSite total hs (with_two b v w) s
    two_fit b v w h = slot_fits total hs H code (with_slot b v) w s (slot_fits total hs H code b v s h)

    itself_same : (v : World) → same_world v v ≡ true
    itself_same Home = refl
    itself_same Server = refl
    itself_same Panel = refl
    itself_same Any = refl

    told_same : (v w : World) → same_world v w ≡ true → v ≡ w
    told_same Home Home e = refl
    told_same Server Server e = refl
    told_same Panel Panel e = refl
    told_same Any Any e = refl
    told_same Home Server e = absurd (cc (e))
    told_same _ _ e = absurd (true≢false (sym e))

    sends : (ws : List World) (v : World) (b : Bench) (m a k x : ℕ) (j z : flat.Value) → IsAmong v ws → length b.slots ≡ m → Holds b a (atom (leaf_form.Addr v)) → Holds b k j → Holds b x z → IsSite total hs b s →
        Follows total hs (sent s (atom (leaf_form.Addr v)) (enter j z)) (run_body code (sent_body d u ws a k x m) b)
    sends [] v b m a k x j z among e av kj xz h = absurd among
    sends (w ∷ ws) v b m a k x j z among e av kj xz h =
        compared b m a (pos (code_of_world v)) (pos (code_of_world w)) (sent s (atom (leaf_form.Addr v)) (enter j z)) (Send (code_of_world w) k x) (sent_body d u ws a k x (m + 2)) e (av.there ∙ ap Some av.stands)
        (by_test (λ l. sends ws v (with_two b v0 v1) (m + 2) a k x j z l (two_more b m v0 v1 e) (two_hold b v0 v1 a (atom (leaf_form.Addr v)) av) (two_hold b v0 v1 k j kj) (two_hold b v0 v1 x z xz) (two_fit b v0 v1 h)) (same_world v w) refl (int_eq (pos (code_of_world v)) (pos (code_of_world w))) (same_number v w))
      where
        v0 : Value
        v0 = values.Int (pos (code_of_world w))

        v1 : Value
        v1 = values.Bool (int_eq (pos (code_of_world v)) (pos (code_of_world w)))

        by_test : (IsAmong v ws → Follows total hs (sent s (atom (leaf_form.Addr v)) (enter j z)) (run_body code (sent_body d u ws a k x (m + 2)) (with_two b v0 v1))) → (q : Bool) → same_world v w ≡ q → (t : Bool) → t ≡ same_world v w → Follows total hs (sent s (atom (leaf_form.Addr v)) (enter j z)) (run_body code (if t then Send (code_of_world w) k x else sent_body d u ws a k x (m + 2)) (with_two b v0 v1))
        by_test ih true q t f =
            subst (λ n. Follows total hs (sent s (atom (leaf_form.Addr v)) (enter j z)) (run_body code (if n then Send (code_of_world w) k x else sent_body d u ws a k x (m + 2)) (with_two b v0 v1))) (sym (f ∙ q))
            (subst (λ n. Follows total hs (sent s (atom (leaf_form.Addr v)) (enter j z)) (run_body code (Send (code_of_world n) k x) (with_two b v0 v1))) (told_same v w q)
            (sends_out s (with_two b v0 v1) (two_fit b v0 v1 h) x k v z j (two_hold b v0 v1 x z xz) (two_hold b v0 v1 k j kj)))
        by_test ih false q t f =
            subst (λ n. Follows total hs (sent s (atom (leaf_form.Addr v)) (enter j z)) (run_body code (if n then Send (code_of_world w) k x else sent_body d u ws a k x (m + 2)) (with_two b v0 v1))) (sym (f ∙ q))
            (ih (later among))
          where
            later : IsAmong v (w ∷ ws) → IsAmong v ws
            later (inl g) = absurd (true≢false (sym (itself_same v) ∙ ap (same_world v) g ∙ q))
            later (inr g) = g

    -- a function is compared with each primitive, and then called
    calls : (ps : List Named) (b : Bench) (m label f x k i n : ℕ) (σ : ℕ → flat.Value) (a j : flat.Value) → length b.slots ≡ m → slice_get b.slots label ≡ Some (values.Int (pos i)) → Holds b f (closed (under i n) σ) → Holds b x a → Holds b k j → IsSite total hs b s →
        MayCall code (primitive_at ps i) (closed (under i n) σ) a j → Follows total hs (asks_or_calls (primitive_at ps i) (closed (under i n) σ) a j s) (run_body code (called_body d u ps label f x k m) b)
    calls [] b m label f x k i n σ a j e g fh xh kh h may =
        object_on total hs H code (instructions.Array (x ∷ k ∷ [])) o values.Array 3 b s (Go f m) (λ s1. goes_on s1 (value.call (closed (under i n) σ) a j)) (ap (λ o. in_region b (added b.region o values.Array)) (array_is b.slots (x ∷ k ∷ []) (xh.value ∷ kh.value ∷ []) (xh.there, (kh.there, tt)))) refl h
        (λ h1. threads_out (record s { units = s.units + 3 }) new h1 m f fh.value v (value.call (closed (under i n) σ) a j) (got_on b.slots (v ∷ []) f fh.value fh.there) (subst (λ n. slice_get new.slots n ≡ Some v) e (got_last b.slots v))
        (xh.value, kh.value, stands_on b.region.objects (o ∷ []) (closed (under i n) σ) fh.value fh.stands, ap fields_in (got_last b.region.objects o), stands_on b.region.objects (o ∷ []) a xh.value xh.stands, stands_on b.region.objects (o ∷ []) j kh.value kh.stands))
      where
        o : Object
        o = ArrayOf (xh.value ∷ kh.value ∷ [])

        v : Value
        v = values.Array (record { 0 = length b.region.objects })

        new : Bench
        new = with_new b o v
    calls (p ∷ ps) b m label f x k i n σ a j e g fh xh kh h may =
        compared b m label (pos i) (pos p.label) (asks_or_calls (primitive_at (p ∷ ps) i) (closed (under i n) σ) a j s) (Ask (code_of_primitive p.primitive) x k) (called_body d u ps label f x k (m + 2)) e g
        (by_test (λ may. calls ps (with_two b v0 v1) (m + 2) label f x k i n σ a j (two_more b m v0 v1 e) (got_on (b.slots ++ v0 ∷ []) (v1 ∷ []) label _ (got_on b.slots (v0 ∷ []) label _ g)) (two_hold b v0 v1 f (closed (under i n) σ) fh) (two_hold b v0 v1 x a xh) (two_hold b v0 v1 k j kh) (two_fit b v0 v1 h) may)
        (p.label == i) (int_eq (pos i) (pos p.label)) (same_label i p.label) may)
      where
        v0 : Value
        v0 = values.Int (pos p.label)

        v1 : Value
        v1 = values.Bool (int_eq (pos i) (pos p.label))

        by_test : (MayCall code (primitive_at ps i) (closed (under i n) σ) a j → Follows total hs (asks_or_calls (primitive_at ps i) (closed (under i n) σ) a j s) (run_body code (called_body d u ps label f x k (m + 2)) (with_two b v0 v1))) → (q t : Bool) → t ≡ q → MayCall code (if q then Some p.primitive else primitive_at ps i) (closed (under i n) σ) a j →
            Follows total hs (asks_or_calls (if q then Some p.primitive else primitive_at ps i) (closed (under i n) σ) a j s) (run_body code (if t then Ask (code_of_primitive p.primitive) x k else called_body d u ps label f x k (m + 2)) (with_two b v0 v1))
        by_test ih true true w may = asks_follow s (with_two b v0 v1) (two_fit b v0 v1 h) x k p.primitive a j (two_hold b v0 v1 x a xh) (two_hold b v0 v1 k j kh) may
        by_test ih false false w may = ih may
        by_test ih true false w may = absurd (true≢false (sym w))
        by_test ih false true w may = absurd (true≢false w)

    pub sends_follow : (b : Bench) (a k x : ℕ) (w j z : flat.Value) → LeavesFrom u w → Holds b a w → Holds b k j → Holds b x z → IsSite total hs b s → Follows total hs (sent s w (enter j z)) (run_body code (sent_body d u (other_worlds d u u) a k x (length b.slots)) b)
    sends_follow b a k x (atom (leaf_form.Addr v)) j z l av kj xz h = sends (other_worlds d u u) v b (length b.slots) a k x j z (among_others d u u v l.0 l.1 l.2) refl av kj xz h
    sends_follow b a k x _ j z l av kj xz h = tt

    pub calls_follow : (B : Blocks) (b : Bench) (f x k : ℕ) (g a j : flat.Value) → MayCall code (primitive_of B g) g a j → Holds b f g → Holds b x a → Holds b k j → IsSite total hs b s →
        Follows total hs (asks_or_calls (primitive_of B g) g a j s) (run_body code (Then (instructions.Field f 0) (called_body d u B.primitives (length b.slots) f x k (length b.slots + 1))) b)
    calls_follow B b f x k (closed (under i n) σ) a j may fh xh kh h =
        let v : Value = values.Int (pos i) in
        let b1 : Bench = with_slot b v in
        let g = slot_grows b v in
        then_on total hs H code (instructions.Field f 0) b b v (called_body d u B.primitives (length b.slots) f x k (length b.slots + 1)) (asks_or_calls (primitive_at B.primitives i) (closed (under i n) σ) a j s) (ap (given b) (part_is b.region.objects b.slots f 0 fh.value _ fh.there fh.stands.1))
        (calls B.primitives b1 (length b.slots + 1) (length b.slots) f x k i n σ a j (omega (arith, one_longer b.slots v)) (got_last b.slots v) (holds_on b b1 f (closed (under i n) σ) g fh) (holds_on b b1 x a g xh) (holds_on b b1 k j g kh) (slot_fits total hs H code b v s h) may)
    calls_follow B b f x k (atom (leaf_form.Extern p)) a j may fh xh kh h = absurd fh.stands
    calls_follow B b f x k (atom _) a j may fh xh kh h = absurd may
    calls_follow B b f x k (wrap w c) a j may fh xh kh h = absurd may
    calls_follow B b f x k (join w c e) a j may fh xh kh h = absurd may

pub endings_follow : EndingsFollow
endings_follow total hs code d u B (go k x) at ρ s bench may v h =
    goes_follow total hs code s bench h (at x) (at k) (ρ x) (ρ k) (v x (or_right (x == k) (x == x) (itself x))) (v k (or_left (k == k) (k == x) (itself k)))
endings_follow total hs code d u B (call f x k) at ρ s bench may v h =
    calls_follow total hs code d u s B bench (at f) (at x) (at k) (ρ f) (ρ x) (ρ k) may (v f (or_left (f == f) (f == x || f == k) (itself f))) (v x (or_right (x == f) (x == x || x == k) (or_left (x == x) (x == k) (itself x)))) (v k (or_right (k == f) (k == x || k == k) (or_right (k == x) (k == k) (itself k)))) h
endings_follow total hs code d u B (ask p x k) at ρ s bench may v h =
    asks_follow total hs code s bench h (at x) (at k) p (ρ x) (ρ k) (v x (or_left (x == x) (x == k) (itself x))) (v k (or_right (k == x) (k == k) (itself k))) may
endings_follow total hs code d u B (send a k x) at ρ s bench may v h =
    sends_follow total hs code d u s bench (at a) (at k) (at x) (ρ a) (ρ k) (ρ x) may (v a (or_left (a == a) (a == k || a == x) (itself a))) (v k (or_right (k == a) (k == k || k == x) (or_left (k == k) (k == x) (itself k)))) (v x (or_right (x == a) (x == k || x == x) (or_right (x == k) (x == x) (itself x)))) h
endings_follow total hs code d u B done at ρ s bench may v h = done_follows total hs code s bench h
