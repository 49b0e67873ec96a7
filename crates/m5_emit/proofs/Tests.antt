-- The instructions of a test go the way that it goes.
use Rattle.std.proofs.Common.{◌≡◌, ◌+◌, ℕ, pos, Bool, true, false, if◌then◌else◌, List, [], ◌∷◌, ◌++◌, length, Some, slice_get, refl, sym, ap, subst, ◌∙◌, arith, append-nil, true≢false}
use Rattle.std.specs.Ordering.{int_eq}
use Rattle.std.specs.List.{AllZip}
use Rattle.m5_terms.specs.TypeExpression.{same_world}
use Rattle.m5_terms.specs.declared.types.World.{World}
use Rattle.m5_terms.specs.declared.types.World.TheVariants.{Home, Server, Panel, Any}
use Rattle.m5_terms.specs.declared.form.LeafForm.TheVariants as leaf_form
use Rattle.m5_region.specs.declared.value.Value.{Value}
use Rattle.m5_region.specs.declared.value.Value.TheVariants as values
use Rattle.m5_region.specs.declared.bench.Bench.{Bench}
use Rattle.m5_machine.specs.declared.step.Instruction.TheVariants as instructions
use Rattle.m5_machine.specs.Blocks.{Flat}
use Rattle.m5_machine.specs.Body.{Body, Then}
use Rattle.m5_machine.specs.Table.{given, part}
use Rattle.m5_machine.specs.Block.{run_body}
use Rattle.m5_dictionary.specs.Dictionaries.{code_of_world}
use Rattle.m5_cps.specs.Blocks.{Test, if_true, if_left, if_nil, if_here}
use Rattle.m5_cps.specs.Values.{left, right, cons, atom, wrap, join}
use Rattle.m5_cps.specs.Deeds.{Ran, tested}
use Rattle.m5_flat.specs.Values.{Closure, Site}
use Rattle.m5_flat.specs.Values as flat
use Rattle.m5_emit.specs.Represents.{Represents}
use Rattle.m5_emit.specs.Emit.{Dialect, Way, equal_ints, test_body}
use Rattle.m5_emit.specs.Follows.{Grows, Holds, IsSite, Follows}
use Rattle.m5_emit.specs.Laws.{WayOn, TestsFollow}
use Rattle.m5_emit.proofs.Standing.{got_on, got_last}
use Rattle.m5_emit.proofs.Instructions.{one_longer, part_is, with_slot, slot_grows, grows_on, holds_on, last_holds, slot_fits, then_on, chosen}
use Rattle.m5_emit.proofs.Operands.{equals_at}

-- worlds are told apart by their numbers
pub same_number : (v w : World) → int_eq (pos (code_of_world v)) (pos (code_of_world w)) ≡ same_world v w
same_number Home Home = refl
same_number Home Server = refl
same_number Home Panel = refl
same_number Home Any = refl
same_number Server Home = refl
same_number Server Server = refl
same_number Server Panel = refl
same_number Server Any = refl
same_number Panel Home = refl
same_number Panel Server = refl
same_number Panel Panel = refl
same_number Panel Any = refl
same_number Any Home = refl
same_number Any Server = refl
same_number Any Panel = refl
same_number Any Any = refl

pub grows_none : (bench : Bench) → Grows bench bench
grows_none bench = record { objects = []; slots = []; objects_are = sym (append-nil bench.region.objects); slots_are = sym (append-nil bench.slots) }

module _ (total : ℕ) (hs : List Value) (code : Flat) (d : Dialect) (u : World) (s : Site) (bench : Bench) (this that : List flat.Value → Ran Closure) (first second : Way) (h : IsSite total hs bench s) (x : ℕ) where
  abbrev F : Ran Closure → Body → Bench → Type 0
  F r b new = Follows total hs r (run_body code b new)

  abbrev m : ℕ
  m = length bench.slots

  abbrev H : Site → flat.Value → Type 0
  H s a = Unit {0}

  abbrev On : Test → flat.Value → Type 0
  On t a = Holds bench x a → WayOn total hs code u t a s bench true this first → WayOn total hs code u t a s bench false that second → F (tested u t a this that) (test_body d u t x m first second) bench

  trues : (a : flat.Value) → On if_true a
  trues (atom (leaf_form.Bool true)) k w1 w2 = chosen total hs H code x true (first [] m) (second [] m) bench (this []) (k.there ∙ ap Some k.stands) (w1 bench [] [] (λ p q. refl) (grows_none bench) h tt)
  trues (atom (leaf_form.Bool false)) k w1 w2 = chosen total hs H code x false (first [] m) (second [] m) bench (that []) (k.there ∙ ap Some k.stands) (w2 bench [] [] (λ p q. refl) (grows_none bench) h tt)
  trues _ k w1 w2 = tt

  l1 : (v : Value) → length (bench.slots ++ v ∷ []) ≡ m + 1
  l1 v = omega (arith, one_longer bench.slots v)

  l2 : (v w : Value) → length ((bench.slots ++ v ∷ []) ++ w ∷ []) ≡ m + 2
  l2 v w = omega (arith, l1 v, one_longer (bench.slots ++ v ∷ []) w)

  l3 : (v w z : Value) → length (((bench.slots ++ v ∷ []) ++ w ∷ []) ++ z ∷ []) ≡ m + 3
  l3 v w z = omega (arith, l2 v w, one_longer ((bench.slots ++ v ∷ []) ++ w ∷ []) z)

  -- the tag of a sum or a list, and then one part
  one_part : (b : flat.Value) (v z : Value) (r : Ran Closure) (way : Way) → part bench.region.objects (bench.slots ++ v ∷ []) x 1 ≡ Some z → Represents bench.region.objects b z →
      ((last : Bench) → Grows bench last → IsSite total hs last s → AllZip (Holds last) ((m + 1) ∷ []) (b ∷ []) → F r (way ((m + 1) ∷ []) (length last.slots)) last) → F r (Then (instructions.Field x 1) (way ((m + 1) ∷ []) (m + 2))) (with_slot bench v)
  one_part b v z r way e q go =
      let b1 : Bench = with_slot bench v in
      let b2 : Bench = with_slot b1 z in
      then_on total hs H code (instructions.Field x 1) b1 b1 z _ r (ap (given b1) e)
      (subst (λ n. F r (way ((m + 1) ∷ []) n) b2) (l2 v z)
      (go b2 (grows_on bench b1 b2 (slot_grows bench v) (slot_grows b1 z)) (slot_fits total hs H code b1 z s (slot_fits total hs H code bench v s h)) (subst (λ n. Holds b2 n b) (l1 v) (last_holds b1 b2 z b refl q), tt)))

  lefts : (a : flat.Value) → On if_left a
  lefts (wrap (left T) a) k w1 w2 =
      let v : Value = values.Bool false in
      then_on total hs H code (instructions.Field x 0) bench bench v _ (this (a ∷ [])) (ap (given bench) (part_is bench.region.objects bench.slots x 0 k.value _ k.there k.stands.1))
      (chosen total hs H code m false (Then (instructions.Field x 1) (second ((m + 1) ∷ []) (m + 2))) (Then (instructions.Field x 1) (first ((m + 1) ∷ []) (m + 2))) (with_slot bench v) (this (a ∷ [])) (got_last bench.slots v)
      (one_part a v k.stands.0 (this (a ∷ [])) first (part_is bench.region.objects (bench.slots ++ v ∷ []) x 1 k.value _ (got_on bench.slots (v ∷ []) x k.value k.there) k.stands.1) k.stands.2 (λ last g f z. w1 last ((m + 1) ∷ []) (a ∷ []) (λ p q. refl) g f z)))
  lefts (wrap (right T) a) k w1 w2 =
      let v : Value = values.Bool true in
      then_on total hs H code (instructions.Field x 0) bench bench v _ (that (a ∷ [])) (ap (given bench) (part_is bench.region.objects bench.slots x 0 k.value _ k.there k.stands.1))
      (chosen total hs H code m true (Then (instructions.Field x 1) (second ((m + 1) ∷ []) (m + 2))) (Then (instructions.Field x 1) (first ((m + 1) ∷ []) (m + 2))) (with_slot bench v) (that (a ∷ [])) (got_last bench.slots v)
      (one_part a v k.stands.0 (that (a ∷ [])) second (part_is bench.region.objects (bench.slots ++ v ∷ []) x 1 k.value _ (got_on bench.slots (v ∷ []) x k.value k.there) k.stands.1) k.stands.2 (λ last g f z. w2 last ((m + 1) ∷ []) (a ∷ []) (λ p q. refl) g f z)))
  lefts _ k w1 w2 = tt

  nils : (a : flat.Value) → On if_nil a
  nils (atom (leaf_form.Nil A)) k w1 w2 =
      let v : Value = values.Bool false in
      let b1 : Bench = with_slot bench v in
      then_on total hs H code (instructions.Field x 0) bench bench v _ (this []) (ap (given bench) (part_is bench.region.objects bench.slots x 0 k.value _ k.there k.stands))
      (chosen total hs H code m false (Then (instructions.Field x 1) (Then (instructions.Field x 2) (second ((m + 1) ∷ (m + 2) ∷ []) (m + 3)))) (first [] (m + 1)) b1 (this []) (got_last bench.slots v)
      (subst (λ n. F (this []) (first [] n) b1) (l1 v) (w1 b1 [] [] (λ p q. refl) (slot_grows bench v) (slot_fits total hs H code bench v s h) tt)))
  nils (join cons a b) k w1 w2 =
      let v : Value = values.Bool true in
      let y : Value = k.stands.0 in
      let z : Value = k.stands.1 in
      let b1 : Bench = with_slot bench v in
      let b2 : Bench = with_slot b1 y in
      let b3 : Bench = with_slot b2 z in
      let r : Ran Closure = that (a ∷ b ∷ []) in
      let on1 = got_on bench.slots (v ∷ []) x k.value k.there in
      let on2 = got_on b1.slots (y ∷ []) x k.value on1 in
      let head : Holds b2 (m + 1) a = subst (λ n. Holds b2 n a) (l1 v) (last_holds b1 b2 y a refl k.stands.3) in
      let tail : Holds b3 (m + 2) b = subst (λ n. Holds b3 n b) (l2 v y) (last_holds b2 b3 z b refl k.stands.4) in
      then_on total hs H code (instructions.Field x 0) bench bench v _ r (ap (given bench) (part_is bench.region.objects bench.slots x 0 k.value _ k.there k.stands.2))
      (chosen total hs H code m true (Then (instructions.Field x 1) (Then (instructions.Field x 2) (second ((m + 1) ∷ (m + 2) ∷ []) (m + 3)))) (first [] (m + 1)) b1 r (got_last bench.slots v)
      (then_on total hs H code (instructions.Field x 1) b1 b1 y _ r (ap (given b1) (part_is bench.region.objects b1.slots x 1 k.value _ on1 k.stands.2))
      (then_on total hs H code (instructions.Field x 2) b2 b2 z _ r (ap (given b2) (part_is bench.region.objects b2.slots x 2 k.value _ on2 k.stands.2))
      (subst (λ n. F r (second ((m + 1) ∷ (m + 2) ∷ []) n) b3) (l3 v y z)
      (w2 b3 ((m + 1) ∷ (m + 2) ∷ []) (a ∷ b ∷ []) (λ p q. refl) (grows_on bench b2 b3 (grows_on bench b1 b2 (slot_grows bench v) (slot_grows b1 y)) (slot_grows b2 z))
      (slot_fits total hs H code b2 z s (slot_fits total hs H code b1 y s (slot_fits total hs H code bench v s h))) (holds_on b2 b3 (m + 1) a (slot_grows b2 z) head, (tail, tt)))))))
  nils _ k w1 w2 = tt

  heres : (a : flat.Value) → On if_here a
  heres (atom (leaf_form.Addr w)) k w1 w2 =
      let v : Value = values.Int (pos (code_of_world u)) in
      let t : Bool = int_eq (pos (code_of_world w)) (pos (code_of_world u)) in
      let b1 : Bench = with_slot bench v in
      let r : Ran Closure = if same_world w u then this [] else that [] in
      then_on total hs H code (instructions.Int (pos (code_of_world u))) bench bench v _ r refl
      (then_on total hs H code (equal_ints d x m) b1 b1 (values.Bool t) _ r (equals_at code b1 x m d (pos (code_of_world w)) (pos (code_of_world u)) (got_on bench.slots (v ∷ []) x _ (k.there ∙ ap Some k.stands)) (got_last bench.slots v))
      (chosen total hs H code (m + 1) t (first [] (m + 2)) (second [] (m + 2)) b2 r (subst (λ n. slice_get b2.slots n ≡ Some (values.Bool t)) (l1 v) (got_last b1.slots (values.Bool t)))
      (by_test (same_world w u) t refl (same_number w u))))
    where
      v0 : Value
      v0 = values.Int (pos (code_of_world u))

      v1 : Value
      v1 = values.Bool (int_eq (pos (code_of_world w)) (pos (code_of_world u)))

      b2 : Bench
      b2 = with_slot (with_slot bench v0) v1

      grown : Grows bench b2
      grown = grows_on bench (with_slot bench v0) b2 (slot_grows bench v0) (slot_grows (with_slot bench v0) v1)

      fits : IsSite total hs b2 s
      fits = slot_fits total hs H code (with_slot bench v0) v1 s (slot_fits total hs H code bench v0 s h)

      by_test : (q t : Bool) → same_world w u ≡ q → t ≡ q → F (if q then this [] else that []) (if t then first [] (m + 2) else second [] (m + 2)) b2
      by_test true true e f = subst (λ n. F (this []) (first [] n) b2) (l2 v0 v1) (w1 b2 [] [] (λ p q. ap (λ t. if t then p [] else q []) e) grown fits tt)
      by_test false false e f = subst (λ n. F (that []) (second [] n) b2) (l2 v0 v1) (w2 b2 [] [] (λ p q. ap (λ t. if t then p [] else q []) e) grown fits tt)
      by_test true false e f = absurd (true≢false (sym f))
      by_test false true e f = absurd (true≢false f)
  heres _ k w1 w2 = tt

pub tests_follow : TestsFollow
tests_follow total hs code d u if_true x a s bench this that first second k h w1 w2 = trues total hs code d u s bench this that first second h x a k w1 w2
tests_follow total hs code d u if_left x a s bench this that first second k h w1 w2 = lefts total hs code d u s bench this that first second h x a k w1 w2
tests_follow total hs code d u if_nil x a s bench this that first second k h w1 w2 = nils total hs code d u s bench this that first second h x a k w1 w2
tests_follow total hs code d u if_here x a s bench this that first second k h w1 w2 = heres total hs code d u s bench this that first second h x a k w1 w2
