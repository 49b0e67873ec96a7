-- The body of a block that is entered or called follows its code.
use Rattle.std.proofs.Common.{◌≡◌, ◌+◌, ◌<◌, ℕ, zero, suc, List, [], ◌∷◌, length, Option, Some, slice_get, nat_lt, Bool, true, false, refl, sym, ap, subst, ◌∙◌, arith}
use Rattle.std.proofs.lemmas.Bool.{ltb-true, ltb-false}
use Rattle.m5_terms.specs.TypeExpression.{TypeExpression}
use Rattle.m5_terms.specs.declared.types.World.{World}
use Rattle.m5_region.specs.declared.value.Value.{Value}
use Rattle.m5_region.specs.declared.bench.Bench.{Bench}
use Rattle.m5_machine.specs.declared.step.Instruction.TheVariants as instructions
use Rattle.m5_machine.specs.Blocks.{Flat}
use Rattle.m5_machine.specs.Body.{Body, Then}
use Rattle.m5_machine.specs.Table.{given}
use Rattle.m5_machine.specs.Block.{run_body}
use Rattle.m5_cps.specs.Entries.{SlotType, Mode, Entry, by_value, by_call}
use Rattle.m5_cps.specs.Values.{atom, wrap, join, closed, enter, put}
use Rattle.m5_cps.specs.Values as value
use Rattle.m5_cps.specs.Deeds.{Ran}
use Rattle.m5_flat.specs.Blocks.{Code, Blocks}
use Rattle.m5_flat.specs.Running.{run, Entered, entered, called, with_block, enter_block, call_block, resolved}
use Rattle.m5_flat.specs.Values.{Closure, under, Site, Thread}
use Rattle.m5_flat.specs.Values as flat
use Rattle.m5_emit.specs.Represents.{IsArrayOf, Represents}
use Rattle.m5_emit.specs.Emit.{Dialect, fields_then, entry_place, entry_body, code_body}
use Rattle.m5_emit.specs.Follows.{Grows, Holds, IsSite, Follows}
use Rattle.m5_emit.specs.Laws.{MayGo, AreHeld, BlocksFollow}
use Rattle.m5_emit.proofs.Standing.{got_on, stands_on, array_on}
use Rattle.m5_emit.proofs.Instructions.{one_longer, part_is, with_slot, slot_grows, grows_on, holds_on, last_holds, slot_fits, then_on}
use Rattle.m5_emit.proofs.Tests.{grows_none}
use Rattle.m5_emit.proofs.Bodies.{held_put, bodies_follow}

got_some : {A : Type 0} (xs : List A) (i : ℕ) → i < length xs → (x : A) × (slice_get xs i ≡ Some x)
got_some [] i h = absurd (omega (arith, h))
got_some (x ∷ xs) zero h = (x, refl)
got_some (x ∷ xs) (suc i) h = got_some xs i (omega (arith, h))

module _ (total : ℕ) (hs : List Value) (code : Flat) (d : Dialect) (u : World) (B : Blocks) (s : Site) where
  abbrev H : Site → flat.Value → Type 0
  H s a = Unit {0}

  module _ (i k : ℕ) (σ : ℕ → flat.Value) (r : Ran Closure) (rest : Body) where
    abbrev F : flat.Value
    F = closed (under i k) σ

    -- the first ones of what the closure has taken stand from slot 2 on
    abbrev pub AreTaken : Bench → ℕ → Type 0
    AreTaken b n = (length b.slots ≡ n + 2) × AreHeld b (λ j. j + 2) n σ

    abbrev Ends : Bench → Type 0
    Ends b = (last : Bench) → Grows b last → IsSite total hs last s → AreTaken last k → Follows total hs r (run_body code rest last)

    taken_more : (b : Bench) (n : ℕ) (v : Value) → Represents b.region.objects (σ n) v → AreTaken b n → AreTaken (with_slot b v) (suc n)
    taken_more b n v q t = (omega (arith, t.0, one_longer b.slots v), held)
      where
        held : AreHeld (with_slot b v) (λ j. j + 2) (suc n) σ
        held j lt = by_test (nat_lt j n) refl
          where
            by_test : (w : Bool) → nat_lt j n ≡ w → Holds (with_slot b v) (j + 2) (σ j)
            by_test true e = holds_on b (with_slot b v) (j + 2) (σ j) (slot_grows b v) (t.1 j (ltb-true j n e))
            by_test false e =
                let g : n ≡ j = omega (arith, lt, ltb-false j n e) in
                subst (λ z. Holds (with_slot b v) (z + 2) (σ z)) g (subst (λ z. Holds (with_slot b v) z (σ n)) t.0 (last_holds b (with_slot b v) v (σ n) refl q))

    fields : (todo n : ℕ) (b : Bench) → n + todo ≡ k → Holds b 0 (closed (under i k) σ) → AreTaken b n → IsSite total hs b s → Ends b → Follows total hs r (run_body code (fields_then d u (suc n) todo rest) b)
    fields zero n b e f t h go = go b (grows_none b) h (subst (AreTaken b) (omega (arith, e)) t)
    fields (suc todo) n b e f t h go =
        let xs : List Value = f.stands.0 in
        let x = got_some xs n (omega (arith, e, f.stands.2)) in
        let b1 : Bench = with_slot b x.0 in
        then_on total hs H code (instructions.Field 0 (suc n)) b b x.0 (fields_then d u (suc (suc n)) todo rest) r (ap (given b) (part_is b.region.objects b.slots 0 (suc n) f.value _ f.there f.stands.1 ∙ x.1))
        (fields todo (suc n) b1 (omega (arith, e)) (holds_on b b1 0 (closed (under i k) σ) (slot_grows b x.0) f) (taken_more b n x.0 (f.stands.3 n x.0 x.1) t) (slot_fits total hs H code b x.0 s h)
        (λ last g h1 t1. go last (grows_on b b1 last (slot_grows b x.0) g) h1 t1))

  stands_grown : (old new : Bench) (a : flat.Value) (v : Value) → Grows old new → Represents old.region.objects a v → Represents new.region.objects a v
  stands_grown old new a v g q = subst (λ z. Represents z a v) (sym g.objects_are) (stands_on old.region.objects g.objects a v q)

  -- a block's body, once its closure and its argument are in slots
  module _ (i k : ℕ) (σ : ℕ → flat.Value) (c : Code) (bench : Bench) (h : IsSite total hs bench s) (closure argument : Value) (es : bench.slots ≡ closure ∷ argument ∷ []) (q : Represents bench.region.objects (closed (under i k) σ) closure) where
    abbrev G : flat.Value
    G = closed (under i k) σ

    in_first : Holds bench 0 (closed (under i k) σ)
    in_first = record { value = closure; there = ap (λ z. slice_get z 0) es; stands = q }

    nothing_taken : AreTaken i k σ (run B u c 0 σ s) (code_body d u B.primitives c 0 (λ j. j) 0) bench 0
    nothing_taken = (ap (λ (z : List Value). length z) es, λ j lt. absurd (omega (arith, lt)))

    base : (last : Bench) → Grows bench last → AreHeld last (λ j. j + 2) k σ → AreHeld last (put k 0 (λ j. j + 2)) (suc k) (put k (closed (under i k) σ) σ)
    base last g t = held_put last (λ j. j + 2) k 0 σ (closed (under i k) σ) t (holds_on bench last 0 (closed (under i k) σ) g in_first)

    value_runs : (m : Mode) (T : SlotType) (x : flat.Value) → Represents bench.region.objects x argument → MayGo code B u c (suc (suc k)) (put (suc k) x (put k (closed (under i k) σ) σ)) s →
        Follows total hs (run B u c (suc (suc k)) (put (suc k) x (put k (closed (under i k) σ) σ)) s) (run_body code (fields_then d u 1 k (entry_body d u B.primitives (by_value m T) k c)) bench)
    value_runs m T x qx may =
        let r : Ran Closure = run B u c (suc (suc k)) (put (suc k) x (put k (closed (under i k) σ) σ)) s in
        let second : Holds bench 1 x = record { value = argument; there = ap (λ z. slice_get z 1) es; stands = qx } in
        fields i k σ r (entry_body d u B.primitives (by_value m T) k c) k 0 bench (omega arith) in_first nothing_taken h
        (λ last g h1 t. subst (λ n. Follows total hs r (run_body code (code_body d u B.primitives c (suc (suc k)) (entry_place d u (by_value m T) k) n) last)) t.0
        (bodies_follow total hs code d u B c (suc (suc k)) (entry_place d u (by_value m T) k) (put (suc k) x (put k (closed (under i k) σ) σ)) s last may
        (held_put last (put k 0 (λ j. j + 2)) (suc k) 1 (put k (closed (under i k) σ) σ) x (base last g t.1) (holds_on bench last 1 x g second)) h1))

    call_runs : (m : Mode) (A T : TypeExpression) (x j : flat.Value) (a b : Value) → IsArrayOf bench.region.objects (a ∷ b ∷ []) argument → Represents bench.region.objects x a → Represents bench.region.objects j b →
        MayGo code B u c (suc (suc (suc k))) (put (suc (suc k)) j (put (suc k) x (put k (closed (under i k) σ) σ))) s →
        Follows total hs (run B u c (suc (suc (suc k))) (put (suc (suc k)) j (put (suc k) x (put k (closed (under i k) σ) σ))) s) (run_body code (fields_then d u 1 k (entry_body d u B.primitives (by_call m A T) k c)) bench)
    call_runs m A T x j a b ar qa qb may =
        let r : Ran Closure = run B u c (suc (suc (suc k))) (put (suc (suc k)) j (put (suc k) x (put k (closed (under i k) σ) σ))) s in
        fields i k σ r (entry_body d u B.primitives (by_call m A T) k c) k 0 bench (omega arith) in_first nothing_taken h (λ last g h1 t. ends last g h1 t.0 t.1)
      where
        ends : (last : Bench) → Grows bench last → IsSite total hs last s → length last.slots ≡ k + 2 → AreHeld last (λ j. j + 2) k σ →
            Follows total hs (run B u c (suc (suc (suc k))) (put (suc (suc k)) j (put (suc k) x (put k (closed (under i k) σ) σ))) s) (run_body code (entry_body d u B.primitives (by_call m A T) k c) last)
        ends last g h1 long t =
            let ρ : ℕ → flat.Value = put (suc (suc k)) j (put (suc k) x (put k (closed (under i k) σ) σ)) in
            let place = entry_place d u (by_call m A T) k in
            let r : Ran Closure = run B u c (suc (suc (suc k))) ρ s in
            let b1 : Bench = with_slot last a in
            let b2 : Bench = with_slot b1 b in
            let array : IsArrayOf last.region.objects (a ∷ b ∷ []) argument = subst (λ z. IsArrayOf z (a ∷ b ∷ []) argument) (sym g.objects_are) (array_on bench.region.objects g.objects (a ∷ b ∷ []) argument ar) in
            let there : slice_get last.slots 1 ≡ Some argument = ap (λ z. slice_get z 1) g.slots_are ∙ got_on bench.slots g.slots 1 argument (ap (λ z. slice_get z 1) es) in
            let l1 : length b1.slots ≡ k + 3 = omega (arith, long, one_longer last.slots a) in
            let l2 : length b2.slots ≡ k + 4 = omega (arith, l1, one_longer b1.slots b) in
            let gs : Grows last b2 = grows_on last b1 b2 (slot_grows last a) (slot_grows b1 b) in
            let xh : Holds b2 (k + 2) x = holds_on b1 b2 (k + 2) x (slot_grows b1 b) (subst (λ n. Holds b1 n x) long (last_holds last b1 a x refl (stands_grown bench last x a g qa))) in
            let jh : Holds b2 (k + 3) j = subst (λ n. Holds b2 n j) l1 (last_holds b1 b2 b j refl (stands_grown bench last j b g qb)) in
            then_on total hs H code (instructions.Field 1 0) last last a (Then (instructions.Field 1 1) (code_body d u B.primitives c (suc (suc (suc k))) place (k + 4))) r (ap (given last) (part_is last.region.objects last.slots 1 0 argument _ there array))
            (then_on total hs H code (instructions.Field 1 1) b1 b1 b (code_body d u B.primitives c (suc (suc (suc k))) place (k + 4)) r (ap (given b1) (part_is last.region.objects b1.slots 1 1 argument _ (got_on last.slots (a ∷ []) 1 argument there) array))
            (subst (λ n. Follows total hs r (run_body code (code_body d u B.primitives c (suc (suc (suc k))) place n) b2)) l2
            (bodies_follow total hs code d u B c (suc (suc (suc k))) place ρ s b2 may
            (held_put b2 _ (suc (suc k)) (k + 3) _ j (held_put b2 _ (suc k) (k + 2) _ x (λ l lt. holds_on last b2 _ _ gs (base last g t l lt)) xh) jh)
            (slot_fits total hs H code b1 b s (slot_fits total hs H code last a s h1)))))

    -- the entry that the thread's block has
    abbrev Goes : Option Entered → Entry → Type 0
    Goes o y = (e : Entered) → o ≡ Some e → MayGo code B u e.code e.filled e.slots s → Follows total hs (run B u e.code e.filled e.slots s) (run_body code (fields_then d u 1 k (entry_body d u B.primitives y k c)) bench)

    enters : (y : Entry) (x : flat.Value) → Represents bench.region.objects x argument → Goes (enter_block i k σ x y c) y
    enters (by_value m T) x qx e is may =
        let g : entered (closed (under i k) σ) x k σ c ≡ e = cc (is) in
        subst (λ z. Follows total hs (run B u z.code z.filled z.slots s) (run_body code (fields_then d u 1 k (entry_body d u B.primitives (by_value m T) k c)) bench)) g
        (value_runs m T x qx (subst (λ z. MayGo code B u z.code z.filled z.slots s) (sym g) may))
    enters (by_call m A T) x qx e is may = absurd (cc (is))

    answers : (y : Entry) (x j : flat.Value) (a b : Value) → IsArrayOf bench.region.objects (a ∷ b ∷ []) argument → Represents bench.region.objects x a → Represents bench.region.objects j b → Goes (call_block i k σ x j y c) y
    answers (by_call m A T) x j a b ar qa qb e is may =
        let g : called (closed (under i k) σ) x j k σ c ≡ e = cc (is) in
        subst (λ z. Follows total hs (run B u z.code z.filled z.slots s) (run_body code (fields_then d u 1 k (entry_body d u B.primitives (by_call m A T) k c)) bench)) g
        (call_runs m A T x j a b ar qa qb (subst (λ z. MayGo code B u z.code z.filled z.slots s) (sym g) may))
    answers (by_value m T) x j a b ar qa qb e is may = absurd (cc (is))

pub blocks_follow : BlocksFollow
blocks_follow total hs code d u B (enter f x) i k σ b e s bench r eb at re es ti h may =
    let q : Represents bench.region.objects (closed (under i k) σ) r.code = subst (λ z. Represents bench.region.objects z r.code) eb ti.0 in
    let o : with_block (slice_get B.table i) (enter_block i k σ x) ≡ Some e = subst (λ z. resolved B (enter z x) ≡ Some e) eb re in
    enters total hs code d u B s i k σ b.code bench h r.code r.argument es q b.entry x ti.1 e (sym (ap (λ z. with_block z (enter_block i k σ x)) at) ∙ o) may
blocks_follow total hs code d u B (value.call f x j) i k σ b e s bench r eb at re es ti h may =
    let q : Represents bench.region.objects (closed (under i k) σ) r.code = subst (λ z. Represents bench.region.objects z r.code) eb ti.2 in
    let o : with_block (slice_get B.table i) (call_block i k σ x j) ≡ Some e = subst (λ z. resolved B (value.call z x j) ≡ Some e) eb re in
    answers total hs code d u B s i k σ b.code bench h r.code r.argument es q b.entry x j ti.0 ti.1 ti.3 ti.4 ti.5 e (sym (ap (λ z. with_block z (call_block i k σ x j)) at) ∙ o) may
