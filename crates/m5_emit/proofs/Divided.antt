-- The instructions of a division follow it.
use Rattle.std.proofs.Common.{◌≡◌, ◌≢◌, inl, ◌+◌, ℕ, ℤ, pos, Bool, true, false, if◌then◌else◌, List, [], ◌∷◌, ◌++◌, length, Some, None, slice_get, refl, ap, subst, ◌∙◌, arith, true≢false, w64}
use Rattle.std.proofs.lemmas.Int.{SFits-int_wrap}
use Rattle.std.specs.Ordering.{int_eq}
use Rattle.std.specs.Int.{int_wrapping_div}
use Rattle.std.specs.Prelude.{int_div}
use Rattle.m5_terms.specs.TypeExpression as type
use Rattle.m5_terms.specs.declared.types.World.{World}
use Rattle.m5_terms.specs.declared.form.LeafForm.TheVariants as leaf_form
use Rattle.m5_meaning.specs.Numbers.{quotient}
use Rattle.m5_meaning.specs.Reduction.{unit_or}
use Rattle.m5_region.specs.declared.value.Value.{Value}
use Rattle.m5_region.specs.declared.value.Value.TheVariants as values
use Rattle.m5_region.specs.declared.bench.Bench.{Bench}
use Rattle.m5_region.specs.Region.{Object}
use Rattle.m5_machine.specs.declared.step.Instruction.TheVariants as instructions
use Rattle.m5_machine.specs.declared.made.Made.TheVariants.{Gives}
use Rattle.m5_machine.specs.Blocks.{Flat}
use Rattle.m5_machine.specs.Body.{Body, Then, If}
use Rattle.m5_machine.specs.Operand.{with_one, int_in}
use Rattle.m5_machine.specs.Table.{given}
use Rattle.m5_machine.specs.Table.{quotient as quotient_in}
use Rattle.m5_machine.specs.Block.{run_body}
use Rattle.m5_cps.specs.Values.{Wrap, left, right, pair, atom, wrap, join, unit_value}
use Rattle.m5_cps.specs.Made.{gives, divided}
use Rattle.m5_cps.specs.Deeds.{Ran, taking, did}
use Rattle.m5_cps.specs.Running.{last}
use Rattle.m5_flat.specs.Values.{Closure, Site}
use Rattle.m5_flat.specs.Values as flat
use Rattle.m5_emit.specs.Represents.{IsArrayOf, Represents}
use Rattle.m5_emit.specs.Emit.{Dialect, Rest, equal_ints, divided_body}
use Rattle.m5_emit.specs.Follows.{Grows, Holds, IsSite, Follows}
use Rattle.m5_emit.specs.Laws.{marked, GoOn}
use Rattle.m5_emit.proofs.Standing.{got_on, got_last, stands_on}
use Rattle.m5_emit.proofs.Instructions.{Hands, one_longer, part_is, with_slot, slot_grows, grows_on, holds_on, last_holds, slot_fits, go_further, then_on, tagged_at, chosen}
use Rattle.m5_emit.proofs.Operands.{int_is, equals}
use Rattle.m5_emit.proofs.Quotients.{wraps}

not_zero : (k : ℤ) → int_eq k (pos 0) ≡ false → k ≢ pos 0
not_zero k e q = true≢false (subst (λ z. int_eq z (pos 0) ≡ false) q e)

module _ (total : ℕ) (hs : List Value) (H : Site → flat.Value → Type 0) (code : Flat) (d : Dialect) (u : World) (bench : Bench) (s : Site) (rest : Rest) (go_on : Site → flat.Value → Ran Closure) (h : IsSite total hs bench s) (go : GoOn total hs H code bench rest go_on) (x : ℕ) where
  abbrev m : ℕ
  m = length bench.slots

  module _ (n k : ℤ) (p : Holds bench x (join pair (atom (leaf_form.Int n)) (atom (leaf_form.Int k)))) (hd : Hands H (λ g. taking 3 s (λ s1. did u s1 (divided (join pair (atom (leaf_form.Int n)) (atom (leaf_form.Int k)))) g))) where
    abbrev b1 : Bench
    b1 = with_slot bench p.stands.0

    abbrev b2 : Bench
    b2 = with_slot b1 p.stands.1

    abbrev b3 : Bench
    b3 = with_slot b2 (values.Int (pos 0))

    abbrev b4 : Bench
    b4 = with_slot b3 (values.Bool (int_eq k (pos 0)))

    l1 : length b1.slots ≡ m + 1
    l1 = omega (arith, one_longer bench.slots p.stands.0)

    l2 : length b2.slots ≡ m + 2
    l2 = omega (arith, l1, one_longer b1.slots p.stands.1)

    l3 : length b3.slots ≡ m + 3
    l3 = omega (arith, l2, one_longer b2.slots (values.Int (pos 0)))

    l4 : length b4.slots ≡ m + 4
    l4 = omega (arith, l3, one_longer b3.slots (values.Bool (int_eq k (pos 0))))

    -- the parts
    first_in : Holds b1 m (atom (leaf_form.Int n))
    first_in = last_holds bench b1 p.stands.0 (atom (leaf_form.Int n)) refl p.stands.3

    second_in : Holds b2 (m + 1) (atom (leaf_form.Int k))
    second_in = subst (λ j. Holds b2 j (atom (leaf_form.Int k))) l1 (last_holds b1 b2 p.stands.1 (atom (leaf_form.Int k)) refl p.stands.4)

    zero_in : Holds b3 (m + 2) (atom (leaf_form.Int (pos 0)))
    zero_in = subst (λ j. Holds b3 j (atom (leaf_form.Int (pos 0)))) l2 (last_holds b2 b3 (values.Int (pos 0)) (atom (leaf_form.Int (pos 0))) refl (refl, record { sfits = omega arith }))

    second_on : Holds b3 (m + 1) (atom (leaf_form.Int k))
    second_on = holds_on b2 b3 (m + 1) (atom (leaf_form.Int k)) (slot_grows b2 (values.Int (pos 0))) second_in

    second_last : Holds b4 (m + 1) (atom (leaf_form.Int k))
    second_last = holds_on b3 b4 (m + 1) (atom (leaf_form.Int k)) (slot_grows b3 (values.Bool (int_eq k (pos 0)))) second_on

    first_last : Holds b4 m (atom (leaf_form.Int n))
    first_last = holds_on b3 b4 m _ (slot_grows b3 (values.Bool (int_eq k (pos 0)))) (holds_on b2 b3 m _ (slot_grows b2 (values.Int (pos 0))) (holds_on b1 b2 m _ (slot_grows b1 p.stands.1) first_in))

    grown : Grows bench b4
    grown = grows_on bench b3 b4 (grows_on bench b2 b3 (grows_on bench b1 b2 (slot_grows bench p.stands.0) (slot_grows b1 p.stands.1)) (slot_grows b2 (values.Int (pos 0)))) (slot_grows b3 (values.Bool (int_eq k (pos 0))))

    fits4 : IsSite total hs b4 s
    fits4 = slot_fits total hs H code b3 _ s (slot_fits total hs H code b2 _ s (slot_fits total hs H code b1 _ s (slot_fits total hs H code bench _ s h)))

    -- a value, its tag, and the array of both
    tags : (t : Bool) (v : Value) (w : Wrap) (a : flat.Value) → Represents bench.region.objects a v → ((os : List Object) (z : Value) → IsArrayOf os (values.Bool t ∷ v ∷ []) z → Represents os a v → Represents os (wrap w a) z) → H (record s { units = s.units + 3 }) (wrap w a) →
        Follows total hs (taking 3 s (λ s1. go_on s1 (wrap w a))) (run_body code (Then (instructions.Bool t) (Then (instructions.Array ((m + 5) ∷ (m + 4) ∷ [])) (rest (m + 6) (m + 7)))) (with_slot b4 v))
    tags t v w a r r1 hd1 =
        tagged_at total hs H code (m + 5) (m + 6) (m + 7) (instructions.Bool t) (values.Bool t) ((m + 4) ∷ []) (v ∷ []) 3 (with_slot b4 v) s (wrap w a) rest go_on
        (omega (arith, l4, one_longer b4.slots v)) (omega arith) (omega arith) (λ b. refl) (subst (λ j. slice_get (b4.slots ++ v ∷ []) j ≡ Some v) l4 (got_last b4.slots v), tt) refl
        (λ os z i. r1 (bench.region.objects ++ os) z i (stands_on bench.region.objects os a v r)) (slot_fits total hs H code b4 v s fits4) hd1 (go_further total hs H code bench (with_slot b4 v) rest go_on (grows_on bench b4 (with_slot b4 v) grown (slot_grows b4 v)) go)

    abbrev nothing : Body
    nothing = Then instructions.Unit (Then (instructions.Bool false) (Then (instructions.Array ((m + 5) ∷ (m + 4) ∷ [])) (rest (m + 6) (m + 7))))

    abbrev something : Body
    something = Then (instructions.Quo m (m + 1)) (Then (instructions.Bool true) (Then (instructions.Array ((m + 5) ∷ (m + 4) ∷ [])) (rest (m + 6) (m + 7))))

    abbrev either : Bool → Ran Closure
    either t = did u (record s { units = s.units + 3 }) (if t then gives (wrap (left (unit_or type.int)) unit_value) else gives (wrap (right (unit_or type.int)) (atom (leaf_form.Int (quotient n k))))) marked

    handed : (t : Bool) → int_eq k (pos 0) ≡ t → last (either (int_eq k (pos 0))) ≡ last (either t)
    handed t e = ap (λ b. last (either b)) e

    by_test : (t : Bool) → int_eq k (pos 0) ≡ t → Follows total hs (taking 3 s (λ s1. did u s1 (if t then gives (wrap (left (unit_or type.int)) unit_value) else gives (wrap (right (unit_or type.int)) (atom (leaf_form.Int (quotient n k))))) go_on)) (run_body code (if t then nothing else something) b4)
    by_test true e =
        then_on total hs H code instructions.Unit b4 b4 values.Null _ (taking 3 s (λ s1. go_on s1 (wrap (left (unit_or type.int)) unit_value))) refl
        (tags false values.Null (left (unit_or type.int)) unit_value refl (λ os z i j. (values.Null, i, j)) (hd _ _ (handed true e)))
    by_test false e =
        let v : Value = values.Int (quotient n k) in
        then_on total hs H code (instructions.Quo m (m + 1)) b4 b4 v _ (taking 3 s (λ s1. go_on s1 (wrap (right (unit_or type.int)) (atom (leaf_form.Int (quotient n k))))))
        (ap (λ o. given b4 (with_one o (λ x. with_one (int_in (slice_get b4.slots (m + 1))) (quotient_in x)))) (int_is b4 m n first_last)
        ∙ ap (λ o. given b4 (with_one o (quotient_in n))) (int_is b4 (m + 1) k second_last)
        ∙ ap (λ t. given b4 (if t then None else Some (values.Int (int_wrapping_div w64 n k)))) e
        ∙ ap (λ z. (Gives (values.Int z), b4)) (wraps n k first_last.stands.1 (not_zero k e)))
        (tags true v (right (unit_or type.int)) (atom (leaf_form.Int (quotient n k))) (refl, SFits-int_wrap w64 (int_div n k)) (λ os z i j. (v, i, j)) (hd _ _ (handed false e)))

    whole : Follows total hs (taking 3 s (λ s1. did u s1 (divided (join pair (atom (leaf_form.Int n)) (atom (leaf_form.Int k)))) go_on)) (run_body code (divided_body d u x m rest) bench)
    whole =
        let r : Ran Closure = taking 3 s (λ s1. did u s1 (divided (join pair (atom (leaf_form.Int n)) (atom (leaf_form.Int k)))) go_on) in
        let test : Body = If (m + 3) nothing something in
        let equal : Body = Then (equal_ints d (m + 1) (m + 2)) test in
        then_on total hs H code (instructions.Field x 0) bench bench p.stands.0 (Then (instructions.Field x 1) (Then (instructions.Int (pos 0)) equal)) r (ap (given bench) (part_is bench.region.objects bench.slots x 0 p.value _ p.there p.stands.2))
        (then_on total hs H code (instructions.Field x 1) b1 b1 p.stands.1 (Then (instructions.Int (pos 0)) equal) r (ap (given b1) (part_is bench.region.objects b1.slots x 1 p.value _ (got_on bench.slots (p.stands.0 ∷ []) x p.value p.there) p.stands.2))
        (then_on total hs H code (instructions.Int (pos 0)) b2 b2 (values.Int (pos 0)) equal r refl
        (then_on total hs H code (equal_ints d (m + 1) (m + 2)) b3 b3 (values.Bool (int_eq k (pos 0))) test r (equals code b3 (m + 1) (m + 2) d k (pos 0) second_on zero_in)
        (chosen total hs H code (m + 3) (int_eq k (pos 0)) nothing something b4 r (subst (λ j. slice_get b4.slots j ≡ Some (values.Bool (int_eq k (pos 0)))) l3 (got_last b3.slots (values.Bool (int_eq k (pos 0)))))
        (by_test (int_eq k (pos 0)) refl)))))

  pub divides : (a : flat.Value) → Holds bench x a → Hands H (λ g. taking 3 s (λ s1. did u s1 (divided a) g)) → Follows total hs (taking 3 s (λ s1. did u s1 (divided a) go_on)) (run_body code (divided_body d u x m rest) bench)
  divides (join pair (atom (leaf_form.Int n)) (atom (leaf_form.Int k))) p hd = whole n k p hd
  divides _ p hd = inl tt
