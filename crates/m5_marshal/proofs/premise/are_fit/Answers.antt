use Rattle.std.proofs.Common.{◌≡◌, ◌⊎◌, ◌+◌, true, false, List, [], ◌∷◌, slice_get, sym, ap, subst, ◌∙◌, arith, refl, inl, inr}
use Rattle.m5_message.specs.Packing.{Reached, has, IsFit}
use Rattle.m5_message.proofs.Marks.{has_left, has_right, has_head}
use Rattle.m5_marshal.specs.declared.key.Key.{Key}
use Rattle.m5_marshal.specs.code.Keys.{reached, marks, to_mark, IsNarrow, rank}
use Rattle.m5_marshal.proofs.KeySets.{marks_end, keys_below, no_keys}
use Rattle.m5_marshal.proofs.Testing.{Testing, top_above, top_least, kinded_below, left_below, testing_begins, testing_goes_on, not_few_fit, all_few_fit}
use Rattle.m5_marshal.proofs.premise.are_fit.Goals as goal
use Rattle.m5_marshal.proofs.premise.are_fit.Goals.{then-count-via-then-count, then-count-via-else-count+then-not-is_fit}

pub loop-key-init : goal.loop-key-init
loop-key-init c = testing_begins c.args.dicts.now c.args.region.now.objects (to_mark c.args.wanted) 0 refl c.requires

pub is_fit-requires : goal.is_fit-requires
is_fit-requires c =
    let k = reached c.in-Some.key in
    let split = ap marks c.in-Some.ensures.removal ∙ marks_end c.pop_last.new.self.keys c.in-Some.key in
    c.loop-key.invariant.kinded k (subst (λ (x : List Reached). has x k ≡ true) (sym split) (has_right (marks c.pop_last.new.self.keys) (k ∷ []) k (has_head k [])))

pub returns-then-count : goal.returns-then-count
returns-then-count c = (
  λ t. absurd (let wrong : false ≡ true = t in cc),
  λ h. absurd (not_few_fit c.args.dicts.now c.args.region.now.objects (to_mark c.args.wanted) (to_mark c.loop-key.todo) k c.loop-key.count c.are_dictionaries.ensures.types.few c.loop-key.invariant there why h),
)
  where
    k : Reached
    k = reached c.in-Some.key

    there : has (to_mark c.loop-key.todo) k ≡ true
    there =
        let split = ap marks c.in-Some.ensures.removal ∙ marks_end c.pop_last.new.self.keys c.in-Some.key in
        subst (λ (x : List Reached). has x k ≡ true) (sym split) (has_right (marks c.pop_last.new.self.keys) (k ∷ []) k (has_head k []))

    why : (c.loop-key.count ≡ 4294967295) ⊎ (IsFit c.args.dicts.now c.args.region.now.objects k (slice_get c.args.region.now.objects k.at) → ⊥)
    why = elim c.then-count.branch [
      | then-count-via-then-count w ↦ inl w.if-count.true
      | then-count-via-else-count+then-not-is_fit w ↦ inr (λ fit. let wrong = w.if-not-is_fit.ensures.1 fit in cc)
    ]

pub loop-key-smaller : goal.loop-key-smaller
loop-key-smaller c =
    let d = c.args.dicts.now in
    let os = c.args.region.now.objects in
    let k = reached c.in-Some.key in
    let us = marks c.pop_last.new.self.keys in
    let split = ap marks c.in-Some.ensures.removal ∙ marks_end c.pop_last.new.self.keys c.in-Some.key in
    let few = c.are_dictionaries.ensures.types.few in
    let there : has (to_mark c.loop-key.todo) k ≡ true = subst (λ (x : List Reached). has x k ≡ true) (sym split) (has_right us (k ∷ []) k (has_head k [])) in
    let narrow : (q : Reached) → has us q ≡ true → IsNarrow q = λ q e. omega (arith, few, (kinded_below d os q (c.loop-key.invariant.kinded q (subst (λ (x : List Reached). has x q ≡ true) (sym split) (has_left us (k ∷ []) q e)))).1) in
    let below = keys_below c.pop_last.new.self.keys c.in-Some.key c.in-Some.ensures.all_below narrow in
    let least = top_least (to_mark c.want_parts.new.todo) (rank k) (left_below d os us (to_mark c.want_parts.new.todo) k few below (c.if-not-is_fit.ensures.0 refl) c.in_ok-want_parts.ensures) in
    let above = top_above (to_mark c.loop-key.todo) k there in
    omega (arith, least, above)

pub loop-key-preserved : goal.loop-key-preserved
loop-key-preserved c =
    let d = c.args.dicts.now in
    let os = c.args.region.now.objects in
    let k = reached c.in-Some.key in
    let us = marks c.pop_last.new.self.keys in
    let split = ap marks c.in-Some.ensures.removal ∙ marks_end c.pop_last.new.self.keys c.in-Some.key in
    let few = c.are_dictionaries.ensures.types.few in
    let narrow : (q : Reached) → has us q ≡ true → IsNarrow q = λ q e. omega (arith, few, (kinded_below d os q (c.loop-key.invariant.kinded q (subst (λ (x : List Reached). has x q ≡ true) (sym split) (has_left us (k ∷ []) q e)))).1) in
    let below = keys_below c.pop_last.new.self.keys c.in-Some.key c.in-Some.ensures.all_below narrow in
    testing_goes_on d os (to_mark c.args.wanted) (to_mark c.loop-key.todo) us (to_mark c.want_parts.new.todo) k c.loop-key.count (c.loop-key.count + 1) few c.refers_to_older.ensures c.loop-key.invariant refl split below (c.if-not-is_fit.ensures.0 refl) c.in_ok-want_parts.ensures

pub returns : goal.returns
returns c =
    let d = c.args.dicts.now in
    let os = c.args.region.now.objects in
    let none : c.loop-key.todo.keys ≡ [] = no_keys c.loop-key.todo.keys (λ lt. let wrong = c.in_default.ensures.variant.1 lt in cc) in
    let tested = subst (λ (ks : List Key). Testing d os (to_mark c.args.wanted) (marks ks) c.loop-key.count) none c.loop-key.invariant in (
      λ t. all_few_fit d os (to_mark c.args.wanted) c.loop-key.count c.are_dictionaries.ensures.types.few (omega (arith, c.loop-key.auto.count-fits)) tested,
      λ h. refl,
    )
