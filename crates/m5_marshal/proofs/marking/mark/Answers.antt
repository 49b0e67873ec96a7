use Rattle.std.proofs.Common.{◌≡◌, ◌<◌, true, false, List, [], ◌∷◌, length, reverse, sym, ap, subst, ◌∙◌, arith}
use Rattle.std.proofs.lemmas.List.{length-map, length-reverse, reverse-append}
use Rattle.m5_message.specs.Packing.{Reached, has, marked}
use Rattle.m5_message.proofs.Marks.{marked_has, has_left, has_right, has_head}
use Rattle.m5_marshal.specs.declared.key.Key.{Key}
use Rattle.m5_marshal.specs.code.Keys.{reached, marks, to_mark, IsNarrow, HasAll}
use Rattle.m5_marshal.proofs.Marked.{all_at, marked_whole}
use Rattle.m5_marshal.proofs.KeySets.{marks_end, keys_below, no_keys}
use Rattle.m5_marshal.proofs.Walking.{Walk, walk_begins, walk_goes_on, walk_more, walk_ends, walk_in}
use Rattle.m5_marshal.proofs.marking.mark.Goals as goal

pub loop-key-init : goal.loop-key-init
loop-key-init c =
    let d = c.args.dicts.now in
    let os = c.args.region.now.objects in
    let m = marked d os (length os) (to_mark c.args.wanted) in
    subst (λ (ks : List Key). Walk d os (to_mark c.args.wanted) m (to_mark c.args.wanted) (marks (reverse ks))) (sym c.new-done.ensures.items)
    (walk_begins d os (to_mark c.args.wanted) m (to_mark c.args.wanted) (record { kept = λ (q : Reached) e. absurd (let wrong : false ≡ true = e in cc); added = λ (q : Reached) e. e; only = λ (q : Reached) e. e }) (λ (q : Reached) e.
    let low = all_at (λ x. (x.at < length os) × (x.id < length d.types)) (to_mark c.args.wanted) q c.requires.below e in
    marked_has d os (length os) (to_mark c.args.wanted) q low.0 low.1 e))

pub want_parts-requires : goal.want_parts-requires
want_parts-requires c =
    let d = c.args.dicts.now in
    let os = c.args.region.now.objects in
    let m = marked d os (length os) (to_mark c.args.wanted) in
    let whole = marked_whole d os (length os) (to_mark c.args.wanted) c.are_dictionaries.ensures.types.few c.requires.fit in
    let k = reached c.in-Some.key in
    let split = ap marks c.in-Some.ensures.removal ∙ marks_end c.pop_last.new.self.keys c.in-Some.key in
    let there : has (to_mark c.loop-key.todo) k ≡ true = subst (λ (x : List Reached). has x k ≡ true) (sym split) (has_right (marks c.pop_last.new.self.keys) (k ∷ []) k (has_head k [])) in
    whole.fit k (walk_in d os (to_mark c.args.wanted) m (to_mark c.loop-key.todo) _ k c.loop-key.invariant there)

pub loop-key-smaller : goal.loop-key-smaller
loop-key-smaller c =
    let d = c.args.dicts.now in
    let os = c.args.region.now.objects in
    let m = marked d os (length os) (to_mark c.args.wanted) in
    let k = reached c.in-Some.key in
    let split = ap marks c.in-Some.ensures.removal ∙ marks_end c.pop_last.new.self.keys c.in-Some.key in
    let there : has (to_mark c.loop-key.todo) k ≡ true = subst (λ (x : List Reached). has x k ≡ true) (sym split) (has_right (marks c.pop_last.new.self.keys) (k ∷ []) k (has_head k [])) in
    let lt = walk_more d os (to_mark c.args.wanted) m (to_mark c.loop-key.todo) (marks (reverse c.loop-key.done.items)) k c.loop-key.invariant there in
    let count : length (marks (reverse c.loop-key.done.items)) ≡ length c.loop-key.done.items = length-map (reverse c.loop-key.done.items) reached ∙ length-reverse c.loop-key.done.items in
    omega (arith, lt, count, c.in_ok-push.ensures.len)

pub loop-key-preserved : goal.loop-key-preserved
loop-key-preserved c =
    let d = c.args.dicts.now in
    let os = c.args.region.now.objects in
    let m = marked d os (length os) (to_mark c.args.wanted) in
    let whole = marked_whole d os (length os) (to_mark c.args.wanted) c.are_dictionaries.ensures.types.few c.requires.fit in
    let k = reached c.in-Some.key in
    let us = marks c.pop_last.new.self.keys in
    let after = marks (reverse c.loop-key.done.items) in
    let split = ap marks c.in-Some.ensures.removal ∙ marks_end c.pop_last.new.self.keys c.in-Some.key in
    let narrow : (q : Reached) → has us q ≡ true → IsNarrow q = λ q e. whole.narrow q (walk_in d os (to_mark c.args.wanted) m (to_mark c.loop-key.todo) after q c.loop-key.invariant (subst (λ (x : List Reached). has x q ≡ true) (sym split) (has_left us (k ∷ []) q e))) in
    let below = keys_below c.pop_last.new.self.keys c.in-Some.key c.in-Some.ensures.all_below narrow in
    let next = walk_goes_on d os (to_mark c.args.wanted) m (to_mark c.loop-key.todo) after us (to_mark c.want_parts.new.todo) k whole c.loop-key.invariant split below c.in_ok-want_parts.ensures in
    subst (λ (ks : List Key). Walk d os (to_mark c.args.wanted) m (to_mark c.want_parts.new.todo) (marks ks)) (sym (ap reverse c.in_ok-push.ensures.items ∙ reverse-append c.loop-key.done.items (c.in-Some.key ∷ []))) next

pub returns-clause-is : goal.returns-clause-is
returns-clause-is c =
    let d = c.args.dicts.now in
    let os = c.args.region.now.objects in
    let m = marked d os (length os) (to_mark c.args.wanted) in
    let whole = marked_whole d os (length os) (to_mark c.args.wanted) c.are_dictionaries.ensures.types.few c.requires.fit in
    let none : c.loop-key.todo.keys ≡ [] = no_keys c.loop-key.todo.keys (λ lt. let wrong = c.in_default.ensures.variant.1 lt in cc) in
    let walk = subst (λ (ks : List Key). Walk d os (to_mark c.args.wanted) m (marks ks) (marks (reverse c.loop-key.done.items))) none c.loop-key.invariant in
    ap marks c.reverse.ensures.items ∙ sym (walk_ends d os (to_mark c.args.wanted) m (marks (reverse c.loop-key.done.items)) whole walk)

pub returns-clause-whole : goal.returns-clause-whole
returns-clause-whole c =
    let d = c.args.dicts.now in
    let os = c.args.region.now.objects in
    let whole = marked_whole d os (length os) (to_mark c.args.wanted) c.are_dictionaries.ensures.types.few c.requires.fit in
    subst (λ (x : List Reached). HasAll d os x) (sym (returns-clause-is c)) (record { rises = (whole.rises, whole.narrow); reached = whole.reached; fit = whole.fit })
