use Rattle.std.proofs.Common.{◌∷◌, ◌∙◌, ◌<◌, [], length, sym, subst, List}
use Rattle.m5_message.specs.Reading.{is_object_line}
use Rattle.m5_message.specs.Packing.{Reached, value_reaches, AreFit}
use Rattle.std.proofs.Common.{slice_get}
use Rattle.m5_marshal.specs.declared.key.Key.{Key}
use Rattle.m5_marshal.specs.code.Keys.{reached, marks, to_mark, HasMore, sending}
use Rattle.m5_marshal.proofs.Marked.{all_at, all_of}
use Rattle.m5_marshal.proofs.KeySets.{more_more}
use Rattle.m5_marshal.proofs.Sendings.{same_more, marked_same, first_below}
use Rattle.m5_marshal.proofs.packing.pairs.Goals as goal

pub mark-requires-clause-below : goal.mark-requires-clause-below
mark-requires-clause-below c =
    let d = c.args.dicts.now in
    let os = c.args.region.now.objects in
    let t = sending c.args.code c.args.argument c.args.argument_id in
    let first = value_reaches (is_object_line (slice_get d.types t.argument_id)) t.argument_id t.argument in
    let todo = to_mark c.want.new.todo in
    let more = more_more (marks c.new-wanted.result.keys) (to_mark c.insert.new.todo) todo (reached c.args.code ∷ []) first c.in_ok-insert.ensures c.in_ok-want.ensures in
    let all = subst (λ (ks : List Key). HasMore (marks ks) (reached c.args.code ∷ first) todo) c.new-wanted.ensures.empty more in
    all_of (λ q. (q.at < length os) × (q.id < length d.types)) todo (λ (q : Reached) e. all_at (λ q. (q.at < length os) × (q.id < length d.types)) (reached c.args.code ∷ first) q (first_below d c.requires.0 os t c.requires.1) (all.only q e))

pub mark-requires-clause-fit : goal.mark-requires-clause-fit
mark-requires-clause-fit c =
    let d = c.args.dicts.now in
    let os = c.args.region.now.objects in
    let t = sending c.args.code c.args.argument c.args.argument_id in
    let first = value_reaches (is_object_line (slice_get d.types t.argument_id)) t.argument_id t.argument in
    let todo = to_mark c.want.new.todo in
    let more = more_more (marks c.new-wanted.result.keys) (to_mark c.insert.new.todo) todo (reached c.args.code ∷ []) first c.in_ok-insert.ensures c.in_ok-want.ensures in
    let all = subst (λ (ks : List Key). HasMore (marks ks) (reached c.args.code ∷ first) todo) c.new-wanted.ensures.empty more in
    subst (AreFit d os) (sym (marked_same d os (length os) todo (reached c.args.code ∷ first) (same_more (reached c.args.code ∷ first) todo all))) c.requires.1.fit

pub returns-clause-is : goal.returns-clause-is
returns-clause-is c =
    let d = c.args.dicts.now in
    let os = c.args.region.now.objects in
    let t = sending c.args.code c.args.argument c.args.argument_id in
    let first = value_reaches (is_object_line (slice_get d.types t.argument_id)) t.argument_id t.argument in
    let todo = to_mark c.want.new.todo in
    let more = more_more (marks c.new-wanted.result.keys) (to_mark c.insert.new.todo) todo (reached c.args.code ∷ []) first c.in_ok-insert.ensures c.in_ok-want.ensures in
    let all = subst (λ (ks : List Key). HasMore (marks ks) (reached c.args.code ∷ first) todo) c.new-wanted.ensures.empty more in
    c.in_ok-keys.ensures.is ∙ marked_same d os (length os) todo (reached c.args.code ∷ first) (same_more (reached c.args.code ∷ first) todo all)
