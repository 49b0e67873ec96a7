use Rattle.std.proofs.Common.{◌∷◌, [], List, length, slice_get, subst, IsTrue, ◌↔◌}
use Rattle.m5_message.specs.Reading.{is_object_line}
use Rattle.m5_message.specs.Packing.{Reached, value_reaches}
use Rattle.m5_marshal.specs.declared.key.Key.{Key}
use Rattle.m5_marshal.specs.code.Keys.{reached, marks, to_mark, HasMore, sending}
use Rattle.m5_marshal.specs.code.Fits.{FewFit}
use Rattle.m5_marshal.proofs.KeySets.{more_more}
use Rattle.m5_marshal.proofs.Sendings.{same_more, marked_same}
use Rattle.m5_marshal.proofs.Starting.{thread_kinded}
use Rattle.m5_marshal.proofs.premise.all_fit.Goals as goal

pub are_fit-requires : goal.are_fit-requires
are_fit-requires c q e =
    let d = c.args.dicts.now in
    let os = c.args.region.now.objects in
    let t = sending c.args.code c.args.argument c.args.argument_id in
    let first = value_reaches (is_object_line (slice_get d.types t.argument_id)) t.argument_id t.argument in
    let todo = to_mark c.want.new.todo in
    let more = more_more (marks c.new-wanted.result.keys) (to_mark c.insert.new.todo) todo (reached c.args.code ∷ []) first c.in_ok-insert.ensures c.in_ok-want.ensures in
    let all = subst (λ (ks : List Key). HasMore (marks ks) (reached c.args.code ∷ first) todo) c.new-wanted.ensures.empty more in
    thread_kinded d os t c.requires q (all.only q e)

pub returns : goal.returns
returns c =
    let d = c.args.dicts.now in
    let os = c.args.region.now.objects in
    let t = sending c.args.code c.args.argument c.args.argument_id in
    let first = value_reaches (is_object_line (slice_get d.types t.argument_id)) t.argument_id t.argument in
    let todo = to_mark c.want.new.todo in
    let more = more_more (marks c.new-wanted.result.keys) (to_mark c.insert.new.todo) todo (reached c.args.code ∷ []) first c.in_ok-insert.ensures c.in_ok-want.ensures in
    let all = subst (λ (ks : List Key). HasMore (marks ks) (reached c.args.code ∷ first) todo) c.new-wanted.ensures.empty more in
    subst (λ (ps : List Reached). IsTrue c.in_ok-fit.fit ↔ FewFit d os ps) (marked_same d os (length os) todo (reached c.args.code ∷ first) (same_more (reached c.args.code ∷ first) todo all)) c.in_ok-fit.ensures
