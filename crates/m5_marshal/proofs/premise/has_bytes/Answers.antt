use Rattle.std.proofs.Common.{◌↔◌, slice_get, subst, refl, IsTrue}
use Rattle.m5_message.specs.Packing.{sent_from}
use Rattle.m5_message.specs.Spelling.{IsOf}
use Rattle.m5_marshal.specs.Pack.{HasBytes}
use Rattle.m5_marshal.specs.code.Keys.{sending}
use Rattle.m5_marshal.specs.code.Fits.{Within, FewFit}
use Rattle.m5_marshal.proofs.Starting.{starts_bytes, if_ok_to}
use Rattle.m5_marshal.proofs.premise.has_bytes.Goals as goal

pub returns-else-not-is_of : goal.returns-else-not-is_of
returns-else-not-is_of c =
    let d = c.args.dicts.now in
    let os = c.args.region.now.objects in
    let t = sending c.in-Some.code c.args.thread.now.argument c.in-Some.argument_id in
    let argument = subst (λ n. IsOf (Within d n) t.argument_id (slice_get d.types t.argument_id) t.argument) c.count.ensures (c.if-not-is_of.ensures.0 refl) in
    if_ok_to (λ b. IsTrue b ↔ FewFit d os (sent_from d os t)) (λ b. IsTrue b ↔ HasBytes d os c.args.thread.now) c.all_fit.result (starts_bytes d os c.args.thread.now t c.in-Some.ensures.some argument) c.all_fit.ensures
