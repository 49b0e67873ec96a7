use Rattle.std.proofs.Common.{◌∙◌, sym, ap, subst}
use Rattle.m5_message.specs.Packing.{IsSendable, packed}
use Rattle.m5_marshal.proofs.Sendings.{entered_at, thread_is}
use Rattle.m5_marshal.proofs.packing.pack.Goals as goal

pub argument_of-argument_id-requires : goal.argument_of-argument_id-requires
argument_of-argument_id-requires c =
    let r = c.requires in
    entered_at c.args.dicts.now r.0 c.args.region.now.objects c.args.thread.now r.1 c.target-at.result r.2 r.3 c.target-at.ensures

pub pairs-requires : goal.pairs-requires
pairs-requires c =
    let r = c.requires in
    let d = c.args.dicts.now in
    let os = c.args.region.now.objects in
    let is = thread_is d r.0 os c.args.thread.now r.1 (record { at = c.target-at.result; id = c.function_of-id.result }) c.argument_of-argument_id.result c.types.result.now c.are_dictionaries.ensures r.2 r.3 c.target-at.ensures c.argument_of-argument_id.ensures c.types.ensures c.function_of-id.ensures in
    (r.0, subst (IsSendable d r.0 os) is r.3)

pub spelled-requires-clause-sendable : goal.spelled-requires-clause-sendable
spelled-requires-clause-sendable c =
    let r = c.requires in
    let d = c.args.dicts.now in
    let os = c.args.region.now.objects in
    let is = thread_is d r.0 os c.args.thread.now r.1 (record { at = c.target-at.result; id = c.function_of-id.result }) c.argument_of-argument_id.result c.types.result.now c.are_dictionaries.ensures r.2 r.3 c.target-at.ensures c.argument_of-argument_id.ensures c.types.ensures c.function_of-id.ensures in
    (r.0, subst (IsSendable d r.0 os) is r.3)

pub returns : goal.returns
returns c w t th h =
    let d = c.args.dicts.now in
    let os = c.args.region.now.objects in
    let is = thread_is d w os c.args.thread.now t (record { at = c.target-at.result; id = c.function_of-id.result }) c.argument_of-argument_id.result c.types.result.now c.are_dictionaries.ensures th h c.target-at.ensures c.argument_of-argument_id.ensures c.types.ensures c.function_of-id.ensures in
    c.in_ok-text.ensures ∙ c.as_slice.ensures.value ∙ c.in_ok-out.ensures w (subst (IsSendable d w os) is h) ∙ ap (packed d w c.args.seal.now.0 os) (sym is)
