use Rattle.std.proofs.Common.{◌∙◌, [], ◌∷◌, slice_get, sym, subst}
use Rattle.m5_message.specs.Reading.{Whole, Parts}
use Rattle.m5_marshal.specs.code.Opened.{others_of}
use Rattle.m5_marshal.specs.code.Keys.{reached, OpensAs}
use Rattle.m5_marshal.proofs.Fields.{fit_closes}
use Rattle.m5_marshal.proofs.Fitting.{shape, closes_fit, text_closes, parts_close, closed_parts, shape_fields}
use Rattle.m5_marshal.proofs.fits.is_fit.Goals as goal

pub are_of-requires : goal.are_of-requires
are_of-requires c =
    let d = c.args.dicts.now in
    let os = c.args.region.now.objects in
    let h = subst (OpensAs d os c.args.key) c.in-Some-Pair.field-0-is c.in-Some-Pair.ensures.some in
    shape_fields os c.args.key.at h.0 [] (others_of c.in-Some-Pair.others) h.1 (shape d c.args.key.id (slice_get d.types c.args.key.id) h.0 (Parts [] (others_of c.in-Some-Pair.others)) h.2)

pub are_of-requires-in-Some-Parts : goal.are_of-requires-in-Some-Parts
are_of-requires-in-Some-Parts c =
    let d = c.args.dicts.now in
    let os = c.args.region.now.objects in
    let first = c.in-Some-Parts.field-0-0 in
    let h = subst (OpensAs d os c.args.key) c.in-Some-Parts.field-0-is c.in-Some-Parts.ensures.some in
    shape_fields os c.args.key.at h.0 (first ∷ []) (others_of c.in-Some-Parts.others) h.1 (shape d c.args.key.id (slice_get d.types c.args.key.id) h.0 (Parts (first ∷ []) (others_of c.in-Some-Parts.others)) h.2)

pub returns-in-Some-Whole : goal.returns-in-Some-Whole
returns-in-Some-Whole c =
    let d = c.args.dicts.now in
    let os = c.args.region.now.objects in
    let bytes = c.in-Some-Whole.bytes.now in
    let h = subst (OpensAs d os c.args.key) c.in-Some-Whole.field-0-is c.in-Some-Whole.ensures.some in (
      λ t. closes_fit d os (reached c.args.key) h.0 (Whole bytes) h.1 h.2
          (text_closes d os c.args.key.at h.0 bytes h.1 c.refers_to_older.ensures (shape d c.args.key.id (slice_get d.types c.args.key.id) h.0 (Whole bytes) h.2) (sym c.is_text.ensures ∙ t)),
      λ fit. c.is_text.ensures ∙ (fit_closes d os (reached c.args.key) h.0 (Whole bytes) h.1 fit h.2).2,
    )

pub returns-in-Some-Pair : goal.returns-in-Some-Pair
returns-in-Some-Pair c =
    let d = c.args.dicts.now in
    let os = c.args.region.now.objects in
    let others = others_of c.in-Some-Pair.others in
    let h = subst (OpensAs d os c.args.key) c.in-Some-Pair.field-0-is c.in-Some-Pair.ensures.some in (
      λ t. closes_fit d os (reached c.args.key) h.0 (Parts [] others) h.1 h.2
          (parts_close d os c.args.key.at h.0 [] others h.1 (shape d c.args.key.id (slice_get d.types c.args.key.id) h.0 (Parts [] others) h.2) (c.are_of.ensures.0 t)),
      λ fit. c.are_of.ensures.1 (closed_parts d os c.args.key.at h.0 [] others h.1 (fit_closes d os (reached c.args.key) h.0 (Parts [] others) h.1 fit h.2)),
    )

pub returns-in-Some-Parts : goal.returns-in-Some-Parts
returns-in-Some-Parts c =
    let d = c.args.dicts.now in
    let os = c.args.region.now.objects in
    let others = others_of c.in-Some-Parts.others in
    let first = c.in-Some-Parts.field-0-0 ∷ [] in
    let h = subst (OpensAs d os c.args.key) c.in-Some-Parts.field-0-is c.in-Some-Parts.ensures.some in (
      λ t. closes_fit d os (reached c.args.key) h.0 (Parts first others) h.1 h.2
          (parts_close d os c.args.key.at h.0 first others h.1 (shape d c.args.key.id (slice_get d.types c.args.key.id) h.0 (Parts first others) h.2) (c.are_of-in-Some-Parts.ensures.0 t)),
      λ fit. c.are_of-in-Some-Parts.ensures.1 (closed_parts d os c.args.key.at h.0 first others h.1 (fit_closes d os (reached c.args.key) h.0 (Parts first others) h.1 fit h.2)),
    )
