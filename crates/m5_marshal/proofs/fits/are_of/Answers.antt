use Rattle.std.proofs.Common.{◌≡◌, ◌+◌, true, false, length, subst, arith, refl}
use Rattle.m5_marshal.specs.code.Opened.{others_of}
use Rattle.m5_marshal.specs.code.Keys.{values_behind}
use Rattle.m5_marshal.specs.code.Fits.{Within}
use Rattle.m5_marshal.proofs.Fields.{are_of_count, field_behind}
use Rattle.m5_marshal.proofs.Fitting.{behind_count, first_within, place_there, FitSoFar, fit_next, all_fits, one_fits}
use Rattle.m5_marshal.proofs.fits.are_of.Goals as goal

pub returns-then-count-fields : goal.returns-then-count-fields
returns-then-count-fields c = (
  λ t. absurd (let wrong : false ≡ true = t in cc),
  λ h.
      let count = are_of_count c.args.dicts.now (Within c.args.dicts.now c.args.at.0) (others_of c.args.others) (values_behind c.args.region.now.objects c.args.at.0 c.args.first) h in
      let behind = behind_count c.args.region.now.objects c.args.at.0 c.args.first c.fields.result c.requires c.fields.ensures in
      absurd (c.if-count-fields.true (omega (arith, count, behind, c.count_of-count.ensures))),
)

pub field-value-requires : goal.field-value-requires
field-value-requires c =
    let behind = first_within c.args.region.now.objects c.args.at.0 c.args.first c.fields.result c.requires c.fields.ensures in
    place_there c.args.region.now.objects c.args.at.0 c.args.first c.fields.result (c.args.first + c.loop-place.place) c.requires c.fields.ensures (omega arith)

pub returns-then-not-is_of : goal.returns-then-not-is_of
returns-then-not-is_of c = (
  λ t. absurd (let wrong : false ≡ true = t in cc),
  λ h.
      let value = field_behind c.args.region.now.objects c.args.at.0 c.args.first c.loop-place.place c.field-value.result c.field-value.ensures.is in
      c.if-not-is_of.ensures.1 (one_fits c.args.dicts.now (Within c.args.dicts.now c.args.at.0) (others_of c.args.others) (values_behind c.args.region.now.objects c.args.at.0 c.args.first) c.loop-place.place c.other_at-id.result c.field-value.result h c.other_at-id.ensures value),
)

pub loop-place-preserved : goal.loop-place-preserved
loop-place-preserved c =
    let value = field_behind c.args.region.now.objects c.args.at.0 c.args.first c.loop-place.place c.field-value.result c.field-value.ensures.is in
    fit_next c.args.dicts.now c.args.at.0 (others_of c.args.others) (values_behind c.args.region.now.objects c.args.at.0 c.args.first) c.loop-place.place c.other_at-id.result c.field-value.result c.loop-place.invariant c.other_at-id.ensures value (c.if-not-is_of.ensures.0 refl)

pub returns : goal.returns
returns c =
    let behind = behind_count c.args.region.now.objects c.args.at.0 c.args.first c.fields.result c.requires c.fields.ensures in
    let within = first_within c.args.region.now.objects c.args.at.0 c.args.first c.fields.result c.requires c.fields.ensures in
    let end : c.loop-place.place ≡ length (others_of c.args.others) = omega (arith, c.count_of-count.ensures) in (
      λ t. all_fits c.args.dicts.now c.args.at.0 (others_of c.args.others) (values_behind c.args.region.now.objects c.args.at.0 c.args.first) (omega (arith, behind, within, c.count_of-count.ensures))
          (subst (FitSoFar c.args.dicts.now c.args.at.0 (others_of c.args.others) (values_behind c.args.region.now.objects c.args.at.0 c.args.first)) end c.loop-place.invariant),
      λ h. refl,
    )
