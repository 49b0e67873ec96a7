use Rattle.std.proofs.Common.{◌-◌, ◌∙◌, ap, sym, subst, length, take, drop, Result, Err, IfOk, Some, None, refl, ℕ}
use Rattle.m5_region.specs.declared.queue.Ready.{Ready}
use Rattle.m5_message.specs.Message.{BadField, by_offset, version_at}
use Rattle.m5_marshal.specs.declared.unpacking.UnpackEnd.{UnpackEnd}
use Rattle.m5_marshal.specs.Unpack.{Unpacks, AreThere, StandsAt}
use Rattle.m5_marshal.proofs.Wholes.{unsealed, sealed, whole_when, cut_back, back_is}
use Rattle.m5_marshal.proofs.unpacking.unpack.Goals as goal

pub returns-then-not-starts_with-clause-is : goal.returns-then-not-starts_with-clause-is
returns-then-not-starts_with-clause-is c = (unsealed c.args.dicts.now c.args.world c.args.seal.now.0 c.args.bytes.now c.if-not-starts_with.ensures.value, refl)

pub returns-in-Ok-Some-clause-is : goal.returns-in-Ok-Some-clause-is
returns-in-Ok-Some-clause-is c =
    let e = whole_when c.args.dicts.now c.args.world c.args.region.now (version_at c.args.dicts.now c.args.world (take (length c.args.bytes.now - 8) (drop 8 c.args.bytes.now))) c.in-Ok-Some.field-0 (Some c.in-Ok-Some.ready) c.read_version.new.region c.in-Ok-Some.field-0-is c.in-Ok-Some.ensures in
    (e.0, sealed c.args.dicts.now c.args.world c.args.seal.now.0 c.args.bytes.now c.if-not-starts_with.ensures.value ∙ ap (by_offset (length c.args.bytes.now)) (ap (version_at c.args.dicts.now c.args.world) (sym (back_is 8 c.args.bytes.now)) ∙ e.1), e.2, e.3)

pub returns-in-Ok-None-clause-is : goal.returns-in-Ok-None-clause-is
returns-in-Ok-None-clause-is c =
    let e = whole_when c.args.dicts.now c.args.world c.args.region.now (version_at c.args.dicts.now c.args.world (take (length c.args.bytes.now - 8) (drop 8 c.args.bytes.now))) c.in-Ok-None.field-0 None c.read_version.new.region c.in-Ok-None.field-0-is c.in-Ok-None.ensures in
    let kept = c.refused.ensures.objects ∙ ap (λ (n : ℕ). take n c.read_version.new.region.objects) c.count-count.ensures in
    subst (λ (r : Result Ready UnpackEnd). Unpacks c.args.dicts.now c.args.world c.args.seal.now.0 c.args.bytes.now c.args.region.now r c.refused.new.region) (sym c.refused.ensures.end) (
      e.0,
      sealed c.args.dicts.now c.args.world c.args.seal.now.0 c.args.bytes.now c.if-not-starts_with.ensures.value ∙ ap (by_offset (length c.args.bytes.now)) (ap (version_at c.args.dicts.now c.args.world) (sym (back_is 8 c.args.bytes.now)) ∙ e.1),
      e.2,
      cut_back c.args.region.now c.read_version.new.region c.refused.new.region e.3 kept c.refused.ensures.left,
    )

pub returns-in-Err-clause-is : goal.returns-in-Err-clause-is
returns-in-Err-clause-is c =
    let kept = c.refused-in-Err.ensures.objects ∙ ap (λ (n : ℕ). take n c.read_version.new.region.objects) c.count-count.ensures in
    subst (λ (r : Result Ready UnpackEnd). Unpacks c.args.dicts.now c.args.world c.args.seal.now.0 c.args.bytes.now c.args.region.now r c.refused-in-Err.new.region) (sym c.refused-in-Err.ensures.end) (
      sealed c.args.dicts.now c.args.world c.args.seal.now.0 c.args.bytes.now c.if-not-starts_with.ensures.value
          ∙ ap (by_offset (length c.args.bytes.now)) (ap (version_at c.args.dicts.now c.args.world) (sym (back_is 8 c.args.bytes.now)) ∙ c.in-Err.ensures.0)
          ∙ ap (λ (n : ℕ). Err (BadField n)) (sym c.saturating_sub-offset.ensures),
      cut_back c.args.region.now c.read_version.new.region c.refused-in-Err.new.region c.in-Err.ensures.1 kept c.refused-in-Err.ensures.left,
    )

pub returns-in-Ok-Some-clause-refers : goal.returns-in-Ok-Some-clause-refers
returns-in-Ok-Some-clause-refers c =
    let e = whole_when c.args.dicts.now c.args.world c.args.region.now (version_at c.args.dicts.now c.args.world (take (length c.args.bytes.now - 8) (drop 8 c.args.bytes.now))) c.in-Ok-Some.field-0 (Some c.in-Ok-Some.ready) c.read_version.new.region c.in-Ok-Some.field-0-is c.in-Ok-Some.ensures in
    e.4

pub returns-in-Ok-Some-clause-stands : goal.returns-in-Ok-Some-clause-stands
returns-in-Ok-Some-clause-stands c =
    let e = whole_when c.args.dicts.now c.args.world c.args.region.now (version_at c.args.dicts.now c.args.world (take (length c.args.bytes.now - 8) (drop 8 c.args.bytes.now))) c.in-Ok-Some.field-0 (Some c.in-Ok-Some.ready) c.read_version.new.region c.in-Ok-Some.field-0-is c.in-Ok-Some.ensures in
    e.5

pub returns-in-Ok-None-clause-refers : goal.returns-in-Ok-None-clause-refers
returns-in-Ok-None-clause-refers c = subst (λ (r : Result Ready UnpackEnd). IfOk r (AreThere c.refused.new.region.objects)) (sym c.refused.ensures.end) tt

pub returns-in-Ok-None-clause-stands : goal.returns-in-Ok-None-clause-stands
returns-in-Ok-None-clause-stands c = subst (λ (r : Result Ready UnpackEnd). IfOk r (StandsAt c.args.dicts.now c.args.world c.refused.new.region.objects)) (sym c.refused.ensures.end) tt

pub returns-in-Err-clause-refers : goal.returns-in-Err-clause-refers
returns-in-Err-clause-refers c = subst (λ (r : Result Ready UnpackEnd). IfOk r (AreThere c.refused-in-Err.new.region.objects)) (sym c.refused-in-Err.ensures.end) tt

pub returns-in-Err-clause-stands : goal.returns-in-Err-clause-stands
returns-in-Err-clause-stands c = subst (λ (r : Result Ready UnpackEnd). IfOk r (StandsAt c.args.dicts.now c.args.world c.refused-in-Err.new.region.objects)) (sym c.refused-in-Err.ensures.end) tt
