use Rattle.std.proofs.Common.{◌∙◌, ap, sym, subst, Result, ℕ}
use Rattle.m5_message.specs.Message.{Message, body_at}
use Rattle.m5_message.specs.declared.format.Format.TheVariants.{Second}
use Rattle.m5_marshal.specs.code.Tail.{ReadsWhole}
use Rattle.m5_marshal.proofs.Wholes.{version_none, version_first, version_second, version_other, nothing_added, back_is}
use Rattle.m5_marshal.proofs.unpacking.read_version.Goals as goal

pub returns-then-is_empty : goal.returns-then-is_empty
returns-then-is_empty c = (version_none c.args.dicts.now c.args.world c.args.bytes.now c.if-is_empty.ensures, nothing_added c.args.region.now)

pub returns-then-version-eq0 : goal.returns-then-version-eq0
returns-then-version-eq0 c =
    let e = version_first c.args.dicts.now c.args.world c.args.bytes.now c.if-is_empty.ensures c.if-version-eq0.true in
    subst (λ (r : Result Message ℕ). ReadsWhole c.args.dicts.now c.args.world c.args.region.now r c.read_body.result c.read_body.new.region) (sym e) c.read_body.ensures

pub returns-then-version-eq2 : goal.returns-then-version-eq2
returns-then-version-eq2 c =
    let e = version_second c.args.dicts.now c.args.world c.args.bytes.now c.if-version-eq2.true ∙ ap (body_at c.args.dicts.now c.args.world Second) (sym (back_is 1 c.args.bytes.now)) in
    subst (λ (r : Result Message ℕ). ReadsWhole c.args.dicts.now c.args.world c.args.region.now r c.read_body-then-version-eq2.result c.read_body-then-version-eq2.new.region) (sym e) c.read_body-then-version-eq2.ensures

pub returns : goal.returns
returns c = (version_other c.args.dicts.now c.args.world c.args.bytes.now c.if-version-eq0.false c.if-version-eq2.false, nothing_added c.args.region.now)
