use Rattle.std.proofs.Common.{ap, sym, subst, ◌∙◌, Some}
use Rattle.m5_region.specs.Region.{Refers}
use Rattle.m5_region.proofs.Reading.{field_facts}
use Rattle.m5_region.proofs.lookup.field_at.Goals as goal

pub returns-clause-is : goal.returns-clause-is
returns-clause-is c =
    let f = field_facts _ _ _ _ _ c.requires.spells c.requires.there in
    let e = c.value_of.ensures in
    f.is ∙ ap Some (sym (simp (c.number_at.ensures, c.field_unit-unit.ensures.unit) at e))

pub returns-clause-older : goal.returns-clause-older
returns-clause-older c =
    let f = field_facts _ _ _ _ _ c.requires.spells c.requires.there in
    let e = c.value_of.ensures in
    subst (Refers _) (sym (simp (c.number_at.ensures, c.field_unit-unit.ensures.unit) at e)) f.older

pub returns-clause-refers : goal.returns-clause-refers
returns-clause-refers c =
    let f = field_facts _ _ _ _ _ c.requires.spells c.requires.there in
    let e = c.value_of.ensures in
    subst (Refers _) (sym (simp (c.number_at.ensures, c.field_unit-unit.ensures.unit) at e)) f.refers
