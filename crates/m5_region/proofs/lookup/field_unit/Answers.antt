use Rattle.m5_region.proofs.Reading.{field_facts}
use Rattle.m5_region.proofs.lookup.field_unit.Goals as goal

pub bounds-starts-at : goal.bounds-starts-at
bounds-starts-at c = (field_facts _ _ _ _ _ c.requires.spells c.requires.there).index

pub returns-clause-kinds : goal.returns-clause-kinds
returns-clause-kinds c = (field_facts _ _ _ _ _ c.requires.spells c.requires.there).unit

pub returns-clause-content : goal.returns-clause-content
returns-clause-content c = (field_facts _ _ _ _ _ c.requires.spells c.requires.there).bytes
