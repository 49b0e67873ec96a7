use Rattle.m5_region.proofs.Reading.{text_facts}
use Rattle.m5_region.proofs.lookup.text_range.Goals as goal

pub bounds-starts-at : goal.bounds-starts-at
bounds-starts-at c = (text_facts _ _ _ _ c.requires.spells c.requires.there).index

pub number_at-requires : goal.number_at-requires
number_at-requires c = (text_facts _ _ _ _ c.requires.spells c.requires.there).header

pub returns-clause-within : goal.returns-clause-within
returns-clause-within c = rw c.number_at.ensures (text_facts _ _ _ _ c.requires.spells c.requires.there).within

pub returns-clause-bytes : goal.returns-clause-bytes
returns-clause-bytes c = rw c.number_at.ensures (text_facts _ _ _ _ c.requires.spells c.requires.there).is
