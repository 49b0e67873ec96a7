use Rattle.std.proofs.Common.{arith, sym, subst, ◌∙◌, ◌≡◌, Option, List, length, IfSome}
use Rattle.m5_region.specs.declared.value.Value.{Value}
use Rattle.m5_region.proofs.Reading.{array_facts}
use Rattle.m5_region.proofs.lookup.field_count_at.Goals as goal

pub bounds-starts-at : goal.bounds-starts-at
bounds-starts-at c = (array_facts _ _ _ _ c.requires.spells c.requires.there).index

pub number_at-requires : goal.number_at-requires
number_at-requires c = (array_facts _ _ _ _ c.requires.spells c.requires.there).bytes

pub overflow_cast-result : goal.overflow_cast-result
overflow_cast-result c = let f = array_facts _ _ _ _ c.requires.spells c.requires.there in omega (arith, f.small, f.count, c.number_at.ensures)

pub returns : goal.returns
returns c =
    let f = array_facts _ _ _ _ c.requires.spells c.requires.there in
    subst (λ (o : Option (List Value)). IfSome o (λ vs. c.number_at.result ≡ length vs)) (sym f.is) (c.number_at.ensures ∙ f.count)
