use Rattle.std.proofs.Common.{◌∙◌}
use Rattle.m5_terms.proofs.Tables.{put_in, was_in}
use Rattle.m5_terms.proofs.table.Table.replace.Goals as goal

pub returns-clause-entries : goal.returns-clause-entries
returns-clause-entries g c =
    put_in _ c.grow.new.self _ c.args.number c.args.entry _ c.self.view_is c.in_ok-grow.ensures.entries c.in_ok-grow.ensures.room c.replace.ensures.after

pub returns-clause-was : goal.returns-clause-was
returns-clause-was g c =
    c.replace.ensures.value
    ∙ (c.index_mut.ensures.value
    ∙ was_in _ c.grow.new.self _ c.args.number _ c.self.view_is c.in_ok-grow.ensures.entries c.in_ok-grow.ensures.room)
