use Rattle.m5_marshal.specs.code.Ids.{words}
use Rattle.m5_marshal.proofs.Rooted.{label_read, no_label, not_passed}
use Rattle.m5_marshal.proofs.root.label_of.Goals as goal

pub returns-in-Err : goal.returns-in-Err
returns-in-Err c = λ os rest i e h. absurd (not_passed c.args.dicts.now c.args.format (words c.args.ids.now) c.args.root i c.args.contents.now os rest c.in-Err.field-0 e h c.in-Err.ensures)

pub returns-in-None : goal.returns-in-None
returns-in-None c = λ os rest i e h. absurd (no_label c.args.dicts.now c.args.format (words c.args.ids.now) c.args.root i c.args.contents.now c.in-Ok.rest.now os rest e h c.in-Ok.ensures c.in-None.ensures)

pub returns-in-Some : goal.returns-in-Some
returns-in-Some c = λ os rest i e h. label_read c.args.dicts.now c.args.format (words c.args.ids.now) c.args.root i c.args.contents.now c.in-Ok.rest.now os rest c.in-Some.label _ e h c.in-Ok.ensures c.in-Some.ensures
