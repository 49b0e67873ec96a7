use Rattle.std.proofs.Common.{◌++◌, ◌∙◌, ap, sym, List, ℕ}
use Rattle.m5_marshal.specs.code.Keys.{marks}
use Rattle.m5_marshal.proofs.Written.{parts_sent, content_is}
use Rattle.m5_marshal.proofs.writing.put_content.Goals as goal

pub put_parts-requires-clause-sent : goal.put_parts-requires-clause-sent
put_parts-requires-clause-sent c = parts_sent c.args.dicts.now c.args.region.now.objects (marks c.args.keys.now) c.args.key c.opened-parts.result c.requires.fit c.opened-parts.ensures.is c.requires.sent

pub returns : goal.returns
returns c =
    c.in_ok-put_parts.ensures
    ∙ ap (λ (x : List ℕ). c.args.out.now.items ++ x) (sym (content_is c.args.dicts.now c.args.region.now.objects (marks c.args.keys.now) c.args.own c.args.key c.opened-parts.result c.requires.fit c.opened-parts.ensures.is))
