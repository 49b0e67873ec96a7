use Rattle.std.proofs.Common.{sym}
use Rattle.m5_source_site.proofs.resume.take_news.Goals as goal

pub returns-in_ok-take_item-in-Message : goal.returns-in_ok-take_item-in-Message
returns-in_ok-take_item-in-Message c = rw c.in-Message.is (sym (c.in_ok-take_item-in-Message.ensures c.args.here c.in-Message.field-0))
