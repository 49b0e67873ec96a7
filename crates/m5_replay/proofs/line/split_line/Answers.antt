use Rattle.m5_replay.proofs.Lines.{split-parted, split-whole}
use Rattle.m5_replay.proofs.line.split_line.Goals as goal

pub returns-then-end-bytes-clause-lines : goal.returns-then-end-bytes-clause-lines
returns-then-end-bytes-clause-lines c = split-whole c.args.bytes.now _ _ c.line_feed-end.result c.requires c.line_feed-end.ensures.count c.if-end-bytes.true c.split_at.ensures.front c.split_at.ensures.back

pub returns-else-end-bytes-clause-lines : goal.returns-else-end-bytes-clause-lines
returns-else-end-bytes-clause-lines c = split-parted c.args.bytes.now _ _ c.line_feed-end.result c.line_feed-end.ensures.count c.line_feed-end.ensures.within c.if-end-bytes.false c.split_at-else-end-bytes.ensures.front c.split_at-else-end-bytes.ensures.back
