use Rattle.std.proofs.Common.{arith}
use Rattle.std.specs.Vec.{vec_len}
use Rattle.m5_machine.specs.Blocks.{body_at}
use Rattle.m5_bytecode.specs.Spelling.{body_bytes}
use Rattle.m5_bytecode.proofs.Sizes.{body_length}
use Rattle.m5_bytecode.proofs.Writing.{length_set, length_small, block_whole}
use Rattle.m5_bytecode.proofs.encoding.put_block.Goals as goal

pub set_length-requires-clause-small : goal.set_length-requires-clause-small
set_length-requires-clause-small c =
    let long = body_length c.args.code.now c.args.start c.requires.body in
    length_small c.put_two.new.out.items c.put_four.new.out.items c.put_body.new.out.items (body_bytes (body_at c.args.code.now c.args.start)) c.len-from.result (vec_len c.put_body.new.out) (omega arith) (omega arith) c.in_ok-put_four.ensures c.in_ok-put_body.ensures (omega (arith, long, c.requires.small))

pub returns : goal.returns
returns c =
    block_whole c.args.out.now.items c.put_two.new.out.items c.set_length.new.out.items c.args.label (body_at c.args.code.now c.args.start) c.in_ok-put_two.ensures
    (length_set c.put_two.new.out.items c.put_four.new.out.items c.put_body.new.out.items c.set_length.new.out.items (body_bytes (body_at c.args.code.now c.args.start)) c.len-from.result (vec_len c.put_body.new.out) (omega arith) (omega arith) c.in_ok-put_four.ensures c.in_ok-put_body.ensures c.set_length.ensures)
