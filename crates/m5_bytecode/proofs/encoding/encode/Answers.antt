use Rattle.std.proofs.Common.{◌≡◌, ◌∙◌, List, ℕ, ap, subst, arith, count_by, IfOk}
use Rattle.m5_bytecode.specs.code.Bodies.{has_block}
use Rattle.m5_bytecode.specs.Spelling.{code_bytes}
use Rattle.m5_bytecode.proofs.Sizes.{count_blocks}
use Rattle.m5_bytecode.proofs.Writing.{code_whole}
use Rattle.m5_bytecode.proofs.encoding.encode.Goals as goal

pub overflow_cast-count_labels : goal.overflow_cast-count_labels
overflow_cast-count_labels c =
    let count = c.count_labels.ensures ∙ ap (count_by has_block) c.starts.ensures ∙ count_blocks c.blocks-blocks.result.now 0 c.blocks-blocks.result.now.starts in
    omega (arith, count, c.blocks-blocks.ensures.server.count)

pub returns : goal.returns
returns c =
    let count = c.count_labels.ensures ∙ ap (count_by has_block) c.starts.ensures ∙ count_blocks c.blocks-blocks.result.now 0 c.blocks-blocks.result.now.starts in
    let whole = code_whole c.new-out.result.items c.put_two.new.out.items c.put_blocks.new.out.items c.count_labels.result c.blocks-blocks.result.now c.new-out.ensures.items c.in_ok-put_two.ensures count c.in_ok-put_blocks.ensures in
    let is = c.as_slice.ensures.value in
    subst (λ (xs : List ℕ). IfOk c.of.result (λ t. t ≡ xs)) (is ∙ whole ∙ ap code_bytes c.blocks-blocks.ensures.same) c.of.ensures
