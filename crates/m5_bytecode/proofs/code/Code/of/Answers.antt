use Rattle.std.proofs.Common.{rules, ◌∙◌, ap, arith, count_by, length}
use Rattle.m5_bytecode.specs.code.Bodies.{has_block}
use Rattle.m5_bytecode.proofs.Sizes.{count_blocks}
use Rattle.m5_bytecode.proofs.code.Code.of.Goals as goal

pub returns-then-count_labels-gt65535-clause-none : goal.returns-then-count_labels-gt65535-clause-none
returns-then-count_labels-gt65535-clause-none c = λ s.
    let n = c.count_labels.ensures ∙ ap (count_by has_block) c.starts-2.ensures ∙ count_blocks c.args.blocks 0 c.args.blocks.starts in
    omega (arith, n, s.count, c.if-count_labels-gt65535.true)

pub invariant_of-result : goal.invariant_of-result
invariant_of-result c =
    let n = c.count_labels.ensures ∙ ap (count_by has_block) c.starts-2.ensures ∙ count_blocks c.args.blocks 0 c.args.blocks.starts in
    record {
      flat = c.is_flat.ensures;
      steps = search rules;
      small = search rules;
      labels = omega (arith, c.if-starts-gt65536.false, ap length c.starts.ensures);
      count = omega (arith, n, c.if-count_labels-gt65535.false);
      short = search rules;
    }
