use Rattle.m5_replay.proofs.settle.look.Goals as goal

pub returns-clause-looked : goal.returns-clause-looked
returns-clause-looked c = λ S h.
    let with = c.weight_with-with.ensures c.args.here c.args.site c.in_ok-next.ensures.next c.weight-weight.ensures in
    c.next_or_end.ensures.looked c.args.program.now S c.args.here c.args.cause c.args.site c.in_ok-next.ensures.next
    (c.stop_here.ensures c.args.program.now S c.args.here c.args.site h c.is_idle-is_idle.ensures c.steps-steps.ensures with)

pub returns-clause-closed : goal.returns-clause-closed
returns-clause-closed c = c.next_or_end.ensures.closed c.args.program.now c.args.here c.in_ok-next.ensures.closed
