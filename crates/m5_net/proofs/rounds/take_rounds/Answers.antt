use Rattle.std.proofs.Common.{ℕ, All, refl, sym, subst, ◌∙◌}
use Rattle.m5_network.specs.Plain.{joined}
use Rattle.m5_net.specs.Running.{IsNamed}
use Rattle.m5_net.proofs.TurnLists.{no_rounds, next_round, last_round, strands_rounds, silent_round, busy_round}
use Rattle.m5_net.proofs.rounds.take_rounds.Goals as goal

pub rounds-init : goal.rounds-init
rounds-init c = (record { count = refl; ready = c.requires.ready }, λ n count N h a. no_rounds c.args.object.now n count N c.args.names.now c.args.running.now h)

-- as many sessions are held in each round
pub take_turns-requires-clause-names : goal.take_turns-requires-clause-names
take_turns-requires-clause-names c = subst (λ (n : ℕ). All (IsNamed n) c.args.names.now) (sym c.rounds.invariant.0.count) c.requires.names

pub returns-in-Wrong-clause-turned : goal.returns-in-Wrong-clause-turned
returns-in-Wrong-clause-turned c = λ n count N h a.
    let before = c.rounds.invariant.1 n count N h a in
    strands_rounds c.args.object.now n count N c.args.names.now c.args.running.now c.rounds.running c.take_turns.new.running c.in-Wrong.site c.in-Wrong.label before
    (rw c.in-Wrong.is at (c.in_ok-take_turns.ensures.turned n count before.after before.made.stands a))

pub returns-then-count-before-clause-turned : goal.returns-then-count-before-clause-turned
returns-then-count-before-clause-turned c = λ n count N h a.
    let before = c.rounds.invariant.1 n count N h a in
    let round = rw c.in-On.is at (c.in_ok-take_turns.ensures.turned n count before.after before.made.stands a) in
    last_round c.args.object.now n count N c.args.names.now c.args.running.now c.rounds.running c.take_turns.new.running before round
    (silent_round c.args.object.now n count c.rounds.running c.take_turns.new.running (joined round.deeds) round.after round.made (sym c.count.ensures ∙ (c.if-count-before.true ∙ c.count-before.ensures)))

pub rounds-preserved : goal.rounds-preserved
rounds-preserved c = (
  record { count = c.in_ok-take_turns.ensures.ready.count ∙ c.rounds.invariant.0.count; ready = c.in_ok-take_turns.ensures.ready.ready },
  λ n count N h a.
      let before = c.rounds.invariant.1 n count N h a in
      let round = rw c.in-On.is at (c.in_ok-take_turns.ensures.turned n count before.after before.made.stands a) in
      next_round c.args.object.now n count N c.args.names.now c.args.running.now c.rounds.running c.take_turns.new.running before round
      (busy_round c.args.object.now n count c.rounds.running c.take_turns.new.running (joined round.deeds) round.after round.made (λ e. c.if-count-before.false (c.count.ensures ∙ (e ∙ sym c.count-before.ensures)))),
)
