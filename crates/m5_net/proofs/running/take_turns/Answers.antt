use Rattle.std.proofs.Common.{List, length, refl, subst, ◌∙◌}
use Rattle.std.proofs.lemmas.List.Elements.{All-get_or}
use Rattle.std.proofs.lemmas.List.{take_all}
use Rattle.m5_terms.specs.declared.types.World.TheVariants.{Home}
use Rattle.m5_script.specs.declared.items.SiteName.{SiteName}
use Rattle.m5_network.specs.Kinds.{IsAmong}
use Rattle.m5_net.specs.Running.{IsNamed, TakesTurns}
use Rattle.m5_net.proofs.TurnLists.{no_turns, next_turn, stuck_there}
use Rattle.m5_net.proofs.running.take_turns.Goals as goal

-- what a list gives past its end
abbrev past : SiteName
past = record { session = 0; world = Home }

pub turns-init : goal.turns-init
turns-init c = (record { count = refl; ready = c.requires.ready }, λ n count N h a. no_turns c.args.object.now n count N c.args.running.now h)

pub take_turn-requires-clause-ready : goal.take_turn-requires-clause-ready
take_turn-requires-clause-ready c = c.turns.invariant.0.ready

pub take_turn-requires-clause-name : goal.take_turn-requires-clause-name
take_turn-requires-clause-name c = rw c.turns.invariant.0.count (All-get_or (IsNamed (length c.args.running.now.sites.items)) c.args.names.now c.turns.name-index past c.turns-test.true c.requires.names)

pub returns-in-Wrong-clause-turned : goal.returns-in-Wrong-clause-turned
returns-in-Wrong-clause-turned c = λ n count N h a.
    let before = c.turns.invariant.1 n count N h a in
    let site = All-get_or (λ (x : SiteName). IsAmong count x.session x.world) c.args.names.now c.turns.name-index past c.turns-test.true a in
    stuck_there c.args.object.now n count N c.args.names.now c.turns.name-index past c.in-Wrong.site c.args.running.now c.turns.running c.take_turn.new.running c.in-Wrong.label c.turns-test.true before
    (rw c.in-Wrong.is at (c.in_ok-take_turn.ensures.turned n count before.after before.made.stands site))

pub returns-in-Wrong-clause-ready : goal.returns-in-Wrong-clause-ready
returns-in-Wrong-clause-ready c = record { count = c.in_ok-take_turn.ensures.ready.count ∙ c.turns.invariant.0.count; ready = c.in_ok-take_turn.ensures.ready.ready }

pub turns-preserved : goal.turns-preserved
turns-preserved c = (
  record { count = c.in_ok-take_turn.ensures.ready.count ∙ c.turns.invariant.0.count; ready = c.in_ok-take_turn.ensures.ready.ready },
  λ n count N h a.
      let before = c.turns.invariant.1 n count N h a in
      let site = All-get_or (λ (x : SiteName). IsAmong count x.session x.world) c.args.names.now c.turns.name-index past c.turns-test.true a in
      next_turn c.args.object.now n count N c.args.names.now c.turns.name-index past c.args.running.now c.turns.running c.take_turn.new.running c.turns-test.true before
      (rw c.in-On.is at (c.in_ok-take_turn.ensures.turned n count before.after before.made.stands site)),
)

pub returns-clause-turned : goal.returns-clause-turned
returns-clause-turned c = λ n count N h a. subst (λ (xs : List SiteName). TakesTurns c.args.object.now n count N xs c.args.running.now c.turns.running) (take_all c.turns.name-index c.args.names.now c.turns-test.false) (c.turns.invariant.1 n count N h a)

pub returns-clause-ready : goal.returns-clause-ready
returns-clause-ready c = c.turns.invariant.0
