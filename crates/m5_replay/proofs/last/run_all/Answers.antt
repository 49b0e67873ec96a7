use Rattle.std.proofs.Common.{refl, ◌∙◌}
use Rattle.m5_terms.specs.declared.types.World.TheVariants.{Home}
use Rattle.m5_script.specs.declared.items.SiteName.{SiteName}
use Rattle.m5_replay.proofs.RunSites.{none-ahead, among, stands-next, next-ahead, all-ahead, beyond-next}
use Rattle.m5_replay.proofs.last.run_all.Goals as goal

-- what a list gives past its end
abbrev past : SiteName
past = record { session = 0; world = Home }

pub sites-init : goal.sites-init
sites-init c = (c.requires.ready, refl, λ S N l e h. none-ahead c.args.program.now S N c.args.names.now c.args.running.now e h)

pub run_to_ask-requires-clause-session : goal.run_to_ask-requires-clause-session
run_to_ask-requires-clause-session c = let a = among c.args.limits.sessions c.sites.name-index past c.args.names.now c.requires.names c.sites-test.true in (a.from_one, a.to_last)

pub run_to_ask-requires-clause-world : goal.run_to_ask-requires-clause-world
run_to_ask-requires-clause-world c = (among c.args.limits.sessions c.sites.name-index past c.args.names.now c.requires.names c.sites-test.true).world

pub sites-preserved : goal.sites-preserved
sites-preserved c = (
  c.in_ok-now.ensures.ready,
  c.in_ok-now.ensures.stops ∙ c.sites.invariant.1,
  λ S N l e h.
      let before = c.sites.invariant.2 S N l e h in
      let here = stands-next c.args.program.now S N c.args.limits.sessions c.args.names.now c.sites.name-index past c.sites.quiet c.args.running.now c.sites.running c.requires.names l.sessions c.sites-test.true before in
      next-ahead c.args.program.now S N c.args.limits.sessions c.args.names.now c.sites.name-index past c.sites.quiet c.in-Some.now c.args.running.now c.sites.running c.run_to_ask.new.running c.requires.names c.sites-test.true before
      (rw c.in-Some.is at (c.in_ok-now.ensures.run S N l here before.board)) c.in_ok-now.ensures.left,
)

pub returns-in-None-clause-run : goal.returns-in-None-clause-run
returns-in-None-clause-run c = λ S N l e h.
    let before = c.sites.invariant.2 S N l e h in
    let here = stands-next c.args.program.now S N c.args.limits.sessions c.args.names.now c.sites.name-index past c.sites.quiet c.args.running.now c.sites.running c.requires.names l.sessions c.sites-test.true before in
    beyond-next c.args.program.now S N c.args.limits.sessions c.args.names.now c.sites.name-index past c.sites.quiet c.args.running.now c.sites.running c.requires.names l.sessions c.sites-test.true before
    (rw c.in-None.is at (c.in_ok-now.ensures.run S N l here before.board))

pub returns-clause-run : goal.returns-clause-run
returns-clause-run c = λ S N l e h. all-ahead c.args.program.now S N c.args.limits.sessions c.args.names.now c.sites.name-index c.sites.quiet c.args.running.now c.sites.running c.requires.names l.sessions c.sites-test.false (c.sites.invariant.2 S N l e h)
