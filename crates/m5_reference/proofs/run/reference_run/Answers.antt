use Rattle.std.proofs.Common.{◌≡◌, subst}
use Rattle.m5_meaning.specs.Site.{Program}
use Rattle.m5_script.specs.Scenario.{Scenario}
use Rattle.m5_network.specs.Opening.{opening}
use Rattle.m5_reference.specs.Budget.{with_lesser_budget}
use Rattle.m5_reference.specs.Finishing.{Opens, Finishes, OrderEnds}
use Rattle.m5_reference.specs.Running.{Strands}
use Rattle.m5_reference.specs.declared.running.Going.TheVariants as going
use Rattle.m5_reference.proofs.Claims.{lesser-budget-is-script}
use Rattle.m5_reference.proofs.WholeRuns.{never-strands, is-reference-run}
use Rattle.m5_reference.proofs.run.reference_run.Goals as goal

pub returns : goal.returns
returns c =
    let S : Scenario = with_lesser_budget c.args.script.now in
    let same : c.of-measured.result ≡ c.args.program.now = c.of-measured.ensures in
    let opens : Opens c.args.program.now S c.in_ok-running.running = subst (λ (P : Program). Opens P S c.in_ok-running.running) same c.in_ok-running.ensures in
    let ran : OrderEnds c.of-measured.result S (opening c.of-measured.result S) c.in_ok-running.running c.go.new.running going.On = rw c.in-On.is at (c.in_ok-go.ensures (opening c.of-measured.result S) c.in_ok-running.ensures.stands) in
    let finishes : Finishes c.args.program.now S (opening c.args.program.now S) c.in_ok-running.running c.go.new.running = subst (λ (P : Program). Finishes P S (opening P S) c.in_ok-running.running c.go.new.running) same ran in
    is-reference-run c.args.program.now S c.in_ok-running.running c.go.new.running c.in_ok-end.end c.functions-functions.ensures.typed (lesser-budget-is-script c.args.script.now c.limits_of-limits.ensures.script) opens.entries finishes c.in_ok-end.ensures

pub unreachable-requires : goal.unreachable-requires
unreachable-requires c =
    let S : Scenario = with_lesser_budget c.args.script.now in
    let same : c.of-measured.result ≡ c.args.program.now = c.of-measured.ensures in
    let ran : OrderEnds c.of-measured.result S (opening c.of-measured.result S) c.in_ok-running.running c.go.new.running going.Wrong = rw c.in-Wrong.is at (c.in_ok-go.ensures (opening c.of-measured.result S) c.in_ok-running.ensures.stands) in
    let strands : Strands c.args.program.now S (opening c.args.program.now S) = subst (λ (P : Program). Strands P S (opening P S)) same ran in
    never-strands c.args.program.now S c.functions-functions.ensures.typed (lesser-budget-is-script c.args.script.now c.limits_of-limits.ensures.script) strands
