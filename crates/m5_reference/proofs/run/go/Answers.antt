use Rattle.std.proofs.Common.{◌≡◌, List, All, IfOk, sym, ap, subst, ◌∙◌}
use Rattle.m5_script.specs.Scenario.{Scenario, IsScript}
use Rattle.m5_script.specs.declared.items.SiteName.{SiteName}
use Rattle.m5_network.specs.Plain.{sites_of}
use Rattle.m5_reference.specs.Budget.{with_lesser_budget}
use Rattle.m5_reference.specs.Running.{TakesTurns, RoundsEnd}
use Rattle.m5_reference.proofs.Claims.{lesser-budget-is-script}
use Rattle.m5_network.specs.Laws.{IsSiteNamed}
use Rattle.m5_reference.proofs.WholeRuns.{order-sites, round-sites, are-held, ends}
use Rattle.m5_reference.proofs.run.go.Goals as goal

pub returns-in-Wrong : goal.returns-in-Wrong
returns-in-Wrong c = λ N h.
    let S : Scenario = with_lesser_budget c.args.script.now in
    let order : c.as_slice.result.now ≡ S.order = c.as_slice.ensures ∙ ap (λ (T : Scenario). T.order) c.script.view_is in
    let named : All (IsSiteNamed S.sessions) c.as_slice.result.now = subst (All (IsSiteNamed S.sessions)) (sym order) (order-sites S (lesser-budget-is-script c.args.script.now c.requires.script)) in
    rw c.in-Wrong.is at (c.in_ok-take_turns.ensures.turned S N c.requires.limits h named)

pub take_turns-requires-clause-names : goal.take_turns-requires-clause-names
take_turns-requires-clause-names c =
    let S : Scenario = with_lesser_budget c.args.script.now in
    let order : c.as_slice.result.now ≡ S.order = c.as_slice.ensures ∙ ap (λ (T : Scenario). T.order) c.script.view_is in
    are-held S _ c.as_slice.result.now c.requires.opens.count (subst (All (IsSiteNamed S.sessions)) (sym order) (order-sites S (lesser-budget-is-script c.args.script.now c.requires.script)))

pub take_rounds-requires-clause-names : goal.take_rounds-requires-clause-names
take_rounds-requires-clause-names c =
    let S : Scenario = with_lesser_budget c.args.script.now in
    let names : c.as_slice-2.result.now ≡ sites_of S.sessions = c.as_slice-2.ensures.value ∙ (c.in_ok-names.ensures ∙ ap (λ (T : Scenario). sites_of T.sessions) c.script.view_is) in
    are-held S _ c.as_slice-2.result.now (c.in_ok-take_turns.ensures.ready.count ∙ c.requires.opens.count) (subst (All (IsSiteNamed S.sessions)) (sym names) (round-sites S))

pub returns : goal.returns
returns c = λ N h.
    let S : Scenario = with_lesser_budget c.args.script.now in
    let order : c.as_slice.result.now ≡ S.order = c.as_slice.ensures ∙ ap (λ (T : Scenario). T.order) c.script.view_is in
    let names : c.as_slice-2.result.now ≡ sites_of S.sessions = c.as_slice-2.ensures.value ∙ (c.in_ok-names.ensures ∙ ap (λ (T : Scenario). sites_of T.sessions) c.script.view_is) in
    let script : IsScript S = lesser-budget-is-script c.args.script.now c.requires.script in
    let named : All (IsSiteNamed S.sessions) c.as_slice.result.now = subst (All (IsSiteNamed S.sessions)) (sym order) (order-sites S script) in
    let Taken : List SiteName → Type 0 = λ xs. TakesTurns c.args.program.now S N xs c.args.running.now c.take_turns.new.running in
    let turns : Taken S.order = subst Taken order (rw c.in-On.is at (c.in_ok-take_turns.ensures.turned S N c.requires.limits h named)) in
    let all : All (IsSiteNamed S.sessions) c.as_slice-2.result.now = subst (All (IsSiteNamed S.sessions)) (sym names) (round-sites S) in
    let Rounded : List SiteName → Type 0 = λ xs. IfOk c.take_rounds.result (RoundsEnd c.args.program.now S turns.after xs c.take_turns.new.running c.take_rounds.new.running) in
    ends c.take_rounds.result c.args.program.now S N c.args.running.now c.take_turns.new.running c.take_rounds.new.running script turns
    (subst Rounded names (c.take_rounds.ensures.turned S turns.after c.requires.limits turns.made.stands all))
