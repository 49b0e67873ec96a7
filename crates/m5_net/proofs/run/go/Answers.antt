use Rattle.std.proofs.Common.{◌≡◌, List, All, IfOk, sym, ap, subst, ◌∙◌}
use Rattle.m5_script.specs.Scenario.{Scenario}
use Rattle.m5_script.specs.declared.items.SiteName.{SiteName}
use Rattle.m5_network.specs.Laws.{IsSiteNamed}
use Rattle.m5_network.specs.Opening.{opening_of}
use Rattle.m5_network.specs.Plain.{sites_of}
use Rattle.m5_site.specs.Kind.{object_kind, limits_of}
use Rattle.m5_net.specs.Running.{TakesTurns, TurnsEnd, RoundsEnd}
use Rattle.m5_net.specs.Turning.{Net}
use Rattle.m5_net.specs.declared.running.Going.TheVariants as going
use Rattle.m5_net.proofs.WholeRuns.{order_sites, round_sites, are_held, strands_first, ends}
use Rattle.m5_net.proofs.run.go.Goals as goal

pub returns-in-Wrong : goal.returns-in-Wrong
returns-in-Wrong c =
    let O = c.args.object.now in
    let S : Scenario = c.args.script.now in
    let n = limits_of S in
    let N : Net O n = opening_of (object_kind O n) S in
    let order : c.as_slice.result.now ≡ S.order = c.as_slice.ensures ∙ ap (λ (T : Scenario). T.order) c.script.view_is in
    let named : All (IsSiteNamed S.sessions) c.as_slice.result.now = subst (All (IsSiteNamed S.sessions)) (sym order) (order_sites S c.requires.script) in
    let Ended : List SiteName → Type 0 = λ xs. TurnsEnd O n S.sessions N xs c.args.running.now c.take_turns.new.running (going.Wrong c.in-Wrong.site c.in-Wrong.label) in
    strands_first O S c.args.running.now c.take_turns.new.running c.in-Wrong.site c.in-Wrong.label
    (subst Ended order (rw c.in-Wrong.is at (c.in_ok-take_turns.ensures.turned n S.sessions N c.requires.opens.stands named)))

pub take_turns-requires-clause-names : goal.take_turns-requires-clause-names
take_turns-requires-clause-names c =
    let S : Scenario = c.args.script.now in
    let order : c.as_slice.result.now ≡ S.order = c.as_slice.ensures ∙ ap (λ (T : Scenario). T.order) c.script.view_is in
    are_held S _ c.as_slice.result.now c.requires.opens.count (subst (All (IsSiteNamed S.sessions)) (sym order) (order_sites S c.requires.script))

pub take_rounds-requires-clause-names : goal.take_rounds-requires-clause-names
take_rounds-requires-clause-names c =
    let S : Scenario = c.args.script.now in
    let names : c.as_slice-2.result.now ≡ sites_of S.sessions = c.as_slice-2.ensures.value ∙ (c.in_ok-names.ensures ∙ ap (λ (T : Scenario). sites_of T.sessions) c.script.view_is) in
    are_held S _ c.as_slice-2.result.now (c.in_ok-take_turns.ensures.ready.count ∙ c.requires.opens.count) (subst (All (IsSiteNamed S.sessions)) (sym names) (round_sites S))

pub returns : goal.returns
returns c =
    let O = c.args.object.now in
    let S : Scenario = c.args.script.now in
    let n = limits_of S in
    let N : Net O n = opening_of (object_kind O n) S in
    let order : c.as_slice.result.now ≡ S.order = c.as_slice.ensures ∙ ap (λ (T : Scenario). T.order) c.script.view_is in
    let names : c.as_slice-2.result.now ≡ sites_of S.sessions = c.as_slice-2.ensures.value ∙ (c.in_ok-names.ensures ∙ ap (λ (T : Scenario). sites_of T.sessions) c.script.view_is) in
    let named : All (IsSiteNamed S.sessions) c.as_slice.result.now = subst (All (IsSiteNamed S.sessions)) (sym order) (order_sites S c.requires.script) in
    let Taken : List SiteName → Type 0 = λ xs. TakesTurns O n S.sessions N xs c.args.running.now c.take_turns.new.running in
    let turns : Taken S.order = subst Taken order (rw c.in-On.is at (c.in_ok-take_turns.ensures.turned n S.sessions N c.requires.opens.stands named)) in
    let all : All (IsSiteNamed S.sessions) c.as_slice-2.result.now = subst (All (IsSiteNamed S.sessions)) (sym names) (round_sites S) in
    let Rounded : List SiteName → Type 0 = λ xs. IfOk c.take_rounds.result (RoundsEnd O n S.sessions turns.after xs c.take_turns.new.running c.take_rounds.new.running) in
    ends c.take_rounds.result O S c.args.running.now c.take_turns.new.running c.take_rounds.new.running turns
    (subst Rounded names (c.take_rounds.ensures.turned n S.sessions turns.after turns.made.stands all))
