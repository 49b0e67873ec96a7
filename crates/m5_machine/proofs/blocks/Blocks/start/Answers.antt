use Rattle.std.proofs.Common.{arith, ap, subst, ◌∙◌, ◌≡◌, length, ◌<◌, Some, None}
use Rattle.m5_machine.specs.Blocks.{Flat, StartOf, start_of, start_in}
use Rattle.m5_machine.proofs.Places.{item_there, no_item, none_start, some_start}
use Rattle.m5_machine.proofs.blocks.Blocks.start.Goals as goal

pub returns-else-label-len : goal.returns-else-label-len
returns-else-label-len c = subst (λ (f : Flat). start_of f c.args.label ≡ None) c.self.view_is (ap start_in (no_item c.self.inside.starts.items c.args.label (omega arith)))

pub returns-else-start : goal.returns-else-start
returns-else-start c =
    let h : c.args.label < length c.self.inside.starts.items = omega arith in
    subst (λ (f : Flat). start_of f c.args.label ≡ None) c.self.view_is (ap start_in (item_there _ _ _ h c.index-start.ensures) ∙ none_start _ (omega arith))

found : (c : goal.Then-start) → start_of (record { starts = c.self.inside.starts.items; steps = c.self.inside.steps.items }) c.args.label ≡ Some c.index-start.result.now
found c =
    let h : c.args.label < length c.self.inside.starts.items = omega arith in
    ap start_in (item_there _ _ _ h c.index-start.ensures) ∙ some_start _ (λ e. omega arith)

pub returns-then-start : goal.returns-then-start
returns-then-start c = subst (λ (f : Flat). StartOf f c.args.label (Some c.index-start.result.now)) c.self.view_is (found c, c.self.invariant.starts _ _ (found c))
