use Rattle.std.proofs.Common.{◌≡◌, sym, subst}
use Rattle.m5_tree.specs.declared.tree.Tree.{Tree}
use Rattle.m5_terms.specs.Outcome.{found}
use Rattle.m5_scope.specs.Program.{tree_resolved}
use Rattle.m5_front.proofs.Accepting.{one_answer, resolved_accepts}
use Rattle.m5_front.proofs.program.names_of.Goals as goal

pub returns-in-Err-clause-accepted : goal.returns-in-Err-clause-accepted
returns-in-Err-clause-accepted c = λ tree raw h. c.in-Err.ensures.accepted tree h.has_tree

-- the tree is the text's one, and so is what it resolves to
pub returns-in-Ok-resolve-clause-accepted : goal.returns-in-Ok-resolve-clause-accepted
returns-in-Ok-resolve-clause-accepted c = λ tree raw h.
    let same : c.in-Ok.tree ≡ tree = c.in-Ok.ensures.accepted tree h.has_tree in
    (same, one_answer c.args.tokens.now tree c.in-Ok.tree raw c.in-Ok-resolve.raw same c.in-Ok-resolve.ensures.found h)

-- the tree is the text's one, and its names have no fault
pub returns-in-Err-resolve-clause-accepted : goal.returns-in-Err-resolve-clause-accepted
returns-in-Err-resolve-clause-accepted c = λ tree raw h.
    let same : tree ≡ c.in-Ok.tree = sym (c.in-Ok.ensures.accepted tree h.has_tree) in
    let P : Tree → Type 0 = λ t. tree_resolved t.names t.program ≡ found raw in
    resolved_accepts _ raw c.in-Err-resolve.end c.scope_end.result (subst P same h.resolved) c.in-Err-resolve.ensures.fault c.scope_end.ensures
