use Rattle.std.proofs.Common.{sym, subst, List, [], ◌∷◌}
use Rattle.m5_marshal.specs.declared.key.Key.{Key}
use Rattle.m5_marshal.specs.code.Keys.{reached, marks, HasMore}
use Rattle.m5_marshal.proofs.KeySets.{insert_more}
use Rattle.m5_marshal.proofs.marking.insert.Goals as goal

pub returns : goal.returns
returns c =
    subst (λ (ks : List Key). HasMore (marks c.args.todo.now.keys) (reached c.args.key ∷ []) (marks ks)) (sym c.in_ok-insert.ensures.keys) (insert_more c.args.todo.now.keys c.args.key)
