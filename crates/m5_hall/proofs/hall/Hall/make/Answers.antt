use Rattle.std.proofs.Common.{rules, ◌≡◌, List, [], ◌∷◌, Option, Some, sym, ap, subst}
use Rattle.atomic_table.specs.Table.{opening}
use Rattle.m5_hall.specs.Rule.{HallRule, first_view}
use Rattle.m5_hall.proofs.Cuts.{opens}
use Rattle.m5_hall.proofs.hall.Hall.make.Goals as goal

pub new-requires : goal.new-requires
new-requires g c =
    let begins = g.T.Kept.origin in
    let items : c.push.new.self.items ≡ Some c.args.value ∷ [] = search rules in
    subst (λ (xs : List (Option g.row.T.Denot)). HallRule g.T.Kept.history begins (begins c.of-about.result.value) (opening (0 ∷ 0 ∷ []) xs (first_view (begins c.of-about.result.value)))) (sym items)
    (opens g.T.Kept.history begins (begins c.of-about.result.value) c.args.value c.requires (ap begins (sym c.of-about.ensures)))
