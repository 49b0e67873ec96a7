use Rattle.std.proofs.Common.{◌≡◌, ◌∙◌, ◌++◌, ◌∷◌, [], List, ap, length, subst, sym, arith}
use Rattle.m5_terms.specs.TypeExpression.{TypeExpression}
use Rattle.m5_cps.specs.declared.types.TypeRow.{TypeRow}
use Rattle.m5_cps.specs.code.Rows.{types_of, AreTypes, IsSettled}
use Rattle.m5_cps.specs.TypesByNumber.{row_type}
use Rattle.m5_cps.proofs.TypeRows.{push, types_pushed, settled_same}
use Rattle.m5_cps.proofs.types.Types.push.Goals as goal

settled : (c : goal.In_ok-push) → IsSettled c.args.row (length c.self.inside.rows.items) c.settled_row-settled.result
settled c =
    let e : c.len.result ≡ length c.self.inside.rows.items = omega (arith, c.len.ensures) in
    subst (λ n. IsSettled c.args.row n c.settled_row-settled.result) e c.settled_row-settled.ensures

pub invariant_of-self-2 : goal.invariant_of-self-2
invariant_of-self-2 c =
    types_pushed c.self.inside.rows.items _ c.args.row _ c.self.invariant (settled c)
    c.in_ok-push.ensures.items

pub returns-clause-ok : goal.returns-clause-ok
returns-clause-ok c =
    ap types_of c.in_ok-push.ensures.items
    ∙ (push c.self.inside.rows.items c.settled_row-settled.result
    ∙ (ap (λ (l : List TypeExpression). l ++ row_type l c.settled_row-settled.result ∷ []) c.self.view_is
    ∙ ap (λ A. c.args.self.now ++ A ∷ [])
    (settled_same c.self.inside.rows.items c.args.self.now c.args.row _ c.self.invariant c.self.view_is
    (settled c))))
