use Rattle.std.proofs.Common.{sym, ◌∙◌, ap, arith}
use Rattle.m5_poly.specs.Roles.{is_sign}
use Rattle.m5_poly.specs.code.Views.{scope_of}
use Rattle.m5_poly.proofs.Arguments.{comma_next, code_next}
use Rattle.m5_poly.proofs.uses.arguments_of.Goals as goal
use Rattle.m5_poly.proofs.uses.arguments_of.Goals.{then-is_sign+in_ok-stripped+in_ok-push, else-is_sign+in_ok-put_read}

-- a comma ends the part, and another token goes on with it
pub loop-placed-preserved : goal.loop-placed-preserved
loop-placed-preserved c = elim c.if-is_sign.branch [
  | then-is_sign+in_ok-stripped+in_ok-push w ↦
      rw (w.arguments-is, w.part-is, w.in_ok-push.ensures.items, w.make-part-then-is_sign.ensures, w.in_ok-stripped.ensures)
      (sym (comma_next (scope_of c.args.scope.now) c.args.content.now c.loop-placed.placed-index c.placed-item.result c.loop-placed.part c.loop-placed.arguments.items
      (omega arith) c.placed-item.is (ap (is_sign 4) (sym c.token.ensures.token) ∙ sym c.is_sign.ensures ∙ w.if-is_sign.true)) ∙ c.loop-placed.invariant)
  | else-is_sign+in_ok-put_read w ↦
      rw (
        w.arguments-is,
        w.part-is,
        w.in_ok-put_read.ensures,
        ← code_next (scope_of c.args.scope.now) c.args.content.now c.loop-placed.placed-index c.placed-item.result c.loop-placed.part
            (omega arith) c.placed-item.is (ap (is_sign 4) (sym c.token.ensures.token) ∙ sym c.is_sign.ensures ∙ w.if-is_sign.false),
      )
      c.loop-placed.invariant
]
