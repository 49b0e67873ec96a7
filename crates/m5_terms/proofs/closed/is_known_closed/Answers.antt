use Rattle.std.proofs.Common.{subst}
use Rattle.m5_terms.specs.Closed.{IsClosed}
use Rattle.m5_terms.specs.Opened.{viewed_unary}
use Rattle.m5_terms.proofs.ClosedTerms.{unary-closed, binary-closed, ternary-closed}
use Rattle.m5_terms.proofs.closed.is_known_closed.Goals as goal

pub returns-in-Unary : goal.returns-in-Unary
returns-in-Unary c = λ h.
    subst IsClosed c.in-Unary.ensures.value (unary-closed (viewed_unary c.in-Unary.field-0) c.in-Unary.first.now (c.is_known_closed.ensures h))

pub returns-in-Binary : goal.returns-in-Binary
returns-in-Binary c = λ h.
    subst IsClosed c.in-Binary.ensures.value
    (binary-closed c.in-Binary.field-0 c.in-Binary.first.now c.in-Binary.second.now (c.are_known_closed.ensures.first h) (c.are_known_closed.ensures.second h))

pub returns-then-is_known_closed : goal.returns-then-is_known_closed
returns-then-is_known_closed c = λ h.
    subst IsClosed c.in-Ternary.ensures.value
    (ternary-closed c.in-Ternary.field-0 c.in-Ternary.first.now c.in-Ternary.second.now c.in-Ternary.third.now
    (c.is_known_closed-in-Ternary.ensures c.if-is_known_closed.true)
    (c.are_known_closed-then-is_known_closed.ensures.first h)
    (c.are_known_closed-then-is_known_closed.ensures.second h))
