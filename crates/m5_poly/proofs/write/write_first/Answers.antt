use Rattle.std.proofs.Common.{sym}
use Rattle.m5_poly.specs.code.Views.{scope_of, bracketed_of}
use Rattle.m5_poly.proofs.Writing.{wrote_use}
use Rattle.m5_poly.proofs.write.write_first.Goals as goal

-- a use is written as its instance's name
pub returns-clause-ok : goal.returns-clause-ok
returns-clause-ok c =
    rw (c.in_ok-put.ensures, c.in_ok-token.ensures.token, c.bytes.ensures.bytes, c.in_ok-number.ensures, c.place.ensures)
    (wrote_use c.args.source.now.text.now.generics c.args.source.now.made.now (scope_of c.args.scope.now) c.args.out.now c.args.tokens.now c.in-Some.more.now c.in-Some.first.now
    (bracketed_of c.in-Some-use_at.naming) c.in-Some-used.generic c.in-Some.ensures.cases.0 (sym c.in-Some-use_at.ensures.found) (sym c.in-Some-used.ensures))
