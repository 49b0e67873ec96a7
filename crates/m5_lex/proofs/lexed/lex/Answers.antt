use Rattle.std.proofs.Common.{◌-◌, length, take, drop, refl, arith}
use Rattle.std.proofs.lemmas.List.{length-take, length-drop}
use Rattle.m5_lex.proofs.Taking.{lines_fit, columns_fit, goes_on}
use Rattle.m5_lex.proofs.lexed.lex.Goals as goal

pub take_lexeme-requires-clause-line : goal.take_lexeme-requires-clause-line
take_lexeme-requires-clause-line c = lines_fit c.args.text.now c.loop-at.at _ _ _ c.loop-at.invariant c.requires
    (omega (arith, length-take (length c.args.text.now - c.loop-at.at) (drop c.loop-at.at c.args.text.now), length-drop c.loop-at.at c.args.text.now))

pub take_lexeme-requires-clause-column : goal.take_lexeme-requires-clause-column
take_lexeme-requires-clause-column c = columns_fit c.args.text.now c.loop-at.at _ _ _ c.loop-at.invariant c.requires
    (omega (arith, length-take (length c.args.text.now - c.loop-at.at) (drop c.loop-at.at c.args.text.now), length-drop c.loop-at.at c.args.text.now))

pub after-place-requires-clause-line : goal.after-place-requires-clause-line
after-place-requires-clause-line c = lines_fit c.args.text.now c.loop-at.at _ _ _ c.loop-at.invariant c.requires
    (omega (arith, length-take c.in_ok-length.length (take (length c.args.text.now - c.loop-at.at) (drop c.loop-at.at c.args.text.now)), length-take (length c.args.text.now - c.loop-at.at) (drop c.loop-at.at c.args.text.now), length-drop c.loop-at.at c.args.text.now))

pub after-place-requires-clause-column : goal.after-place-requires-clause-column
after-place-requires-clause-column c = columns_fit c.args.text.now c.loop-at.at _ _ _ c.loop-at.invariant c.requires
    (omega (arith, length-take c.in_ok-length.length (take (length c.args.text.now - c.loop-at.at) (drop c.loop-at.at c.args.text.now)), length-take (length c.args.text.now - c.loop-at.at) (drop c.loop-at.at c.args.text.now), length-drop c.loop-at.at c.args.text.now))

pub loop-at-preserved : goal.loop-at-preserved
loop-at-preserved c =
    rw c.after-place.ensures
    (goes_on c.args.text.now c.loop-at.at c.in_ok-length.length c.loop-at.place c.loop-at.tokens c.take_lexeme.new.tokens
    (take (length c.args.text.now - c.loop-at.at) (drop c.loop-at.at c.args.text.now)) c.loop-at.invariant refl
    c.in_ok-length.ensures.within.0 c.in_ok-length.ensures.within.1 c.in_ok-length.ensures.count c.in_ok-length.ensures.ending c.in_ok-length.ensures.ok)
