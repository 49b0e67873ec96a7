use Rattle.std.proofs.Common.{◌≡◌, take}
use Rattle.m5_lex.specs.Place.{after}
use Rattle.m5_lex.proofs.Placing.{Passed}
use Rattle.m5_lex.proofs.place.Place.after.Given as goal

-- the place after the bytes passed so far
abbrev pub invariant-loop-byte : goal.invariant-loop-byte
invariant-loop-byte l = (l.place ≡ after l.fn.self (take l.byte-index l.bytes)) × Passed l.fn.self l.place l.byte-index
