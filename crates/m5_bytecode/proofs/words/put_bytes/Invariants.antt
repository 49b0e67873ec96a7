use Rattle.std.proofs.Common.{◌≡◌, ◌++◌, take}
use Rattle.m5_bytecode.specs.Listing.{operands}
use Rattle.m5_bytecode.proofs.words.put_bytes.Given as goal

abbrev pub invariant-loop-byte : goal.invariant-loop-byte
invariant-loop-byte l = l.out.items ≡ l.fn.out.items ++ operands (take l.byte-index l.bytes)
