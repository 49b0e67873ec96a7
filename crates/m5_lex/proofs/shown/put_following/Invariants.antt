use Rattle.std.proofs.Common.{◌≡◌, ◌++◌, map, take}
use Rattle.std.specs.List.{flat_map}
use Rattle.m5_lex.specs.Shown.{parted}
use Rattle.m5_lex.proofs.shown.put_following.Given as goal

abbrev pub invariant-loop-placed : goal.invariant-loop-placed
invariant-loop-placed l = l.out.items ≡ l.fn.out.items ++ flat_map parted (map (λ p. p.token) (take l.placed-index l.tokens))
