use Rattle.std.proofs.Common.{◌≡◌, ◌++◌, drop}
use Rattle.m5_keys.specs.Keys.{watchers_of}
use Rattle.m5_keys.proofs.keys.watchers_among.Given as goal

-- the watchers so far, and those of the watches that are left
abbrev pub invariant-loop-watch : goal.invariant-loop-watch
invariant-loop-watch l = l.watchers ++ watchers_of (drop l.watch-index l.watches) l.key ≡ watchers_of l.watches l.key
