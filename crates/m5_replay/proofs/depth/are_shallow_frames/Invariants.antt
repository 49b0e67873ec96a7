use Rattle.std.proofs.Common.{◌≡◌, true, take}
use Rattle.std.specs.List.{list_all}
use Rattle.m5_replay.specs.Depth.{is_shallow_frame}
use Rattle.m5_replay.proofs.depth.are_shallow_frames.Given as goal

-- those before this one are
abbrev pub invariant-loop-index : goal.invariant-loop-index
invariant-loop-index l = list_all is_shallow_frame (take l.index l.frames) ≡ true
