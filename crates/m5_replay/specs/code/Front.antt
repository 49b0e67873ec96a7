-- What a local step may make deeper: the top frame and the focus of the thread that runs.
use Rattle.std.specs.Prelude.{Bool, true, ◌&&◌, List, [], ◌∷◌}
use Rattle.m5_terms.specs.declared.thread.Frame.{Frame}
use Rattle.m5_meaning.specs.Site.{Thread}
use Rattle.m5_replay.specs.Depth.{is_shallow_frame, is_shallow_focus}

abbrev pub is_shallow_top : List Frame → Bool
is_shallow_top [] = true
is_shallow_top (f ∷ fs) = is_shallow_frame f

-- no top frame and no focus of the front thread is deeper than the budget
abbrev pub is_shallow_front : List Thread → Bool
is_shallow_front [] = true
is_shallow_front (t ∷ ts) = is_shallow_top t.frames && is_shallow_focus t.focus
