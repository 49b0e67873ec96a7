-- Whether the terms of a site are within the budget of depth.
use Rattle.std.specs.Prelude.{ℕ, Bool, true, ◌&&◌, nat_le}
use Rattle.std.specs.List.{list_all}
use Rattle.m5_terms.specs.Expression.{Expression}
use Rattle.m5_terms.specs.Depth.{depth}
use Rattle.m5_terms.specs.declared.thread.Frame.{Frame}
use Rattle.m5_terms.specs.declared.thread.Frame.TheVariants.{Part, Return}
use Rattle.m5_terms.specs.declared.thread.Focus.{Focus}
use Rattle.m5_terms.specs.declared.thread.Focus.TheVariants.{Eval, Returned}
use Rattle.m5_meaning.specs.Site.{Thread, Site}

-- the budget of a site's depth
abbrev pub most_depth : ℕ
most_depth = 4096

abbrev pub is_shallow : Expression → Bool
is_shallow e = nat_le (depth e) most_depth

abbrev pub is_shallow_frame : Frame → Bool
is_shallow_frame (Part w e hole) = is_shallow e
is_shallow_frame (Return w) = true

abbrev pub is_shallow_focus : Focus → Bool
is_shallow_focus (Eval w e) = is_shallow e
is_shallow_focus (Returned w e) = is_shallow e

abbrev pub is_shallow_thread : Thread → Bool
is_shallow_thread t = list_all is_shallow_frame t.frames && is_shallow_focus t.focus

-- no frame, focus, cell or handler is deeper than the budget
abbrev pub is_shallow_site : Site → Bool
is_shallow_site x = list_all is_shallow_thread x.threads && (list_all is_shallow x.cells && list_all is_shallow x.handlers)
