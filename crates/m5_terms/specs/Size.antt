-- The size of a thread: its frames, its nodes and the bytes of its texts.
use Rattle.std.specs.Prelude.{ℕ, ◌+◌, List, length, sum_by}
use Rattle.m5_terms.specs.Expression.{Expression, leaf, unary, binary, ternary}
use Rattle.m5_terms.specs.declared.form.LeafForm.{LeafForm}
use Rattle.m5_terms.specs.declared.form.LeafForm.TheVariants as leaf_form
use Rattle.m5_terms.specs.declared.thread.Frame.{Frame}
use Rattle.m5_terms.specs.declared.thread.Frame.TheVariants.{Part, Return}
use Rattle.m5_terms.specs.declared.thread.Focus.{Focus}
use Rattle.m5_terms.specs.declared.thread.Focus.TheVariants.{Eval, Returned}
use Rattle.m5_terms.specs.declared.thread.Thread.{Thread}

abbrev pub text_size : LeafForm → ℕ
text_size (leaf_form.Str s) = length s
text_size _ = 0

abbrev pub node_size : Expression → ℕ
node_size (leaf f) = 1 + text_size f
node_size (unary f a) = 1 + node_size a
node_size (binary f a b) = 1 + (node_size a + node_size b)
node_size (ternary f a b c) = 1 + (node_size a + (node_size b + node_size c))

abbrev pub frame_size : Frame → ℕ
frame_size (Part w e hole) = 1 + node_size e
frame_size (Return w) = 1

abbrev pub frames_size : List Frame → ℕ
frames_size fs = sum_by frame_size fs

abbrev pub focus_size : Focus → ℕ
focus_size (Eval w e) = node_size e
focus_size (Returned w e) = node_size e

abbrev pub thread_size : Thread → ℕ
thread_size t = frames_size t.frames + focus_size t.focus
