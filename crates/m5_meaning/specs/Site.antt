-- Programs, threads and sites of the meaning by substitution.
use Rattle.std.specs.Prelude.{ℕ, ◌+◌, Bool, List, sum_by}
use Rattle.m5_terms.specs.Expression.{Expression}
use Rattle.m5_typing.specs.Program.{ProgramTerm}
use Rattle.m5_terms.specs.Size.{frame_size, focus_size}
use Rattle.m5_terms.specs.declared.thread.Frame.{Frame}
use Rattle.m5_terms.specs.declared.thread.Focus.{Focus}

-- the declared functions, which terms name by their place, and the term that each home begins with
abbrev pub Program : Type 0
Program = ProgramTerm

-- what waits for a value and what is looked at; the frames from the top to the bottom, while the
-- thread of a message has them from the bottom to the top
pub record Thread : Type 0 where
  pub frames : List Frame
  pub focus : Focus

-- the frames, the nodes of frames and focus, and the bytes of their texts
abbrev pub thread_size : Thread → ℕ
thread_size t = sum_by frame_size t.frames + focus_size t.focus

-- the front thread is the one that runs; steps and weight are those so far
pub record Site : Type 0 where
  pub threads : List Thread
  pub cells : List Expression
  pub handlers : List Expression
  pub steps : ℕ
  pub weight : ℕ
  pub stopped : Bool

-- what goes along a source link: a thread, or bytes that no site sealed
pub data Item : Type 0 where
  thread : Thread → Item
  raw : List ℕ → Item
