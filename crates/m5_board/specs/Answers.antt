-- What the code's answer says.
use Rattle.std.specs.Prelude.{◌≡◌, ℕ, Bool, List, [], ◌∷◌, ◌++◌}
use Rattle.m5_terms.specs.declared.ask.AskOf.{AskOf}
use Rattle.m5_terms.specs.declared.types.World.{World}
use Rattle.m5_keys.specs.declared.watch.Watcher.{Watcher}
use Rattle.m5_network.specs.Board.{Trigger, Desk, answer_of, at_session}
use Rattle.m5_network.specs.Board as network
use Rattle.m5_network.specs.Entries.{shown}
use Rattle.m5_board.specs.Boards.{BoardLists, board_of}
use Rattle.m5_board.specs.declared.board.Answered.{Answered}

-- the reply, the board after it, and what the history shows of the deed
pub record IsAnsweredBy {Item : Type 0} (seal : Item → Bool) (x : network.Answered Item) (q : AskOf Item) (new : BoardLists Item) (a : Answered Item) : Type 0 where
  pub reply : a.reply ≡ x.reply
  pub board : board_of new ≡ x.board
  pub act : a.act ≡ shown seal q a.reply

-- by the board's answer to what session s asks at w
abbrev pub IsAnswered : {Item : Type 0} → (Item → Bool) → ℕ → World → AskOf Item → BoardLists Item → BoardLists Item → Answered Item → Type 0
IsAnswered seal s w q old new a = IsAnsweredBy seal (answer_of (board_of old) s w q) q new a

-- the session's desk with the trigger behind the others, and every other one stays
abbrev pub fired : {Item : Type 0} → Trigger → ℕ → (ℕ → Desk Item) → ℕ → Desk Item
fired t s desks = at_session s (record (desks s) { triggers = (desks s).triggers ++ t ∷ [] }) desks

-- one trigger for each watcher, in order of registration, to its session
abbrev pub told : {Item : Type 0} → List ℕ → List ℕ → List Watcher → (ℕ → Desk Item) → ℕ → Desk Item
told key text [] desks = desks
told key text (w ∷ ws) desks = told key text ws (fired (record { key = key; number = w.number; text = text }) w.session desks)
