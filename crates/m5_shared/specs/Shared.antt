-- What sites share, and what one ask makes of it.
use Rattle.std.specs.Prelude.{◌≡◌, ◌≢◌, ◌↔◌, ℕ, Bool, nat_eq, List, [], ◌∷◌, ◌++◌, sum_by}
use Rattle.std.specs.List.{AllByRecursion as Each, starts_with}
use Rattle.m5_terms.specs.Seal.{seal_bytes}
use Rattle.m5_terms.specs.Worlds.{site_worlds}
use Rattle.m5_terms.specs.declared.types.World.{World}
use Rattle.m5_terms.specs.declared.types.World.TheVariants.{Home, Server}
use Rattle.m5_terms.specs.declared.ask.AskOf.{AskOf}
use Rattle.m5_terms.specs.declared.ask.AskOf.TheVariants as ask
use Rattle.m5_terms.specs.declared.ask.AnswerOf.{AnswerOf}
use Rattle.m5_terms.specs.declared.ask.AnswerOf.TheVariants as answer
use Rattle.m5_terms.specs.declared.ask.Entry.{Entry}
use Rattle.m5_terms.specs.declared.ask.History.{History}
use Rattle.m5_network.specs.Board.{Board, Desk, answer_of, link}
use Rattle.m5_network.specs.Claim.{ending, stop_count}
use Rattle.m5_network.specs.Entries.{entry_of}
use Rattle.m5_board.specs.Boards.{BoardLists, board_of}

-- the board, and the entries of what it answered so far
pub record SharedBoard : Type 0 where
  pub board : BoardLists (List ℕ)
  pub entries : List Entry

-- bytes that begin with the seal of a session
abbrev pub is_sealed : ℕ → List ℕ → Bool
is_sealed s bytes = starts_with nat_eq bytes (seal_bytes s)

-- nothing lies in a link to the site; a home has no event left, and a server's session no trigger
pub record HasNothing (w : World) (d : Desk (List ℕ)) : Type 0 where
  pub links : Each (λ (v : World). link d v w ≡ []) site_worlds
  pub events : w ≡ Home → d.events ≡ []
  pub triggers : w ≡ Server → d.triggers ≡ []

-- a look of a site for which the session's desk has nothing
abbrev pub FindsNothing : Board (List ℕ) → ℕ → World → AskOf (List ℕ) → Type 0
FindsNothing b s w q = (q ≡ ask.Take) × HasNothing w (b.desks s)

-- the entry of what the session's site asked, with its reply
abbrev pub entry_for : ℕ → World → AskOf (List ℕ) → AnswerOf (List ℕ) → Entry
entry_for s w q r = entry_of (is_sealed s) (record { session = s; world = w; query = q; reply = r })

-- the reply and the board after it are the board's, and one entry is added; a look that finds nothing adds none
pub record IsAct (s : ℕ) (w : World) (q : AskOf (List ℕ)) (old new : SharedBoard) (r : AnswerOf (List ℕ)) : Type 0 where
  pub reply : r ≡ (answer_of (board_of old.board) s w q).reply
  pub board : board_of new.board ≡ (answer_of (board_of old.board) s w q).board
  pub entry : r ≢ answer.Nothing → new.entries ≡ old.entries ++ entry_for s w q r ∷ []
  pub nothing : r ≡ answer.Nothing → (new.entries ≡ old.entries) × (board_of new.board ≡ board_of old.board)
  pub when : (r ≡ answer.Nothing) ↔ FindsNothing (board_of old.board) s w q

-- how many entries are stops
abbrev pub stops_in : List Entry → ℕ
stops_in es = sum_by (λ (e : Entry). stop_count e.act) es

-- the history with these entries
abbrev pub history_of : List Entry → History
history_of es = record { entries = es; end = ending (stops_in es) }
