-- The type ids of a message, where they stand in its bytes.
use Rattle.std.specs.Prelude.{ℕ, List, [], ◌∷◌}
use Rattle.std.specs.Int.{w32, from_be_bytes}

-- the numbers that bytes spell, four for each
unfoldable pub words : List ℕ → List ℕ
words [] = []
words (a ∷ []) = []
words (a ∷ b ∷ []) = []
words (a ∷ b ∷ c ∷ []) = []
words (a ∷ b ∷ c ∷ e ∷ rest) = from_be_bytes w32 (a ∷ b ∷ c ∷ e ∷ []) ∷ words rest
