-- The tokens of a text, with their places.
use Rattle.std.specs.Prelude.{◌≤◌, List, length, All}
use Rattle.m5_lex.specs.declared.place.Place.{Place}
use Rattle.m5_lex.specs.declared.tokens.Placed.{Placed}
use Rattle.m5_lex.specs.Token.{IsToken}

-- tokens in order, each with the place of its first byte, and the place after the last byte of the text
pub record Listing : Type 0 where
  pub tokens : List Placed
  pub ending : Place

-- each is a token that a text can have, and there are at most so many
pub record AreTokens (tokens : List Placed) : Type 0 where
  pub each : All (λ p. IsToken p.token) tokens
  pub few : length tokens ≤ 4294967295
