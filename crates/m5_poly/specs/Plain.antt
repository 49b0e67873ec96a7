-- Texts without generic declarations and uses.
use Rattle.std.specs.Prelude.{◌≡◌, ◌≤◌, ◌&&◌, Bool, true, false, not, List, [], ◌∷◌, length, None}
use Rattle.m5_lex.specs.declared.token.Token.{Token}
use Rattle.m5_lex.specs.declared.token.Token.TheVariants.{Name}
use Rattle.m5_lex.specs.declared.tokens.Placed.{Placed}
use Rattle.m5_poly.specs.Roles.{is_word, is_sign}
use Rattle.m5_poly.specs.Survey.{first_quoted}

-- `fun` or a name
abbrev pub takes_brackets : Token → Bool
takes_brackets (Name x) = true
takes_brackets token = is_word 2 token

-- no `[` stands directly behind `fun` or a name, one of which may stand before the tokens
abbrev pub unbracketed : Bool → List Placed → Bool
unbracketed before [] = true
unbracketed before (p ∷ ps) = not (before && is_sign 2 p.token) && unbracketed (takes_brackets p.token) ps

-- no list of variables and no arguments, no name with `''`, and no more tokens than are read
pub record IsPlain (tokens : List Placed) : Type 0 where
  pub brackets : unbracketed false tokens ≡ true
  pub names : first_quoted tokens ≡ None
  pub few : length tokens ≤ 4194304
