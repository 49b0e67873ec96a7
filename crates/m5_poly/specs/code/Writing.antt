-- What is written from, and what the parts of writing add.
use Rattle.std.specs.Prelude.{ℕ, ◌==◌, ◌++◌, List, [], map, Option, Some, None, if◌then◌else◌}
use Rattle.m5_lex.specs.declared.place.Place.{Place}
use Rattle.m5_lex.specs.declared.token.Token.{Token}
use Rattle.m5_lex.specs.declared.token.Token.TheVariants.{Name}
use Rattle.m5_lex.specs.declared.tokens.Placed.{Placed}
use Rattle.m5_lex.specs.Tokens.{Listing}
use Rattle.m5_poly.specs.declared.write.Source.{Source as SourceOf}
use Rattle.m5_poly.specs.Roles.{token_of}
use Rattle.m5_poly.specs.Survey.{Generic}
use Rattle.m5_poly.specs.Uses.{Scope, Bracketed, arguments_of, key_of}
use Rattle.m5_poly.specs.Walk.{Made}
use Rattle.m5_poly.specs.Expansion.{Writing, instance_name, instance_written, number_of}

abbrev pub writing_of : SourceOf → Scope → Writing
writing_of source s = record { generics = source.text.now.generics; made = source.made.now; scope = s }

abbrev pub with_tokens : Listing → List Placed → Listing
with_tokens out tokens = record { tokens = out.tokens ++ tokens; ending = out.ending }

abbrev pub codes_at : Place → List ℕ → List Placed
codes_at at codes = map (λ c. record { token = token_of c; place = at }) codes

abbrev pub instance_token : List ℕ → ℕ → Token
instance_token name k = Name (instance_name name k)

abbrev pub use_number : List Made → Scope → Bracketed → ℕ → ℕ
use_number made s u i = number_of made i (key_of u.name (arguments_of s u.content))

abbrev pub one_written : List Generic → List Made → ℕ → Generic → Option Made → List Placed
one_written gs made n g None = []
one_written gs made n g (Some m) = if m.generic == n then instance_written gs made n g m else []
