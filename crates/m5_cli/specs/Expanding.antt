-- The job `expand`: the inputs that it takes, what it writes of them, and how an input is refused.
use Rattle.std.specs.Prelude.{◌≡◌, ◌≢◌, ◌≤◌, ◌⊎◌, ℕ, List, [], ◌++◌, length, drop, Ok, Err, codes}
use Rattle.m5_lex.specs.declared.place.Place.{Place}
use Rattle.m5_lex.specs.Lexed.{lexed, bad_byte, bad_number}
use Rattle.m5_lex.specs.Shown.{shown, tokens_of, LexesBack}
use Rattle.m5_lex.specs.Tokens.{Listing}
use Rattle.m5_tree.specs.declared.tree.Tree.{Tree}
use Rattle.m5_raw.specs.RawTerm.{RawTerm}
use Rattle.m5_typing.specs.Program.{ProgramTerm}
use Rattle.m5_front.specs.Reading.{AreAccepted}
use Rattle.m5_front.specs.Refusal.{HaveFault}
use Rattle.m5_front.specs.declared.refusal.Fault.{Fault}
use Rattle.m5_front.specs.declared.refusal.Fault.TheVariants.{Byte, Number}
use Rattle.m5_front.specs.declared.refusal.Refusal.{Refusal}
use Rattle.m5_terms.specs.Outcome.{found, fault}
use Rattle.m5_poly.specs.Expansion.{expanded}
use Rattle.m5_poly.specs.declared.end.PolyEnd.{PolyEnd}
use Rattle.m5_poly.specs.declared.end.PolyEnd.TheVariants as end
use Rattle.m5_cli.specs.Input.{parts_of}
use Rattle.m5_cli.specs.Refusal.{place_words, refusal_line, status_of}
use Rattle.m5_cli.specs.Taken.{AcceptsAs, input_limit}
use Rattle.m5_cli.specs.declared.status.Status.{Status}
use Rattle.m5_cli.specs.declared.status.Status.TheVariants as status

-- a kind and a place
abbrev pub poly_line : List ℕ → Place → List ℕ
poly_line kind at = codes "refused " ++ kind ++ codes " " ++ place_words at ++ codes "\n"

-- the line of a refused expansion
abbrev pub end_line : PolyEnd → List ℕ
end_line end.Memory = []
end_line (end.Generic at) = poly_line (codes "Generic") at
end_line (end.Repeated at) = poly_line (codes "Repeated") at
end_line (end.Instance at) = poly_line (codes "Instance") at
end_line (end.Instances at) = poly_line (codes "Instances") at
end_line (end.Long at) = poly_line (codes "Long") at

-- an input from its dividing line on
abbrev pub from_divider : List ℕ → List ℕ
from_divider input = drop (length (parts_of input).program) input

-- the program text has tokens, and these have an expansion
pub record Expands (input : List ℕ) (out : Listing) : Type 0 where
  pub tokens : Listing
  pub lexed : lexed (parts_of input).program ≡ Ok tokens
  pub expansion : expanded tokens ≡ found out

-- moreover the input is short, and the expansion is accepted
pub record HasExpansion (input : List ℕ) : Type 0 where
  pub short : length input ≤ input_limit
  pub out : Listing
  pub expands : Expands input out
  pub tree : Tree
  pub raw : RawTerm
  pub program : ProgramTerm
  pub accepted : AreAccepted out tree raw program

-- the expansion as a text, which lexes back to its tokens, and then the input from its dividing line on; all that, its length
-- aside, is an input whose program text is accepted again, as the same program
pub record IsExpansion (input text : List ℕ) : Type 0 where
  pub given : HasExpansion input
  pub written : text ≡ shown (tokens_of given.out.tokens) ++ from_divider input
  pub lexes : LexesBack (shown (tokens_of given.out.tokens)) (tokens_of given.out.tokens)
  pub again : AcceptsAs text given.program

-- a bad byte or number, which is looked for in the program text before its expansion
abbrev pub IsLexical : List ℕ → Fault → Place → Type 0
IsLexical text Byte at = lexed text ≡ Err (bad_byte at)
IsLexical text Number at = lexed text ≡ Err (bad_number at)
IsLexical text _ at = ⊥

pub record IsLexicalRefusal (input text : List ℕ) : Type 0 where
  pub refusal : Refusal
  pub cause : IsLexical (parts_of input).program refusal.fault refusal.place
  pub line : text ≡ refusal_line refusal

-- the expansion itself is refused
pub record IsPolyRefusal (input text : List ℕ) : Type 0 where
  pub tokens : Listing
  pub lexed : lexed (parts_of input).program ≡ Ok tokens
  pub why : PolyEnd
  pub some : why ≢ end.Memory
  pub refused : expanded tokens ≡ fault why
  pub line : text ≡ end_line why

-- there is an expansion, with a fault whose status this is, at the place of one of its own tokens; so it is not accepted
pub record IsExpandedRefusal (meant : Status) (input text : List ℕ) : Type 0 where
  pub out : Listing
  pub expands : Expands input out
  pub refusal : Refusal
  pub cause : HaveFault out refusal.fault refusal.place
  pub not_accepted : (tree : Tree) (raw : RawTerm) (program : ProgramTerm) → AreAccepted out tree raw program → ⊥
  pub status : status_of refusal.fault ≡ meant
  pub line : text ≡ refusal_line refusal

-- bad bytes and numbers, and the grammar of the expansion
abbrev pub IsBadText : List ℕ → List ℕ → Type 0
IsBadText input text = IsLexicalRefusal input text ⊎ IsExpandedRefusal status.BadText input text

-- what is refused of declarations and uses, and the names and types of the expansion
abbrev pub IsBadTypes : List ℕ → List ℕ → Type 0
IsBadTypes input text = IsPolyRefusal input text ⊎ IsExpandedRefusal status.BadTypes input text
