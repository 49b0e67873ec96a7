-- The text of an accepted expansion is accepted: the same tokens at other places are accepted alike.
use Rattle.std.proofs.Common.{◌≡◌, ◌≤◌, ◌∙◌, ◌++◌, ℕ, List, length, Result, Ok, Err, ap, refl, sym, subst}
use Rattle.std.specs.Prelude.{IsOkAnd}
use Rattle.m5_lex.specs.Tokens.{Listing}
use Rattle.m5_lex.specs.Lexed.{lexed, Fault}
use Rattle.m5_lex.specs.Shown.{shown, tokens_of, LexesBack}
use Rattle.m5_tree.specs.declared.tree.Tree.{Tree}
use Rattle.m5_raw.specs.RawTerm.{RawTerm}
use Rattle.m5_terms.specs.Outcome.{found}
use Rattle.m5_scope.specs.Program.{tree_resolved}
use Rattle.m5_typing.specs.Program.{ProgramTerm}
use Rattle.m5_front.specs.Reading.{AreAccepted}
use Rattle.m5_cli.specs.Due.{Due}
use Rattle.m5_cli.specs.Expanding.{Expands, from_divider}
use Rattle.m5_cli.specs.Input.{parts_of}
use Rattle.m5_cli.specs.Taken.{AcceptsAs, input_limit}
use Rattle.m5_cli.specs.declared.words.Job.TheVariants as job
use Rattle.m5_cli.specs.declared.status.Status.TheVariants as status
use Rattle.m5_cli.proofs.LikeReading.{same_tokens, none_deep_like, tree_like}
use Rattle.m5_cli.proofs.LikePrograms.{resolved_like, found_like, typed_like, resolved_raw}
use Rattle.m5_cli.proofs.ShownParts.{shown_part}

record ListingAs (b : Listing) (program : ProgramTerm) : Type 0 where
  tree : Tree
  raw : RawTerm
  accepted : AreAccepted b tree raw program

-- the same tokens at other places are accepted too, as the same program
accepted_like : (a b : Listing) (tree : Tree) (raw : RawTerm) (program : ProgramTerm) → tokens_of a.tokens ≡ tokens_of b.tokens → AreAccepted a tree raw program → ListingAs b program
accepted_like a b tree raw program h k =
    let g = same_tokens a.tokens b.tokens h in
    let t = tree_like a.tokens b.tokens tree g k.read.has_tree.program in
    let r = found_like raw (tree_resolved tree.names tree.program) (tree_resolved tree.names t.other.program) k.read.resolved (resolved_like tree.names tree.program t.other.program t.like) in
    record {
      tree = t.other;
      raw = r.other;
      accepted = record {
        read = record {
          has_tree = record { program = t.program; level = none_deep_like a.tokens b.tokens g k.read.has_tree.level };
          resolved = subst (λ ns. tree_resolved ns t.other.program ≡ found r.other) t.names r.is;
        };
        typed = typed_like raw r.other program (resolved_raw tree.names tree.program raw k.read.resolved) r.same k.typed;
      };
    }

lexed_accepted : (text : List ℕ) (o : Result Listing Fault) (a : Listing) (tree : Tree) (raw : RawTerm) (program : ProgramTerm) → lexed (parts_of text).program ≡ o
    → IsOkAnd o (λ l. tokens_of l.tokens ≡ tokens_of a.tokens) → AreAccepted a tree raw program → AcceptsAs text program
lexed_accepted text (Ok b) a tree raw program e h k =
    let x = accepted_like a b tree raw program (sym h) k in
    record { tree = x.tree; raw = x.raw; accepted = record { listing = b; tokens = e; accepted = x.accepted } }
lexed_accepted text (Err f) a tree raw program e h k = absurd h

-- an input whose program text lexes back to accepted tokens is accepted, as the same program
written_accepted : (text : List ℕ) (a : Listing) (tree : Tree) (raw : RawTerm) (program : ProgramTerm) → LexesBack (parts_of text).program (tokens_of a.tokens) → AreAccepted a tree raw program → AcceptsAs text program
written_accepted text a tree raw program h k = lexed_accepted text (lexed (parts_of text).program) a tree raw program refl h k

-- an accepted expansion is due, as a text that lexes back to it, with the rest of the input
pub expansion_due : (input text rest : List ℕ) (out : Listing) (tree : Tree) (raw : RawTerm) (program : ProgramTerm) → length input ≤ input_limit → Expands input out → AreAccepted out tree raw program
    → LexesBack (shown (tokens_of out.tokens)) (tokens_of out.tokens) → rest ≡ from_divider input → text ≡ shown (tokens_of out.tokens) ++ rest → Due status.Rest job.Expand input text
expansion_due input text rest out tree raw program short expands accepted lexes e t =
    let ts = tokens_of out.tokens in
    let written : text ≡ shown ts ++ from_divider input = t ∙ ap (λ r. shown ts ++ r) e in
    let part : shown ts ≡ (parts_of text).program = sym (ap (λ l. (parts_of l).program) written ∙ shown_part input ts lexes) in
    record {
      given = record { short = short; out = out; expands = expands; tree = tree; raw = raw; program = program; accepted = accepted };
      written = written;
      lexes = lexes;
      again = written_accepted text out tree raw program (subst (λ l. LexesBack l ts) part lexes) accepted;
    }
