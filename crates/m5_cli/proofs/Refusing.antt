-- What is due for refusals.
use Rattle.std.proofs.Common.{◌≡◌, ◌∙◌, ℕ, List, inl, inr, refl, ap, sym, subst}
use Rattle.m5_lex.specs.declared.place.Place.{Place}
use Rattle.m5_lex.specs.Lexed.{Ends, lexed}
use Rattle.m5_lex.specs.Tokens.{Listing}
use Rattle.m5_lex.specs.declared.lexed.LexEnd.{LexEnd}
use Rattle.m5_lex.specs.declared.lexed.LexEnd.TheVariants as ends
use Rattle.m5_tree.specs.declared.tree.Tree.{Tree}
use Rattle.m5_raw.specs.RawTerm.{RawTerm}
use Rattle.m5_typing.specs.Program.{ProgramTerm}
use Rattle.m5_front.specs.Reading.{AreAccepted}
use Rattle.m5_front.specs.Refusal.{HaveFault}
use Rattle.m5_front.specs.declared.refusal.Fault.{Fault}
use Rattle.m5_front.specs.declared.refusal.Fault.TheVariants as fault_of
use Rattle.m5_cli.specs.Cases.{IsRefusal}
use Rattle.m5_cli.specs.Due.{Due, ReadsProgram}
use Rattle.m5_cli.specs.Expanding.{Expands}
use Rattle.m5_cli.specs.Input.{parts_of}
use Rattle.m5_cli.specs.Refusal.{refusal_line, status_of}
use Rattle.m5_cli.specs.declared.words.Job.{Job}
use Rattle.m5_cli.specs.declared.words.Job.TheVariants as job
use Rattle.m5_cli.specs.declared.status.Status.TheVariants as status

text_due : (j : Job) (input text : List ℕ) → ReadsProgram j → IsRefusal status.BadText input text → Due status.BadText j input text
text_due job.Check input text r h = h
text_due job.Run input text r h = h
text_due job.Ref input text r h = h
text_due job.Expand input text r h = absurd r
text_due job.Replay input text r h = h

types_due : (j : Job) (input text : List ℕ) → ReadsProgram j → IsRefusal status.BadTypes input text → Due status.BadTypes j input text
types_due job.Check input text r h = h
types_due job.Run input text r h = h
types_due job.Ref input text r h = h
types_due job.Expand input text r h = absurd r
types_due job.Replay input text r h = h

-- a refusal of the program text is due for each job that reads it
pub refused_due : (j : Job) (input text : List ℕ) (f : Fault) → ReadsProgram j → IsRefusal (status_of f) input text → Due (status_of f) j input text
refused_due j input text fault_of.Byte r h = text_due j input text r h
refused_due j input text fault_of.Number r h = text_due j input text r h
refused_due j input text fault_of.Syntax r h = text_due j input text r h
refused_due j input text fault_of.Deep r h = text_due j input text r h
refused_due j input text fault_of.TooMany r h = types_due j input text r h
refused_due j input text fault_of.Unbound r h = types_due j input text r h
refused_due j input text fault_of.Repeated r h = types_due j input text r h
refused_due j input text fault_of.BadExtern r h = types_due j input text r h
refused_due j input text (fault_of.Types k) r h = types_due j input text r h

-- a refusal of the expansion is due for `expand`
pub expanded_due : (input text : List ℕ) (out : Listing) (f : Fault) (at : Place) → Expands input out → HaveFault out f at
    → ((tree : Tree) (raw : RawTerm) (program : ProgramTerm) → AreAccepted out tree raw program → ⊥)
    → text ≡ refusal_line (record { fault = f; place = at }) → Due (status_of f) job.Expand input text
expanded_due input text out fault_of.Byte at e h n line = absurd h
expanded_due input text out fault_of.Number at e h n line = absurd h
expanded_due input text out fault_of.Syntax at e h n line = inr (record { out = out; expands = e; refusal = record { fault = fault_of.Syntax; place = at }; cause = h; not_accepted = n; status = refl; line = line })
expanded_due input text out fault_of.Deep at e h n line = inr (record { out = out; expands = e; refusal = record { fault = fault_of.Deep; place = at }; cause = h; not_accepted = n; status = refl; line = line })
expanded_due input text out fault_of.TooMany at e h n line = inr (record { out = out; expands = e; refusal = record { fault = fault_of.TooMany; place = at }; cause = h; not_accepted = n; status = refl; line = line })
expanded_due input text out fault_of.Unbound at e h n line = inr (record { out = out; expands = e; refusal = record { fault = fault_of.Unbound; place = at }; cause = h; not_accepted = n; status = refl; line = line })
expanded_due input text out fault_of.Repeated at e h n line = inr (record { out = out; expands = e; refusal = record { fault = fault_of.Repeated; place = at }; cause = h; not_accepted = n; status = refl; line = line })
expanded_due input text out fault_of.BadExtern at e h n line = inr (record { out = out; expands = e; refusal = record { fault = fault_of.BadExtern; place = at }; cause = h; not_accepted = n; status = refl; line = line })
expanded_due input text out (fault_of.Types k) at e h n line = inr (record { out = out; expands = e; refusal = record { fault = fault_of.Types k; place = at }; cause = h; not_accepted = n; status = refl; line = line })

-- a bad byte or number of the program text is due for `expand`
pub byte_due : (input text program : List ℕ) (e : LexEnd) (at : Place) → program ≡ (parts_of input).program → e ≡ ends.BadByte at → Ends e (lexed program)
    → text ≡ refusal_line (record { fault = fault_of.Byte; place = at }) → Due status.BadText job.Expand input text
byte_due input text program e at p q h line =
    let Found : LexEnd → Type 0 = λ x. Ends x (lexed program) in
    inl (record { refusal = record { fault = fault_of.Byte; place = at }; cause = ap lexed (sym p) ∙ subst Found q h; line = line })

pub number_due : (input text program : List ℕ) (e : LexEnd) (at : Place) → program ≡ (parts_of input).program → e ≡ ends.BadNumber at → Ends e (lexed program)
    → text ≡ refusal_line (record { fault = fault_of.Number; place = at }) → Due status.BadText job.Expand input text
number_due input text program e at p q h line =
    let Found : LexEnd → Type 0 = λ x. Ends x (lexed program) in
    inl (record { refusal = record { fault = fault_of.Number; place = at }; cause = ap lexed (sym p) ∙ subst Found q h; line = line })
